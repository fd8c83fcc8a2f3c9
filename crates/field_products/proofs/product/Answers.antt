-- `field_products::product` meets its contract: antt computes that each table is the arithmetic's, and one law reads it at two elements.
-- Assumes nothing.
use mathlib.Core.Path.{refl}
use native.Mathlib.Omega.{arith}
use Rattle.galois.specs.Arithmetic.{field_product}
use Rattle.galois.proofs.Tables.{entry, nine}
use Rattle.field_products.proofs.product.Goals as goal

pub bounds-i-in_default : goal.bounds-i-in_default
unfolding field_product
bounds-i-in_default c = omega (arith, nine c.args.s c.requires.size c.in_default.in_default-own.rest)

pub bounds-j-in_default : goal.bounds-j-in_default
unfolding field_product
bounds-j-in_default c = omega (arith, nine c.args.s c.requires.size c.in_default.in_default-own.rest)

pub returns-in-2 : goal.returns-in-2
unfolding field_product
returns-in-2 c = entry 2 field_product refl (omega arith) c.requires

pub returns-in-3 : goal.returns-in-3
unfolding field_product
returns-in-3 c = entry 3 field_product refl (omega arith) c.requires

pub returns-in-4 : goal.returns-in-4
unfolding field_product
returns-in-4 c = entry 4 field_product refl (omega arith) c.requires

pub returns-in-5 : goal.returns-in-5
unfolding field_product
returns-in-5 c = entry 5 field_product refl (omega arith) c.requires

pub returns-in-7 : goal.returns-in-7
unfolding field_product
returns-in-7 c = entry 7 field_product refl (omega arith) c.requires

pub returns-in-8 : goal.returns-in-8
unfolding field_product
returns-in-8 c = entry 8 field_product refl (omega arith) c.requires

pub returns-in_default : goal.returns-in_default
unfolding field_product
returns-in_default c = entry 9 field_product refl (nine c.args.s c.requires.size c.in_default.in_default-own.rest) c.requires
