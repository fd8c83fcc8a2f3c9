-- Horner's rule over the columns of a factor.
-- Assumes nothing.
use mathlib.Core.Path.{◌≡◌}
use mathlib.Core.List.{List, [], ◌∷◌, ◌++◌}
use Prim.Native.Nat.{ℕ, ◌+◌, ◌*◌}
use native.Mathlib.Nat.{add-zero, zero-mul, zero-add, add_assoc, mul_assoc, mul-one, add-mul, pow-zero, pow-suc}
use native.Mathlib.Numerals.{add-one}
use lib.ListN.{length-append}
use Rattle.finite.specs.Digits.{numeral}
use Rattle.finite.specs.Lists.{from}
use Rattle.galois.specs.Combination.{combination}
use Rattle.counting.specs.Generator.{Generator}
use Rattle.step_tables.specs.Field.{column_elements, values}
use Rattle.step_tables.proofs.FieldCount.{values_append}
use Rattle.layout.proofs.Bytes.{from_next}

numeral_next : (s : ℕ) (xs : List ℕ) (x : ℕ) → numeral s (xs ++ x ∷ []) ≡ numeral s xs * s + x
unfolding numeral
numeral_next s [] x = rw (pow-zero, mul-one, add-zero, zero-mul, zero-add)
numeral_next s (y ∷ xs) x =
    rw (numeral_next s xs x, length-append xs (x ∷ []), add-one, pow-suc, ← mul_assoc, ← add_assoc, add-mul)

pub level_next : (plus times : ℕ → ℕ → ℕ) (G : Generator) (tuple : List ℕ) (s column i : ℕ)
    → numeral s (values plus times G tuple (from column (i + 1)))
    ≡ numeral s (values plus times G tuple (from column i)) * s + combination plus times tuple (column_elements G (column + i))
unfolding values
level_next plus times G tuple s column i =
    rw (from_next, values_append plus times G tuple (from column i) ((column + i) ∷ [])) (numeral_next s _ _)
