-- `list_verdicts::copy_part` meets its contract: the part that is lent has as many numbers as are asked for.
-- Assumes nothing.
use mathlib.Core.Path.{◌≡◌, ◌∙◌}
use Prim.Native.Nat.{◌+◌, ◌-◌}
use native.Mathlib.Nat.{zero-add}
use native.Mathlib.Omega.{arith}
use Rattle.ingredients.proofs.Parts.{part_length}
use Rattle.list_verdicts.proofs.copy_part.Goals as goal

pub put_numbers-requires : goal.put_numbers-requires
put_numbers-requires c =
    let count_is : (c.args.at + c.args.count) - c.args.at ≡ c.args.count = omega arith in
    let a = c.args in
    rw count_is
    (record { numbers_in_bounds = rw (zero-add, part_length a.list.now a.at a.count c.requires.within) c.requires.room; bytes = c.requires.small })

pub returns : goal.returns
returns c =
    let count_is : (c.args.at + c.args.count) - c.args.at ≡ c.args.count = omega arith in
    let put = rw count_is at c.put_numbers.ensures in
    let end = put.ends ∙ zero-add _ ∙ part_length c.args.list.now c.args.at c.args.count c.requires.within in
    rw end at put
