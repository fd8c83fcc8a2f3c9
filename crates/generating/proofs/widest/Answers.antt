-- `widest` meets its contract. The invariant: no factor so far has more columns, and so many make at most 64 levels.
-- Assumes nothing.
use mathlib.Core.Path.{◌≡◌}
use Prim.Native.Nat.{max}
use native.Mathlib.Omega.{arith}
use Rattle.std.proofs.lemmas.Bool.Decides.{nat_tests}
use Rattle.generated_runs.specs.LevelSums.{WidthsTo}
use Rattle.generated_runs.proofs.FieldPlaces.{slice_at, slice_inside, slice_many}
use Rattle.generated_runs.proofs.FieldSheet.{width_at, width_power}
use Rattle.generating.proofs.FieldWidths.{widths_more, power_larger}
use Rattle.generating.proofs.widest.Goals as goal

pub loop-width-preserved : goal.loop-width-preserved
loop-width-preserved c =
    let g = c.args.g in
    let l = c.loop-width in
    let taken = slice_inside c.args.list.now g.widths_at g.n c.loop-width-test.true in
    let width_is = slice_at c.args.list.now g.widths_at g.n l.width-index taken in
    let larger : c.max-most.result ≡ max l.most (width_at c.args.list.now g l.width-index) =
    rw (c.max-most.ensures, width_is) (grind (arith, nat_tests))
    in (
      rw larger (widths_more (width_at c.args.list.now g) l.invariant.0),
      rw larger (power_larger _ _ _ l.invariant.1 (width_power c.requires l.width-index taken)),
    )

pub returns : goal.returns
unfolding WidthsTo
returns c =
    let g = c.args.g in
    let l = c.loop-width in
    let many = slice_many c.args.list.now g.widths_at g.n c.requires.widths_there in
    (λ i h. l.invariant.0 i (omega (arith, h, many, c.loop-width-test.false)), l.invariant.1)
