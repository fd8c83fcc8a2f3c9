-- `put_levels` meets its contract. The invariant: the level counts of the first factors are put.
-- Assumes nothing.
use mathlib.Core.Path.{◌≡◌, sym, ◌∙◌, ap}
use Prim.Native.Nat.{ℕ, ◌^◌, ◌≤◌}
use native.Mathlib.Omega.{arith}
use lib.ListN.{get_or}
use Rattle.galois.proofs.Fields.{size_positive}
use Rattle.buffers.proofs.Puts.{put_next}
use Rattle.layout.proofs.Rows.{put_all}
use Rattle.generated_runs.proofs.FieldPlaces.{slice_at, slice_inside, slice_many}
use Rattle.generated_runs.proofs.FieldSheet.{sheet_of, sheet_columns, sheet_level, width_power}
use Rattle.generating.proofs.put_levels.Goals as goal

pub power-requires : goal.power-requires
power-requires c =
    let g = c.args.g in
    let k = c.requires.field_stands in
    let taken = slice_inside c.args.list.now g.widths_at g.n c.loop-width-test.true in
    rw (slice_at c.args.list.now g.widths_at g.n c.loop-width.width-index taken)
    (size_positive _ k.size, omega (arith, width_power k _ taken))

pub overflow_cast-power : goal.overflow_cast-power
overflow_cast-power c =
    let g = c.args.g in
    let taken = slice_inside c.args.list.now g.widths_at g.n c.loop-width-test.true in
    rw (c.power.ensures, slice_at c.args.list.now g.widths_at g.n c.loop-width.width-index taken)
    (omega (arith, width_power c.requires.field_stands _ taken))

pub loop-width-preserved : goal.loop-width-preserved
loop-width-preserved c =
    let g = c.args.g in
    let k = c.requires.field_stands in
    let i = c.loop-width.width-index in
    let taken = slice_inside c.args.list.now g.widths_at g.n c.loop-width-test.true in
    let level_is : get_or (sheet_of c.args.list.now g).levels i 0 ≡ c.power.result =
    sheet_level k i taken ∙ sym (c.power.ensures ∙ ap (λ (u : ℕ). g.s ^ u) (slice_at c.args.list.now g.widths_at g.n i taken))
    in
    put_next _ i (rw (sheet_columns k) taken) c.loop-width.invariant (rw (← level_is) at c.put_byte-place.ensures)

pub returns : goal.returns
returns c =
    let g = c.args.g in
    let k = c.requires.field_stands in
    let all : g.n ≤ c.loop-width.width-index =
    omega (arith, slice_many c.args.list.now g.widths_at g.n k.widths_there, c.loop-width-test.false)
    in
    put_all c.loop-width.width-index c.loop-width.invariant (rw (sheet_columns k) all)
