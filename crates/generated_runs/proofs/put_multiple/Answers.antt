-- `put_multiple` meets its contract. The invariant: the levels of the first factors are put, and the next factor's columns start at `column`.
-- Assumes nothing.
use mathlib.Core.Path.{refl, sym}
use Prim.Native.Nat.{◌≤◌}
use native.Mathlib.Omega.{arith}
use Rattle.finite.specs.Sum.{sum}
use Rattle.buffers.proofs.Puts.{put_none}
use Rattle.layout.proofs.Bytes.{run_length}
use Rattle.layout.proofs.Rows.{put_level, put_all}
use Rattle.generated_runs.proofs.FieldPlaces.{slice_at, slice_inside, slice_many}
use Rattle.generated_runs.proofs.FieldSheet.{sheet_columns, columns_next, factor_columns_lem, sheet_cell}
use Rattle.generated_runs.proofs.put_multiple.Goals as goal

pub loop-width-init : goal.loop-width-init
unfolding sum
loop-width-init c = (refl, put_none _ _ (omega arith))

pub multiple_level-level-requires-clause-columns_in : goal.multiple_level-level-requires-clause-columns_in
multiple_level-level-requires-clause-columns_in c =
    let g = c.args.g in
    let taken = slice_inside c.args.list.now g.widths_at g.n c.loop-width-test.true in
    rw (c.loop-width.invariant.0, slice_at c.args.list.now g.widths_at g.n c.loop-width.width-index taken)
    (factor_columns_lem c.requires.field_stands _ taken)

pub overflow_add-column : goal.overflow_add-column
overflow_add-column c =
    let g = c.args.g in
    let l = c.loop-width in
    let taken = slice_inside c.args.list.now g.widths_at g.n c.loop-width-test.true in
    rw (l.invariant.0, slice_at c.args.list.now g.widths_at g.n l.width-index taken)
    (omega (arith, (factor_columns_lem c.requires.field_stands l.width-index taken).within))

pub loop-width-preserved : goal.loop-width-preserved
loop-width-preserved c =
    let g = c.args.g in
    let k = c.requires.field_stands in
    let l = c.loop-width in
    let taken = slice_inside c.args.list.now g.widths_at g.n c.loop-width-test.true in
    let width_is = slice_at c.args.list.now g.widths_at g.n l.width-index taken in (
      rw (l.invariant.0, width_is) (sym (columns_next k l.width-index taken)),
      put_level _ _ l.width-index (rw (sheet_columns k) taken)
          (rw (c.multiple_level-level.ensures, l.invariant.0, width_is) (sheet_cell k _ l.width-index taken)) l.invariant.1
          c.put_byte-place.ensures,
    )

pub returns : goal.returns
returns c =
    let g = c.args.g in
    let k = c.requires.field_stands in
    let all : g.n ≤ c.loop-width.width-index = omega (arith, slice_many c.args.list.now g.widths_at g.n k.widths_there, c.loop-width-test.false) in
    put_all c.loop-width.width-index c.loop-width.invariant.1 (rw (run_length, sheet_columns k) all)
