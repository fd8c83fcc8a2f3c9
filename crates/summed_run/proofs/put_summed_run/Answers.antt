-- `summed_run::put_summed_run` meets its contract. The invariant: the sums of the first `j` columns are put, up to `place`.
use Prim.Native.Nat.{◌<◌}
use native.Mathlib.Omega.{arith}
use lib.ListN.{get_or}
use Rattle.finite.specs.Lists.{AllBelow}
use Rattle.sum_tables.proofs.Tables.{summable}
use Rattle.sum_bytes.specs.Summing.{summed_cells, summed_run}
use Rattle.sum_bytes.proofs.Pieces.{pieces_none, below_room, below_next, below_all}
use Rattle.sum_bytes.proofs.Sums.{row_length, row_part, cells_length}
use Rattle.summed_run.proofs.put_summed_run.Goals as goal

pub loop-j-init : goal.loop-j-init
loop-j-init c = pieces_none _ _ _ _ (omega arith)

pub bounds-widths-s : goal.bounds-widths-s
unfolding AllBelow
bounds-widths-s c =
    let level_below : (get_or c.args.levels.now c.loop-j.j 0) < 65 =
    c.requires.run_stands.few c.loop-j.j c.loop-j-test.true
    in
    omega (arith, level_below, c.requires.row_stands.widths_full)

pub bounds-entries-s : goal.bounds-entries-s
unfolding AllBelow
bounds-entries-s c =
    let level_below : (get_or c.args.levels.now c.loop-j.j 0) < 65 =
    c.requires.run_stands.few c.loop-j.j c.loop-j-test.true
    in
    omega (arith, level_below, c.requires.row_stands.entries_full)

pub put_sums-place-requires : goal.put_sums-place-requires
unfolding summed_run
put_sums-place-requires c =
    let stands = c.requires.row_stands in
    let level = get_or c.args.levels.now c.loop-j.j 0 in
    let room = below_room c.loop-j.invariant c.loop-j-test.true c.requires.cells_in_bounds in
    rw row_part (
    record {
      row_in_bounds = rw cells_length at room;
      level_lt_p = (c.requires.run_stands.in_range _ c.loop-j-test.true, stands.below level);
      summable = rw (row_length stands _) (summable c.requires.field_tables level);
    }
    )

pub loop-j-preserved : goal.loop-j-preserved
unfolding summed_cells
loop-j-preserved c =
    below_next c.loop-j.invariant c.loop-j-test.true (rw row_part at c.put_sums-place.ensures)

pub returns : goal.returns
unfolding summed_run
returns c = below_all c.loop-j.invariant c.loop-j-test.false
