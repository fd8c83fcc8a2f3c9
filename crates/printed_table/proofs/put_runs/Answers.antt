-- `printed_table::put_runs` meets its contract. The invariant: the first `i` runs are put, up to `place`.
use Rattle.buffers.specs.Put.{Bytes}
use Rattle.printed_table.proofs.Tables.{run_room, run_next}
use Rattle.printed_table.proofs.put_runs.Goals as goal

pub put_row-place-requires : goal.put_row-place-requires
unfolding Bytes
put_row-place-requires c =
    let bytes : Bytes c.args.cells.now = λ k h. (c.type_inv.cells k).fits in
    run_room c.loop-i.invariant c.loop-i-test.true bytes c.requires.columns_in_bounds

pub loop-i-preserved : goal.loop-i-preserved
loop-i-preserved c = run_next c.loop-i.invariant c.put_row-place.ensures
