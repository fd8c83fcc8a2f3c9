-- `split_sheet::put_split_run` meets its contract: three pieces, one after the other.
use Prim.Native.Nat.{◌+◌, ◌≤◌}
use native.Mathlib.Omega.{arith}
use lib.ListN.{length, get_or, length-drop}
use lib.Seq.{length-take-le}
use Rattle.buffers.proofs.Puts.{put_join, put_length}
use Rattle.ingredients.specs.Named.{table_in}
use Rattle.split_sheet.specs.Splitting.{give_way, split_run}
use Rattle.layout.proofs.Bytes.{run_length}
use Rattle.split_sheet.proofs.Bytes.{part_rest}
use Rattle.split_sheet.proofs.put_split_run.Goals as goal

pub returns : goal.returns
unfolding split_run give_way
returns c =
    put_join (put_join c.put_bytes-place.ensures c.put_run-place.ensures)
    (rw (part_rest (c.args.c + 1) c.args.run.now) at c.put_bytes.ensures)

pub put_bytes-requires : goal.put_bytes-requires
put_bytes-requires c =
    let first = c.put_bytes-place.ensures in
    let second = c.put_run-place.ensures in
    let row = run_length (table_in c.args.list.now c.args.named) (get_or c.args.run.now c.args.c 0) in
    let within : c.args.c ≤ length c.args.run.now = omega (arith, c.requires.c_in_bounds.0) in
    rw (part_rest (c.args.c + 1) c.args.run.now, length-drop)
    (omega (arith, length-take-le _ _ within, c.requires.c_in_bounds.0, c.requires.named_in_bounds, put_length first, first.ends, put_length second, second.ends, row))
