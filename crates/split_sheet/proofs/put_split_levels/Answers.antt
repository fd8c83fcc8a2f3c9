-- `split_sheet::put_split_levels` meets its contract: three pieces, one after the other.
use Prim.Native.Nat.{◌+◌}
use Rattle.buffers.proofs.Puts.{put_join}
use Rattle.split_sheet.specs.Splitting.{give_way}
use Rattle.split_sheet.proofs.Bytes.{part_rest}
use Rattle.split_sheet.proofs.put_split_levels.Goals as goal

pub returns : goal.returns
unfolding give_way
returns c =
    put_join (put_join c.put_bytes-place.ensures c.put_level_counts-place.ensures)
    (rw (part_rest (c.args.c + 1) c.args.levels.now) at c.put_bytes.ensures)
