-- `crossed_sheet::put_crossed_levels` meets its contract: the sheet's level counts, and then h's.
use Rattle.buffers.proofs.Puts.{put_join}
use Rattle.crossed_sheet.proofs.put_crossed_levels.Goals as goal

pub returns : goal.returns
returns c = put_join c.put_bytes-place.ensures c.put_level_counts.ensures
