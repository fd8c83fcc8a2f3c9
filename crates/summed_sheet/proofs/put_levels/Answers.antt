-- `summed_sheet::put_levels` meets its contract: the summed columns' level counts, and then the adjoined columns'.
use Rattle.buffers.proofs.Puts.{put_join}
use Rattle.summed_sheet.proofs.put_levels.Goals as goal

pub returns : goal.returns
returns c = put_join c.put_summed_levels-place.ensures c.put_level_counts.ensures
