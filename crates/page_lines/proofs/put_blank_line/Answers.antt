-- `page_lines::put_blank_line` meets its contract: a line with nothing before the blanks.
use native.Mathlib.Omega.{arith}
use Rattle.buffers.proofs.Puts.{put_none}
use Rattle.line_parts.proofs.Lines.{closed_put}
use Rattle.page_lines.proofs.put_blank_line.Goals as goal

pub close_line-requires : goal.close_line-requires
close_line-requires c = (omega arith, omega arith)

pub returns : goal.returns
returns c = closed_put _ (put_none _ _ (omega arith)) c.close_line.ensures
