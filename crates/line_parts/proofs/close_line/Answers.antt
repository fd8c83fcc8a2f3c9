-- `line_parts::close_line` meets its contract: the blanks and then the line feed.
use native.Mathlib.Omega.{arith}
use Rattle.buffers.proofs.Puts.{put_join}
use Rattle.line_parts.proofs.Lines.{blanks_end}
use Rattle.line_parts.proofs.close_line.Goals as goal

pub put_byte-requires : goal.put_byte-requires
put_byte-requires c =
    omega (arith, blanks_end c.requires.0 c.put_blanks-after_blanks.ensures, c.requires.1)

pub returns : goal.returns
returns c = put_join c.put_blanks-after_blanks.ensures c.put_byte.ensures
