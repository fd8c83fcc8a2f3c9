-- `level_lines::put_count_line` meets its contract: four blanks, the level counts and the end of the line.
use native.Mathlib.Omega.{arith}
use Rattle.line_parts.proofs.Lines.{blanks_end, four_blanks, numbers_room, end_room, line_put}
use Rattle.level_lines.proofs.put_count_line.Goals as goal

pub put_all_in_three-after_counts-requires : goal.put_all_in_three-after_counts-requires
put_all_in_three-after_counts-requires c =
    let put = c.put_blanks-after_blanks.ensures in
    numbers_room (four_blanks put) (blanks_end (omega arith) put) c.requires.1 _ c.requires.0

pub close_line-requires : goal.close_line-requires
close_line-requires c =
    let put = c.put_blanks-after_blanks.ensures in
    end_room (four_blanks put) (blanks_end (omega arith) put) c.requires.1 c.put_all_in_three-after_counts.ensures c.requires.0

pub returns : goal.returns
returns c =
    let put = c.put_blanks-after_blanks.ensures in
    line_put (four_blanks put) (blanks_end (omega arith) put) c.requires.1 c.put_all_in_three-after_counts.ensures c.close_line.ensures
