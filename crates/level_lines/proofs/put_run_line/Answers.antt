-- `level_lines::put_run_line` meets its contract: the run's number, its levels and the end of the line.
use Rattle.line_parts.proofs.Lines.{four_wide, numbers_room, end_room, line_put}
use Rattle.level_lines.proofs.put_run_line.Goals as goal

pub put_all_in_three-after_levels-requires : goal.put_all_in_three-after_levels-requires
put_all_in_three-after_levels-requires c =
    let put = c.put_in_four-after_number.ensures in
    numbers_room put (four_wide _ c.requires.0 put) c.requires.2 _ c.requires.1

pub close_line-requires : goal.close_line-requires
close_line-requires c =
    let put = c.put_in_four-after_number.ensures in
    end_room put (four_wide _ c.requires.0 put) c.requires.2 c.put_all_in_three-after_levels.ensures c.requires.1

pub returns : goal.returns
returns c =
    let put = c.put_in_four-after_number.ensures in
    line_put put (four_wide _ c.requires.0 put) c.requires.2 c.put_all_in_three-after_levels.ensures c.close_line.ensures
