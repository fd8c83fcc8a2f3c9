-- `page_lines::put_number_line` meets its contract: the page's number, the columns' and the end of the line.
use Prim.Native.Nat.{◌-◌, ◌≤◌}
use native.Mathlib.Omega.{arith}
use Rattle.line_parts.proofs.Lines.{columns_many, four_wide, numbers_room, end_room, line_put}
use Rattle.page_lines.proofs.put_number_line.Goals as goal

pub put_column_numbers-after_columns-requires : goal.put_column_numbers-after_columns-requires
put_column_numbers-after_columns-requires c =
    let put = c.put_in_four-after_number.ensures in
    let few : c.args.end - c.args.first ≤ 25 = omega (arith, c.requires.2) in
    (c.requires.1, c.requires.3, numbers_room put (four_wide _ c.requires.0 put) c.requires.4 _ few)

pub close_line-requires : goal.close_line-requires
close_line-requires c =
    let put = c.put_in_four-after_number.ensures in
    end_room put (four_wide _ c.requires.0 put) c.requires.4 c.put_column_numbers-after_columns.ensures
    (omega (arith, columns_many c.args.first (c.args.end - c.args.first), c.requires.2))

pub returns : goal.returns
returns c =
    let put = c.put_in_four-after_number.ensures in
    line_put put (four_wide _ c.requires.0 put) c.requires.4 c.put_column_numbers-after_columns.ensures c.close_line.ensures
