-- `rows::put_row` meets its contract: the first number, where there is one, and the end of the line.
use native.Mathlib.Omega.{arith}
use Rattle.rows.proofs.Rows.{row_none, row_some, rest_length}
use Rattle.decimals.proofs.Decimals.{decimal_byte}
use Rattle.rows.proofs.put_row.Goals as goal

pub returns-then-cells-eq0 : goal.returns-then-cells-eq0
returns-then-cells-eq0 c = row_none _ c.if-cells-eq0.true c.put_byte.ensures

pub put_number-after_first-requires : goal.put_number-after_first-requires
put_number-after_first-requires c = omega (arith, decimal_byte _ (c.type_inv.cells 0).fits)

pub end_with_cells-requires : goal.end_with_cells-requires
end_with_cells-requires c =
    omega (arith, decimal_byte _ (c.type_inv.cells 0).fits, rest_length c.args.cells.now)

pub returns : goal.returns
returns c = row_some _ c.if-cells-eq0.false c.put_number-after_first.ensures c.end_with_cells.ensures
