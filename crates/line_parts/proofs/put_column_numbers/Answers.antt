-- `line_parts::put_column_numbers` meets its contract. The invariant: the columns before `column` are put, up to `place`.
use mathlib.Core.Path.{◌≡◌}
use native.Mathlib.Omega.{arith}
use Rattle.line_parts.proofs.Lines.{columns_none, columns_next, columns_room}
use Rattle.line_parts.proofs.put_column_numbers.Goals as goal

pub loop-column-init : goal.loop-column-init
loop-column-init c = columns_none _ (omega arith)

pub put_in_three-place-requires : goal.put_in_three-place-requires
put_in_three-place-requires c =
    (omega (arith, c.requires.1), columns_room _ _ _ c.loop-column.auto.column c.loop-column-test.true c.loop-column.invariant c.requires.2)

pub loop-column-preserved : goal.loop-column-preserved
loop-column-preserved c =
    columns_next _ _ c.loop-column.auto.column (omega (arith, c.requires.1)) c.loop-column.invariant c.put_in_three-place.ensures

pub returns : goal.returns
returns c =
    let all : c.loop-column.column ≡ c.args.end = omega (arith, c.loop-column.auto.column-end c.requires.0) in rw (← all) c.loop-column.invariant
