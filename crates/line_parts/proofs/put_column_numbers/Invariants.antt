-- `line_parts::put_column_numbers` meets its contract. The invariant: the columns before `column` are put, up to `place`.
use mathlib.Core.List.{map}
use Prim.Native.Nat.{suc, ◌-◌}
use Rattle.finite.specs.Lists.{from}
use Rattle.line_parts.specs.Three.{PutThree}
use Rattle.line_parts.proofs.put_column_numbers.Given as goal

abbrev pub invariant-loop-column : goal.invariant-loop-column
invariant-loop-column l = PutThree (map suc (from l.first (l.column - l.first))) l.initial.buf l.at l.buf l.place
