-- `field_tables` meets its contract. The invariant: the sums of the fields before the one in hand are there.
-- Assumes nothing.
use Rattle.sum_tables.specs.Tables.{FieldTables}
use Rattle.sum_tables.proofs.field_tables.Given as goal

abbrev pub invariant-loop-s : goal.invariant-loop-s
invariant-loop-s l = FieldTables l.widths l.s l.sums
