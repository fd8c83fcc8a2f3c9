-- `sum_operands::is_missing` meets its contract: each arm is a clause of `is_missing`.
use mathlib.Core.Path.{sym, ap}
use Rattle.sum_bytes.specs.Summing.{is_missing}
use Rattle.sum_operands.proofs.is_missing.Goals as goal

pub returns-in-Own : goal.returns-in-Own
unfolding is_missing
returns-in-Own c = ap is_missing (sym c.in-Own.is)

pub returns-in-House : goal.returns-in-House
unfolding is_missing
returns-in-House c = ap is_missing (sym c.in-House.is)

pub returns-in-Missing : goal.returns-in-Missing
unfolding is_missing
returns-in-Missing c = ap is_missing (sym c.in-Missing.is)
