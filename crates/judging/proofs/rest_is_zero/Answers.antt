-- `rest_is_zero` meets its contract, for a table and for a refusal.
use native.Mathlib.Omega.{arith}
use Rattle.record_texts.proofs.Judging.{cells_within, filled_rest, refused_rest}
use Rattle.judging.proofs.rest_is_zero.Goals as goal

pub overflow_mul-runs : goal.overflow_mul-runs
overflow_mul-runs c =
    omega (arith, cells_within c.args.levels.now c.args.table.now c.in-Filled.is c.requires)

pub returns-in-Filled : goal.returns-in-Filled
returns-in-Filled c = filled_rest _ _ c.in-Filled.is c.zero_from.ensures c.zero_from-in-Filled.ensures

pub returns-in-Refused : goal.returns-in-Refused
returns-in-Refused c = refused_rest _ _ c.in-Refused.is c.zero_from-in-Refused.ensures c.zero_from-in-Refused-2.ensures
