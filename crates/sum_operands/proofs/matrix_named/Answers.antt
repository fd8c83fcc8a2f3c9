-- `sum_operands::matrix_named` meets its contract: each arm is a clause of `matrix_place`.
use native.Mathlib.Omega.{arith}
use Rattle.std.proofs.lemmas.Grind.{common_steps}
use Rattle.sum_bytes.specs.Summing.{matrix_place}
use Rattle.sum_operands.proofs.matrix_named.Goals as goal

pub returns-in-Some-Matrix : goal.returns-in-Some-Matrix
unfolding matrix_place
returns-in-Some-Matrix c = grind (arith, common_steps)

pub returns-in_default : goal.returns-in_default
unfolding matrix_place
returns-in_default c = grind (arith, common_steps)

pub returns-in_default-2 : goal.returns-in_default-2
unfolding matrix_place
returns-in_default-2 c = grind (arith, common_steps)
