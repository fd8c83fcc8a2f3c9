-- `ingredients::named::table_named` meets its contract: a house table by its number, and otherwise what the look-up in the list gives.
-- Assumes nothing.
use native.Mathlib.Omega.{arith}
use Rattle.std.proofs.lemmas.Grind.{common_steps}
use Rattle.ingredients.specs.Named.{own_table, named_table}
use Rattle.ingredients.proofs.named.table_named.Goals as goal

pub returns-then-i-le104 : goal.returns-then-i-le104
unfolding named_table
returns-then-i-le104 c = grind (arith, common_steps)

pub returns-in-Some-Table : goal.returns-in-Some-Table
unfolding named_table own_table
returns-in-Some-Table c = grind (arith, common_steps)

pub returns-in_default : goal.returns-in_default
unfolding named_table own_table
returns-in_default c = grind (arith, common_steps)

pub returns-in_default-2 : goal.returns-in_default-2
unfolding named_table own_table
returns-in_default-2 c = grind (arith, common_steps)
