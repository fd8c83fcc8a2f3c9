-- What questions 4 to 8 come to for a list that reads with its entries in range: document 01, "The questions, in turn".
use Rattle.std.specs.Prelude.{List, ℕ}
use Rattle.sheets.specs.Steps.{Outcome, all_steps}
use Rattle.sheets.specs.Outcome.{ingredients_refusal, unless}
use Rattle.layout.specs.Step.{in_order}

-- what question 4 and then all steps come to
unfoldable pub passed_in : List ℕ → Outcome
passed_in list = in_order list (λ o. unless (ingredients_refusal 1 o.ingredients) (all_steps o o.steps))
