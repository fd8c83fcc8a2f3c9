-- `serves` meets its contract: what `any` asks of each level count is the test of `member`.
-- Assumes nothing.
use Rattle.std.proofs.Common.{◌∙◌, ◌||◌, rules, tests, eqb, refl}
use Rattle.std.proofs.lemmas.Iterator.{YieldsList-from_slice}
use Rattle.std.proofs.lemmas.Iterator.Search.{any_from_yields_List}
use Rattle.std.proofs.lemmas.List.Recursion.{same_from_clauses}
use Rattle.std.specs.List.{list_any}
use Rattle.galois.specs.Arithmetic.{member}
use Rattle.matrix_balance.proofs.serves.Goals as goal

pub returns : goal.returns
returns c =
    let p = c.args.p in
    any_from_yields_List (λ s. eqb p s) _ _ _ c.any.ensures.ran (YieldsList-from_slice c.args.levels.now cc) (λ x b q k. search (rules, tests))
    ∙ same_from_clauses (list_any (λ s. eqb p s)) (member p) (λ s b. eqb p s || b) refl (λ _ _. refl) (λ _ _. refl) c.args.levels.now
