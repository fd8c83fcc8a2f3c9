-- `sum_questions::all_served` meets its contract: what `all` asks of each level count is the test of the definition.
use Rattle.std.proofs.Common.{◌<◌, ◌∙◌, rules, tests, ltb, length, get_or}
use Rattle.std.proofs.iter.Serving.{serving}
use Rattle.std.proofs.lemmas.List.Elements.{All-from_get_or}
use Rattle.std.proofs.lemmas.Iterator.{YieldsList-from_slice}
use Rattle.std.proofs.lemmas.Iterator.Search.{all_from_yields_List}
use Rattle.finite.specs.Lists.{AllBelow}
use Rattle.sum_bytes.proofs.Pieces.{all_of_is}
use Rattle.sum_questions.proofs.all_served.Goals as goal

pub all-requires-clause-callable : goal.all-requires-clause-callable
unfolding AllBelow
all-requires-clause-callable c =
    let each = All-from_get_or (λ s. s < length c.args.widths.now) c.args.levels.now 0 c.requires in grind (serving, each)

pub returns : goal.returns
returns c =
    all_from_yields_List (λ s. ltb 0 (get_or c.args.widths.now s 0)) _ _ _ c.all.ensures.ran (YieldsList-from_slice c.args.levels.now cc) (λ x b q k. search (rules, tests))
    ∙ all_of_is _ c.args.levels.now
