-- `given_sheet::are_counts_within` meets its contract: std's test of all level counts is the contract's.
use mathlib.Core.Path.{◌∙◌}
use mathlib.Core.Bool.{◌&&◌}
use lib.Dec.{leb}
use borrow.Author.Rules.{rules}
use Rattle.std.proofs.Common.{tests}
use Rattle.std.proofs.lemmas.Iterator.{YieldsList-from_slice}
use Rattle.std.proofs.lemmas.Iterator.Search.{all_from_yields_List}
use Rattle.given_sheet.proofs.Given.{counts_are}
use Rattle.given_sheet.proofs.are_counts_within.Goals as goal

pub returns : goal.returns
returns c =
    all_from_yields_List (λ count. leb 2 count && leb count 64) _ _ c.all.result c.all.ensures.ran (YieldsList-from_slice _ c.iter.ensures.rest) (λ x b q k. search (rules, tests))
    ∙ counts_are _
