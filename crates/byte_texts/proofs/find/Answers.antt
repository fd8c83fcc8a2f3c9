-- `find` meets its contract: std's first place is the contract's.
use lib.Dec.{eqb}
use borrow.Author.Rules.{rules}
use Rattle.std.proofs.Common.{tests}
use Rattle.std.proofs.lemmas.Iterator.{YieldsList-from_slice}
use Rattle.std.proofs.lemmas.Iterator.Search.{position_from_yields_List}
use Rattle.byte_texts.proofs.Comparing.{first_position}
use Rattle.byte_texts.proofs.find.Goals as goal

pub returns : goal.returns
returns c =
    first_position c.args.byte c.args.bytes.now
    (position_from_yields_List (λ b. eqb b c.args.byte) _ _ c.position.result c.position.ensures.ran (YieldsList-from_slice _ c.iter.ensures.rest) (λ x b q k. search (rules, tests)))
    c.unwrap_or.ensures
