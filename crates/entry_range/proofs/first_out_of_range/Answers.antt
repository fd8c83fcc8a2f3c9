-- `entry_range::first_out_of_range` meets its contract: the walk over the ingredients of a list that reads finds what the definition says.
use mathlib.Core.Path.{sym, ◌∙◌}
use Rattle.std.proofs.lemmas.Result.{err_from_is_err_and}
use Rattle.entry_range.proofs.Scans.{scanned_order, range_unread}
use Rattle.entry_range.proofs.first_out_of_range.Goals as goal

pub returns-in_err-q : goal.returns-in_err-q
returns-in_err-q c =
    let out = err_from_is_err_and c.from_residual.result c.from_residual.ensures.1 in
    rw (out.1, out.2) (range_unread c.args.list.now (sym c.ingredients_start.ensures ∙ c.in_err-q.was))

pub returns : goal.returns
returns c = c.first_out_of_range_among.ensures ∙ scanned_order c.args.list.now (sym c.ingredients_start.ensures ∙ c.in_ok-q.was)
