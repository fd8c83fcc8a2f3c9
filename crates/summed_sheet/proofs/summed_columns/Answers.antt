-- `summed_sheet::summed_columns` meets its contract: each level count gives as many summed columns as the matrix that serves it has.
use Rattle.std.proofs.Common.{◌≡◌, ◌<◌, ◌∙◌, sym, get_or, length, replicate, rules, arith}
use Rattle.std.proofs.iter.Serving.{serving}
use Rattle.std.proofs.iter.runs.Made.{chains}
use Rattle.std.proofs.lemmas.List.{length-replicate}
use Rattle.std.proofs.lemmas.List.Elements.{All-from_get_or}
use Rattle.std.proofs.lemmas.List.Sums.{sum_by-le}
use Rattle.std.specs.List.{sum_by}
use Rattle.finite.specs.Lists.{AllBelow}
use Rattle.sum_bytes.specs.Summing.{summed_levels}
use Rattle.sum_bytes.proofs.Pieces.{pieces_length}
use Rattle.summed_sheet.proofs.summed_columns.Goals as goal

pub sum-requires-clause-can : goal.sum-requires-clause-can
unfolding AllBelow
sum-requires-clause-can c =
    let each = All-from_get_or (λ s. s < length c.args.widths.now) c.args.levels.now 0 c.requires.0 in (tt, grind (serving, each))

total : (c : goal.After-sum) → c.sum.result ≡ sum_by (λ s. get_or c.args.widths.now s 0) c.args.levels.now
total c = search (rules, chains)

pub returns-clause-value : goal.returns-clause-value
unfolding summed_levels
returns-clause-value c =
    total c ∙ pieces_length (λ s. replicate (get_or c.args.widths.now s 0) s) (λ s. get_or c.args.widths.now s 0) (λ s. sym (length-replicate _ _)) c.args.levels.now

pub returns-clause-upper_bound : goal.returns-clause-upper_bound
returns-clause-upper_bound c =
    omega (arith, total c, sum_by-le (λ s. get_or c.args.widths.now s 0) 255 c.args.levels.now (λ k d h. omega (arith, c.type_inv.widths (get_or c.args.levels.now k d))))
