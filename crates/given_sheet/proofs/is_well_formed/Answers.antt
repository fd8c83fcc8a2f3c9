-- `given_sheet::is_well_formed` meets its contract: the first part of the test that fails decides it, and otherwise the entries do.
use mathlib.Core.Path.{sym, ◌∙◌}
use native.Mathlib.Omega.{arith}
use Rattle.given_sheet.specs.Given.{buffers_long}
use Rattle.given_sheet.proofs.Given.{few_entries, wrong_size, short_buffers, wrong_counts, entries_decide}
use Rattle.given_sheet.proofs.is_well_formed.Goals as goal

pub returns-then-not-is_size_within : goal.returns-then-not-is_size_within
returns-then-not-is_size_within c = wrong_size _ _ _ _ (sym c.is_size_within.ensures ∙ c.if-not-is_size_within.true)

pub overflow_mul-runs : goal.overflow_mul-runs
overflow_mul-runs c =
    omega (arith, few_entries _ _ c.args.levels.now c.args.table.now (sym c.is_size_within.ensures ∙ c.if-not-is_size_within.false))

pub returns-then-not-columns-levels : goal.returns-then-not-columns-levels
unfolding buffers_long
returns-then-not-columns-levels c =
    short_buffers _ _ _ _ (sym c.is_size_within.ensures ∙ c.if-not-is_size_within.false) c.if-not-columns-levels.true

pub returns-then-not-are_counts_within : goal.returns-then-not-are_counts_within
unfolding buffers_long
returns-then-not-are_counts_within c =
    wrong_counts _ _ _ _ (sym c.is_size_within.ensures ∙ c.if-not-is_size_within.false) c.if-not-columns-levels.false
    (sym c.are_counts_within.ensures ∙ c.if-not-are_counts_within.true)

pub returns : goal.returns
unfolding buffers_long
returns c =
    c.are_entries_below.ensures
    ∙ entries_decide _ _ _ _ (sym c.is_size_within.ensures ∙ c.if-not-is_size_within.false) c.if-not-columns-levels.false
    (sym c.are_counts_within.ensures ∙ c.if-not-are_counts_within.false)
