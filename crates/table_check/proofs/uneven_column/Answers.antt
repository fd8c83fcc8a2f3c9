-- `uneven_column` meets its contract: the columns before the one in hand are even, and the counters are zero between two columns.
-- Assumes nothing.
use mathlib.Core.Path.{refl, sym, ◌∙◌, ap}
use mathlib.Core.Option.{map}
use native.Mathlib.Nat.{not-suc-le-zero, lt_of_lt_of_le}
use borrow.Author.Count.{below_more}
use Rattle.finite.proofs.Firsts.{first_none, first_at}
use Rattle.counting.specs.Table.{table_of}
use Rattle.counting.specs.Verdict.{columns_fault, table_finding}
use Rattle.tally.proofs.Tallies.{at_some, nowhere_none}
use Rattle.table_check.proofs.TableKeys.{column_keyed, column_deviation_lem}
use Rattle.table_check.proofs.uneven_column.Goals as goal

pub loop-column-init : goal.loop-column-init
loop-column-init c = (refl, c.requires.cleared, λ k h. absurd (not-suc-le-zero h))

pub levels_deviation-found-requires-clause-keyed : goal.levels_deviation-found-requires-clause-keyed
levels_deviation-found-requires-clause-keyed c =
    let l = c.loop-column in column_keyed _ _ _ c.requires.checkable_table l.column c.loop-column-test.true

pub returns-in-Some-clause-value : goal.returns-in-Some-clause-value
unfolding columns_fault table_of
returns-in-Some-clause-value c =
    let l = c.loop-column in
    let found = c.levels_deviation-found.ensures.value in sym (ap table_finding (first_at _ _ l.column _ c.loop-column-test.true l.invariant.2
    (ap (map _) (sym (column_deviation_lem _ _ _ c.requires.checkable_table l.column) ∙ at_some _ _ (sym c.in-Some.is ∙ found)))))

pub loop-column-preserved : goal.loop-column-preserved
loop-column-preserved c =
    let l = c.loop-column in
    let called = c.levels_deviation-found in (
      called.auto.counters ∙ l.invariant.0,
      called.ensures.cleared_2 c.in_default.is,
      below_more _ l.column l.invariant.2 (ap (map _) (sym (column_deviation_lem _ _ _ c.requires.checkable_table l.column) ∙ nowhere_none _ (sym c.in_default.is ∙ called.ensures.value))),
    )

pub returns-clause-value : goal.returns-clause-value
unfolding columns_fault table_of
returns-clause-value c =
    let l = c.loop-column in sym (ap table_finding (first_none _ _ (λ k h. l.invariant.2 k (lt_of_lt_of_le h c.loop-column-test.false))))
