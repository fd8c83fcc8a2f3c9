-- `passing::first_failing` meets its contract. The invariant: what the ingredients after the first i come to is what all come to, and the
-- buffers are as they were.
-- Assumes nothing.
use mathlib.Core.Path.{◌≡◌, refl, sym, ◌∙◌, ap}
use mathlib.Core.List.{List}
use Prim.Native.Nat.{ℕ, ◌+◌, ◌<◌}
use Rattle.std.specs.Prelude.{Ok}
use Rattle.std.proofs.lemmas.Result.{err_from_is_err_and}
use Rattle.finite.specs.First.{◌or_else◌}
use Rattle.order.specs.Grammar.{read_order}
use Rattle.order.specs.Range.{range_of}
use Rattle.places.specs.Places.{ingredient_count}
use Rattle.question_4.specs.Passing.{passing_of, refusal_at}
use Rattle.question_4.proofs.Questions.{readable, rest_of, rest_all, rest_next, rest_none, failing_first, passing_first}
use Rattle.passing.proofs.first_failing.Goals as goal

-- what is left to ask from an ingredient on: of that one, and then of the rest
next : (list : List ℕ) → range_of (read_order list) ≡ Ok tt → {count : ℕ} → count ≡ ingredient_count (read_order list) → (i : ℕ) → i < count
    → rest_of (read_order list) i ≡ (refusal_at list (i + 1) or_else rest_of (read_order list) (i + 1))
next list in_range e i h = readable list in_range λ o reads range. rest_next list o reads i (rw e at h)

pub loop-i-init : goal.loop-i-init
loop-i-init c = (rest_all (read_order c.args.list.now), refl, refl)

pub ingredient_passing-requires-clause-room : goal.ingredient_passing-requires-clause-room
ingredient_passing-requires-clause-room c = rw (c.loop-i.invariant.1, c.loop-i.invariant.2) c.requires.room

pub returns-in_err-ingredient_passing-clause-value : goal.returns-in_err-ingredient_passing-clause-value
returns-in_err-ingredient_passing-clause-value c =
    let why = err_from_is_err_and c.from_residual.result c.from_residual.ensures.1 in
    rw (why.1, why.2)
    (failing_first _ _ (sym c.ingredient_passing.ensures.value ∙ c.in_err-ingredient_passing.was)
    ∙ ap passing_of (sym (next _ c.requires.list_value c.ingredient_count-count.ensures c.loop-i.i c.loop-i-test.true))
    ∙ c.loop-i.invariant.0)

pub loop-i-preserved : goal.loop-i-preserved
loop-i-preserved c =
    let kept = c.ingredient_passing.ensures in
    let inv = c.loop-i.invariant in (
      sym (passing_first _ _ (sym kept.value ∙ c.in_ok-ingredient_passing.was))
          ∙ ap passing_of (sym (next _ c.requires.list_value c.ingredient_count-count.ensures c.loop-i.i c.loop-i-test.true))
          ∙ inv.0,
      kept.cells_unchanged ∙ inv.1,
      kept.numbers_unchanged ∙ inv.2,
    )

pub returns-clause-value : goal.returns-clause-value
unfolding passing_of
returns-clause-value c =
    let none_left = rw c.ingredient_count-count.ensures at c.loop-i-test.false in
    ap passing_of (sym (rest_none (read_order c.args.list.now) c.loop-i.i none_left)) ∙ c.loop-i.invariant.0
