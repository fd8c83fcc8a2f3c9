-- Refusal 3 has the cause that specs/Causes.antt states, at its place, and its place is where the list has that entry.
-- Assumes nothing.
use mathlib.Core.Path.{◌≡◌, refl, sym, ◌∙◌, ap}
use mathlib.Core.Logic.{◌↔◌}
use mathlib.Core.Bool.{Bool, true, false}
use mathlib.Core.List.{List, [], ◌∷◌, ◌++◌, append_assoc}
use Prim.Native.Nat.{ℕ, zero, suc, ◌+◌, ◌-◌, ◌≤◌, ◌<◌}
use native.Mathlib.Nat.{le_refl, add-zero, zero-add}
use native.Mathlib.Omega.{arith}
use native.Mathlib.Decide.{dec_le}
use borrow.Author.Tests.{lt-ltb, le-ltb, ltb-true, ltb-false}
use lib.Dec.{ltb}
use lib.ListN.{length, get_or, take, drop, length-append, length-take, length-drop}
use lib.Seq.{get_or-take, get_or-drop}
use Rattle.std.specs.Prelude.{Result, Ok, Err}
use Rattle.order.specs.Order.{Ingredient, entries_of, Order, All, written_ingredient, written_step, written_all, written}
use Rattle.order.specs.Reader.{when}
use Rattle.order.specs.Grammar.{read_order, Reads}
use Rattle.order.specs.Answers.{entries_from}
use Rattle.order.specs.Range.{bound, first_failing, ingredient_range, earlier, ingredients_range, range_of}
use Rattle.order.specs.declared.RangeFault.{RangeFault}
use Rattle.order.specs.declared.RangeFault.TheVariants.{OutOfRange, Unread}
use Rattle.order.proofs.Segment.{Segment, segment_whole, part_left, part_right}
use Rattle.order.proofs.OrderLaw.{reads_iff}
use Rattle.places.proofs.Stands.{entries_stand}
use Rattle.order.proofs.Failing.{failing_none, failing_parts, failing_stop}
use Rattle.order_causes.specs.Causes.{EntryInRange, IngredientInRange, first_entry, FirstOutOfRange}

-- The first of left numbers from q on that fails the test.
record FirstFails (ok : ℕ → Bool) (start left q place : ℕ) : Type 0 where
  number : ℕ
  from : q ≤ number
  upto : number < q + left
  there : place ≡ start + number
  fails : ok number ≡ false
  passed : (r : ℕ) → q ≤ r → r < number → ok r ≡ true

not_in_range : {place : ℕ} → ◌≡◌ {A = Result (Unit {0}) RangeFault} (Ok tt) (Err (OutOfRange place)) → ⊥
not_in_range e = let z : ◌≡◌ {A = ℕ} 0 1 = cc in omega arith

-- What the search finds is the first.
module _ (ok : ℕ → Bool) (start : ℕ) where
  one_earlier : (left q : ℕ) {place : ℕ} → ok q ≡ true → FirstFails ok start left (q + 1) place → FirstFails ok start (suc left) q place
  one_earlier left q h f =
      record {
        number = f.number;
        from = omega (arith, f.from);
        upto = omega (arith, f.upto);
        there = f.there;
        fails = f.fails;
        passed = λ r low high. elim (dec_le (q + 1) r) [
          | yes later ↦ f.passed r later high
          | no none ↦ let same : r ≡ q = omega arith in rw same h
        ];
      }

  found : (left q : ℕ) {place : ℕ} → first_failing ok start left q ≡ Err (OutOfRange place) → FirstFails ok start left q place
  found zero q e = absurd (not_in_range e)
  found (suc left) q {place} e = go (ok q) refl (λ e. found left (q + 1) e) e
    where
      go : (b : Bool) → ok q ≡ b
          → (first_failing ok start left (q + 1) ≡ Err (OutOfRange place) → FirstFails ok start left (q + 1) place)
          → when b (first_failing ok start left (q + 1)) (Err (OutOfRange (start + q))) ≡ Err (OutOfRange place)
          → FirstFails ok start (suc left) q place
      go true h rest e = one_earlier left q h (rest e)
      go false h rest e =
          let same : start + q ≡ place = cc in
          record { number = q; from = le_refl q; upto = omega arith; there = sym same; fails = h; passed = λ r low high. absurd (omega arith) }

  -- Number q is found where it fails and all before it pass.
  finds : (q count : ℕ) → q < count → ((r : ℕ) → r < q → ok r ≡ true) → ok q ≡ false → first_failing ok start count 0 ≡ Err (OutOfRange (start + q))
  finds q count inside passed fails =
      let parts : count ≡ q + (count - q) = omega arith in
      let none : first_failing ok start q 0 ≡ Ok tt = (failing_none ok start q 0).1 (λ r h. rw zero-add (passed r h)) in
      ap (λ (n : ℕ). first_failing ok start n 0) parts
      ∙ failing_parts ok start q (count - q) 0
      ∙ rw (none, zero-add) (failing_stop ok start (count - q) q (omega arith) fails)

-- The entries of one ingredient, where the number after its rows and columns stands at from.
module _ (from : ℕ) (g : Ingredient) where
  abbrev is_inside : ℕ → Bool
  is_inside q = ltb (get_or (entries_of g) q 0) (bound g q)

  inside_iff : (ingredient_range from g ≡ Ok tt) ↔ IngredientInRange g
  unfolding ingredient_range
  inside_iff =
      let all = failing_none is_inside (entries_from from g) (length (entries_of g)) 0 in (
        λ e q h. ltb-true _ _ (rw zero-add at (all.0 e q h)),
        λ h. all.1 (λ q below. rw zero-add (lt-ltb _ _ (h q below))),
      )

  entry_found : {place : ℕ} → ingredient_range from g ≡ Err (OutOfRange place) → FirstFails is_inside (entries_from from g) (length (entries_of g)) 0 place
  unfolding ingredient_range
  entry_found e = found is_inside (entries_from from g) (length (entries_of g)) 0 e

  entry_finds : (q : ℕ) → q < length (entries_of g)
      → ((r : ℕ) → r < q → EntryInRange g r)
      → bound g q ≤ get_or (entries_of g) q 0
      → ingredient_range from g ≡ Err (OutOfRange (entries_from from g + q))
  unfolding ingredient_range
  entry_finds q inside earlier high =
      finds is_inside (entries_from from g) q (length (entries_of g)) inside (λ r h. lt-ltb _ _ (earlier r h)) (le-ltb _ _ high)

-- The place of an ingredient after others that stand from at on.
abbrev place_after : ℕ → List Ingredient → ℕ
place_after at before = at + length (written_all written_ingredient before)

one_more : (at : ℕ) (g : Ingredient) (before : List Ingredient) → place_after (at + length (written_ingredient g)) before ≡ place_after at (g ∷ before)
one_more at g before = omega (arith, length-append (written_ingredient g) (written_all written_ingredient before))

-- The ingredient with the first entry out of range: all before it are in range.
ingredient_found : {C : Type 0} (at : ℕ) (gs : List Ingredient) {place : ℕ} → ingredients_range at gs ≡ Err (OutOfRange place)
    → ((before : List Ingredient) (g : Ingredient) (after : List Ingredient) → gs ≡ before ++ g ∷ after
    → All IngredientInRange before
    → ingredient_range (place_after at before + 3) g ≡ Err (OutOfRange place)
    → C)
    → C
ingredient_found at [] e k = absurd (not_in_range e)
ingredient_found {C} at (g ∷ gs) {place} e k =
    let rest : ℕ = at + length (written_ingredient g) in
    go (ingredient_range (at + 3) g) refl
    (λ inside e. ingredient_found rest gs e λ before g' after same all range.
    k (g ∷ before) g' after (ap (λ xs. g ∷ xs) same) (inside, all) (rw (← one_more at g before) range))
    e
  where
    go : (x : Result (Unit {0}) RangeFault) → ingredient_range (at + 3) g ≡ x
        → (IngredientInRange g → ingredients_range (at + length (written_ingredient g)) gs ≡ Err (OutOfRange place) → C)
        → earlier x (ingredients_range (at + length (written_ingredient g)) gs) ≡ Err (OutOfRange place)
        → C
    go (Ok tt) h rest e = rest ((inside_iff (at + 3) g).0 h) e
    go (Err (OutOfRange there)) h rest e = k [] g gs refl tt (rw add-zero (h ∙ e))
    go (Err Unread) h rest e = absurd (let z : ◌≡◌ {A = ℕ} 0 1 = cc in omega arith)

ingredient_finds : (at : ℕ) (before : List Ingredient) (g : Ingredient) (after : List Ingredient) {place : ℕ} → All IngredientInRange before
    → ingredient_range (place_after at before + 3) g ≡ Err (OutOfRange place)
    → ingredients_range at (before ++ g ∷ after) ≡ Err (OutOfRange place)
ingredient_finds at [] g after all range = rw (rw add-zero at range)
ingredient_finds at (b ∷ before) g after all range =
    rw ((inside_iff (at + 3) b).1 all.0)
    (ingredient_finds (at + length (written_ingredient b)) before g after all.1 (rw one_more range))

-- What is written of some ingredients and of more after them.
all_parted : (before more : List Ingredient)
    → written_all written_ingredient (before ++ more) ≡ written_all written_ingredient before ++ written_all written_ingredient more
all_parted [] more = refl
all_parted (g ∷ before) more = rw (all_parted before more) (sym (append_assoc (written_ingredient g) _ _))

-- Question 3 is asked of an order that was read.
module _ (list : List ℕ) (o : Order) (reads : Reads list o) where
  -- A refusal has its cause.
  pub out_of_range : (place : ℕ) → range_of (read_order list) ≡ Err (OutOfRange place) → FirstOutOfRange o place
  unfolding range_of
  out_of_range place e =
      ingredient_found 1 o.ingredients (rw reads at e) λ before g after same all range.
      let f = entry_found (place_after 1 before + 3) g range in
      record {
        before = before;
        ingredient = g;
        after = after;
        one_of = same;
        q = f.number;
        entry = omega (arith, f.upto);
        stands = f.there;
        out_of_range = ltb-false _ _ f.fails;
        earlier_entries = λ r h. ltb-true _ _ (f.passed r (omega arith) h);
        earlier_ingredients = all;
      }

  first_found : {place : ℕ} → FirstOutOfRange o place → range_of (read_order list) ≡ Err (OutOfRange place)
  unfolding range_of
  first_found f =
      let range = entry_finds (place_after 1 f.before + 3) f.ingredient f.q f.entry f.earlier_entries f.out_of_range in
      rw (reads, f.one_of, f.stands) (ingredient_finds 1 f.before f.ingredient f.after f.earlier_ingredients range)

  -- The meaning of refusal 3.
  pub out_of_range_iff : (place : ℕ) → (range_of (read_order list) ≡ Err (OutOfRange place)) ↔ FirstOutOfRange o place
  out_of_range_iff place = (out_of_range place, first_found)

  -- An ingredient stands after those before it,
  ingredient_there : (before : List Ingredient) (g : Ingredient) (after : List Ingredient) → o.ingredients ≡ before ++ g ∷ after
      → Segment list (place_after 1 before) (written_ingredient g) (place_after 1 before + length (written_ingredient g))
  unfolding written
  ingredient_there before g after same =
      let whole : Segment list 0 (written o) (length list) = rw ((reads_iff list o).0 reads).2 (segment_whole list) in
      let all = written_all written_ingredient o.ingredients in
      let first = part_left (length o.ingredients ∷ all) (length o.steps ∷ written_all written_step o.steps) whole in
      let ingredients = part_right (length o.ingredients ∷ []) all first in
      let parted = rw (same, all_parted before (g ∷ after)) at ingredients in
      part_left (written_ingredient g) _ (part_right (written_all written_ingredient before) _ parted)

  -- and the number at the place is the entry.
  pub entry_there : {place : ℕ} (f : FirstOutOfRange o place) → (place < length list) × (get_or list place 0 ≡ get_or (entries_of f.ingredient) f.q 0)
  entry_there {place} f =
      let start : ℕ = first_entry f.before f.ingredient in
      let entries : List ℕ = entries_of f.ingredient in
      let n : ℕ = length entries in
      let stretch : take n (drop start list) ≡ entries =
      entries_stand f.ingredient (ingredient_there f.before f.ingredient f.after f.one_of) in
      let number : get_or (take n (drop start list)) f.q 0 ≡ get_or list (start + f.q) 0 =
      get_or-take n (drop start list) f.q 0 f.entry ∙ get_or-drop start list f.q 0 in (
        omega (arith, f.stands, f.entry, ap length stretch, length-take n (drop start list), length-drop start list),
        rw (f.stands, ← number, stretch),
      )
