-- Where the ingredients and steps of an order stand in its list: what a look-up gives, and the numbers that the list has there.
use mathlib.Core.Path.{◌≡◌, refl}
use mathlib.Core.List.{List, [], ◌∷◌, ◌++◌}
use Rattle.std.specs.Prelude.{Some, None}
use mathlib.Core.Option.{Option, none, some}
use Prim.Native.Nat.{ℕ, zero, suc, ◌+◌, ◌≤◌}
use native.Mathlib.Omega.{arith}
use lib.ListN.{length, get_or, take, drop, get_elem?}
use Rattle.order.specs.Order.{Ingredient, table, matrix, generator, Step, TAKE, FIELD, SUM, MERGE, SPLIT, CROSS, Order, All, IngredientLimits, StepLimits, written_ingredient, written_step, written_all, written, entries_of}
use Rattle.order.specs.Grammar.{read_order, Reads}
use Rattle.order.specs.Answers.{entries_from, located, kind_of}
use Rattle.order.proofs.Segment.{Segment, segment_whole, part_left, part_right, segment_numbers, number_is}
use Rattle.order.proofs.OrderLaw.{reads_iff}
use Rattle.places.specs.Places.{nth_in, first_step_place, ingredient_from, step_from, ingredient_at, step_at, ingredient_in, matrices_from, adjoined_from, crossed_from, step_in}
use Rattle.places.proofs.Lookups.{nth_none}

-- Value k of those that are written one after the other from place at on.
module _ {A R C : Type 0} (other : R) (f : ℕ → A → R) (P : A → Type 0) (w : A → List ℕ) {list : List ℕ} {x : A} where
  value_stands : (at : ℕ) {next : ℕ} (xs : List A) (k : ℕ) → All P xs → Segment list at (written_all w xs) next → get_elem? xs k ≡ some x → ((place after : ℕ) → nth_in other f w at xs k ≡ f place x → P x → Segment list place (w x) after → C) → C
  value_stands at [] k h s e found = absurd (let z : ◌≡◌ {A = ℕ} 0 1 = cc in omega arith)
  value_stands at (y ∷ ys) zero h s e found =
      let same : y ≡ x = cc in
      found at (at + length (w x)) (rw same) (rw same at h.0) (rw same at (part_left (w y) (written_all w ys) s))
  value_stands at (y ∷ ys) (suc k) h s e found =
      value_stands (at + length (w y)) ys k h.1 (part_right (w y) (written_all w ys) s) e found

-- Ingredient k, from 0, of a list that reads: what the look-up of its number k + 1 gives, its limits, and where its numbers stand.
pub ingredient_stands : {C : Type 0} (list : List ℕ) (o : Order) → Reads list o → (k : ℕ) (g : Ingredient) → get_elem? o.ingredients k ≡ some g → ((place after : ℕ) → ingredient_at (read_order list) (suc k) ≡ Some (located (place + 3) g) → IngredientLimits g → Segment list place (written_ingredient g) after → C) → C
unfolding written ingredient_at
ingredient_stands list o e k g here found =
    let reads = (reads_iff list o).0 e in
    let whole : Segment list 0 (written o) (length list) = rw reads.2 (segment_whole list) in
    let all = written_all written_ingredient o.ingredients in
    let first = part_left (length o.ingredients ∷ all) (length o.steps ∷ written_all written_step o.steps) whole in
    value_stands None ingredient_from IngredientLimits written_ingredient 1 o.ingredients k reads.1.each_ingredient
    (part_right (length o.ingredients ∷ []) all first) here λ place after same limits s.
    found place after (rw e same) limits s

pub step_stands : {C : Type 0} (list : List ℕ) (o : Order) → Reads list o → (k : ℕ) (s : Step) → get_elem? o.steps k ≡ some s → ((place after : ℕ) → step_at (read_order list) (suc k) ≡ Some (record { kind = kind_of s; operands_at = place + 1 }) → StepLimits s → Segment list place (written_step s) after → C) → C
unfolding written step_at
step_stands list o e k s here found =
    let reads = (reads_iff list o).0 e in
    let whole : Segment list 0 (written o) (length list) = rw reads.2 (segment_whole list) in
    let before = length o.ingredients ∷ written_all written_ingredient o.ingredients in
    let all = written_all written_step o.steps in
    let there : 0 + length before + 1 ≡ first_step_place o = omega arith in
    let steps : Segment list (first_step_place o) all (length list) = rw there at (part_right (length o.steps ∷ []) all (part_right before (length o.steps ∷ all) whole)) in
    value_stands None step_from StepLimits written_step (first_step_place o) o.steps k reads.1.each_step steps here λ place after same limits t.
    found place after (rw e same) limits t

module _ {list : List ℕ} {place after : ℕ} where
  -- The entries of an ingredient are those that the list has from the place that the look-up gives.
  pub entries_stand : (g : Ingredient) → Segment list place (written_ingredient g) after → take (length (entries_of g)) (drop (entries_from (place + 3) g) list) ≡ entries_of g
  entries_stand (table rows levels entries) s =
      let body = part_right (1 ∷ rows ∷ length levels ∷ []) (levels ++ entries) s in
      segment_numbers (part_right levels entries body)
  entries_stand (matrix rows columns p entries) s = segment_numbers (part_right (p ∷ []) entries (part_right (2 ∷ rows ∷ columns ∷ []) (p ∷ entries) s))
  entries_stand (generator t s widths entries) seg =
      let body = part_right (3 ∷ t ∷ length widths ∷ []) (s ∷ widths ++ entries) seg in
      segment_numbers (part_right widths entries (part_right (s ∷ []) (widths ++ entries) body))

  -- So are the level counts of a table and the widths of a generator.
  pub levels_stand : (rows : ℕ) (levels entries : List ℕ) → Segment list place (written_ingredient (table rows levels entries)) after → take (length levels) (drop (place + 3) list) ≡ levels
  levels_stand rows levels entries s =
      segment_numbers (part_left levels entries (part_right (1 ∷ rows ∷ length levels ∷ []) (levels ++ entries) s))

  pub widths_stand : (t s : ℕ) (widths entries : List ℕ) → Segment list place (written_ingredient (generator t s widths entries)) after → take (length widths) (drop (place + 3 + 1) list) ≡ widths
  widths_stand t s widths entries seg =
      let body = part_right (3 ∷ t ∷ length widths ∷ []) (s ∷ widths ++ entries) seg in
      segment_numbers (part_left widths entries (part_right (s ∷ []) (widths ++ entries) body))

-- The operands of SUM, with which those of CROSS begin; v is what follows them.
module _ {list : List ℕ} {at after : ℕ} (ds : List ℕ) (k : ℕ) (v : List ℕ) (s : Segment list at (length ds ∷ ds ++ k ∷ v) after) where
  count_stands : get_or list at 0 ≡ length ds
  count_stands = number_is (part_left (length ds ∷ []) (ds ++ k ∷ v) s)

  after_matrices : Segment list (at + 1 + length ds) (k ∷ v) after
  after_matrices = part_right ds (k ∷ v) (part_right (length ds ∷ []) (ds ++ k ∷ v) s)

  matrices_stand : matrices_from list at ≡ ds
  matrices_stand = rw count_stands (segment_numbers (part_left ds (k ∷ v) (part_right (length ds ∷ []) (ds ++ k ∷ v) s)))

  adjoined_stands : adjoined_from list at ≡ k
  adjoined_stands = rw count_stands (number_is (part_left (k ∷ []) v after_matrices))

crossed_stands : {list : List ℕ} {at after : ℕ} (ds : List ℕ) (k h : ℕ) → Segment list at (length ds ∷ ds ++ k ∷ h ∷ []) after → crossed_from list at ≡ h
crossed_stands ds k h s =
    rw (count_stands ds k (h ∷ []) s) (number_is (part_right (k ∷ []) (h ∷ []) (after_matrices ds k (h ∷ []) s)))

-- The ingredient that a look-up describes is that of the order, and none is described past the last.
described : {list : List ℕ} {place after : ℕ} (g : Ingredient) → IngredientLimits g → Segment list place (written_ingredient g) after → ingredient_in list (Some (located (place + 3) g)) ≡ some g
described (table rows levels entries) h s = rw (levels_stand rows levels entries s, ← h.3, entries_stand (table rows levels entries) s)
described (matrix rows columns p entries) h s = rw (← h.3, entries_stand (matrix rows columns p entries) s)
described (generator t s widths entries) h seg =
    rw (widths_stand t s widths entries seg, ← h.4, entries_stand (generator t s widths entries) seg)

past : {A : Type 0} (xs : List A) (k : ℕ) → get_elem? xs k ≡ none → length xs ≤ k
past [] k e = omega arith
past (x ∷ xs) zero e = absurd (let z : ◌≡◌ {A = ℕ} 0 1 = cc in omega arith)
past (x ∷ xs) (suc k) e = let h = past xs k e in omega arith

pub ingredient_described : (list : List ℕ) (o : Order) → Reads list o → (k : ℕ) → ingredient_in list (ingredient_at (read_order list) (suc k)) ≡ get_elem? o.ingredients k
unfolding ingredient_at
ingredient_described list o e k = go (get_elem? o.ingredients k) refl
  where
    go : (found : Option Ingredient) → get_elem? o.ingredients k ≡ found → ingredient_in list (ingredient_at (read_order list) (suc k)) ≡ get_elem? o.ingredients k
    go none here = rw (e, nth_none None ingredient_from written_ingredient 1 o.ingredients k (past o.ingredients k here), here)
    go (some g) here =
        ingredient_stands list o e k g here λ place after same limits s.
        rw (same, here) (described g limits s)

-- The same of a step: its operands are the numbers after its kind.
step_described_at : {list : List ℕ} {place after : ℕ} (s : Step) → StepLimits s → Segment list place (written_step s) after → step_in list (Some (record { kind = kind_of s; operands_at = place + 1 })) ≡ some s
step_described_at (TAKE i) h t = rw (number_is (part_right (1 ∷ []) (i ∷ []) t))
step_described_at (FIELD i) h t = rw (number_is (part_right (2 ∷ []) (i ∷ []) t))
step_described_at (SUM ds k) h t =
    let operands = part_right (3 ∷ []) (length ds ∷ ds ++ k ∷ []) t in
    rw (matrices_stand ds k [] operands, adjoined_stands ds k [] operands)
step_described_at (MERGE p cs) h t =
    let operands = part_right (4 ∷ []) (p ∷ cs) t in
    rw (number_is (part_left (p ∷ []) cs operands), ← h.1, segment_numbers (part_right (p ∷ []) cs operands))
step_described_at (SPLIT c i) h t =
    let operands = part_right (5 ∷ []) (c ∷ i ∷ []) t in
    rw (number_is (part_left (c ∷ []) (i ∷ []) operands), number_is (part_right (c ∷ []) (i ∷ []) operands))
step_described_at (CROSS ds k h) limits t =
    let operands = part_right (6 ∷ []) (length ds ∷ ds ++ k ∷ h ∷ []) t in
    rw (matrices_stand ds k (h ∷ []) operands, adjoined_stands ds k (h ∷ []) operands, crossed_stands ds k h operands)

pub step_described : (list : List ℕ) (o : Order) → Reads list o → (k : ℕ) → step_in list (step_at (read_order list) (suc k)) ≡ get_elem? o.steps k
unfolding step_at
step_described list o e k = go (get_elem? o.steps k) refl
  where
    go : (found : Option Step) → get_elem? o.steps k ≡ found → step_in list (step_at (read_order list) (suc k)) ≡ get_elem? o.steps k
    go none here = rw (e, nth_none None step_from written_step (first_step_place o) o.steps k (past o.steps k here), here)
    go (some s) here =
        step_stands list o e k s here λ place after same limits t.
        rw (same, here) (step_described_at s limits t)
