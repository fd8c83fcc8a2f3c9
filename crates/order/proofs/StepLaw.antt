-- The reader of a step reads exactly what is written within limits.
use mathlib.Core.Path.{◌≡◌, refl}
use mathlib.Core.Logic.{◌⊎◌}
use mathlib.Core.List.{List, [], ◌∷◌, ◌++◌, append_assoc}
use Prim.Native.Nat.{ℕ, ◌+◌}
use native.Mathlib.Omega.{arith}
use lib.ListN.{length}
use Rattle.order.specs.Order.{Step, TAKE, FIELD, SUM, MERGE, SPLIT, CROSS, All, Between, MergePrime, IngredientNumber, SumLimits, StepLimits, written_step}
use Rattle.order.specs.Reader.{value, allowed, repeated}
use Rattle.order.specs.Grammar.{between, merge_prime, ingredient_number, none_or_ingredient, counted, read_naming, sum_operands, read_sum, read_merge, read_split, read_cross, read_step}
use Rattle.order.proofs.Tests.{between_iff, merge_prime_iff, ingredient_number_iff, none_or_ingredient_iff}
use Rattle.order.proofs.Segment.{Segment, join}
use Rattle.order.proofs.Law.{Law, number_law, series_law, same_value, bind_sound, bind_last, bind_complete}
use Rattle.order.proofs.ByKind.{between_law, counted_law, After, choose, with_first}

ingredient_number_law : Law (allowed ingredient_number) IngredientNumber (λ x. x ∷ [])
ingredient_number_law = number_law ingredient_number IngredientNumber ingredient_number_iff

-- A step that names one ingredient, if its limits and its numbers are that ingredient's.
naming_sound : (kind : ℕ) (step : ℕ → Step) → ((i : ℕ) → IngredientNumber i → StepLimits (step i)) → ((i : ℕ) → written_step (step i) ≡ kind ∷ i ∷ []) → (list : List ℕ) (at : ℕ) (g : Step) (next : ℕ) → read_naming step list at ≡ value g next → After StepLimits written_step (kind ∷ []) list at g next
unfolding read_naming
naming_sound kind step limits same list at g next e =
    bind_sound ingredient_number_law at _ e λ i m h s e₁.
    same_value (After StepLimits written_step (kind ∷ []) list at) e₁ (limits i h, (_, same i, s))

-- The operands of SUM, with which those of CROSS begin: the matrices, and a table or none.
matrices_law : Law (counted 1 16 (allowed ingredient_number)) (λ ds. Between 1 16 (length ds) × All IngredientNumber ds) (λ ds. length ds ∷ ds)
matrices_law = counted_law 1 16 (series_law ingredient_number IngredientNumber ingredient_number_iff)

none_law : Law (allowed none_or_ingredient) (λ k. (k ≡ 0) ⊎ IngredientNumber k) (λ x. x ∷ [])
none_law = number_law none_or_ingredient (λ k. (k ≡ 0) ⊎ IngredientNumber k) none_or_ingredient_iff

sum_operands_law : Law sum_operands (λ s. SumLimits s.0 s.1) (λ s. length s.0 ∷ s.0 ++ s.1 ∷ [])
sum_operands_law =
    record {
      sound = λ list at s next e.
          bind_sound matrices_law at _ e λ ds m₁ h₁ s₁ e₁.
          bind_sound none_law m₁ _ e₁ λ k m₂ h₂ s₂ e₂.
          same_value (λ s next. SumLimits s.0 s.1 × Segment list at (length s.0 ∷ s.0 ++ s.1 ∷ []) next) e₂ ((h₁.0, h₁.1, h₂), join s₁ s₂);
      complete = λ list at (ds, k) next (h₁, h₂, h₃) s.
          bind_complete matrices_law _ ds (k ∷ []) (h₁, h₂) s λ m₁ s₂.
          bind_last none_law _ k h₃ s₂;
    }

sum_sound : (list : List ℕ) (at : ℕ) (g : Step) (next : ℕ) → read_sum list at ≡ value g next → After StepLimits written_step (3 ∷ []) list at g next
unfolding read_sum
sum_sound list at g next e =
    bind_sound sum_operands_law at _ e λ operands m h s e₁.
    same_value (After StepLimits written_step (3 ∷ []) list at) e₁ (h, (_, refl, s))

pub merge_prime_law : Law (allowed merge_prime) MergePrime (λ x. x ∷ [])
merge_prime_law = number_law merge_prime MergePrime merge_prime_iff

members_law : (n : ℕ) → Law (repeated n (allowed (between 1 128))) (λ cs. (length cs ≡ n) × All (Between 1 128) cs) (λ cs. cs)
members_law n = series_law (between 1 128) (Between 1 128) (between_iff 1 128) n

merge_sound : (list : List ℕ) (at : ℕ) (g : Step) (next : ℕ) → read_merge list at ≡ value g next → After StepLimits written_step (4 ∷ []) list at g next
unfolding read_merge
merge_sound list at g next e =
    bind_sound merge_prime_law at _ e λ p m₁ h₁ s₁ e₁.
    bind_sound (members_law (p + 1)) m₁ _ e₁ λ cs m₂ h₂ s₂ e₂.
    same_value (After StepLimits written_step (4 ∷ []) list at) e₂ ((h₁, h₂.0, h₂.1), (_, refl, join s₁ s₂))

split_sound : (list : List ℕ) (at : ℕ) (g : Step) (next : ℕ) → read_split list at ≡ value g next → After StepLimits written_step (5 ∷ []) list at g next
unfolding read_split
split_sound list at g next e =
    bind_sound (between_law 1 128) at _ e λ c m₁ h₁ s₁ e₁.
    bind_sound ingredient_number_law m₁ _ e₁ λ i m₂ h₂ s₂ e₂.
    same_value (After StepLimits written_step (5 ∷ []) list at) e₂ ((h₁, h₂), (_, refl, join s₁ s₂))

cross_sound : (list : List ℕ) (at : ℕ) (g : Step) (next : ℕ) → read_cross list at ≡ value g next → After StepLimits written_step (6 ∷ []) list at g next
unfolding read_cross
cross_sound list at g next e =
    bind_sound sum_operands_law at _ e λ operands m₁ h₁ s₁ e₁.
    bind_sound ingredient_number_law m₁ _ e₁ λ h m₂ h₂ s₂ e₂.
    same_value (After StepLimits written_step (6 ∷ []) list at) e₂ ((h₁, h₂), (_, rw append_assoc, join s₁ s₂))

step_sound : (list : List ℕ) (at : ℕ) (g : Step) (next : ℕ) → read_step list at ≡ value g next → StepLimits g × Segment list at (written_step g) next
unfolding read_step
step_sound list at g next e =
    bind_sound (between_law 1 6) at _ e λ kind mid h s e₁.
    choose kind 1 _ _ e₁ (λ k r. with_first StepLimits written_step g (rw k at s) (naming_sound 1 TAKE (λ i h. h) (λ i. refl) list mid g next r)) λ no₁ e₂.
    choose kind 2 _ _ e₂ (λ k r. with_first StepLimits written_step g (rw k at s) (naming_sound 2 FIELD (λ i h. h) (λ i. refl) list mid g next r)) λ no₂ e₃.
    choose kind 3 _ _ e₃ (λ k r. with_first StepLimits written_step g (rw k at s) (sum_sound list mid g next r)) λ no₃ e₄.
    choose kind 4 _ _ e₄ (λ k r. with_first StepLimits written_step g (rw k at s) (merge_sound list mid g next r)) λ no₄ e₅.
    choose kind 5 _ _ e₅ (λ k r. with_first StepLimits written_step g (rw k at s) (split_sound list mid g next r)) λ no₅ e₆.
    let k : kind ≡ 6 = omega arith in
    with_first StepLimits written_step g (rw k at s) (cross_sound list mid g next e₆)

step_complete : (list : List ℕ) (at : ℕ) (g : Step) (next : ℕ) → StepLimits g → Segment list at (written_step g) next → read_step list at ≡ value g next
unfolding read_step read_naming read_sum read_merge read_split read_cross
step_complete list at (TAKE i) next h s =
    bind_complete (between_law 1 6) _ 1 (i ∷ []) (omega arith) s λ m t.
    bind_last ingredient_number_law _ i h t
step_complete list at (FIELD i) next h s =
    bind_complete (between_law 1 6) _ 2 (i ∷ []) (omega arith) s λ m t.
    bind_last ingredient_number_law _ i h t
step_complete list at (SUM ds k) next h s =
    bind_complete (between_law 1 6) _ 3 (length ds ∷ ds ++ k ∷ []) (omega arith) s λ m t.
    bind_last sum_operands_law _ (ds, k) h t
step_complete list at (MERGE p cs) next (h₁, h₂, h₃) s =
    bind_complete (between_law 1 6) _ 4 (p ∷ cs) (omega arith) s λ m s₁.
    bind_complete merge_prime_law _ p cs h₁ s₁ λ m₁ s₂.
    bind_last (members_law (p + 1)) _ cs (h₂, h₃) s₂
step_complete list at (SPLIT c i) next (h₁, h₂) s =
    bind_complete (between_law 1 6) _ 5 (c ∷ i ∷ []) (omega arith) s λ m s₁.
    bind_complete (between_law 1 128) _ c (i ∷ []) h₁ s₁ λ m₁ s₂.
    bind_last ingredient_number_law _ i h₂ s₂
step_complete list at (CROSS ds k h) next (h₁, h₂) s =
    bind_complete (between_law 1 6) _ 6 (length ds ∷ ds ++ k ∷ h ∷ []) (omega arith) s λ m s₁.
    bind_complete sum_operands_law _ (ds, k) (h ∷ []) h₁ (rw append_assoc s₁) λ m₁ s₂.
    bind_last ingredient_number_law _ h h₂ s₂

pub step_law : Law read_step StepLimits written_step
step_law = record { sound = step_sound; complete = step_complete }
