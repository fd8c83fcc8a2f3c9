-- The list reads as the order o exactly where it has at most 32,768 numbers and is the writing of o, which is within its limits.
use mathlib.Core.Path.{◌≡◌, refl, sym, ◌∙◌}
use mathlib.Core.Logic.{◌↔◌}
use mathlib.Core.Bool.{Bool, true, false}
use mathlib.Core.List.{List, [], ◌∷◌, append-nil}
use Prim.Native.Nat.{ℕ, ◌≤◌}
use native.Mathlib.Nat.{le_refl}
use native.Mathlib.Omega.{arith}
use borrow.Author.Tests.{le-ltb, ltb-false}
use lib.Dec.{ltb}
use lib.ListN.{length, drop, drop_of_length-le}
use Rattle.order.specs.Order.{Order, All, Between, WithinLimits, IngredientLimits, StepLimits, written_ingredient, written_step, written_all, written}
use Rattle.order.specs.Reader.{Parsed, value, refused, when}
use Rattle.order.specs.Grammar.{counted, read_ingredient, read_step, read_parts, read_order, Reads}
use Rattle.order.proofs.Segment.{Segment, segment_whole, join}
use Rattle.order.proofs.Law.{Law, times_law, same_value, refused_no_value, bind_sound, bind_last, bind_complete}
use Rattle.order.proofs.ByKind.{counted_law}
use Rattle.order.proofs.IngredientLaw.{ingredient_law}
use Rattle.order.proofs.StepLaw.{step_law}

pub ingredients_law : Law (counted 0 32 read_ingredient) (λ gs. Between 0 32 (length gs) × All IngredientLimits gs) (λ gs. length gs ∷ written_all written_ingredient gs)
ingredients_law = counted_law 0 32 (times_law ingredient_law)

steps_law : Law (counted 1 16 read_step) (λ ss. Between 1 16 (length ss) × All StepLimits ss) (λ ss. length ss ∷ written_all written_step ss)
steps_law = counted_law 1 16 (times_law step_law)

parts_sound : (list : List ℕ) (at : ℕ) (o : Order) (next : ℕ) → read_parts list at ≡ value o next → WithinLimits o × Segment list at (written o) next
unfolding read_parts written
parts_sound list at o next e =
    bind_sound ingredients_law at _ e λ ingredients m₁ h₁ s₁ e₁.
    bind_sound steps_law m₁ _ e₁ λ steps m₂ h₂ s₂ e₂.
    same_value (λ o next. WithinLimits o × Segment list at (written o) next) e₂ (
      record {
        ingredient_count = h₁.0.1;
        each_ingredient = h₁.1;
        step_count = h₂.0;
        each_step = h₂.1;
      },
      join s₁ s₂,
    )

parts_complete : (list : List ℕ) (at : ℕ) (o : Order) (next : ℕ) → WithinLimits o → Segment list at (written o) next → read_parts list at ≡ value o next
unfolding read_parts written
parts_complete list at o next h s =
    bind_complete ingredients_law _ o.ingredients (length o.steps ∷ written_all written_step o.steps)
    ((omega arith, h.ingredient_count), h.each_ingredient) s λ m₁ s₁.
    bind_last steps_law _ o.steps (h.step_count, h.each_step) s₁

pub parts_law : Law read_parts WithinLimits written
parts_law = record { sound = parts_sound; complete = parts_complete }

-- A value comes only of the branch that can give one.
pub unless_value : {A : Type 0} (b : Bool) (place : ℕ) (p : Parsed A) {a : A} {next : ℕ} → when b (refused place) p ≡ value a next → (b ≡ false) × (p ≡ value a next)
unless_value true place p e = absurd (refused_no_value e)
unless_value false place p e = (refl, e)

reads_sound : (list : List ℕ) (o : Order) → Reads list o → (length list ≤ 32768) × WithinLimits o × (written o ≡ list)
unfolding read_order
reads_sound list o e =
    let short = unless_value (ltb 32768 (length list)) 32768 _ e in
    bind_sound parts_law 0 _ short.1 λ o' mid h s e₁.
    let whole = unless_value (ltb mid (length list)) mid _ e₁ in
    let ends : drop mid list ≡ [] = drop_of_length-le list (ltb-false mid (length list) whole.0) in
    let all : written o' ≡ list = sym (append-nil (written o')) ∙ sym (s.content ∙ rw ends) in
    same_value (λ o next. (length list ≤ 32768) × WithinLimits o × (written o ≡ list)) whole.1
    (ltb-false 32768 (length list) short.0, h, all)

reads_complete : (list : List ℕ) (o : Order) → (length list ≤ 32768) × WithinLimits o × (written o ≡ list) → Reads list o
unfolding read_order
reads_complete list o (short, h, same) =
    let s : Segment list 0 (written o) (length list) = rw same (segment_whole list) in
    rw (le-ltb 32768 (length list) short)
    (bind_last parts_law _ o h s ∙ rw (le-ltb (length list) (length list) (le_refl _)))

-- The meaning of "the list reads" (question 2).
pub reads_iff : (list : List ℕ) (o : Order) → Reads list o ↔ (length list ≤ 32768) × WithinLimits o × (written o ≡ list)
reads_iff list o = (reads_sound list o, reads_complete list o)

-- Whatever is read is read to the end.
pub read_to_end : (list : List ℕ) (o : Order) (next : ℕ) → read_order list ≡ value o next → Reads list o
unfolding read_order
read_to_end list o next e =
    let short = unless_value (ltb 32768 (length list)) 32768 _ e in
    bind_sound parts_law 0 _ short.1 λ o' mid h s e₁.
    let whole = unless_value (ltb mid (length list)) mid _ e₁ in
    let ends : next ≡ length list = ends_there whole.1 in
    e ∙ rw ends
  where
    ends_there : {a b : Order} {last there : ℕ} → value a last ≡ value b there → there ≡ last
    ends_there e = cc

-- The order is the only one.
pub reads_one : (list : List ℕ) (o o' : Order) → Reads list o → Reads list o' → o ≡ o'
reads_one list o o' e e' = cc
