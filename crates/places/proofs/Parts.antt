-- The parts of an order that was read: what each reader gave on the way.
use mathlib.Core.Path.{◌≡◌, refl, sym, ap, ◌∙◌}
use mathlib.Core.List.{List}
use Prim.Native.Nat.{ℕ}
use native.Mathlib.Omega.{arith}
use lib.Dec.{ltb}
use lib.ListN.{length}
use Rattle.order.specs.Order.{Order}
use Rattle.order.specs.Reader.{Parsed, value, refused, Reader, continue, allowed, repeated}
use Rattle.order.specs.Grammar.{between, counted, read_ingredient, read_step, read_parts, read_order}
use Rattle.order.specs.Grammar
use Rattle.order.specs.Answers.{reading_of}
use Rattle.std.specs.Prelude.{Ok, Err}
use Rattle.order.specs.declared.Refused.{Refused}
use Rattle.order.proofs.Answers.{refusal_same, apart}
use Rattle.order.proofs.Law.{times_law, refused_no_value}
use Rattle.order.proofs.ByKind.{between_law}
use Rattle.order.proofs.IngredientLaw.{ingredient_law}
use Rattle.order.proofs.StepLaw.{step_law}
use Rattle.order.proofs.OrderLaw.{ingredients_law, unless_value, read_to_end}
use Rattle.places.specs.Places.{first_step_place}

-- A value comes of the value before it.
pub continued : {A B C : Type 0} (p : Parsed A) (k : A → ℕ → Parsed B) {b : B} {next : ℕ} → continue p k ≡ value b next → ((a : A) (mid : ℕ) → p ≡ value a mid → k a mid ≡ value b next → C) → C
continued (value a mid) k e found = found a mid refl e
continued (refused place) k e found = absurd (refused_no_value e)

-- How many there are, and they.
pub counted_parts : {A C : Type 0} (low high : ℕ) (r : Reader A) (list : List ℕ) (at : ℕ) {xs : List A} {next : ℕ} → counted low high r list at ≡ value xs next → ((n mid : ℕ) → allowed (between low high) list at ≡ value n mid → repeated n r list mid ≡ value xs next → C) → C
counted_parts low high r list at e found = continued (allowed (between low high) list at) _ e found

-- The ingredients and the steps.
pub order_parts : {C : Type 0} (list : List ℕ) (o : Order) (next : ℕ) → read_order list ≡ value o next → ((mid end : ℕ) → counted 0 32 read_ingredient list 0 ≡ value o.ingredients mid → counted 1 16 read_step list mid ≡ value o.steps end → C) → C
unfolding read_order read_parts
order_parts {C} list o next e found =
    let short = unless_value (ltb 32768 (length list)) 32768 _ e in
    continued (read_parts list 0) _ short.1 λ o' last e₁ e₂.
    let whole = unless_value (ltb last (length list)) last _ e₂ in
    continued (counted 0 32 read_ingredient list 0) _ e₁ λ gs mid v₁ e₃.
    continued (counted 1 16 read_step list mid) _ e₃ λ ss end v₂ e₄.
    let gs_are : gs ≡ o.ingredients = ap_ingredients e₄ whole.1 in
    let ss_are : ss ≡ o.steps = ap_steps e₄ whole.1 in
    found mid end (v₁ ∙ rw gs_are) (v₂ ∙ rw ss_are)
  where
    ap_ingredients : {o₁ o₂ o₃ : Order} {a b c d : ℕ} → value o₁ a ≡ value o₂ b → value o₂ c ≡ value o₃ d → o₁.ingredients ≡ o₃.ingredients
    ap_ingredients {o₁} {o₂} {o₃} e f = let p : o₁ ≡ o₂ = cc in let q : o₂ ≡ o₃ = cc in rw (p, q)

    ap_steps : {o₁ o₂ o₃ : Order} {a b c d : ℕ} → value o₁ a ≡ value o₂ b → value o₂ c ≡ value o₃ d → o₁.steps ≡ o₃.steps
    ap_steps {o₁} {o₂} {o₃} e f = let p : o₁ ≡ o₂ = cc in let q : o₂ ≡ o₃ = cc in rw (p, q)

-- A list that reads is the writing of an order.
pub reading_order : {C : Type 0} (p : Parsed Order) → reading_of p ≡ Ok tt → ((o : Order) (next : ℕ) → p ≡ value o next → C) → C
unfolding reading_of
reading_order (value o next) e found = found o next refl
reading_order (refused place) e found = absurd (let z : ◌≡◌ {A = ℕ} 0 1 = cc in omega arith)

pub reading_reads : {C : Type 0} (list : List ℕ) → reading_of (read_order list) ≡ Ok tt → ((o : Order) → Grammar.Reads list o → C) → C
reading_reads list e found = reading_order (read_order list) e λ o next v. found o (read_to_end list o next v)

pub reading_refused : (p : Parsed Order) {refusal : Refused} → reading_of p ≡ Err refusal → p ≡ refused refusal.place
unfolding reading_of
reading_refused (value o next) e = apart e
reading_refused (refused here) e = ap (λ r. refused r.place) (refusal_same e)

-- How many ingredients there are, and that they read from place 1 on.
pub ingredients_parts : {C : Type 0} (list : List ℕ) (o : Order) (next : ℕ) → read_order list ≡ value o next → ((mid : ℕ) → allowed (between 0 32) list 0 ≡ value (length o.ingredients) 1 → repeated (length o.ingredients) read_ingredient list 1 ≡ value o.ingredients mid → C) → C
ingredients_parts list o next e found =
    order_parts list o next e λ mid end first second.
    counted_parts 0 32 read_ingredient list 0 first λ n m v w.
    let many : n ≡ length o.ingredients = sym ((times_law ingredient_law n).sound list m o.ingredients mid w).0.0 in
    let one : m ≡ 1 = ((between_law 0 32).sound list 0 n m v).1.after in
    found mid (v ∙ rw (many, one)) (rw (← many, ← one) w)

-- How many steps there are, after the ingredients, and that they read from the place after that number on.
pub steps_parts : {C : Type 0} (list : List ℕ) (o : Order) (next : ℕ) → read_order list ≡ value o next → ((mid end : ℕ) → counted 0 32 read_ingredient list 0 ≡ value o.ingredients mid → allowed (between 1 16) list mid ≡ value (length o.steps) (first_step_place o) → repeated (length o.steps) read_step list (first_step_place o) ≡ value o.steps end → C) → C
steps_parts list o next e found =
    order_parts list o next e λ mid end first second.
    counted_parts 1 16 read_step list mid second λ n m v w.
    let many : n ≡ length o.steps = sym ((times_law step_law n).sound list m o.steps end w).0.0 in
    let after = (ingredients_law.sound list 0 o.ingredients mid first).1.after in
    let there : m ≡ first_step_place o = omega (arith, ((between_law 1 16).sound list mid n m v).1.after, after) in
    found mid end first (v ∙ rw (many, there)) (rw (← many, ← there) w)

-- All ingredients, and all steps, read.
pub ingredients_times : (list : List ℕ) (o : Order) (next : ℕ) → read_order list ≡ value o next → (end : ℕ) × (repeated (length o.ingredients) read_ingredient list 1 ≡ value o.ingredients end)
ingredients_times list o next e = ingredients_parts list o next e λ mid count read. (mid, read)

pub steps_times : (list : List ℕ) (o : Order) (next : ℕ) → read_order list ≡ value o next → (end : ℕ) × (repeated (length o.steps) read_step list (first_step_place o) ≡ value o.steps end)
steps_times list o next e = steps_parts list o next e λ mid end first count read. (end, read)
