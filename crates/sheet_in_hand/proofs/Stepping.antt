-- One step of the list: where it stands, and whether its kind may stand at its number.
-- Assumes nothing.
use Rattle.std.specs.Prelude.{Some, None}
use mathlib.Core.Path.{◌≡◌, refl, sym, ◌∙◌, ap}
use mathlib.Core.Logic.{◌≢◌, ◌⊎◌, inl, inr, ⊎_elim, by_cases}
use mathlib.Core.Bool.{Bool, true, false, true≢false}
use mathlib.Core.List.{List}
use mathlib.Core.Option.{Option, none, some}
use Prim.Native.Nat.{ℕ, zero, suc, ◌+◌, ◌-◌, ◌≤◌}
use native.Mathlib.Decide.{ℕ_discrete, dec_lt}
use native.Mathlib.Omega.{arith}
use borrow.Author.Tests.{leb-false, lt-leb, eq-eqb, ne_eqb}
use lib.Dec.{eqb, leb, lit≤}
use lib.ListN.{get_elem?}
use Rattle.counting.specs.Table.{Table}
use Rattle.order.specs.Order.{Step, TAKE, FIELD, SUM, MERGE, SPLIT, CROSS}
use Rattle.order.specs.Reader.{when}
use Rattle.order.specs.Answers.{kind_of}
use Rattle.order.specs.Grammar.{read_order}
use Rattle.places.specs.Places.{step_at, step_in, operands_of}
use Rattle.order.specs.declared.Stage.{Stage}
use Rattle.places.proofs.Stands.{step_described}
use Rattle.sheets.specs.Steps.{refused, provided, opening, operation, sized, first_step, later_step}
use Rattle.sheets.specs.declared.answer.Refusal.TheVariants.{StepNotAllowed}
use Rattle.layout.specs.Bytes.{sheet_in}
use Rattle.layout.specs.Step.{Readable, Stands, first_in, later_in}
use Rattle.layout.specs.declared.Size.{Size}
use Rattle.layout.proofs.Operands.{in_order_lem, first_in_lem, later_in_lem, stands_step}
use Rattle.sheet_in_hand.specs.Stepping.{kind_allowed, step_on, in_hand, numbered_in, proceed_in}

-- ---- single steps of the list

kinds : (s : Step) → (1 ≤ kind_of s) × (kind_of s ≤ 6)
kinds (TAKE i) = (lit≤ tt, lit≤ tt)
kinds (FIELD i) = (lit≤ tt, lit≤ tt)
kinds (SUM ds k) = (lit≤ tt, lit≤ tt)
kinds (MERGE p cs) = (lit≤ tt, lit≤ tt)
kinds (SPLIT c i) = (lit≤ tt, lit≤ tt)
kinds (CROSS ds k h) = (lit≤ tt, lit≤ tt)

one_or_two : (n : ℕ) → 1 ≤ n → n ≤ 2 → (n ≡ 1) ⊎ (n ≡ 2)
one_or_two n low high = by_cases (dec_lt n 2) (λ one. inl (omega arith)) (λ more. inr (omega arith))

-- m is passed over
above : {n : ℕ} (m : ℕ) → m ≤ n → n ≢ m → m + 1 ≤ n
above m low other = omega (arith, other)

-- kinds 1 and 2 are allowed of the first step alone, and kinds from 3 on of the others
module _ (n kind : ℕ) where
  allowed_one : n ≡ 1 → kind_allowed n kind ≡ leb kind 2
  unfolding kind_allowed
  allowed_one one = rw (eq-eqb n 1 one)

  allowed_other : n ≢ 1 → kind_allowed n kind ≡ leb 3 kind
  unfolding kind_allowed
  allowed_other other = rw (ne_eqb n 1 other)

  pub allowed_first : kind_allowed n kind ≡ true → kind ≤ 2 → n ≡ 1
  allowed_first allowed low =
      by_cases (ℕ_discrete n 1) (λ one. one) (λ other. absurd (true≢false (sym allowed ∙ allowed_other other ∙ lt-leb 3 kind (omega arith))))

  pub allowed_later : kind_allowed n kind ≡ true → 3 ≤ kind → n ≢ 1
  allowed_later allowed high one = true≢false (sym allowed ∙ allowed_one one ∙ lt-leb kind 2 (omega arith))

module _ {list : List ℕ} (read : Readable list) where
  -- what a look-up of step number k + 1 gives
  looked_up : (k : ℕ) (s : Stage) → step_at (read_order list) (suc k) ≡ Some s → get_elem? read.order.steps k ≡ some (operands_of list s.kind s.operands_at)
  looked_up k s found = sym (step_described list read.order read.reads k) ∙ ap (step_in list) found

  not_there : (k : ℕ) → step_at (read_order list) (suc k) ≡ None → get_elem? read.order.steps k ≡ none
  not_there k found = sym (step_described list read.order read.reads k) ∙ ap (step_in list) found

  -- step number k + 1 by what the look-up gives
  proceed_next : (k : ℕ) (hand : Option Table) {found : Option Step} → get_elem? read.order.steps k ≡ found
      → proceed_in list (suc k) hand ≡ provided found (StepNotAllowed (suc k)) (step_on read.order (suc k) hand)
  unfolding proceed_in
  proceed_next k hand there =
      in_order_lem read _
      ∙ ap (λ j. provided (get_elem? read.order.steps j) (StepNotAllowed (suc k)) (step_on read.order (suc k) hand)) (let same : suc k - 1 ≡ k = omega arith in same)
      ∙ ap (λ x. provided x (StepNotAllowed (suc k)) (step_on read.order (suc k) hand)) there

  pub proceed_found : (n : ℕ) → 1 ≤ n → (hand : Option Table) (s : Stage) → step_at (read_order list) n ≡ Some s
      → proceed_in list n hand ≡ numbered_in list n hand s.kind s.operands_at
  unfolding provided numbered_in
  proceed_found zero h hand s found = absurd (omega arith)
  proceed_found (suc k) h hand s found = proceed_next k hand (looked_up k s found) ∙ sym (in_order_lem read _)

  pub proceed_missing : (n : ℕ) → 1 ≤ n → (hand : Option Table) → step_at (read_order list) n ≡ None → proceed_in list n hand ≡ refused (StepNotAllowed n)
  unfolding provided
  proceed_missing zero h hand found = absurd (omega arith)
  proceed_missing (suc k) h hand found = proceed_next k hand (not_there k found)

  -- ---- steps of other kinds

  closed : (b d e : Bool) (ds cs es : List ℕ) (k p c i l h : ℕ)
      → opening read.order (when b (SUM ds k) (when d (MERGE p cs) (when e (SPLIT c i) (CROSS es l h)))) ≡ none
  unfolding opening
  closed true d e ds cs es k p c i l h = refl
  closed false true e ds cs es k p c i l h = refl
  closed false false true ds cs es k p c i l h = refl
  closed false false false ds cs es k p c i l h = refl

  -- a first step of kind 3 to 6
  first_refused : (kind at : ℕ) → kind ≢ 1 → kind ≢ 2 → first_in list kind at ≡ refused (StepNotAllowed 1)
  unfolding first_step provided
  first_refused kind at one two =
      first_in_lem read kind at
      ∙ rw (ne_eqb kind 1 one, ne_eqb kind 2 two) (ap (λ x. provided x (StepNotAllowed 1) (sized 1)) (closed (eqb kind 3) (eqb kind 4) (eqb kind 5) _ _ _ _ _ _ _ _ _))

  -- the kind of a step that stands in the list
  stands_kind : (kind at : ℕ) → Stands list kind at → (1 ≤ kind) × (kind ≤ 6)
  stands_kind kind at stands =
      stands_step read stands λ place after same there limits segment.
      rw (← same) at (kinds (operands_of list kind at))

  -- a later step of kind 1 or 2
  later_refused : (n : ℕ) (S : Table) (kind at : ℕ) → Stands list kind at → kind ≤ 2 → later_in list n S kind at ≡ refused (StepNotAllowed n)
  unfolding later_step provided operation
  later_refused n S kind at stands low =
      later_in_lem read kind at n S
      ∙ ⊎_elim (λ (e : kind ≡ 1). rw e) (λ (e : kind ≡ 2). rw e) (one_or_two kind (stands_kind kind at stands).0 low)

  pub no_other_kind : {kind at : ℕ} → Stands list kind at → kind ≢ 1 → kind ≢ 2 → kind ≢ 3 → kind ≢ 4 → kind ≢ 5 → kind ≢ 6 → ⊥
  no_other_kind {kind} {at} stands one two three four five six =
      let (low, high) = stands_kind kind at stands in
      let past : 7 ≤ kind = above 6 (above 5 (above 4 (above 3 (above 2 (above 1 low one) two) three) four) five) six in
      omega arith

-- ---- step number n on the sheet in hand

module _ (list : List ℕ) (n : ℕ) (size : Size) (table levels : List ℕ) (kind at : ℕ) where
  pub numbered_first : n ≡ 1 → numbered_in list n (in_hand n size table levels) kind at ≡ first_in list kind at
  unfolding numbered_in in_hand first_in step_on
  numbered_first one = rw one

  pub numbered_later : n ≢ 1 → numbered_in list n (in_hand n size table levels) kind at ≡ later_in list n (sheet_in table levels size) kind at
  unfolding numbered_in in_hand later_in step_on
  numbered_later other = rw (ne_eqb n 1 other)

  pub numbered_refused : Readable list → Stands list kind at → kind_allowed n kind ≡ false
      → numbered_in list n (in_hand n size table levels) kind at ≡ refused (StepNotAllowed n)
  numbered_refused read stands not_allowed =
      by_cases (ℕ_discrete n 1)
      (λ one.
      let high = leb-false kind 2 (sym (allowed_one n kind one) ∙ not_allowed) in
      numbered_first one ∙ first_refused read kind at (λ e. omega arith) (λ e. omega arith) ∙ ap (λ m. refused (StepNotAllowed m)) (sym one))
      (λ other.
      let low = leb-false 3 kind (sym (allowed_other n kind other) ∙ not_allowed) in
      numbered_later other ∙ later_refused read n (sheet_in table levels size) kind at stands (omega arith))
