-- Question 6 of MERGE, member by member: a member fits where its column is on the sheet, has p levels, and has no role yet.
-- Assumes nothing.
use mathlib.Core.Path.{◌≡◌, refl, sym, ◌∙◌, ap}
use mathlib.Core.Logic.{⊎_elim, by_cases}
use mathlib.Core.Bool.{Bool, true, false, cond, ◌||◌, not, or-false, or_assoc}
use mathlib.Core.List.Memᴰ
use mathlib.Core.List.{List, [], ◌∷◌, ◌++◌, Memᴰ}
use Prim.Native.Nat.{ℕ, zero, suc, ◌+◌, ◌≤◌, ◌<◌}
use native.Mathlib.Nat.{le_of_lt}
use native.Mathlib.Decide.{ℕ_discrete}
use native.Mathlib.Numerals.{add-one}
use native.Mathlib.Omega.{arith}
use borrow.Author.Count.{below_more}
use borrow.Author.Tests.{eq-eqb, ne_eqb, not-true, not-false}
use lib.Dec.{T, eqb}
use lib.ListN.{length, get_or, take, drop, set}
use lib.Seq.{length-take-le, take-suc, take_all, split_at, get_or-set_same, get_or-set_other}
use Rattle.galois.specs.Arithmetic.{member}
use Rattle.counting.specs.Table.{table_of}
use Rattle.step_tables.specs.Lists.{Distinct}
use Rattle.step_tables.specs.Merge.{MergeFits, merge_fits}
use Rattle.step_tables.proofs.Lists.{mem_get_d, mem_member, member_mem, distinct_append}
use Rattle.step_tables.proofs.StepQuestions.{merge_decides}
use Rattle.merge_questions.specs.Questions.{role_of, HasRoles}

-- ---- roles

-- a column without a role is no member
role_zero : (cs : List ℕ) (c : ℕ) → eqb (role_of cs c) 0 ≡ not (member c cs)
unfolding role_of
role_zero [] c = refl
role_zero (x ∷ cs) c = both (eqb c x) (member c cs)
  where
    both : (a b : Bool) → eqb (cond a 1 (cond b 2 0)) 0 ≡ not (a || b)
    both true b = refl
    both false true = refl
    both false false = refl

no_member : (cs : List ℕ) (c : ℕ) → role_of cs c ≡ 0 → member c cs ≡ false
no_member cs c e = not-true (member c cs) (sym (role_zero cs c) ∙ eq-eqb (role_of cs c) 0 e)

is_member : (cs : List ℕ) (c : ℕ) → (role_of cs c ≡ 0 → ⊥) → member c cs ≡ true
is_member cs c e = not-false (member c cs) (sym (role_zero cs c) ∙ ne_eqb (role_of cs c) 0 e)

member_last : (q c : ℕ) (cs : List ℕ) → member q (cs ++ (c ∷ [])) ≡ (member q cs || eqb q c)
member_last q c [] = or-false (eqb q c)
member_last q c (x ∷ cs) = rw (member_last q c cs) (sym (or_assoc (eqb q x) (member q cs) (eqb q c)))

-- a member more: the other columns keep their roles
role_other : (q c : ℕ) (cs : List ℕ) → (q ≡ c → ⊥) → role_of (cs ++ (c ∷ [])) q ≡ role_of cs q
unfolding role_of
role_other q c [] n = rw (ne_eqb q c n)
role_other q c (x ∷ cs) n = rw (member_last q c cs, ne_eqb q c n) (ap (λ b. cond (eqb q x) 1 (cond b 2 0)) (or-false (member q cs)))

-- its own is 1 if it is the first, and else 2
role_first : (c : ℕ) → role_of (c ∷ []) c ≡ 1
unfolding role_of
role_first c = rw (eq-eqb c c refl)

role_later : (c : ℕ) (cs : List ℕ) → 0 < length cs → member c cs ≡ false → role_of (cs ++ (c ∷ [])) c ≡ 2
unfolding role_of
role_later c [] h n = absurd (omega arith)
role_later c (x ∷ cs) h n = rw (member_last c c cs, eq-eqb c c refl) (pick (eqb c x) (member c cs) n)
  where
    pick : (a b : Bool) → (a || b) ≡ false → ◌≡◌ {A = ℕ} (cond a 1 (cond (b || true) 2 0)) 2
    pick true b e = absurd (let z : ◌≡◌ {A = ℕ} 0 1 = cc in omega arith)
    pick false true e = refl
    pick false false e = refl

-- ---- the members so far

mem_middle : (xs ys : List ℕ) (c : ℕ) → Memᴰ c (xs ++ c ∷ ys)
mem_middle [] ys c = Memᴰ.head refl
mem_middle (x ∷ xs) ys c = Memᴰ.tail (mem_middle xs ys c)

distinct_before : (xs ys : List ℕ) (c : ℕ) → Distinct (xs ++ c ∷ ys) → Memᴰ c xs → ⊥
distinct_before [] ys c u m = Memᴰ.not-nil m
distinct_before (x ∷ xs) ys c u m =
    ⊎_elim (λ (e : c ≡ x). u.0 (Memᴰ.cast (sym e) (mem_middle xs ys c))) (distinct_before xs ys c u.1) (Memᴰ.cases_cons m)

mem_place : (xs : List ℕ) {c : ℕ} → Memᴰ c xs → (k : ℕ) × (k < length xs) × (c ≡ get_or xs k 0)
mem_place [] m = absurd (Memᴰ.not-nil m)
mem_place (x ∷ xs) {c} m =
    ⊎_elim
    (λ (e : c ≡ x). (zero, omega arith, e))
    (λ t. let (k, h, e) = mem_place xs t in (suc k, omega arith, e))
    (Memᴰ.cases_cons m)

-- the first n members fit a sheet with these level counts, and have their roles
pub record RolesGiven (p : ℕ) (cs levels : List ℕ) (n : ℕ) (roles : List ℕ) : Type 0 where
  pub on_sheet : (k : ℕ) → k < n → get_or cs k 0 < length levels
  pub as_many : (k : ℕ) → k < n → get_or levels (get_or cs k 0) 0 ≡ p
  pub different : Distinct (take n cs)
  pub given : HasRoles (take n cs) roles

module _ (p : ℕ) (cs levels : List ℕ) where
  pub roles_none : {roles : List ℕ} → HasRoles [] roles → RolesGiven p cs levels 0 roles
  roles_none none =
      record { on_sheet = λ k h. absurd (omega arith); as_many = λ k h. absurd (omega arith); different = tt; given = none }

  refused : (MergeFits p cs (table_of [] levels 0) → ⊥) → false ≡ merge_fits p cs (table_of [] levels 0)
  refused not_so = pick (merge_fits p cs (table_of [] levels 0)) (λ t. not_so ((merge_decides p cs (table_of [] levels 0)).0 t))
    where
      pick : (b : Bool) → (T b → ⊥) → false ≡ b
      pick true f = absurd (f tt)
      pick false f = refl

  accepted : MergeFits p cs (table_of [] levels 0) → true ≡ merge_fits p cs (table_of [] levels 0)
  accepted f = pick (merge_fits p cs (table_of [] levels 0)) ((merge_decides p cs (table_of [] levels 0)).1 f)
    where
      pick : (b : Bool) → T b → true ≡ b
      pick true t = refl
      pick false t = absurd t

  -- member n, in column c
  module _ {roles : List ℕ} (n c : ℕ) (l : n < length cs) (e : c ≡ get_or cs n 0) (so_far : RolesGiven p cs levels n roles) where
    more : take (n + 1) cs ≡ take n cs ++ (c ∷ [])
    more = rw (add-one, e) (take-suc cs n 0 l)

    new : get_or roles c 0 ≡ 0 → member c (take n cs) ≡ false
    unfolding HasRoles
    new free = no_member (take n cs) c (sym (so_far.given c) ∙ free)

    given_next : (role : ℕ) → c < length roles → role_of (take n cs ++ (c ∷ [])) c ≡ role → HasRoles (take (n + 1) cs) (set roles c role)
    unfolding HasRoles
    given_next role h is q =
        rw more
        (by_cases (ℕ_discrete q c)
        (λ (s : q ≡ c). rw s (get_or-set_same roles c role 0 h ∙ sym is))
        (λ (s : q ≡ c → ⊥). get_or-set_other roles c q role 0 s ∙ so_far.given q ∙ sym (role_other q c (take n cs) s)))

    different_next : member c (take n cs) ≡ false → Distinct (take (n + 1) cs)
    different_next apart =
        rw more
        (distinct_append (take n cs) (c ∷ []) so_far.different (Memᴰ.not-nil, tt) (λ x m s.
        rw apart at (mem_member (Memᴰ.cast (sym (Memᴰ.eq_of_singleton s)) m))))

    pub roles_next : {role : ℕ} → c < length levels → get_or levels c 0 ≡ p → get_or roles c 0 ≡ 0 → c < length roles
        → (n ≡ 0 → role ≡ 1) → ((n ≡ 0 → ⊥) → role ≡ 2) → RolesGiven p cs levels (n + 1) (set roles c role)
    roles_next {role} below many free h first later =
        record {
          on_sheet = below_more _ n so_far.on_sheet (rw (← e) below);
          as_many = below_more _ n so_far.as_many (rw (← e) many);
          different = different_next (new free);
          given = given_next role h (by_cases (ℕ_discrete n 0)
              (λ (z : n ≡ 0). rw (z, first z) (role_first c))
              (λ (z : n ≡ 0 → ⊥). rw (later z) (role_later c (take n cs) (rw (length-take-le n cs (le_of_lt l)) (omega arith)) (new free))));
        }

    -- what keeps member n from fitting
    pub off_sheet : length levels ≤ c → false ≡ merge_fits p cs (table_of [] levels 0)
    unfolding table_of
    off_sheet h = refused (λ f. let below = f.on_sheet (get_or cs n 0) (mem_get_d cs n 0 l) in omega arith)

    pub other_levels : (get_or levels c 0 ≡ p → ⊥) → false ≡ merge_fits p cs (table_of [] levels 0)
    unfolding table_of
    other_levels not_so = refused (λ f. not_so (rw e (f.levels (get_or cs n 0) (mem_get_d cs n 0 l))))

    pub named_twice : (get_or roles c 0 ≡ 0 → ⊥) → false ≡ merge_fits p cs (table_of [] levels 0)
    unfolding HasRoles
    named_twice taken =
        let before : member c (take n cs) ≡ true = is_member (take n cs) c (λ z. taken (so_far.given c ∙ z)) in
        refused (λ f.
        distinct_before (take n cs) (drop (suc n) cs) c (rw (split_at cs n 0 l, ← e) at f.different) (member_mem c (take n cs) (rw before tt)))

  -- all members fit
  module _ {roles : List ℕ} (n : ℕ) (l : length cs ≤ n) (so_far : RolesGiven p cs levels n roles) where
    pub fits_all : length cs ≡ p + 1 → true ≡ merge_fits p cs (table_of [] levels 0)
    unfolding table_of
    fits_all many =
        accepted
        (record {
          many = many;
          on_sheet = λ c m. let (k, h, e) = mem_place cs m in rw e (so_far.on_sheet k (omega arith));
          different = rw (take_all n cs l) at so_far.different;
          levels = λ c m. let (k, h, e) = mem_place cs m in rw e (so_far.as_many k (omega arith));
        })

    pub roles_all : HasRoles cs roles
    roles_all = rw (take_all n cs l) at so_far.given
