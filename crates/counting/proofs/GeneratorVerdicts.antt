-- The verdict on a generator passes exactly when any two of its factors, or its only one, are independent; otherwise it names the first
-- dependence.
-- Assumes nothing.
use mathlib.Core.Path.{◌≡◌, refl, sym, ◌∙◌, ap, subst}
use mathlib.Core.Logic.{◌↔◌, by_cases, ⊎_elim}
use mathlib.Core.Bool.{Bool, true, false, cond, ◌&&◌}
use mathlib.Core.List.{List, [], ◌∷◌}
use mathlib.Core.Option.{Option, none, some, map, none-ne-some, some-ne-none, some-injective, map-eq-none_iff, map-eq-some_iff}
use Prim.Native.Nat.{ℕ, ◌^◌, ◌<◌}
use native.Mathlib.Nat.{eq-zero-or-pos, lt_irrefl, one-le-pow}
use native.Mathlib.Decide.{ℕ_discrete}
use native.Mathlib.Omega.{arith}
use borrow.Author.Tests.{eq-eqb, ne_eqb}
use lib.Arith.{lt-one}
use lib.Dec.{T, ltb, eqb→eq, lt→ltb, ltb→lt, lit<}
use lib.ListN.{length}
use Rattle.std.specs.Prelude.{Ok, Err}
use Rattle.finite.specs.First.{first_pair}
use Rattle.finite.specs.Digits.{digits, numeral}
use Rattle.finite.specs.Lists.{AllBelow}
use Rattle.finite.proofs.Tests.{T_and, every_all, all_every}
use Rattle.finite.proofs.Firsts.{first_none, none_below, found_least, pair_none, none_pair, found_pair}
use Rattle.finite.proofs.Lists.{Below, all_below, each_below, all_zero, below_replicate}
use Rattle.finite.proofs.Digits.{digits_length, digits_zero, digits_below, numeral_below, digits_numeral, digits_injective}
use Rattle.galois.specs.Arithmetic.{field_sum, field_product}
use Rattle.counting.specs.Generator.{Generator, factors, columns_of, Increasing, IndependentColumns, Independent}
use Rattle.counting.specs.GeneratorVerdict.{combines_to_zero, dependence, pair_dependence, only_dependence, generator_fault, generator_finding, generator_verdict}
use Rattle.counting.specs.Failures.{Combines, LeastDependence, FirstDependence, only, two}
use Rattle.counting.specs.declared.verdict.DependenceFault.{DependenceFault}

cond_none : {A : Type 0} (b : Bool) (a : A) → cond b (some a) none ≡ none → T b → ⊥
cond_none true a e t = some-ne-none a e
cond_none false a e t = t

none_cond : {A : Type 0} (b : Bool) (a : A) → (T b → ⊥) → cond b (some a) none ≡ none
none_cond true a n = absurd (n tt)
none_cond false a n = refl

cond_some : {A : Type 0} (b : Bool) (a x : A) → cond b (some a) none ≡ some x → T b × (a ≡ x)
cond_some true a x e = (tt, some-injective a x e)
cond_some false a x e = absurd (none-ne-some x e)

module _ (plus times : ℕ → ℕ → ℕ) (G : Generator) (positive : 0 < G.size) where
  -- the test says what it tests
  test_combines : (cs : List ℕ) (v : ℕ) → T (combines_to_zero plus times G cs v) → Combines plus times G cs v
  unfolding combines_to_zero Combines
  test_combines cs v t r h = eqb→eq _ _ (all_every G.coordinates _ t r h)

  combines_test : (cs : List ℕ) (v : ℕ) → Combines plus times G cs v → T (combines_to_zero plus times G cs v)
  unfolding combines_to_zero Combines
  combines_test cs v e = every_all G.coordinates _ (λ r h. rw (e r h) tt)

  -- v names coefficients, not all zero, that combine the columns to zero
  abbrev dependent : List ℕ → ℕ → Bool
  dependent cs v = ltb 0 v && combines_to_zero plus times G cs v

  dependent_test : (cs : List ℕ) (v : ℕ) → 0 < v → Combines plus times G cs v → T (dependent cs v)
  dependent_test cs v p e = (T_and (ltb 0 v) _).1 (lt→ltb 0 v p, combines_test cs v e)

  test_dependent : (cs : List ℕ) (v : ℕ) → T (dependent cs v) → (0 < v) × Combines plus times G cs v
  test_dependent cs v t =
      let both = (T_and (ltb 0 v) _).0 t in
      (ltb→lt 0 v both.0, test_combines cs v both.1)

  -- a coefficient list is the digits of its number
  list_number : (cs ks : List ℕ) → length ks ≡ length cs → Below G.size ks → digits G.size (length cs) (numeral G.size ks) ≡ ks
  list_number cs ks e b = rw (← e) (digits_numeral positive b)

  number_below : (cs ks : List ℕ) → length ks ≡ length cs → Below G.size ks → numeral G.size ks < G.size ^ length cs
  number_below cs ks e b = rw (← e) (numeral_below b)

  -- digits that are all zero are those of 0
  zero_number : (n v : ℕ) → v < G.size ^ n → AllBelow 1 (digits G.size n v) → v ≡ 0
  zero_number n v h z =
      digits_injective positive n h (one-le-pow n G.size positive)
      (all_zero (all_below _ z) ∙ rw digits_length (sym (digits_zero G.size n)))

  zero_list : (n : ℕ) → AllBelow 1 (digits G.size n 0)
  zero_list n = rw digits_zero (each_below (below_replicate n (lit< tt)))

  -- no dependence is found exactly where the columns are independent
  pub none_independent : (cs : List ℕ) → dependence plus times G cs ≡ none → IndependentColumns plus times G cs
  unfolding dependence IndependentColumns Combines
  none_independent cs e ks same below vanish =
      let b = all_below ks below in
      let v = numeral G.size ks in
      let back = list_number cs ks same b in
      ⊎_elim
      (λ (z : v ≡ 0). rw back at (rw (← z) at (zero_list (length cs))))
      (λ (p : 0 < v). absurd
      (cond_none (dependent cs v) v (none_below _ _ e v (number_below cs ks same b))
      (dependent_test cs v p (λ r h. rw back (vanish r h)))))
      (eq-zero-or-pos v)

  pub independent_none : (cs : List ℕ) → IndependentColumns plus times G cs → dependence plus times G cs ≡ none
  unfolding dependence IndependentColumns Combines
  independent_none cs i =
      first_none _ _
      (λ v h. none_cond (dependent cs v) v
      (λ t. let d = test_dependent cs v t in
      lt_irrefl 0 (rw (zero_number (length cs) v h
      (i (digits G.size (length cs) v) (digits_length G.size (length cs) v) (each_below (digits_below positive (length cs) v)) d.1)) at d.0)))

  -- what is found is the least dependence
  pub found_dependence : (cs : List ℕ) (v : ℕ) → dependence plus times G cs ≡ some v → LeastDependence plus times G cs v
  unfolding dependence
  found_dependence cs v e =
      let l = found_least _ _ v e in
      let c = cond_some (dependent cs l.place) l.place v l.there in
      subst (LeastDependence plus times G cs) c.1
      (record {
        number_in = l.below;
        nonzero = (test_dependent cs l.place c.0).0;
        combines = (test_dependent cs l.place c.0).1;
        least = λ w p h k. cond_none (dependent cs w) w (l.before w h) (dependent_test cs w p k);
      })

  pair_independent : (i j : ℕ) → pair_dependence plus times G i j ≡ none → IndependentColumns plus times G (columns_of G.widths (i ∷ j ∷ []))
  pair_independent i j e = none_independent _ ((map-eq-none_iff _ _).0 e)

  -- ---- the factors that are tried are those of which the definition speaks
  pub fault_only : factors G ≡ 1 → generator_fault plus times G ≡ only_dependence plus times G
  unfolding generator_fault
  fault_only e = rw (eq-eqb (factors G) 1 e)

  pub fault_pairs : (factors G ≡ 1 → ⊥) → generator_fault plus times G ≡ first_pair (factors G) (pair_dependence plus times G)
  unfolding generator_fault
  fault_pairs n = rw (ne_eqb (factors G) 1 n)

  pub no_columns : IndependentColumns plus times G []
  unfolding IndependentColumns AllBelow
  no_columns ks e below vanish k h = absurd (omega arith)

  faults_independent : generator_fault plus times G ≡ none → Independent plus times 2 G
  unfolding Independent Increasing columns_of
  faults_independent e [] few up = no_columns
  faults_independent e (i ∷ []) few up =
      rw (lt-one {n = i} (omega arith)) (none_independent _ ((map-eq-none_iff _ _).0 (sym (fault_only (omega arith)) ∙ e)))
  faults_independent e (i ∷ j ∷ []) few up =
      pair_independent i j (none_pair _ _ (sym (fault_pairs (λ n. omega arith)) ∙ e) i j up.0 up.1)
  faults_independent e (i ∷ j ∷ k ∷ is) few up = absurd (omega arith)

  independent_faults : Independent plus times 2 G → generator_fault plus times G ≡ none
  unfolding Independent Increasing
  independent_faults i =
      by_cases (ℕ_discrete (factors G) 1)
      (λ (e : factors G ≡ 1). fault_only e ∙ ap (map _) (independent_none _ (i (0 ∷ []) (omega arith) (omega arith))))
      (λ (n : factors G ≡ 1 → ⊥). fault_pairs n
      ∙ pair_none _ _ (λ a b h k. ap (map _) (independent_none _ (i (a ∷ b ∷ []) (omega arith) (h, k)))))

  -- ---- what is found is the first failure
  first_dependence : (fault : DependenceFault) → generator_fault plus times G ≡ some fault → FirstDependence plus times G fault
  first_dependence fault e =
      by_cases (ℕ_discrete (factors G) 1)
      (λ (o : factors G ≡ 1).
      let m = (map-eq-some_iff _ _).0 (sym (fault_only o) ∙ e) in
      subst (FirstDependence plus times G) m.2 (only m.0 o (found_dependence _ m.0 m.1)))
      (λ (n : factors G ≡ 1 → ⊥).
      let l = found_pair _ _ fault (sym (fault_pairs n) ∙ e) in
      let m = (map-eq-some_iff _ _).0 l.there in
      subst (FirstDependence plus times G) m.2
      (two l.one l.other m.0 l.ordered l.below (found_dependence _ m.0 m.1)
      (λ a b h g k. pair_independent a b (l.earlier a b h g k))
      (λ b g h. pair_independent l.one b (l.nearer b g h))))

-- ---- the verdict, over the seven fields
passes_none : (o : Option DependenceFault) → generator_finding o ≡ Ok tt → o ≡ none
passes_none none e = refl
passes_none (some f) e = cc

fails_some : (o : Option DependenceFault) (f : DependenceFault) → generator_finding o ≡ Err f → o ≡ some f
fails_some none f e = cc
fails_some (some g) f e = let p : g ≡ f = cc in ap some p

-- A generator passes exactly when any two of its factors, or its only one, are independent.
pub generator_passes : (G : Generator) → 0 < G.size
    → (generator_verdict G ≡ Ok tt) ↔ Independent (field_sum G.size) (field_product G.size) 2 G
unfolding generator_verdict
generator_passes G positive = (
  λ e. faults_independent _ _ G positive (passes_none _ e),
  λ i. ap generator_finding (independent_faults _ _ G positive i),
)

-- What a generator's verdict names fails, and nothing before it does.
pub generator_fails : (G : Generator) → 0 < G.size → (fault : DependenceFault) → generator_verdict G ≡ Err fault
    → FirstDependence (field_sum G.size) (field_product G.size) G fault
unfolding generator_verdict
generator_fails G positive fault e = first_dependence _ _ G positive fault (fails_some _ fault e)
