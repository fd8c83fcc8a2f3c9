-- The tests of questions 6 and 8 decide their statements; question 7's search finds the lowest failure, and nothing where every member is its sum.
-- The search between questions 6 and 7 finds the first uneven column of a serving matrix, and nothing where every serving matrix has even columns.
-- Assumes nothing.
use mathlib.Core.Path.{◌≡◌, refl, subst}
use mathlib.Core.Logic.{◌≢◌, ◌↔◌}
use mathlib.Core.Bool.{Bool, true, false, cond, ◌&&◌}
use mathlib.Core.List.{List, map}
use mathlib.Core.Option.{Option, none, some, bind, bind-eq-some_iff, none-ne-some, some-ne-none, some-injective}
use Prim.Native.Nat.{ℕ, ◌+◌, ◌-◌, ◌*◌, ◌≤◌, ◌<◌}
use native.Mathlib.Omega.{arith}
use borrow.Author.Tests.{eq-eqb, eqb-true, eqb-false}
use lib.Dec.{T, eqb, ltb, leb, eqb→eq, ltb→lt, lt→ltb, leb→le, le→leb}
use lib.ListN.{length, get_elem?}
use Rattle.finite.specs.First.{first}
use Rattle.finite.proofs.Tests.{T_and, T_eqb}
use Rattle.finite.proofs.Firsts.{first_none, none_below, found_least, cond_then}
use Rattle.galois.specs.Arithmetic.{member}
use Rattle.counting.specs.Matrix.{Matrix}
use Rattle.counting.specs.Table.{Table, columns, levels_of}
use Rattle.step_tables.specs.Lists.{all_of, all_different}
use Rattle.step_tables.specs.Sheet.{SmallEnough, small_enough}
use Rattle.step_tables.specs.Split.{SplitFits, split_fits}
use Rattle.step_tables.specs.Merge.{member_at, MergeFits, merge_fits, member_sum, MemberSums, MemberFault, member_fault_at, member_fault, LowestFault}
use Rattle.step_tables.specs.Sum.{modulus_of, rows_of, SumFits, sum_fits}
use Rattle.step_tables.specs.Cross.{CrossFits, cross_fits, value_times, EvenColumns, ServesSheet, ServingEven, ValueFault, value_fault_at, matrix_fault, served_fault, serving_fault, FirstUneven}
use Rattle.step_tables.proofs.Lists.{stands_mem, mem_stands, all_of_mem, mem_member, member_mem, all_different_distinct}

pub size_decides : (S : Table) → T (small_enough S) ↔ SmallEnough S
unfolding small_enough
size_decides S = (
  λ t.
      let b = (T_and (leb S.runs 512) (leb (columns S) 128)).0 t in
      record { runs_most = leb→le S.runs 512 b.0; columns_most = leb→le (columns S) 128 b.1 },
  λ w. (T_and (leb S.runs 512) (leb (columns S) 128)).1 (le→leb S.runs 512 w.runs_most, le→leb (columns S) 128 w.columns_most),
)

pub split_decides : (c : ℕ) (U S : Table) → T (split_fits c U S) ↔ SplitFits c U S
unfolding split_fits
split_decides c U S = (
  λ t.
      let b = (T_and (ltb c (columns S)) (eqb U.runs (levels_of S c))).0 t in
      record { on_sheet = ltb→lt c (columns S) b.0; as_many = eqb→eq U.runs (levels_of S c) b.1 },
  λ f.
      (T_and (ltb c (columns S)) (eqb U.runs (levels_of S c))).1
      (lt→ltb c (columns S) f.on_sheet, T_eqb U.runs (levels_of S c) f.as_many),
)

-- four tests at once
T_four : (a b c d : Bool) → T (a && b && c && d) ↔ (T a × T b × T c × T d)
T_four true true true d = (λ t. (tt, tt, tt, t), λ p. p.3)
T_four true true false d = (λ t. absurd t, λ p. p.2)
T_four true false c d = (λ t. absurd t, λ p. p.1)
T_four false b c d = (λ t. absurd t, λ p. p.0)

-- a search that finds x where a is not b
module _ {A : Type 0} (x : A) (a b : ℕ) where
  equal_none : (cond (eqb a b) none (some x) ≡ none) ↔ (a ≡ b)
  equal_none = (λ e. eqb-true a b (passed (eqb a b) e), λ e. rw (eq-eqb a b e))
    where
      passed : (t : Bool) → cond t none (some x) ≡ none → t ≡ true
      passed true e = refl
      passed false e = absurd (some-ne-none x e)

  other_some : (y : A) → cond (eqb a b) none (some x) ≡ some y → (x ≡ y) × (a ≢ b)
  other_some y e = failed (eqb a b) refl e
    where
      failed : (t : Bool) → eqb a b ≡ t → cond t none (some x) ≡ some y → (x ≡ y) × (a ≢ b)
      failed true t f = absurd (none-ne-some y f)
      failed false t f = (some-injective x y f, eqb-false a b t)

module _ (p : ℕ) (cs : List ℕ) (S : Table) where
  on_sheet : ℕ → Bool
  on_sheet c = ltb c (columns S)

  of_p_levels : ℕ → Bool
  of_p_levels c = eqb (levels_of S c) p

  pub merge_decides : T (merge_fits p cs S) ↔ MergeFits p cs S
  unfolding merge_fits on_sheet of_p_levels
  merge_decides = (
    λ t.
        let b = (T_four (eqb (length cs) (p + 1)) (all_of on_sheet cs) (all_different cs) (all_of of_p_levels cs)).0 t in
        record {
          many = eqb→eq (length cs) (p + 1) b.0;
          on_sheet = λ c m. ltb→lt c (columns S) ((all_of_mem on_sheet cs).0 b.1 c m);
          different = (all_different_distinct cs).0 b.2;
          levels = λ c m. eqb→eq (levels_of S c) p ((all_of_mem of_p_levels cs).0 b.3 c m);
        },
    λ f.
        (T_four (eqb (length cs) (p + 1)) (all_of on_sheet cs) (all_different cs) (all_of of_p_levels cs)).1 (
          T_eqb (length cs) (p + 1) f.many,
          (all_of_mem on_sheet cs).1 (λ c m. lt→ltb c (columns S) (f.on_sheet c m)),
          (all_different_distinct cs).1 f.different,
          (all_of_mem of_p_levels cs).1 (λ c m. T_eqb (levels_of S c) p (f.levels c m)),
        ),
  )

  none_at : (r h : ℕ) → (member_fault_at p cs S r h ≡ none) ↔ (S.cell r (member_at cs h) ≡ member_sum p cs S r h)
  unfolding member_fault_at
  none_at r h = equal_none (record { run = r; member_number = h }) (S.cell r (member_at cs h)) (member_sum p cs S r h)

  -- a failure that is found is at that run and member, and is one
  pub fault_at : (r h : ℕ) (f : MemberFault) → member_fault_at p cs S r h ≡ some f
      → (record { run = r; member_number = h } ≡ f) × (S.cell r (member_at cs h) ≢ member_sum p cs S r h)
  unfolding member_fault_at
  fault_at r h f e = other_some (record { run = r; member_number = h }) (S.cell r (member_at cs h)) (member_sum p cs S r h) f e

  -- the first member of run r, counted from the third, that is not its sum
  abbrev run_fault : ℕ → Option MemberFault
  run_fault r = first (p - 1) (λ k. member_fault_at p cs S r (k + 3))

  -- members are numbered from 3, the search counts from 0
  right_from : (r h : ℕ) → 3 ≤ h → member_fault_at p cs S r (h - 3 + 3) ≡ none → S.cell r (member_at cs h) ≡ member_sum p cs S r h
  right_from r h l e =
      let same : h - 3 + 3 ≡ h = omega arith in
      subst (λ n. S.cell r (member_at cs n) ≡ member_sum p cs S r n) same ((none_at r (h - 3 + 3)).0 e)

  run_right : (r : ℕ) → run_fault r ≡ none → (h : ℕ) → 3 ≤ h → h ≤ p + 1 → S.cell r (member_at cs h) ≡ member_sum p cs S r h
  run_right r e h l m = right_from r h l (none_below (λ k. member_fault_at p cs S r (k + 3)) (p - 1) e (h - 3) (omega arith))

  -- nothing is found exactly where every member is its sum
  pub members_decide : (member_fault p cs S ≡ none) ↔ MemberSums p cs S
  unfolding member_fault MemberSums
  members_decide = (
    λ e r h b l m. run_right r (none_below run_fault S.runs e r b) h l m,
    λ right. first_none run_fault S.runs (λ r b.
        first_none (λ k. member_fault_at p cs S r (k + 3)) (p - 1) (λ k l. (none_at r (k + 3)).1 (right r (k + 3) b (omega arith) (omega arith)))),
  )

  -- a failure with nothing found before it
  lowest_at : (f : MemberFault) (r k : ℕ) → r < S.runs → ((i : ℕ) → i < r → run_fault i ≡ none)
      → k < p - 1 → ((i : ℕ) → i < k → member_fault_at p cs S r (i + 3) ≡ none) → member_fault_at p cs S r (k + 3) ≡ some f
      → LowestFault p cs S f
  lowest_at f r k b runs l members e =
      let at = fault_at r (k + 3) f e in
      subst
      (LowestFault p cs S)
      at.0
      (record {
        run_below = b;
        from_third = omega arith;
        to_last = omega arith;
        fails = at.1;
        runs_before = λ i h lt low high. run_right i (runs i lt) h low high;
        members_before = λ h low lt. right_from r h low (members (h - 3) (omega arith));
      })

  -- what is found is the lowest failure
  pub fault_lowest : (f : MemberFault) → member_fault p cs S ≡ some f → LowestFault p cs S f
  unfolding member_fault
  fault_lowest f e =
      let outer = found_least run_fault S.runs f e in
      let inner = found_least (λ k. member_fault_at p cs S outer.place (k + 3)) (p - 1) f outer.there in
      lowest_at f outer.place inner.place outer.below outer.before inner.below inner.before inner.there

module _ (Ds : List Matrix) (K S : Table) where
  equal_rows : Matrix → Bool
  equal_rows D = eqb D.rows (rows_of Ds)

  served : ℕ → Bool
  served s = member s (map modulus_of Ds)

  pub sum_decides : T (sum_fits Ds K S) ↔ SumFits Ds K S
  unfolding sum_fits equal_rows served
  sum_decides = (
    λ t.
        let b = (T_four (all_of equal_rows Ds) (all_different (map modulus_of Ds)) (all_of served S.levels) (eqb K.runs (rows_of Ds))).0 t in
        record {
          equal_rows = λ D m. eqb→eq D.rows (rows_of Ds) ((all_of_mem equal_rows Ds).0 b.0 D m);
          different = (all_different_distinct (map modulus_of Ds)).0 b.1;
          served = λ s m. member_mem s (map modulus_of Ds) ((all_of_mem served S.levels).0 b.2 s m);
          adjoined_runs = eqb→eq K.runs (rows_of Ds) b.3;
        },
    λ f.
        (T_four (all_of equal_rows Ds) (all_different (map modulus_of Ds)) (all_of served S.levels) (eqb K.runs (rows_of Ds))).1 (
          (all_of_mem equal_rows Ds).1 (λ D m. T_eqb D.rows (rows_of Ds) (f.equal_rows D m)),
          (all_different_distinct (map modulus_of Ds)).1 f.different,
          (all_of_mem served S.levels).1 (λ s m. mem_member (f.served s m)),
          T_eqb K.runs (rows_of Ds) f.adjoined_runs,
        ),
  )

module _ (Ds : List Matrix) (K H S : Table) where
  pub cross_decides : T (cross_fits Ds K H S) ↔ CrossFits Ds K H S
  unfolding cross_fits
  cross_decides = (
    λ t.
        let b = (T_and (sum_fits Ds K S) (eqb H.runs S.runs)).0 t in
        record { as_sum = (sum_decides Ds K S).0 b.0; other_runs = eqb→eq H.runs S.runs b.1 },
    λ f.
        (T_and (sum_fits Ds K S) (eqb H.runs S.runs)).1
        ((sum_decides Ds K S).1 f.as_sum, T_eqb H.runs S.runs f.other_runs),
  )

-- ---- between questions 6 and 7

-- the matrix in place q
module _ (q : ℕ) (D : Matrix) where
  value_none : (c v : ℕ) → (value_fault_at q D c v ≡ none) ↔ (D.modulus * value_times D c v ≡ D.rows)
  unfolding value_fault_at
  value_none c v = equal_none (record { place = q; column = c; value = v }) (D.modulus * value_times D c v) D.rows

  -- the lowest uneven value of column c
  abbrev in_column : ℕ → Option ValueFault
  in_column c = first D.modulus (value_fault_at q D c)

  column_even : (c v : ℕ) → in_column c ≡ none → v < D.modulus → D.modulus * value_times D c v ≡ D.rows
  column_even c v e h = (value_none c v).0 (none_below (value_fault_at q D c) D.modulus e v h)

  matrix_none : (matrix_fault q D ≡ none) ↔ EvenColumns D
  unfolding matrix_fault EvenColumns
  matrix_none = (
    λ e c v h k. column_even c v (none_below in_column D.columns e c h) k,
    λ even. first_none in_column D.columns (λ c h. first_none (value_fault_at q D c) D.modulus (λ v k. (value_none c v).1 (even c v h k))),
  )

module _ (Ds : List Matrix) (S : Table) where
  -- a matrix is asked where it serves
  served_none : (q : ℕ) (D : Matrix) → (served_fault S.levels q D ≡ none) ↔ (ServesSheet S D → EvenColumns D)
  unfolding served_fault
  served_none q D = asked (member D.modulus S.levels) refl
    where
      asked : (b : Bool) → member D.modulus S.levels ≡ b → (cond b (matrix_fault q D) none ≡ none) ↔ (ServesSheet S D → EvenColumns D)
      asked true t = (λ e s. (matrix_none q D).0 e, λ even. (matrix_none q D).1 (even (member_mem D.modulus S.levels (rw t tt))))
      asked false t = (λ e s. absurd (rw t at (mem_member s)), λ even. refl)

  -- what is found in place q
  abbrev in_place : ℕ → Option ValueFault
  in_place q = bind (get_elem? Ds q) (served_fault S.levels q)

  place_none : (q : ℕ) → (in_place q ≡ none) ↔ ((D : Matrix) → get_elem? Ds q ≡ some D → ServesSheet S D → EvenColumns D)
  unfolding bind
  place_none q = there (get_elem? Ds q)
    where
      there : (o : Option Matrix) → (bind o (served_fault S.levels q) ≡ none) ↔ ((D : Matrix) → o ≡ some D → ServesSheet S D → EvenColumns D)
      there none = (λ e D f. absurd (none-ne-some D f), λ even. refl)
      there (some E) = (
        λ e D f. subst (λ X. ServesSheet S X → EvenColumns X) (some-injective E D f) ((served_none q E).0 e),
        λ even. (served_none q E).1 (even E refl),
      )

  -- nothing is found exactly where every serving matrix has even columns
  pub values_decide : (serving_fault Ds S.levels ≡ none) ↔ ServingEven Ds S
  unfolding serving_fault ServingEven
  values_decide = (
    λ e D m serves.
        let (q, stands) = mem_stands m in
        (place_none q).0 (none_below in_place (length Ds) e q (stands_mem Ds q stands).0) D stands serves,
    λ even. first_none in_place (length Ds) (λ q h. (place_none q).1 (λ D stands serves. even D (stands_mem Ds q stands).1 serves)),
  )

  -- a failure with nothing found before it
  first_at : (f : ValueFault) (q : ℕ) (D : Matrix) (c v : ℕ) → get_elem? Ds q ≡ some D → ServesSheet S D → ((p : ℕ) → p < q → in_place p ≡ none)
      → c < D.columns → ((b : ℕ) → b < c → in_column q D b ≡ none)
      → v < D.modulus → ((w : ℕ) → w < v → value_fault_at q D c w ≡ none) → value_fault_at q D c v ≡ some f
      → FirstUneven Ds S f
  unfolding value_fault_at
  first_at f q D c v stands serves no_matrix h no_column k no_value e =
      let at = other_some (record { place = q; column = c; value = v }) (D.modulus * value_times D c v) D.rows f e in
      subst
      (FirstUneven Ds S)
      at.0
      (record {
        matrix = D;
        stands = stands;
        serves = serves;
        column_below = h;
        value_below = k;
        fails = at.1;
        matrices_before = λ p E l. (place_none p).0 (no_matrix p l) E;
        columns_before = λ b w l. column_even q D b w (no_column b l);
        values_before = λ w l. (value_none q D c w).0 (no_value w l);
      })

  matrix_first : (f : ValueFault) (q : ℕ) (D : Matrix) → get_elem? Ds q ≡ some D → ServesSheet S D → ((p : ℕ) → p < q → in_place p ≡ none)
      → matrix_fault q D ≡ some f → FirstUneven Ds S f
  unfolding matrix_fault
  matrix_first f q D stands serves no_matrix e =
      let outer = found_least (in_column q D) D.columns f e in
      let inner = found_least (value_fault_at q D outer.place) D.modulus f outer.there in
      first_at f q D outer.place inner.place stands serves no_matrix outer.below outer.before inner.below inner.before inner.there

  -- what is found is the first failure
  pub fault_first : (f : ValueFault) → serving_fault Ds S.levels ≡ some f → FirstUneven Ds S f
  unfolding serving_fault served_fault
  fault_first f e =
      let found = found_least in_place (length Ds) f e in
      let (D, stands, there) = (bind-eq-some_iff (get_elem? Ds found.place) (served_fault S.levels found.place)).0 found.there in
      let asked = cond_then (member D.modulus S.levels) (matrix_fault found.place D) f there in
      matrix_first f found.place D stands (member_mem D.modulus S.levels (rw asked.0 tt)) found.before asked.1
