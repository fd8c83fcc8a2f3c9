-- The matrices of SUM are entered one by one into the arrays that hold, for each p, where the matrix that serves p stands.
-- Assumes nothing.
use Rattle.std.specs.Prelude
use Rattle.std.specs.Prelude.{Some, None}
use mathlib.Core.Path.{◌≡◌, refl, sym, ◌∙◌, ap, subst}
use mathlib.Core.Logic.{◌↔◌, by_cases, ⊎_elim}
use mathlib.Core.Bool.{Bool, true, false, cond, ◌||◌}
use mathlib.Core.List.Memᴰ
use mathlib.Core.List.{List, [], ◌∷◌, ◌++◌, map, map-append, Memᴰ}
use mathlib.Core.Option.{Option, none, some}
use Prim.Native.Nat.{ℕ, zero, suc, ◌+◌, ◌*◌, ◌≤◌, ◌<◌, zero-le}
use native.Mathlib.Nat.{mul-zero, not-suc-le-zero}
use native.Mathlib.Numerals.{add-one}
use native.Mathlib.Decide.{ℕ_discrete}
use native.Mathlib.Omega.{arith}
use borrow.Author.Tests.{eq-eqb, ne_eqb, lt-ltb}
use lib.Dec.{T, eqb, ltb, eqb→eq}
use lib.ListN.{length, get_or, take, drop, set, length-set}
use lib.Seq.{take-suc, take_all, split_at, get_or-set_same, get_or-set_other}
use Rattle.finite.specs.First.{◌or_else◌}
use Rattle.finite.proofs.Tests.{T_and, T_eqb, eqb_sym}
use Rattle.galois.specs.Arithmetic.{member}
use Rattle.counting.specs.Matrix.{Matrix, matrix_of}
use Rattle.order.specs.Grammar.{read_order}
use Rattle.order.specs.declared.Located.{Located}
use Rattle.order.specs.declared.Located.TheVariants.{Table as TableAt, Matrix as MatrixAt, Generator as GeneratorAt}
use Rattle.places.specs.Places.{ingredient_at}
use Rattle.step_tables.specs.Lists.{Distinct, all_of, all_different}
use Rattle.step_tables.specs.Sum.{modulus_of, serving}
use Rattle.step_tables.proofs.Lists.{all_of_mem, all_different_distinct, distinct_append, mem_member, member_mem}
use Rattle.ingredients.specs.Standing.{MatrixStands}
use Rattle.ingredients.proofs.Standing.{matrix_stands}
use Rattle.layout.specs.Bytes.{zeros}
use Rattle.layout.specs.Step.{Readable}
use Rattle.sum_bytes.specs.Summing.{matrix_place, placed_matrix, matrix_at, matrices_at, fit_together, matrix_from, Serves}
use Rattle.sum_bytes.specs.declared.MatrixPlace.{MatrixPlace}
use Rattle.layout.proofs.Sheets.{zero_at}

-- ---- a matrix that is found stands in the list

module _ (list : List ℕ) (readable : Readable list) where
  numbered : (d : ℕ) {rows columns p start : ℕ} → ingredient_at (read_order list) d ≡ Some (MatrixAt rows columns p start) → 1 ≤ d
  unfolding ingredient_at
  numbered zero e = let missing = rw readable.reads at e in absurd (let z : ◌≡◌ {A = ℕ} 0 1 = cc in omega arith)
  numbered (suc k) e = omega arith

  found_stands : (d : ℕ) (L : Prelude.Option Located) → ingredient_at (read_order list) d ≡ L → 0 < (matrix_place L).rows
      → MatrixStands list (matrix_place L).rows (matrix_place L).columns (matrix_place L).p (matrix_place L).start
  unfolding matrix_place
  found_stands d (Some (TableAt rows columns levels_at entries_at)) e h = absurd (omega arith)
  found_stands d (Some (MatrixAt rows columns p start)) e h =
      matrix_stands list readable.order readable.reads readable.in_range d (numbered d e) e
  found_stands d (Some (GeneratorAt t n s widths_at width entries_at)) e h = absurd (omega arith)
  found_stands d None e h = absurd (omega arith)

  pub place_stands : (d : ℕ) (m : MatrixPlace) → m ≡ matrix_place (ingredient_at (read_order list) d) → 0 < m.rows
      → MatrixStands list m.rows m.columns m.p m.start
  place_stands d m e h = rw e (found_stands d (ingredient_at (read_order list) d) refl (rw e at h))

-- ---- the matrix that serves s

found : Option Matrix → Bool
found none = false
found (some D) = true

found_cond : (b : Bool) (D : Matrix) (o : Option Matrix) → found (cond b (some D) o) ≡ (b || found o)
unfolding found
found_cond true D o = refl
found_cond false D o = refl

-- s is the p of a matrix exactly where one serves it
member_serving : (Ds : List Matrix) (s : ℕ) → member s (map modulus_of Ds) ≡ found (serving Ds s)
unfolding serving found
member_serving [] s = refl
member_serving (D ∷ Ds) s =
    rw (found_cond (eqb D.modulus s) D (serving Ds s), eqb_sym D.modulus s) (ap (λ (b : Bool). eqb s D.modulus || b) (member_serving Ds s))

serving_append : (Ds Es : List Matrix) (s : ℕ) → serving (Ds ++ Es) s ≡ (serving Ds s or_else serving Es s)
unfolding serving
serving_append [] Es s = refl
serving_append (D ∷ Ds) Es s = pick (eqb D.modulus s) (serving_append Ds Es s)
  where
    pick : (b : Bool) → serving (Ds ++ Es) s ≡ (serving Ds s or_else serving Es s)
        → cond b (some D) (serving (Ds ++ Es) s) ≡ (cond b (some D) (serving Ds s) or_else serving Es s)
    pick true e = refl
    pick false e = e

or_none : (o : Option Matrix) → (o or_else none) ≡ o
or_none none = refl
or_none (some D) = refl

found_from : (list : List ℕ) (rows at width s : ℕ) → found (matrix_from list rows at width s) ≡ ltb 0 width
unfolding found matrix_from
found_from list rows at zero s = refl
found_from list rows at (suc width) s = sym (lt-ltb 0 (suc width) (omega arith))

-- the arrays tell which level counts are served
pub serves_member : {list : List ℕ} {Ds : List Matrix} {rows : ℕ} {entries widths : List ℕ} → Serves list Ds rows entries widths
    → (s : ℕ) → member s (map modulus_of Ds) ≡ ltb 0 (get_or widths s 0)
serves_member {list} {Ds} {rows} {entries} {widths} w s =
    member_serving Ds s ∙ ap found (w.serves s) ∙ found_from list rows (get_or entries s 0) (get_or widths s 0) s

-- ---- no matrix yet

serves_none : (list : List ℕ) (rows : ℕ) → Serves list [] rows (zeros 65) (zeros 65)
unfolding serving matrix_from
serves_none list rows =
    record {
      stand =
          record {
            entries_full = refl;
            widths_full = refl;
            within = λ s. rw (zero_at 65 s, mul-zero rows) (omega arith);
            below = λ s q h. absurd (not-suc-le-zero (rw (zero_at 65 s, mul-zero rows) at h));
          };
      serves = λ s. rw (zero_at 65 s);
    }

-- ---- one more matrix

abbrev standing : List ℕ → ℕ → ℕ → ℕ → ℕ → Matrix
standing list rows at width p = matrix_of (take (rows * width) (drop at list)) rows width p

matrix_from_lem : (list : List ℕ) (rows at width p : ℕ) → 1 ≤ width → matrix_from list rows at width p ≡ some (standing list rows at width p)
unfolding matrix_from
matrix_from_lem list rows at zero p h = absurd (omega arith)
matrix_from_lem list rows at (suc width) p h = refl

module _ {list : List ℕ} {Ds : List Matrix} {rows : ℕ} {entries widths : List ℕ} (w : Serves list Ds rows entries widths)
    {columns p start : ℕ} (stands : MatrixStands list rows columns p start) (free : get_or widths p 0 ≡ 0) where
  -- what holds of the new place at p and of the old ones elsewhere holds everywhere
  entered : (P : ℕ → ℕ → ℕ → Type 0) → P start columns p → ((s : ℕ) → (s ≡ p → ⊥) → P (get_or entries s 0) (get_or widths s 0) s)
      → (s : ℕ) → P (get_or (set entries p start) s 0) (get_or (set widths p columns) s 0) s
  entered P new old s =
      by_cases (ℕ_discrete s p)
      (λ (e : s ≡ p).
      rw (e, get_or-set_same entries p start 0 (omega (arith, w.stand.entries_full, stands.modulus_limits.1)), get_or-set_same widths p columns 0 (omega (arith, w.stand.widths_full, stands.modulus_limits.1)))
      new)
      (λ (n : s ≡ p → ⊥). rw (get_or-set_other entries p s start 0 n, get_or-set_other widths p s columns 0 n) (old s n))

  serves_new : serving (Ds ++ (standing list rows start columns p ∷ [])) p ≡ matrix_from list rows start columns p
  unfolding serving matrix_of matrix_from
  serves_new =
      serving_append Ds (standing list rows start columns p ∷ []) p
      ∙ rw (w.serves p, free, eq-eqb p p refl) (sym (matrix_from_lem list rows start columns p stands.columns_limits.0))

  serves_old : (s : ℕ) → (s ≡ p → ⊥) → serving (Ds ++ (standing list rows start columns p ∷ [])) s ≡ matrix_from list rows (get_or entries s 0) (get_or widths s 0) s
  unfolding serving matrix_of
  serves_old s n = serving_append Ds (standing list rows start columns p ∷ []) s ∙ rw (ne_eqb p s (λ e. n (sym e)), or_none (serving Ds s)) (w.serves s)

  serves_next : Serves list (Ds ++ (standing list rows start columns p ∷ [])) rows (set entries p start) (set widths p columns)
  serves_next =
      record {
        stand =
            record {
              entries_full = length-set entries p start ∙ w.stand.entries_full;
              widths_full = length-set widths p columns ∙ w.stand.widths_full;
              within = entered (λ at width s. at + rows * width ≤ length list) stands.entries_within (λ s n. w.stand.within s);
              below = entered (λ at width s. (q : ℕ) → q < rows * width → get_or list (at + q) 0 < s) stands.entry_below (λ s n. w.stand.below s);
            };
        serves = entered (λ at width s. serving (Ds ++ (standing list rows start columns p ∷ [])) s ≡ matrix_from list rows at width s) serves_new serves_old;
      }

-- ---- matrices that fit together

pub record Fitting (rows : ℕ) (Ds : List Matrix) : Type 0 where
  pub equal : (D : Matrix) → Memᴰ D Ds → D.rows ≡ rows
  pub different : Distinct (map modulus_of Ds)

fitting_decides : (rows : ℕ) (Ds : List Matrix) → T (fit_together rows Ds) ↔ Fitting rows Ds
unfolding fit_together
fitting_decides rows Ds =
    let equal : Matrix → Bool = λ D. eqb D.rows rows in (
      λ t.
          let b = (T_and (all_of equal Ds) (all_different (map modulus_of Ds))).0 t in
          record {
            equal = λ D m. eqb→eq D.rows rows ((all_of_mem equal Ds).0 b.0 D m);
            different = (all_different_distinct (map modulus_of Ds)).0 b.1;
          },
      λ f.
          (T_and (all_of equal Ds) (all_different (map modulus_of Ds))).1 (
            (all_of_mem equal Ds).1 (λ D m. T_eqb D.rows rows (f.equal D m)),
            (all_different_distinct (map modulus_of Ds)).1 f.different,
          ),
    )

pub true_is : (b : Bool) → T b → true ≡ b
true_is true t = refl
true_is false t = absurd t

pub false_is : (b : Bool) → (T b → ⊥) → false ≡ b
false_is true n = absurd (n tt)
false_is false n = refl

-- a refusal promises nothing of the arrays
pub untrue : {P : Type 0} → false ≡ true → P
untrue e = absurd (let z : ◌≡◌ {A = ℕ} 0 1 = cc in omega arith)

-- an element that stands twice
distinct_twice : (xs ys : List ℕ) (x : ℕ) → Memᴰ x xs → Distinct (xs ++ x ∷ ys) → ⊥
distinct_twice [] ys x m u = Memᴰ.not-nil m
distinct_twice (z ∷ xs) ys x m u =
    ⊎_elim
    (λ (e : x ≡ z). u.0 (Memᴰ.cast (sym e) (Memᴰ.append_right xs (Memᴰ.head refl))))
    (λ n. distinct_twice xs ys x n u.1)
    (Memᴰ.cases_cons m)

-- ---- the first i matrices are entered

pub record SoFar (list numbers : List ℕ) (rows i : ℕ) (entries widths : List ℕ) : Type 0 where
  pub among : i ≤ length numbers
  pub fitting : Fitting rows (matrices_at list (take i numbers))
  pub serves : Serves list (matrices_at list (take i numbers)) rows entries widths

pub so_far_none : (list numbers : List ℕ) (rows : ℕ) {entries widths : List ℕ} → entries ≡ zeros 65 → widths ≡ zeros 65 → SoFar list numbers rows 0 entries widths
unfolding matrices_at
so_far_none list numbers rows e f =
    record {
      among = zero-le;
      fitting = record { equal = λ D m. absurd (Memᴰ.not-nil m); different = tt };
      serves = rw (e, f) (serves_none list rows);
    }

module _ {list numbers : List ℕ} {rows i : ℕ} {entries widths : List ℕ} (w : SoFar list numbers rows i entries widths) where
  pub so_far_all : length numbers ≤ i → (true ≡ fit_together rows (matrices_at list numbers)) × Serves list (matrices_at list numbers) rows entries widths
  so_far_all h =
      let all = take_all i numbers h in (
        true_is (fit_together rows (matrices_at list numbers)) ((fitting_decides rows (matrices_at list numbers)).1 (rw all at w.fitting)),
        rw all at w.serves,
      )

  module _ (h : i < length numbers) {m : MatrixPlace} (e : m ≡ matrix_place (ingredient_at (read_order list) (get_or numbers i 0))) where
    before : List Matrix
    before = matrices_at list (take i numbers)

    whole : matrices_at list numbers ≡ before ++ placed_matrix list m ∷ matrices_at list (drop (suc i) numbers)
    unfolding matrices_at matrix_at before
    whole =
        ap (matrices_at list) (split_at numbers i 0 h)
        ∙ map-append (matrix_at list) (take i numbers) (get_or numbers i 0 ∷ drop (suc i) numbers)
        ∙ rw e

    more : matrices_at list (take (i + 1) numbers) ≡ before ++ placed_matrix list m ∷ []
    unfolding matrices_at matrix_at before
    more =
        ap (λ (n : ℕ). matrices_at list (take n numbers)) (add-one i)
        ∙ ap (matrices_at list) (take-suc numbers i 0 h)
        ∙ map-append (matrix_at list) (take i numbers) (get_or numbers i 0 ∷ [])
        ∙ rw e

    -- the next matrix has other rows
    pub rows_differ : (m.rows ≡ rows → ⊥) → false ≡ fit_together rows (matrices_at list numbers)
    unfolding placed_matrix matrix_of
    rows_differ n =
        false_is (fit_together rows (matrices_at list numbers)) λ t.
        let f = (fitting_decides rows (matrices_at list numbers)).0 t in
        n (f.equal (placed_matrix list m) (rw whole (Memᴰ.append_right before (Memᴰ.head refl))))

    -- its p is another's
    pub p_again : (get_or widths m.p 0 ≡ 0 → ⊥) → false ≡ fit_together rows (matrices_at list numbers)
    unfolding placed_matrix matrix_of before
    p_again n =
        false_is (fit_together rows (matrices_at list numbers)) λ t.
        let f = (fitting_decides rows (matrices_at list numbers)).0 t in
        let served : T (member m.p (map modulus_of before)) = rw (serves_member w.serves m.p, lt-ltb 0 (get_or widths m.p 0) (omega arith)) tt in
        distinct_twice (map modulus_of before) (map modulus_of (matrices_at list (drop (suc i) numbers))) m.p
        (member_mem m.p (map modulus_of before) served)
        (rw (whole, map-append modulus_of before (placed_matrix list m ∷ matrices_at list (drop (suc i) numbers))) at f.different)

    -- it fits, and is entered
    module _ (equal : m.rows ≡ rows) (free : get_or widths m.p 0 ≡ 0) where
      fitting_next : Fitting rows (before ++ placed_matrix list m ∷ [])
      unfolding placed_matrix matrix_of before
      fitting_next =
          record {
            equal = λ D n.
                ⊎_elim (w.fitting.equal D)
                (λ o. ap (λ (E : Matrix). E.rows) (Memᴰ.eq_of_singleton o) ∙ equal)
                (Memᴰ.append_cases before n);
            different =
                rw (map-append modulus_of before (placed_matrix list m ∷ []))
                (distinct_append (map modulus_of before) (m.p ∷ []) w.fitting.different (λ n. Memᴰ.not-nil n, tt) λ x n o.
                let same : x ≡ m.p = Memᴰ.eq_of_singleton o in
                let none : member x (map modulus_of before) ≡ false = serves_member w.serves x ∙ rw (same, free) in
                subst T none (mem_member n));
          }

      pub so_far_next : MatrixStands list m.rows m.columns m.p m.start → SoFar list numbers rows (i + 1) (set entries m.p m.start) (set widths m.p m.columns)
      unfolding placed_matrix before
      so_far_next stands =
          let same : placed_matrix list m ≡ standing list rows m.start m.columns m.p = rw equal in
          record {
            among = omega arith;
            fitting = rw more fitting_next;
            serves = rw (more, same) (serves_next w.serves (rw equal at stands) free);
          }
