-- Lists whose elements are all different, where an element of a mapped or flattened list comes from, and the tests of `Lists`.
-- Assumes nothing.
use mathlib.Core.Path.{◌≡◌, refl, sym, ◌∙◌, ap, ap₂}
use mathlib.Core.Logic.{◌≢◌, ◌↔◌, ⊎_elim}
use mathlib.Core.Bool.{Bool, true, false, ◌||◌, not}
use mathlib.Core.List.Memᴰ
use mathlib.Core.List.{List, [], ◌∷◌, ◌++◌, map, flat_map, Memᴰ}
use mathlib.Core.Option.{some, none-ne-some, some-injective}
use Prim.Native.Nat.{ℕ, zero, suc, ◌+◌, ◌≤◌, ◌<◌}
use native.Mathlib.Nat.{zero-add, add-zero, add-suc, suc-add, add_comm, not-suc-le-zero, le_of_suc-le-suc}
use native.Mathlib.Numerals.{add-one}
use native.Mathlib.Omega.{arith}
use borrow.Author.Tests.{eq-eqb, eqb-true}
use lib.Dec.{T, eqb, eqb→eq, T_not, not_T}
use lib.ListN.{length, get_or, get_elem?, length-append}
use Rattle.finite.specs.Sum.{sum, count, bit}
use Rattle.finite.specs.Lists.{from}
use Rattle.finite.proofs.Tests.{T_and}
use Rattle.finite.proofs.Sums.{sum_ext, sum_add, sum_zero, sum_first}
use Rattle.finite.proofs.Counts.{count_one}
use Rattle.galois.specs.Arithmetic.{member}
use Rattle.step_tables.specs.Lists.{Distinct, all_of, all_different}

module _ {A : Type 0} where
  pub mem_get_d : (xs : List A) (k : ℕ) (d : A) → k < length xs → Memᴰ (get_or xs k d) xs
  mem_get_d [] k d h = absurd (not-suc-le-zero h)
  mem_get_d (x ∷ xs) zero d h = Memᴰ.head refl
  mem_get_d (x ∷ xs) (suc k) d h = Memᴰ.tail (mem_get_d xs k d (le_of_suc-le-suc h))

  -- what stands in a place stands in the list, and the other way round
  pub stands_mem : (xs : List A) (k : ℕ) {x : A} → get_elem? xs k ≡ some x → (k < length xs) × Memᴰ x xs
  stands_mem [] k {x} e = absurd (none-ne-some x e)
  stands_mem (y ∷ ys) zero {x} e = (omega arith, Memᴰ.head (sym (some-injective y x e)))
  stands_mem (y ∷ ys) (suc k) e = let s = stands_mem ys k e in (omega arith, Memᴰ.tail s.1)

  pub mem_stands : {x : A} {xs : List A} → Memᴰ x xs → (k : ℕ) × (get_elem? xs k ≡ some x)
  mem_stands (Memᴰ.head e) = (0, ap some (sym e))
  mem_stands (Memᴰ.tail m) = let (k, e) = mem_stands m in (suc k, e)

  -- two places of such a list hold two elements
  pub distinct_get_d : (xs : List A) (d : A) → Distinct xs → (k l : ℕ) → k < length xs → l < length xs → k ≢ l → get_or xs k d ≢ get_or xs l d
  distinct_get_d [] d u k l h m n = absurd (not-suc-le-zero h)
  distinct_get_d (x ∷ xs) d u zero zero h m n = absurd (n refl)
  distinct_get_d (x ∷ xs) d u zero (suc l) h m n = λ e. u.0 (Memᴰ.cast e (mem_get_d xs l d (le_of_suc-le-suc m)))
  distinct_get_d (x ∷ xs) d u (suc k) zero h m n = λ e. u.0 (Memᴰ.cast (sym e) (mem_get_d xs k d (le_of_suc-le-suc h)))
  distinct_get_d (x ∷ xs) d u (suc k) (suc l) h m n =
      distinct_get_d xs d u.1 k l (le_of_suc-le-suc h) (le_of_suc-le-suc m) (λ e. n (ap suc e))

  pub distinct_append : (xs ys : List A) → Distinct xs → Distinct ys → ((x : A) → Memᴰ x xs → Memᴰ x ys → ⊥) → Distinct (xs ++ ys)
  distinct_append [] ys u v apart = v
  distinct_append (x ∷ xs) ys u v apart = (
    λ m. ⊎_elim u.0 (apart x (Memᴰ.head refl)) (Memᴰ.append_cases xs m),
    distinct_append xs ys u.1 v (λ z m. apart z (Memᴰ.tail m)),
  )

module _ {A : Type 0} (test : A → Bool) where
  -- every element passes: as a test and as a statement
  pub all_of_mem : (xs : List A) → T (all_of test xs) ↔ ((x : A) → Memᴰ x xs → T (test x))
  all_of_mem xs = (to xs, from_each xs)
    where
      to : (ys : List A) → T (all_of test ys) → (x : A) → Memᴰ x ys → T (test x)
      to [] t x m = absurd (Memᴰ.not-nil m)
      to (y ∷ ys) t x m =
          let b = (T_and (test y) (all_of test ys)).0 t in
          ⊎_elim (λ (e : x ≡ y). rw e b.0) (to ys b.1 x) (Memᴰ.cases_cons m)

      from_each : (ys : List A) → ((x : A) → Memᴰ x ys → T (test x)) → T (all_of test ys)
      from_each [] f = tt
      from_each (y ∷ ys) f =
          (T_and (test y) (all_of test ys)).1 (f y (Memᴰ.head refl), from_each ys (λ x m. f x (Memᴰ.tail m)))

T_or_right : (a b : Bool) → T b → T (a || b)
T_or_right true b t = tt
T_or_right false b t = t

-- a number stands in a list: as a test and as a statement
pub mem_member : {x : ℕ} {xs : List ℕ} → Memᴰ x xs → T (member x xs)
mem_member {x} (Memᴰ.head {x = y} e) = rw (eq-eqb x y e) tt
mem_member {x} (Memᴰ.tail {x = y} {xs = ys} m) = T_or_right (eqb x y) (member x ys) (mem_member m)

pub member_mem : (x : ℕ) (xs : List ℕ) → T (member x xs) → Memᴰ x xs
member_mem x [] t = absurd t
member_mem x (y ∷ ys) t = pick (λ s. member_mem x ys s) (eqb x y) refl t
  where
    pick : (T (member x ys) → Memᴰ x ys) → (b : Bool) → eqb x y ≡ b → T (b || member x ys) → Memᴰ x (y ∷ ys)
    pick later true e s = Memᴰ.head (eqb-true x y e)
    pick later false e s = Memᴰ.tail (later s)

pub all_different_distinct : (xs : List ℕ) → T (all_different xs) ↔ Distinct xs
all_different_distinct xs = (to xs, from_distinct xs)
  where
    to : (ys : List ℕ) → T (all_different ys) → Distinct ys
    to [] t = tt
    to (y ∷ ys) t =
        let b = (T_and (not (member y ys)) (all_different ys)).0 t in
        (λ m. T_not (member y ys) b.0 (mem_member m), to ys b.1)

    from_distinct : (ys : List ℕ) → Distinct ys → T (all_different ys)
    from_distinct [] u = tt
    from_distinct (y ∷ ys) u =
        (T_and (not (member y ys)) (all_different ys)).1
        (not_T (member y ys) (λ s. u.0 (member_mem y ys s)), from_distinct ys u.1)

module _ {A B : Type 0} where
  -- an element of a mapped list comes from one of the list
  pub mem_map : (f : A → B) (xs : List A) {y : B} → Memᴰ y (map f xs) → (x : A) × Memᴰ x xs × (y ≡ f x)
  mem_map f [] m = absurd (Memᴰ.not-nil m)
  mem_map f (x ∷ xs) {y} m =
      ⊎_elim
      (λ (e : y ≡ f x). (x, Memᴰ.head refl, e))
      (λ n. let s = mem_map f xs n in (s.0, Memᴰ.tail s.1, s.2))
      (Memᴰ.cases_cons m)

  -- an element of a flattened list comes from what one of the list gives
  pub mem_flat_map : (f : A → List B) (xs : List A) {y : B} → Memᴰ y (flat_map f xs) → (x : A) × Memᴰ x xs × Memᴰ y (f x)
  unfolding flat_map
  mem_flat_map f [] m = absurd (Memᴰ.not-nil m)
  mem_flat_map f (x ∷ xs) {y} m =
      ⊎_elim
      (λ (n : Memᴰ y (f x)). (x, Memᴰ.head refl, n))
      (λ n. let s = mem_flat_map f xs n in (s.0, Memᴰ.tail s.1, s.2))
      (Memᴰ.append_cases (f x) m)

  pub distinct_map : (f : A → B) → ((x y : A) → f x ≡ f y → x ≡ y) → (xs : List A) → Distinct xs → Distinct (map f xs)
  distinct_map f injective [] u = tt
  distinct_map f injective (x ∷ xs) u = (
    λ m. let s = mem_map f xs m in u.0 (Memᴰ.cast (injective x s.0 s.2) s.1),
    distinct_map f injective xs u.1,
  )

  -- what the elements of a list give is distinct where each element's is, and tells its element
  pub distinct_flat_map : (f : A → List B) (origin : B → A)
      → ((x : A) → Distinct (f x)) → ((x : A) (y : B) → Memᴰ y (f x) → origin y ≡ x)
      → (xs : List A) → Distinct xs → Distinct (flat_map f xs)
  unfolding flat_map
  distinct_flat_map f origin each tells [] u = tt
  distinct_flat_map f origin each tells (x ∷ xs) u =
      distinct_append (f x) (flat_map f xs) (each x) (distinct_flat_map f origin each tells xs u.1) (λ y m n.
      let s = mem_flat_map f xs n in u.0 (Memᴰ.cast (sym (tells x y m) ∙ tells s.0 y s.2) s.1))

  pub get_d_map : (f : A → B) (xs : List A) (k : ℕ) (d : A) (e : B) → k < length xs → get_or (map f xs) k e ≡ f (get_or xs k d)
  get_d_map f [] k d e h = absurd (not-suc-le-zero h)
  get_d_map f (x ∷ xs) zero d e h = refl
  get_d_map f (x ∷ xs) (suc k) d e h = get_d_map f xs k d e (le_of_suc-le-suc h)

-- the numbers from a on, n of them
pub mem_from : (a n : ℕ) {i : ℕ} → Memᴰ i (from a n) → (a ≤ i) × (i < a + n)
unfolding from
mem_from a zero m = absurd (Memᴰ.not-nil m)
mem_from a (suc n) {i} m =
    ⊎_elim
    (λ (e : i ≡ a). omega arith)
    (λ t. let b = mem_from (suc a) n t in omega arith)
    (Memᴰ.cases_cons m)

pub distinct_from : (a n : ℕ) → Distinct (from a n)
unfolding from
distinct_from a zero = tt
distinct_from a (suc n) = (λ m. let b = mem_from (suc a) n m in omega arith, distinct_from (suc a) n)

map_from_suc : {A : Type 0} (f : ℕ → A) (a n : ℕ) → map f (from (suc a) n) ≡ map (λ k. f (suc k)) (from a n)
unfolding from
map_from_suc f a zero = refl
map_from_suc f a (suc n) = ap (λ ys. f (suc a) ∷ ys) (map_from_suc f (suc a) n)

-- a list read place by place
pub map_get_d : {A : Type 0} (xs : List A) (d : A) → map (λ k. get_or xs k d) (from 0 (length xs)) ≡ xs
unfolding from
map_get_d [] d = refl
map_get_d (x ∷ xs) d = ap (λ ys. x ∷ ys) (map_from_suc (λ k. get_or (x ∷ xs) k d) 0 (length xs) ∙ map_get_d xs d)

-- how much the numbers below n give together, by a measure that adds up where lists are joined
module _ {A : Type 0} (measure : List A → ℕ) (of_none : measure [] ≡ 0) (of_joined : (xs ys : List A) → measure (xs ++ ys) ≡ measure xs + measure ys) where
  measure_places : (f : ℕ → List A) (a n : ℕ) → measure (flat_map f (from a n)) ≡ sum n (λ i. measure (f (a + i)))
  unfolding flat_map from sum
  measure_places f a zero = of_none
  measure_places f a (suc n) =
      of_joined (f a) (flat_map f (from (suc a) n))
      ∙ ap₂
      ◌+◌
      (ap (λ x. measure (f x)) (sym (add-zero a)))
      (measure_places f (suc a) n ∙ sum_ext n (λ i h. ap (λ x. measure (f x)) (suc-add a i ∙ sym (add-suc a i))))
      ∙ sym (sum_first n (λ i. measure (f (a + i))))

  pub measure_flat_map : (f : ℕ → List A) (n : ℕ) → measure (flat_map f (from 0 n)) ≡ sum n (λ i. measure (f i))
  measure_flat_map f n = measure_places f 0 n ∙ sum_ext n (λ i h. ap (λ x. measure (f x)) (zero-add i))

-- in length
pub length_flat_map : {A : Type 0} (f : ℕ → List A) (n : ℕ) → length (flat_map f (from 0 n)) ≡ sum n (λ i. length (f i))
length_flat_map = measure_flat_map length refl length-append

-- as many numbers below n stand in a list as it is long, where they are all different and below n
pub count_member : (n : ℕ) (xs : List ℕ) → Distinct xs → ((x : ℕ) → Memᴰ x xs → x < n) → count n (λ q. member q xs) ≡ length xs
unfolding count
count_member n [] u below = sum_zero n (λ i h. refl)
count_member n (x ∷ xs) u below =
    sum_ext n (λ q h. one_of (eqb q x) (member q xs) (λ s t. u.0 (Memᴰ.cast (sym (eqb→eq q x s)) (member_mem q xs t))))
    ∙ sum_add n (λ q. bit (eqb q x)) (λ q. bit (member q xs))
    ∙ ap₂ ◌+◌ (count_one n x (below x (Memᴰ.head refl))) (count_member n xs u.1 (λ y m. below y (Memᴰ.tail m)))
    ∙ add_comm 1 (length xs)
    ∙ add-one (length xs)
  where
    one_of : (a b : Bool) → (T a → T b → ⊥) → bit (a || b) ≡ bit a + bit b
    one_of true true apart = absurd (apart tt tt)
    one_of true false apart = refl
    one_of false true apart = refl
    one_of false false apart = refl
