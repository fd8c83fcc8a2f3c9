-- The test of a sheet that is handed in says what 02 has it say, and is decided by the first part of it that fails.
-- Assumes nothing.
use mathlib.Core.Path.{◌≡◌, refl, sym, ◌∙◌, ap, ap₂}
use mathlib.Core.Logic.{◌↔◌}
use mathlib.Core.Bool.{Bool, true, false, ◌&&◌, and_assoc, and-true, true≢false}
use mathlib.Core.List.{List, [], ◌∷◌}
use Prim.Native.Nat.{ℕ, zero, suc, ◌+◌, ◌*◌, ◌≤◌, ◌<◌}
use native.Mathlib.Nat.{suc-mul, mul-le-mul, mul-le-mul_right, le_step, lt-suc_self}
use native.Mathlib.Numerals.{add-one}
use native.Mathlib.Omega.{arith}
use lib.Dec.{T, leb, ltb, leb→le, le→leb}
use lib.ListN.{length, get_or, take}
use lib.Seq.{get_or-take, length-take-le}
use Rattle.std.specs.List.{list_all}
use Rattle.finite.specs.Sum.{every}
use Rattle.finite.proofs.Tests.{T_and, every_all, all_every}
use Rattle.given_sheet.specs.Given.{WellFormed, size_within, buffers_long, counts_within, entries_below, well_formed}

-- ---- every number below n

-- one number more
pub every_next : (n : ℕ) (f : ℕ → Bool) → every (n + 1) f ≡ (every n f && f n)
unfolding every
every_next n f = rw (add-one n)

-- tests that agree below n
every_same : (n : ℕ) (f g : ℕ → Bool) → ((i : ℕ) → i < n → f i ≡ g i) → every n f ≡ every n g
unfolding every
every_same zero f g same = refl
every_same (suc n) f g same = ap₂ ◌&&◌ (every_same n f g (λ i h. same i (le_step h))) (same n (lt-suc_self n))

-- the first one by itself
every_first : (n : ℕ) (f : ℕ → Bool) → every (suc n) f ≡ (f 0 && every n (λ i. f (suc i)))
unfolding every
every_first zero f = sym (and-true (f 0))
every_first (suc n) f = rw (every_first n f) (and_assoc (f 0) (every n (λ i. f (suc i))) (f (suc n)))

-- a test of all numbers of a list
every_of : (test : ℕ → Bool) (xs : List ℕ) → list_all test xs ≡ every (length xs) (λ i. test (get_or xs i 0))
unfolding every
every_of test [] = refl
every_of test (x ∷ xs) = ap (λ b. test x && b) (every_of test xs) ∙ sym (every_first (length xs) (λ i. test (get_or (x ∷ xs) i 0)))

-- the test of the level counts, as std says it
pub counts_are : (levels : List ℕ) → list_all (λ count. leb 2 count && leb count 64) levels ≡ counts_within (length levels) levels
unfolding counts_within
counts_are levels = every_of (λ count. leb 2 count && leb count 64) levels

pub entries_next : (m : ℕ) (levels table : List ℕ) (r : ℕ)
    → entries_below (r + 1) m levels table ≡ (entries_below r m levels table && every m (λ c. ltb (get_or table (r * m + c) 0) (get_or levels c 0)))
unfolding entries_below
entries_next m levels table r = every_next r (λ i. every m (λ c. ltb (get_or table (i * m + c) 0) (get_or levels c 0)))

-- where the next run of m entries ends, among N of them
pub run_within : (r m : ℕ) {start N long : ℕ} → start ≡ r * m → r < N → N * m ≤ long → start + m ≤ long
run_within r m e h room = omega (arith, e, suc-mul r m, mul-le-mul_right m h)

-- the first m level counts say as much as the whole level list
counts_part : (m : ℕ) (levels : List ℕ) → counts_within m (take m levels) ≡ counts_within m levels
unfolding counts_within
counts_part m levels = every_same m _ _ (λ c h. ap (λ (x : ℕ). leb 2 x && leb x 64) (get_or-take m levels c 0 h))

entries_part : (N m : ℕ) (levels table : List ℕ) → entries_below N m (take m levels) table ≡ entries_below N m levels table
unfolding entries_below
entries_part N m levels table =
    every_same N _ _ (λ r k. every_same m _ _ (λ c h. ap (ltb (get_or table (r * m + c) 0)) (get_or-take m levels c 0 h)))

-- ---- a test and what it says

pub leb_iff : (m n : ℕ) → T (leb m n) ↔ (m ≤ n)
leb_iff m n = (leb→le m n, le→leb m n)

pub both_iff : (a b : Bool) {A B : Type 0} → T a ↔ A → T b ↔ B → T (a && b) ↔ (A × B)
both_iff a b p q =
    (λ t. let both = (T_and a b).0 t in (p.0 both.0, q.0 both.1), λ h. (T_and a b).1 (p.1 h.0, q.1 h.1))

every_iff : (n : ℕ) (f : ℕ → Bool) {P : ℕ → Type 0} → ((i : ℕ) → T (f i) ↔ P i) → T (every n f) ↔ ((i : ℕ) → i < n → P i)
every_iff n f says = (λ t i h. (says i).0 (all_every n f t i h), λ all. every_all n f (λ i h. (says i).1 (all i h)))

-- a test that was passed
pub passed : (b : Bool) → b ≡ true → T b
passed true e = tt
passed false e = absurd (true≢false (sym e))

module _ (N m : ℕ) where
  size_iff : T (size_within N m) ↔ (((1 ≤ N) × (N ≤ 512)) × (1 ≤ m)) × (m ≤ 128)
  unfolding size_within
  size_iff =
      both_iff (leb 1 N && leb N 512 && leb 1 m) (leb m 128)
      (both_iff (leb 1 N && leb N 512) (leb 1 m) (both_iff (leb 1 N) (leb N 512) (leb_iff 1 N) (leb_iff N 512)) (leb_iff 1 m))
      (leb_iff m 128)

  module _ (levels table : List ℕ) where
    long_iff : T (buffers_long N m levels table) ↔ ((m ≤ length levels) × (N * m ≤ length table))
    unfolding buffers_long
    long_iff = both_iff (leb m (length levels)) (leb (N * m) (length table)) (leb_iff m (length levels)) (leb_iff (N * m) (length table))

    counts_iff : T (counts_within m levels) ↔ ((c : ℕ) → c < m → (2 ≤ get_or levels c 0) × (get_or levels c 0 ≤ 64))
    unfolding counts_within
    counts_iff =
        every_iff m (λ c. leb 2 (get_or levels c 0) && leb (get_or levels c 0) 64)
        (λ c. both_iff (leb 2 (get_or levels c 0)) (leb (get_or levels c 0) 64) (leb_iff 2 (get_or levels c 0)) (leb_iff (get_or levels c 0) 64))

    entries_iff : T (entries_below N m levels table) ↔ ((r : ℕ) → r < N → (c : ℕ) → c < m → get_or table (r * m + c) 0 < get_or levels c 0)
    unfolding entries_below
    entries_iff =
        every_iff N (λ r. every m (λ c. ltb (get_or table (r * m + c) 0) (get_or levels c 0)))
        (λ r. every_iff m (λ c. ltb (get_or table (r * m + c) 0) (get_or levels c 0)) (λ c. leb_iff (suc (get_or table (r * m + c) 0)) (get_or levels c 0)))

    -- a sheet passes the test exactly when it is well-formed
    pub well_formed_iff : T (well_formed N m levels table) ↔ WellFormed N m levels table
    unfolding well_formed
    well_formed_iff =
        let parts =
        both_iff (size_within N m && buffers_long N m levels table && counts_within m levels) (entries_below N m levels table)
        (both_iff (size_within N m && buffers_long N m levels table) (counts_within m levels)
        (both_iff (size_within N m) (buffers_long N m levels table) size_iff long_iff) counts_iff)
        entries_iff in (
          λ t.
              let says = parts.0 t in
              let size = says.0.0.0 in
              record {
                runs_some = size.0.0.0;
                runs_most = size.0.0.1;
                columns_some = size.0.1;
                columns_most = size.1;
                counts_there = says.0.0.1.0;
                entries_there = says.0.0.1.1;
                counts_least = λ c h. (says.0.1 c h).0;
                counts_most = λ c h. (says.0.1 c h).1;
                in_range = λ r c k h. says.1 r k c h;
              },
          λ w.
              parts.1 (
                (
                  ((((w.runs_some, w.runs_most), w.columns_some), w.columns_most), (w.counts_there, w.entries_there)),
                  λ c h. (w.counts_least c h, w.counts_most c h),
                ),
                λ r k c h. w.in_range r c k h,
              ),
        )

-- so a sheet that passes it stands
pub stands_formed : (N m : ℕ) (levels table : List ℕ) → well_formed N m levels table ≡ true → WellFormed N m levels table
stands_formed N m levels table e = (well_formed_iff N m levels table).0 (passed _ e)

-- ---- the first part that fails decides the test

module _ (N m : ℕ) (levels table : List ℕ) where
  pub wrong_size : size_within N m ≡ false → false ≡ well_formed N m levels table
  unfolding well_formed
  wrong_size e = rw e

  module _ (size : size_within N m ≡ true) where
    -- within the limits the product is small
    pub few_entries : N * m ≤ 65536
    few_entries = let limits = (size_iff N m).0 (passed _ size) in mul-le-mul limits.0.0.1 limits.1

    pub short_buffers : buffers_long N m levels table ≡ false → false ≡ well_formed N m levels table
    unfolding well_formed
    short_buffers e = rw (size, e)

    module _ (long : buffers_long N m levels table ≡ true) where
      -- as many level counts as columns, and room for all entries
      pub counts_many : length (take m levels) ≡ m
      counts_many = length-take-le m levels ((long_iff N m levels table).0 (passed _ long)).0

      pub wrong_counts : counts_within (length (take m levels)) (take m levels) ≡ false → false ≡ well_formed N m levels table
      unfolding well_formed
      wrong_counts e = rw (size, long, sym (counts_part m levels) ∙ rw counts_many at e)

      pub entries_decide : counts_within (length (take m levels)) (take m levels) ≡ true
          → entries_below N (length (take m levels)) (take m levels) table ≡ well_formed N m levels table
      unfolding well_formed
      entries_decide e =
          rw (size, long, sym (counts_part m levels) ∙ rw counts_many at e, counts_many) (entries_part N m levels table)
