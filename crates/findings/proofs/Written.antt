-- An array that is written as digits can be checked: for each kind of array a list of tests, which antt computes, and the law that turns
-- the passed tests into what the report requires.
-- Assumes nothing.
use mathlib.Core.Bool.{Bool, true, ◌&&◌}
use mathlib.Core.List.{List, [], ◌∷◌}
use Prim.Native.Nat.{ℕ, zero, suc, ◌+◌, ◌*◌, ◌^◌, ◌%◌, ◌<◌}
use native.Mathlib.Nat.{add-zero, add-suc, suc-add, zero-add, le_of_suc-le-suc, not-suc-le-zero}
use lib.Arith.{digits_mod}
use lib.Dec.{T, leb, ltb, leb→le, ltb→lt}
use lib.ListN.{length, get_or}
use mir.Facts.{and_yes}
use Rattle.finite.proofs.Fits.{place_below}
use Rattle.galois.specs.Arithmetic.{field_size}
use Rattle.galois.proofs.Tests.{all, passed}
use Rattle.counting.specs.Table.{table_of, InRange}
use Rattle.counting.specs.Matrix.{matrix_of, MatrixInRange}
use Rattle.counting.specs.Generator.{width, generator_of, ElementsInRange}
use Rattle.findings.specs.Digits.{digit_values}
use Rattle.findings.specs.Written.{WrittenTable, WrittenMatrix, WrittenGenerator}

-- the test passes at every entry of a list and its place, counted from i
abbrev pub each : (ℕ → ℕ → Bool) → ℕ → List ℕ → Bool
each test i [] = true
each test i (x ∷ xs) = test i x && each test (suc i) xs

each_from : (test : ℕ → ℕ → Bool) (i : ℕ) (xs : List ℕ) → T (each test i xs)
    → (k : ℕ) → k < length xs → T (test (i + k) (get_or xs k 0))
each_from test i [] t k h = absurd (not-suc-le-zero h)
each_from test i (x ∷ xs) t zero h = rw add-zero (and_yes (test i x) (each test (suc i) xs) t).0
each_from test i (x ∷ xs) t (suc k) h =
    rw (add-suc, ← suc-add)
    (each_from test (suc i) xs (and_yes (test i x) (each test (suc i) xs) t).1 k (le_of_suc-le-suc h))

each_at : (test : ℕ → ℕ → Bool) (xs : List ℕ) → T (each test 0 xs) → (k : ℕ) → k < length xs → T (test k (get_or xs k 0))
each_at test xs t k h = rw zero-add at (each_from test 0 xs t k h)

-- every entry is below the limit at its place
abbrev pub below : (ℕ → ℕ) → List ℕ → Bool
below limit xs = each (λ k x. ltb x (limit k)) 0 xs

below_at : (limit : ℕ → ℕ) (xs : List ℕ) → T (below limit xs) → (k : ℕ) → k < length xs → get_or xs k 0 < limit k
below_at limit xs t k h = ltb→lt _ _ (each_at (λ k x. ltb x (limit k)) xs t k h)

module _ (text levels : List ℕ) (runs : ℕ) where
  -- the level count of a place's column
  abbrev levels_at : ℕ → ℕ
  levels_at k = get_or levels (k % length levels) 0

  abbrev pub table_tests : List Bool
  table_tests =
      leb (length text) 1024
      ∷ leb (runs * length levels) (length (digit_values text))
      ∷ leb runs 512
      ∷ leb (length levels) 128
      ∷ each (λ c s. leb 2 s) 0 levels
      ∷ each (λ c s. leb s 64) 0 levels
      ∷ below levels_at (digit_values text)
      ∷ []

  pub written_table : T (all table_tests) → WrittenTable text levels runs
  unfolding InRange table_of
  written_table t =
      let (short, (whole, (few, (narrow, (from, (to, (inside, _))))))) = passed table_tests t in
      record {
        short = leb→le _ _ short;
        checkable = record {
          whole = leb→le _ _ whole;
          few = leb→le _ _ few;
          narrow = leb→le _ _ narrow;
          levels_from = λ c h. leb→le _ _ (each_at (λ c s. leb 2 s) levels from c h);
          levels_to = λ c h. leb→le _ _ (each_at (λ c s. leb s 64) levels to c h);
          in_range = λ r c hr hc.
              rw (digits_mod r hc) at (below_at levels_at (digit_values text) inside (r * length levels + c) (place_below hr hc (leb→le _ _ whole)));
        };
      }

module _ (text : List ℕ) (rows columns p : ℕ) where
  abbrev pub matrix_tests : List Bool
  matrix_tests =
      leb (length text) 1024
      ∷ leb (rows * columns) (length (digit_values text))
      ∷ leb rows 512
      ∷ leb columns 128
      ∷ leb 2 p
      ∷ leb p 64
      ∷ below (λ k. p) (digit_values text)
      ∷ []

  pub written_matrix : T (all matrix_tests) → WrittenMatrix text rows columns p
  unfolding MatrixInRange matrix_of
  written_matrix t =
      let (short, (whole, (few, (narrow, (from, (to, (inside, _))))))) = passed matrix_tests t in
      record {
        short = leb→le _ _ short;
        checkable = record {
          whole = leb→le _ _ whole;
          few = leb→le _ _ few;
          narrow = leb→le _ _ narrow;
          modulus_from = leb→le _ _ from;
          modulus_to = leb→le _ _ to;
          in_range = λ r c hr hc.
              below_at (λ k. p) (digit_values text) inside (r * columns + c) (place_below hr hc (leb→le _ _ whole));
        };
      }

module _ (text : List ℕ) (t s : ℕ) (widths : List ℕ) where
  abbrev pub generator_tests : List Bool
  generator_tests =
      leb (length text) 1024
      ∷ leb (t * width widths) (length (digit_values text))
      ∷ field_size s
      ∷ leb (length widths) 128
      ∷ each (λ i u. leb (s ^ u) 64) 0 widths
      ∷ below (λ k. s) (digit_values text)
      ∷ []

  pub written_generator : T (all generator_tests) → WrittenGenerator text t s widths
  unfolding ElementsInRange generator_of
  written_generator tests =
      let (short, (whole, (size, (few, (powers, (inside, _)))))) = passed generator_tests tests in
      record {
        short = leb→le _ _ short;
        checkable = record {
          whole = leb→le _ _ whole;
          size = size;
          few = leb→le _ _ few;
          powers = λ i h. leb→le _ _ (each_at (λ i u. leb (s ^ u) 64) widths powers i h);
          in_range = λ r c hr hc.
              below_at (λ k. s) (digit_values text) inside (r * width widths + c) (place_below hr hc (leb→le _ _ whole));
        };
      }
