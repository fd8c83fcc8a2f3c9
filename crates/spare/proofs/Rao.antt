-- Rao's bound at strength two: the spare degrees of an even table are never negative.
-- Every run is compared with the last one, q. Its likeness to q is the sum of the level counts of the columns in which the two agree. With N runs,
-- m columns and level counts that add up to S, evenness gives the sum of the likenesses, m N, and that of their squares, N (m m - m + S). Run q is
-- like itself by S = m + A, where A is the sum of (levels - 1). So the squares of (likeness + 1 - m) add up to N (A + 1), and run q's alone is
-- (A + 1) (A + 1): A + 1 is at most N. All this is said in natural numbers, with what is taken away standing on the other side.
-- Assumes nothing.
use mathlib.Core.Path.{◌≡◌, refl, sym, ◌∙◌, ap}
use mathlib.Core.Logic.{◌≢◌, by_cases}
use mathlib.Core.Bool.{Bool, true, false, ◌&&◌}
use mathlib.Core.List.{List, [], ◌∷◌}
use Prim.Native.Nat.{ℕ, zero, suc, pred, ◌+◌, ◌-◌, ◌*◌, ◌≤◌, ◌<◌}
use native.Mathlib.Nat.{mul-one, mul_comm, suc-pred-eq_of_pos, lt_of_mul-lt-mul_left}
use native.Mathlib.Decide.{ℕ_discrete}
use native.Mathlib.Omega.{arith}
use borrow.Author.Tests.{eq-eqb, ne_eqb}
use lib.Dec.{eqb, lit≤}
use lib.IntN.{pos}
use lib.ListN.{length}
use lib.Signed.{◌≤ℤ◌}
use Rattle.finite.specs.Sum.{sum, count, bit}
use Rattle.finite.proofs.Sums.{sum_ext, sum_add, sum_const, sum_mul, sum_exchange, sum_single}
use Rattle.order.specs.Order.{total}
use Rattle.counting.specs.Table.{Table, columns, levels_of, Setting, shows, times, combinations, Apart, Settings, InRange, Even}
use Rattle.spare.specs.Spare.{spare}
use Rattle.integers.proofs.Differences.{difference_positive}
use Rattle.spare.proofs.Totals.{total_columns, total_least, spare_total}

-- ---- numbers

twice_product : (a b : ℕ) → 2 * (a * b) ≤ a * a + b * b
twice_product zero b = omega arith
twice_product (suc a) zero = omega arith
twice_product (suc a) (suc b) = omega (arith, twice_product a b)

abbrev squared : (ℕ → ℕ) → ℕ → ℕ
squared f r = f r * f r

-- the squares of f r + 1 - c do not add up to less than 0
squares_positive : (n c : ℕ) (f : ℕ → ℕ) → 2 * c * (sum n f + n) ≤ sum n (squared f) + 2 * sum n f + n + n * (c * c)
unfolding sum
squares_positive zero c f = omega arith
squares_positive (suc n) c f = omega (arith, squares_positive n c f, twice_product c (suc (f n)))

-- X and Y are the sums of the likenesses and of their squares, without those of run q, which are m + A and its square
bound : (n m A X Y : ℕ) → X + (m + A) ≡ m * suc n → Y + (m + A) * (m + A) + m * suc n ≡ m * (m * suc n) + suc n * (m + A)
    → 2 * m * (X + n) ≤ Y + 2 * X + n + n * (m * m) → A < suc n
bound n m A X Y likenesses squares positive = lt_of_mul-lt-mul_left (suc A) (omega (arith, ap (λ x. m * x) likenesses))

-- the square of a sum
sum_squared : (n : ℕ) (f : ℕ → ℕ) → sum n f * sum n f ≡ sum n (λ i. sum n (λ j. f i * f j))
sum_squared n f = sym (sum_mul n (sum n f) f) ∙ sum_ext n (λ i h. mul_comm (sum n f) (f i) ∙ sym (sum_mul n (f i) f))

-- a column's part in a likeness: its square, then as evenness counts it, alone and with another column's
weight_square : (s : ℕ) (a : Bool) → s * bit a * (s * bit a) ≡ s * (s * bit a)
weight_square s true = omega arith
weight_square s false = omega arith

weight_alone : (s : ℕ) (a : Bool) → s * bit a ≡ s * 1 * bit (a && true)
weight_alone s true = omega arith
weight_alone s false = omega arith

weight_pair : (s t : ℕ) (a b : Bool) → s * bit a * (t * bit b) ≡ s * (t * 1) * bit (a && (b && true))
weight_pair s t true true = omega arith
weight_pair s t true false = omega arith
weight_pair s t false b = omega arith

-- ---- the likenesses

-- run r agrees with run q in column j
abbrev agrees : Table → ℕ → ℕ → ℕ → Bool
agrees T q j r = eqb (T.cell r j) (T.cell q j)

-- column j's part in the likeness of run r
abbrev weight : Table → ℕ → ℕ → ℕ → ℕ
weight T q j r = levels_of T j * bit (agrees T q j r)

abbrev likeness : Table → ℕ → ℕ → ℕ
likeness T q r = sum (columns T) (λ j. weight T q j r)

-- the products of the parts of columns j and k, over all runs
abbrev products : Table → ℕ → ℕ → ℕ → ℕ
products T q j k = sum T.runs (λ r. weight T q j r * weight T q k r)

-- what run q has in column j
abbrev setting_of : Table → ℕ → ℕ → Setting
setting_of T q j = record { column = j; level = T.cell q j }

module _ (T : Table) (even : Even 2 T) (range : InRange T) (q : ℕ) (last : T.runs ≡ suc q) where
  in_range : (j : ℕ) → j < columns T → T.cell q j < levels_of T j
  unfolding InRange
  in_range j h = range q j (omega arith) h

  -- evenness as a sum: the number of combinations of the settings, once for each run that has the settings
  share : (xs : List Setting) → length xs ≤ 2 → Settings T xs → {f : ℕ → ℕ} → ((r : ℕ) → f r ≡ combinations T xs * bit (shows T xs r))
      → sum T.runs f ≡ T.runs
  unfolding Even times count
  share xs few settings e =
      sum_ext T.runs (λ r l. e r)
      ∙ sum_mul T.runs (combinations T xs) (λ r. bit (shows T xs r))
      ∙ even xs few settings

  weights : (j : ℕ) → j < columns T → sum T.runs (weight T q j) ≡ T.runs
  unfolding Settings Apart combinations shows
  weights j h = share (setting_of T q j ∷ []) (lit≤ tt) (h, in_range j h, tt, tt) (λ r. weight_alone (levels_of T j) (agrees T q j r))

  products_apart : (j k : ℕ) → j < columns T → k < columns T → j ≢ k → products T q j k ≡ T.runs
  unfolding Settings Apart combinations shows
  products_apart j k h l apart =
      share
      (setting_of T q j ∷ setting_of T q k ∷ [])
      (lit≤ tt)
      (h, in_range j h, (apart, tt), (l, in_range k l, tt, tt))
      (λ r. weight_pair (levels_of T j) (levels_of T k) (agrees T q j r) (agrees T q k r))

  products_same : (j : ℕ) → j < columns T → products T q j j ≡ levels_of T j * T.runs
  products_same j h =
      sum_ext T.runs (λ r l. weight_square (levels_of T j) (agrees T q j r))
      ∙ sum_mul T.runs (levels_of T j) (weight T q j)
      ∙ ap (λ x. levels_of T j * x) (weights j h)

  -- the runs of the table for two different columns, and for a column with itself the runs times its levels
  products_are : (j k : ℕ) → j < columns T → k < columns T
      → products T q j k + bit (eqb j k) * T.runs ≡ T.runs + bit (eqb j k) * (T.runs * levels_of T k)
  products_are j k h l =
      by_cases (ℕ_discrete j k)
      (λ e. rw (← e, eq-eqb j j refl) (omega (arith, products_same j h)))
      (λ d. rw (ne_eqb j k d) (omega (arith, products_apart j k h l d)))

  products_with : (j : ℕ) → j < columns T → sum (columns T) (products T q j) + T.runs ≡ columns T * T.runs + T.runs * levels_of T j
  products_with j h =
      omega (
        arith,
        sum_ext (columns T) (λ k l. products_are j k h l),
        sum_add (columns T) (products T q j) (λ k. bit (eqb j k) * T.runs),
        sum_add (columns T) (λ k. T.runs) (λ k. bit (eqb j k) * (T.runs * levels_of T k)),
        sum_const (columns T) T.runs,
        sum_single (columns T) j (λ k. T.runs) h,
        sum_single (columns T) j (λ k. T.runs * levels_of T k) h,
      )

  likenesses : sum T.runs (likeness T q) ≡ columns T * T.runs
  likenesses =
      sum_exchange T.runs (columns T) (λ r j. weight T q j r)
      ∙ sum_ext (columns T) weights
      ∙ sum_const (columns T) T.runs

  squares_split : sum T.runs (squared (likeness T q)) ≡ sum (columns T) (λ j. sum (columns T) (products T q j))
  squares_split =
      sum_ext T.runs (λ r l. sum_squared (columns T) (λ j. weight T q j r))
      ∙ sum_exchange T.runs (columns T) (λ r j. sum (columns T) (λ k. weight T q j r * weight T q k r))
      ∙ sum_ext (columns T) (λ j h. sum_exchange T.runs (columns T) (λ r k. weight T q j r * weight T q k r))

  squares : sum T.runs (squared (likeness T q)) + columns T * T.runs
      ≡ columns T * (columns T * T.runs) + T.runs * sum (columns T) (levels_of T)
  squares =
      omega (
        arith,
        squares_split,
        sum_ext (columns T) products_with,
        sum_add (columns T) (λ j. sum (columns T) (products T q j)) (λ j. T.runs),
        sum_add (columns T) (λ j. columns T * T.runs) (λ j. T.runs * levels_of T j),
        sum_const (columns T) T.runs,
        sum_const (columns T) (columns T * T.runs),
        sum_mul (columns T) T.runs (levels_of T),
      )

  like_itself : likeness T q q ≡ sum (columns T) (levels_of T)
  like_itself = sum_ext (columns T) (λ j h. rw (eq-eqb (T.cell q j) (T.cell q j) refl) (mul-one (levels_of T j)))

  -- the last run's term by itself
  with_last : (f : ℕ → ℕ) → sum T.runs f ≡ sum q f + f q
  unfolding sum
  with_last f = rw last

  -- the sum of (levels - 1) is less than the runs
  degrees_few : (A : ℕ) → sum (columns T) (levels_of T) ≡ columns T + A → A < T.runs
  degrees_few A added =
      rw last
      (bound q (columns T) A (sum q (likeness T q)) (sum q (squared (likeness T q)))
      (rw (with_last (likeness T q), like_itself, added, last) at likenesses)
      (rw (with_last (squared (likeness T q)), like_itself, added, last) at squares)
      (squares_positive q (columns T) (likeness T q)))

-- ---- the spare degrees

pub spare_never_negative : (T : Table) → Even 2 T → InRange T → 1 ≤ T.runs → pos 0 ≤ℤ spare T
unfolding InRange
spare_never_negative T even range some =
    let least = total_least T.levels (λ j h. omega (arith, range 0 j some h)) in
    let added = total_columns T.levels in
    let few = degrees_few T even range (pred T.runs) (sym (suc-pred-eq_of_pos some)) (total T.levels - columns T) (omega arith) in
    rw (spare_total T.runs T.levels) (difference_positive (T.runs + columns T) (1 + total T.levels) (omega arith))
