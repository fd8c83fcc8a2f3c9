-- The house tables pass, by one computed test over each, so they are even at strength two and every entry is in its range.
-- Assumes nothing.
use mathlib.Core.Path.{◌≡◌, refl, subst, ap}
use mathlib.Core.Logic.{◌≢◌}
use mathlib.Core.Bool.{Bool, true, false, cond, ◌&&◌}
use mathlib.Core.Option.{none, some, some-injective, none-ne-some}
use Prim.Native.Nat.{ℕ}
use native.Mathlib.Omega.{arith}
use borrow.Author.Tests.{le-leb}
use lib.Dec.{T, eqb, ltb, leb, ltb→lt, leb→le}
use Rattle.std.specs.Prelude.{Ok}
use Rattle.finite.specs.Sum.{sum, count, every}
use Rattle.finite.specs.First.{first, first_after, first_pair}
use Rattle.finite.proofs.Tests.{all_every, T_and}
use Rattle.counting.specs.Table.{Table, columns, levels_of, InRange, Even, shows, times}
use Rattle.counting.specs.Verdict.{deviation, column_deviation, columns_fault, pair_deviation, pairs_fault, table_verdict}
use Rattle.house.specs.House.{house101, house102, house103, house104, HouseNumber, house_of, house_table}
use Rattle.counting.proofs.TableVerdicts.{table_passes}

-- every entry is in range, as a test
every_in_range : Table → Bool
every_in_range T = every T.runs (λ r. every (columns T) (λ c. ltb (T.cell r c) (levels_of T c)))

in_range : (A : Table) → T (every_in_range A) → InRange A
unfolding every_in_range InRange
in_range A t r c hr hc = ltb→lt _ _ (all_every _ _ (all_every _ _ t r hr) c hc)

-- what is asked of a table: it passes, and its entries are in range
pub record Passing (A : Table) : Type 0 where
  pub verdict : (table_verdict A).finding ≡ Ok tt
  pub in_range : InRange A

passing : (A : Table) → (table_verdict A).finding ≡ Ok tt → T (every_in_range A) → Passing A
passing A v t = record { verdict = v; in_range = in_range A t }

passing_101 : Passing house101
unfolding house101 every_in_range every sum count first first_after first_pair shows times deviation column_deviation columns_fault pair_deviation pairs_fault table_verdict
passing_101 = passing house101 refl tt

passing_102 : Passing house102
unfolding house102 every_in_range every sum count first first_after first_pair shows times deviation column_deviation columns_fault pair_deviation pairs_fault table_verdict
passing_102 = passing house102 refl tt

passing_103 : Passing house103
unfolding house103 every_in_range every sum count first first_after first_pair shows times deviation column_deviation columns_fault pair_deviation pairs_fault table_verdict
passing_103 = passing house103 refl tt

passing_104 : Passing house104
unfolding house104 every_in_range every sum count first first_after first_pair shows times deviation column_deviation columns_fault pair_deviation pairs_fault table_verdict
passing_104 = passing house104 refl tt

cond_both : (P : Table → Type 0) (b : Bool) (x y : Table) → P x → P y → P (cond b x y)
cond_both P true x y p q = p
cond_both P false x y p q = q

cond_some : {X : Type 0} (b : Bool) (x a : X) → cond b (some x) none ≡ some a → T b × (x ≡ a)
cond_some true x a e = (tt, some-injective x a e)
cond_some false x a e = absurd (none-ne-some a e)

-- The house tables pass.
pub house_of_passes : (n : ℕ) → Passing (house_of n)
unfolding house_of
house_of_passes n =
    cond_both Passing (eqb n 101) _ _ passing_101
    (cond_both Passing (eqb n 102) _ _ passing_102 (cond_both Passing (eqb n 103) _ _ passing_103 passing_104))

pub house_passes : (n : ℕ) (A : Table) → house_table n ≡ some A → Passing A
unfolding house_table
house_passes n A e = subst Passing (cond_some (leb 101 n && leb n 104) (house_of n) A e).1 (house_of_passes n)

pub house_even : (n : ℕ) (A : Table) → house_table n ≡ some A → Even 2 A
house_even n A e = (table_passes A).0 (house_passes n A e).verdict

-- the number and its table
pub house_number : (n : ℕ) (A : Table) → house_table n ≡ some A → HouseNumber n × (house_of n ≡ A)
unfolding house_table
house_number n A e =
    let p = cond_some (leb 101 n && leb n 104) (house_of n) A e in
    let b = (T_and (leb 101 n) (leb n 104)).0 p.0 in
    (record { low = leb→le 101 n b.0; high = leb→le n 104 b.1 }, p.1)

pub number_house : (n : ℕ) → HouseNumber n → house_table n ≡ some (house_of n)
unfolding house_table
number_house n h = rw (le-leb 101 n h.low, le-leb n 104 h.high)

-- by number
pub house_at : (n k : ℕ) → n ≡ k → house_of n ≡ house_of k
house_at n k e = ap house_of e

-- a number that is none of the first three, as the last arm of a match knows it
pub last_house : (n : ℕ) → HouseNumber n → ((Unit {0} × (n ≢ 101)) × (n ≢ 102)) × (n ≢ 103) → n ≡ 104
last_house n h others = omega (arith, h.low, h.high, others.0.0.1, others.0.1, others.1)
