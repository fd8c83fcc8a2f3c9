-- The keys of a table's runs: a column's levels, and the numbers of the pairs of levels of two columns, each with a counter of its own.
-- Assumes nothing.
use mathlib.Core.Path.{◌≡◌, sym, ◌∙◌, ap, ap₂}
use mathlib.Core.Bool.{◌&&◌, and-true}
use mathlib.Core.List.{List}
use Prim.Native.Nat.{ℕ, ◌+◌, ◌*◌, ◌/◌, ◌%◌, ◌<◌}
use native.Mathlib.Nat.{mul-zero, zero-add, mul-le-mul, div-add-mod'}
use native.Mathlib.Omega.{arith}
use lib.Arith.{digits_lt, digits_div, digits_mod}
use lib.Dec.{eqb}
use lib.IntN.{ℤ}
use lib.ListN.{length, get_or}
use Rattle.std.specs.Prelude.{Err}
use Rattle.finite.proofs.Tests.{eqb_and_agree}
use Rattle.finite.specs.Sum.{count}
use Rattle.finite.specs.Pairs.{ordinal}
use Rattle.finite.proofs.Counts.{count_ext}
use Rattle.counting.specs.Table.{Table, table_of, InRange, shows, times}
use Rattle.counting.specs.Checkable.{CheckableTable}
use Rattle.counting.specs.Verdict.{column_deviation, pair_at, pair_deviation, farthest_pair, named_pair, farthest_verdict}
use Rattle.counting.specs.declared.verdict.TableFault.{TableFault}
use Rattle.counting.specs.declared.verdict.TableFault.TheVariants.{Pair}
use Rattle.counting.proofs.Deviations.{deviation_ext}
use Rattle.counting.proofs.TableVerdicts.{named_gap, named_place}
use Rattle.tally.specs.Tally.{keys_deviation}
use Rattle.gaps.specs.Gaps.{discrepancy, farthest_off}
use Rattle.gaps.specs.declared.Discrepancy.{Discrepancy}
use Rattle.level_counts.specs.Keys.{Keyed, levels_key, farthest_key}

-- a number of a pair is that pair's alone
pub pair_number : (x y t v : ℕ) → y < t → eqb (x * t + y) v ≡ (eqb x (v / t) && eqb y (v % t))
pair_number x y t v h =
    eqb_and_agree _ _ _ _ _ _
    (λ e. (sym (digits_div x h) ∙ ap (λ z. z / t) e, sym (digits_mod x h) ∙ ap (λ z. z % t) e))
    (λ p q. ap₂ (λ a b. a * t + b) p q ∙ div-add-mod' v t)

module _ (cells levels : List ℕ) (runs : ℕ) (ok : CheckableTable cells levels runs) where
  abbrev T : Table
  T = table_of cells levels runs

  column_key : (c r : ℕ) → levels_key cells (length levels) c 0 c r ≡ T.cell r c
  unfolding levels_key table_of
  column_key c r = rw (mul-zero, zero-add)

  pub column_keyed : (c : ℕ) → c < length levels
      → Keyed cells runs (length levels) c c (get_or levels c 0) (levels_key cells (length levels) c 0 c)
  unfolding InRange table_of
  column_keyed c h =
      record {
        whole = ok.whole;
        few = ok.few;
        first_in = h;
        second_in = h;
        counters_enough = omega (arith, ok.levels_to c h);
        keys_below = λ r l. rw (column_key c r) (ok.in_range r c l h);
      }

  pub column_deviation_lem : (c : ℕ)
      → keys_deviation (get_or levels c 0) runs (levels_key cells (length levels) c 0 c) ≡ column_deviation T c
  unfolding keys_deviation column_deviation table_of times shows
  column_deviation_lem c =
      deviation_ext _ runs (λ v h. count_ext runs (λ r l. rw (column_key c r) (sym (and-true _))))

  pub pair_keyed : (c d : ℕ) → c < length levels → d < length levels
      → Keyed cells runs (length levels) c d (get_or levels c 0 * get_or levels d 0) (levels_key cells (length levels) c (get_or levels d 0) d)
  unfolding InRange table_of levels_key
  pair_keyed c d hc hd =
      record {
        whole = ok.whole;
        few = ok.few;
        first_in = hc;
        second_in = hd;
        counters_enough = mul-le-mul (ok.levels_to c hc) (ok.levels_to d hd);
        keys_below = λ r l. digits_lt (ok.in_range r c l hc) (ok.in_range r d l hd);
      }

  pair_times : (c d : ℕ) → d < length levels → (v : ℕ)
      → count runs (λ r. eqb (levels_key cells (length levels) c (get_or levels d 0) d r) v) ≡ times T (pair_at T c d v)
  unfolding table_of times shows levels_key InRange
  pair_times c d h v = count_ext runs (λ r k. rw (pair_number _ _ _ v (ok.in_range r d k h), and-true))

  pub pair_deviation_lem : (c d : ℕ) → d < length levels
      → keys_deviation (get_or levels c 0 * get_or levels d 0) runs (levels_key cells (length levels) c (get_or levels d 0) d) ≡ pair_deviation T c d
  unfolding keys_deviation pair_deviation table_of
  pair_deviation_lem c d h = deviation_ext _ runs (λ v l. pair_times c d h v)

  -- what is farthest off, as it is named
  abbrev pub named : ℕ → ℕ → Discrepancy → TableFault
  named c d off = Pair (c + 1) (d + 1) (off.value / get_or levels d 0) (off.value % get_or levels d 0) off.times

  pub pair_farthest : (c d : ℕ) → d < length levels → {off : Discrepancy} {g : ℤ} {k : ℕ} → g ≡ off.gap → k ≡ ordinal (length levels) c d
      → off ≡ farthest_key (get_or levels c 0 * get_or levels d 0) runs (levels_key cells (length levels) c (get_or levels d 0) d)
      → record { finding = Err (named c d off); gap = g; pairs = k } ≡ farthest_verdict T c d
  unfolding farthest_key farthest_off discrepancy farthest_pair table_of
  pair_farthest c d h {off} {g} {k} off_Gap place e =
      let w = farthest_pair T c d in
      ap (λ g. record { finding = Err (named c d off); gap = g; pairs = k }) off_Gap
      ∙ ap (λ (x : Discrepancy). record { finding = Err (named c d x); gap = x.gap; pairs = k })
      (e ∙ ap (farthest_off (get_or levels c 0 * get_or levels d 0) runs) (λ i v. pair_times c d h v i))
      ∙ ap₂ (λ g k. record { finding = Err (named_pair T c d w); gap = g; pairs = k }) (sym (named_gap T c d w))
      (place ∙ sym (named_place T c d w))
