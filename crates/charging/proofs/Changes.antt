-- Counting changed levels, column by column.
-- Assumes nothing.
use mathlib.Core.Path.{◌≡◌, refl, sym, ◌∙◌, ap, ap₂}
use mathlib.Core.Logic.{by_cases}
use mathlib.Core.Bool.{Bool, true, false, ◌&&◌}
use mathlib.Core.List.{List}
use Prim.Native.Nat.{ℕ, zero, suc, ◌+◌, ◌*◌, ◌-◌, ◌≤◌, ◌<◌}
use native.Mathlib.Decide.{dec_lt}
use native.Mathlib.Nat.{mul_comm, mul-le-mul}
use native.Mathlib.Numerals.{add-one}
use native.Mathlib.Omega.{arith}
use lib.Dec.{leb, eqb}
use mir.Syntax.{w16, w32}
use mir.Val.{Fits, bool_byte}
use lib.ListN.{length, get_or, set, take, replicate, length-set}
use lib.Seq.{get_or-set_same, get_or-set_other}
use Rattle.finite.specs.Sum.{sum, bit, count}
use Rattle.finite.proofs.Sums.{sum_ext, sum_mul, sum_exchange}
use Rattle.finite.proofs.Counts.{count_suc, count_none, count_le}
use Rattle.finite.proofs.Fits.{run_more, run_end}
use Rattle.counting.specs.Table.{table_of}
use Rattle.given_sheet.specs.Given.{WellFormed, given_sheet}
use Rattle.given_sheet.proofs.Sheet.{given_columns, given_level}
use Rattle.charges.specs.Charge.{changes, change_pence, price_sum, hundredfold, rounded, charge}
use Rattle.charges.specs.ChargePromise.{ChargePromise}
use Rattle.charges.proofs.ChargePromises.{ChargeSettled, sheet_charged, served, charge_promised}
use Rattle.charging.specs.Changes.{differs, change_count, priced_counts}

-- ---- one run, compared with the one before it

-- what a comparison adds, as the code has it
byte_bit : (b : Bool) → bool_byte b ≡ bit b
byte_bit true = refl
byte_bit false = refl

pub count_fits : {x : ℕ} (b : Bool) → x ≤ 512 → Fits w16 (x + bool_byte b)
count_fits true h = omega (arith, h)
count_fits false h = omega (arith, h)

-- The counts on the way: those of the first k columns are raised, the others as they were.
pub record Raising (table : List ℕ) (start : ℕ) (before after : List ℕ) (k : ℕ) : Type 0 where
  pub low : k ≤ length before
  pub size : length after ≡ length before
  pub raised : (c : ℕ) → c < k → get_or after c 0 ≡ get_or before c 0 + bit (differs table (length before) start c)
  pub waiting : (c : ℕ) → k ≤ c → get_or after c 0 ≡ get_or before c 0

module _ (table : List ℕ) (start : ℕ) (before : List ℕ) where
  pub raising_none : Raising table start before before 0
  raising_none = record { low = omega arith; size = refl; raised = λ c h. absurd (omega (arith, h)); waiting = λ c h. refl }

  pub raising_more : {after : List ℕ} {k : ℕ} → Raising table start before after k → k < length before
      → Raising table start before (set after k (get_or after k 0 + bool_byte (differs table (length before) start k))) (k + 1)
  raising_more {after} {k} on h =
      let more = get_or after k 0 + bool_byte (differs table (length before) start k) in
      record {
        low = omega (arith, h);
        size = length-set after k more ∙ on.size;
        raised = λ c l.
            by_cases (dec_lt c k)
            (λ (less : c < k). get_or-set_other after k c more 0 (λ e. omega (arith, e, less)) ∙ on.raised c less)
            (λ no.
            let e : c ≡ k = omega arith in
            rw e (get_or-set_same after k more 0 (rw on.size h) ∙ ap₂ ◌+◌ (on.waiting k (omega arith)) (byte_bit (differs table (length before) start k))));
        waiting = λ c l. get_or-set_other after k c more 0 (λ e. omega (arith, e, l)) ∙ on.waiting c (omega (arith, l));
      }

-- ---- all runs

-- a count that nothing has raised, in the front of an array of zeros
pub zero_front : (m n c : ℕ) → get_or {A = ℕ} (take m (replicate n 0)) c 0 ≡ 0
zero_front zero n c = refl
zero_front (suc m) zero c = refl
zero_front (suc m) (suc n) zero = refl
zero_front (suc m) (suc n) (suc c) = zero_front m n c

-- The counts after the first n changes from run to run.
pub record Counting (table : List ℕ) (m n : ℕ) (counts : List ℕ) : Type 0 where
  pub size : length counts ≡ m
  pub counted : (c : ℕ) → c < m → get_or counts c 0 ≡ count n (λ r. differs table m (r * m) c)

module _ (table : List ℕ) (m : ℕ) where
  pub counting_none : {counts : List ℕ} → length counts ≡ m → ((c : ℕ) → get_or counts c 0 ≡ 0) → Counting table m 0 counts
  counting_none size clear = record { size = size; counted = λ c h. clear c ∙ sym (count_none (λ r. differs table m (r * m) c)) }

  pub counting_more : {n start : ℕ} {counts after : List ℕ} → Counting table m n counts → start ≡ n * m → length after ≡ length counts
      → ((c : ℕ) → c < length counts → get_or after c 0 ≡ get_or counts c 0 + bit (differs table (length counts) start c))
      → Counting table m (n + 1) after
  counting_more {n} {counts = counts} on e size raised =
      record {
        size = size ∙ on.size;
        counted = λ c h.
            raised c (rw on.size h)
            ∙ rw (on.size, e, on.counted c h, add-one n) (sym (count_suc n (λ r. differs table m (r * m) c)));
      }

  pub counting_low : {n : ℕ} {counts : List ℕ} → Counting table m n counts → n ≤ 512 → (c : ℕ) → c < length counts → get_or counts c 0 ≤ 512
  counting_low {n} on few c h = omega (arith, few, on.counted c (rw (← on.size) h), count_le n (λ r. differs table m (r * m) c))

-- where the run after run r ends, among N of them
pub next_within : (r m : ℕ) {start N long : ℕ} → start ≡ r * m → r + 1 < N → N * m ≤ long → start + m + m ≤ long
next_within r m e h room = omega (arith, e, run_more r m, run_end (r + 1) m h room)

-- ---- the prices

-- a number of 16 bits times a price
pub column_most : {often price : ℕ} → Fits w16 often → Fits w32 price → often * price ≤ 65535 * 4294967295
column_most often price = mul-le-mul {n₂ = 65535} {m₂ = 4294967295} (omega (arith, often.fits)) (omega (arith, price.fits))

module _ (counts prices : List ℕ) where
  -- what the first c columns cost
  abbrev pub priced_first : ℕ → ℕ
  priced_first c = sum c (λ k. get_or counts k 0 * get_or prices k 0)

  pub priced_none : priced_first 0 ≡ 0
  unfolding sum
  priced_none = refl

  pub priced_more : (c : ℕ) → priced_first (c + 1) ≡ priced_first c + get_or counts c 0 * get_or prices c 0
  unfolding sum
  priced_more c = rw (add-one c)

-- counts that are the same cost the same
pub priced_same : {counts others : ℕ → ℕ} (prices : List ℕ) → ((c : ℕ) → c < length prices → counts c ≡ others c) → priced_counts counts prices ≡ priced_counts others prices
unfolding priced_counts
priced_same prices same = sum_ext (length prices) (λ c h. ap (λ (k : ℕ). k * get_or prices c 0) (same c h))

-- ---- the sheet

module _ {N m : ℕ} {levels table : List ℕ} (sheet : WellFormed N m levels table) where
  -- a change in the bytes is one of the sheet
  change_same : (r c : ℕ) → changes (given_sheet N m levels table) r c ≡ differs table m (r * m) c
  unfolding changes differs
  change_same r c = rw (given_level sheet (r + 1) c, given_level sheet r c, run_more r m)

  -- a column's price as often as it changes, or at each change
  column_priced : (c price : ℕ) → change_count table m N c * price ≡ sum (N - 1) (λ r. bit (changes (given_sheet N m levels table) r c) * price)
  unfolding change_count count
  column_priced c price =
      mul_comm (change_count table m N c) price
      ∙ sym (sum_mul (N - 1) price (λ r. bit (differs table m (r * m) c)))
      ∙ sum_ext (N - 1) (λ r h. mul_comm price (bit (differs table m (r * m) c)) ∙ ap (λ (b : Bool). bit b * price) (sym (change_same r c)))

  -- so the sum is the one of 02, however it is added up
  sum_same : (run_price : ℕ) (prices : List ℕ) → length prices ≡ m
      → N * run_price + priced_counts (change_count table (length prices) N) prices ≡ price_sum (given_sheet N m levels table) run_price prices
  unfolding price_sum priced_counts change_pence given_sheet table_of
  sum_same run_price prices many =
      ap (λ (pence : ℕ). N * run_price + pence)
      (rw many
      (sum_ext m (λ c h. column_priced c (get_or prices c 0))
      ∙ sum_exchange m (N - 1) (λ c r. bit (changes (given_sheet N m levels table) r c) * get_or prices c 0)
      ∙ sum_ext (N - 1) (λ r h. ap (λ (k : ℕ). sum k (λ c. bit (changes (given_sheet N m levels table) r c) * get_or prices c 0)) (sym (given_columns sheet)))))

  -- with prices of 32 bits nothing overflows, and what is rounded is 02's hundredfold
  pub record Summed (run_price : ℕ) (prices : List ℕ) (discount sum : ℕ) : Type 0 where
    pub sum_fits : sum < 18446744073709551616
    pub fold_fits : sum * (100 - discount) + 50 < 18446744073709551616
    pub charge_is : rounded (sum * (100 - discount)) ≡ charge (given_sheet N m levels table) run_price prices discount

  pub summed : (run_price : ℕ) (prices : List ℕ) (discount : ℕ) → run_price ≤ 4294967295 → ((c : ℕ) → get_or prices c 0 ≤ 4294967295) → length prices ≡ m
      → {changed : ℕ} → changed ≡ priced_counts (change_count table (length prices) N) prices → Summed run_price prices discount (N * run_price + changed)
  unfolding charge hundredfold
  summed run_price prices discount low each many is =
      let holds = sheet_charged sheet run_price prices low each discount in
      rw (is, sum_same run_price prices many)
      record { sum_fits = omega (arith, holds.at_most); fold_fits = holds.no_overflow; charge_is = refl }

  -- the same from what the code knows
  pub price_list : (run_price : ℕ) (prices : List ℕ) (discount : ℕ) → Fits w32 run_price → ((c : ℕ) → Fits w32 (get_or prices c 0))
      → (leb discount 100 && eqb (length prices) m) ≡ true
      → {changed : ℕ} → changed ≡ priced_counts (change_count table (length prices) N) prices → Summed run_price prices discount (N * run_price + changed)
  price_list run_price prices discount low each serves =
      summed run_price prices discount (omega (arith, low.fits)) (λ c. omega (arith, (each c).fits)) (served _ _ _ serves).1

-- the promise of numbers of 32 bits
pub promised : (N m : ℕ) (levels table : List ℕ) (run_price : ℕ) (prices : List ℕ) (discount : ℕ) {answer pence : ℕ}
    → Fits w32 run_price → ((c : ℕ) → Fits w32 (get_or prices c 0))
    → ChargeSettled N m levels table run_price prices discount answer pence
    → ChargePromise N m levels table run_price prices discount answer pence
promised N m levels table run_price prices discount low each settled =
    charge_promised N m levels table run_price prices discount (omega (arith, low.fits)) (λ c. omega (arith, (each c).fits)) settled
