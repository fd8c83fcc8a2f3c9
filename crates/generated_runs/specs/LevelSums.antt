-- FIELD's runs from earlier ones: the tuple of a run is the sum of two tuples with fewer digits, and so are the levels (document 01, "Steps by
-- kind", step 2: the levels are read from the tuple times the columns).
use Rattle.std.specs.Prelude.{◌≡◌, List, map, ℕ, zero, suc, ◌+◌, ◌-◌, ◌*◌, ◌/◌, ◌%◌, ◌^◌, ◌≤◌, ◌<◌, length, get_or}
use Rattle.finite.specs.Lists.{from}
use Rattle.finite.specs.Tabulated.{Tabulated}
use Rattle.galois.specs.Arithmetic.{field_sum}
use Rattle.counting.specs.Table.{Table, columns}
use Rattle.generated_runs.specs.declared.GeneratorAt.{GeneratorAt}
use Rattle.generated_runs.specs.declared.Leading.{Leading}

-- the last n digits base s of two numbers, added digit by digit in the field
unfoldable pub digit_sums : ℕ → ℕ → ℕ → ℕ → ℕ
digit_sums s zero x y = 0
digit_sums s (suc n) x y = digit_sums s n (x / s) (y / s) * s + field_sum s (x % s) (y % s)

-- the first n of the sums of two numbers of so many digits, that of x and y at x × s ^ width + y
abbrev pub SumsOf : ℕ → ℕ → ℕ → List ℕ → Type 0
SumsOf s width n sums = Tabulated (λ q. digit_sums s width (q / s ^ width) (q % s ^ width)) n sums

-- no factor has more columns than n
unfoldable pub WidthsTo : List ℕ → GeneratorAt → ℕ → Type 0
WidthsTo list g n = (i : ℕ) → i < g.n → get_or list (g.widths_at + i) 0 ≤ n

-- the sums of any two levels of a generator's factors, of which none has more than so many
pub record Sums (list : List ℕ) (g : GeneratorAt) (most : ℕ) (sums : List ℕ) : Type 0 where
  pub width : ℕ
  pub widths : WidthsTo list g width
  pub power : most ≡ g.s ^ width
  pub few : most ≤ 64
  pub all : SumsOf g.s width (most * most) sums

-- the number of the tuple with a digit in one row and zeros in the others
unfoldable pub single : GeneratorAt → ℕ → ℕ → ℕ
single g row digit = digit * g.s ^ (g.t - 1 - row)

-- A run whose tuple has one digit, or none. Those after it, up to the next such run, have that digit and the digits of an earlier run.
pub record Leads (g : GeneratorAt) (lead : Leading) : Type 0 where
  pub row_in : lead.row < g.t
  pub digit_below : lead.digit < g.s
  pub weight : lead.span ≡ g.s ^ (g.t - 1 - lead.row)
  pub number : lead.run ≡ lead.digit * lead.span
  pub earlier : lead.span ≤ lead.run + 1

-- the first runs of a table stand at the front of a buffer, up to a place
pub record RunsBefore (S : Table) (runs : ℕ) (bytes : List ℕ) (end : ℕ) : Type 0 where
  pub ends : end ≡ runs * columns S
  pub cells : (r c : ℕ) → r < runs → c < columns S → get_or bytes (r * columns S + c) 0 ≡ S.cell r c

-- the n levels at each of two places of a buffer are levels that have a sum
pub record SumsStand (most : ℕ) (sums bytes : List ℕ) (one other n : ℕ) : Type 0 where
  pub few : most ≤ 64
  pub places : length sums ≡ 4096
  pub first : (i : ℕ) → i < n → get_or bytes (one + i) 0 < most
  pub second : (i : ℕ) → i < n → get_or bytes (other + i) 0 < most

-- their sums
unfoldable pub run_sum : ℕ → List ℕ → List ℕ → ℕ → ℕ → ℕ → List ℕ
run_sum most sums bytes one other n =
    map (λ i. get_or sums (get_or bytes (one + i) 0 * most + get_or bytes (other + i) 0) 0) (from 0 n)
