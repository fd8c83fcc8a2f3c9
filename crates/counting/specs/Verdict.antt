-- The verdicts on a table and on a difference matrix, with the first failure: document 01, question 4; document 02, K5 and K8.
use Rattle.std.specs.Prelude.{cond, List, [], ◌∷◌, ℕ, ◌+◌, ◌-◌, ◌*◌, ◌/◌, ◌%◌, eqb, ℤ, pos, nat_abs, ◌-ℤ◌, Result, Ok, Err}
use Rattle.std.proofs.Math.Option.{Option, none, some, map}
use Rattle.finite.specs.First.{first, first_pair, ◌or_else◌}
use Rattle.finite.specs.Greatest.{greatest}
use Rattle.finite.specs.Pairs.{ordinal}
use Rattle.counting.specs.Table.{Table, columns, levels_of, Setting, times}
use Rattle.counting.specs.Matrix.{Matrix, differences}
use Rattle.counting.specs.declared.verdict.DifferenceFault.{DifferenceFault}
use Rattle.counting.specs.declared.verdict.TableFault.{TableFault}
use Rattle.counting.specs.declared.verdict.TableFault.TheVariants.{Column, Pair}
use Rattle.counting.specs.declared.verdict.TableVerdict.{TableVerdict}

-- a value with the number of runs in which it stands
pub record Counted : Type 0 where
  pub value : ℕ
  pub times : ℕ

-- the lowest of n values that does not stand in exactly N ÷ n of N runs: "passes" is n × times = N
unfoldable pub deviation : ℕ → ℕ → (ℕ → ℕ) → Option Counted
deviation n N times_of =
    first n (λ v. cond (eqb (n * times_of v) N) none (some (record { value = v; times = times_of v })))

-- by how much a value is off that stands in so many of N runs: n × times − N, below zero where it is short and above where it is over (02, K5)
abbrev pub gap : ℕ → ℕ → ℕ → ℤ
gap n N times = pos (n * times) -ℤ pos N

-- of n values the one that is farthest off, the sign of its gap ignored, and the lowest among equals (02, K5)
unfoldable pub farthest : ℕ → ℕ → (ℕ → ℕ) → ℕ
farthest n N times_of = greatest n (λ v. nat_abs (gap n N (times_of v)))

-- the lowest uneven level of column c
unfoldable pub column_deviation : Table → ℕ → Option Counted
column_deviation T c =
    deviation (levels_of T c) T.runs (λ x. times T (record { column = c; level = x } ∷ []))

-- columns are named from 1
abbrev pub column_fault : Table → ℕ → Option TableFault
column_fault T c = map (λ (x : Counted). Column (c + 1) x.value x.times) (column_deviation T c)

-- pair number v of the levels of columns c and d: they go 00, 01, .., the level of c leading
abbrev pub pair_at : Table → ℕ → ℕ → ℕ → List Setting
pair_at T c d v =
    record { column = c; level = v / levels_of T d } ∷ record { column = d; level = v % levels_of T d } ∷ []

-- the lowest uneven pair of levels of columns c and d
unfoldable pub pair_deviation : Table → ℕ → ℕ → Option Counted
pair_deviation T c d = deviation (levels_of T c * levels_of T d) T.runs (λ v. times T (pair_at T c d v))

-- the number of the pair of levels of columns c and d that is farthest off
unfoldable pub farthest_pair : Table → ℕ → ℕ → ℕ
farthest_pair T c d = farthest (levels_of T c * levels_of T d) T.runs (λ v. times T (pair_at T c d v))

-- pair number v as it is named
abbrev pub named_pair : Table → ℕ → ℕ → ℕ → TableFault
named_pair T c d v = Pair (c + 1) (d + 1) (v / levels_of T d) (v % levels_of T d) (times T (pair_at T c d v))

-- where two columns have an uneven pair of levels, the one that is farthest off is named (02, K5)
abbrev pub pair_fault : Table → ℕ → ℕ → Option TableFault
pair_fault T c d = map (λ (x : Counted). named_pair T c d (farthest_pair T c d)) (pair_deviation T c d)

-- the first failure of a column
unfoldable pub columns_fault : Table → Option TableFault
columns_fault T = first (columns T) (column_fault T)

-- the first failure of two columns, in the order 1-2, 1-3, .., 2-3, ..
unfoldable pub pairs_fault : Table → Option TableFault
pairs_fault T = first_pair (columns T) (pair_fault T)

abbrev pub table_finding : Option TableFault → Result (Unit {0}) TableFault
table_finding none = Ok tt
table_finding (some fault) = Err fault

-- the gap of the pair of levels that is named, s × t × times − N; it is 0 where a level is named, and where nothing is (02, K5)
abbrev pub fault_gap : Table → Option TableFault → ℤ
fault_gap T none = pos 0
fault_gap T (some (Column c x n)) = pos 0
fault_gap T (some (Pair c d x y n)) = gap (levels_of T (c - 1) * levels_of T (d - 1)) T.runs n

-- how many pairs of m columns are counted: all of them for a table that passes, none where a column is uneven, and where two columns fail as many as the place
-- of these two in the order says, from 1 (02, K8)
abbrev pub pairs_counted : ℕ → Result (Unit {0}) TableFault → ℕ
pairs_counted m (Ok tt) = m * (m - 1) / 2
pairs_counted m (Err (Column c x n)) = 0
pairs_counted m (Err (Pair c d x y n)) = ordinal m (c - 1) (d - 1)

-- the verdict that a fault, or none, comes to
abbrev pub verdict_of : Table → Option TableFault → TableVerdict
verdict_of T fault =
    record { finding = table_finding fault; gap = fault_gap T fault; pairs = pairs_counted (columns T) (table_finding fault) }

-- the verdict that names the farthest pair of columns c and d
abbrev pub farthest_verdict : Table → ℕ → ℕ → TableVerdict
farthest_verdict T c d = verdict_of T (some (named_pair T c d (farthest_pair T c d)))

-- columns are tried before pairs
unfoldable pub table_verdict : Table → TableVerdict
table_verdict T = verdict_of T (columns_fault T or_else pairs_fault T)

-- the lowest difference of columns c and d that does not stand in exactly M ÷ p rows
unfoldable pub difference_deviation : Matrix → ℕ → ℕ → Option Counted
difference_deviation D c d = deviation D.modulus D.rows (differences D c d)

abbrev pub difference_fault : Matrix → ℕ → ℕ → Option DifferenceFault
difference_fault D c d =
    map
    (λ (x : Counted). record { first = c + 1; second = d + 1; difference = x.value; times = x.times })
    (difference_deviation D c d)

abbrev pub matrix_finding : Option DifferenceFault → Result (Unit {0}) DifferenceFault
matrix_finding none = Ok tt
matrix_finding (some fault) = Err fault

unfoldable pub matrix_verdict : Matrix → Result (Unit {0}) DifferenceFault
matrix_verdict D = matrix_finding (first_pair D.columns (difference_fault D))
