-- What a verdict names: something that does fail, with nothing before it that does (document 01, question 4), and of two columns the pair of levels that is
-- farthest off (document 02, K5). Columns and factors count from 1 where they are named, from 0 here.
use Rattle.std.specs.Prelude.{◌≡◌, List, [], ◌∷◌, map, ℕ, ◌+◌, ◌*◌, ◌^◌, ◌≤◌, ◌<◌, ℤ, pos, nat_abs, length}
use Rattle.finite.specs.Digits.{digits}
use Rattle.galois.specs.Combination.{combination}
use Rattle.counting.specs.Table.{Table, columns, levels_of, times}
use Rattle.counting.specs.Verdict.{gap}
use Rattle.counting.specs.Matrix.{Matrix, differences}
use Rattle.counting.specs.Generator.{Generator, factors, columns_of, IndependentColumns}
use Rattle.counting.specs.declared.verdict.DependenceFault.{DependenceFault}
use Rattle.counting.specs.declared.verdict.DifferenceFault.{DifferenceFault}
use Rattle.counting.specs.declared.verdict.TableFault.{TableFault}
use Rattle.counting.specs.declared.verdict.TableFault.TheVariants.{Column, Pair}

-- level x of column c stands in N ÷ s runs
unfoldable pub EvenLevel : Table → ℕ → ℕ → Type 0
EvenLevel T c x = levels_of T c * times T (record { column = c; level = x } ∷ []) ≡ T.runs

-- levels x of column c and y of column d stand together in N ÷ (s × t) runs
unfoldable pub EvenPair : Table → ℕ → ℕ → ℕ → ℕ → Type 0
EvenPair T c d x y =
    levels_of T c * levels_of T d * times T (record { column = c; level = x } ∷ record { column = d; level = y } ∷ []) ≡ T.runs

-- the levels of column c are all even
abbrev pub EvenColumn : Table → ℕ → Type 0
EvenColumn T c = (x : ℕ) → x < levels_of T c → EvenLevel T c x

-- the pairs of levels of columns c and d are all even
abbrev pub EvenColumns : Table → ℕ → ℕ → Type 0
EvenColumns T c d = (x y : ℕ) → x < levels_of T c → y < levels_of T d → EvenPair T c d x y

-- the first column with an uneven level, its lowest uneven level, and in how many runs it stands
pub record FirstLevel (T : Table) (c x n : ℕ) : Type 0 where
  pub column_in : c < columns T
  pub level_in : x < levels_of T c
  pub counted : n ≡ times T (record { column = c; level = x } ∷ [])
  pub uneven : EvenLevel T c x → ⊥
  pub columns_before : (d : ℕ) → d < c → EvenColumn T d
  pub levels_before : (y : ℕ) → y < x → EvenLevel T c y

-- by how much levels x of column c and y of column d are off: s × t × times − N (02, K5)
unfoldable pub pair_gap : Table → ℕ → ℕ → ℕ → ℕ → ℤ
pair_gap T c d x y =
    gap (levels_of T c * levels_of T d) T.runs (times T (record { column = c; level = x } ∷ record { column = d; level = y } ∷ []))

-- The first two columns with an uneven pair of levels, of their pairs the one that is farthest off, and in how many runs it stands (02, K5). No pair of
-- theirs is farther off, by the size of its gap, and each pair before it, the first column's level leading, is less far off.
pub record FarthestPair (T : Table) (c d x y n : ℕ) : Type 0 where
  pub ordered : c < d
  pub second_in : d < columns T
  pub first_level_in : x < levels_of T c
  pub second_level_in : y < levels_of T d
  pub counted : n ≡ times T (record { column = c; level = x } ∷ record { column = d; level = y } ∷ [])
  pub uneven : EvenPair T c d x y → ⊥
  pub all_columns : (b : ℕ) → b < columns T → EvenColumn T b
  pub firsts_before : (a b : ℕ) → a < c → a < b → b < columns T → EvenColumns T a b
  pub seconds_before : (b : ℕ) → c < b → b < d → EvenColumns T c b
  pub none_farther : (u v : ℕ) → u < levels_of T c → v < levels_of T d → nat_abs (pair_gap T c d u v) ≤ nat_abs (pair_gap T c d x y)
  pub first_levels_before : (u v : ℕ) → u < x → v < levels_of T d → nat_abs (pair_gap T c d u v) < nat_abs (pair_gap T c d x y)
  pub second_levels_before : (v : ℕ) → v < y → nat_abs (pair_gap T c d x v) < nat_abs (pair_gap T c d x y)

-- what is named, and the gap that goes with it: that of a pair of levels, and 0 for a level (02, K5)
pub data FirstFault (T : Table) : TableFault → ℤ → Type 0 where
  level : (c x n : ℕ) → FirstLevel T c x n → FirstFault T (Column (c + 1) x n) (pos 0)
  pair : (c d x y n : ℕ) → FarthestPair T c d x y n → FirstFault T (Pair (c + 1) (d + 1) x y n) (pair_gap T c d x y)

-- column c minus column d is v in M ÷ p rows
unfoldable pub EvenDifference : Matrix → ℕ → ℕ → ℕ → Type 0
EvenDifference D c d v = D.modulus * differences D c d v ≡ D.rows

-- the differences of columns c and d are all even
abbrev pub EvenDifferences : Matrix → ℕ → ℕ → Type 0
EvenDifferences D c d = (v : ℕ) → v < D.modulus → EvenDifference D c d v

-- the first two columns with an uneven difference, their lowest uneven difference, and in how many rows it stands
pub record FirstDifference (D : Matrix) (fault : DifferenceFault) : Type 0 where
  pub one : ℕ
  pub other : ℕ
  pub first_named : fault.first ≡ one + 1
  pub second_named : fault.second ≡ other + 1
  pub ordered : one < other
  pub second_in : other < D.columns
  pub difference_in : fault.difference < D.modulus
  pub counted : fault.times ≡ differences D one other fault.difference
  pub uneven : EvenDifference D one other fault.difference → ⊥
  pub firsts_before : (a b : ℕ) → a < one → a < b → b < D.columns → EvenDifferences D a b
  pub seconds_before : (b : ℕ) → one < b → b < other → EvenDifferences D one b
  pub differences_before : (v : ℕ) → v < fault.difference → EvenDifference D one other v

-- a field's sum and product
module _ (plus times : ℕ → ℕ → ℕ) (G : Generator) where
  -- the coefficient list number v combines the columns to zero
  unfoldable pub Combines : List ℕ → ℕ → Type 0
  Combines cs v =
      (r : ℕ) → r < G.coordinates → combination plus times (digits G.size (length cs) v) (map (G.entry r) cs) ≡ 0

  -- v is the least number of a coefficient list but 0 that does
  pub record LeastDependence (cs : List ℕ) (v : ℕ) : Type 0 where
    pub number_in : v < G.size ^ length cs
    pub nonzero : 0 < v
    pub combines : Combines cs v
    pub least : (w : ℕ) → 0 < w → w < v → Combines cs w → ⊥

  -- factors i and j are independent
  abbrev pub IndependentPair : ℕ → ℕ → Type 0
  IndependentPair i j = IndependentColumns plus times G (columns_of G.widths (i ∷ j ∷ []))

  -- the first two dependent factors, or the only one, with their least dependence
  pub data FirstDependence : DependenceFault → Type 0 where
    only : (v : ℕ)
        → factors G ≡ 1
        → LeastDependence (columns_of G.widths (0 ∷ [])) v
        → FirstDependence (record { first = 1; second = 0; coefficients = v })
    two : (i j v : ℕ)
        → i < j
        → j < factors G
        → LeastDependence (columns_of G.widths (i ∷ j ∷ [])) v
        → ((a b : ℕ) → a < i → a < b → b < factors G → IndependentPair a b)
        → ((b : ℕ) → i < b → b < j → IndependentPair i b)
        → FirstDependence (record { first = i + 1; second = j + 1; coefficients = v })
