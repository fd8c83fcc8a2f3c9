-- How the check of a generator combines columns: from the last element to the first, by the coefficients' digits from the lowest.
use Rattle.std.specs.Prelude as Prelude
use Rattle.std.specs.Prelude.{Some, None, List, [], ◌∷◌, ◌++◌, map, ℕ, ◌+◌, ◌-◌, ◌*◌, ◌/◌, ◌^◌, ◌≤◌, ◌<◌, T, length, get_or}
use Rattle.std.proofs.Math.Option.{Option, none, some}
use Rattle.finite.specs.Sum.{sum}
use Rattle.finite.specs.Digits.{digits, horner}
use Rattle.finite.specs.Lists.{from}
use Rattle.galois.specs.Arithmetic.{field_size, field_sum, field_product}
use Rattle.galois.specs.Combination.{combination}
use Rattle.counting.specs.Generator.{Generator}
use Rattle.combining.specs.declared.Block.{Block}
use Rattle.combining.specs.declared.Combining.{Combining}

-- coefficients times elements, summed onto a combination that comes after them
unfoldable pub combination_onto : (plus times : ℕ → ℕ → ℕ) → List ℕ → List ℕ → ℕ → ℕ
combination_onto plus times [] xs after = after
combination_onto plus times (k ∷ ks) [] after = after
combination_onto plus times (k ∷ ks) (x ∷ xs) after = plus (times k x) (combination_onto plus times ks xs after)

-- the elements at the places from `start` to `end`
unfoldable pub elements : List ℕ → ℕ → ℕ → List ℕ
elements entries start end = map (λ i. get_or entries i 0) (from start (end - start))

-- the last digits of the coefficients are used up, one for each element
unfoldable pub combined : ℕ → List ℕ → ℕ → ℕ → Combining → Combining
combined s entries start end so_far =
    record {
      rest = so_far.rest / s ^ (end - start);
      sum =
          combination_onto (field_sum s) (field_product s) (digits s (end - start) so_far.rest) (elements entries start end)
          so_far.sum;
    }

-- the places hold elements of the field
pub record ElementsAt (entries : List ℕ) (start end s : ℕ) : Type 0 where
  pub ordered : start ≤ end
  pub end_in : end ≤ length entries
  pub size : T (field_size s)
  pub below : (i : ℕ) → start ≤ i → i < end → get_or entries i 0 < s

-- rows of elements, each of so many, without the factors that they belong to
unfoldable pub grid_of : List ℕ → ℕ → ℕ → ℕ → Generator
grid_of entries t row s =
    record { coordinates = t; size = s; widths = []; entry = λ r c. get_or entries (r * row + c) 0 }

-- the columns of two blocks
unfoldable pub block_columns : Block → Block → List ℕ
block_columns one other = from one.start one.width ++ from other.start other.width

-- the block of factor i
unfoldable pub factor_block : List ℕ → ℕ → Block
factor_block widths i = record { start = sum i (λ k. get_or widths k 0); width = get_or widths i 0 }

-- no columns, in the place of a second block
abbrev pub no_block : Block
no_block = record { start = 0; width = 0 }

-- two blocks of the rows, in which all elements are the field's, of widths with s ^ u at most 64
pub record BlocksIn (entries : List ℕ) (t row s : ℕ) (one other : Block) : Type 0 where
  pub whole : t * row ≤ length entries
  pub size : T (field_size s)
  pub one_in : one.start + one.width ≤ row
  pub other_in : other.start + other.width ≤ row
  pub one_power : s ^ one.width ≤ 64
  pub other_power : s ^ other.width ≤ 64
  pub below : (r c : ℕ) → r < t → c < row → get_or entries (r * row + c) 0 < s

-- the combination of the columns of two blocks in the row that starts at a place
unfoldable pub row_combination : List ℕ → ℕ → ℕ → Block → Block → ℕ → ℕ
row_combination entries start s one other v =
    combination (field_sum s) (field_product s) (digits s (one.width + other.width) v)
    (map (λ c. get_or entries (start + c) 0) (block_columns one other))

-- the combination of the columns of one block in all t rows, as one number: the element in row 0 is its highest digit base s
unfoldable pub combination_code : List ℕ → ℕ → ℕ → ℕ → Block → ℕ → ℕ
combination_code entries t row s block v = horner s (λ r. row_combination entries (r * row) s block no_block v) t

-- the number of the least coefficient list that combines columns to zero, if there is one, as the program gives it
abbrev pub as_dependence : Option ℕ → Prelude.Option ℕ
as_dependence none = None
as_dependence (some v) = Some v
