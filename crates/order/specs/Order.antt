-- An order as data (document 01, "The order"): its ingredients and steps, the limits of its numbers, and the list that writes it.
use Rattle.std.specs.Prelude.{◌≡◌, ◌⊎◌, List, [], ◌∷◌, ◌++◌, ℕ, ◌+◌, ◌*◌, ◌^◌, ◌≤◌, length}

-- An ingredient: a table, a difference matrix or a generator matrix over a field of s elements.
-- The columns of a table are its level counts, and the factors of a generator are its widths (the u of 01).
pub data Ingredient : Type 0 where
  table : (rows : ℕ) (levels entries : List ℕ) → Ingredient
  matrix : (rows columns p : ℕ) (entries : List ℕ) → Ingredient
  generator : (t s : ℕ) (widths entries : List ℕ) → Ingredient

abbrev pub entries_of : Ingredient → List ℕ
entries_of (table rows levels entries) = entries
entries_of (matrix rows columns p entries) = entries
entries_of (generator t s widths entries) = entries

-- A step, by the names of 01: its numbers are ingredients (TAKE, FIELD, SUM, the second of SPLIT) and columns (MERGE, the first of SPLIT). Step 6 of
-- 02, K6 is CROSS here: the operands of SUM, then the table h that follows the old runs.
pub data Step : Type 0 where
  TAKE : (i : ℕ) → Step
  FIELD : (i : ℕ) → Step
  SUM : (ds : List ℕ) (k : ℕ) → Step
  MERGE : (p : ℕ) (cs : List ℕ) → Step
  SPLIT : (c i : ℕ) → Step
  CROSS : (ds : List ℕ) (k h : ℕ) → Step

-- Ingredients are numbered from 1 in the order of the list.
pub record Order : Type 0 where
  pub ingredients : List Ingredient
  pub steps : List Step

-- The sum of a list of numbers: how long a generator's rows are.
abbrev pub total : List ℕ → ℕ
total [] = 0
total (x ∷ xs) = x + total xs

-- P holds of every element.
abbrev pub All : {A : Type 0} → (A → Type 0) → List A → Type 0
All P [] = Unit
All P (x ∷ xs) = P x × All P xs

-- From low to high, both included.
abbrev pub Between : ℕ → ℕ → ℕ → Type 0
Between low high x = (low ≤ x) × (x ≤ high)

-- The size s of the field of a generator with t rows: 2, 3, 4, 5, 7, 8 or 9, and s^t is at most 512.
abbrev pub GeneratorField : ℕ → ℕ → Type 0
GeneratorField t s = Between 2 9 s × (s ≡ 6 → ⊥) × (s ^ t ≤ 512)

-- The width u of a factor: at least 1, and s^u is at most 64.
abbrev pub FactorWidth : ℕ → ℕ → Type 0
FactorWidth s u = (1 ≤ u) × (s ^ u ≤ 64)

-- The p of MERGE: 2, 3, 5 or 7.
abbrev pub MergePrime : ℕ → Type 0
MergePrime p = Between 2 7 p × (p ≡ 4 → ⊥) × (p ≡ 6 → ⊥)

-- The number of an ingredient: 1 to 32 for those of the list, 101 to 104 for the house tables.
abbrev pub IngredientNumber : ℕ → Type 0
IngredientNumber i = Between 1 32 i ⊎ Between 101 104 i

-- Limits of an ingredient. Its entries have none here but their number: that they are below their levels is question 3.
abbrev pub IngredientLimits : Ingredient → Type 0
IngredientLimits (table rows levels entries) =
    Between 1 512 rows
    × Between 1 128 (length levels)
    × All (Between 2 64) levels
    × (length entries ≡ rows * length levels)
IngredientLimits (matrix rows columns p entries) =
    Between 1 512 rows × Between 1 128 columns × Between 2 64 p × (length entries ≡ rows * columns)
IngredientLimits (generator t s widths entries) =
    Between 1 9 t
    × Between 1 128 (length widths)
    × GeneratorField t s
    × All (FactorWidth s) widths
    × (length entries ≡ t * total widths)

-- Limits of the operands of SUM, which CROSS has too; only k may be 0, for none.
abbrev pub SumLimits : List ℕ → ℕ → Type 0
SumLimits ds k = Between 1 16 (length ds) × All IngredientNumber ds × ((k ≡ 0) ⊎ IngredientNumber k)

-- Limits of a step; the h of CROSS is never 0 (02, K6).
abbrev pub StepLimits : Step → Type 0
StepLimits (TAKE i) = IngredientNumber i
StepLimits (FIELD i) = IngredientNumber i
StepLimits (SUM ds k) = SumLimits ds k
StepLimits (MERGE p cs) = MergePrime p × (length cs ≡ p + 1) × All (Between 1 128) cs
StepLimits (SPLIT c i) = Between 1 128 c × IngredientNumber i
StepLimits (CROSS ds k h) = SumLimits ds k × IngredientNumber h

-- All limits of 01 and of 02, K6 on an order.
pub record WithinLimits (o : Order) : Type 0 where
  pub ingredient_count : length o.ingredients ≤ 32
  pub each_ingredient : All IngredientLimits o.ingredients
  pub step_count : Between 1 16 (length o.steps)
  pub each_step : All StepLimits o.steps

-- The numbers of an ingredient, in the order of 01: kind, rows, columns, then level counts, p, or s and the widths, then the entries.
abbrev pub written_ingredient : Ingredient → List ℕ
written_ingredient (table rows levels entries) = 1 ∷ rows ∷ length levels ∷ levels ++ entries
written_ingredient (matrix rows columns p entries) = 2 ∷ rows ∷ columns ∷ p ∷ entries
written_ingredient (generator t s widths entries) = 3 ∷ t ∷ length widths ∷ s ∷ widths ++ entries

-- The numbers of a step: its kind and its operands.
abbrev pub written_step : Step → List ℕ
written_step (TAKE i) = 1 ∷ i ∷ []
written_step (FIELD i) = 2 ∷ i ∷ []
written_step (SUM ds k) = 3 ∷ length ds ∷ ds ++ k ∷ []
written_step (MERGE p cs) = 4 ∷ p ∷ cs
written_step (SPLIT c i) = 5 ∷ c ∷ i ∷ []
written_step (CROSS ds k h) = 6 ∷ length ds ∷ ds ++ k ∷ h ∷ []

-- What w writes of each element, one after the other.
abbrev pub written_all : {A : Type 0} → (A → List ℕ) → List A → List ℕ
written_all w [] = []
written_all w (x ∷ xs) = w x ++ written_all w xs

-- The list of an order: how many ingredients, they, how many steps, they.
unfoldable pub written : Order → List ℕ
written o =
    length o.ingredients
    ∷ written_all written_ingredient o.ingredients
    ++ length o.steps
    ∷ written_all written_step o.steps
