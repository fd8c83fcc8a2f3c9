-- The reader of an order (document 01, "The order" and question 2; document 02, K6, for step 6).
use Rattle.std.specs.Prelude.{◌≡◌, Bool, ◌&&◌, ◌||◌, not, List, ℕ, ◌+◌, ◌*◌, ◌^◌, length, ltb, leb, eqb}
use Rattle.order.specs.Order.{Ingredient, table, matrix, generator, Step, TAKE, FIELD, SUM, MERGE, SPLIT, CROSS, Order, total}
use Rattle.order.specs.Reader.{Parsed, value, refused, Reader, when, ◌>>=◌, give, allowed, numbers, repeated}

-- Tests of single numbers, by the limits of specs/Order.antt: `Between`, `GeneratorField`, `FactorWidth`, `MergePrime` and `IngredientNumber`.
abbrev pub between : ℕ → ℕ → ℕ → Bool
between low high x = leb low x && leb x high

abbrev pub generator_field : ℕ → ℕ → Bool
generator_field t s = between 2 9 s && not (eqb s 6) && leb (s ^ t) 512

abbrev pub factor_width : ℕ → ℕ → Bool
factor_width s u = leb 1 u && leb (s ^ u) 64

abbrev pub merge_prime : ℕ → Bool
merge_prime p = between 2 7 p && not (eqb p 4) && not (eqb p 6)

abbrev pub ingredient_number : ℕ → Bool
ingredient_number i = between 1 32 i || between 101 104 i

-- The k of SUM and of CROSS is an ingredient, or 0 for none.
abbrev pub none_or_ingredient : ℕ → Bool
none_or_ingredient k = eqb k 0 || ingredient_number k

-- How many, from low to high, and that many times what r reads.
abbrev pub counted : {A : Type 0} → ℕ → ℕ → Reader A → Reader (List A)
counted low high r = do
  n ← allowed (between low high)
  repeated n r

-- The ingredients by kind, from the number after rows and columns on.
unfoldable pub table_body : ℕ → ℕ → Reader Ingredient
table_body rows columns = do
  levels ← repeated columns (allowed (between 2 64))
  entries ← numbers (rows * columns)
  give (table rows levels entries)

unfoldable pub matrix_body : ℕ → ℕ → Reader Ingredient
matrix_body rows columns = do
  p ← allowed (between 2 64)
  entries ← numbers (rows * columns)
  give (matrix rows columns p entries)

-- Rows is t and columns is n. A too large s^t is placed at s.
unfoldable pub generator_body : ℕ → ℕ → Reader Ingredient
generator_body t n = do
  s ← allowed (generator_field t)
  widths ← repeated n (allowed (factor_width s))
  entries ← numbers (t * total widths)
  give (generator t s widths entries)

-- Kind 1 is a table, 2 a matrix and 3 a generator.
abbrev pub body : ℕ → ℕ → ℕ → Reader Ingredient
body kind rows columns =
    when (eqb kind 1) (table_body rows columns) (when (eqb kind 2) (matrix_body rows columns) (generator_body rows columns))

-- A generator has at most 9 rows, a table or matrix 512.
abbrev pub most_rows : ℕ → ℕ
most_rows kind = when (eqb kind 3) 9 512

-- Each ingredient starts kind, rows, columns.
unfoldable pub read_ingredient : Reader Ingredient
read_ingredient = do
  kind ← allowed (between 1 3)
  rows ← allowed (between 1 (most_rows kind))
  columns ← allowed (between 1 128)
  body kind rows columns

-- The steps by kind, from the number after the kind on. TAKE and FIELD name one ingredient.
unfoldable pub read_naming : (ℕ → Step) → Reader Step
read_naming step = do
  i ← allowed ingredient_number
  give (step i)

-- The operands of SUM, with which those of CROSS begin: the matrices, and a table or none.
abbrev pub sum_operands : Reader (List ℕ × ℕ)
sum_operands = do
  ds ← counted 1 16 (allowed ingredient_number)
  k ← allowed none_or_ingredient
  give (ds, k)

unfoldable pub read_sum : Reader Step
read_sum = do
  operands ← sum_operands
  give (SUM operands.0 operands.1)

unfoldable pub read_merge : Reader Step
read_merge = do
  p ← allowed merge_prime
  cs ← repeated (p + 1) (allowed (between 1 128))
  give (MERGE p cs)

unfoldable pub read_split : Reader Step
read_split = do
  c ← allowed (between 1 128)
  i ← allowed ingredient_number
  give (SPLIT c i)

-- Step 6 of 02, K6: its h, unlike k, is never 0.
unfoldable pub read_cross : Reader Step
read_cross = do
  operands ← sum_operands
  h ← allowed ingredient_number
  give (CROSS operands.0 operands.1 h)

-- Kinds 1 to 6 are TAKE, FIELD, SUM, MERGE, SPLIT and CROSS.
abbrev pub step_of : ℕ → Reader Step
step_of kind =
    when (eqb kind 1) (read_naming TAKE)
    (when (eqb kind 2) (read_naming FIELD)
    (when (eqb kind 3) read_sum (when (eqb kind 4) read_merge (when (eqb kind 5) read_split read_cross))))

unfoldable pub read_step : Reader Step
read_step = do
  kind ← allowed (between 1 6)
  step_of kind

-- All ingredients and all steps.
unfoldable pub read_parts : Reader Order
read_parts = do
  ingredients ← counted 0 32 read_ingredient
  steps ← counted 1 16 read_step
  give (record { ingredients = ingredients; steps = steps })

-- Nothing may be left over.
abbrev pub at_end : {A : Type 0} → A → Reader A
at_end a list at = when (ltb at (length list)) (refused at) (value a (length list))

-- Question 2: the order that a list writes, or the place where the list is refused. A list over 32,768 numbers is refused unread.
unfoldable pub read_order : List ℕ → Parsed Order
read_order list = when (ltb 32768 (length list)) (refused 32768) ((read_parts >>= at_end) list 0)

-- The list reads, to its exact end, and o is the order.
abbrev pub Reads : List ℕ → Order → Type 0
Reads list o = read_order list ≡ value o (length list)
