-- The generator that stands in the list, for step 2, FIELD: document 01, "The order" and "Steps by kind".
use Rattle.std.specs.Prelude.{◌≡◌, List, ℕ, ◌+◌, ◌*◌, ◌^◌, ◌≤◌, ◌<◌, T, length, get_or, take, drop}
use Rattle.galois.specs.Arithmetic.{field_size}
use Rattle.counting.specs.Generator.{Generator, generator_of, width, ElementsInRange}
use Rattle.generated_runs.specs.declared.GeneratorAt.{GeneratorAt}

-- the widths of its factors, and the generator
unfoldable pub widths_in : List ℕ → GeneratorAt → List ℕ
widths_in list g = take g.n (drop g.widths_at list)

unfoldable pub field_generator : List ℕ → GeneratorAt → Generator
field_generator list g = generator_of (take (g.t * g.width) (drop g.entries_at list)) g.t g.s (widths_in list g)

-- what the limits of an order (question 2) and the range of its entries (question 3) say of a generator
pub record FieldStands (list : List ℕ) (g : GeneratorAt) : Type 0 where
  pub short : length list ≤ 32768
  pub size : T (field_size g.s)
  pub size_most : g.s ≤ 9
  pub coordinates_least : 1 ≤ g.t
  pub coordinates_most : g.t ≤ 9
  pub runs_most : g.s ^ g.t ≤ 512
  pub factors_most : g.n ≤ 128
  pub widths_there : g.widths_at + g.n ≤ length list
  pub entries_in : g.entries_at + g.t * g.width ≤ length list
  pub row : width (widths_in list g) ≡ g.width
  pub powers : (i : ℕ) → i < g.n → g.s ^ get_or (widths_in list g) i 0 ≤ 64
  pub elements : ElementsInRange (field_generator list g)

-- columns of the generator whose values make a level: s to the power of their number is at most 64
pub record ColumnsIn (g : GeneratorAt) (column count : ℕ) : Type 0 where
  pub within : column + count ≤ g.width
  pub power : g.s ^ count ≤ 64
