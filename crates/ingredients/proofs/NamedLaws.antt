-- The table, matrix or generator that a number names in 01's sense is the one that a look-up finds in the list, and it keeps 01's limits.
-- Assumes nothing.
use Rattle.std.specs.Prelude
use Rattle.std.specs.Prelude.{Some, None}
use mathlib.Core.Path.{◌≡◌, refl, ◌∙◌}
use mathlib.Core.Bool.{Bool, true, false, cond, ◌&&◌}
use mathlib.Core.List.{List}
use mathlib.Core.Option.{Option, none, some, bind}
use Prim.Native.Nat.{ℕ, zero, suc, ◌+◌, ◌*◌, ◌%◌, ◌≤◌, ◌<◌}
use native.Mathlib.Nat.{mod-lt}
use native.Mathlib.Omega.{arith}
use borrow.Author.Tests.{leb-true}
use lib.Arith.{digits_lt, digits_mod}
use lib.Dec.{T, leb, eqb, leb→le}
use lib.ListN.{get_or, take, drop}
use Rattle.finite.specs.Sum.{every}
use Rattle.finite.specs.First.{◌or_else◌}
use Rattle.finite.proofs.Tests.{T_and, all_every}
use Rattle.counting.specs.Table.{Table, columns, levels_of, table_of, InRange}
use Rattle.house.specs.House.{house101, house102, house103, house104, house_of, house_table}
use Rattle.house.proofs.Passing.{house_of_passes}
use Rattle.order.specs.Order.{Ingredient, Order, Between}
use Rattle.order.specs.Grammar.{read_order, Reads}
use Rattle.order.specs.declared.Located.{Located}
use Rattle.order.specs.declared.Located.TheVariants.{Table as TableAt, Matrix as MatrixAt, Generator as GeneratorAt}
use Rattle.order.specs.Range.{EntriesInRange}
use Rattle.places.specs.Places.{ingredient_at, ingredient_in}
use Rattle.places.proofs.Stands.{ingredient_described}
use Rattle.step_tables.specs.Sheet.{SmallEnough}
use Rattle.sheets.specs.Ingredients.{as_table, as_matrix, as_generator, listed, table_named, matrix_named, generator_named}
use Rattle.ingredients.specs.Named.{own_table, named_table, table_in, Legible, some_table, some_matrix, some_generator}
use Rattle.ingredients.specs.Standing.{TableStands}
use Rattle.ingredients.specs.declared.named.NamedTable.TheVariants.{Own, House, Missing}
use Rattle.ingredients.proofs.Parts.{part_length, part_at, part_bytes}
use Rattle.ingredients.proofs.Standing.{table_stands}

-- ---- what the number names

as_table_lem : (list : List ℕ) (L : Prelude.Option Located) → bind (ingredient_in list L) as_table ≡ some_table list (own_table L)
unfolding as_table some_table own_table table_in bind
as_table_lem list (Some (TableAt rows k levels_at entries_at)) = refl
as_table_lem list (Some (MatrixAt rows k p entries_at)) = refl
as_table_lem list (Some (GeneratorAt t n s widths_at w entries_at)) = refl
as_table_lem list None = refl

as_matrix_lem : (list : List ℕ) (L : Prelude.Option Located) → bind (ingredient_in list L) as_matrix ≡ some_matrix list L
unfolding as_matrix some_matrix bind
as_matrix_lem list (Some (TableAt rows k levels_at entries_at)) = refl
as_matrix_lem list (Some (MatrixAt rows k p entries_at)) = refl
as_matrix_lem list (Some (GeneratorAt t n s widths_at w entries_at)) = refl
as_matrix_lem list None = refl

as_generator_lem : (list : List ℕ) (L : Prelude.Option Located) → bind (ingredient_in list L) as_generator ≡ some_generator list L
unfolding as_generator some_generator bind
as_generator_lem list (Some (TableAt rows k levels_at entries_at)) = refl
as_generator_lem list (Some (MatrixAt rows k p entries_at)) = refl
as_generator_lem list (Some (GeneratorAt t n s widths_at w entries_at)) = refl
as_generator_lem list None = refl

-- a house table, or else one of the list
house_first : (list : List ℕ) (n : ℕ) (L : Prelude.Option Located) (b : Bool) → (cond b (some (house_of n)) none or_else some_table list (own_table L)) ≡ some_table list (cond b (House n) (own_table L))
unfolding some_table table_in
house_first list n L true = refl
house_first list n L false = refl

module _ (list : List ℕ) (o : Order) (reads : Reads list o) where
  -- what a number from 1 on names, of the kind wanted, is what the look-up of that number describes
  pub listed_at : {A : Type 0} (kind : Ingredient → Option A) (i : ℕ) → 1 ≤ i → listed kind o i ≡ bind (ingredient_in list (ingredient_at (read_order list) i)) kind
  unfolding listed
  listed_at kind zero h = absurd (omega arith)
  listed_at kind (suc k) h = rw (ingredient_described list o reads k)

  pub table_named_lem : (i : ℕ) → 1 ≤ i → table_named o i ≡ some_table list (named_table (read_order list) i)
  unfolding table_named house_table named_table
  table_named_lem i h =
      let L = ingredient_at (read_order list) i in
      rw (listed_at as_table i h ∙ as_table_lem list L) (house_first list i L (leb 101 i && leb i 104))

  pub matrix_named_lem : (i : ℕ) → 1 ≤ i → matrix_named o i ≡ some_matrix list (ingredient_at (read_order list) i)
  unfolding matrix_named
  matrix_named_lem i h = listed_at as_matrix i h ∙ as_matrix_lem list (ingredient_at (read_order list) i)

  pub generator_named_lem : (i : ℕ) → 1 ≤ i → generator_named o i ≡ some_generator list (ingredient_at (read_order list) i)
  unfolding generator_named
  generator_named_lem i h = listed_at as_generator i h ∙ as_generator_lem list (ingredient_at (read_order list) i)

-- ---- what is known of a table that is named

-- a table that stands in the list can be read from it
pub own_legible : {list : List ℕ} {rows k levels_at entries_at : ℕ} → TableStands list rows k levels_at entries_at → Legible list (Own rows k levels_at entries_at)
unfolding Legible
own_legible {list} {rows} {k} {levels_at} {entries_at} s = (
  s.levels_within,
  s.entries_within,
  part_bytes list levels_at k s.levels_within (λ c h. omega (arith, (s.level_limits c h).1)),
  part_bytes list entries_at (rows * k) s.entries_within
      (λ q h. omega (arith, s.entry_below q h, (s.level_limits (q % k) (mod-lt q s.columns_limits.0)).1)),
)

-- 01's limits of a table, with every entry in range
pub record TableLimits (A : Table) : Type 0 where
  pub small : SmallEnough A
  pub level_limits : (c : ℕ) → c < columns A → Between 2 64 (levels_of A c)
  pub in_range : InRange A

pub own_limits : {list : List ℕ} {rows k levels_at entries_at : ℕ} → TableStands list rows k levels_at entries_at → TableLimits (table_in list (Own rows k levels_at entries_at))
unfolding table_in table_of InRange
own_limits {list} {rows} {k} {levels_at} {entries_at} s =
    let many = part_length list levels_at k s.levels_within in
    let level : (c : ℕ) → c < k → get_or (take k (drop levels_at list)) c 0 ≡ get_or list (levels_at + c) 0 = part_at list levels_at k s.levels_within in
    record {
      small = record { runs_most = s.rows_limits.1; columns_most = rw many s.columns_limits.1 };
      level_limits = λ c h. let below : c < k = rw many at h in rw (level c below) (s.level_limits c below);
      in_range = λ r c hr hc.
          let below : c < k = rw many at hc in
          let place : r * k + c < rows * k = digits_lt hr below in
          rw (many, part_at list entries_at (rows * k) s.entries_within (r * k + c) place, level c below)
          (rw (digits_mod r below) at (s.entry_below (r * k + c) place));
    }

-- the house tables, by one computed test over each
within_limits : Table → Bool
within_limits A = leb A.runs 512 && leb (columns A) 128 && every (columns A) (λ c. leb 2 (levels_of A c) && leb (levels_of A c) 64)

either_within : (b : Bool) (A B : Table) → T (within_limits A) → T (within_limits B) → T (within_limits (cond b A B))
either_within true A B t u = t
either_within false A B t u = u

houses_within : (n : ℕ) → T (within_limits (house_of n))
unfolding house_of within_limits every house101 house102 house103 house104
houses_within n =
    either_within (eqb n 101) house101 _ tt
    (either_within (eqb n 102) house102 _ tt (either_within (eqb n 103) house103 house104 tt tt))

house_limits : (n : ℕ) → TableLimits (house_of n)
unfolding within_limits
house_limits n =
    let A = house_of n in
    let tested = (T_and (leb A.runs 512 && leb (columns A) 128) _).0 (houses_within n) in
    let sizes = (T_and (leb A.runs 512) (leb (columns A) 128)).0 tested.0 in
    record {
      small = record { runs_most = leb→le _ _ sizes.0; columns_most = leb→le _ _ sizes.1 };
      level_limits = λ c h.
          let both = (T_and (leb 2 (levels_of A c)) (leb (levels_of A c) 64)).0 (all_every _ _ tested.1 c h) in
          (leb→le _ _ both.0, leb→le _ _ both.1);
      in_range = (house_of_passes n).in_range;
    }

no_table_limits : (list : List ℕ) → TableLimits (table_in list Missing)
unfolding table_in InRange
no_table_limits list =
    record {
      small = record { runs_most = omega arith; columns_most = omega arith };
      level_limits = λ c h. absurd (omega arith);
      in_range = λ r c hr hc. absurd (omega arith);
    }

module _ (list : List ℕ) (o : Order) (reads : Reads list o) (range : EntriesInRange o) (i : ℕ) (h : 1 ≤ i) where
  -- by what the look-up finds
  own_known : (L : Prelude.Option Located) → ingredient_at (read_order list) i ≡ L → Legible list (own_table L) × TableLimits (table_in list (own_table L))
  unfolding own_table Legible
  own_known (Some (TableAt rows k levels_at entries_at)) e =
      let s = table_stands list o reads range i h e in (own_legible s, own_limits s)
  own_known (Some (MatrixAt rows k p entries_at)) e = (tt, no_table_limits list)
  own_known (Some (GeneratorAt t n s widths_at w entries_at)) e = (tt, no_table_limits list)
  own_known None e = (tt, no_table_limits list)

  named_known : (low high : Bool) → leb 101 i ≡ low → leb i 104 ≡ high → Legible list (cond (low && high) (House i) (own_table (ingredient_at (read_order list) i))) × TableLimits (table_in list (cond (low && high) (House i) (own_table (ingredient_at (read_order list) i))))
  unfolding Legible table_in
  named_known true true low high = (record { low = leb-true 101 i low; high = leb-true i 104 high }, house_limits i)
  named_known true false low high = own_known (ingredient_at (read_order list) i) refl
  named_known false high low e = own_known (ingredient_at (read_order list) i) refl

  -- a table that is named can be read from the list
  pub named_legible : Legible list (named_table (read_order list) i)
  unfolding named_table
  named_legible = (named_known (leb 101 i) (leb i 104) refl refl).0

  -- and keeps 01's limits; where none is named this is the empty table
  pub named_limits : TableLimits (table_in list (named_table (read_order list) i))
  unfolding named_table
  named_limits = (named_known (leb 101 i) (leb i 104) refl refl).1
