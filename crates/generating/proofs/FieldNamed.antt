-- The generator that FIELD names: where it stands, and what the step comes to.
-- Assumes nothing.
use Rattle.std.specs.Prelude
use Rattle.std.specs.Prelude.{Some, None}
use mathlib.Core.Path.{◌≡◌, refl, sym, ◌∙◌, ap}
use mathlib.Core.Logic.{⊎_elim}
use mathlib.Core.List.{List}
use mathlib.Core.Option.{none, some, map, bind}
use Prim.Native.Nat.{ℕ, zero, suc, ◌+◌, ◌*◌, ◌≤◌}
use native.Mathlib.Omega.{arith}
use lib.ListN.{get_or, take, drop, get_elem?, length-append}
use Rattle.order.specs.Order.{Ingredient, generator, FactorWidth, IngredientLimits, written_ingredient}
use Rattle.order.specs.Grammar.{read_order}
use Rattle.order.specs.Answers.{located}
use Rattle.order.specs.declared.Located.{Located}
use Rattle.order.specs.declared.Located.TheVariants.{Table as TableAt, Matrix as MatrixAt, Generator as GeneratorIs}
use Rattle.order.proofs.Segment.{Segment, segment_fits}
use Rattle.places.specs.Places.{ingredient_at, ingredient_in}
use Rattle.places.proofs.Stands.{ingredient_stands, ingredient_described}
use Rattle.sheets.specs.Ingredients.{as_generator, generator_named}
use Rattle.step_tables.specs.Sheet.{SmallEnough}
use Rattle.sheets.specs.Steps.{filled, refused, provided, field_step, opening, sized, first_step}
use Rattle.sheets.specs.declared.answer.Refusal.TheVariants.{StepNotAllowed}
use Rattle.sheets.proofs.Carried.{filled_sized}
use Rattle.sheets.proofs.Ingredients.{InBounds, all_at, all_get_d, width_total, field_size_lem, elements_in_range}
use Rattle.ingredients.proofs.NamedLaws.{listed_at}
use Rattle.layout.specs.Step.{Readable, Stands, first_in}
use Rattle.generated_runs.specs.FieldPlaces.{FieldStands, widths_in, field_generator}
use Rattle.generated_runs.specs.declared.GeneratorAt.{GeneratorAt}
use Rattle.layout.proofs.Operands.{list_short, operands_limits, first_in_lem}
use Rattle.generated_runs.proofs.FieldSheet.{sheet_of, sheet_runs, sheet_columns}

-- the places of a generator, as a look-up gives them
abbrev pub places_of : GeneratorAt → Prelude.Option Located
places_of g = Some (GeneratorIs g.t g.n g.s g.widths_at g.width g.entries_at)

-- two look-ups that give the same places
pub some_same : {L L' : Located} → Some L ≡ Some L' → L ≡ L'
some_same e = cc

same_places : {t n s wa w ea t' n' s' wa' w' ea' : ℕ} → GeneratorIs t n s wa w ea ≡ GeneratorIs t' n' s' wa' w' ea'
    → (n ≡ n') × (wa ≡ wa') × (w ≡ w') × (ea ≡ ea')
same_places e = (cc, cc, cc, cc)

-- ---- where the look-up of ingredient k + 1 finds a generator

-- the ingredient of the order that it is
abbrev generator_from : List ℕ → GeneratorAt → Ingredient
generator_from list g = generator g.t g.s (widths_in list g) (take (g.t * g.width) (drop g.entries_at list))

module _ {list : List ℕ} (readable : Readable list) (k : ℕ) (g : GeneratorAt) (found : ingredient_at (read_order list) (suc k) ≡ places_of g) where
  open readable use {order as o, reads, in_range}

  here : get_elem? o.ingredients k ≡ some (generator_from list g)
  unfolding widths_in
  here = sym (ingredient_described list o reads k) ∙ ap (ingredient_in list) found

  stands_so : (place after : ℕ) → ingredient_at (read_order list) (suc k) ≡ Some (located (place + 3) (generator_from list g))
      → IngredientLimits (generator_from list g) → Segment list place (written_ingredient (generator_from list g)) after → FieldStands list g
  unfolding field_generator
  stands_so place after same limits s =
      let ws = widths_in list g in
      let es = take (g.t * g.width) (drop g.entries_at list) in
      let places = same_places (some_same (sym found ∙ same)) in
      let ends = segment_fits s (omega arith) in
      record {
        short = list_short readable;
        size = field_size_lem g.t g.s limits.2;
        size_most = limits.2.0.1;
        coordinates_least = limits.0.0;
        coordinates_most = limits.0.1;
        runs_most = limits.2.2;
        factors_most = omega (arith, places.0, limits.1.1);
        widths_there = omega (arith, places.0, places.1, ends, length-append ws es);
        entries_in = omega (arith, places.3, ends, length-append ws es, limits.4, ap (λ n. g.t * n) places.2);
        row = width_total ws ∙ sym places.2;
        powers = λ i h. (all_get_d (FactorWidth g.s) ws limits.3 i 0 (omega (arith, places.0))).1;
        elements = elements_in_range g.t g.s ws es limits (all_at InBounds o.ingredients in_range k here);
      }

  generator_stands : FieldStands list g
  generator_stands = ingredient_stands list o reads k (generator_from list g) here stands_so

-- ---- what the step comes to

-- FIELD names an ingredient from 1 on
pub field_number : {list : List ℕ} {at : ℕ} → Readable list → Stands list 2 at → 1 ≤ get_or list at 0
field_number readable stands = ⊎_elim (λ b. b.0) (λ b. omega arith) (operands_limits readable stands)

pub field_generator_lem : {list : List ℕ} {at : ℕ} → Readable list → Stands list 2 at
    → (g : GeneratorAt) → ingredient_at (read_order list) (get_or list at 0) ≡ places_of g → FieldStands list g
field_generator_lem {list} {at} readable stands g = named (get_or list at 0) (field_number readable stands)
  where
    named : (i : ℕ) → 1 ≤ i → ingredient_at (read_order list) i ≡ places_of g → FieldStands list g
    named zero h e = absurd (omega arith)
    named (suc k) h e = generator_stands readable k g e

-- the sheet of the generator, if the look-up describes one
field_outcome : {list : List ℕ} {at : ℕ} → Readable list → Stands list 2 at
    → first_in list 2 at
    ≡ provided
    (map field_step (bind (ingredient_in list (ingredient_at (read_order list) (get_or list at 0))) as_generator))
    (StepNotAllowed 1)
    (sized 1)
unfolding first_step opening generator_named
field_outcome {list} {at} readable stands =
    first_in_lem readable 2 at
    ∙ ap (λ found. provided (map field_step found) (StepNotAllowed 1) (sized 1))
    (listed_at list readable.order readable.reads as_generator (get_or list at 0) (field_number readable stands))

-- a table, a matrix and nothing are no generator
no_generator : (list : List ℕ) (found : Prelude.Option Located) → ((g : GeneratorAt) → found ≡ places_of g → ⊥) → bind (ingredient_in list found) as_generator ≡ none
unfolding bind as_generator
no_generator list (Some (TableAt rows columns levels entries)) h = refl
no_generator list (Some (MatrixAt rows columns p entries)) h = refl
no_generator list (Some (GeneratorIs t n s widths width entries)) h =
    absurd (h (record { t = t; n = n; s = s; widths_at = widths; width = width; entries_at = entries }) refl)
no_generator list None h = refl

-- question 5: a No where ingredient i is no generator
pub field_refused : {list : List ℕ} {at : ℕ} → Readable list → Stands list 2 at
    → (found : Prelude.Option Located) → found ≡ ingredient_at (read_order list) (get_or list at 0) → ((g : GeneratorAt) → found ≡ places_of g → ⊥)
    → first_in list 2 at ≡ refused (StepNotAllowed 1)
unfolding provided
field_refused {list} readable stands found e other =
    field_outcome readable stands ∙ rw (← e, no_generator list found other)

-- question 8: the sheet of a generator is never too large
pub generator_small : {list : List ℕ} {g : GeneratorAt} → FieldStands list g → SmallEnough (sheet_of list g)
generator_small known =
    record { runs_most = rw (sheet_runs known) known.runs_most; columns_most = rw (sheet_columns known) known.factors_most }

pub field_filled : {list : List ℕ} {at : ℕ} → Readable list → Stands list 2 at
    → (g : GeneratorAt) → ingredient_at (read_order list) (get_or list at 0) ≡ places_of g
    → first_in list 2 at ≡ filled (sheet_of list g)
unfolding provided bind as_generator field_generator widths_in
field_filled {list} readable stands g e =
    field_outcome readable stands
    ∙ rw e (filled_sized 1 (sheet_of list g) (generator_small (field_generator_lem readable stands g e)))
