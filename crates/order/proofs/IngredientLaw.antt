-- The reader of an ingredient reads exactly what is written within limits.
use mathlib.Core.Path.{◌≡◌, refl, ◌∙◌}
use mathlib.Core.List.{List, [], ◌∷◌, ◌++◌}
use Prim.Native.Nat.{ℕ, ◌*◌}
use native.Mathlib.Omega.{arith}
use lib.ListN.{length}
use Rattle.order.specs.Order.{Ingredient, table, matrix, generator, total, All, Between, GeneratorField, FactorWidth, IngredientLimits, written_ingredient}
use Rattle.order.specs.Reader.{value, allowed, repeated}
use Rattle.order.specs.Grammar.{between, generator_field, factor_width, table_body, matrix_body, generator_body, body, most_rows, read_ingredient}
use Rattle.order.proofs.Tests.{between_iff, generator_field_iff, factor_width_iff}
use Rattle.order.proofs.Segment.{Segment, join}
use Rattle.order.proofs.Law.{Law, number_law, numbers_law, series_law, same_value, bind_sound, bind_last, bind_complete}
use Rattle.order.proofs.ByKind.{between_law, After, choose, with_first}

pub levels_law : (n : ℕ) → Law (repeated n (allowed (between 2 64))) (λ levels. (length levels ≡ n) × All (Between 2 64) levels) (λ levels. levels)
levels_law n = series_law (between 2 64) (Between 2 64) (between_iff 2 64) n

pub generator_field_law : (t : ℕ) → Law (allowed (generator_field t)) (GeneratorField t) (λ x. x ∷ [])
generator_field_law t = number_law (generator_field t) (GeneratorField t) (generator_field_iff t)

pub widths_law : (s n : ℕ) → Law (repeated n (allowed (factor_width s))) (λ us. (length us ≡ n) × All (FactorWidth s) us) (λ us. us)
widths_law s n = series_law (factor_width s) (FactorWidth s) (factor_width_iff s) n

-- What is read after kind, rows and columns.
module _ (list : List ℕ) (at rows columns : ℕ) (g : Ingredient) (next : ℕ) (h₂ : Between 1 128 columns) where
  table_sound : Between 1 512 rows → table_body rows columns list at ≡ value g next → After IngredientLimits written_ingredient (1 ∷ rows ∷ columns ∷ []) list at g next
  unfolding table_body
  table_sound h₁ e =
      bind_sound (levels_law columns) at _ e λ levels m₃ h₃ s₃ e₃.
      bind_sound (numbers_law (rows * columns)) m₃ _ e₃ λ entries m₄ h₄ s₄ e₄.
      same_value (After IngredientLimits written_ingredient (1 ∷ rows ∷ columns ∷ []) list at) e₄
      ((h₁, rw h₃.0 h₂, h₃.1, h₄ ∙ rw h₃.0), (_, rw h₃.0, join s₃ s₄))

  matrix_sound : Between 1 512 rows → matrix_body rows columns list at ≡ value g next → After IngredientLimits written_ingredient (2 ∷ rows ∷ columns ∷ []) list at g next
  unfolding matrix_body
  matrix_sound h₁ e =
      bind_sound (between_law 2 64) at _ e λ p m₃ h₃ s₃ e₃.
      bind_sound (numbers_law (rows * columns)) m₃ _ e₃ λ entries m₄ h₄ s₄ e₄.
      same_value (After IngredientLimits written_ingredient (2 ∷ rows ∷ columns ∷ []) list at) e₄
      ((h₁, h₂, h₃, h₄), (_, refl, join s₃ s₄))

  generator_sound : Between 1 9 rows → generator_body rows columns list at ≡ value g next → After IngredientLimits written_ingredient (3 ∷ rows ∷ columns ∷ []) list at g next
  unfolding generator_body
  generator_sound h₁ e =
      bind_sound (generator_field_law rows) at _ e λ s m₃ h₃ s₃ e₃.
      bind_sound (widths_law s columns) m₃ _ e₃ λ widths m₄ h₄ s₄ e₄.
      bind_sound (numbers_law (rows * total widths)) m₄ _ e₄ λ entries m₅ h₅ s₅ e₅.
      same_value (After IngredientLimits written_ingredient (3 ∷ rows ∷ columns ∷ []) list at) e₅
      ((h₁, rw h₄.0 h₂, h₃, h₄.1, h₅), (_, rw h₄.0, join s₃ (join s₄ s₅)))

ingredient_sound : (list : List ℕ) (at : ℕ) (g : Ingredient) (next : ℕ) → read_ingredient list at ≡ value g next → IngredientLimits g × Segment list at (written_ingredient g) next
unfolding read_ingredient
ingredient_sound list at g next e =
    bind_sound (between_law 1 3) at _ e λ kind m₁ h s e₁.
    bind_sound (between_law 1 (most_rows kind)) m₁ _ e₁ λ rows m₂ h₁ s₁ e₂.
    bind_sound (between_law 1 128) m₂ _ e₂ λ columns m₃ h₂ s₂ e₃.
    let first : Segment list at (kind ∷ rows ∷ columns ∷ []) m₃ = join s (join s₁ s₂) in
    choose kind 1 _ _ e₃
    (λ k e₄. with_first IngredientLimits written_ingredient g (rw k at first) (table_sound list m₃ rows columns g next h₂ (rw k at h₁) e₄)) λ no₁ e₄.
    choose kind 2 _ _ e₄
    (λ k e₅. with_first IngredientLimits written_ingredient g (rw k at first) (matrix_sound list m₃ rows columns g next h₂ (rw k at h₁) e₅)) λ no₂ e₅.
    let k : kind ≡ 3 = omega arith in
    with_first IngredientLimits written_ingredient g (rw k at first) (generator_sound list m₃ rows columns g next h₂ (rw k at h₁) e₅)

-- Kind, rows and columns are read, whatever the kind.
module _ (list : List ℕ) (at kind rows columns : ℕ) (u : List ℕ) (g : Ingredient) (next : ℕ) where
  first_complete : Between 1 3 kind → Between 1 (most_rows kind) rows → Between 1 128 columns → Segment list at (kind ∷ rows ∷ columns ∷ u) next → ((mid : ℕ) → Segment list mid u next → body kind rows columns list mid ≡ value g next) → read_ingredient list at ≡ value g next
  unfolding read_ingredient
  first_complete h h₁ h₂ s rest =
      bind_complete (between_law 1 3) _ kind (rows ∷ columns ∷ u) h s λ m₁ s₁.
      bind_complete (between_law 1 (most_rows kind)) _ rows (columns ∷ u) h₁ s₁ λ m₂ s₂.
      bind_complete (between_law 1 128) _ columns u h₂ s₂ rest

ingredient_complete : (list : List ℕ) (at : ℕ) (g : Ingredient) (next : ℕ) → IngredientLimits g → Segment list at (written_ingredient g) next → read_ingredient list at ≡ value g next
unfolding table_body matrix_body generator_body
ingredient_complete list at (table rows levels entries) next (h₁, h₂, h₃, h₄) s =
    first_complete list at 1 rows (length levels) (levels ++ entries) (table rows levels entries) next (omega arith) h₁ h₂ s λ m₂ s₂.
    bind_complete (levels_law (length levels)) _ levels entries (refl, h₃) s₂ λ m₃ s₃.
    bind_last (numbers_law (rows * length levels)) _ entries h₄ s₃
ingredient_complete list at (matrix rows columns p entries) next (h₁, h₂, h₃, h₄) s =
    first_complete list at 2 rows columns (p ∷ entries) (matrix rows columns p entries) next (omega arith) h₁ h₂ s λ m₂ s₂.
    bind_complete (between_law 2 64) _ p entries h₃ s₂ λ m₃ s₃.
    bind_last (numbers_law (rows * columns)) _ entries h₄ s₃
ingredient_complete list at (generator t s widths entries) next (h₁, h₂, h₃, h₄, h₅) seg =
    first_complete list at 3 t (length widths) (s ∷ widths ++ entries) (generator t s widths entries) next (omega arith) h₁ h₂ seg λ m₂ s₂.
    bind_complete (generator_field_law t) _ s (widths ++ entries) h₃ s₂ λ m₃ s₃.
    bind_complete (widths_law s (length widths)) _ widths entries (refl, h₄) s₃ λ m₄ s₄.
    bind_last (numbers_law (t * total widths)) _ entries h₅ s₄

pub ingredient_law : Law read_ingredient IngredientLimits written_ingredient
ingredient_law = record { sound = ingredient_sound; complete = ingredient_complete }
