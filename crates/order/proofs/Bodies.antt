-- What the code finds of an ingredient after its rows and columns is what the definition reads and locates.
use mathlib.Core.Path.{◌≡◌}
use mathlib.Core.List.{List}
use Prim.Native.Nat.{ℕ, ◌*◌, ◌≤◌}
use native.Mathlib.Omega.{arith}
use Rattle.order.specs.Order.{total, GeneratorField}
use Rattle.order.specs.Reader.{allowed, numbers, repeated}
use Rattle.order.specs.Grammar.{between, generator_field, factor_width, table_body, matrix_body, generator_body}
use Rattle.order.specs.Answers.{number_of, total_of, walk_of, spot_of}
use Rattle.order.specs.declared.Cursor.{Cursor}
use Rattle.std.specs.Prelude.{Ok}
use Rattle.order.specs.declared.Located.TheVariants.{Table, Matrix, Generator}
use Rattle.order.proofs.Powers.{total_small}
use Rattle.order.proofs.ByKind.{between_law}
use Rattle.order.proofs.IngredientLaw.{levels_law, generator_field_law, widths_law}
use Rattle.order.proofs.Answers.{number_value, walk_value, total_value}

module _ (list : List ℕ) (at rows columns : ℕ) {end : Cursor} where
  pub table_found : {next : Cursor} → walk_of (repeated columns (allowed (between 2 64)) list at) ≡ Ok next → walk_of (numbers (rows * columns) list next.at) ≡ Ok end → Ok (Table rows columns at next.at, end) ≡ spot_of at (table_body rows columns list at)
  unfolding table_body spot_of
  table_found {next} e₁ e₂ =
      walk_value (repeated columns (allowed (between 2 64)) list at) e₁ λ levels v₁.
      walk_value (numbers (rows * columns) list next.at) e₂ λ entries v₂.
      let read = (levels_law columns).sound list at levels next.at v₁ in
      rw (v₁, v₂, ← read.0.0, ← read.1.after)

  pub matrix_found : {p : ℕ} {next : Cursor} → number_of (allowed (between 2 64) list at) ≡ Ok (p, next) → walk_of (numbers (rows * columns) list next.at) ≡ Ok end → Ok (Matrix rows columns p next.at, end) ≡ spot_of at (matrix_body rows columns list at)
  unfolding matrix_body spot_of
  matrix_found {p} {next} e₁ e₂ =
      let v₁ = number_value (allowed (between 2 64) list at) e₁ in
      walk_value (numbers (rows * columns) list next.at) e₂ λ entries v₂.
      rw (v₁, v₂, ((between_law 2 64).sound list at p next.at v₁).1.after)

module _ (list : List ℕ) (at t : ℕ) where
  -- The size of a field that was read is one.
  pub field_size : {s : ℕ} {first : Cursor} → number_of (allowed (generator_field t) list at) ≡ Ok (s, first) → GeneratorField t s
  field_size {s} {first} e = ((generator_field_law t).sound list at s first.at (number_value (allowed (generator_field t) list at) e)).0

module _ (list : List ℕ) (n : ℕ) where
  pub row_small : (s mid : ℕ) {width' : ℕ} {next : Cursor} → 2 ≤ s → n ≤ 128 → total_of (repeated n (allowed (factor_width s)) list mid) ≡ Ok (width', next) → width' ≤ 768
  row_small s mid {width'} {next} hs hn e =
      total_value (repeated n (allowed (factor_width s)) list mid) e λ us same v.
      let read = (widths_law s n).sound list mid us next.at v in
      omega (arith, total_small s us hs read.0.1, read.0.0)

module _ (list : List ℕ) (at t n : ℕ) where
  pub generator_found : {s width' : ℕ} {first next end : Cursor} → number_of (allowed (generator_field t) list at) ≡ Ok (s, first) → total_of (repeated n (allowed (factor_width s)) list first.at) ≡ Ok (width', next) → walk_of (numbers (t * width') list next.at) ≡ Ok end → Ok (Generator t n s first.at width' next.at, end) ≡ spot_of at (generator_body t n list at)
  unfolding generator_body spot_of
  generator_found {s} {width'} {first} {next} {end} e₁ e₂ e₃ =
      let v₁ = number_value (allowed (generator_field t) list at) e₁ in
      total_value (repeated n (allowed (factor_width s)) list first.at) e₂ λ us same v₂.
      walk_value (numbers (t * total us) list next.at) (rw same at e₃) λ entries v₃.
      let read = (widths_law s n).sound list first.at us next.at v₂ in
      rw (v₁, v₂, v₃, same, ← read.0.0, read.1.after, ((generator_field_law t).sound list at s first.at v₁).1.after)
