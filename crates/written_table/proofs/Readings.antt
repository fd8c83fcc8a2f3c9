-- The reader of a table that is handed in by itself reads exactly what is written within limits.
-- Assumes nothing.
use mathlib.Core.Path.{◌≡◌, refl, sym, ◌∙◌, ap, subst}
use mathlib.Core.List.{List, [], append-nil}
use Prim.Native.Nat.{ℕ, ◌≤◌}
use native.Mathlib.Nat.{le_refl}
use native.Mathlib.Omega.{arith}
use borrow.Author.Tests.{ltb-false, le-ltb, eqb-true, eq-eqb}
use lib.Dec.{ltb, eqb}
use lib.ListN.{length, get_or, drop, drop_of_length-le}
use Rattle.order.specs.Order.{Ingredient, table, matrix, generator, IngredientLimits, written_ingredient}
use Rattle.order.specs.Reader.{value}
use Rattle.order.specs.Grammar.{read_ingredient}
use Rattle.order.proofs.Segment.{Segment, segment_whole}
use Rattle.order.proofs.Law.{when_value, same_value, bind_sound}
use Rattle.order.proofs.IngredientLaw.{ingredient_law}
use Rattle.order.proofs.OrderLaw.{unless_value}
use Rattle.written_table.specs.WrittenTable.{read_table}

-- The list is the writing of this ingredient, within limits.
pub record Written (list : List ℕ) (g : Ingredient) : Type 0 where
  pub short : length list ≤ 32768
  pub limits : IngredientLimits g
  pub same : written_ingredient g ≡ list

-- What was read, with the first number.
read_sound : (list : List ℕ) (g : Ingredient) (next : ℕ) → read_table list ≡ value g next → Written list g × (get_or list 0 0 ≡ 1)
unfolding read_table
read_sound list g next e =
    let short = unless_value (ltb 32768 (length list)) 32768 _ e in
    let first = when_value (eqb (get_or list 0 0) 1) _ 0 short.1 in
    bind_sound ingredient_law 0 _ first.1 λ g' mid h s e₁.
    let whole = unless_value (ltb mid (length list)) mid _ e₁ in
    let ends : drop mid list ≡ [] = drop_of_length-le list (ltb-false mid (length list) whole.0) in
    let all : written_ingredient g' ≡ list = sym (append-nil (written_ingredient g')) ∙ sym (s.content ∙ rw ends) in
    same_value (λ g next. Written list g × (get_or list 0 0 ≡ 1)) whole.1
    (record { short = ltb-false 32768 (length list) short.0; limits = h; same = all }, eqb-true (get_or list 0 0) 1 first.0)

-- As the first number is 1, it is a table.
pub read_table_lem : {C : Type 0} (list : List ℕ) (g : Ingredient) (next : ℕ) → read_table list ≡ value g next
    → ((rows : ℕ) (levels entries : List ℕ) → g ≡ table rows levels entries → Written list (table rows levels entries) → C) → C
read_table_lem list g next e found = let read = read_sound list g next e in go g read.0 read.1 found
  where
    first : (g : Ingredient) → Written list g → get_or list 0 0 ≡ 1 → get_or (written_ingredient g) 0 0 ≡ 1
    first g read one = ap (λ (l : List ℕ). get_or l 0 0) read.same ∙ one

    go : {C : Type 0} (g : Ingredient) → Written list g → get_or list 0 0 ≡ 1
        → ((rows : ℕ) (levels entries : List ℕ) → g ≡ table rows levels entries → Written list (table rows levels entries) → C) → C
    go (table rows levels entries) read one found = found rows levels entries refl read
    go (matrix rows columns p entries) read one found = absurd (omega (arith, first (matrix rows columns p entries) read one))
    go (generator t s widths entries) read one found = absurd (omega (arith, first (generator t s widths entries) read one))

-- And what is written is read.
module _ {list : List ℕ} {rows : ℕ} {levels entries : List ℕ} (read : Written list (table rows levels entries)) where
  pub ingredient_read : read_ingredient list 0 ≡ value (table rows levels entries) (length list)
  ingredient_read =
      let g = table rows levels entries in
      let s : Segment list 0 (written_ingredient g) (length list) = subst (λ u. Segment list 0 u (length list)) (sym read.same) (segment_whole list) in
      ingredient_law.complete list 0 g (length list) read.limits s

  pub table_read : read_table list ≡ value (table rows levels entries) (length list)
  unfolding read_table
  table_read =
      let first : get_or list 0 0 ≡ 1 = sym (ap (λ (l : List ℕ). get_or l 0 0) read.same) in
      rw (le-ltb 32768 (length list) read.short, eq-eqb (get_or list 0 0) 1 first, ingredient_read, le-ltb (length list) (length list) (le_refl _))
