-- Question 3 on the list and on the order that the list writes: the same entries stand in both, below the same limits.
use mathlib.Core.Path.{◌≡◌, refl}
use mathlib.Core.List.{List, [], ◌∷◌, ◌++◌}
use Prim.Native.Nat.{ℕ, zero, suc, ◌+◌, ◌-◌, ◌≤◌, ◌<◌}
use native.Mathlib.Nat.{mul-add-mod_self_right, mod-eq_of_lt}
use native.Mathlib.Omega.{arith}
use lib.ListN.{length, length-append}
use Rattle.order.specs.Order.{Ingredient, table, matrix, generator, total, IngredientLimits, written_ingredient}
use Rattle.order.specs.Reader.{value, refused}
use Rattle.order.specs.Grammar.{read_ingredient}
use Rattle.order.specs.Answers.{located}
use Rattle.order.specs.Range.{ingredient_range}
use Rattle.std.specs.Prelude.{Ok, Err}
use Rattle.order.specs.declared.RangeFault.{RangeFault}
use Rattle.order.specs.declared.RangeFault.TheVariants.{Unread}
use Rattle.order.proofs.Segment.{Segment, part_left, part_right, segment_fits, segment_numbers}
use Rattle.order.proofs.Powers.{total_small}
use Rattle.entry_range.specs.Search.{Inside, located_range, scanned}
use Rattle.row_limits.proofs.Rows.{high_same, high_one}

-- An ingredient that stands at a place: its limits and its entries, by the places that the code finds.
module _ (list : List ℕ) (at : ℕ) where
  pub located_inside : (g : Ingredient) (next : ℕ) → IngredientLimits g → Segment list at (written_ingredient g) next → Inside list (located (at + 3) g)
  located_inside (table rows levels entries) next (h₁, h₂, h₃, h₄) s =
      let fits = segment_fits s (omega arith) in
      (omega (arith, length-append levels entries), omega (arith, length-append levels entries))
  located_inside (matrix rows columns p entries) next (h₁, h₂, h₃, h₄) s =
      let fits = segment_fits s (omega arith) in
      ((omega arith, omega arith), omega arith)
  located_inside (generator t s widths entries) next (h₁, h₂, h₃, h₄, h₅) seg =
      let fits = segment_fits seg (omega arith) in
      ((omega (arith, total_small s widths h₃.0.0 h₄), omega arith), omega (arith, length-append widths entries))

  pub located_same : (g : Ingredient) (next : ℕ) → IngredientLimits g → Segment list at (written_ingredient g) next → located_range list (located (at + 3) g) ≡ ingredient_range (at + 3) g
  unfolding located_range ingredient_range
  located_same (table rows levels entries) next (h₁, h₂, h₃, h₄) s =
      let body = part_right (1 ∷ rows ∷ length levels ∷ []) (levels ++ entries) s in
      rw (segment_numbers (part_left levels entries body))
      (high_same (part_right levels entries body) levels _ (λ k c h. rw (mul-add-mod_self_right, mod-eq_of_lt h)) rows h₄)
  located_same (matrix rows columns p entries) next (h₁, h₂, h₃, h₄) s =
      let body = part_right (2 ∷ rows ∷ columns ∷ []) (p ∷ entries) s in
      high_one (part_right (p ∷ []) entries body) columns p rows h₄
  located_same (generator t s widths entries) next (h₁, h₂, h₃, h₄, h₅) seg =
      let body = part_right (3 ∷ t ∷ length widths ∷ []) (s ∷ widths ++ entries) seg in
      high_one (part_right widths entries (part_right (s ∷ []) (widths ++ entries) body)) (total widths) s t h₅

-- One of n ingredients, after so many of them.
module _ (list : List ℕ) (at n done : ℕ) where
  pub scanned_on : {g : Ingredient} {next : ℕ} → done < n → read_ingredient list at ≡ value g next → ingredient_range (at + 3) g ≡ Ok tt → scanned (n - done) list at ≡ scanned (n - (done + 1)) list next
  scanned_on h e r = let more : n - done ≡ suc (n - (done + 1)) = omega arith in rw (more, e, r)

  pub scanned_fault : {g : Ingredient} {next : ℕ} {fault : RangeFault} → done < n → read_ingredient list at ≡ value g next → ingredient_range (at + 3) g ≡ Err fault → scanned (n - done) list at ≡ Err fault
  scanned_fault h e r = let more : n - done ≡ suc (n - (done + 1)) = omega arith in rw (more, e, r)

  pub scanned_refused : {place : ℕ} → done < n → read_ingredient list at ≡ refused place → scanned (n - done) list at ≡ Err Unread
  scanned_refused h e = let more : n - done ≡ suc (n - (done + 1)) = omega arith in rw (more, e)

  pub scanned_done : n ≤ done → scanned (n - done) list at ≡ Ok tt
  scanned_done h = let none : n - done ≡ 0 = omega arith in rw none
