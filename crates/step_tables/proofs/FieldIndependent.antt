-- Some of a list of independent columns, in another order, are independent: their coefficients become coefficients of the whole list, with
-- zeros for the columns left out. So any g factors of a generator of strength g, in any order, have independent columns.
-- Assumes nothing.
use mathlib.Core.Path.{◌≡◌, refl, sym, ◌∙◌, ap}
use mathlib.Core.List.{List, ◌∷◌, map}
use Prim.Native.Nat.{ℕ, suc, ◌≤◌, ◌<◌}
use native.Mathlib.Nat.{suc_inj, suc-ne-zero}
use lib.ListN.{length, replicate, length-replicate}
use Rattle.finite.proofs.Lists.{Below, none, more, below_head, below_tail, each_below, all_below, below_append, below_map, below_replicate, part_below}
use Rattle.galois.specs.Laws.{Field}
use Rattle.galois.specs.Combination.{combination}
use Rattle.galois.proofs.FieldAlgebra.{zero_below, product_below, left_comm, combination_below, zero_coefficients}
use Rattle.counting.specs.Generator.{Generator, ElementsInRange, factors, width, factor_columns, columns_of, IndependentColumns, Independent}
use Rattle.step_tables.specs.Lists.{Distinct}
use Rattle.step_tables.proofs.FieldWithin.{Picked, here, there, Within, nothing, pick, picked_below, increasing_below, around, within_columns}

module _ {s : ℕ} {◌⊕◌ ◌⊗◌ : ℕ → ℕ → ℕ} (F : Field s ◌⊕◌ ◌⊗◌) (w : ℕ) where
  infixl 65 ◌⊕◌
  infixl 70 ◌⊗◌
  infix 75 ◌·◌
  abbrev ◌·◌ : List ℕ → List ℕ → ℕ
  ks · xs = combination ◌⊕◌ ◌⊗◌ ks xs

  -- coefficients of the columns ds that combine them as ks combine the columns cs, and are zeros only where ks are
  record Extended (cs ks ds : List ℕ) : Type 0 where
    coefficients : List ℕ
    size : length coefficients ≡ length ds
    below : Below s coefficients
    combines : (f : ℕ → ℕ) → ((c : ℕ) → c < w → f c < s) → coefficients · map f ds ≡ ks · map f cs
    zeros : Below 1 coefficients → Below 1 ks

  -- one coefficient to its place
  extend_picked : {c k : ℕ} {rest l ks : List ℕ} → Picked c rest l → Below w l → k < s → Below s ks → length ks ≡ length rest
      → Extended (c ∷ rest) (k ∷ ks) l
  unfolding combination
  extend_picked {k} {ks} here bl h b e =
      record { coefficients = k ∷ ks; size = ap suc e; below = more h b; combines = λ f hf. refl; zeros = λ z. z }
  extend_picked (there p) (more hx bl) h none e = absurd (suc-ne-zero _ (sym e))
  extend_picked {c} {k} (there {x} {rest} p) (more hx bl) h (more {x = k₁} {xs = ks₁} h₁ b) e =
      let E = extend_picked p bl h b (suc_inj e) in
      let picked = picked_below p bl in
      record {
        coefficients = k₁ ∷ E.coefficients;
        size = ap suc E.size;
        below = more h₁ E.below;
        combines = λ f hf.
            ap (λ y. k₁ ⊗ f x ⊕ y) (E.combines f hf)
            ∙ left_comm F.group.sums (product_below F h₁ (hf x hx)) (product_below F h (hf c picked.0)) (combination_below F b (below_map hf picked.1));
        zeros = λ z.
            let z' = E.zeros (below_tail z) in
            more (below_head z') (more (below_head z) (below_tail z'));
      }

  -- each coefficient to its place
  extend : {cs l ks : List ℕ} → Within cs l → Below w l → Below s ks → length ks ≡ length cs → Extended cs ks l
  unfolding combination
  extend {l} nothing bl none e =
      record {
        coefficients = replicate (length l) 0;
        size = length-replicate (length l) 0;
        below = below_replicate (length l) (zero_below F);
        combines = λ f hf. zero_coefficients F (length l) (below_map hf bl);
        zeros = λ z. none;
      }
  extend nothing bl (more h b) e = absurd (suc-ne-zero _ e)
  extend (pick p i) bl none e = absurd (suc-ne-zero _ (sym e))
  extend (pick {c} p i) bl (more {x = k} h b) e =
      let E = extend i (picked_below p bl).1 b (suc_inj e) in
      let P = extend_picked p bl h E.below E.size in
      record {
        coefficients = P.coefficients;
        size = P.size;
        below = P.below;
        combines = λ f hf. P.combines f hf ∙ ap (λ y. k ⊗ f c ⊕ y) (E.combines f hf);
        zeros = λ z.
            let z' = P.zeros z in
            more (below_head z') (E.zeros (below_tail z'));
      }

-- ---- the columns of factors

pub columns_below : (us : List ℕ) {is : List ℕ} → Below (length us) is → Below (width us) (columns_of us is)
unfolding columns_of width factor_columns
columns_below us none = none
columns_below us (more h b) = below_append (part_below us h) (columns_below us b)

module _ {◌⊕◌ ◌⊗◌ : ℕ → ℕ → ℕ} (G : Generator) (F : Field G.size ◌⊕◌ ◌⊗◌) (entries : ElementsInRange G) where
  independent_within : {cs ds : List ℕ} → Within cs ds → Below (width G.widths) ds
      → IndependentColumns ◌⊕◌ ◌⊗◌ G ds → IndependentColumns ◌⊕◌ ◌⊗◌ G cs
  unfolding IndependentColumns ElementsInRange
  independent_within i bd independent ks e b vanishes =
      let E = extend F (width G.widths) i bd (all_below ks b) e in
      each_below (E.zeros (all_below E.coefficients
      (independent E.coefficients E.size (each_below E.below) (λ r hr. E.combines (G.entry r) (λ c hc. entries r c hr hc) ∙ vanishes r hr))))

  -- g different factors or fewer, in any order
  pub independent_factors : (g : ℕ) → Independent ◌⊕◌ ◌⊗◌ g G → {fs : List ℕ} → Below (factors G) fs → Distinct fs → length fs ≤ g
      → IndependentColumns ◌⊕◌ ◌⊗◌ G (columns_of G.widths fs)
  unfolding Independent
  independent_factors g independent b d h =
      let A = around (factors G) g b d h in
      independent_within (within_columns G.widths A.within)
      (columns_below G.widths (increasing_below (factors G) A.list A.increasing))
      (independent A.list A.size A.increasing)
