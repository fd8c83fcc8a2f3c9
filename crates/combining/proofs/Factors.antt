-- The factors of a generator as blocks of its rows: where they lie, and that a dependence of two blocks is one of two factors.
-- Assumes nothing.
use mathlib.Core.Path.{◌≡◌, refl, sym, ap}
use mathlib.Core.List.{List, [], ◌∷◌, append-nil}
use mathlib.Core.Option.{Option, none, some}
use Rattle.std.specs.Prelude.{Some, None}
use Rattle.std.proofs.lemmas.Option.{none-some}
use Prim.Native.Nat.{ℕ, ◌+◌, ◌^◌, ◌≤◌, ◌<◌, zero-le}
use native.Mathlib.Nat.{pow-zero}
use lib.Dec.{lit≤}
use lib.ListN.{length, get_or}
use Rattle.finite.specs.Sum.{sum}
use Rattle.finite.specs.Lists.{from}
use Rattle.finite.proofs.Sums.{sum_le}
use Rattle.galois.specs.Arithmetic.{field_sum, field_product}
use Rattle.counting.specs.Checkable.{CheckableGenerator}
use Rattle.counting.specs.Generator.{width, generator_of, ElementsInRange, factor_columns, columns_of}
use Rattle.counting.specs.GeneratorVerdict.{combines_to_zero, dependence, pair_dependence, only_dependence}
use Rattle.combining.specs.Combining.{grid_of, block_columns, factor_block, no_block, BlocksIn, as_dependence}
use Rattle.combining.specs.declared.Block.{Block}

-- ---- what the program's answer says of the search
least_some : (o : Option ℕ) (v : ℕ) → Some v ≡ as_dependence o → o ≡ some v
least_some none v e = absurd (none-some v (sym e))
least_some (some w) v e = let p : w ≡ v = cc in ap some p

nothing_none : (o : Option ℕ) → None ≡ as_dependence o → o ≡ none
nothing_none none e = refl
nothing_none (some w) e = absurd (none-some w e)

-- ---- where the blocks lie
module _ (entries : List ℕ) (t s : ℕ) (us : List ℕ) (ok : CheckableGenerator entries t s us) where
  factor_in : (i : ℕ) → i < length us → (factor_block us i).start + (factor_block us i).width ≤ width us
  unfolding factor_block width sum
  factor_in i h = sum_le (λ k. get_or us k 0) h

  factor_power : (i : ℕ) → i < length us → s ^ (factor_block us i).width ≤ 64
  unfolding factor_block
  factor_power i h = ok.powers i h

  blocks : (one other : Block) → one.start + one.width ≤ width us → other.start + other.width ≤ width us
      → s ^ one.width ≤ 64 → s ^ other.width ≤ 64
      → BlocksIn entries t (width us) s one other
  unfolding ElementsInRange generator_of
  blocks one other a b p q =
      record {
        whole = ok.whole;
        size = ok.size;
        one_in = a;
        other_in = b;
        one_power = p;
        other_power = q;
        below = ok.in_range;
      }

  pub pair_blocks : (i j : ℕ) → i < length us → j < length us → BlocksIn entries t (width us) s (factor_block us i) (factor_block us j)
  pair_blocks i j hi hj = blocks _ _ (factor_in i hi) (factor_in j hj) (factor_power i hi) (factor_power j hj)

  pub one_block : (i : ℕ) → i < length us → BlocksIn entries t (width us) s (factor_block us i) no_block
  one_block i h = blocks _ _ (factor_in i h) zero-le (factor_power i h) (rw pow-zero (lit≤ tt))

  -- ---- their columns are the factors'
  pair_columns : (i j : ℕ) → block_columns (factor_block us i) (factor_block us j) ≡ columns_of us (i ∷ j ∷ [])
  unfolding block_columns factor_block columns_of factor_columns
  pair_columns i j = rw append-nil

  only_columns : block_columns (factor_block us 0) no_block ≡ columns_of us (0 ∷ [])
  unfolding block_columns factor_block columns_of factor_columns from
  only_columns = refl

  same_dependence : (cs : List ℕ)
      → dependence (field_sum s) (field_product s) (grid_of entries t (width us) s) cs
      ≡ dependence (field_sum s) (field_product s) (generator_of entries t s us) cs
  unfolding dependence combines_to_zero grid_of generator_of
  same_dependence cs = refl

  -- what the search in blocks finds
  abbrev searched : Block → Block → Option ℕ
  searched one other = dependence (field_sum s) (field_product s) (grid_of entries t (width us) s) (block_columns one other)

  abbrev found : List ℕ → Option ℕ
  found cs = dependence (field_sum s) (field_product s) (generator_of entries t s us) cs

  pub pair_least : (i j v : ℕ) → Some v ≡ as_dependence (searched (factor_block us i) (factor_block us j))
      → pair_dependence (field_sum s) (field_product s) (generator_of entries t s us) i j ≡ some (record { first = i + 1; second = j + 1; coefficients = v })
  unfolding generator_of
  pair_least i j v e = rw (least_some (found (columns_of us (i ∷ j ∷ []))) v (rw (pair_columns i j, same_dependence) at e))

  pub pair_nothing : (i j : ℕ) → None ≡ as_dependence (searched (factor_block us i) (factor_block us j))
      → pair_dependence (field_sum s) (field_product s) (generator_of entries t s us) i j ≡ none
  unfolding generator_of
  pair_nothing i j e = rw (nothing_none (found (columns_of us (i ∷ j ∷ []))) (rw (pair_columns i j, same_dependence) at e))

  pub only_least : (v : ℕ) → Some v ≡ as_dependence (searched (factor_block us 0) no_block)
      → only_dependence (field_sum s) (field_product s) (generator_of entries t s us) ≡ some (record { first = 1; second = 0; coefficients = v })
  unfolding generator_of
  only_least v e = rw (least_some (found (columns_of us (0 ∷ []))) v (rw (only_columns, same_dependence) at e))

  pub only_nothing : None ≡ as_dependence (searched (factor_block us 0) no_block)
      → only_dependence (field_sum s) (field_product s) (generator_of entries t s us) ≡ none
  unfolding generator_of
  only_nothing e = rw (nothing_none (found (columns_of us (0 ∷ []))) (rw (only_columns, same_dependence) at e))
