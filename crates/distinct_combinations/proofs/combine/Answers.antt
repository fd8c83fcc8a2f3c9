-- `combine` meets its contract: what is combined so far is the combination from the place in hand on.
-- Assumes nothing.
use mathlib.Core.Path.{sym}
use Prim.Native.Nat.{◌<◌}
use native.Mathlib.Nat.{le_refl, mod-lt}
use native.Mathlib.Omega.{arith}
use borrow.Author.Rules.{rules}
use Rattle.galois.proofs.Fields.{size_positive}
use Rattle.combining.proofs.Combinings.{combined_none, combined_more, sum_below, product_below}
use Rattle.distinct_combinations.proofs.combine.Goals as goal

pub loop-at-init : goal.loop-at-init
loop-at-init c = (c.requires.elements_at.ordered, le_refl _, c.requires.so_far_bound, sym (combined_none _ _ _ _))

pub sum-sum-requires : goal.sum-sum-requires
sum-sum-requires c = let product_in : c.product.result < c.args.s = rw c.product.ensures
    (product_below _ c.requires.elements_at.size (mod-lt _ (size_positive _ c.requires.elements_at.size)) (c.requires.elements_at.below _ (omega arith) (omega arith))) in
    record {
      size = c.requires.elements_at.size;
      first = product_in;
      second = c.loop-at.invariant.2;
    }

pub loop-at-preserved : goal.loop-at-preserved
loop-at-preserved c = let product_in : c.product.result < c.args.s = rw c.product.ensures
    (product_below _ c.requires.elements_at.size (mod-lt _ (size_positive _ c.requires.elements_at.size)) (c.requires.elements_at.below _ (omega arith) (omega arith))) in
    let l = c.loop-at in (
      search rules,
      search rules,
      rw c.sum-sum.ensures (sum_below _ c.requires.elements_at.size product_in l.invariant.2),
      rw (c.sum-sum.ensures, c.product.ensures) (combined_more _ _ l.at _ _ _ (omega arith) l.invariant.1 l.invariant.3),
    )
