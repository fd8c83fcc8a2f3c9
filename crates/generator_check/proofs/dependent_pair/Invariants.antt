-- `dependent_pair` meets its contract: the pairs of factors before the one in hand are independent.
-- Assumes nothing.
use lib.ListN.{length}
use Rattle.finite.proofs.PairOrder.{Searched, left}
use Rattle.galois.specs.Arithmetic.{field_sum, field_product}
use Rattle.counting.specs.Generator.{generator_of}
use Rattle.counting.specs.GeneratorVerdict.{pair_dependence}
use Rattle.generator_check.proofs.dependent_pair.Given as goal

abbrev pub invariant-loop-pair : goal.invariant-loop-pair
invariant-loop-pair l =
    Searched (pair_dependence (field_sum l.s) (field_product l.s) (generator_of l.entries l.t l.s l.widths)) (length l.widths) l.pair

abbrev pub decreases-loop-pair : goal.decreases-loop-pair
decreases-loop-pair l = left (length l.widths) l.pair
