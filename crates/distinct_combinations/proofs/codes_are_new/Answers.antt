-- `codes_are_new` meets its contract: the codes so far had no mark and have one.
-- Assumes nothing.
use native.Mathlib.Nat.{le_trans}
use native.Mathlib.Omega.{arith}
use lib.Dec.{lit≤}
use Rattle.galois.proofs.Fields.{size_positive}
use borrow.Author.Rules.{rules}
use Rattle.combining.proofs.Marks.{new_more}
use Rattle.distinct_combinations.proofs.codes_are_new.Goals as goal

pub power-end-requires : goal.power-end-requires
power-end-requires c = (size_positive _ c.requires.blocks_in.size, le_trans c.requires.blocks_in.one_power (lit≤ tt))

pub loop-number-preserved : goal.loop-number-preserved
loop-number-preserved c =
    let l = c.loop-number in (
      search rules,
      l.invariant.1,
      l.invariant.2,
      new_more l.invariant.3 (c.combination_code-code.ensures c.if-code-ge512.false) (omega arith) c.if-seen-code.false,
    )
