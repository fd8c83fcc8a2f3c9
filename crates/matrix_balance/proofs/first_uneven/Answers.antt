-- `first_uneven` meets its contract: the matrices before the one in hand are even or serve no column, and the counters are zero between two matrices.
-- Assumes nothing.
use mathlib.Core.Path.{refl}
use native.Mathlib.Nat.{not-suc-le-zero}
use native.Mathlib.Omega.{arith}
use borrow.Author.Count.{below_more}
use Rattle.tally.proofs.Tallies.{cleared_made}
use Rattle.matrix_balance.proofs.Listed.{named_stands, column_fits, even_there, uneven_there, all_even}
use Rattle.matrix_balance.proofs.first_uneven.Goals as goal

pub loop-d-init : goal.loop-d-init
loop-d-init c = (cleared_made 4096 refl, λ k h. absurd (not-suc-le-zero h))

pub serving_column-requires-clause-matrix_stands : goal.serving_column-requires-clause-matrix_stands
serving_column-requires-clause-matrix_stands c = named_stands c.args.ds.now c.requires.readable c.requires.ds_value _ c.loop-d-test.true c.matrix_named-m.ensures

pub overflow_add-result : goal.overflow_add-result
overflow_add-result c =
    omega (
      arith,
      column_fits c.args.list.now c.args.ds.now c.args.levels.now c.loop-d.d-index c.matrix_named-m.ensures _ c.serving_column.ensures.by_index
          c.requires.readable c.requires.ds_value c.loop-d-test.true c.in-Some.is,
    )

pub returns-in-Some : goal.returns-in-Some
returns-in-Some c =
    let l = c.loop-d in
    uneven_there c.args.list.now c.args.ds.now c.args.levels.now l.d-index c.matrix_named-m.ensures _ c.serving_column.ensures.by_index
    c.loop-d-test.true l.invariant.1 c.in-Some.is

pub loop-d-preserved : goal.loop-d-preserved
loop-d-preserved c =
    let l = c.loop-d in
    let called = c.serving_column in (
      called.ensures.cleared_2 c.in_default.is,
      below_more _ l.d-index l.invariant.1
          (even_there c.args.list.now c.args.ds.now c.args.levels.now l.d-index c.matrix_named-m.ensures _ called.ensures.by_index c.in_default.is),
    )

pub returns : goal.returns
returns c =
    all_even c.args.list.now c.args.ds.now c.args.levels.now c.loop-d-test.false c.loop-d.invariant.1
