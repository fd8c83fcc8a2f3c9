-- `construction::plan` meets its promise: all buffers are cleared, question 1 is asked of their lengths, and then the others of the list.
use mathlib.Core.Path.{sym, ◌∙◌}
use lib.ListN.{length}
use Rattle.layout.proofs.Bytes.{zeros_all}
use Rattle.promise.proofs.Promises.{cleared_long, promise_short, promise_asked}
use Rattle.construction.proofs.plan.Goals as goal

pub fill-requires-clause-long_enough : goal.fill-requires-clause-long_enough
fill-requires-clause-long_enough c =
    let list = c.args.list.now in
    let table = c.args.table.now in
    let levels = c.args.levels.now in
    let scratch = c.args.scratch.now in cleared_long list table levels scratch c.clear.ensures c.clear-2.ensures c.clear-3.ensures (sym c.if-long_enough.true ∙ c.long_enough.ensures)

pub fill-requires-clause-zeros : goal.fill-requires-clause-zeros
fill-requires-clause-zeros c =
    let list = c.args.list.now in
    let table = c.args.table.now in
    let levels = c.args.levels.now in
    let scratch = c.args.scratch.now in (zeros_all (length table) c.clear.ensures, zeros_all (length levels) c.clear-2.ensures, zeros_all (length scratch) c.clear-3.ensures)

pub returns-then-long_enough : goal.returns-then-long_enough
returns-then-long_enough c =
    let list = c.args.list.now in
    let table = c.args.table.now in
    let levels = c.args.levels.now in
    let scratch = c.args.scratch.now in
    promise_asked list table levels scratch c.clear.ensures c.clear-2.ensures c.clear-3.ensures
    (sym c.if-long_enough.true ∙ c.long_enough.ensures)
    c.fill.ensures.settled
    c.fill.ensures.zeros_2
    c.fill.auto.table
    c.fill.auto.levels
    c.fill.auto.scratch

pub returns-else-long_enough : goal.returns-else-long_enough
returns-else-long_enough c =
    let list = c.args.list.now in
    let table = c.args.table.now in
    let levels = c.args.levels.now in
    let scratch = c.args.scratch.now in
    promise_short list table levels scratch c.clear.ensures c.clear-2.ensures c.clear-3.ensures (sym c.if-long_enough.false ∙ c.long_enough.ensures)
