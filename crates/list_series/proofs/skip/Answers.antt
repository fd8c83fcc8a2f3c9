-- `list_series::skip` meets its contract: the numbers that remain decide the test of `numbers`.
use Prim.Native.Nat.{◌-◌, ◌≤◌, ◌<◌}
use native.Mathlib.Omega.{arith}
use lib.ListN.{length}
use borrow.Author.Tests.{le-leb, lt-leb}
use Rattle.order.specs.Answers.{walk_of}
use Rattle.order.specs.Reader.{numbers}
use Rattle.list_series.proofs.skip.Goals as goal

pub returns-then-n-remaining : goal.returns-then-n-remaining
unfolding numbers walk_of
returns-then-n-remaining c =
    let a = c.args in
    let fits : a.n ≤ length a.list.now - a.c.at = omega arith in
    simp (le-leb _ _ fits)

pub returns-else-n-remaining : goal.returns-else-n-remaining
unfolding numbers walk_of
returns-else-n-remaining c =
    let a = c.args in
    let short : length a.list.now - a.c.at < a.n = omega arith in
    simp (lt-leb _ _ short)
