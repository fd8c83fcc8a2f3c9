-- `spare::spare_of` meets its contract. The loop's invariant: what is taken away so far is 1 and the level counts passed.
use mathlib.Core.Path.{◌≡◌}
use Prim.Native.Nat.{◌+◌, ◌*◌, ◌≤◌}
use lib.ListN.{take}
use Rattle.order.specs.Order.{total}
use Rattle.spare.proofs.spare_of.Given as goal

abbrev pub invariant-loop-count : goal.invariant-loop-count
invariant-loop-count l = (l.less ≡ 1 + total (take l.count-index l.count-items)) × (l.less ≤ 1 + 255 * l.count-index)
