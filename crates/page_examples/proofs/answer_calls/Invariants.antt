-- `page_examples::answer_calls` is safe, and ends: each call stands further on than the one before.
use Prim.Native.Nat.{◌-◌}
use Rattle.page_examples.proofs.answer_calls.Given as goal

abbrev pub decreases-loop-at : goal.decreases-loop-at
decreases-loop-at g l = 32768 - l.at
