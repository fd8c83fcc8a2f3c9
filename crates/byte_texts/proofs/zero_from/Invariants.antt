-- `zero_from` meets its contract. The invariant: all are zero if the rest is.
use mathlib.Core.Path.{◌≡◌}
use lib.ListN.{drop}
use Rattle.byte_texts.specs.Bytes.{all_zero}
use Rattle.byte_texts.proofs.zero_from.Given as goal

abbrev pub invariant-loop-at : goal.invariant-loop-at
invariant-loop-at l = all_zero (drop l.start l.bytes) ≡ all_zero (drop l.at l.bytes)
