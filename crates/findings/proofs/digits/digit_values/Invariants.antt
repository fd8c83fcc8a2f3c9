-- `digits::digit_values` meets its contract. The loop's invariant: the cells before `i` are the values of the digits before `i`.
use lib.ListN.{take}
use mathlib.Core.Path.{◌≡◌}
use Rattle.findings.specs.Digits.{digit_values}
use Rattle.findings.proofs.digits.digit_values.Given as goal

abbrev pub invariant-loop-i : goal.invariant-loop-i
invariant-loop-i l = take l.i l.cells ≡ digit_values (take l.i l.text)
