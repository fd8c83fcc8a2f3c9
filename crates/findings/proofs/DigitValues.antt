-- One digit more of a text: its value is put after the values of the digits before it.
-- Assumes nothing.
use mathlib.Core.Path.{◌≡◌}
use mathlib.Core.List.{List, map-append}
use Prim.Native.Nat.{ℕ, ◌+◌, ◌<◌}
use native.Mathlib.Numerals.{add-one}
use lib.ListN.{length, take, get_or, set}
use lib.Seq.{take-suc, take-suc-set}
use Rattle.findings.specs.Digits.{digit_value, digit_values}

pub one_more : (text cells : List ℕ) (i : ℕ) → i < length text → i < length cells
    → take i cells ≡ digit_values (take i text)
    → take (i + 1) (set cells i (digit_value (get_or text i 0))) ≡ digit_values (take (i + 1) text)
one_more text cells i in_text in_cells so_far = rw (add-one, take-suc-set, take-suc text i 0, map-append, so_far)
