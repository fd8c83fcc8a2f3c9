-- A buffer that is filled with some numbers of a list, byte by byte.
-- Assumes nothing.
use mathlib.Core.Path.{◌≡◌, refl, ◌∙◌}
use mathlib.Core.List.{List}
use Prim.Native.Nat.{ℕ, zero, suc, ◌+◌, ◌%◌, ◌<◌}
use native.Mathlib.Omega.{arith}
use borrow.Author.Count.{below_more}
use lib.ListN.{length, get_or, set, length-set}
use lib.Seq.{get_or-set_same, get_or-set_other}
use Rattle.stored_sheets.specs.Repeated.{repeated}

-- with no numbers, and with some
pub repeated_none : (list : List ℕ) (start : ℕ) {count : ℕ} (held : List ℕ) (i : ℕ) → count ≡ 0 → get_or held i 0 ≡ repeated list start count held i
unfolding repeated
repeated_none list start held i e = rw e

pub repeated_some : (list : List ℕ) (start count : ℕ) (held : List ℕ) (i : ℕ) → (count ≡ 0 → ⊥)
    → get_or list (start + i % count) 0 % 256 ≡ repeated list start count held i
unfolding repeated
repeated_some list start zero held i some = absurd (some refl)
repeated_some list start (suc more) held i some = refl

-- The buffer on the way: its first k bytes are filled.
pub record Repeating (list : List ℕ) (start count : ℕ) (held bytes : List ℕ) (k : ℕ) : Type 0 where
  pub size : length bytes ≡ length held
  pub filled : (i : ℕ) → i < k → get_or bytes i 0 ≡ repeated list start count held i

module _ (list : List ℕ) (start count : ℕ) (held : List ℕ) where
  -- one more byte, which is a number of the list modulo 256
  pub repeating_more : {bytes : List ℕ} {k : ℕ} (number : ℕ) → Repeating list start count held bytes k → k < length held → (count ≡ 0 → ⊥)
      → number ≡ get_or list (start + k % count) 0
      → Repeating list start count held (set bytes k (number % 256)) (k + 1)
  repeating_more {bytes} {k} number on room some e =
      record {
        size = length-set bytes k (number % 256) ∙ on.size;
        filled = below_more (λ i. get_or (set bytes k (number % 256)) i 0 ≡ repeated list start count held i) k
            (λ i h. get_or-set_other bytes k i (number % 256) 0 (λ same. omega (arith, same, h)) ∙ on.filled i h)
            (get_or-set_same bytes k (number % 256) 0 (omega (arith, on.size)) ∙ rw e (repeated_some list start count held k some));
      }
