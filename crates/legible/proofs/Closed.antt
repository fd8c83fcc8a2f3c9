-- What stands in a closed line: its text, blanks after it and a line feed.
-- Assumes nothing.
use mathlib.Core.Path.{◌≡◌, refl, ◌∙◌, ap}
use mathlib.Core.List.{List, [], ◌∷◌, ◌++◌}
use Prim.Native.Nat.{ℕ, ◌+◌, ◌-◌, ◌≤◌}
use native.Mathlib.Omega.{arith}
use lib.ListN.{length, get_or, take, drop, length-append}
use lib.Seq.{get_or_at}
use Rattle.page_text.specs.Pages.{blanks, closed}
use Rattle.page_text.proofs.Lines.{closed_length}
use Rattle.legible.proofs.Parts.{front_part, back_part, same_part}

module _ (text : List ℕ) (room : length text ≤ 79) where
  -- text and blanks are 79 characters
  filled : length (text ++ blanks (79 - length text)) ≡ 79
  unfolding closed
  filled = omega (arith, closed_length text room, length-append (text ++ blanks (79 - length text)) (10 ∷ []))

  -- a part of the text
  pub closed_text : (p w : ℕ) → p + w ≤ length text → take w (drop p (closed text)) ≡ take w (drop p text)
  unfolding closed
  closed_text p w h =
      front_part p w (text ++ blanks (79 - length text)) (10 ∷ []) (omega (arith, filled)) ∙ front_part p w text (blanks (79 - length text)) h

  -- a part of what follows it
  pub closed_blank : (p w : ℕ) → length text ≤ p → p + w ≤ 79 → take w (drop p (closed text)) ≡ blanks w
  unfolding closed
  closed_blank p w h l =
      let after : p ≡ length text + (p - length text) = omega arith in
      front_part p w (text ++ blanks (79 - length text)) (10 ∷ []) (omega (arith, filled))
      ∙ ap (λ (q : ℕ). take w (drop q (text ++ blanks (79 - length text)))) after
      ∙ back_part (length text) (p - length text) w text (blanks (79 - length text)) refl
      ∙ same_part (p - length text) w (79 - length text) 32 (omega arith)

  pub closed_end : get_or (closed text) 79 0 ≡ 10
  unfolding closed
  closed_end = get_or_at (text ++ blanks (79 - length text)) 10 [] 0 79 filled
