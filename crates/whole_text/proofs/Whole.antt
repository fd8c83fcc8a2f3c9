-- A text that is scanned whole.
-- Assumes nothing.
use mathlib.Core.Path.{◌≡◌, sym, ◌∙◌, ap}
use mathlib.Core.List.{List, [], ◌∷◌, append-nil, flatten}
use Prim.Native.Nat.{ℕ}
use lib.ListN.{length, take}
use Rattle.std.specs.Prelude.{Ok, Err}
use Rattle.words.specs.Words.{numbers, refused, reading}
use Rattle.words.specs.Scanner.{Scanned, advanced, finished, scanned_reading}
use Rattle.words.specs.declared.Scan.{Scan}
use Rattle.words.specs.declared.Scan.TheVariants.{Between}
use Rattle.words.specs.declared.BadWord.{BadWord}
use Rattle.words.proofs.Scanning.{any_cut}
use Rattle.words.proofs.Bounds.{ended_room}

-- A text that is scanned whole comes to its reading.
pub scanned_text : (text before : List ℕ) → length before ≡ 32768 → {s s' : Scan} {list list' : List ℕ} {r : Scanned}
    → s ≡ Between 0 → (s', list) ≡ advanced (s, before) text → (r, list') ≡ finished (s', list) → scanned_reading (r, list') ≡ reading text
unfolding flatten
scanned_text text before places begun scanned ended =
    ap scanned_reading (ended ∙ ap finished (scanned ∙ ap (λ (s : Scan). advanced (s, before) text) begun))
    ∙ any_cut before places (text ∷ [])
    ∙ ap reading (append-nil text)

-- what it reads as, by the scanner's answer
module _ {r : Scanned} (list text : List ℕ) (reads : scanned_reading (r, list) ≡ reading text) where
  pub reads_numbers : {count : ℕ} → r ≡ Ok count → reading text ≡ numbers (take count list)
  reads_numbers e = sym reads ∙ ap (λ (s : Scanned). scanned_reading (s, list)) e

  pub reads_refused : {bad : BadWord} → r ≡ Err bad → reading text ≡ refused bad.place
  reads_refused e = sym reads ∙ ap (λ (s : Scanned). scanned_reading (s, list)) e

-- What a caller needs of the scanner's answer: the numbers stand in the list, and the text reads as them, or as refused.
pub ruleset scanned = (ended_room, reads_numbers, reads_refused)
