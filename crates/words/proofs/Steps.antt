-- Laws of the scanner's definitions in specs/Scanner.antt, case by case.
use mathlib.Core.Path.{◌≡◌}
use mathlib.Core.Bool.{true, false}
use mathlib.Core.List.{List}
use Prim.Native.Nat.{ℕ, ◌+◌, ◌≤◌, ◌<◌}
use native.Mathlib.Numerals.{add-one}
use lib.ListN.{length, get_or, drop, drop_of_length-le}
use lib.Seq.{drop-cons}
use Rattle.words.specs.Words.{is_gap}
use Rattle.words.specs.Scanner.{grown, begun, stored, resumed, Progress, stepped, advanced}
use Rattle.words.specs.declared.Scan.{Scan}
use Rattle.words.specs.declared.Scan.TheVariants.{Between, Inside, Failed}

-- One byte, by the state before it and whether it is a gap.
module _ (list : List ℕ) (byte : ℕ) {s : Scan} where
  pub skips : {count : ℕ} → s ≡ Between count → is_gap byte ≡ true → (Between count, list) ≡ stepped (s, list) byte
  unfolding stepped
  skips e g = rw (e, g)

  pub begins : {count : ℕ} → s ≡ Between count → is_gap byte ≡ false → (begun count byte, list) ≡ stepped (s, list) byte
  unfolding stepped
  begins e g = rw (e, g)

  pub ends : {count value : ℕ} → s ≡ Inside count value → is_gap byte ≡ true → (resumed (stored count value list).0, (stored count value list).1) ≡ stepped (s, list) byte
  unfolding stepped
  ends e g = rw (e, g)

  pub grows : {count value : ℕ} → s ≡ Inside count value → is_gap byte ≡ false → (grown count value byte, list) ≡ stepped (s, list) byte
  unfolding stepped
  grows e g = rw (e, g)

  pub stays : {place : ℕ} → s ≡ Failed place → (Failed place, list) ≡ stepped (s, list) byte
  unfolding stepped
  stays e = rw e

-- A piece, byte by byte: what is left of it from an index on.
module _ (p : Progress) (bytes : List ℕ) (i : ℕ) where
  pub advanced_drop : i < length bytes → advanced p (drop i bytes) ≡ advanced (stepped p (get_or bytes i 0)) (drop (i + 1) bytes)
  unfolding advanced
  advanced_drop h = rw (add-one, drop-cons bytes i 0)

  pub advanced_end : length bytes ≤ i → advanced p (drop i bytes) ≡ p
  unfolding advanced
  advanced_end h = rw (drop_of_length-le bytes h)
