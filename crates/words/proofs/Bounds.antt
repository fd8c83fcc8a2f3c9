-- A scanner that began at the start of a text has read at most 32,768 numbers, or refuses at a place up to that, and the list keeps its length:
-- what a caller needs to lend the front of its list.
use mathlib.Core.Path.{◌≡◌, refl, sym, ◌∙◌, subst}
use mathlib.Core.Bool.{◌&&◌}
use mathlib.Core.List.{List, [], ◌∷◌, foldl}
use Prim.Native.Nat.{ℕ, ◌+◌, ◌*◌, ◌-◌, ◌≤◌, ◌<◌, zero-le}
use native.Mathlib.Omega.{arith}
use borrow.Author.Tests.{ltb-true, lt-ltb}
use lib.Dec.{leb, ltb}
use lib.ListN.{length, set, length-set}
use Rattle.std.specs.Prelude.{Ok, Err}
use Rattle.words.specs.Words.{is_gap, is_digit, refused}
use Rattle.words.specs.Scanner.{Scanned, grown, begun, stored, resumed, Progress, scan_step, stepped, advanced, finish_of, finished, scanned_reading, taken, place_at_end, Unfinished, Ended}
use Rattle.words.specs.declared.Scan.{Scan}
use Rattle.words.specs.declared.Scan.TheVariants.{Between, Inside, Failed}
use Rattle.lines.proofs.Cases.{by_cases}
use Rattle.words.proofs.Following.{not_refused}

grown_taken : (count value byte : ℕ) → count < 32768 → taken (grown count value byte) ≤ 32768
unfolding grown
grown_taken count value byte h =
    let next = value * 10 + (byte - 48) in
    by_cases (is_digit byte && leb next 65535) (λ t. rw t (omega arith)) (λ t. rw t (omega arith))

resumed_taken : (r : Scanned) → taken (resumed r) ≡ place_at_end r
resumed_taken (Ok count) = refl
resumed_taken (Err bad) = refl

-- Where there is a place for a word, its number is stored.
stored_there : (count value : ℕ) (list : List ℕ) → count < 32768 → stored count value list ≡ (Ok (count + 1), set list count value)
unfolding stored
stored_there count value list h = rw (lt-ltb count 32768 h)

module _ {places : ℕ} where
  sound_grown : (count value byte : ℕ) (list : List ℕ) → count < 32768 → length list ≡ places → Unfinished places (grown count value byte) list
  sound_grown count value byte list h k = record { low = grown_taken count value byte h; kept = k }

  sound_begun : (count byte : ℕ) (list : List ℕ) → count ≤ 32768 → length list ≡ places → Unfinished places (begun count byte) list
  unfolding begun
  sound_begun count byte list h k =
      by_cases (ltb count 32768) (λ l. rw l (sound_grown count 0 byte list (ltb-true count 32768 l) k)) (λ l. rw l record { low = h; kept = k })

  sound_stored : (count value : ℕ) (list : List ℕ) → count < 32768 → length list ≡ places → Ended places (stored count value list).0 (stored count value list).1
  sound_stored count value list h k = rw (stored_there count value list h) record { low = omega arith; kept = length-set list count value ∙ k }

  sound_resumed : (r : Scanned) (list : List ℕ) → Ended places r list → Unfinished places (resumed r) list
  sound_resumed r list e = record { low = rw (resumed_taken r) e.low; kept = e.kept }

  sound_step : (s : Scan) (list : List ℕ) (byte : ℕ) → Unfinished places s list → Unfinished places (scan_step s list byte).0 (scan_step s list byte).1
  sound_step (Between count) list byte h = by_cases (is_gap byte) (λ g. rw g h) (λ g. rw g (sound_begun count byte list h.low h.kept))
  sound_step (Inside count value) list byte h =
      by_cases (is_gap byte) (λ g. rw g (sound_resumed _ _ (sound_stored count value list (omega (arith, h.low)) h.kept)))
      (λ g. rw g (sound_grown count value byte list (omega (arith, h.low)) h.kept))
  sound_step (Failed at) list byte h = h

  sound_fold : (bytes : List ℕ) (p : Progress) → Unfinished places p.0 p.1 → Unfinished places (foldl stepped p bytes).0 (foldl stepped p bytes).1
  unfolding stepped
  sound_fold [] p h = h
  sound_fold (b ∷ bs) p h = sound_fold bs (stepped p b) (sound_step p.0 p.1 b h)

  sound_end : (s : Scan) (list : List ℕ) → Unfinished places s list → Ended places (finish_of s list).0 (finish_of s list).1
  sound_end (Between count) list h = record { low = h.low; kept = h.kept }
  sound_end (Inside count value) list h = sound_stored count value list (omega (arith, h.low)) h.kept
  sound_end (Failed at) list h = record { low = h.low; kept = h.kept }

-- From what `start`, `piece` and `finish` ensure.
pub sound_start : {s : Scan} (list : List ℕ) → s ≡ Between 0 → Unfinished (length list) s list
sound_start list e = rw e record { low = zero-le; kept = refl }

module _ {places : ℕ} {s : Scan} {list : List ℕ} (h : Unfinished places s list) where
  pub sound_piece : (bytes : List ℕ) {r : Scan} {list' : List ℕ} → (r, list') ≡ advanced (s, list) bytes → Unfinished places r list'
  unfolding advanced
  sound_piece bytes e = subst (λ (p : Progress). Unfinished places p.0 p.1) (sym e) (sound_fold bytes (s, list) h)

  pub sound_finish : {r : Scanned} {list' : List ℕ} → (r, list') ≡ finished (s, list) → Ended places r list'
  unfolding finished
  sound_finish e = subst (λ (p : Scanned × List ℕ). Ended places p.0 p.1) (sym e) (sound_end s list h)

pub ended_room : {places count : ℕ} {r : Scanned} {list : List ℕ} → Ended places r list → r ≡ Ok count → 32768 ≤ places → count ≤ length list
ended_room e n h = omega (arith, rw n at e.low, e.kept)

-- Where a text is refused, the scanner has failed already, so that a program need not read on to find out.
pub refused_failed : {places : ℕ} (s : Scan) (list : List ℕ) {at : ℕ} → Unfinished places s list → scanned_reading (finished (s, list)) ≡ refused at → s ≡ Failed at
unfolding finished
refused_failed (Between count) list h e = absurd (not_refused e)
refused_failed (Inside count value) list h e = absurd (not_refused (rw (stored_there count value list (omega (arith, h.low))) at e))
refused_failed (Failed place) list h e = cc
