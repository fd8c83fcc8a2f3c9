-- The scanner reads a text as `reading` says, in whatever pieces it comes: after each byte its state is what the definition has of the bytes so far,
-- namely how many whole words there are, and the number that the word begun writes.
use mathlib.Core.Path.{◌≡◌, refl, sym, ◌∙◌, ap}
use mathlib.Core.Bool.{Bool, true, false, cond, ◌&&◌, true≢false}
use mathlib.Core.List.{List, [], ◌∷◌, ◌++◌, append-nil, foldl, foldl-append, flatten}
use Prim.Native.Nat.{ℕ, ◌+◌}
use native.Mathlib.Numerals.{add-one}
use native.Mathlib.Omega.{arith}
use borrow.Author.Tests.{ltb-true}
use lib.Dec.{ltb}
use lib.ListN.{length, take, set, length-set}
use lib.Seq.{take-suc-set, append_snoc}
use Rattle.words.specs.Words.{is_gap, words, decimal, is_number, Reading, numbers, refused, prefixed, read_words, reading}
use Rattle.words.specs.Scanner.{grown, begun, stored, resumed, Progress, stepped, advanced, finish_of, finished, scanned_reading}
use Rattle.words.specs.declared.Scan.{Scan}
use Rattle.words.specs.declared.Scan.TheVariants.{Between, Inside, Failed}
use Rattle.words.proofs.Steps.{skips, begins, ends, grows, stays}
use Rattle.lines.proofs.Cases.{by_cases}
use Rattle.words.proofs.Cuts.{Solid, solid_snoc, words_last, words_gap, words_none, words_skip, decimal_snoc, number_none, number_snoc}
use Rattle.words.proofs.Following.{allowed, Bad, bad_refused}

-- The numbers already in the list, before what the rest of the text comes to.
abbrev after : List ℕ → Reading → Reading
after ns (numbers ms) = numbers (ns ++ ms)
after ns (refused place) = refused place

after_nil : (r : Reading) → after [] r ≡ r
after_nil (numbers ms) = refl
after_nil (refused place) = refl

after_one : (ns : List ℕ) (n : ℕ) (r : Reading) → after (ns ++ (n ∷ [])) r ≡ after ns (prefixed n r)
after_one ns n (numbers ms) = ap numbers (append_snoc ns n ms)
after_one ns n (refused place) = refl

-- The state after count numbers, within a word.
abbrev within : ℕ → List ℕ → Scan
within count [] = Between count
within count (b ∷ bs) = Inside count (decimal (b ∷ bs))

-- What the rest of a text comes to from a state.
abbrev outcome : List ℕ → Progress → Reading
outcome bytes p = scanned_reading (finish_of (foldl stepped p bytes).0 (foldl stepped p bytes).1)

failed_stays : (place : ℕ) (list bytes : List ℕ) → outcome bytes (Failed place, list) ≡ refused place
failed_stays place list [] = refl
failed_stays place list (b ∷ bs) = ap (outcome bs) (sym (stays list b refl)) ∙ failed_stays place list bs

-- A word at a place is a number so far, and one of the first 32,768; before its first byte nothing is asked.
abbrev Fine : ℕ → List ℕ → Type 0
Fine count [] = Unit {0}
Fine count (b ∷ bs) = (ltb count 32768 ≡ true) × (is_number (b ∷ bs) ≡ true)

and_both : (a b : Bool) → (a && b) ≡ true → (a ≡ true) × (b ≡ true)
and_both true true e = (refl, refl)
and_both true false e = absurd (true≢false (sym e))
and_both false b e = absurd (true≢false (sym e))

module _ (count : ℕ) (word : List ℕ) (x : ℕ) where
  fine_more : allowed count (word ++ (x ∷ [])) ≡ true → Fine count (word ++ (x ∷ []))
  fine_more = go word
    where
      go : (w : List ℕ) → allowed count (w ++ (x ∷ [])) ≡ true → Fine count (w ++ (x ∷ []))
      go [] e = and_both _ _ e
      go (b ∷ bs) e = and_both _ _ e

  bad_now : allowed count (word ++ (x ∷ [])) ≡ false → Bad count (word ++ (x ∷ []))
  bad_now = go word
    where
      go : (w : List ℕ) → allowed count (w ++ (x ∷ [])) ≡ false → Bad count (w ++ (x ∷ []))
      go [] e = e
      go (b ∷ bs) e = e

-- A byte of a word, the first or a later one.
step_word : (count : ℕ) (word list : List ℕ) (x : ℕ) → is_gap x ≡ false → Fine count word
    → stepped (within count word, list) x ≡ (cond (allowed count (word ++ (x ∷ []))) (within count (word ++ (x ∷ []))) (Failed count), list)
unfolding begun grown decimal
step_word count [] list x g e =
    sym (begins list x refl g) ∙ by_cases (ltb count 32768) (λ l. rw (l, number_snoc [] x number_none)) (λ l. rw l)
step_word count (b ∷ bs) list x g e = sym (grows list x refl g) ∙ rw (e.0, number_snoc (b ∷ bs) x e.1, decimal_snoc (b ∷ bs) x)

-- The end of a word that is a number, with what follows it.
module _ (count value : ℕ) (list : List ℕ) (places : length list ≡ 32768) where
  ends_last : scanned_reading (stored count value list) ≡ after (take count list) (cond (ltb count 32768 && true) (numbers (value ∷ [])) (refused count))
  unfolding stored
  ends_last =
      by_cases (ltb count 32768)
      (λ l. rw (l, add-one) (ap numbers (take-suc-set list count value (omega (arith, ltb-true count 32768 l)))))
      (λ l. rw l)

  ends_gap : (bytes : List ℕ) (rest : Reading) →
      (outcome bytes (Between (count + 1), set list count value) ≡ after (take (count + 1) (set list count value)) rest) →
      outcome bytes (resumed (stored count value list).0, (stored count value list).1) ≡ after (take count list) (cond (ltb count 32768 && true) (prefixed value rest) (refused count))
  unfolding stored
  ends_gap bytes rest h =
      by_cases (ltb count 32768)
      (λ l. rw l (h ∙ rw (add-one, take-suc-set list count value (omega (arith, ltb-true count 32768 l))) (after_one (take count list) value rest)))
      (λ l. rw l (failed_stays count list bytes))

-- Within a word that is a number so far, the scanner comes to what the definition has of the word and the rest of the text together.
abbrev Reads : List ℕ → ℕ → List ℕ → Type 0
Reads bytes count word =
    (list : List ℕ) → length list ≡ 32768 → Solid word → Fine count word →
    outcome bytes (within count word, list) ≡ after (take count list) (read_words count (words (word ++ bytes)))

reads_gap : (x : ℕ) (xs : List ℕ) → is_gap x ≡ true → ((count : ℕ) → Reads xs count []) → (count : ℕ) (word : List ℕ) → Reads (x ∷ xs) count word
reads_gap x xs g rest count [] list places s e =
    ap (outcome xs) (sym (skips list x refl g)) ∙ rw (words_skip x xs g) (rest count list places s e)
reads_gap x xs g rest count (b ∷ bs) list places s e =
    let value = decimal (b ∷ bs) in
    ap (outcome xs) (sym (ends list x refl g))
    ∙ rw (words_gap b bs s x xs g, e.1)
    (ends_gap count value list places xs (read_words (count + 1) (words xs))
    (rest (count + 1) (set list count value) (length-set list count value ∙ places) tt tt))

reads_on : (bytes : List ℕ) (count : ℕ) (word : List ℕ) → Reads bytes count word
reads_on [] count [] list places s e = rw (words_none, append-nil)
reads_on [] count (b ∷ bs) list places s e = rw (append-nil, words_last b bs s, e.1) (ends_last count (decimal (b ∷ bs)) list places)
reads_on (x ∷ xs) count word list places s e =
    by_cases (is_gap x) (λ g. reads_gap x xs g (λ k. reads_on xs k []) count word list places s e)
    λ g.
    let more = word ++ (x ∷ []) in
    ap (outcome xs) (step_word count word list x g e)
    ∙ rw (← append_snoc word x xs)
    (by_cases (allowed count more)
    (λ n. rw n (reads_on xs count more list places (solid_snoc word x s g) (fine_more count word x n)))
    (λ n. rw (n, bad_refused xs count more (solid_snoc word x s g) (bad_now count word x n)) (failed_stays count list xs)))

-- The theorem: a text in any pieces, one after the other, read into a list of 32,768 places.
module _ (list : List ℕ) (places : length list ≡ 32768) where
  pieces_joined : (p : Progress) (pieces : List (List ℕ)) → foldl advanced p pieces ≡ advanced p (flatten pieces)
  unfolding advanced flatten
  pieces_joined p [] = refl
  pieces_joined p (piece ∷ pieces) = pieces_joined (foldl stepped p piece) pieces ∙ sym (foldl-append stepped p piece (flatten pieces))

  pub any_cut : (pieces : List (List ℕ)) → scanned_reading (finished (foldl advanced (Between 0, list) pieces)) ≡ reading (flatten pieces)
  unfolding reading finished advanced
  any_cut pieces =
      ap (λ (p : Progress). scanned_reading (finished p)) (pieces_joined (Between 0, list) pieces)
      ∙ reads_on (flatten pieces) 0 [] list places tt tt
      ∙ after_nil (reading (flatten pieces))
