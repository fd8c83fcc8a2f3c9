-- A text that is refused is refused at the same place whatever follows it, so that a program need not read on.
use mathlib.Core.Path.{◌≡◌, ◌∙◌, ap}
use mathlib.Core.Bool.{Bool, true, false, ◌&&◌}
use mathlib.Core.List.{List, [], ◌∷◌, ◌++◌, append-nil}
use Prim.Native.Nat.{ℕ, ◌+◌}
use native.Mathlib.Omega.{arith}
use lib.Dec.{ltb}
use lib.Seq.{append_snoc}
use Rattle.words.specs.Words.{is_gap, words, decimal, is_number, Reading, numbers, refused, prefixed, read_words, reading}
use Rattle.lines.proofs.Cases.{by_cases}
use Rattle.words.proofs.Cuts.{Solid, solid_snoc, words_last, words_gap, words_none, words_skip, bad_snoc}

-- A word at a place is not refused.
abbrev pub allowed : ℕ → List ℕ → Bool
allowed place word = ltb place 32768 && is_number word

-- A word at a place is refused. There is no word before its first byte.
abbrev pub Bad : ℕ → List ℕ → Type 0
Bad place [] = ⊥
Bad place (b ∷ bs) = allowed place (b ∷ bs) ≡ false

bad_more : (place : ℕ) (word : List ℕ) (x : ℕ) → Bad place word → Bad place (word ++ (x ∷ []))
bad_more place [] x e = absurd e
bad_more place (b ∷ bs) x e = by_cases (ltb place 32768) (λ l. rw l (bad_snoc (b ∷ bs) x (rw l at e))) (λ l. rw l)

pub bad_refused : (bytes : List ℕ) (place : ℕ) (word : List ℕ) → Solid word → Bad place word → read_words place (words (word ++ bytes)) ≡ refused place
bad_refused [] place [] s e = absurd e
bad_refused [] place (b ∷ bs) s e = rw (append-nil, words_last b bs s, e)
bad_refused (x ∷ xs) place [] s e = absurd e
bad_refused (x ∷ xs) place (b ∷ bs) s e =
    by_cases (is_gap x) (λ g. rw (words_gap b bs s x xs g, e))
    λ g.
    rw (← append_snoc (b ∷ bs) x xs)
    (bad_refused xs place ((b ∷ bs) ++ (x ∷ [])) (solid_snoc (b ∷ bs) x s g) (bad_more place (b ∷ bs) x e))

pub not_refused : {ns : List ℕ} {at : ℕ} → numbers ns ≡ refused at → ⊥
not_refused e = let z : ◌≡◌ {A = ℕ} 0 1 = cc in omega arith

prefixed_refused : (n : ℕ) (r : Reading) {at : ℕ} → prefixed n r ≡ refused at → r ≡ refused at
prefixed_refused n (numbers ns) e = absurd (not_refused e)
prefixed_refused n (refused place) e = e

-- The same from a place on, within a word.
module _ (rest : List ℕ) (at : ℕ) where
  abbrev Stays : List ℕ → ℕ → List ℕ → Type 0
  Stays bytes place word = Solid word → read_words place (words (word ++ bytes)) ≡ refused at → read_words place (words (word ++ (bytes ++ rest))) ≡ refused at

  stays_last : (place : ℕ) (word : List ℕ) → Stays [] place word
  stays_last place [] s e = absurd (not_refused (rw words_none at e))
  stays_last place (b ∷ bs) s e =
      by_cases (allowed place (b ∷ bs))
      (λ t. absurd (not_refused (rw (append-nil, words_last b bs s, t) at e)))
      (λ t. bad_refused rest place (b ∷ bs) s t ∙ (rw (append-nil, words_last b bs s, t) at e))

  stays_gap : (x : ℕ) (xs : List ℕ) → is_gap x ≡ true → ((place : ℕ) → Stays xs place []) → (place : ℕ) (word : List ℕ) → Stays (x ∷ xs) place word
  stays_gap x xs g later place [] s e = rw (words_skip x (xs ++ rest) g) (later place s (rw (words_skip x xs g) at e))
  stays_gap x xs g later place (b ∷ bs) s e =
      let first = rw (words_gap b bs s x xs g) at e in
      rw (words_gap b bs s x (xs ++ rest) g)
      (by_cases (allowed place (b ∷ bs))
      (λ t. rw t (ap (prefixed (decimal (b ∷ bs))) (later (place + 1) tt (prefixed_refused (decimal (b ∷ bs)) _ (rw t at first)))))
      (λ t. rw t (rw t at first)))

  stays : (bytes : List ℕ) (place : ℕ) (word : List ℕ) → Stays bytes place word
  stays [] place word s e = stays_last place word s e
  stays (x ∷ xs) place word s e =
      by_cases (is_gap x) (λ g. stays_gap x xs g (λ k. stays xs k []) place word s e)
      λ g.
      rw (← append_snoc word x (xs ++ rest))
      (stays xs place (word ++ (x ∷ [])) (solid_snoc word x s g) (rw (← append_snoc word x xs) at e))

pub refused_stays : (text rest : List ℕ) {at : ℕ} → reading text ≡ refused at → reading (text ++ rest) ≡ refused at
unfolding reading
refused_stays text rest e = stays rest _ text 0 [] tt e
