-- Laws of the definitions in specs/PriceArguments.antt: what the bytes of an argument so far say of its price, and what the arguments so far say of the list.
-- Assumes nothing.
use mathlib.Core.Path.{◌≡◌, refl, sym, ◌∙◌}
use mathlib.Core.Bool.{Bool, true, false, cond, ◌&&◌, and_assoc, and-true, and-false}
use mathlib.Core.List.{List, [], ◌∷◌, ◌++◌, map, map-append, foldl, foldl-append}
use Prim.Native.Nat.{ℕ, zero, suc, ◌+◌, ◌*◌, ◌-◌, ◌≤◌, ◌<◌, zero-le}
use native.Mathlib.Nat.{le_refl, le_trans, not-suc-le-zero, le_of_suc-le-suc}
use native.Mathlib.Numerals.{add-one}
use native.Mathlib.Omega.{arith}
use borrow.Author.Tests.{lt-ltb, le-leb, lt-leb}
use lib.ListN.{length, get_or, take, drop, set, replicate, length-append, length-replicate, take-append-drop}
use lib.Seq.{take_all, take-suc, take-suc-set}
use Rattle.std.specs.Prelude.{Some, None}
use Rattle.words.specs.Words.{is_digit, all_digits, decimal}
use Rattle.words.proofs.Cuts.{decimal_snoc, digits_snoc}
use Rattle.price_arguments.specs.PriceArguments.{is_price, price_in, all_prices, price_list}

-- One byte that is no digit spoils the whole.
no_digit : (word : List ℕ) (i : ℕ) → i < length word → is_digit (get_or word i 0) ≡ false → all_digits word ≡ false
no_digit [] i h e = absurd (not-suc-le-zero h)
no_digit (b ∷ bs) zero h e = rw e
no_digit (b ∷ bs) (suc i) h e = rw (no_digit bs i (le_of_suc-le-suc h) e) (and-false (is_digit b))

-- More bytes never write less, so what is too large stays too large.
fold_grows : (n : ℕ) (word : List ℕ) → n ≤ foldl (λ m byte. m * 10 + (byte - 48)) n word
fold_grows n [] = le_refl n
fold_grows n (b ∷ bs) = le_trans (omega arith) (fold_grows (n * 10 + (b - 48)) bs)

decimal_grows : (word more : List ℕ) → decimal word ≤ decimal (word ++ more)
unfolding decimal
decimal_grows word more = rw (foldl-append (λ m byte. m * 10 + (byte - 48)) 0 word more) (fold_grows _ more)

decimal_take : (word : List ℕ) (i : ℕ) → decimal (take i word) ≤ decimal word
decimal_take word i = rw take-append-drop at (decimal_grows (take i word) (drop i word))

-- The first i bytes of an argument are digits, and write a value that is not too large.
pub record ReadTo (argument : List ℕ) (i value : ℕ) : Type 0 where
  pub digits : all_digits (take i argument) ≡ true
  pub is : decimal (take i argument) ≡ value
  pub small : value ≤ 4294967295

-- Before the first byte.
pub read_none : (argument : List ℕ) → ReadTo argument 0 0
unfolding decimal
read_none argument = record { digits = refl; is = refl; small = zero-le }

module _ (argument : List ℕ) where
  -- An argument without a byte writes no price.
  pub price_empty : length argument ≡ 0 → None ≡ price_in argument
  unfolding price_in is_price
  price_empty e = rw e

  -- Nor does one that is not all digits, or that writes too much.
  not_digits : all_digits argument ≡ false → None ≡ price_in argument
  unfolding price_in is_price
  not_digits e = rw (e, and-false)

  not_small : 4294967295 < decimal argument → None ≡ price_in argument
  unfolding price_in is_price
  not_small h = rw (lt-leb _ _ h, and-false)

  module _ (i : ℕ) (h : i < length argument) where
    -- A byte below "0" or above "9" is no digit, so the argument writes none.
    pub price_low : get_or argument i 0 < 48 → None ≡ price_in argument
    unfolding is_digit
    price_low low = not_digits (no_digit argument i h (rw (lt-leb 48 _ low)))

    pub price_high : 57 < get_or argument i 0 → None ≡ price_in argument
    unfolding is_digit
    price_high high = not_digits (no_digit argument i h (rw (lt-leb _ 57 high, and-false)))

    -- The value with one byte more.
    next : decimal (take (i + 1) argument) ≡ decimal (take i argument) * 10 + (get_or argument i 0 - 48)
    next = rw (add-one, take-suc argument i 0) (decimal_snoc (take i argument) (get_or argument i 0))

    -- One digit more makes the value too large, or is read too.
    module _ {value : ℕ} (read : ReadTo argument i value) where
      pub price_large : 4294967295 < value * 10 + (get_or argument i 0 - 48) → None ≡ price_in argument
      price_large large = not_small (omega (arith, decimal_take argument (i + 1), next, read.is))

      pub read_more : 48 ≤ get_or argument i 0 → get_or argument i 0 ≤ 57 → value * 10 + (get_or argument i 0 - 48) ≤ 4294967295 → ReadTo argument (i + 1) (value * 10 + (get_or argument i 0 - 48))
      unfolding is_digit
      read_more low high small = record {
        digits = rw (add-one, take-suc argument i 0, digits_snoc, read.digits, le-leb 48 _ low, le-leb _ 57 high);
        is = next ∙ rw read.is;
        small = small;
      }

  -- What was read to the end of an argument that has a byte is its price.
  pub price_whole : {i value : ℕ} → (length argument ≡ 0 → ⊥) → length argument ≤ i → ReadTo argument i value → Some value ≡ price_in argument
  unfolding price_in is_price
  price_whole {i} {value} some end read =
      let whole = take_all i argument end in
      let digits = rw whole at read.digits in
      let is = rw whole at read.is in
      rw (lt-ltb 0 (length argument) (omega arith), digits, is, le-leb value 4294967295 read.small)

-- What `price_in` returns, at each of its returns.
pub ruleset returned = (price_empty, price_low, price_high, price_large, price_whole)

-- What an answer says of the argument.
is_price_lem : (word : List ℕ) {p : ℕ} → price_in word ≡ Some p → (is_price word ≡ true) × (decimal word ≡ p)
unfolding price_in
is_price_lem word {p} = go (is_price word) refl
  where
    go : (b : Bool) → is_price word ≡ b → cond b (Some (decimal word)) None ≡ Some p → (is_price word ≡ true) × (decimal word ≡ p)
    go true is e = (is, cc)
    go false is e = cc

no_price : (word : List ℕ) → price_in word ≡ None → is_price word ≡ false
unfolding price_in
no_price word = go (is_price word) refl
  where
    go : (b : Bool) → is_price word ≡ b → cond b (Some (decimal word)) None ≡ None → is_price word ≡ false
    go true is e = cc
    go false is e = is

-- One argument more.
all_snoc : (words : List (List ℕ)) (word : List ℕ) → all_prices (words ++ (word ∷ [])) ≡ (all_prices words && is_price word)
all_snoc [] word = and-true (is_price word)
all_snoc (w ∷ ws) word = rw (all_snoc ws word) (sym (and_assoc (is_price w) (all_prices ws) (is_price word)))

price_snoc : (words : List (List ℕ)) (word : List ℕ) {p : ℕ} → all_prices words ≡ true → price_in word ≡ Some p → (all_prices (words ++ (word ∷ [])) ≡ true) × (map decimal (words ++ (word ∷ [])) ≡ map decimal words ++ (p ∷ []))
price_snoc words word all e =
    let price = is_price_lem word e in
    (rw (all_snoc, all) price.0, rw (map-append, price.1))

-- The list of arguments that all write a price, of which there are at most 130.
price_list_lem : (words : List (List ℕ)) → all_prices words ≡ true → length words ≤ 130 → price_list words ≡ map decimal words
unfolding price_list
price_list_lem words all few = rw (le-leb _ 130 few, all)

-- One argument that writes none, or more than 130 arguments, leave no numbers.
bad_list : (words : List (List ℕ)) (word : List ℕ) → price_in word ≡ None → price_list (words ++ (word ∷ [])) ≡ []
unfolding price_list
bad_list words word none = rw (all_snoc, no_price word none, and-false (all_prices words), and-false)

long_list : (arguments : List (List ℕ)) → 130 < length arguments → price_list arguments ≡ []
unfolding price_list
long_list arguments many = rw (lt-leb _ 130 many)

-- The first i of some numbers are those of i arguments that all write a price: what a loop over the arguments has gathered so far.
pub record Listed (numbers : List ℕ) (i : ℕ) : Type 0 where
  pub words : List (List ℕ)
  pub many : length words ≡ i
  pub all : all_prices words ≡ true
  pub kept : take i numbers ≡ map decimal words

-- Before the first argument, and with one more that writes a price.
pub listed_start : (numbers : List ℕ) → Listed numbers 0
listed_start numbers = record { words = []; many = refl; all = refl; kept = refl }

pub listed_more : {numbers : List ℕ} {i p : ℕ} (word : List ℕ) → Listed numbers i → i < length numbers → price_in word ≡ Some p → Listed (set numbers i p) (i + 1)
listed_more {numbers} {i} {p} word so_far h e =
    let next = price_snoc so_far.words word so_far.all e in
    record {
      words = so_far.words ++ (word ∷ []);
      many = omega (arith, length-append so_far.words (word ∷ []), so_far.many);
      all = next.0;
      kept = rw (add-one, take-suc-set, so_far.kept) (sym next.1);
    }

-- At the end the numbers gathered are the list of those arguments; after an argument that writes none, or too many of them, the list has none.
pub listed_list : {numbers : List ℕ} {i : ℕ} → Listed numbers i → i ≤ 130 → (arguments : List (List ℕ)) × (take i numbers ≡ price_list arguments)
listed_list so_far few =
    (so_far.words, so_far.kept ∙ sym (price_list_lem so_far.words so_far.all (omega (arith, so_far.many))))

pub none_listed : (word : List ℕ) → price_in word ≡ None → (arguments : List (List ℕ)) × ([] ≡ price_list arguments)
none_listed word none = (word ∷ [], sym (bad_list [] word none))

pub many_listed : (arguments : List (List ℕ)) × ([] ≡ price_list arguments)
many_listed =
    let arguments : List (List ℕ) = replicate 131 [] in
    (arguments, sym (long_list arguments (omega (arith, length-replicate {A = List ℕ} 131 []))))
