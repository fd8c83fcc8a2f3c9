-- The numbers of a price list as the arguments of a program, "pence per run, pence for a changed level in each column (all 32-bit), and a discount": document
-- 02, K7. Text is the list of its bytes.
use Rattle.std.specs.Prelude.{Bool, true, cond, ◌&&◌, List, [], ◌∷◌, map, ℕ, leb, ltb, length, Option, Some, None}
use Rattle.words.specs.Words.{all_digits, decimal}

-- An argument writes a number of a price list where it is one digit or more and nothing else, and the number is below 2³². Leading zeros are allowed, as in
-- the words of an order.
unfoldable pub is_price : List ℕ → Bool
is_price word = ltb 0 (length word) && all_digits word && leb (decimal word) 4294967295

unfoldable pub price_in : List ℕ → Option ℕ
price_in word = cond (is_price word) (Some (decimal word)) None

abbrev pub all_prices : List (List ℕ) → Bool
all_prices [] = true
all_prices (word ∷ rest) = is_price word && all_prices rest

-- The numbers of the arguments, in their order. No sheet has more than 128 columns, so more than 130 arguments are no price list, and neither are arguments
-- of which one writes no number: then there are no numbers.
unfoldable pub price_list : List (List ℕ) → List ℕ
price_list arguments = cond (leb (length arguments) 130 && all_prices arguments) (map decimal arguments) []
