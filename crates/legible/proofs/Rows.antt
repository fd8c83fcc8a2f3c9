-- A line with a number for each column of its page: what stands in its places.
-- Assumes nothing.
use mathlib.Core.Path.{◌≡◌, sym, ◌∙◌, ap}
use mathlib.Core.List.{List, ◌++◌, map}
use Prim.Native.Nat.{ℕ, ◌+◌, ◌-◌, ◌*◌, ◌≤◌, ◌<◌, min}
use native.Mathlib.Omega.{arith}
use lib.ListN.{length, get_or, take, drop, length-map}
use lib.Seq.{take_at}
use Rattle.finite.specs.Lists.{AllBelow}
use Rattle.finite.proofs.Lists.{Below, each_below, below_map, get_d_map}
use Rattle.decimals.proofs.Decimals.{decimal_length}
use Rattle.counting.specs.Table.{Table, columns}
use Rattle.pieces.proofs.Lists.{get_d_from}
use Rattle.page_text.specs.Pages.{blanks, right_aligned, in_three, closed, first_column, columns_on}
use Rattle.page_text.proofs.Aligned.{aligned_length}
use Rattle.page_text.proofs.Lines.{four_length, columns_are, columns_length, columns_below}
use Rattle.legible.proofs.Places.{column_at}
use Rattle.legible.proofs.Parts.{back_part, piece}
use Rattle.legible.proofs.Closed.{closed_text, closed_blank, closed_end}

-- a number for each column on page n, in three, after four characters
pub record Row (T : Table) (n : ℕ) (head : List ℕ) (f : ℕ → ℕ) (line : List ℕ) : Type 0 where
  pub four : length head ≡ 4
  pub below : (c : ℕ) → c < columns T → f c < 1000
  pub line_is : line ≡ closed (head ++ in_three (map f (columns_on T n)))

module _ {T : Table} {n : ℕ} {head : List ℕ} {f : ℕ → ℕ} {line : List ℕ} (row : Row T n head f line) where
  -- the numbers
  abbrev values : List ℕ
  values = map f (columns_on T n)

  -- they have room
  values_below : Below 1000 values
  values_below = below_map row.below (columns_below T n)

  -- 4 characters and 3 for each column, at most 79
  text_length : length (head ++ in_three values) ≡ 4 + 3 * min 25 (columns T - first_column T.runs n)
  text_length =
      four_length head values row.four values_below ∙ ap (λ (k : ℕ). 4 + 3 * k) (length-map (columns_on T n) f ∙ columns_length T n)

  room : length (head ++ in_three values) ≤ 79
  room = omega (arith, text_length)

  -- the first four characters
  pub row_head : take 4 line ≡ head
  row_head =
      ap (take 4) row.line_is
      ∙ closed_text (head ++ in_three values) room 0 4 (omega (arith, text_length))
      ∙ take_at head (in_three values) 4 row.four

  -- number j is that of the j-th column on the page
  value_at : (j c : ℕ) → c ≡ column_at T n j → j < 25 → c < columns T → get_or values j 0 ≡ f c
  value_at j c is h k =
      get_d_map f (columns_on T n) {i = j} (omega (arith, columns_length T n))
      ∙ ap f (ap (λ (xs : List ℕ). get_or xs j 0) (columns_are T n) ∙ get_d_from (first_column T.runs n) _ j (omega arith) ∙ sym is)

  -- number j stands in the j-th three characters
  in_three_lem : (j : ℕ) → j < length values → take 3 (drop (3 * j) (in_three values)) ≡ right_aligned 3 (get_or values j 0)
  unfolding in_three AllBelow
  in_three_lem j h =
      piece (right_aligned 3) 3 values j (λ i l. aligned_length 3 (get_or values i 0) (decimal_length 2 (get_or values i 0) (each_below values_below i l))) h

  -- the place of a column on the page
  pub row_place : (j c : ℕ) → c ≡ column_at T n j → j < 25 → c < columns T → take 3 (drop (4 + 3 * j) line) ≡ right_aligned 3 (f c)
  row_place j c is h k =
      ap (λ (xs : List ℕ). take 3 (drop (4 + 3 * j) xs)) row.line_is
      ∙ closed_text (head ++ in_three values) room (4 + 3 * j) 3 (omega (arith, text_length))
      ∙ back_part 4 (3 * j) 3 head (in_three values) row.four
      ∙ in_three_lem j (omega (arith, length-map (columns_on T n) f, columns_length T n))
      ∙ ap (right_aligned 3) (value_at j c is h k)

  -- a place past the last column
  pub row_blank : (j : ℕ) → j < 25 → columns T ≤ column_at T n j → take 3 (drop (4 + 3 * j) line) ≡ blanks 3
  row_blank j h k =
      ap (λ (xs : List ℕ). take 3 (drop (4 + 3 * j) xs)) row.line_is
      ∙ closed_blank (head ++ in_three values) room (4 + 3 * j) 3 (omega (arith, text_length)) (omega arith)

  -- the line feed
  pub row_end : get_or line 79 0 ≡ 10
  row_end = ap (λ (xs : List ℕ). get_or xs 79 0) row.line_is ∙ closed_end (head ++ in_three values) room
