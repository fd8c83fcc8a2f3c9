-- The reading of a whole list, from what the code finds of its ingredients, its steps and its end.
use mathlib.Core.Path.{◌≡◌}
use mathlib.Core.List.{List}
use Prim.Native.Nat.{ℕ, ◌≤◌, ◌<◌}
use borrow.Author.Tests.{lt-ltb, le-ltb}
use lib.ListN.{length}
use Rattle.order.specs.Order.{Order}
use Rattle.order.specs.Reader.{Parsed, continue}
use Rattle.order.specs.Grammar.{counted, read_ingredient, read_step, read_parts, at_end, read_order}
use Rattle.order.specs.Answers.{walk_of, reading_of}
use Rattle.order.specs.declared.Cursor.{Cursor}
use Rattle.std.specs.Prelude.{Result, Ok, Err}
use Rattle.order.specs.declared.Refused.{Refused}
use Rattle.order.proofs.Answers.{walk_go, walk_stop}

-- The answer to the reading of the parts, where nothing may be left over.
whole : List ℕ → Parsed Order → Result (Unit {0}) Refused
whole list p = reading_of (continue p (λ o next. at_end o list next))

pub too_long : (list : List ℕ) → 32768 < length list → Err (record { place = 32768 }) ≡ reading_of (read_order list)
unfolding read_order reading_of
too_long list long = rw (lt-ltb 32768 (length list) long)

module _ (list : List ℕ) (short : length list ≤ 32768) where
  from_parts : {r : Result (Unit {0}) Refused} → r ≡ whole list (read_parts list 0) → r ≡ reading_of (read_order list)
  unfolding whole read_order
  from_parts e = rw (le-ltb 32768 (length list) short) e

  pub ingredients_refused : {refusal : Refused} → walk_of (counted 0 32 read_ingredient list 0) ≡ Err refusal → Err refusal ≡ reading_of (read_order list)
  unfolding whole read_parts reading_of
  ingredients_refused e = from_parts (walk_stop (whole list) _ (counted 0 32 read_ingredient list 0) e)

  module _ {next : Cursor} (first : walk_of (counted 0 32 read_ingredient list 0) ≡ Ok next) where
    pub steps_refused : {refusal : Refused} → walk_of (counted 1 16 read_step list next.at) ≡ Err refusal → Err refusal ≡ reading_of (read_order list)
    unfolding whole read_parts reading_of
    steps_refused e =
        from_parts
        (walk_go (whole list) _ (counted 0 32 read_ingredient list 0) first λ gs v.
        walk_stop (whole list) _ (counted 1 16 read_step list next.at) e)

    module _ {end : Cursor} (second : walk_of (counted 1 16 read_step list next.at) ≡ Ok end) where
      pub left_over : end.at < length list → Err (record { place = end.at }) ≡ reading_of (read_order list)
      unfolding whole read_parts reading_of
      left_over more =
          from_parts
          (walk_go (whole list) _ (counted 0 32 read_ingredient list 0) first λ gs v.
          walk_go (whole list) _ (counted 1 16 read_step list next.at) second λ ss v'.
          rw (lt-ltb end.at (length list) more))

      pub to_the_end : length list ≤ end.at → Ok tt ≡ reading_of (read_order list)
      unfolding whole read_parts reading_of
      to_the_end none =
          from_parts
          (walk_go (whole list) _ (counted 0 32 read_ingredient list 0) first λ gs v.
          walk_go (whole list) _ (counted 1 16 read_step list next.at) second λ ss v'.
          rw (le-ltb end.at (length list) none))
