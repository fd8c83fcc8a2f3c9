-- The page that an argument asks for.
-- Assumes nothing.
use mathlib.Core.Path.{◌≡◌, refl}
use mathlib.Core.List.{List, [], ◌∷◌}
use Prim.Native.Nat.{ℕ, zero, suc, ◌≤◌}
use native.Mathlib.Nat.{not-suc-le-zero}
use native.Mathlib.Omega.{arith}
use lib.ListN.{length, get_or, take}
use Rattle.words.specs.Words.{numbers, refused, reading}
use Rattle.whole_text.proofs.Whole.{scanned}
use Rattle.page_argument.specs.PageArgument.{sole_number, asked_by}
use Rattle.page_argument.specs.declared.Asked.TheVariants.{One}

-- one number at the front of a list, and any other count of them
pub sole_one : (list : List ℕ) {count : ℕ} → count ≡ 1 → count ≤ length list → get_or list 0 0 ≡ sole_number (take count list)
sole_one [] e h = absurd (omega (arith, e))
sole_one (n ∷ ns) e h = rw e

pub sole_other : (list : List ℕ) (count : ℕ) → (count ≡ 1 → ⊥) → count ≤ length list → 0 ≡ sole_number (take count list)
sole_other list zero e h = refl
sole_other list (suc zero) e h = absurd (e refl)
sole_other [] (suc (suc count)) e h = absurd (not-suc-le-zero h)
sole_other (n ∷ []) (suc (suc count)) e h = absurd (omega arith)
sole_other (n ∷ m ∷ ns) (suc (suc count)) e h = refl

-- the numbers of an argument, or its refusal
pub asked_numbers : (argument : List ℕ) {ns : List ℕ} → reading argument ≡ numbers ns → One (sole_number ns) ≡ asked_by argument
unfolding asked_by
asked_numbers argument e = rw e

pub asked_refused : (argument : List ℕ) {place : ℕ} → reading argument ≡ refused place → One 0 ≡ asked_by argument
unfolding asked_by
asked_refused argument e = rw e

pub ruleset asked = (scanned, asked_numbers, asked_refused)
