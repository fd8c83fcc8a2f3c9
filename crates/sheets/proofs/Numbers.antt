-- The number of a refusal of an order is one of 1 to 11, or 14 (02, K6). Assumes nothing.
use mathlib.Core.Path.{◌≡◌, refl}
use mathlib.Core.Logic.{inl, inr, ⊎_elim}
use native.Mathlib.Omega.{arith}
use lib.Dec.{lit≤}
use Rattle.sheets.specs.Refusals.{numbered, refusal_number, RefusesOrders}
use Rattle.sheets.specs.declared.answer.Refusal.{Refusal}
use Rattle.sheets.specs.declared.answer.Refusal.TheVariants.{ShortBuffers, Unreadable, EntryOutOfRange, UnevenLevel, UnevenPair, UnevenDifference, Dependent, StepNotAllowed, PartsDoNotFit, NotTheSum, TooLarge, UnevenValue}

pub number_known : (why : Refusal) → RefusesOrders (refusal_number why)
unfolding numbered
number_known ShortBuffers = inl (lit≤ tt, lit≤ tt)
number_known (Unreadable place) = inl (lit≤ tt, lit≤ tt)
number_known (EntryOutOfRange place) = inl (lit≤ tt, lit≤ tt)
number_known (UnevenLevel i c x times) = inl (lit≤ tt, lit≤ tt)
number_known (UnevenPair i c d x y times) = inl (lit≤ tt, lit≤ tt)
number_known (UnevenDifference i c d x times) = inl (lit≤ tt, lit≤ tt)
number_known (Dependent i c d coefficients) = inl (lit≤ tt, lit≤ tt)
number_known (StepNotAllowed step) = inl (lit≤ tt, lit≤ tt)
number_known (PartsDoNotFit step) = inl (lit≤ tt, lit≤ tt)
number_known (NotTheSum step run member) = inl (lit≤ tt, lit≤ tt)
number_known (TooLarge step runs columns) = inl (lit≤ tt, lit≤ tt)
number_known (UnevenValue step i c v) = inr refl

-- so it is not 0, which stands for a filled order
pub number_not_zero : (why : Refusal) → refusal_number why ≡ 0 → ⊥
number_not_zero why e = ⊎_elim (λ among. omega arith) (λ (last : refusal_number why ≡ 14). omega arith) (number_known why)
