-- The numbers of a refusal and of an answer: document 01, "The questions, in turn", and for 14 02, K6.
use Rattle.std.specs.Prelude.{◌≡◌, ◌⊎◌, List, [], ◌∷◌, ℕ, ◌≤◌, ℤ, pos, get_or}
use Rattle.sheets.specs.declared.answer.Answer.{Answer}
use Rattle.sheets.specs.declared.answer.Answer.TheVariants.{Filled, Refused}
use Rattle.sheets.specs.declared.answer.Refusal.{Refusal}
use Rattle.sheets.specs.declared.answer.Refusal.TheVariants.{ShortBuffers, Unreadable, EntryOutOfRange, UnevenLevel, UnevenPair, UnevenDifference, Dependent, StepNotAllowed, PartsDoNotFit, NotTheSum, TooLarge, UnevenValue}

-- 01's number of a refusal and its six details, unused ones 0
unfoldable pub numbered : Refusal → List ℕ
numbered ShortBuffers = 1 ∷ 0 ∷ 0 ∷ 0 ∷ 0 ∷ 0 ∷ 0 ∷ []
numbered (Unreadable place) = 2 ∷ place ∷ 0 ∷ 0 ∷ 0 ∷ 0 ∷ 0 ∷ []
numbered (EntryOutOfRange place) = 3 ∷ place ∷ 0 ∷ 0 ∷ 0 ∷ 0 ∷ 0 ∷ []
numbered (UnevenLevel i c x times) = 4 ∷ i ∷ c ∷ x ∷ times ∷ 0 ∷ 0 ∷ []
numbered (UnevenPair i c d x y times) = 5 ∷ i ∷ c ∷ d ∷ x ∷ y ∷ times ∷ []
numbered (UnevenDifference i c d x times) = 6 ∷ i ∷ c ∷ d ∷ x ∷ times ∷ 0 ∷ []
numbered (Dependent i c d coefficients) = 7 ∷ i ∷ c ∷ d ∷ coefficients ∷ 0 ∷ 0 ∷ []
numbered (StepNotAllowed step) = 8 ∷ step ∷ 0 ∷ 0 ∷ 0 ∷ 0 ∷ 0 ∷ []
numbered (PartsDoNotFit step) = 9 ∷ step ∷ 0 ∷ 0 ∷ 0 ∷ 0 ∷ 0 ∷ []
numbered (NotTheSum step run member) = 10 ∷ step ∷ run ∷ member ∷ 0 ∷ 0 ∷ 0 ∷ []
numbered (TooLarge step runs columns) = 11 ∷ step ∷ runs ∷ columns ∷ 0 ∷ 0 ∷ 0 ∷ []
numbered (UnevenValue step i c v) = 14 ∷ step ∷ i ∷ c ∷ v ∷ 0 ∷ 0 ∷ []

-- the number alone
abbrev pub refusal_number : Refusal → ℕ
refusal_number why = get_or (numbered why) 0 0

-- the numbers by which an order may be refused: 01's eleven, and 14 (02, K6)
abbrev pub RefusesOrders : ℕ → Type 0
RefusesOrders n = ((1 ≤ n) × (n ≤ 11)) ⊎ (n ≡ 14)

-- An answer as seven numbers: a filled order has 0 in the place of a refusal's number, and then the numbers of runs and columns.
unfoldable pub answer_numbers : Answer → List ℕ
answer_numbers (Filled N m spared) = 0 ∷ N ∷ m ∷ 0 ∷ 0 ∷ 0 ∷ 0 ∷ []
answer_numbers (Refused why) = numbered why

-- And beside them the spare degrees of a filled order, a signed number (02, K1); a refused order has 0 there.
unfoldable pub answer_spare : Answer → ℤ
answer_spare (Filled N m spared) = spared
answer_spare (Refused why) = pos 0
