-- Readers: what stands in a list from a place on, or the place where it is refused.
use Rattle.std.specs.Prelude.{Bool, true, false, List, [], ◌∷◌, ℕ, zero, suc, ◌+◌, ◌-◌, length, get_or, take, drop, ltb, leb}

-- A value and the place after it; or the place of the first number that is not allowed, or the length of a list that runs out.
pub data Parsed (A : Type 0) : Type 0 where
  value : A → ℕ → Parsed A
  refused : ℕ → Parsed A

-- A reader takes the list and the place where it starts.
abbrev pub Reader : Type 0 → Type 0
Reader A = List ℕ → ℕ → Parsed A

-- The first of two where the test holds, else the second.
abbrev pub when : {A : Type 0} → Bool → A → A → A
when true a b = a
when false a b = b

-- Goes on with what was read, from the place after it; a refusal ends the reading.
abbrev pub continue : {A B : Type 0} → Parsed A → (A → ℕ → Parsed B) → Parsed B
continue (value a next) k = k a next
continue (refused place) k = refused place

-- One reader after the other, as `do` writes it: the second may depend on what the first read.
infixl 55 ◌>>=◌
abbrev pub ◌>>=◌ : {A B : Type 0} → Reader A → (A → Reader B) → Reader B
(r >>= f) list at = continue (r list at) (λ a next. f a list next)

-- Reads nothing.
abbrev pub give : {A : Type 0} → A → Reader A
give a list at = value a at

-- One number, refused where the test does not allow it.
unfoldable pub allowed : (ℕ → Bool) → Reader ℕ
allowed test list at =
    when (ltb at (length list))
    (when (test (get_or list at 0)) (value (get_or list at 0) (at + 1)) (refused at))
    (refused (length list))

-- n numbers of any size.
unfoldable pub numbers : ℕ → Reader (List ℕ)
numbers n list at = when (leb n (length list - at)) (value (take n (drop at list)) (at + n)) (refused (length list))

-- n times what r reads.
abbrev pub repeated : {A : Type 0} → ℕ → Reader A → Reader (List A)
repeated zero r = give []
repeated (suc n) r = do
  x ← r
  xs ← repeated n r
  give (x ∷ xs)
