-- What stands in a table of two elements, an array of rows: where antt computes that the table is that of an operation,
-- the entry at a and b is the operation's result. Assumes nothing.
use mathlib.Core.Path.{◌≡◌, refl, sym, ◌∙◌, ap}
use mathlib.Core.Bool.{false}
use mathlib.Core.List.{List, [], ◌∷◌}
use mathlib.Core.Logic.{◌≢◌, ⊎_elim}
use Prim.Native.Nat.{ℕ, zero, suc, ◌<◌}
use native.Mathlib.Nat.{le_of_suc-le-suc, not-suc-le-zero}
use native.Mathlib.Omega.{arith}
use lib.Dec.{T, eqb}
use lib.ListN.{get_or}
use mir.Facts.{or_yes, eqb_yes}
use Rattle.galois.specs.Arithmetic.{field_size}
use Rattle.galois.proofs.Tests.{otherwise}
use Rattle.galois.specs.Operands.{Operands}

module _ {A : Type 0} where
  -- f 0, f 1, .., f (n − 1)
  abbrev pub tabulate : ℕ → (ℕ → A) → List A
  tabulate zero f = []
  tabulate (suc n) f = f zero ∷ tabulate n (λ k. f (suc k))

  pub tabulated : (n : ℕ) (f : ℕ → A) (d : A) {k : ℕ} → k < n → get_or (tabulate n f) k d ≡ f k
  tabulated zero f d h = absurd (not-suc-le-zero h)
  tabulated (suc n) f d {k = zero} h = refl
  tabulated (suc n) f d {k = suc k} h = tabulated n (λ k. f (suc k)) d (le_of_suc-le-suc h)

-- the rows of an operation on the elements below n
abbrev pub table : ℕ → (ℕ → ℕ → ℕ) → List (List ℕ)
table n op = tabulate n (λ a. tabulate n (op a))

-- the entry of a table of the field of s elements: `rows` is what the code has, and that it is the table of `op n` is computed
pub entry : (n : ℕ) (op : ℕ → ℕ → ℕ → ℕ) {rows : List (List ℕ)} {s a b : ℕ}
    → rows ≡ table n (op n) → s ≡ n → Operands s a b → get_or (get_or rows a []) b 0 ≡ op s a b
entry n op {a = a} {b = b} computed size operands =
    let ha : a < n = omega (arith, operands.first) in
    let hb : b < n = omega (arith, operands.second) in
    ap (λ (rows : List (List ℕ)). get_or (get_or rows a []) b 0) computed
    ∙ ap (λ (row : List ℕ). get_or row b 0) (tabulated n (λ a. tabulate n (op n a)) [] ha)
    ∙ tabulated n (op n a) 0 hb
    ∙ ap (λ (n : ℕ). op n a b) (sym size)

-- a size that is none of the first six, as the last arm of the code's match knows it, is 9
pub nine : (s : ℕ) → T (field_size s)
    → (((((Unit {0} × (s ≢ 2)) × (s ≢ 3)) × (s ≢ 4)) × (s ≢ 5)) × (s ≢ 7)) × (s ≢ 8) → s ≡ 9
unfolding field_size
nine s size others =
    let ((((((_, two), three), four), five), seven), eight) = others in
    ⊎_elim eqb_yes absurd (or_yes (eqb s 9) false (otherwise _ eight (otherwise _ seven (otherwise _ five (otherwise _ four (otherwise _ three (otherwise _ two size)))))))
