-- The laws of an abelian group and of a field whose elements are the numbers below n, as records that proofs take as a parameter.
-- Document 01, "What is counted": the differences of a matrix, and the fields of a generator.
-- Assumes nothing.
use Rattle.std.specs.Prelude.{◌≡◌, ℕ, ◌<◌}

-- an operation on the numbers below n that commutes and associates, with a neutral element
pub record CommutativeMonoid (n neutral : ℕ) (op : ℕ → ℕ → ℕ) : Type 0 where
  pub neutral_below : neutral < n
  pub closed : {a b : ℕ} → a < n → b < n → op a b < n
  pub commutes : {a b : ℕ} → a < n → b < n → op a b ≡ op b a
  pub associates : {a b c : ℕ} → a < n → b < n → c < n → op (op a b) c ≡ op a (op b c)
  pub neutral_left : {a : ℕ} → a < n → op neutral a ≡ a

-- sums with 0 as their zero, so that n is not 0, and an opposite for each element
pub record AbelianGroup (n : ℕ) (plus : ℕ → ℕ → ℕ) : Type 0 where
  pub sums : CommutativeMonoid n 0 plus
  pub opposite : ℕ → ℕ
  pub opposite_below : {a : ℕ} → a < n → opposite a < n
  pub opposite_cancels : {a : ℕ} → a < n → plus a (opposite a) ≡ 0

-- sums, products with 1 as their one, so that 1 is below s and not 0, an inverse for each element but 0, and distribution
pub record Field (s : ℕ) (plus times : ℕ → ℕ → ℕ) : Type 0 where
  pub group : AbelianGroup s plus
  pub products : CommutativeMonoid s 1 times
  pub inverse : ℕ → ℕ
  pub inverse_below : {a : ℕ} → a < s → inverse a < s
  pub inverse_cancels : {a : ℕ} → 0 < a → a < s → times a (inverse a) ≡ 1
  pub distributes : {a b c : ℕ} → a < s → b < s → c < s → times a (plus b c) ≡ plus (times a b) (times a c)
