-- What is found in the columns of one matrix is what the definition finds of it, where it serves the sheet.
-- Assumes nothing.
use mathlib.Core.Path.{◌≡◌, sym, ◌∙◌, subst}
use mathlib.Core.Bool.{Bool, true, false, cond}
use mathlib.Core.List.{List}
use mathlib.Core.Option.{Option, none, some, none-ne-some, some-injective}
use Prim.Native.Nat.{ℕ, ◌*◌, ◌<◌}
use borrow.Author.Tests.{eq-eqb, ne_eqb}
use lib.Dec.{eqb}
use Rattle.std.specs.Prelude.{Some, None}
use Rattle.std.specs.Prelude as Prelude
use Rattle.finite.specs.First.{first}
use Rattle.finite.proofs.Firsts.{first_none, first_at, found_least, cond_then}
use Rattle.galois.specs.Arithmetic.{member}
use Rattle.counting.specs.Matrix.{Matrix}
use Rattle.counting.specs.Verdict.{deviation}
use Rattle.counting.proofs.Deviations.{none_even, some_lowest}
use Rattle.step_tables.specs.Cross.{ValueFault, value_times, value_fault_at, matrix_fault, served_fault}
use Rattle.tally.specs.Tally.{as_deviation}
use Rattle.tally.specs.declared.Deviation.{Deviation}
use Rattle.tally.proofs.Tallies.{at_some, nowhere_none}

-- what is found under a test is what stands there
tested : (b : Bool) {x y : ValueFault} → cond b none (some x) ≡ some y → x ≡ y
tested true {y = y} e = absurd (none-ne-some y e)
tested false {x} {y} e = some-injective x y e

-- what is found in column c of the matrix in place q
abbrev pub in_column : ℕ → Matrix → ℕ → Option ValueFault
in_column q D c = first D.modulus (value_fault_at q D c)

module _ (D : Matrix) (c q : ℕ) where
  -- no value that deviates
  pub column_even : {r : Prelude.Option Deviation} → r ≡ None → r ≡ as_deviation (deviation D.modulus D.rows (value_times D c)) → in_column q D c ≡ none
  unfolding value_fault_at
  column_even is e =
      let even = none_even D.modulus D.rows (value_times D c) (nowhere_none _ (sym is ∙ e)) in
      first_none _ D.modulus (λ v h. rw (eq-eqb (D.modulus * value_times D c v) D.rows (even v h)))

  -- the lowest value that does
  pub column_uneven : {r : Prelude.Option Deviation} {d : Deviation} → r ≡ Some d → r ≡ as_deviation (deviation D.modulus D.rows (value_times D c))
      → in_column q D c ≡ some (record { place = q; column = c; value = d.value })
  unfolding value_fault_at
  column_uneven {d = d} is e =
      let lowest = some_lowest D.modulus D.rows (value_times D c) _ (at_some _ d (sym is ∙ e)) in
      first_at _ D.modulus d.value _ lowest.below
      (λ w h. rw (eq-eqb (D.modulus * value_times D c w) D.rows (lowest.before w h)))
      (rw (ne_eqb (D.modulus * value_times D c d.value) D.rows lowest.uneven))

module _ (D : Matrix) (q : ℕ) where
  -- no column is uneven
  pub matrix_even : ((c : ℕ) → c < D.columns → in_column q D c ≡ none) → none ≡ matrix_fault q D
  unfolding matrix_fault
  matrix_even e = sym (first_none _ D.columns e)

  -- column c is, and none before it
  pub matrix_uneven : (c : ℕ) {fault : ValueFault} → c < D.columns → ((b : ℕ) → b < c → in_column q D b ≡ none) → in_column q D c ≡ some fault
      → some fault ≡ matrix_fault q D
  unfolding matrix_fault
  matrix_uneven c {fault} h before e = sym (first_at _ D.columns c fault h before e)

  -- ---- a matrix that serves the sheet, and one that does not

  module _ (levels : List ℕ) where
    pub not_asked : {b : Bool} → b ≡ false → b ≡ member D.modulus levels → none ≡ served_fault levels q D
    unfolding served_fault
    not_asked is e = rw (sym e ∙ is)

    pub asked : {b : Bool} → b ≡ true → b ≡ member D.modulus levels → matrix_fault q D ≡ served_fault levels q D
    unfolding served_fault
    asked is e = rw (sym e ∙ is)

    -- the column that is named is one of the matrix
    pub column_below : {fault : ValueFault} → served_fault levels q D ≡ some fault → fault.column < D.columns
    unfolding served_fault matrix_fault value_fault_at
    column_below {fault} e =
        let outer = found_least (in_column q D) D.columns fault (cond_then (member D.modulus levels) (matrix_fault q D) fault e).1 in
        let inner = found_least (value_fault_at q D outer.place) D.modulus fault outer.there in
        subst (λ (f : ValueFault). f.column < D.columns) (tested (eqb (D.modulus * value_times D outer.place inner.place) D.rows) inner.there) outer.below
