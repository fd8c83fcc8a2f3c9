-- `judged` meets its contract: what the verdict says of ingredient 1, its gap, and its pairs of columns.
-- Assumes nothing.
use mathlib.Core.Path.{ap₂}
use Prim.Native.Nat.{ℕ}
use mir.Facts.{to_z-of_z}
use mir.Syntax.{w64}
use lib.IntN.{ℤ}
use Rattle.std.specs.Prelude.{Result}
use Rattle.written_table.specs.declared.TableCheck.{TableCheck}
use borrow.Author.Rules.{sfits_of}
use Rattle.written_check.proofs.judged.Goals as goal
use Rattle.sheets.specs.declared.answer.Refusal.{Refusal}

pub returns : goal.returns
returns c = ap₂ (both _) c.table_passing.ensures (to_z-of_z {w = w64} (sfits_of c.struct_told-1.given.1.0.1))
  where
    both : ℕ → Result (Unit {0}) Refusal → ℤ → TableCheck
    both pairs passing gap = record { passing = passing; gap = gap; pairs = pairs }
