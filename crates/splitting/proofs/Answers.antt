-- The sizes and the spare degrees that SPLIT answers, once its parts fit: those of the next sheet, and whether it is small enough.
-- Assumes nothing.
use mathlib.Core.Path.{◌≡◌, sym, ◌∙◌, ap, ap₂}
use mathlib.Core.List.{List}
use Prim.Native.Nat.{ℕ, ◌+◌, ◌-◌, ◌≤◌}
use lib.IntN.{ℤ, ◌+ℤ◌}
use mir.Syntax.{w64}
use mir.Val.{SFits}
use Rattle.counting.specs.Table.{Table, columns, table_of}
use Rattle.step_tables.specs.Sheet.{AllLevels, LevelCount, SmallEnough, from_sources}
use Rattle.step_tables.specs.Split.{SplitFits, split_step}
use Rattle.spare.specs.Spare.{spare}
use Rattle.spare.proofs.Steps.{split_spare}
use Rattle.spare.proofs.Totals.{spares_fit}
use Rattle.sheets.specs.declared.answer.Refusal.TheVariants.{TooLarge}
use Rattle.sheets.specs.declared.answer.Answer.TheVariants.{Filled, Refused}
use Rattle.layout.specs.Bytes.{sheet_in}
use Rattle.layout.specs.Step.{Ready}
use Rattle.layout.specs.declared.Size.{Size}
use Rattle.layout.proofs.Sheets.{ready_runs}
use Rattle.split_sheet.proofs.Sheet.{next_columns}

module _ {list : List ℕ} {size : Size} {table levels scratch : List ℕ} (ready : Ready list size table levels scratch) (c : ℕ) (U : Table) (fits : SplitFits c U (sheet_in table levels size)) where
  -- the sizes that are answered
  module _ {m : ℕ} (counted : m ≡ columns U) where
    answered_columns : size.columns - 1 + m ≡ columns (split_step c U (sheet_in table levels size))
    answered_columns = ap (λ (k : ℕ). size.columns - 1 + k) counted ∙ sym (next_columns ready c U fits)

    pub filled_answer : {spared : ℤ} → spared ≡ size.spare +ℤ spare U
        → Filled size.runs (size.columns - 1 + m) spared
        ≡ Filled (split_step c U (sheet_in table levels size)).runs (columns (split_step c U (sheet_in table levels size))) (spare (split_step c U (sheet_in table levels size)))
    unfolding split_step from_sources sheet_in table_of
    filled_answer added =
        ap₂ (Filled size.runs) answered_columns (added ∙ ap (λ x. x +ℤ spare U) ready.spare_is ∙ sym (split_spare c U (sheet_in table levels size) fits))

    pub large_answer : (n : ℕ) → Refused (TooLarge n size.runs (size.columns - 1 + m)) ≡ Refused (TooLarge n (sheet_in table levels size).runs (columns (split_step c U (sheet_in table levels size))))
    unfolding sheet_in table_of
    large_answer n = ap (λ (k : ℕ). Refused (TooLarge n size.runs k)) answered_columns

  pub next_small : size.columns - 1 + columns U ≤ 128 → SmallEnough (split_step c U (sheet_in table levels size))
  unfolding split_step from_sources sheet_in table_of
  next_small h = record { runs_most = ready_runs ready; columns_most = rw (next_columns ready c U fits) h }

-- the spare degrees of the sheet in hand and of a table that keeps the limits add up to a number of 64 bits
pub spare_room : {list : List ℕ} {size : Size} {table levels scratch : List ℕ} → Ready list size table levels scratch
    → {U : Table} {spared : ℤ} → SmallEnough U → AllLevels LevelCount U → spared ≡ spare U → SFits w64 (size.spare +ℤ spared)
spare_room ready small within put_in = rw (ready.spare_is, put_in) (spares_fit _ _ ready.small ready.sound.levels_within small within)
