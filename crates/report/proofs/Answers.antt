-- What is printed of a refusal.
-- Assumes nothing.
use mathlib.Core.Path.{◌≡◌}
use mathlib.Core.List.{List}
use Prim.Native.Nat.{ℕ}
use Rattle.buffers.specs.Put.{Put}
use Rattle.lines.specs.Lines.{refused_line}
use Rattle.sheets.specs.Refusals.{numbered}
use Rattle.sheets.specs.declared.answer.Refusal.{Refusal}
use Rattle.report.specs.Report.{refusal_line}

-- A refusal's line, from its numbers.
pub put_refusal_line : (why : Refusal) {numbers a b : List ℕ} {j : ℕ} → numbers ≡ numbered why → Put a 0 (refused_line numbers) b j → Put a 0 (refusal_line why) b j
unfolding refusal_line
put_refusal_line why e p = rw e at p
