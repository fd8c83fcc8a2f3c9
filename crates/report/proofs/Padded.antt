-- What is printed of an answer is what is printed of its table, whatever stands after the table in its buffers.
-- Assumes nothing.
use mathlib.Core.Path.{◌≡◌, refl, ◌∙◌, ap, ap₂}
use mathlib.Core.List.{List, [], ◌∷◌, ◌++◌}
use Prim.Native.Nat.{ℕ, zero, suc, ◌*◌, ◌≤◌}
use lib.IntN.{ℤ}
use native.Mathlib.Nat.{suc-mul}
use native.Mathlib.Omega.{arith}
use lib.ListN.{length, take, drop, length-drop}
use lib.Seq.{take_at}
use Rattle.rows.specs.Rows.{line}
use Rattle.lines.specs.Lines.{header, run_lines, printed}
use Rattle.sheets.specs.declared.answer.Answer.TheVariants.{Filled}
use Rattle.report.specs.Report.{answer_printed}

take_front : (m : ℕ) (xs rest : List ℕ) → m ≤ length xs → take m (xs ++ rest) ≡ take m xs
take_front zero xs rest h = refl
take_front (suc m) [] rest h = absurd (omega arith)
take_front (suc m) (x ∷ xs) rest h = ap (λ (l : List ℕ). x ∷ l) (take_front m xs rest (omega arith))

drop_front : (m : ℕ) (xs rest : List ℕ) → m ≤ length xs → drop m (xs ++ rest) ≡ drop m xs ++ rest
drop_front zero xs rest h = refl
drop_front (suc m) [] rest h = absurd (omega arith)
drop_front (suc m) (x ∷ xs) rest h = drop_front m xs rest (omega arith)

runs_front : (runs m : ℕ) (cells rest : List ℕ) → length cells ≡ runs * m → run_lines runs m (cells ++ rest) ≡ run_lines runs m cells
runs_front zero m cells rest h = refl
runs_front (suc runs) m cells rest h =
    let room : m ≤ length cells = omega (arith, suc-mul runs m) in
    ap₂ (λ (u v : List ℕ). line u ++ v) (take_front m cells rest room)
    (ap (run_lines runs m) (drop_front m cells rest room)
    ∙ runs_front runs m (drop m cells) rest (omega (arith, length-drop m cells, suc-mul runs m)))

pub filled_printed : (runs : ℕ) (spare : ℤ) (levels cells after_levels after_cells : List ℕ) → length cells ≡ runs * length levels
    → answer_printed (Filled runs (length levels) spare) (levels ++ after_levels) (cells ++ after_cells) ≡ printed runs spare levels cells
unfolding answer_printed printed
filled_printed runs spare levels cells after_levels after_cells whole =
    ap (λ (l : List ℕ). printed runs spare l (cells ++ after_cells)) (take_at levels after_levels (length levels) refl)
    ∙ ap (λ (l : List ℕ). header runs (length levels) spare ++ line levels ++ l) (runs_front runs (length levels) cells after_cells whole)
