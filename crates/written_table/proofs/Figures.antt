-- The figures of document 02, K5 and K8, as one statement: the example 00, 00, 11, 11 with its gap, tables whose farthest pair is short, is not the first that
-- is uneven, or is as far off as another of the other sign; and the pairs of columns that are counted, for each answer.
use mathlib.Core.Path.{◌≡◌, refl}
use mathlib.Core.List.{List, [], ◌∷◌, map}
use Prim.Native.Nat.{ℕ}
use lib.IntN.{ℤ, pos, negsuc}
use Rattle.finite.specs.Sum.{sum, count}
use Rattle.finite.specs.First.{first, first_after, first_pair}
use Rattle.finite.specs.Greatest.{greatest}
use Rattle.finite.specs.Pairs.{ordinal}
use Rattle.counting.specs.Table.{table_of, shows, times}
use Rattle.counting.specs.Verdict.{deviation, column_deviation, pair_deviation, farthest, farthest_pair, columns_fault, pairs_fault, table_verdict}
use Rattle.order.specs.Reader.{allowed, numbers}
use Rattle.order.specs.Grammar.{table_body, read_ingredient}
use Rattle.order.specs.Range.{ingredient_range}
use Rattle.sheets.specs.Outcome.{table_refusal}
use Rattle.sheets.specs.Refusals.{numbered}
use Rattle.question_4.specs.Passing.{passing_of}
use Rattle.written_table.specs.WrittenTable.{read_table, table_check}
use Rattle.written_table.specs.CheckInNumbers.{check_numbers}

-- a table as it is written, the seven numbers of its answer, the gap, and the pairs of columns that are counted
pub record Figure : Type 0 where
  pub written : List ℕ
  pub answer : List ℕ
  pub gap : ℤ
  pub pairs : ℕ

abbrev pub figures : List Figure
figures =
    -- 00, 00, 11, 11: one run too many with levels 0 and 0, and all four pairs are as far off
    record { written = 1 ∷ 4 ∷ 2 ∷ 2 ∷ 2 ∷ 0 ∷ 0 ∷ 0 ∷ 0 ∷ 1 ∷ 1 ∷ 1 ∷ 1 ∷ []; answer = 5 ∷ 1 ∷ 1 ∷ 2 ∷ 0 ∷ 0 ∷ 2 ∷ []; gap = pos 4; pairs = 1 }
    -- 01, 01, 10, 10: levels 0 and 0 stand in no run; 0 and 1, as far off, stand in one too many
    ∷ record { written = 1 ∷ 4 ∷ 2 ∷ 2 ∷ 2 ∷ 0 ∷ 1 ∷ 0 ∷ 1 ∷ 1 ∷ 0 ∷ 1 ∷ 0 ∷ []; answer = 5 ∷ 1 ∷ 1 ∷ 2 ∷ 0 ∷ 0 ∷ 0 ∷ []; gap = negsuc 3; pairs = 1 }
    -- 00, 00, 01, 12, 12, 12, 20, 21, 21: levels 0 and 0 are uneven, 1 and 2 are farther off
    ∷ record { written = 1 ∷ 9 ∷ 2 ∷ 3 ∷ 3 ∷ 0 ∷ 0 ∷ 0 ∷ 0 ∷ 0 ∷ 1 ∷ 1 ∷ 2 ∷ 1 ∷ 2 ∷ 1 ∷ 2 ∷ 2 ∷ 0 ∷ 2 ∷ 1 ∷ 2 ∷ 1 ∷ []; answer = 5 ∷ 1 ∷ 1 ∷ 2 ∷ 1 ∷ 2 ∷ 3 ∷ []; gap = pos 18; pairs = 1 }
    -- 00, 01, 10, 10: refusal 4, and no gap
    ∷ record { written = 1 ∷ 4 ∷ 2 ∷ 2 ∷ 2 ∷ 0 ∷ 0 ∷ 0 ∷ 1 ∷ 1 ∷ 0 ∷ 1 ∷ 0 ∷ []; answer = 4 ∷ 1 ∷ 2 ∷ 0 ∷ 3 ∷ 0 ∷ 0 ∷ []; gap = pos 0; pairs = 0 }
    -- 00, 01, 10, 11 passes
    ∷ record { written = 1 ∷ 4 ∷ 2 ∷ 2 ∷ 2 ∷ 0 ∷ 0 ∷ 0 ∷ 1 ∷ 1 ∷ 0 ∷ 1 ∷ 1 ∷ []; answer = 0 ∷ 0 ∷ 0 ∷ 0 ∷ 0 ∷ 0 ∷ 0 ∷ []; gap = pos 0; pairs = 1 }
    -- 000, 011, 101, 110 passes, with three pairs of columns
    ∷ record { written = 1 ∷ 4 ∷ 3 ∷ 2 ∷ 2 ∷ 2 ∷ 0 ∷ 0 ∷ 0 ∷ 0 ∷ 1 ∷ 1 ∷ 1 ∷ 0 ∷ 1 ∷ 1 ∷ 1 ∷ 0 ∷ []; answer = 0 ∷ 0 ∷ 0 ∷ 0 ∷ 0 ∷ 0 ∷ 0 ∷ []; gap = pos 0; pairs = 3 }
    -- 0, 1 passes, and has no pair of columns
    ∷ record { written = 1 ∷ 2 ∷ 1 ∷ 2 ∷ 0 ∷ 1 ∷ []; answer = 0 ∷ 0 ∷ 0 ∷ 0 ∷ 0 ∷ 0 ∷ 0 ∷ []; gap = pos 0; pairs = 0 }
    -- 000, 011, 100, 111: columns 2 and 3, the last pair of three
    ∷ record { written = 1 ∷ 4 ∷ 3 ∷ 2 ∷ 2 ∷ 2 ∷ 0 ∷ 0 ∷ 0 ∷ 0 ∷ 1 ∷ 1 ∷ 1 ∷ 0 ∷ 0 ∷ 1 ∷ 1 ∷ 1 ∷ []; answer = 5 ∷ 1 ∷ 2 ∷ 3 ∷ 0 ∷ 0 ∷ 2 ∷ []; gap = pos 4; pairs = 3 }
    -- 0000, 0111, 1001, 1110: columns 2 and 3 come after 1-2, 1-3 and 1-4
    ∷ record { written = 1 ∷ 4 ∷ 4 ∷ 2 ∷ 2 ∷ 2 ∷ 2 ∷ 0 ∷ 0 ∷ 0 ∷ 0 ∷ 0 ∷ 1 ∷ 1 ∷ 1 ∷ 1 ∷ 0 ∷ 0 ∷ 1 ∷ 1 ∷ 1 ∷ 1 ∷ 0 ∷ []; answer = 5 ∷ 1 ∷ 2 ∷ 3 ∷ 0 ∷ 0 ∷ 2 ∷ []; gap = pos 4; pairs = 4 }
    ∷ []

abbrev pub answered : Figure → Figure
answered f = record { written = f.written; answer = check_numbers (table_check f.written).passing; gap = (table_check f.written).gap; pairs = (table_check f.written).pairs }

pub check_figures : map answered figures ≡ figures
unfolding sum count first first_after first_pair greatest ordinal table_of shows times deviation column_deviation pair_deviation farthest farthest_pair columns_fault pairs_fault table_verdict allowed numbers table_body read_ingredient ingredient_range table_refusal numbered passing_of read_table table_check check_numbers
check_figures = refl
