-- The example that document 01 prints, with the header of document 02, K1: the bytes of `0 2 1 101 4 2 1 2 3` go in, and the bytes of its six lines come out. Computed.
-- Assumes nothing.
use mathlib.Core.Path.{◌≡◌, refl}
use mathlib.Core.List.{List, [], ◌∷◌, map, flat_map}
use mathlib.Core.Option.{bind}
use Prim.Native.Nat.{ℕ}
use Rattle.finite.specs.First.{first}
use Rattle.finite.specs.Lists.{from}
use Rattle.counting.specs.Table.{table_of}
use Rattle.house.specs.House.{house_table, house_of, house101}
use Rattle.order.specs.Reader.{allowed}
use Rattle.order.specs.Reader as reader
use Rattle.order.specs.Grammar.{read_ingredient, read_naming, read_sum, read_merge, read_split, read_step, read_parts, read_order}
use Rattle.order.specs.Range.{ingredient_range, range_of}
use Rattle.step_tables.specs.Sheet.{from_sources, take_step, small_enough}
use Rattle.step_tables.specs.Merge.{merge_place, merge_sources, merge_levels, merged_level, merge_value, merge_step, merge_fits, member_sum, member_fault_at, member_fault}
use Rattle.spare.specs.Spare.{degrees, spare_of}
use Rattle.sheets.specs.Ingredients.{as_table, listed, table_named}
use Rattle.sheets.specs.Steps.{proceed, provided, opening, operation, fits, uneven_matrix, wrong_member, applied, sized, after_sums, operate, first_step, later_step, later_steps, all_steps}
use Rattle.sheets.specs.Outcome.{range_refusal, ingredient_refusal, ingredients_refusal, unless, read_outcome, outcome}
use Rattle.sheets.proofs.Starred.{Example, computed, examples, starred}
use Rattle.words.specs.Words.{is_gap, words, is_digit, decimal, is_number, reading}
use Rattle.decimals.specs.Decimals.{decimal_digits, signed_digits}
use Rattle.rows.specs.Rows.{line}
use Rattle.lines.specs.Lines.{header, printed}
use Rattle.report.specs.Report.{outcome_printed, output}

abbrev pub input : List ℕ
input = 48 ∷ 32 ∷ 50 ∷ 32 ∷ 49 ∷ 32 ∷ 49 ∷ 48 ∷ 49 ∷ 32 ∷ 52 ∷ 32 ∷ 50 ∷ 32 ∷ 49 ∷ 32 ∷ 50 ∷ 32 ∷ 51 ∷ []

abbrev pub lines : List ℕ
lines = 52 ∷ 32 ∷ 49 ∷ 32 ∷ 48 ∷ 10 ∷ 52 ∷ 10 ∷ 48 ∷ 10 ∷ 49 ∷ 10 ∷ 50 ∷ 10 ∷ 51 ∷ 10 ∷ []

pub printed_example : output input ≡ lines
unfolding bind flat_map first from table_of house_table house_of house101 allowed reader.numbers read_ingredient read_naming read_sum read_merge read_split read_step read_parts read_order ingredient_range range_of from_sources take_step small_enough merge_place merge_sources merge_levels merged_level merge_value merge_step merge_fits member_sum member_fault_at member_fault as_table listed table_named proceed provided opening operation fits uneven_matrix wrong_member applied sized after_sums operate first_step later_step later_steps all_steps range_refusal ingredient_refusal ingredients_refusal unless read_outcome outcome is_gap words is_digit decimal is_number reading decimal_digits signed_digits line header printed degrees spare_of outcome_printed output
printed_example = refl

-- the starred examples through the outcome, and this one as it is printed, as one statement
pub counted_examples : (map (λ (e : Example). computed e.asked) examples ≡ map (λ (e : Example). e.expected) examples) × (output input ≡ lines)
counted_examples = (starred, printed_example)
