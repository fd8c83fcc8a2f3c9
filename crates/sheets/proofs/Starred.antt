-- The starred examples of document 01, the one that it prints and 02's figures, as cases of one table: what the definitions give is what they say.
-- Computed.
-- Assumes nothing.
use mathlib.Core.Path.{◌≡◌, refl}
use mathlib.Core.List.{List, [], ◌∷◌, map, flat_map}
use mathlib.Core.Option.{bind}
use Prim.Native.Nat.{ℕ, ◌-◌}
use Rattle.finite.specs.Sum.{sum, count, every}
use Rattle.finite.specs.First.{first, first_after, first_pair}
use Rattle.finite.specs.Greatest.{greatest}
use Rattle.finite.specs.Digits.{digits, numeral}
use Rattle.finite.specs.Lists.{from}
use Rattle.galois.specs.Arithmetic.{field_sum, field_product}
use Rattle.galois.specs.Combination.{combination}
use Rattle.galois.specs.Levels.{difference_in, over_field, level_difference}
use Rattle.counting.specs.Table.{Table, columns, table_of, shows, times}
use Rattle.counting.specs.Matrix.{matrix_of, row_difference, differences}
use Rattle.counting.specs.Generator.{generator_of, width, factor_columns, columns_of}
use Rattle.counting.specs.Verdict.{deviation, column_deviation, pair_deviation, farthest, farthest_pair, columns_fault, pairs_fault, table_verdict, difference_deviation, matrix_verdict}
use Rattle.counting.specs.GeneratorVerdict.{combines_to_zero, dependence, generator_fault, generator_verdict}
use Rattle.house.specs.House.{house_table, house_of, house101}
use Rattle.order.specs.Reader.{allowed, numbers}
use Rattle.order.specs.Grammar.{table_body, matrix_body, generator_body, read_ingredient, read_naming, read_sum, read_merge, read_split, read_cross, read_step, read_parts, read_order}
use Rattle.order.specs.Range.{ingredient_range, range_of}
use Rattle.step_tables.specs.Sheet.{from_sources, take_step, small_enough}
use Rattle.step_tables.specs.Field.{column_elements, values, field_table}
use Rattle.step_tables.specs.Sum.{level_sum, rows_of, serving, adjoined_table, summed_with, sum_place, sum_sources, sum_levels, sum_entry, sum_value, sum_step, sum_fits}
use Rattle.step_tables.specs.Cross.{cross_sources, cross_levels, cross_value, cross_step, cross_fits, value_times, value_fault_at, matrix_fault, served_fault, serving_fault}
use Rattle.step_tables.specs.Merge.{merge_place, merge_sources, merge_levels, merged_level, merge_value, merge_step, merge_fits, member_sum, member_fault_at, member_fault}
use Rattle.sheets.specs.Refusals.{numbered}
use Rattle.sheets.specs.Ingredients.{as_table, as_matrix, as_generator, listed, table_named, matrix_named, generator_named, matrices_named, adjoined_named}
use Rattle.sheets.specs.Steps.{Outcome, filled, refused, proceed, provided, field_step, opening, operation, fits, value_refusal, uneven_matrix, wrong_member, applied, sized, after_sums, operate, first_step, later_step, later_steps, all_steps}
use Rattle.sheets.specs.Outcome.{range_refusal, table_refusal, matrix_refusal, generator_refusal, ingredient_refusal, ingredients_refusal, unless, read_outcome, outcome}

-- what is asked: a product in the field of s elements; what a list comes to; the last run of the table that it orders
pub data Case : Type 0 where
  product : (s a b : ℕ) → Case
  order : List ℕ → Case
  last_run : List ℕ → Case

-- what 01 answers: a number; a refusal's number and details; level counts and runs; a run
pub data Expected : Type 0 where
  number : ℕ → Expected
  refusal : List ℕ → Expected
  run_table : List ℕ → List (List ℕ) → Expected
  run : List ℕ → Expected

abbrev run_of : Table → ℕ → List ℕ
run_of S r = map (S.cell r) (from 0 (columns S))

abbrev whole : Outcome → Expected
whole (filled S) = run_table S.levels (map (run_of S) (from 0 S.runs))
whole (refused why) = refusal (numbered why)

abbrev last : Outcome → Expected
last (filled S) = run (run_of S (S.runs - 1))
last (refused why) = refusal (numbered why)

abbrev pub computed : Case → Expected
computed (product s a b) = number (field_product s a b)
computed (order list) = whole (outcome list)
computed (last_run list) = last (outcome list)

pub record Example : Type 0 where
  pub asked : Case
  pub expected : Expected

infix 10 ◌gives◌
abbrev ◌gives◌ : Case → Expected → Example
asked gives expected = record { asked = asked; expected = expected }

abbrev pub examples : List Example
examples =
    -- GF(4) 2 × 3 = 1; GF(8) 4 × 4 = 6; GF(9) 4 × 4 = 6
    (product 4 2 3 gives number 1)
    ∷ (product 8 4 4 gives number 6)
    ∷ (product 9 4 4 gives number 6)
    -- nine runs of four 3-level columns
    ∷ (order (2 ∷ 1 ∷ 3 ∷ 1 ∷ 3 ∷ 0 ∷ 1 ∷ 2 ∷ 2 ∷ 3 ∷ 3 ∷ 3 ∷ 0 ∷ 0 ∷ 0 ∷ 0 ∷ 1 ∷ 2 ∷ 0 ∷ 2 ∷ 1 ∷ 2 ∷ 1 ∷ 1 ∷ 3 ∷ 1 ∷ 2 ∷ 1 ∷ [])
    gives run_table (3 ∷ 3 ∷ 3 ∷ 3 ∷ [])
    ((0 ∷ 0 ∷ 0 ∷ 0 ∷ [])
    ∷ (0 ∷ 1 ∷ 2 ∷ 1 ∷ [])
    ∷ (0 ∷ 2 ∷ 1 ∷ 2 ∷ [])
    ∷ (1 ∷ 1 ∷ 1 ∷ 0 ∷ [])
    ∷ (1 ∷ 2 ∷ 0 ∷ 1 ∷ [])
    ∷ (1 ∷ 0 ∷ 2 ∷ 2 ∷ [])
    ∷ (2 ∷ 2 ∷ 2 ∷ 0 ∷ [])
    ∷ (2 ∷ 0 ∷ 1 ∷ 1 ∷ [])
    ∷ (2 ∷ 1 ∷ 0 ∷ 2 ∷ [])
    ∷ []))
    -- TAKE of the table 00, 01, 10, 10: its second column is uneven
    ∷ (order (1 ∷ 1 ∷ 4 ∷ 2 ∷ 2 ∷ 2 ∷ 0 ∷ 0 ∷ 0 ∷ 1 ∷ 1 ∷ 0 ∷ 1 ∷ 0 ∷ 1 ∷ 1 ∷ 1 ∷ [])
    gives refusal (4 ∷ 1 ∷ 2 ∷ 0 ∷ 3 ∷ 0 ∷ 0 ∷ []))
    -- TAKE of the table 00, 00, 11, 11: its columns are even, their pairs are not
    ∷ (order (1 ∷ 1 ∷ 4 ∷ 2 ∷ 2 ∷ 2 ∷ 0 ∷ 0 ∷ 0 ∷ 0 ∷ 1 ∷ 1 ∷ 1 ∷ 1 ∷ 1 ∷ 1 ∷ 1 ∷ [])
    gives refusal (5 ∷ 1 ∷ 1 ∷ 2 ∷ 0 ∷ 0 ∷ 2 ∷ []))
    -- FIELD, s = 2, t = 2, factors (1,0), (0,1), (1,1): the runs of table 101
    ∷ (order (1 ∷ 3 ∷ 2 ∷ 3 ∷ 2 ∷ 1 ∷ 1 ∷ 1 ∷ 1 ∷ 0 ∷ 1 ∷ 0 ∷ 1 ∷ 1 ∷ 1 ∷ 2 ∷ 1 ∷ [])
    gives run_table house101.levels (map (run_of house101) (from 0 house101.runs)))
    -- the same with factors (1,0), (1,0)
    ∷ (order (1 ∷ 3 ∷ 2 ∷ 2 ∷ 2 ∷ 1 ∷ 1 ∷ 1 ∷ 1 ∷ 0 ∷ 0 ∷ 1 ∷ 2 ∷ 1 ∷ [])
    gives refusal (7 ∷ 1 ∷ 1 ∷ 2 ∷ 3 ∷ 0 ∷ 0 ∷ []))
    -- FIELD, s = 4, t = 2, factors (1,0), (0,1), (1,1), (1,2), (1,3)
    ∷ (last_run (1 ∷ 3 ∷ 2 ∷ 5 ∷ 4 ∷ 1 ∷ 1 ∷ 1 ∷ 1 ∷ 1 ∷ 1 ∷ 0 ∷ 1 ∷ 1 ∷ 1 ∷ 0 ∷ 1 ∷ 1 ∷ 2 ∷ 3 ∷ 1 ∷ 2 ∷ 1 ∷ [])
    gives run (3 ∷ 3 ∷ 0 ∷ 2 ∷ 1 ∷ []))
    -- TAKE 101, MERGE 2 on 1 1 2
    ∷ (order (0 ∷ 2 ∷ 1 ∷ 101 ∷ 4 ∷ 2 ∷ 1 ∷ 1 ∷ 2 ∷ []) gives refusal (9 ∷ 2 ∷ 0 ∷ 0 ∷ 0 ∷ 0 ∷ 0 ∷ []))
    -- the printed example: TAKE 101, MERGE 2 on 1 2 3
    ∷ (order (0 ∷ 2 ∷ 1 ∷ 101 ∷ 4 ∷ 2 ∷ 1 ∷ 2 ∷ 3 ∷ []) gives run_table (4 ∷ []) ((0 ∷ []) ∷ (1 ∷ []) ∷ (2 ∷ []) ∷ (3 ∷ []) ∷ []))
    -- 02, K2: rows 0000, 0123, 0231, 0312 with p = 4 pass; the last run adds 3 to 0312 in GF(4)
    ∷ (last_run (2 ∷ 1 ∷ 4 ∷ 1 ∷ 4 ∷ 0 ∷ 1 ∷ 2 ∷ 3 ∷ 2 ∷ 4 ∷ 4 ∷ 4 ∷ 0 ∷ 0 ∷ 0 ∷ 0 ∷ 0 ∷ 1 ∷ 2 ∷ 3 ∷ 0 ∷ 2 ∷ 3 ∷ 1 ∷ 0 ∷ 3 ∷ 1 ∷ 2 ∷ 2 ∷ 1 ∷ 1 ∷ 3 ∷ 1 ∷ 2 ∷ 1 ∷ [])
    gives run (3 ∷ 0 ∷ 2 ∷ 1 ∷ 3 ∷ []))
    -- rows 00, 01, .., 07, 07 with p = 9: in GF(9) 0 - 8 is 4
    ∷ (order (1 ∷ 2 ∷ 9 ∷ 2 ∷ 9 ∷ 0 ∷ 0 ∷ 0 ∷ 1 ∷ 0 ∷ 2 ∷ 0 ∷ 3 ∷ 0 ∷ 4 ∷ 0 ∷ 5 ∷ 0 ∷ 6 ∷ 0 ∷ 7 ∷ 0 ∷ 7 ∷ 1 ∷ 1 ∷ 101 ∷ [])
    gives refusal (6 ∷ 1 ∷ 1 ∷ 2 ∷ 4 ∷ 0 ∷ 0 ∷ []))
    -- 02, K6: the levels 0 and 1, with a matrix of the column 0 1, crossed with themselves: i + y, y and i
    ∷ (order (2 ∷ 1 ∷ 2 ∷ 1 ∷ 2 ∷ 0 ∷ 1 ∷ 2 ∷ 2 ∷ 1 ∷ 2 ∷ 0 ∷ 1 ∷ 2 ∷ 1 ∷ 1 ∷ 6 ∷ 1 ∷ 2 ∷ 1 ∷ 1 ∷ [])
    gives run_table (2 ∷ 2 ∷ 2 ∷ []) ((0 ∷ 0 ∷ 0 ∷ []) ∷ (1 ∷ 1 ∷ 0 ∷ []) ∷ (1 ∷ 0 ∷ 1 ∷ []) ∷ (0 ∷ 1 ∷ 1 ∷ []) ∷ []))
    -- the same with a matrix whose first column is 0 0
    ∷ (order (2 ∷ 1 ∷ 2 ∷ 1 ∷ 2 ∷ 0 ∷ 1 ∷ 2 ∷ 2 ∷ 2 ∷ 2 ∷ 0 ∷ 0 ∷ 0 ∷ 1 ∷ 2 ∷ 1 ∷ 1 ∷ 6 ∷ 1 ∷ 2 ∷ 1 ∷ 1 ∷ [])
    gives refusal (14 ∷ 2 ∷ 2 ∷ 1 ∷ 0 ∷ 0 ∷ 0 ∷ []))
    -- the empty list
    ∷ (order [] gives refusal (2 ∷ 0 ∷ 0 ∷ 0 ∷ 0 ∷ 0 ∷ 0 ∷ []))
    ∷ []

pub starred : map (λ (e : Example). computed e.asked) examples ≡ map (λ (e : Example). e.expected) examples
unfolding bind flat_map sum count every first first_after first_pair greatest field_sum field_product digits numeral table_of shows times matrix_of difference_in over_field level_difference row_difference differences generator_of width from factor_columns columns_of combination deviation column_deviation pair_deviation farthest farthest_pair columns_fault pairs_fault table_verdict difference_deviation matrix_verdict combines_to_zero dependence generator_fault generator_verdict house_table house_of house101 allowed numbers table_body matrix_body generator_body read_ingredient read_naming read_sum read_merge read_split read_cross read_step read_parts read_order ingredient_range range_of from_sources take_step small_enough column_elements values field_table level_sum rows_of serving adjoined_table summed_with sum_place sum_sources sum_levels sum_entry sum_value sum_step sum_fits cross_sources cross_levels cross_value cross_step cross_fits value_times value_fault_at matrix_fault served_fault serving_fault merge_place merge_sources merge_levels merged_level merge_value merge_step merge_fits member_sum member_fault_at member_fault numbered as_table as_matrix as_generator listed table_named matrix_named generator_named matrices_named adjoined_named proceed provided field_step opening operation fits value_refusal uneven_matrix wrong_member applied sized after_sums operate first_step later_step later_steps all_steps range_refusal table_refusal matrix_refusal generator_refusal ingredient_refusal ingredients_refusal unless read_outcome outcome
starred = refl
