-- `page_putting::put_page` meets its contract: the line of numbers, the level counts, and the lines of the runs.
use native.Mathlib.Omega.{arith}
use Rattle.buffers.proofs.Puts.{put_length}
use Rattle.page_putting.specs.Part.{PartIn}
use Rattle.page_putting.proofs.Pages.{part_in, number_small, end_small, counts_few, first_end, second_end, page_put}
use Rattle.page_putting.proofs.put_page.Goals as goal

pub page_part-part-requires : goal.page_part-part-requires
page_part-part-requires c =
    let h = c.requires in
    (h.well_formed.runs_some, h.well_formed.runs_most, h.well_formed.columns_most, h.le_number.0, h.le_number.1)

pub put_number_line-after_numbers-requires : goal.put_number_line-after_numbers-requires
put_number_line-after_numbers-requires c =
    let there : let a = c.args in PartIn a.runs a.columns a.table.now c.page_part-part.result =
    let h = c.requires in part_in h.well_formed h.le_number.0 h.le_number.1 c.page_part-part.ensures
    in
    let h = c.requires in
    let is = c.page_part-part.ensures in
    let part = there in
    (number_small h.well_formed h.le_number.0 h.le_number.1 is, part.first_before, part.few, end_small h.well_formed h.le_number.0 h.le_number.1 is, omega (arith, h.le_number.2))

pub slice_bounds-put_count_line-count : goal.slice_bounds-put_count_line-count
slice_bounds-put_count_line-count c =
    let there : let a = c.args in PartIn a.runs a.columns a.table.now c.page_part-part.result =
    let h = c.requires in part_in h.well_formed h.le_number.0 h.le_number.1 c.page_part-part.ensures
    in
    there.first_before

pub slice_bounds-put_count_line-start : goal.slice_bounds-put_count_line-start
slice_bounds-put_count_line-start c =
    let there : let a = c.args in PartIn a.runs a.columns a.table.now c.page_part-part.result =
    let h = c.requires in part_in h.well_formed h.le_number.0 h.le_number.1 c.page_part-part.ensures
    in
    omega (arith, there.first_before)

pub slice_bounds-put_count_line-end : goal.slice_bounds-put_count_line-end
slice_bounds-put_count_line-end c =
    let there : let a = c.args in PartIn a.runs a.columns a.table.now c.page_part-part.result =
    let h = c.requires in part_in h.well_formed h.le_number.0 h.le_number.1 c.page_part-part.ensures
    in
    omega (arith, there.end_within, c.requires.well_formed.counts_there)

pub put_count_line-after_counts-requires : goal.put_count_line-after_counts-requires
put_count_line-after_counts-requires c =
    let h = c.requires in
    let is = c.page_part-part.ensures in
    let put = c.put_number_line-after_numbers.ensures in
    (counts_few h.well_formed h.le_number.0 h.le_number.1 is, omega (arith, first_end h.well_formed h.le_number.0 h.le_number.1 is put, put_length put, h.le_number.2))

pub put_run_lines-requires-clause-part_in : goal.put_run_lines-requires-clause-part_in
put_run_lines-requires-clause-part_in c =
    let there : let a = c.args in PartIn a.runs a.columns a.table.now c.page_part-part.result =
    let h = c.requires in part_in h.well_formed h.le_number.0 h.le_number.1 c.page_part-part.ensures
    in
    let h = c.requires in
    let is = c.page_part-part.ensures in
    let first = c.put_number_line-after_numbers.ensures in
    let second = c.put_count_line-after_counts.ensures in there

pub put_run_lines-requires-clause-at_in_bounds : goal.put_run_lines-requires-clause-at_in_bounds
put_run_lines-requires-clause-at_in_bounds c =
    let there : let a = c.args in PartIn a.runs a.columns a.table.now c.page_part-part.result =
    let h = c.requires in part_in h.well_formed h.le_number.0 h.le_number.1 c.page_part-part.ensures
    in
    let h = c.requires in
    let is = c.page_part-part.ensures in
    let first = c.put_number_line-after_numbers.ensures in
    let second = c.put_count_line-after_counts.ensures in omega (arith, second_end h.well_formed h.le_number.0 h.le_number.1 is first second, put_length first, put_length second, h.le_number.2)

pub returns : goal.returns
returns c =
    let h = c.requires in
    page_put h.well_formed h.le_number.0 h.le_number.1 c.page_part-part.ensures c.put_number_line-after_numbers.ensures c.put_count_line-after_counts.ensures
    c.put_run_lines.ensures
