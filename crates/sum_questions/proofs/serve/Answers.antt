-- `sum_questions::serve` meets its contract. The invariant: the first `i` matrices fit together and are entered into the arrays.
use native.Mathlib.Omega.{arith}
use Rattle.layout.proofs.Operands.{list_short}
use Rattle.sum_bytes.proofs.Serving.{place_stands, so_far_none, so_far_next, so_far_all, rows_differ, p_again}
use Rattle.sum_questions.proofs.serve.Goals as goal

pub loop-d-init : goal.loop-d-init
loop-d-init c =
    so_far_none _ _ _ c.requires.entries_value.0 c.requires.entries_value.1

pub returns-then-named-rows-clause-value : goal.returns-then-named-rows-clause-value
returns-then-named-rows-clause-value c = rows_differ c.loop-d.invariant c.loop-d-test.true c.matrix_named-named.ensures c.if-named-rows.true

pub bounds-widths-p : goal.bounds-widths-p
bounds-widths-p c =
    let stands = place_stands _ c.requires.readable _ _ c.matrix_named-named.ensures (omega (arith, c.if-named-rows.false, c.requires.rows_nonzero)) in
    omega (arith, stands.modulus_limits.1, c.loop-d.invariant.serves.stand.widths_full)

pub returns-then-widths-p-ne0-clause-value : goal.returns-then-widths-p-ne0-clause-value
returns-then-widths-p-ne0-clause-value c = p_again c.loop-d.invariant c.loop-d-test.true c.matrix_named-named.ensures c.if-widths-p-ne0.true

pub overflow_cast-entries : goal.overflow_cast-entries
overflow_cast-entries c =
    let stands = place_stands _ c.requires.readable _ _ c.matrix_named-named.ensures (omega (arith, c.if-named-rows.false, c.requires.rows_nonzero)) in
    omega (arith, stands.entries_within, list_short c.requires.readable)

pub offset_bounds-entries-p : goal.offset_bounds-entries-p
offset_bounds-entries-p c =
    let stands = place_stands _ c.requires.readable _ _ c.matrix_named-named.ensures (omega (arith, c.if-named-rows.false, c.requires.rows_nonzero)) in
    omega (arith, stands.modulus_limits.1)

pub bounds-entries-p : goal.bounds-entries-p
bounds-entries-p c =
    let stands = place_stands _ c.requires.readable _ _ c.matrix_named-named.ensures (omega (arith, c.if-named-rows.false, c.requires.rows_nonzero)) in
    omega (arith, stands.modulus_limits.1, c.loop-d.invariant.serves.stand.entries_full)

pub overflow_cast-widths : goal.overflow_cast-widths
overflow_cast-widths c =
    let stands = place_stands _ c.requires.readable _ _ c.matrix_named-named.ensures (omega (arith, c.if-named-rows.false, c.requires.rows_nonzero)) in
    omega (arith, stands.columns_limits.1)

pub bounds-widths-p-in-loop-d : goal.bounds-widths-p-in-loop-d
bounds-widths-p-in-loop-d c =
    let stands = place_stands _ c.requires.readable _ _ c.matrix_named-named.ensures (omega (arith, c.if-named-rows.false, c.requires.rows_nonzero)) in
    omega (arith, stands.modulus_limits.1, c.loop-d.invariant.serves.stand.widths_full)

pub loop-d-preserved : goal.loop-d-preserved
loop-d-preserved c =
    let stands = place_stands _ c.requires.readable _ _ c.matrix_named-named.ensures (omega (arith, c.if-named-rows.false, c.requires.rows_nonzero)) in
    so_far_next c.loop-d.invariant c.loop-d-test.true c.matrix_named-named.ensures
    c.if-named-rows.false c.if-widths-p-ne0.false stands

pub returns-clause-value : goal.returns-clause-value
returns-clause-value c =
    let done = so_far_all c.loop-d.invariant c.loop-d-test.false in done.0
