-- `put_check` meets its contract: the first line is put into the front of the buffer, and those of the gap and of the pairs after it.
-- Assumes nothing.
use native.Mathlib.Nat.{le_of_eq}
use mir.Facts.{to_z-of_z}
use mir.Syntax.{w64}
use Rattle.check_report.proofs.Fronts.{front_length, gap_room, pairs_room, check_put}
use borrow.Author.Rules.{sfits_of}
use Rattle.check_report.proofs.put_check.Goals as goal

pub slice_bounds-put_passing-end-2 : goal.slice_bounds-put_passing-end-2
slice_bounds-put_passing-end-2 c = front_length c.args.buf.now c.requires

pub put_passing-after_passing-requires : goal.put_passing-after_passing-requires
put_passing-after_passing-requires c = le_of_eq (front_length c.args.buf.now c.requires)

pub put_gap-after_gap-requires : goal.put_gap-after_gap-requires
put_gap-after_gap-requires c =
    gap_room c.args.buf.now c.requires c.args.check c.put_passing-after_passing.ensures

pub put_pairs-requires : goal.put_pairs-requires
put_pairs-requires c =
    let word = sfits_of c.struct_told-1.given.1.0.1 in
    pairs_room c.args.buf.now c.requires c.args.check c.put_passing-after_passing.ensures word (to_z-of_z {w = w64} word) c.put_gap-after_gap.ensures

pub returns : goal.returns
returns c =
    let word = sfits_of c.struct_told-1.given.1.0.1 in
    check_put c.args.buf.now c.requires c.args.check c.put_passing-after_passing.ensures word (to_z-of_z {w = w64} word) c.put_gap-after_gap.ensures
    c.put_pairs.ensures
