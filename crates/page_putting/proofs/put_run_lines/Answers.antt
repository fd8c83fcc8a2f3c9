-- `page_putting::put_run_lines` meets its contract. The invariant: the first `k` lines are put, up to `place`.
use mathlib.Core.Path.{◌≡◌}
use Prim.Native.Nat.{◌+◌}
use native.Mathlib.Omega.{arith}
use Rattle.buffers.proofs.Puts.{put_length}
use Rattle.pieces.proofs.Pieces.{pieces_next}
use Rattle.page_putting.proofs.Parts.{part_line_length, lines_none}
use Rattle.page_putting.proofs.put_run_lines.Goals as goal

pub loop-k-init : goal.loop-k-init
loop-k-init c = (omega arith, lines_none _ _ _ (omega arith))

pub overflow_add-part : goal.overflow_add-part
overflow_add-part c = omega (arith, c.requires.part_in.start_most)

pub put_run_or_blank-place-requires-clause-part_in : goal.put_run_or_blank-place-requires-clause-part_in
put_run_or_blank-place-requires-clause-part_in c = c.requires.part_in

pub put_run_or_blank-place-requires-clause-at_in_bounds : goal.put_run_or_blank-place-requires-clause-at_in_bounds
put_run_or_blank-place-requires-clause-at_in_bounds c = omega (arith, put_length c.loop-k.invariant.1, c.requires.at_in_bounds)

pub loop-k-preserved : goal.loop-k-preserved
loop-k-preserved c =
    let put = c.put_run_or_blank-place.ensures in (
      omega (arith, put.ends, part_line_length c.requires.part_in (c.args.part.run + c.loop-k.k)),
      pieces_next _ c.loop-k.invariant.1 put,
    )

pub shape_of-buf : goal.shape_of-buf
shape_of-buf c = put_length c.loop-k.invariant.1

pub returns : goal.returns
returns c =
    let all : c.loop-k.k ≡ 58 = omega arith in rw all at c.loop-k.invariant.1
