-- `put_member` meets its contract: one byte for c1, and nothing for any other member.
use native.Mathlib.Omega.{arith}
use borrow.Author.Tests.{ne_eqb, eq-eqb}
use Rattle.buffers.proofs.Puts.{put_none}
use Rattle.merged_rows.specs.MergedRow.{member_place}
use Rattle.merged_rows.proofs.put_member.Goals as goal

pub returns-then-role-ne1 : goal.returns-then-role-ne1
unfolding member_place
returns-then-role-ne1 c = rw (ne_eqb _ 1 c.if-role-ne1.true) (put_none _ _ (omega arith))

pub returns : goal.returns
unfolding member_place
returns c = rw (eq-eqb _ 1 c.if-role-ne1.false) c.put_byte.ensures
