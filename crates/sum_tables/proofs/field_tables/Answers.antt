-- `field_tables` meets its contract. The invariant: the sums of the fields before the one in hand are there.
-- Assumes nothing.
use mathlib.Core.Path.{sym, ◌∙◌, subst}
use native.Mathlib.Omega.{arith}
use lib.Dec.{T}
use Rattle.sum_tables.proofs.Tables.{tables_none, tables_without, tables_more}
use Rattle.sum_tables.proofs.field_tables.Goals.{
  then-over_field+then-widths-s-gt0,
  else-over_field,
  else-over_field-via-then-over_field+else-widths-s-gt0,
  else-over_field-via-else-over_field,
}
use Rattle.sum_tables.proofs.field_tables.Goals as goal

pub loop-s-init : goal.loop-s-init
loop-s-init c = tables_none _

pub loop-s-preserved : goal.loop-s-preserved
loop-s-preserved c =
    let l = c.loop-s in
    elim c.if-over_field.branch [
      | then-over_field+then-widths-s-gt0 w ↦
          rw w.sums-is
          (tables_more l.invariant (w.put_field_sums.auto.sums ∙ l.invariant.places) w.put_field_sums.ensures.field_sums w.put_field_sums.ensures.same_before)
      | else-over_field w ↦
          -- where nothing is put, s is no field's size or no matrix serves it
          rw w.sums-is
          (tables_without l.invariant
          (λ over some.
          elim w.else-over_field.branch [
            | else-over_field-via-then-over_field+else-widths-s-gt0 v ↦ absurd (omega (arith, v.if-widths-s-gt0.false))
            | else-over_field-via-else-over_field v ↦ subst T (sym c.over_field.ensures ∙ v.if-over_field.false) over
          ]))
    ]
