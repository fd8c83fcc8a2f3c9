-- `level_sum` meets its contract: the sums of a field come from its constant table, and every other p is modulo p.
-- Assumes nothing.
use mathlib.Core.Path.{sym, ◌∙◌, subst}
use lib.Dec.{T}
use Rattle.galois.proofs.Levels.{over_size, sum_over, sum_modulo}
use Rattle.group_sums.proofs.level_sum.Goals as goal

pub sum-requires : goal.sum-requires
sum-requires c =
    record {
      size = over_size _ (subst T (sym c.if-over_field.true ∙ c.over_field.ensures) tt);
      first = c.requires.0;
      second = c.requires.1;
    }

pub returns-then-over_field : goal.returns-then-over_field
returns-then-over_field c =
    c.sum.ensures ∙ sym (sum_over _ _ _ (sym c.over_field.ensures ∙ c.if-over_field.true))

pub returns-else-over_field : goal.returns-else-over_field
returns-else-over_field c =
    c.modulo_sum.ensures ∙ sym (sum_modulo _ _ _ (sym c.over_field.ensures ∙ c.if-over_field.false))
