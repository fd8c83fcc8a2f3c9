-- What the code finds of a step is what the definition reads.
use mathlib.Core.Path.{◌≡◌, refl, sym, ◌∙◌, ap}
use mathlib.Core.List.{List}
use Prim.Native.Nat.{ℕ, ◌+◌, ◌<◌}
use native.Mathlib.Nat.{add-zero}
use native.Mathlib.Omega.{arith}
use lib.ListN.{length, get_or}
use Rattle.order.specs.Order.{Step, TAKE, FIELD, SUM, MERGE, SPLIT, CROSS, written_step}
use Rattle.order.specs.Reader.{value, allowed}
use Rattle.order.specs.Grammar.{between, sum_operands, read_sum, step_of, read_step}
use Rattle.order.specs.Answers.{number_of, walk_of, kind_of, stage_of}
use Rattle.order.specs.declared.Cursor.{Cursor}
use Rattle.std.specs.Prelude.{Ok}
use Rattle.order.proofs.Segment.{Segment, segment_at, number_is}
use Rattle.order.proofs.ByKind.{between_law}
use Rattle.order.proofs.StepLaw.{step_law}
use Rattle.order.proofs.Answers.{number_value, walk_value, walk_last}

-- A step's writing begins with its kind.
kind_first : (s : Step) → get_or (written_step s) 0 0 ≡ kind_of s
kind_first (TAKE i) = refl
kind_first (FIELD i) = refl
kind_first (SUM ds k) = refl
kind_first (MERGE p cs) = refl
kind_first (SPLIT c i) = refl
kind_first (CROSS ds k h) = refl

written_some : (s : Step) → 0 < length (written_step s)
written_some (TAKE i) = omega arith
written_some (FIELD i) = omega arith
written_some (SUM ds k) = omega arith
written_some (MERGE p cs) = omega arith
written_some (SPLIT c i) = omega arith
written_some (CROSS ds k h) = omega arith

-- So the number at the place of a step is its kind.
pub kind_at : {list : List ℕ} {at next : ℕ} (s : Step) → Segment list at (written_step s) next → get_or list at 0 ≡ kind_of s
kind_at {list} {at} s t = ap (λ (n : ℕ). get_or list n 0) (sym (add-zero at)) ∙ segment_at t 0 (written_some s) ∙ kind_first s

module _ (list : List ℕ) (at : ℕ) where
  -- SUM ends where its operands end, with which those of CROSS begin.
  pub sum_ends : walk_of (sum_operands list at) ≡ walk_of (read_sum list at)
  unfolding read_sum
  sum_ends = walk_last (λ s. SUM s.0 s.1) (sum_operands list at) refl

  pub stage_found : {kind : ℕ} {next end : Cursor} → number_of (allowed (between 1 6) list at) ≡ Ok (kind, next) → walk_of (step_of kind list next.at) ≡ Ok end → Ok (record { kind = kind; operands_at = next.at }, end) ≡ stage_of (at + 1) (read_step list at)
  unfolding read_step stage_of
  stage_found {kind} {next} {end} e₁ e₂ =
      let v₁ = number_value (allowed (between 1 6) list at) e₁ in
      walk_value (step_of kind list next.at) e₂ λ s v₂.
      let first = ((between_law 1 6).sound list at kind next.at v₁).1 in
      let whole : read_step list at ≡ value s end.at = rw v₁ v₂ in
      let same : kind_of s ≡ kind = sym (kind_at s (step_law.sound list at s end.at whole).1) ∙ number_is first in
      rw (whole, same, first.after)
