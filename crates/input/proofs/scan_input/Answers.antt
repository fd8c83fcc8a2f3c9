use mathlib.Core.Path.{sym, ◌∙◌, ap}
use Rattle.input.specs.Input.{Next}
use Rattle.input.proofs.Scanning.{underway_read, input_answered, input_finished}
use Rattle.input.proofs.scan_input.Goals as goal

pub returns-in-Break : goal.returns-in-Break
returns-in-Break g c =
    let told = ap (λ (n : Next). (n, c.after_read.new.list)) (sym c.in-Break.is) ∙ c.after_read.ensures in
    input_answered c.loop.invariant c.requires _ told

pub loop-preserved : goal.loop-preserved
loop-preserved g c =
    let told = ap (λ (n : Next). (n, c.after_read.new.list)) (sym c.in-Continue.is) ∙ c.after_read.ensures in
    underway_read c.loop.invariant _ told

pub returns : goal.returns
returns g c = input_finished c.loop.invariant c.requires c.finish.ensures
