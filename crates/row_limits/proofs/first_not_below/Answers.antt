-- `row_limits::first_not_below` meets its contract: it hands over so many times the same limit.
use mathlib.Core.Path.{◌∙◌, ap}
use Rattle.row_limits.specs.High.{high_in_rows}
use Rattle.row_limits.proofs.Rows.{limits_one}
use Rattle.row_limits.proofs.first_not_below.Goals as goal

pub returns : goal.returns
returns c =
    let a = c.args in
    let same = limits_one a.columns 768 a.limit c.requires.0.0 in
    c.first_high.ensures ∙ ap (high_in_rows a.list.now a.start a.rows) same
