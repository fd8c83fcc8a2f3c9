-- `list_ingredients::ingredient` meets its contract: at each way out the readers that came before gave what the code found.
use mathlib.Core.Path.{◌≡◌, sym, ◌∙◌}
use native.Mathlib.Omega.{arith}
use Prim.Native.Nat.{◌+◌}
use Rattle.order.specs.Grammar.{read_ingredient}
use Rattle.order.specs.Answers.{spot_of}
use Rattle.order.proofs.Answers.{passed_on, number_go, number_stop}
use Rattle.order.proofs.ByKind.{between_read}
use Rattle.list_ingredients.proofs.ingredient.Goals as goal

pub kind_body-requires : goal.kind_body-requires
kind_body-requires c =
    let kind = between_read _ _ _ _ (sym c.number.ensures ∙ c.in_ok-kind.was) in
    let rows = between_read _ _ _ _ (rw c.most_rows.ensures at (sym c.number-2.ensures ∙ c.in_ok-rows.was)) in
    let columns = between_read _ _ _ _ (sym c.number-3.ensures ∙ c.in_ok-columns.was) in
    ((kind.0.1, kind.0.0), (rows.0.1, columns.0.1))

pub returns-in_err-kind : goal.returns-in_err-kind
unfolding read_ingredient spot_of
returns-in_err-kind c =
    passed_on c.from_residual.ensures.1 (number_stop (spot_of (c.args.c.at + 3)) _ _ (sym c.number.ensures ∙ c.in_err-kind.was))

pub returns-in_err-rows : goal.returns-in_err-rows
unfolding read_ingredient spot_of
returns-in_err-rows c =
    let f = spot_of (c.args.c.at + 3) in
    let no_rows = rw c.most_rows.ensures at (sym c.number-2.ensures ∙ c.in_err-rows.was) in
    passed_on c.from_residual-in_err-rows.ensures.1
    (number_go f _ _ (sym c.number.ensures ∙ c.in_ok-kind.was) (number_stop f _ _ no_rows))

pub returns-in_err-columns : goal.returns-in_err-columns
unfolding read_ingredient spot_of
returns-in_err-columns c =
    let f = spot_of (c.args.c.at + 3) in
    let rows_read = rw c.most_rows.ensures at (sym c.number-2.ensures ∙ c.in_ok-rows.was) in
    passed_on c.from_residual-in_err-columns.ensures.1
    (number_go f _ _ (sym c.number.ensures ∙ c.in_ok-kind.was)
    (number_go f _ _ rows_read (number_stop f _ _ (sym c.number-3.ensures ∙ c.in_err-columns.was))))

pub returns : goal.returns
unfolding read_ingredient spot_of
returns c =
    let f = spot_of (c.args.c.at + 3) in
    let kind_read = sym c.number.ensures ∙ c.in_ok-kind.was in
    let rows_read = rw c.most_rows.ensures at (sym c.number-2.ensures ∙ c.in_ok-rows.was) in
    let columns_read = sym c.number-3.ensures ∙ c.in_ok-columns.was in
    let kind = between_read _ _ _ _ kind_read in
    let rows = between_read _ _ _ _ rows_read in
    let columns = between_read _ _ _ _ columns_read in
    let place_of_body : c.in_ok-columns.from.at ≡ c.args.c.at + 3 = omega (arith, kind.1, rows.1, columns.1) in
    number_go f _ _ kind_read
    (number_go f _ _ rows_read (number_go f _ _ columns_read (rw (← place_of_body) c.kind_body.ensures)))
