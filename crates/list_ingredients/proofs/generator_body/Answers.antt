-- `list_ingredients::generator_body` meets its contract: at each way out the readers that came before gave what the code found.
use mathlib.Core.Path.{◌≡◌, sym, ◌∙◌}
use native.Mathlib.Omega.{arith}
use Rattle.order.specs.Grammar.{generator_body}
use Rattle.order.specs.Answers.{spot_of}
use Rattle.order.proofs.Powers.{product_fits}
use Rattle.order.proofs.Answers.{passed_on, walk_stop, number_go, number_stop, total_go, total_stop}
use Rattle.order.proofs.Bodies.{field_size, row_small, generator_found}
use Rattle.list_ingredients.proofs.generator_body.Goals as goal

pub widths-requires : goal.widths-requires
widths-requires c =
    let size = field_size c.args.list.now c.args.from.at c.args.t (sym c.field_size.ensures ∙ c.in_ok-s.was) in
    (size.0, c.requires.1)

pub overflow_mul-t : goal.overflow_mul-t
overflow_mul-t c =
    let size = field_size c.args.list.now c.args.from.at c.args.t (sym c.field_size.ensures ∙ c.in_ok-s.was) in
    let small = row_small c.args.list.now c.args.n _ _ size.0.0 c.requires.1 (sym c.widths.ensures ∙ c.in_ok-width.was) in
    record { fits = product_fits (omega arith) small }

pub returns-in_err-s : goal.returns-in_err-s
unfolding generator_body spot_of
returns-in_err-s c =
    passed_on c.from_residual.ensures.1 (number_stop (spot_of c.args.from.at) _ _ (sym c.field_size.ensures ∙ c.in_err-s.was))

pub returns-in_err-width : goal.returns-in_err-width
unfolding generator_body spot_of
returns-in_err-width c =
    let f = spot_of c.args.from.at in
    passed_on c.from_residual-in_err-width.ensures.1
    (number_go f _ _ (sym c.field_size.ensures ∙ c.in_ok-s.was) (total_stop f _ _ (sym c.widths.ensures ∙ c.in_err-width.was)))

pub returns-in_err-end : goal.returns-in_err-end
unfolding generator_body spot_of
returns-in_err-end c =
    let f = spot_of c.args.from.at in
    passed_on c.from_residual-in_err-end.ensures.1
    (number_go f _ _ (sym c.field_size.ensures ∙ c.in_ok-s.was)
    (total_go f _ _ (sym c.widths.ensures ∙ c.in_ok-width.was) λ us same v.
    walk_stop f _ _ (rw same at (sym c.skip.ensures ∙ c.in_err-end.was))))

pub returns : goal.returns
returns c =
    generator_found c.args.list.now c.args.from.at c.args.t c.args.n (sym c.field_size.ensures ∙ c.in_ok-s.was)
    (sym c.widths.ensures ∙ c.in_ok-width.was) (sym c.skip.ensures ∙ c.in_ok-end.was)
