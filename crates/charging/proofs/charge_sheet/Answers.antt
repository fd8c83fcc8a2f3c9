-- `charging::charge_sheet` meets its promise: the two questions in turn, and then the sum, which nothing overflows.
use mathlib.Core.Path.{◌≡◌, sym, ◌∙◌}
use Prim.Native.Nat.{◌≤◌}
use lib.ListN.{length}
use native.Mathlib.Nat.{mul-le-mul}
use native.Mathlib.Omega.{arith}
use Rattle.given_sheet.proofs.Given.{stands_formed}
use Rattle.charges.proofs.ChargePromises.{sheet_refused, prices_refused, sheet_priced, served}
use Rattle.charging.proofs.Changes.{price_list, promised}
use Rattle.charging.proofs.charge_sheet.Goals as goal

pub returns-then-not-is_well_formed : goal.returns-then-not-is_well_formed
returns-then-not-is_well_formed c =
    promised _ _ _ _ _ _ _ c.ranges.run_price c.type_inv.prices (sheet_refused _ _ _ _ _ _ _ (sym c.is_well_formed.ensures ∙ c.if-not-is_well_formed.true))

pub returns-then-not-discount-prices : goal.returns-then-not-discount-prices
returns-then-not-discount-prices c =
    promised _ _ _ _ _ _ _ c.ranges.run_price c.type_inv.prices
    (prices_refused _ _ _ _ _ _ _ (sym c.is_well_formed.ensures ∙ c.if-not-is_well_formed.false) c.if-not-discount-prices.true)

pub overflow_mul-sum : goal.overflow_mul-sum
overflow_mul-sum c =
    let sheet = stands_formed _ _ _ _ (sym c.is_well_formed.ensures ∙ c.if-not-is_well_formed.false) in
    let low : c.args.run_price ≤ 4294967295 = omega (arith, c.ranges.run_price) in
    omega (arith, mul-le-mul sheet.runs_most low)

pub price_changes-requires : goal.price_changes-requires
price_changes-requires c =
    let sheet = stands_formed _ _ _ _ (sym c.is_well_formed.ensures ∙ c.if-not-is_well_formed.false) in
    let many : length c.args.prices.now ≡ c.args.columns = (served _ _ _ c.if-not-discount-prices.false).1 in
    rw many (sheet.runs_most, sheet.columns_most, sheet.entries_there)

pub overflow_add-sum : goal.overflow_add-sum
overflow_add-sum c =
    let sheet = stands_formed _ _ _ _ (sym c.is_well_formed.ensures ∙ c.if-not-is_well_formed.false) in
    let sum_of = price_list sheet _ c.args.prices.now _ c.ranges.run_price c.type_inv.prices c.if-not-discount-prices.false c.price_changes.ensures in
    omega (arith, sum_of.sum_fits)

pub overflow_sub-discount : goal.overflow_sub-discount
overflow_sub-discount c = (served _ _ _ c.if-not-discount-prices.false).0

pub overflow_mul-sum-2 : goal.overflow_mul-sum-2
overflow_mul-sum-2 c =
    let sheet = stands_formed _ _ _ _ (sym c.is_well_formed.ensures ∙ c.if-not-is_well_formed.false) in
    let sum_of = price_list sheet _ c.args.prices.now _ c.ranges.run_price c.type_inv.prices c.if-not-discount-prices.false c.price_changes.ensures in
    omega (arith, sum_of.fold_fits)

pub round-requires : goal.round-requires
round-requires c =
    let sheet = stands_formed _ _ _ _ (sym c.is_well_formed.ensures ∙ c.if-not-is_well_formed.false) in
    let sum_of = price_list sheet _ c.args.prices.now _ c.ranges.run_price c.type_inv.prices c.if-not-discount-prices.false c.price_changes.ensures in
    sum_of.fold_fits

pub returns : goal.returns
returns c =
    let stands = sym c.is_well_formed.ensures ∙ c.if-not-is_well_formed.false in
    let sheet = stands_formed _ _ _ _ stands in
    let sum_of = price_list sheet _ c.args.prices.now _ c.ranges.run_price c.type_inv.prices c.if-not-discount-prices.false c.price_changes.ensures in
    let a = c.args in
    let settled = sheet_priced a.runs a.columns a.levels.now a.table.now a.run_price a.prices.now a.discount stands c.if-not-discount-prices.false in
    promised a.runs a.columns a.levels.now a.table.now a.run_price a.prices.now a.discount c.ranges.run_price c.type_inv.prices
    (settled.0, c.round.ensures ∙ sum_of.charge_is ∙ settled.1)
