-- The outcome of a list is filled exactly where the conditions of document 01 hold, and then its table is an orthogonal array of strength two within the
-- limits. The order crate's theorems say when a list reads as an order and when its entries are in range.
-- Assumes nothing.
use mathlib.Core.Path.{◌≡◌, refl, sym, ◌∙◌, ap, subst}
use mathlib.Core.Logic.{◌↔◌, ◌≢◌}
use mathlib.Core.List.{List}
use mathlib.Core.Option.{Option, none, some}
use Prim.Native.Nat.{ℕ}
use Rattle.std.specs.Prelude.{Err}
use Rattle.counting.specs.Table.{Table}
use Rattle.order.specs.Order.{Order, All}
use Rattle.order.specs.Reader.{Parsed, value, refused as unread}
use Rattle.order.specs.Grammar.{read_order, Reads}
use Rattle.order.specs.Range.{range_of}
use Rattle.order.specs.declared.RangeFault.TheVariants.{Unread}
use Rattle.order.proofs.OrderLaw.{reads_iff}
use Rattle.order.proofs.InRange.{range_iff}
use Rattle.step_tables.specs.Sheet.{Sound, SmallEnough}
use Rattle.sheets.specs.Steps.{Outcome, filled, all_steps}
use Rattle.sheets.specs.Outcome.{range_refusal, ingredients_refusal, unless, read_outcome, outcome}
use Rattle.sheets.specs.Fillable.{Fillable, sheets, ordered_table}
use Rattle.sheets.specs.declared.answer.Refusal.{Refusal}
use Rattle.sheets.proofs.OrderQuestions.{reads_whole, range_asked, range_passes, ingredients_decide}
use Rattle.sheets.proofs.Carried.{refused_not_filled, unless_filled, filled_unless, all_carried, carried_all}
use Rattle.sheets.proofs.Sheets.{sheets_sound, final_sound}
use Rattle.sheets.proofs.NonEmpty.{NonEmpty, final_some}

-- what question 2 answers, where the outcome is filled: an order
order_read : (r : Parsed Order) {F : Table} → read_outcome r ≡ filled F → (o : Order) × (end : ℕ) × (r ≡ value o end)
unfolding read_outcome
order_read (unread place) e = absurd (refused_not_filled e)
order_read (value o end) e = (o, end, refl)

-- questions 3 to 8 of a list that reads
pub outcome_read : (list : List ℕ) (o : Order) → Reads list o
    → outcome list
    ≡ unless (range_refusal (range_of (read_order list))) (unless (ingredients_refusal 1 o.ingredients) (all_steps o o.steps))
unfolding outcome read_outcome
outcome_read list o reads =
    subst
    (λ r. read_outcome r ≡ unless (range_refusal (range_of r)) (unless (ingredients_refusal 1 o.ingredients) (all_steps o o.steps)))
    (sym reads)
    refl

-- question 3 is asked of it
pub asked : (list : List ℕ) (o : Order) → Reads list o → range_of (read_order list) ≢ Err Unread
unfolding range_of
asked list o reads = subst (λ r. range_of r ≢ Err Unread) (sym reads) (range_asked 1 o.ingredients)

-- From no sheet, every sheet on the way to the table that a fillable list orders is an orthogonal array of strength two, within the limits.
pub every_sheet : (list : List ℕ) (f : Fillable list)
    → All (λ S. Sound S × SmallEnough S) (sheets f.order f.order.steps f.carried)
every_sheet list f =
    sheets_sound f.order f.limits f.in_range f.passing f.order.steps f.limits.each_step f.carried

-- and so is the table
pub ordered_sound : (list : List ℕ) (f : Fillable list) → Sound (ordered_table list f) × SmallEnough (ordered_table list f)
ordered_sound list f =
    final_sound f.order f.limits f.in_range f.passing f.order.steps f.limits.each_step f.carried

-- a filled list meets the conditions, and its table is the one that it orders
pub filled_fillable : (list : List ℕ) {F : Table} → outcome list ≡ filled F → (f : Fillable list) × (ordered_table list f ≡ F)
unfolding outcome
filled_fillable list e =
    let (o, end, read) = order_read (read_order list) e in
    let reads : Reads list o = read ∙ ap (value o) (reads_whole list o end read) in
    let (in_range, second) = unless_filled _ _ (sym (outcome_read list o reads) ∙ e) in
    let (passed, third) = unless_filled _ _ second in
    let (short, limits, writes) = (reads_iff list o).0 reads in
    let (carried, same) = all_carried o o.steps third in
    let f : Fillable list =
    record {
      order = o;
      short_enough = short;
      limits = limits;
      writes = writes;
      in_range = (range_iff list o reads).0 (range_passes _ (asked list o reads) in_range);
      passing = (ingredients_decide 1 o.ingredients limits.each_ingredient).0 passed;
      carried = carried;
    }
    in
    (f, same)

-- a list that meets the conditions is filled, with the table that it orders
pub fillable_filled : (list : List ℕ) (f : Fillable list) → outcome list ≡ filled (ordered_table list f)
unfolding range_refusal
fillable_filled list f =
    let o = f.order in
    let reads = (reads_iff list o).1 (f.short_enough, f.limits, f.writes) in
    outcome_read list o reads
    ∙ filled_unless _ (ap range_refusal ((range_iff list o reads).1 f.in_range))
    ∙ filled_unless _ ((ingredients_decide 1 o.ingredients f.limits.each_ingredient).1 f.passing)
    ∙ carried_all o o.steps f.carried

-- filled exactly where document 01's conditions hold
pub filled_iff : (list : List ℕ) → ((S : Table) × (outcome list ≡ filled S)) ↔ Fillable list
filled_iff list = (λ p. (filled_fillable list p.1).0, λ f. (ordered_table list f, fillable_filled list f))

-- the table of a filled outcome is an orthogonal array of strength two, within the limits
pub filled_sound : (list : List ℕ) {S : Table} → outcome list ≡ filled S → Sound S × SmallEnough S
filled_sound list e =
    let (f, same) = filled_fillable list e in
    subst (λ S. Sound S × SmallEnough S) same (ordered_sound list f)

-- and has a run and a column
pub filled_some : (list : List ℕ) {S : Table} → outcome list ≡ filled S → NonEmpty S
filled_some list e =
    let (f, same) = filled_fillable list e in
    subst NonEmpty same (final_some f.order f.limits f.order.steps f.limits.each_step f.carried)
