-- `summed_run::put_sums` meets its contract: in a field the level's row of sums is looked up, and every other p is modulo p.
use mathlib.Core.Path.{◌≡◌, sym, ◌∙◌, subst}
use mathlib.Core.List.{List, map}
use Prim.Native.Nat.{ℕ, ◌+◌, ◌*◌, ◌≤◌, ◌<◌, zero-le}
use native.Mathlib.Nat.{lt_of_le_of_lt}
use native.Mathlib.Omega.{arith}
use lib.Dec.{T}
use lib.ListN.{length, get_or, length-map}
use lib.Seq.{ext_get_or}
use Rattle.finite.specs.Lists.{AllBelow}
use Rattle.finite.proofs.Lists.{get_d_map}
use Rattle.buffers.specs.Put.{Put}
use Rattle.galois.specs.Levels.{over_field}
use Rattle.galois.proofs.Levels.{sum_modulo}
use Rattle.sum_bytes.proofs.Sums.{part_same}
use Rattle.sum_tables.proofs.Tables.{row_within, row_has}
use Rattle.summed_run.proofs.put_sums.Goals as goal

-- what is put for each number of a list by one function is put by another that agrees with it there
put_each : (f g : ℕ → ℕ) (xs : List ℕ) {a b : List ℕ} {i j : ℕ} → ((k : ℕ) → k < length xs → f (get_or xs k 0) ≡ g (get_or xs k 0))
    → Put a i (map f xs) b j → Put a i (map g xs) b j
put_each f g xs {a} {b} {i} {j} agree put =
    subst
    (λ (bytes : List ℕ). Put a i bytes b j)
    (ext_get_or 0 (map f xs) (map g xs) (length-map xs f ∙ sym (length-map xs g)) (λ k h.
    let below : k < length xs = rw length-map at h in
    get_d_map f xs below ∙ agree k below ∙ sym (get_d_map g xs below)))
    put

pub slice_bounds-put_looked_up-end : goal.slice_bounds-put_looked_up-end
slice_bounds-put_looked_up-end c =
    let over : T (over_field c.args.p) = subst T (sym c.if-over_field.true ∙ c.over_field.ensures) tt in
    -- the level's row of sums ends within the array
    let row_end : c.args.p * 81 + c.args.level * c.args.p + c.args.p ≤ 810 = row_within _ over c.requires.level_lt_p.0 in
    omega (arith, row_end, c.requires.summable.places)

pub returns-then-over_field : goal.returns-then-over_field
unfolding AllBelow
returns-then-over_field c =
    let over : T (over_field c.args.p) =
    subst T (sym c.if-over_field.true ∙ c.over_field.ensures) tt
    in
    put_each _ _ c.args.row.now
    (λ k h.
    row_has
    _
    _
    _
    (c.requires.summable.there over (lt_of_le_of_lt zero-le h))
    c.requires.level_lt_p.0
    (c.requires.level_lt_p.1 k h))
    (rw part_same at c.put_looked_up.ensures)

pub returns-else-over_field : goal.returns-else-over_field
returns-else-over_field c =
    put_each _ _ c.args.row.now
    (λ k h. sym (sum_modulo _ _ _ (sym c.over_field.ensures ∙ c.if-over_field.false)))
    c.put_modulo_sums.ensures
