-- The rows of the sheet that MERGE leaves.
use mathlib.Core.Path.{◌≡◌, refl, sym, ◌∙◌, ap, ap₂}
use mathlib.Core.Bool.{Bool, true, false, cond, ◌||◌}
use mathlib.Core.List.{List, [], ◌∷◌, ◌++◌, map, flat_map, append_assoc, append-nil}
use Prim.Native.Nat.{ℕ, zero, suc, ◌+◌, ◌-◌, ◌≤◌, ◌<◌}
use native.Mathlib.Nat.{add-zero}
use native.Mathlib.Omega.{arith}
use borrow.Author.Tests.{ne_eqb}
use lib.Dec.{eqb}
use lib.ListN.{length, get_or, take, drop, length-drop}
use lib.Seq.{length-take-le, take-suc, get_or-drop}
use Rattle.finite.specs.Lists.{from}
use Rattle.buffers.specs.Put.{Put}
use Rattle.buffers.proofs.Puts.{put_none, put_join, put_length}
use Rattle.galois.specs.Arithmetic.{member}
use Rattle.counting.specs.Table.{Table, columns}
use Rattle.step_tables.specs.Merge.{MergeSource, kept, merged as merged_column, merge_place, merge_sources}
use Rattle.merge_questions.specs.Questions.{HasRoles, role_of}
use Rattle.merged_rows.specs.MergedRow.{Stretch, member_place, place_by, merged_row}
use Rattle.layout.proofs.Bytes.{flat_map_same, flat_map_next}
use Rattle.layout.proofs.Rows.{pieces_next, map_flat_map}

-- ---- one row, column by column

-- what stands in the place of column q
abbrev pub place_of : List ℕ → List ℕ → ℕ → ℕ → List ℕ
place_of row roles merged q = place_by (get_or roles q 0) merged (get_or row q 0)

-- the entries of a stretch
stretch_length : (row : List ℕ) {roles : List ℕ} {n stop : ℕ} → Stretch roles (length row) n stop → length (take (stop - n) (drop n row)) ≡ stop - n
stretch_length row {n = n} {stop = stop} s = length-take-le (stop - n) (drop n row) (omega (arith, length-drop n row, s.within))

-- what stands in the places of m columns from column n on that all stay is their own entries
stretch_kept : (row roles : List ℕ) (merged n m : ℕ) → n + m ≤ length row → ((i : ℕ) → i < m → get_or roles (n + i) 0 ≡ 0)
    → flat_map (place_of row roles merged) (from 0 (n + m)) ≡ flat_map (place_of row roles merged) (from 0 n) ++ take m (drop n row)
unfolding place_by
stretch_kept row roles merged n zero room stay = rw (add-zero n) (sym (append-nil (flat_map (place_of row roles merged) (from 0 n))))
stretch_kept row roles merged n (suc m) room stay =
    let next : n + suc m ≡ n + m + 1 = omega arith in
    let own : place_of row roles merged (n + m) ≡ get_or (drop n row) m 0 ∷ [] = rw (stay m (omega arith), get_or-drop n row m 0) in
    ap (λ (k : ℕ). flat_map (place_of row roles merged) (from 0 k)) next
    ∙ flat_map_next (place_of row roles merged) (n + m)
    ∙ ap₂ ◌++◌ (stretch_kept row roles merged n m (omega arith) (λ i h. stay i (omega arith))) own
    ∙ append_assoc (flat_map (place_of row roles merged) (from 0 n)) (take m (drop n row)) (get_or (drop n row) m 0 ∷ [])
    ∙ ap (λ (l : List ℕ). flat_map (place_of row roles merged) (from 0 n) ++ l) (sym (take-suc (drop n row) m 0 (omega (arith, length-drop n row))))

-- at most one byte stands in the place of a member
member_one : (role merged : ℕ) → length (member_place role merged) ≤ 1
unfolding member_place
member_one role merged = either (eqb role 1)
  where
    either : (b : Bool) → length (cond b (merged ∷ []) []) ≤ 1
    either true = omega arith
    either false = omega arith

-- the places of the first n columns, at most one byte for each, are put
pub record RowPut (row roles : List ℕ) (merged : ℕ) (before : List ℕ) (at n : ℕ) (after : List ℕ) (end : ℕ) : Type 0 where
  pub within : end ≤ at + n
  pub put : Put before at (flat_map (place_of row roles merged) (from 0 n)) after end

module _ (row roles : List ℕ) (merged : ℕ) (before : List ℕ) (at : ℕ) where
  pub row_none : at ≤ length before → RowPut row roles merged before at 0 before at
  unfolding flat_map from
  row_none h = record { within = omega arith; put = put_none before at h }

  module _ (n : ℕ) {b : List ℕ} {j : ℕ} (r : RowPut row roles merged before at n b j) where
    -- there is room for a stretch, and for a member, where there is room for the whole row
    pub stretch_room : {stop : ℕ} → Stretch roles (length row) n stop → at + length row ≤ length before → j + length (take (stop - n) (drop n row)) ≤ length b
    stretch_room s room = omega (arith, r.within, put_length r.put, stretch_length row s, s.forward, s.within)

    pub member_room : n < length row → at + length row ≤ length before → j < length b
    member_room h room = omega (arith, r.within, put_length r.put)

    -- a stretch of columns that stay
    pub row_stretch : {stop : ℕ} {c : List ℕ} {k : ℕ} → Stretch roles (length row) n stop → Put b j (take (stop - n) (drop n row)) c k → RowPut row roles merged before at stop c k
    row_stretch {stop} s q =
        let there : n + (stop - n) ≡ stop = omega (arith, s.forward) in
        record {
          within = omega (arith, r.within, q.ends, stretch_length row s, s.forward);
          put = rw (← there, stretch_kept row roles merged n (stop - n) (omega (arith, s.within)) (λ i h. s.stay (n + i) (omega arith) (omega (arith, s.forward)))) (put_join r.put q);
        }

    -- a member
    pub row_member : {c : List ℕ} {k : ℕ} → (get_or roles n 0 ≡ 0 → ⊥) → Put b j (member_place (get_or roles n 0) merged) c k → RowPut row roles merged before at (n + 1) c k
    unfolding place_by
    row_member e q =
        record {
          within = omega (arith, r.within, q.ends, member_one (get_or roles n 0) merged);
          put = pieces_next (place_of row roles merged) r.put (rw (ne_eqb (get_or roles n 0) 0 e) q);
        }

-- ---- the row is that of the definition

module _ (f : MergeSource → ℕ) where
  -- what stands in the place of a column, by its role and by the definition
  place_role : (c : ℕ) (cs : List ℕ) (q : ℕ) → place_by (role_of (c ∷ cs) q) (f merged_column) (f (kept q)) ≡ map f (merge_place (c ∷ cs) q)
  unfolding place_by member_place role_of merge_place
  place_role c cs q = both (eqb q c) (member q cs)
    where
      both : (b d : Bool) → place_by (cond b 1 (cond d 2 0)) (f merged_column) (f (kept q)) ≡ map f (cond b (merged_column ∷ []) (cond (b || d) [] (kept q ∷ [])))
      both true d = refl
      both false true = refl
      both false false = refl

  pub row_of_sources : (cs roles row : List ℕ) (S : Table) → 0 < length cs → HasRoles cs roles → length row ≡ columns S
      → ((q : ℕ) → q < columns S → get_or row q 0 ≡ f (kept q)) → merged_row roles (f merged_column) row ≡ map f (merge_sources cs S)
  unfolding HasRoles merged_row merge_sources
  row_of_sources [] roles row S some given many own = absurd (omega arith)
  row_of_sources (c ∷ cs) roles row S some given many own =
      rw many (flat_map_same _ _ (columns S) (λ q h. rw (given q, own q h) (place_role c cs q)))
      ∙ sym (map_flat_map f (merge_place (c ∷ cs)) (from 0 (columns S)))
