-- The sheet that SPLIT leaves, in bytes: each run, and the level counts, in three pieces.
-- Assumes nothing.
use mathlib.Core.Path.{◌≡◌, refl, sym, ◌∙◌, ap, ap₂}
use mathlib.Core.List.{List, [], ◌∷◌, ◌++◌, map, map-append, map-map, flat_map}
use Prim.Native.Nat.{ℕ, zero, suc, ◌+◌, ◌-◌, ◌*◌, ◌≤◌, ◌<◌}
use native.Mathlib.Numerals.{add-one}
use native.Mathlib.Nat.{add-zero, zero-add, suc-mul, mul-le-mul_right}
use native.Mathlib.Omega.{arith}
use borrow.Author.Tests.{eq-eqb, ne_eqb}
use lib.ListN.{length, get_or, take, drop, length-append, length-take, length-drop}
use lib.Seq.{take_all, length-take-le, get_or-take, get_or-drop}
use Rattle.finite.specs.Lists.{from}
use Rattle.counting.specs.Table.{Table, columns, levels_of, table_of}
use Rattle.step_tables.specs.Sheet.{from_sources}
use Rattle.step_tables.specs.Split.{SplitSource, kept, part, split_place, split_sources, split_levels, split_value, split_step}
use Rattle.step_tables.proofs.Lists.{map_get_d}
use Rattle.layout.specs.Bytes.{run_of, runs_of, sheet_in}
use Rattle.split_sheet.specs.Splitting.{give_way, split_run, run_in, split_runs}
use Rattle.layout.specs.declared.Size.{Size}
use Rattle.layout.proofs.Bytes.{flat_map_same, runs_sources, run_length}
use Rattle.layout.proofs.Sheets.{sheet_columns, sheet_cell}

-- ---- parts of lists

-- all from place c on
pub part_rest : (c : ℕ) (xs : List ℕ) → take (length xs - c) (drop c xs) ≡ drop c xs
part_rest c xs = take_all (length xs - c) (drop c xs) (omega (arith, length-drop c xs))

pub way_length : (c : ℕ) (xs others : List ℕ) → c < length xs → length (give_way c xs others) ≡ length xs - 1 + length others
unfolding give_way
way_length c xs others h = simp (length-append, length-take, length-drop) (omega arith)

-- run r of those that lie in bytes, as a part from its first byte up to its end
pub run_part : (bytes : List ℕ) (m r : ℕ) → take (r * m + m - r * m) (drop (r * m) bytes) ≡ run_in bytes m r
unfolding run_in
run_part bytes m r = let many : r * m + m - r * m ≡ m = omega arith in rw many

module _ (bytes : List ℕ) (runs m r : ℕ) (within : runs * m ≤ length bytes) (h : r < runs) where
  pub run_end : r * m + m ≤ length bytes
  run_end = omega (arith, mul-le-mul_right m h, suc-mul r m)

  pub run_in_length : length (run_in bytes m r) ≡ m
  unfolding run_in
  run_in_length = let room = run_end in length-take-le m (drop (r * m) bytes) (omega (arith, length-drop (r * m) bytes))

  pub run_in_at : (q : ℕ) → q < m → get_or (run_in bytes m r) q 0 ≡ get_or bytes (r * m + q) 0
  unfolding run_in
  run_in_at q k = get_or-take m (drop (r * m) bytes) q 0 k ∙ get_or-drop (r * m) bytes q 0

  pub split_run_length : (c : ℕ) (U : Table) → c < m → length (split_run c U (run_in bytes m r)) ≡ m - 1 + columns U
  unfolding split_run
  split_run_length c U k =
      way_length c (run_in bytes m r) (run_of U (get_or (run_in bytes m r) c 0)) (rw run_in_length k)
      ∙ ap₂ (λ (x y : ℕ). x - 1 + y) run_in_length (run_length U (get_or (run_in bytes m r) c 0))

-- ---- the sources in three pieces

module _ (value : SplitSource → ℕ) (n : ℕ) where
  -- the columns from a on hold the numbers xs
  abbrev Keeps : ℕ → List ℕ → Type 0
  Keeps a xs = (k : ℕ) → k < length xs → value (kept (a + k)) ≡ get_or xs k 0

  keeps_head : (a x : ℕ) (xs : List ℕ) → Keeps a (x ∷ xs) → value (kept a) ≡ x
  keeps_head a x xs same = ap (λ (q : ℕ). value (kept q)) (sym (add-zero a)) ∙ same 0 (omega arith)

  keeps_tail : (a x : ℕ) (xs : List ℕ) → Keeps a (x ∷ xs) → Keeps (suc a) xs
  keeps_tail a x xs same k h =
      ap (λ (q : ℕ). value (kept q)) (let next : suc a + k ≡ a + suc k = omega arith in next) ∙ same (suc k) (omega arith)

  -- none of them is split
  all_kept : (c a : ℕ) (xs : List ℕ) → c < a → Keeps a xs → map value (flat_map (split_place c n) (from a (length xs))) ≡ xs
  unfolding from flat_map split_place
  all_kept c a [] h same = refl
  all_kept c a (x ∷ xs) h same =
      rw (ne_eqb a c (λ e. omega arith)) (ap₂ ◌∷◌ (keeps_head a x xs same) (all_kept c (suc a) xs (omega arith) (keeps_tail a x xs same)))

  -- the one at place c is split
  in_pieces : (a c : ℕ) (xs : List ℕ) → c < length xs → Keeps a xs
      → map value (flat_map (split_place (a + c) n) (from a (length xs))) ≡ take c xs ++ map value (map part (from 0 n)) ++ drop (suc c) xs
  unfolding from flat_map split_place
  in_pieces a c [] h same = absurd (omega arith)
  in_pieces a zero (x ∷ xs) h same =
      ap (λ (q : ℕ). map value (flat_map (split_place q n) (from a (length (x ∷ xs))))) (add-zero a)
      ∙ rw (eq-eqb a a refl)
      (map-append value (map part (from 0 n)) (flat_map (split_place a n) (from (suc a) (length xs)))
      ∙ ap (λ (ys : List ℕ). map value (map part (from 0 n)) ++ ys) (all_kept a (suc a) xs (omega arith) (keeps_tail a x xs same)))
  in_pieces a (suc c) (x ∷ xs) h same =
      let next : a + suc c ≡ suc a + c = omega arith in
      ap (λ (q : ℕ). map value (flat_map (split_place q n) (from a (length (x ∷ xs))))) next
      ∙ rw (ne_eqb a (suc a + c) (λ e. omega arith)) (ap₂ ◌∷◌ (keeps_head a x xs same) (in_pieces (suc a) c xs (omega arith) (keeps_tail a x xs same)))

  pub sources_pieces : (c : ℕ) (xs : List ℕ) → c < length xs → Keeps 0 xs → map value (flat_map (split_place c n) (from 0 (length xs))) ≡ give_way c xs (map (λ d. value (part d)) (from 0 n))
  unfolding give_way
  sources_pieces c xs h same =
      ap (λ (q : ℕ). map value (flat_map (split_place q n) (from 0 (length xs)))) (sym (zero-add c))
      ∙ in_pieces 0 c xs h same
      ∙ ap₂ (λ (ys zs : List ℕ). take c xs ++ ys ++ zs) (map-map value part (from 0 n)) (ap (λ (k : ℕ). drop k xs) (sym (add-one c)))

-- ---- the sheet that SPLIT leaves

module _ (c : ℕ) (U S : Table) (on_sheet : c < columns S) where
  pub split_levels_lem : (split_step c U S).levels ≡ give_way c S.levels U.levels
  unfolding split_step from_sources split_sources split_levels
  split_levels_lem =
      sources_pieces (split_levels U S) (columns U) c S.levels on_sheet (λ k h. ap (levels_of S) (zero-add k))
      ∙ ap (give_way c S.levels) (map_get_d U.levels 0)

  -- a run, from any list that has its levels
  split_run_lem : (r : ℕ) (run : List ℕ) → length run ≡ columns S → ((q : ℕ) → q < columns S → get_or run q 0 ≡ S.cell r q)
      → map (split_value c U S r) (split_sources c U S) ≡ split_run c U run
  unfolding split_sources split_value split_run run_of
  split_run_lem r run many same =
      ap (λ (m : ℕ). map (split_value c U S r) (flat_map (split_place c (columns U)) (from 0 m))) (sym many)
      ∙ sources_pieces (split_value c U S r) (columns U) c run (rw many on_sheet) (λ k h. ap (S.cell r) (zero-add k) ∙ sym (same k (rw many at h)))
      ∙ ap (λ (v : ℕ). give_way c run (map (U.cell v) (from 0 (columns U)))) (sym (same c on_sheet))

-- and where the sheet lies in bytes
module _ (c : ℕ) (U : Table) (table levels : List ℕ) (size : Size) (few : size.columns ≤ length levels) (used : size.runs * size.columns ≤ length table) (on_sheet : c < size.columns) where
  pub split_runs_lem : runs_of (split_step c U (sheet_in table levels size)) ≡ split_runs c U table size.columns size.runs
  unfolding split_step split_runs sheet_in table_of
  split_runs_lem =
      let S = sheet_in table levels size in
      let many = sheet_columns table levels size few in
      runs_sources size.runs (split_levels U S) (split_value c U S) (split_sources c U S)
      ∙ flat_map_same (λ r. map (split_value c U S r) (split_sources c U S)) (λ r. split_run c U (run_in table size.columns r)) size.runs (λ r h.
      split_run_lem c U S (rw many on_sheet) r (run_in table size.columns r)
      (run_in_length table size.runs size.columns r used h ∙ sym many)
      (λ q k. run_in_at table size.runs size.columns r used h q (rw many at k) ∙ sym (sheet_cell table levels size few r q)))
