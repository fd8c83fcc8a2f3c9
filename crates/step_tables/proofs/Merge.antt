-- MERGE leaves an even sheet, for every strength and for p = 2, 3, 5, 7 together: each member is a family of lines on the plane of (c1, c2).
-- Summed over the lines through one point, the runs of every other point are counted once and those of the point p + 1 times.
-- Assumes nothing.
use mathlib.Core.Path.{◌≡◌, refl, sym, ◌∙◌, ap, ap₂}
use mathlib.Core.Bool.{Bool, true, false, cond, ◌&&◌, and-true, and-false, and_comm}
use mathlib.Core.List.{List, [], ◌∷◌, Memᴰ}
use Prim.Native.Nat.{ℕ, zero, suc, ◌+◌, ◌-◌, ◌*◌, ◌/◌, ◌%◌, ◌<◌}
use native.Mathlib.Nat.{mul-one, one-mul, zero-mul, mul-zero, mul_comm, mul_assoc, mul_right_comm, mul-add, suc-mul, add_left_cancel, mod-lt, div-lt_iff_lt-mul, div-add-mod}
use native.Mathlib.Omega.{arith}
use borrow.Author.Tests.{eqb-true}
use lib.Arith.{lt-one, digits_lt, digits_div, digits_mod}
use lib.Dec.{T, eqb, eqb→eq}
use lib.ListN.{length, get_or, length-map}
use Rattle.finite.specs.Sum.{sum, count, bit}
use Rattle.finite.specs.Lists.{from}
use Rattle.finite.proofs.Tests.{agree, T_and, T_eqb}
use Rattle.finite.proofs.Sums.{sum_ext, sum_add, sum_mul, sum_const}
use Rattle.finite.proofs.Counts.{count_ext, count_and, count_exchange, count_one, sum_balance}
use Rattle.galois.specs.Arithmetic.{member}
use Rattle.counting.specs.Table.{Table, columns, Setting, shows, times, combinations, Apart, Settings, InRange, Even}
use Rattle.step_tables.specs.Lists.{Distinct}
use Rattle.step_tables.specs.Sheet.{from_sources, OrthogonalArray, AllLevels}
use Rattle.step_tables.specs.Merge.{merge_primes, member_at, MergeSource, kept, merged, merge_place, merge_sources, merge_levels, merged_level, merge_value, merge_step, MergeFits, member_sum, MemberSums}
use Rattle.step_tables.proofs.Lists.{length_flat_map, count_member, mem_member, mem_get_d, mem_flat_map, mem_from, distinct_flat_map, distinct_from}
use Rattle.step_tables.proofs.Columns.{no_settings}
use Rattle.step_tables.proofs.Separate.{Place, left, right, levels_at, cell_at}
use Rattle.step_tables.proofs.Replace.{RowsEven, Stays, Replacement, replaced_levels, replaced_array}
use Rattle.step_tables.proofs.Plane.{line, line_below, common, Plane, merge_positive, merge_plane}

abbrev place_of : MergeSource → Place
place_of (kept q) = left q
place_of merged = right 0

abbrev source_at : Place → MergeSource
source_at (left q) = kept q
source_at (right d) = merged

round : (a : MergeSource) → source_at (place_of a) ≡ a
round (kept q) = refl
round merged = refl

-- the sheet column in whose place the source stands
abbrev origin_of : List ℕ → MergeSource → ℕ
origin_of cs (kept q) = q
origin_of cs merged = member_at cs 1

-- one column with n levels, each in a run of its own
unfoldable pub level_column : ℕ → Table
level_column n = record { runs = n; levels = n ∷ []; cell = λ r c. r }

level_column_even : (g n : ℕ) → Even g (level_column n)
unfolding Even times shows combinations Settings Apart level_column
level_column_even g n [] h s = no_settings (level_column n)
level_column_even g n (x ∷ []) h s =
    let e : get_or (n ∷ []) x.column 0 ≡ n = ap (λ c. get_or (n ∷ []) c 0) (lt-one s.0) in
    ap₂
    ◌*◌
    (mul-one (get_or (n ∷ []) x.column 0) ∙ e)
    (count_ext n (λ r l. and-true (eqb r x.level)) ∙ count_one n x.level (rw e at s.1))
    ∙ mul-one n
level_column_even g n (x ∷ y ∷ xs) h s = absurd (s.2.0 (lt-one s.0 ∙ sym (lt-one s.3.0)))

level_column_in_range : (n : ℕ) → InRange (level_column n)
unfolding InRange level_column
level_column_in_range n r c h l = rw (lt-one l) h

level_column_levels : (Q : ℕ → Type 0) (n : ℕ) → Q n → AllLevels Q (level_column n)
unfolding AllLevels level_column
level_column_levels Q n meets c l = rw (lt-one l) meets

level_column_lem : (g n : ℕ) → OrthogonalArray g (level_column n)
level_column_lem g n = record { even = level_column_even g n; in_range = level_column_in_range n }

-- a point of the plane and its number
point_number : (p x y v : ℕ) → y < p → eqb (p * x + y) v ≡ (eqb x (v / p) && eqb y (v % p))
point_number p x y v h =
    agree
    (eqb (p * x + y) v)
    (eqb x (v / p) && eqb y (v % p))
    (λ t.
    let e = ap (λ n. n + y) (mul_comm x p) ∙ eqb→eq (p * x + y) v t in
    (T_and (eqb x (v / p)) (eqb y (v % p))).1
    (T_eqb x (v / p) (sym (digits_div x h) ∙ ap (λ n. n / p) e), T_eqb y (v % p) (sym (digits_mod x h) ∙ ap (λ n. n % p) e)))
    (λ t.
    let b = (T_and (eqb x (v / p)) (eqb y (v % p))).0 t in
    T_eqb (p * x + y) v (ap₂ (λ m n. p * m + n) (eqb→eq x (v / p) b.0) (eqb→eq y (v % p) b.1) ∙ div-add-mod v p))

-- one line for a run that has the settings, and p more for one at the point
weigh : (p : ℕ) (f t : Bool) → bit f * (1 + p * bit t) ≡ bit f + p * bit (t && f)
weigh p true t = rw (one-mul, and-true t)
weigh p false t = rw (zero-mul, and-false t, mul-zero)

point_weight : (p C t n N : ℕ) → C * t ≡ N → p * C * (t + p * n) ≡ p * N + p * p * C * n
point_weight p C t n N e =
    mul-add (p * C) t (p * n)
    ∙ ap₂ ◌+◌ (mul_assoc p C t ∙ ap (λ x. p * x) e) (sym (mul_assoc (p * C) p n) ∙ ap (λ x. x * n) (mul_right_comm p C p))

module _ (p : ℕ) (cs : List ℕ) (S : Table) (pos : 0 < p) (fits : MergeFits p cs S) (range : InRange S) (sums : MemberSums p cs S) where
  member_below : (k r : ℕ) → k < suc p → r < S.runs → S.cell r (get_or cs k 0) < p
  unfolding InRange
  member_below k r h l =
      let b : k < length cs = omega (arith, fits.many) in
      rw (fits.levels (get_or cs k 0) (mem_get_d cs k 0 b)) at (range r (get_or cs k 0) l (fits.on_sheet (get_or cs k 0) (mem_get_d cs k 0 b)))

  -- member number h + 1 is the line of family h
  member_line : (r h : ℕ) → r < S.runs → h < suc p → S.cell r (get_or cs h 0) ≡ line p h (S.cell r (member_at cs 1)) (S.cell r (member_at cs 2))
  unfolding MemberSums member_sum
  member_line r zero l k = refl
  member_line r (suc zero) l k = refl
  member_line r (suc (suc m)) l k =
      let e : suc (suc (suc m)) - 1 ≡ suc (suc m) = omega arith in
      let d : suc (suc (suc m)) - 2 ≡ suc m = omega arith in
      ap (λ n. S.cell r (get_or cs n 0)) (sym e)
      ∙ sums r (suc (suc (suc m))) l (omega arith) (omega arith)
      ∙ ap (λ n. (S.cell r (member_at cs 1) + n * S.cell r (member_at cs 2)) % p) d

  merged_below : (r : ℕ) → r < S.runs → merged_level p cs S r < (level_column (p * p)).runs
  unfolding merged_level level_column
  merged_below r h = rw (mul_comm p _) (digits_lt (member_below 0 r (omega arith) h) (member_below 1 r (omega arith) h))

  module _ (plane : Plane p) (g : ℕ) (even : Even g S) (ls : List Setting) (v : ℕ)
      (fewer : length ls < g) (settings : Settings S ls) (apart : (c : ℕ) → Memᴰ c cs → Apart c ls) (below : v < p * p) where
    -- the runs at the point v with the settings
    there : ℕ → Bool
    there r = eqb (S.cell r (member_at cs 1)) (v / p) && eqb (S.cell r (member_at cs 2)) (v % p)

    -- the runs on the point's line of family h
    along : ℕ → ℕ → Bool
    along h r = eqb (line p h (S.cell r (member_at cs 1)) (S.cell r (member_at cs 2))) (line p h (v / p) (v % p))

    across : v / p < p
    across = (div-lt_iff_lt-mul pos).1 below

    -- each line has its share of the runs
    along_share : (h : ℕ) → h < suc p → p * combinations S ls * count S.runs (λ r. along h r && shows S ls r) ≡ S.runs
    unfolding Even times shows combinations Settings along
    along_share h l =
        let b : h < length cs = omega (arith, fits.many) in
        let m = mem_get_d cs h 0 b in
        ap₂
        (λ n m. n * combinations S ls * m)
        (sym (fits.levels (get_or cs h 0) m))
        (count_ext S.runs (λ r k. ap (λ x. eqb x (line p h (v / p) (v % p)) && shows S ls r) (sym (member_line r h k l))))
        ∙ even
        (record { column = get_or cs h 0; level = line p h (v / p) (v % p) } ∷ ls)
        fewer (
          fits.on_sheet (get_or cs h 0) m,
          rw (fits.levels (get_or cs h 0) m) (line_below p h (v / p) (v % p) across (mod-lt v pos)),
          apart (get_or cs h 0) m,
          settings,
        )

    -- a run with the settings is on one of the point's lines, and on p more where it is at the point
    lines_at : (r : ℕ) → r < S.runs → count (suc p) (λ h. along h r && shows S ls r) ≡ bit (shows S ls r) + p * bit (there r && shows S ls r)
    unfolding common along there
    lines_at r l =
        count_ext (suc p) (λ h k. and_comm (along h r) (shows S ls r))
        ∙ count_and (suc p) (shows S ls r) (λ h. along h r)
        ∙ ap
        (λ n. bit (shows S ls r) * n)
        (plane
        (S.cell r (member_at cs 1))
        (S.cell r (member_at cs 2))
        (v / p)
        (v % p)
        (member_below 0 r (omega arith) l)
        (member_below 1 r (omega arith) l)
        across
        (mod-lt v pos))
        ∙ weigh p (shows S ls r) (there r)

    lines_sum : sum (suc p) (λ h. count S.runs (λ r. along h r && shows S ls r)) ≡ times S ls + p * count S.runs (λ r. there r && shows S ls r)
    unfolding times count
    lines_sum =
        count_exchange (suc p) S.runs (λ h r. along h r && shows S ls r)
        ∙ sum_ext S.runs lines_at
        ∙ sum_add S.runs (λ r. bit (shows S ls r)) (λ r. p * bit (there r && shows S ls r))
        ∙ ap (λ n. times S ls + n) (sum_mul S.runs p (λ r. bit (there r && shows S ls r)))

    there_share : p * p * combinations S ls * count S.runs (λ r. there r && shows S ls r) ≡ S.runs
    unfolding Even
    there_share =
        add_left_cancel
        (p * S.runs)
        (sym (point_weight p (combinations S ls) (times S ls) (count S.runs (λ r. there r && shows S ls r)) S.runs (even ls (omega arith) settings))
        ∙ ap (λ n. p * combinations S ls * n) (sym lines_sum)
        ∙ sym (sum_mul (suc p) (p * combinations S ls) (λ h. count S.runs (λ r. along h r && shows S ls r)))
        ∙ sum_ext (suc p) along_share
        ∙ sum_const (suc p) S.runs
        ∙ suc-mul p S.runs)

  rows_even : Plane p → (g : ℕ) → Even g S → RowsEven g S (level_column (p * p)) (merged_level p cs S) cs
  unfolding level_column merged_level there
  rows_even plane g even ls v h s apart l =
      ap
      (λ n. p * p * combinations S ls * n)
      (count_ext S.runs (λ r k.
      ap
      (λ b. b && shows S ls r)
      (point_number p (S.cell r (member_at cs 1)) (S.cell r (member_at cs 2)) v (member_below 1 r (omega arith) k))))
      ∙ there_share plane g even ls v h s apart l

module _ (p : ℕ) (cs : List ℕ) (S : Table) where
  -- a source in the place of column q stays, and tells q
  in_place : (q : ℕ) (a : MergeSource) (b d : Bool) → eqb q (member_at cs 1) ≡ b → member q cs ≡ d
      → Memᴰ a (cond b (merged ∷ []) (cond d [] (kept q ∷ [])))
      → (q < columns S → Stays S (level_column (p * p)) cs (place_of a)) × (origin_of cs a ≡ q)
  unfolding level_column
  in_place q a true d e f m = let k = mathlib.Core.List.Memᴰ.eq_of_singleton m in (λ h. rw k (omega arith), rw k (sym (eqb-true q (member_at cs 1) e)))
  in_place q a false true e f m = absurd (mathlib.Core.List.Memᴰ.not-nil m)
  in_place q a false false e f m = let k = mathlib.Core.List.Memᴰ.eq_of_singleton m in (λ h. rw k (h, λ n. rw f at (mem_member n)), rw k refl)

  place_distinct : (q : ℕ) (b d : Bool) → Distinct {A = MergeSource} (cond b (merged ∷ []) (cond d [] (kept q ∷ [])))
  place_distinct q true d = (mathlib.Core.List.Memᴰ.not-nil, tt)
  place_distinct q false true = tt
  place_distinct q false false = (mathlib.Core.List.Memᴰ.not-nil, tt)

  pub sources_stay : (a : MergeSource) → Memᴰ a (merge_sources cs S) → Stays S (level_column (p * p)) cs (place_of a)
  unfolding merge_sources merge_place
  sources_stay a m =
      let s = mem_flat_map (merge_place cs) (from 0 (columns S)) m in
      let b = mem_from 0 (columns S) s.1 in
      (in_place s.0 a (eqb s.0 (member_at cs 1)) (member s.0 cs) refl refl s.2).0 (omega arith)

  sources_distinct : Distinct (merge_sources cs S)
  unfolding merge_sources merge_place
  sources_distinct =
      distinct_flat_map
      (merge_place cs)
      (origin_of cs)
      (λ q. place_distinct q (eqb q (member_at cs 1)) (member q cs))
      (λ q a m. (in_place q a (eqb q (member_at cs 1)) (member q cs) refl refl m).1)
      (from 0 (columns S))
      (distinct_from 0 (columns S))

  as_many : (a : MergeSource) → merge_levels p S a ≡ levels_at S (level_column (p * p)) (place_of a)
  unfolding merge_levels level_column
  as_many (kept q) = refl
  as_many merged = refl

  values : (r : ℕ) (a : MergeSource) → merge_value p cs S r a ≡ cell_at S (level_column (p * p)) r (merged_level p cs S r) (place_of a)
  unfolding merge_value level_column
  values r (kept q) = refl
  values r merged = refl

  module _ (prime : T (member p merge_primes)) (fits : MergeFits p cs S) (sums : MemberSums p cs S) (g : ℕ) (sheet : OrthogonalArray g S) where
    replacement : Replacement S (level_column (p * p)) (merged_level p cs S) cs (merge_levels p S) (merge_value p cs S) (merge_sources cs S)
    replacement =
        record {
          place = place_of;
          back = source_at;
          round = round;
          as_many = as_many;
          values = values;
          within = merged_below p cs S (merge_positive p prime) fits sheet.in_range sums;
          given = record { past = merged; distinct = sources_distinct; allowed = sources_stay };
        }

    pub merge_leaves : OrthogonalArray g (merge_step p cs S)
    unfolding merge_step
    merge_leaves =
        replaced_array
        replacement
        g
        sheet
        (level_column_lem g (p * p))
        (rows_even p cs S (merge_positive p prime) fits sheet.in_range sums (merge_plane p prime) g sheet.even)

    pub merge_levels_lem : (Q : ℕ → Type 0) → Q (p * p) → AllLevels Q S → AllLevels Q (merge_step p cs S)
    unfolding merge_step
    merge_levels_lem Q square sheet = replaced_levels replacement Q sheet (level_column_levels Q (p * p) square)

  place_length : Memᴰ (member_at cs 1) cs → (q : ℕ) (b d : Bool) → eqb q (member_at cs 1) ≡ b → member q cs ≡ d
      → length {A = MergeSource} (cond b (merged ∷ []) (cond d [] (kept q ∷ []))) + bit d ≡ 1 + 1 * bit b
  place_length m q true true e f = refl
  place_length m q true false e f = absurd (rw f at (mem_member (mathlib.Core.List.Memᴰ.cast (eqb-true q (member_at cs 1) e) m)))
  place_length m q false true e f = refl
  place_length m q false false e f = refl

  -- of p + 1 members one is left
  pub merge_columns : MergeFits p cs S → columns (merge_step p cs S) + p ≡ columns S
  unfolding merge_step from_sources merge_sources merge_place
  merge_columns fits =
      let m : Memᴰ (member_at cs 1) cs = mem_get_d cs 0 0 (omega (arith, fits.many)) in
      let length_sources : columns (merge_step p cs S) ≡ sum (columns S) (λ q. length (merge_place cs q)) =
      length-map (merge_sources cs S) (merge_levels p S) ∙ length_flat_map (merge_place cs) (columns S)
      in
      omega (
        arith,
        length_sources,
        fits.many,
        count_member (columns S) cs fits.different fits.on_sheet,
        sum_balance
            (columns S)
            1
            (member_at cs 1)
            (λ q. length (merge_place cs q))
            (λ q. member q cs)
            (fits.on_sheet (member_at cs 1) m)
            (λ q h. place_length m q (eqb q (member_at cs 1)) (member q cs) refl refl),
      )
