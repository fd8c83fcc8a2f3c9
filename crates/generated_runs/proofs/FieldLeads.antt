-- The runs of FIELD one after the other: which has a single digit, and of which two each other is the sum.
-- Assumes nothing.
use mathlib.Core.Path.{◌≡◌, refl, sym, ◌∙◌, ap, ap₂}
use mathlib.Core.List.{List, flat_map}
use Prim.Native.Nat.{ℕ, zero, suc, ◌+◌, ◌-◌, ◌*◌, ◌^◌, ◌≤◌, ◌<◌}
use native.Mathlib.Nat.{sub_self, pow-zero, pow-succ', zero-add, one-mul, suc-mul, le_refl, le_trans, lt_of_lt_of_le, pow-le-pow_right, mul-le-mul_right, one-le-pow}
use native.Mathlib.Numerals.{add-one}
use native.Mathlib.Omega.{arith}
use lib.Arith.{digits_lt}
use lib.Dec.{T}
use lib.ListN.{get_or}
use lib.Seq.{get_or-take}
use Rattle.finite.specs.Lists.{from}
use Rattle.finite.proofs.Tabulated.{looked_up}
use Rattle.galois.specs.Arithmetic.{field_size}
use Rattle.counting.specs.Table.{Table, columns}
use Rattle.galois.proofs.Fields.{field, size_positive}
use Rattle.buffers.specs.Put.{Put}
use Rattle.layout.specs.Bytes.{run_of}
use Rattle.buffers.proofs.Puts.{put_front}
use Rattle.layout.proofs.Bytes.{map_below, pieces_length, pieces_at, run_length, run_at}
use Rattle.generated_runs.specs.FieldPlaces.{FieldStands}
use Rattle.generated_runs.specs.LevelSums.{digit_sums, WidthsTo, Sums, single, Leads, RunsBefore, SumsStand, run_sum}
use Rattle.generated_runs.specs.declared.GeneratorAt.{GeneratorAt}
use Rattle.generated_runs.specs.declared.Leading.{Leading}
use Rattle.generated_runs.proofs.FieldPlaces.{level_below, sum_level}
use Rattle.generated_runs.proofs.FieldSheet.{sheet_of, columns_before, width_at, sheet_columns, sheet_cell, factor_columns_lem}
use Rattle.generated_runs.proofs.LevelSums.{sums_stable}

-- ---- the runs with a single digit

module _ (g : GeneratorAt) (size : T (field_size g.s)) where
  pub leads_none : 1 ≤ g.t → Leads g (record { run = 0; span = 1; row = g.t - 1; digit = 0 })
  leads_none h =
      record {
        row_in = omega arith;
        digit_below = size_positive g.s size;
        weight = rw (sub_self (g.t - 1), pow-zero);
        number = refl;
        earlier = le_refl 1;
      }

  module _ {lead : Leading} (leads : Leads g lead) {run : ℕ} (next : run ≡ lead.run + lead.span) where
    -- the next digit in the same row
    pub leads_next : lead.digit + 1 < g.s → Leads g (record { run = run; span = lead.span; row = lead.row; digit = lead.digit + 1 })
    leads_next h =
        record {
          row_in = leads.row_in;
          digit_below = h;
          weight = leads.weight;
          number = next ∙ ap (λ r. r + lead.span) leads.number ∙ rw (add-one lead.digit) (sym (suc-mul lead.digit lead.span));
          earlier = omega (arith, next, leads.earlier);
        }

    -- or, where there is none, 1 in the row before
    module _ (last : g.s ≤ lead.digit + 1) where
      next_weight : run ≡ g.s ^ suc (g.t - 1 - lead.row)
      next_weight =
          let all : suc lead.digit ≡ g.s = omega (arith, last, leads.digit_below) in
          next
          ∙ ap (λ r. r + lead.span) leads.number
          ∙ sym (suc-mul lead.digit lead.span)
          ∙ ap₂ ◌*◌ all leads.weight
          ∙ sym (pow-succ' g.s (g.t - 1 - lead.row))

      pub row_before : run < g.s ^ g.t → 1 ≤ lead.row
      row_before below = positive_row lead.row refl
        where
          positive_row : (row : ℕ) → lead.row ≡ row → 1 ≤ row
          positive_row zero e =
              let whole : suc (g.t - 1 - lead.row) ≡ g.t = omega (arith, leads.row_in) in
              absurd (omega (arith, below, next_weight ∙ ap (λ k. g.s ^ k) whole))
          positive_row (suc row) e = omega arith

      pub leads_wrap : run < g.s ^ g.t → Leads g (record { run = run; span = run; row = lead.row - 1; digit = 1 })
      leads_wrap below =
          let more = row_before below in
          let back : suc (g.t - 1 - lead.row) ≡ g.t - 1 - (lead.row - 1) = omega (arith, more, leads.row_in) in
          record {
            row_in = omega (arith, leads.row_in);
            digit_below = (field g.s size).products.neutral_below;
            weight = next_weight ∙ ap (λ k. g.s ^ k) back;
            number = sym (one-mul run);
            earlier = omega arith;
          }

      pub some_runs : 0 < run
      some_runs = rw next_weight (one-le-pow (suc (g.t - 1 - lead.row)) g.s (size_positive g.s size))

  -- the number of such a run
  pub lead_single : {lead : Leading} → Leads g lead → lead.run ≡ single g lead.row lead.digit
  unfolding single
  lead_single {lead} leads = leads.number ∙ ap (λ v. lead.digit * v) leads.weight

  pub some_span : {lead : Leading} → Leads g lead → 0 < lead.span
  some_span {lead} leads = rw leads.weight (one-le-pow (g.t - 1 - lead.row) g.s (size_positive g.s size))

-- ---- the cells of the sheet

module _ {list : List ℕ} {g : GeneratorAt} (known : FieldStands list g) where
  cell_below : (r c : ℕ) → c < g.n → (sheet_of list g).cell r c < g.s ^ width_at list g c
  cell_below r c h =
      rw (sheet_cell known r c h) (level_below known r (columns_before list g c) (width_at list g c) (factor_columns_lem known c h).within)

  -- of a run with more than one digit
  module _ {lead : Leading} (leads : Leads g lead) {run : ℕ} (from_lead : lead.run ≤ run) (to_next : run < lead.run + lead.span) where
    abbrev rest : ℕ
    rest = run - lead.run

    cell_sum : (c : ℕ) → c < g.n
        → (sheet_of list g).cell run c ≡ digit_sums g.s (width_at list g c) ((sheet_of list g).cell lead.run c) ((sheet_of list g).cell rest c)
    cell_sum c h =
        let k = g.t - 1 - lead.row in
        let lead_is : lead.run ≡ lead.digit * g.s ^ k = leads.number ∙ ap (λ v. lead.digit * v) leads.weight in
        let whole : lead.run + rest ≡ run = omega (arith, from_lead) in
        let low : rest < g.s ^ k = omega (arith, from_lead, to_next, leads.weight) in
        rw (sheet_cell known run c h, sheet_cell known lead.run c h, sheet_cell known rest c h)
        (rw (← lead_is, whole) at
        (sum_level known k (omega arith) lead.digit rest low (columns_before list g c) (width_at list g c) (factor_columns_lem known c h).within))

    -- which stands in the table of the sums
    module _ {most : ℕ} {sums : List ℕ} (s : Sums list g most sums) where
      cell_few : (r c : ℕ) → c < g.n → (sheet_of list g).cell r c < most
      unfolding WidthsTo
      cell_few r c h = rw s.power (lt_of_lt_of_le (cell_below r c h) (pow-le-pow_right (size_positive g.s known.size) (s.widths c h)))

      sum_found : (c : ℕ) → c < g.n
          → get_or sums ((sheet_of list g).cell lead.run c * most + (sheet_of list g).cell rest c) 0 ≡ (sheet_of list g).cell run c
      unfolding WidthsTo
      sum_found c h =
          let w = s.width in
          let x_few = rw s.power at (cell_few lead.run c h) in
          let y_few = rw s.power at (cell_few rest c h) in
          rw s.power (looked_up (digit_sums g.s w) (g.s ^ w) (rw s.power at s.all) x_few y_few)
          ∙ sums_stable g.s known.size (width_at list g c) w _ _ (s.widths c h) (cell_below lead.run c h) (cell_below rest c h)
          ∙ sym (cell_sum c h)

      -- ---- the two runs in the buffer

      module _ {table : List ℕ} {at : ℕ} (before : RunsBefore (sheet_of list g) run table at) (other : lead.run < run) where
        rest_before : rest < run
        rest_before = omega (arith, from_lead, to_next, other, leads.earlier)

        -- a run that is there ends before the place
        room : {r : ℕ} → r < run → r * g.n + g.n ≤ at
        room {r} h =
            rw (before.ends, sheet_columns known)
            (le_trans (omega (arith, suc-mul r g.n)) (mul-le-mul_right g.n h))

        pub lead_room : lead.run * g.n + g.n ≤ at
        lead_room = room other

        pub rest_room : rest * g.n + g.n ≤ at
        rest_room = room rest_before

        cell_at : (r c : ℕ) → r < run → c < g.n → get_or table (r * g.n + c) 0 ≡ (sheet_of list g).cell r c
        cell_at r c hr hc = rw (sheet_columns known) at (before.cells r c hr (rw (sheet_columns known) hc))

        pub sums_stand : SumsStand most sums table (lead.run * g.n) (rest * g.n) g.n
        sums_stand =
            record {
              few = s.few;
              places = s.all.places;
              first = λ i h. rw (cell_at lead.run i other h) (cell_few lead.run i h);
              second = λ i h. rw (cell_at rest i rest_before h) (cell_few rest i h);
            }

        pub run_summed : run_sum most sums table (lead.run * g.n) (rest * g.n) g.n ≡ run_of (sheet_of list g) run
        unfolding run_sum run_of
        run_summed =
            rw (sheet_columns known)
            (map_below _ _ g.n (λ c h. rw (cell_at lead.run c other h, cell_at rest c rest_before h) (sum_found c h)))

-- runs that are put one after the other from place 0 on stand there
pub runs_before : (S : Table) {run place : ℕ} {a b : List ℕ} → Put a 0 (flat_map (run_of S) (from 0 run)) b place → RunsBefore S run b place
runs_before S {run} {place} {a} {b} p =
    let ends : place ≡ run * columns S = p.ends ∙ zero-add _ ∙ pieces_length (run_of S) (columns S) (λ r. run_length S r) run in
    record {
      ends = ends;
      cells = λ r c hr hc.
          sym (get_or-take place b (r * columns S + c) 0 (rw ends (digits_lt hr hc)))
          ∙ ap (λ l. get_or l (r * columns S + c) 0) (put_front p)
          ∙ pieces_at (run_of S) (columns S) (λ k. run_length S k) 0 run r c hr hc
          ∙ run_at S r c hc;
    }
