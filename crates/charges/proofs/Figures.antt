-- Figures for document 02, K7, which gives none, as one statement: a price worked out by hand, a half and its neighbours, one run, and each refusal.
use mathlib.Core.Path.{◌≡◌, refl}
use mathlib.Core.List.{List, [], ◌∷◌, map}
use Prim.Native.Nat.{ℕ}
use lib.ListN.{length}
use Rattle.finite.specs.Sum.{sum, every}
use Rattle.counting.specs.Table.{table_of}
use Rattle.given_sheet.specs.Given.{size_within, buffers_long, counts_within, entries_below, well_formed, given_sheet}
use Rattle.charges.specs.Charge.{changes, change_pence, price_sum, hundredfold, rounded, charge}
use Rattle.charges.specs.ChargePromise.{charge_answer, charge_given}

-- so many runs, the level counts, the entries run by run, and a price list; the answer, and the charge
pub record Figure : Type 0 where
  pub runs : ℕ
  pub levels : List ℕ
  pub entries : List ℕ
  pub run_price : ℕ
  pub prices : List ℕ
  pub discount : ℕ
  pub answer : ℕ
  pub pence : ℕ

-- one run of one column that costs a penny
abbrev penny : ℕ → ℕ → Figure
penny discount pence = record { runs = 1; levels = 2 ∷ []; entries = 1 ∷ []; run_price = 1; prices = 9 ∷ []; discount = discount; answer = 0; pence = pence }

abbrev pub figures : List Figure
figures =
    -- 0000 0111 0222 1012 1120 1201 2021 2102 2210: 9 × 4500, and 2, 8, 8 and 6 changes; 43,970 × 85 is 3,737,450, a half
    record {
      runs = 9;
      levels = 3 ∷ 3 ∷ 3 ∷ 3 ∷ [];
      entries = 0 ∷ 0 ∷ 0 ∷ 0 ∷ 0 ∷ 1 ∷ 1 ∷ 1 ∷ 0 ∷ 2 ∷ 2 ∷ 2 ∷ 1 ∷ 0 ∷ 1 ∷ 2 ∷ 1 ∷ 1 ∷ 2 ∷ 0 ∷ 1 ∷ 2 ∷ 0 ∷ 1 ∷ 2 ∷ 0 ∷ 2 ∷ 1 ∷ 2 ∷ 1 ∷ 0 ∷ 2 ∷ 2 ∷ 2 ∷ 1 ∷ 0 ∷ [];
      run_price = 4500;
      prices = 1250 ∷ 20 ∷ 45 ∷ 75 ∷ [];
      discount = 15;
      answer = 0;
      pence = 37375;
    }
    -- 49, 50 and 51 hundredths; nothing off, and all
    ∷ penny 51 0
    ∷ penny 50 1
    ∷ penny 49 1
    ∷ penny 0 1
    ∷ penny 100 0
    -- a discount of 101; a price too few; a level 2 of 2, whatever the price list
    ∷ record { runs = 1; levels = 2 ∷ []; entries = 1 ∷ []; run_price = 1; prices = 9 ∷ []; discount = 101; answer = 15; pence = 0 }
    ∷ record { runs = 1; levels = 2 ∷ []; entries = 1 ∷ []; run_price = 1; prices = []; discount = 0; answer = 15; pence = 0 }
    ∷ record { runs = 1; levels = 2 ∷ []; entries = 2 ∷ []; run_price = 1; prices = []; discount = 101; answer = 1; pence = 0 }
    ∷ []

abbrev pub answered : Figure → Figure
answered f =
    record {
      runs = f.runs;
      levels = f.levels;
      entries = f.entries;
      run_price = f.run_price;
      prices = f.prices;
      discount = f.discount;
      answer = charge_answer f.runs (length f.levels) f.levels f.entries f.prices f.discount;
      pence = charge_given f.runs (length f.levels) f.levels f.entries f.run_price f.prices f.discount;
    }

pub k7_figures : map answered figures ≡ figures
unfolding sum every table_of size_within buffers_long counts_within entries_below well_formed given_sheet changes change_pence price_sum hundredfold rounded charge charge_answer charge_given
k7_figures = refl
