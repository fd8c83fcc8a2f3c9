-- Where the stretches of columns that stay stop, found from the right.
-- Assumes nothing.
use mathlib.Core.Path.{◌≡◌}
use mathlib.Core.Logic.{by_cases}
use mathlib.Core.List.{List}
use Prim.Native.Nat.{ℕ, ◌+◌, ◌≤◌, ◌<◌}
use native.Mathlib.Decide.{dec_lt}
use native.Mathlib.Omega.{arith}
use lib.ListN.{length, get_or, set, length-set}
use lib.Seq.{get_or-set_same, get_or-set_other}
use Rattle.merged_rows.specs.MergedRow.{Stretch, HasStops}

module _ (roles : List ℕ) (n : ℕ) where
  -- the stretches that start at a column or after it
  pub record StopsFrom (stops : List ℕ) (column : ℕ) : Type 0 where
    pub enough : n < length stops
    pub given : (q : ℕ) → column ≤ q → q ≤ n → Stretch roles n q (get_or stops q 0)

  -- one that stops at once, at a member or at the end
  stretch_empty : (c : ℕ) → c ≤ n → (c < n → get_or roles c 0 ≡ 0 → ⊥) → Stretch roles n c c
  stretch_empty c h e = record { forward = omega arith; within = h; stay = λ q l m. absurd (omega arith); at_member = e }

  -- one column more before a stretch
  stretch_longer : {c stop : ℕ} → get_or roles c 0 ≡ 0 → Stretch roles n (c + 1) stop → Stretch roles n c stop
  stretch_longer {c} {stop} e s =
      record {
        forward = omega (arith, s.forward);
        within = s.within;
        stay = λ q l m.
            by_cases (dec_lt c q) (λ h. s.stay q (omega arith) m) (λ h. let here : q ≡ c = omega arith in rw here e);
        at_member = s.at_member;
      }

  -- the column before those that have their stops
  stops_put : (stops : List ℕ) {c v : ℕ} → c ≤ n → n < length stops → ((q : ℕ) → c < q → q ≤ n → Stretch roles n q (get_or stops q 0))
      → Stretch roles n c v → StopsFrom (set stops c v) c
  stops_put stops {c} {v} h l later s =
      record {
        enough = rw (length-set stops c v) l;
        given = λ q k m.
            by_cases (dec_lt c q)
            (λ g. rw (get_or-set_other stops c q v 0 (λ e. omega arith)) (later q g m))
            (λ g. let here : q ≡ c = omega arith in rw (here, get_or-set_same stops c v 0 (omega arith)) s);
      }

  pub stops_end : (stops : List ℕ) → n < length stops → StopsFrom (set stops n n) n
  stops_end stops l = stops_put stops (omega arith) l (λ q h k. absurd (omega arith)) (stretch_empty n (omega arith) (λ h e. omega arith))

  module _ {stops : List ℕ} {c m : ℕ} (from : StopsFrom stops m) (next : m ≡ c + 1) (within : m ≤ n) where
    later : (q : ℕ) → c < q → q ≤ n → Stretch roles n q (get_or stops q 0)
    later q h k = from.given q (omega arith) k

    pub stops_stay : {v : ℕ} → get_or roles c 0 ≡ 0 → v ≡ get_or stops (c + 1) 0 → StopsFrom (set stops c v) c
    stops_stay e is = stops_put stops (omega arith) from.enough later (rw is (stretch_longer e (later (c + 1) (omega arith) (omega arith))))

    pub stops_member : {v : ℕ} → (get_or roles c 0 ≡ 0 → ⊥) → v ≡ c → StopsFrom (set stops c v) c
    stops_member e is = stops_put stops (omega arith) from.enough later (rw is (stretch_empty c (omega arith) (λ h. e)))

  pub stops_all : {stops : List ℕ} {c : ℕ} → c ≡ 0 → StopsFrom stops c → HasStops roles n stops
  stops_all e from = record { enough = from.enough; given = λ q h. from.given q (omega arith) h }
