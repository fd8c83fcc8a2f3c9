-- A table made from sources is even where every choice of sources, all different, and of a level of each stands in its share of the runs:
-- so a step's proof speaks of sources and not of places.
-- Assumes nothing.
use mathlib.Core.Path.{◌≡◌, refl, sym, ◌∙◌, ap, ap₂}
use mathlib.Core.Logic.{◌≢◌}
use mathlib.Core.Bool.{Bool, true, ◌&&◌}
use mathlib.Core.List.{List, [], ◌∷◌, map, Memᴰ}
use Prim.Native.Nat.{ℕ, suc, ◌*◌, ◌≤◌, ◌<◌}
use native.Mathlib.Nat.{one-mul, mul_left_comm}
use lib.Dec.{eqb}
use lib.ListN.{length, get_or, length-map}
use Rattle.finite.specs.Sum.{count}
use Rattle.finite.specs.Lists.{from}
use Rattle.finite.proofs.Tests.{and_left_comm}
use Rattle.finite.proofs.Counts.{count_ext, count_all}
use Rattle.counting.specs.Table.{Table, columns, levels_of, Setting, shows, times, combinations, Apart, Settings, InRange, Even}
use Rattle.step_tables.specs.Lists.{Distinct}
use Rattle.step_tables.specs.Sheet.{from_sources, OrthogonalArray, AllLevels}
use Rattle.step_tables.proofs.Lists.{mem_get_d, distinct_get_d, get_d_map, map_get_d}

-- no settings stand in every run
pub no_settings : (T : Table) → combinations T [] * times T [] ≡ T.runs
unfolding combinations times shows
no_settings T = one-mul (count T.runs (λ r. true)) ∙ count_all T.runs (λ r h. refl)

infix 20 ◌at◌
-- a source and a level of it
pub data Choice (A : Type 0) : Type 0 where
  ◌at◌ : A → ℕ → Choice A

module _ {A : Type 0} where
  -- a run, in which each source has a level, has each of the levels chosen
  abbrev pub chosen : (A → ℕ) → List (Choice A) → Bool
  chosen value [] = true
  chosen value ((a at v) ∷ xs) = eqb (value a) v && chosen value xs

  -- the product of the sources' level counts
  abbrev pub choices : (A → ℕ) → List (Choice A) → ℕ
  choices levels [] = 1
  choices levels ((a at v) ∷ xs) = levels a * choices levels xs

  -- what is asked of two sources holds of a and of each of the choices'
  abbrev pub AllApart : (A → A → Type 0) → A → List (Choice A) → Type 0
  AllApart R a [] = Unit {0}
  AllApart R a ((b at v) ∷ xs) = R a b × AllApart R a xs

  -- allowed sources, each with one of its levels, any two of them apart
  abbrev pub Allowed : (A → Type 0) → (A → A → Type 0) → (A → ℕ) → List (Choice A) → Type 0
  Allowed P R levels [] = Unit {0}
  Allowed P R levels ((a at v) ∷ xs) = P a × (v < levels a) × AllApart R a xs × Allowed P R levels xs

  -- strength g, for choices instead of settings
  abbrev pub EvenChoices : (A → Type 0) → (A → A → Type 0) → (A → ℕ) → (ℕ → A → ℕ) → ℕ → ℕ → Type 0
  EvenChoices P R levels value N g =
      (xs : List (Choice A)) → length xs ≤ g → Allowed P R levels xs → choices levels xs * count N (λ r. chosen (value r) xs) ≡ N

  -- the order of two choices does not matter
  pub swap_choices : (levels : A → ℕ) (value : ℕ → A → ℕ) (N : ℕ) (a b : A) (v w : ℕ)
      → choices levels ((b at w) ∷ (a at v) ∷ []) * count N (λ r. chosen (value r) ((b at w) ∷ (a at v) ∷ [])) ≡ N
      → choices levels ((a at v) ∷ (b at w) ∷ []) * count N (λ r. chosen (value r) ((a at v) ∷ (b at w) ∷ [])) ≡ N
  swap_choices levels value N a b v w e =
      ap₂
      ◌*◌
      (mul_left_comm (levels a) (levels b) 1)
      (count_ext N (λ r h. and_left_comm (eqb (value r a) v) (eqb (value r b) w) true))
      ∙ e

  -- a run is what its sources hold, in their order
  pub from_row : (N : ℕ) (levels : A → ℕ) (value : ℕ → A → ℕ) (sources : List A) (r : ℕ)
      → map ((from_sources N levels value sources).cell r) (from 0 (columns (from_sources N levels value sources))) ≡ map (value r) sources
  unfolding from_sources
  from_row N levels value sources r =
      ap (λ n. map (λ c. get_or (map (value r) sources) c 0) (from 0 n)) (length-map sources levels ∙ sym (length-map sources (value r)))
      ∙ map_get_d (map (value r) sources) 0

-- the sources of a table: all different, all allowed, and any one to stand for a place past the end
pub record Sources {A : Type 0} (P : A → Type 0) (sources : List A) : Type 0 where
  pub past : A
  pub distinct : Distinct sources
  pub allowed : (a : A) → Memᴰ a sources → P a

module _ {A : Type 0} {P : A → Type 0} {sources : List A} (given : Sources P sources) (levels : A → ℕ) (value : ℕ → A → ℕ) (N : ℕ) where
  abbrev made : Table
  made = from_sources N levels value sources

  -- the source of column c
  abbrev source : ℕ → A
  source c = get_or sources c given.past

  source_allowed : (c : ℕ) → c < length sources → P (source c)
  source_allowed c h = given.allowed (source c) (mem_get_d sources c given.past h)

  -- the sources of the settings' columns
  choose : List Setting → List (Choice A)
  choose [] = []
  choose (x ∷ xs) = (source x.column at x.level) ∷ choose xs

  length_choose : (xs : List Setting) → length (choose xs) ≡ length xs
  unfolding choose
  length_choose [] = refl
  length_choose (x ∷ xs) = ap suc (length_choose xs)

  -- a column of the table has a place in the list
  place_below : (c : ℕ) → c < columns made → c < length sources
  unfolding from_sources
  place_below c h = rw (length-map sources levels) at h

  levels_choose : (c : ℕ) → c < length sources → levels_of made c ≡ levels (source c)
  unfolding from_sources
  levels_choose c h = get_d_map levels sources c given.past 0 h

  value_choose : (r c : ℕ) → c < length sources → made.cell r c ≡ value r (source c)
  unfolding from_sources
  value_choose r c h = get_d_map (value r) sources c given.past 0 h

  shows_choose : (xs : List Setting) → Settings made xs → (r : ℕ) → shows made xs r ≡ chosen (value r) (choose xs)
  unfolding shows choose Settings
  shows_choose [] s r = refl
  shows_choose (x ∷ xs) s r = rw (value_choose r x.column (place_below x.column s.0), shows_choose xs s.3 r)

  combinations_choose : (xs : List Setting) → Settings made xs → combinations made xs ≡ choices levels (choose xs)
  unfolding combinations choose Settings
  combinations_choose [] s = refl
  combinations_choose (x ∷ xs) s = rw (levels_choose x.column (place_below x.column s.0), combinations_choose xs s.3)

  apart_choose : (c : ℕ) → c < length sources → (xs : List Setting) → Settings made xs → Apart c xs → AllApart ◌≢◌ (source c) (choose xs)
  unfolding choose Settings Apart
  apart_choose c h [] s a = tt
  apart_choose c h (x ∷ xs) s a = (
    distinct_get_d sources given.past given.distinct c x.column h (place_below x.column s.0) a.0,
    apart_choose c h xs s.3 a.1,
  )

  allowed_choose : (xs : List Setting) → Settings made xs → Allowed P ◌≢◌ levels (choose xs)
  unfolding choose Settings
  allowed_choose [] s = tt
  allowed_choose (x ∷ xs) s =
      let h : x.column < length sources = place_below x.column s.0 in (
        source_allowed x.column h,
        (rw (levels_choose x.column h) at s.1),
        apart_choose x.column h xs s.3 s.2,
        allowed_choose xs s.3,
      )

  even_of_choices : (g : ℕ) → EvenChoices P ◌≢◌ levels value N g → Even g made
  unfolding Even times from_sources shows
  even_of_choices g even xs h s =
      ap₂ ◌*◌ (combinations_choose xs s) (count_ext N (λ r l. shows_choose xs s r))
      ∙ even (choose xs) (rw (length_choose xs) h) (allowed_choose xs s)

  in_range : ((r : ℕ) (a : A) → r < N → P a → value r a < levels a) → InRange made
  unfolding InRange from_sources
  in_range below r c h l =
      let k : c < length sources = place_below c l in
      rw (value_choose r c k, levels_choose c k) (below r (source c) h (source_allowed c k))

  pub from_array : (g : ℕ) → ((r : ℕ) (a : A) → r < N → P a → value r a < levels a) → EvenChoices P ◌≢◌ levels value N g
      → OrthogonalArray g (from_sources N levels value sources)
  from_array g below even = record { even = even_of_choices g even; in_range = in_range below }

  pub from_levels : (Q : ℕ → Type 0) → ((a : A) → P a → Q (levels a)) → AllLevels Q (from_sources N levels value sources)
  unfolding AllLevels
  from_levels Q meets c l =
      let k : c < length sources = place_below c l in
      rw (levels_choose c k) (meets (source c) (source_allowed c k))
