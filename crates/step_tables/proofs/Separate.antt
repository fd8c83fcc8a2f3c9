-- Choices among columns that come from two tables are settings of the one and settings of the other, and so are their tests and level counts.
-- Assumes nothing.
use mathlib.Core.Path.{◌≡◌, refl, sym, ◌∙◌, ap, ap₂}
use mathlib.Core.Logic.{◌≢◌}
use mathlib.Core.Bool.{◌&&◌, and_assoc}
use mathlib.Core.List.{List, [], ◌∷◌}
use Prim.Native.Nat.{ℕ, suc, ◌+◌, ◌*◌, ◌<◌}
use native.Mathlib.Nat.{mul_assoc, mul_left_comm}
use native.Mathlib.Omega.{arith}
use lib.Dec.{eqb}
use lib.ListN.{length}
use Rattle.finite.proofs.Tests.{and_left_comm}
use Rattle.counting.specs.Table.{Table, columns, levels_of, Setting, shows, combinations, Apart, Settings}
use Rattle.step_tables.proofs.Columns.{Choice, ◌at◌, chosen, choices, AllApart, Allowed}

-- a column of the one table or of the other
pub data Place : Type 0 where
  left : ℕ → Place
  right : ℕ → Place

-- two columns, and not one
abbrev pub Differ : Place → Place → Type 0
Differ (left q) (left d) = q ≢ d
Differ (left q) (right d) = Unit {0}
Differ (right q) (left d) = Unit {0}
Differ (right q) (right d) = q ≢ d

-- a setting goes to the settings of its table
abbrev pub on_left : Place → ℕ → List Setting → List Setting
on_left (left q) v xs = record { column = q; level = v } ∷ xs
on_left (right q) v xs = xs

abbrev pub on_right : Place → ℕ → List Setting → List Setting
on_right (left q) v xs = xs
on_right (right q) v xs = record { column = q; level = v } ∷ xs

-- a level as it is
abbrev pub as_is : {A : Type 0} → A → ℕ → ℕ
as_is a v = v

-- `level` takes a level of a source to the level of its column
module _ {A : Type 0} (place : A → Place) (level : A → ℕ → ℕ) where
  abbrev pub lefts : List (Choice A) → List Setting
  lefts [] = []
  lefts ((a at v) ∷ xs) = on_left (place a) (level a v) (lefts xs)

  abbrev pub rights : List (Choice A) → List Setting
  rights [] = []
  rights ((a at v) ∷ xs) = on_right (place a) (level a v) (rights xs)

-- a column that is the column of none of the settings of its table
abbrev pub ApartAt : Place → List Setting → List Setting → Type 0
ApartAt (left q) ls rs = Apart q ls
ApartAt (right q) ls rs = Apart q rs

apart_sides : (p o : Place) (v : ℕ) (ls rs : List Setting) → Differ p o → ApartAt p ls rs → ApartAt p (on_left o v ls) (on_right o v rs)
unfolding Apart
apart_sides (left q) (left d) v ls rs n a = (n, a)
apart_sides (left q) (right d) v ls rs n a = a
apart_sides (right q) (left d) v ls rs n a = a
apart_sides (right q) (right d) v ls rs n a = (n, a)

-- none of the choices has the column
abbrev Clear : {A : Type 0} → (A → Place) → Place → List (Choice A) → Type 0
Clear place p [] = Unit {0}
Clear place p ((b at v) ∷ xs) = Differ p (place b) × Clear place p xs

apart_none : (p : Place) → ApartAt p [] []
unfolding Apart
apart_none (left q) = tt
apart_none (right q) = tt

clear_apart : {A : Type 0} (place : A → Place) (level : A → ℕ → ℕ) (p : Place) (xs : List (Choice A)) → Clear place p xs
    → ApartAt p (lefts place level xs) (rights place level xs)
clear_apart place level p [] c = apart_none p
clear_apart place level p ((b at v) ∷ xs) c =
    apart_sides p (place b) (level b v) (lefts place level xs) (rights place level xs) c.0 (clear_apart place level p xs c.1)

length_sides : (p : Place) (v : ℕ) (ls rs : List Setting) → length (on_left p v ls) + length (on_right p v rs) ≡ suc (length ls + length rs)
length_sides (left q) v ls rs = omega arith
length_sides (right q) v ls rs = omega arith

pub length_separate : {A : Type 0} (place : A → Place) (level : A → ℕ → ℕ) (xs : List (Choice A))
    → length (lefts place level xs) + length (rights place level xs) ≡ length xs
length_separate place level [] = refl
length_separate place level ((a at v) ∷ xs) = length_sides (place a) (level a v) (lefts place level xs) (rights place level xs) ∙ ap suc (length_separate place level xs)

module _ (S T : Table) where
  abbrev pub levels_at : Place → ℕ
  levels_at (left q) = levels_of S q
  levels_at (right q) = levels_of T q

  -- the level in run i of the one table, or in run y of the other
  abbrev pub cell_at : ℕ → ℕ → Place → ℕ
  cell_at i y (left q) = S.cell i q
  cell_at i y (right q) = T.cell y q

  abbrev pub Placed : Place → Type 0
  Placed (left q) = q < columns S
  Placed (right q) = q < columns T

  shows_sides : (i y : ℕ) (p : Place) (v : ℕ) (ls rs : List Setting)
      → (eqb (cell_at i y p) v && (shows S ls i && shows T rs y)) ≡ (shows S (on_left p v ls) i && shows T (on_right p v rs) y)
  unfolding shows
  shows_sides i y (left q) v ls rs = sym (and_assoc (eqb (S.cell i q) v) (shows S ls i) (shows T rs y))
  shows_sides i y (right q) v ls rs = and_left_comm (eqb (T.cell y q) v) (shows S ls i) (shows T rs y)

  combinations_sides : (p : Place) (v : ℕ) (ls rs : List Setting)
      → levels_at p * (combinations S ls * combinations T rs) ≡ combinations S (on_left p v ls) * combinations T (on_right p v rs)
  unfolding combinations
  combinations_sides (left q) v ls rs = sym (mul_assoc (levels_of S q) (combinations S ls) (combinations T rs))
  combinations_sides (right q) v ls rs = mul_left_comm (levels_of T q) (combinations S ls) (combinations T rs)

  settings_sides : (p : Place) (v : ℕ) (ls rs : List Setting) → Placed p → v < levels_at p → ApartAt p ls rs
      → Settings S ls × Settings T rs
      → Settings S (on_left p v ls) × Settings T (on_right p v rs)
  unfolding Settings
  settings_sides (left q) v ls rs on below apart s = ((on, below, apart, s.0), s.1)
  settings_sides (right q) v ls rs on below apart s = (s.0, (on, below, apart, s.1))

-- Every allowed source has a column in one of the two tables, with as many levels, and takes levels to levels. Two that are apart have two
-- columns.
pub record Placing (S T : Table) {A : Type 0} (P : A → Type 0) (R : A → A → Type 0) (levels : A → ℕ) (place : A → Place) (level : A → ℕ → ℕ)
    : Type 0 where
  pub placed : (a : A) → P a → Placed S T (place a)
  pub as_many : (a : A) → P a → levels a ≡ levels_at S T (place a)
  pub below : (a : A) (v : ℕ) → P a → v < levels a → level a v < levels a
  pub differ : (a b : A) → R a b → Differ (place a) (place b)

module _ {S T : Table} {A : Type 0} {P : A → Type 0} {R : A → A → Type 0} {levels : A → ℕ} {place : A → Place} {level : A → ℕ → ℕ}
    (placing : Placing S T P R levels place level) where
  clear_of_apart : (a : A) (xs : List (Choice A)) → AllApart R a xs → Clear place (place a) xs
  clear_of_apart a [] r = tt
  clear_of_apart a ((b at v) ∷ xs) r = (placing.differ a b r.0, clear_of_apart a xs r.1)

  -- a column that no allowed source has
  pub apart_separate : (p : Place) → ((a : A) → P a → Differ p (place a)) → (xs : List (Choice A)) → Allowed P R levels xs
      → ApartAt p (lefts place level xs) (rights place level xs)
  apart_separate p other xs ok = clear_apart place level p xs (clear xs ok)
    where
      clear : (ys : List (Choice A)) → Allowed P R levels ys → Clear place p ys
      clear [] o = tt
      clear ((b at v) ∷ ys) o = (other b o.0, clear ys o.3)

  pub settings_separate : (xs : List (Choice A)) → Allowed P R levels xs → Settings S (lefts place level xs) × Settings T (rights place level xs)
  unfolding Settings
  settings_separate [] ok = (tt, tt)
  settings_separate ((a at v) ∷ xs) ok =
      settings_sides
      S
      T
      (place a)
      (level a v)
      (lefts place level xs)
      (rights place level xs)
      (placing.placed a ok.0)
      (rw (placing.as_many a ok.0) at (placing.below a v ok.0 ok.1))
      (clear_apart place level (place a) xs (clear_of_apart a xs ok.2))
      (settings_separate xs ok.3)

  pub combinations_separate : (xs : List (Choice A)) → Allowed P R levels xs
      → choices levels xs ≡ combinations S (lefts place level xs) * combinations T (rights place level xs)
  unfolding combinations
  combinations_separate [] ok = refl
  combinations_separate ((a at v) ∷ xs) ok =
      ap₂ ◌*◌ (placing.as_many a ok.0) (combinations_separate xs ok.3)
      ∙ combinations_sides S T (place a) (level a v) (lefts place level xs) (rights place level xs)

  -- where the tests of single choices agree with those of their columns, in runs i and y
  pub shows_separate : (value : A → ℕ) (i y : ℕ)
      → ((a : A) (v : ℕ) → P a → v < levels a → eqb (value a) v ≡ eqb (cell_at S T i y (place a)) (level a v))
      → (xs : List (Choice A)) → Allowed P R levels xs
      → chosen value xs ≡ (shows S (lefts place level xs) i && shows T (rights place level xs) y)
  unfolding shows
  shows_separate value i y agree [] ok = refl
  shows_separate value i y agree ((a at v) ∷ xs) ok =
      ap₂ ◌&&◌ (agree a v ok.0 ok.1) (shows_separate value i y agree xs ok.3)
      ∙ shows_sides S T i y (place a) (level a v) (lefts place level xs) (rights place level xs)
