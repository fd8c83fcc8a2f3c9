-- Some of a list's members in another order; and every list of different numbers below n stands so within an increasing one of a given length.
-- Assumes nothing.
use mathlib.Core.Path.{◌≡◌, refl, sym, ap, subst}
use mathlib.Core.Logic.{◌≢◌, ◌⊎◌, inl, inr, ⊎_elim, by_cases}
use mathlib.Core.List.Memᴰ
use mathlib.Core.List.{List, [], ◌∷◌, ◌++◌, append-nil, append_assoc, Memᴰ}
use Prim.Native.Nat.{ℕ, zero, suc, pred, ◌≤◌, ◌<◌, min}
use native.Mathlib.Nat.{min-zero, lt-suc_self, le_step, lt_trans, not-suc-le-zero}
use native.Mathlib.Decide.{ℕ_discrete, dec_le}
use native.Mathlib.Omega.{arith}
use lib.ListN.{length, length-append}
use Rattle.finite.proofs.Lists.{Below, none, more}
use Rattle.counting.specs.Generator.{Increasing, columns_of, factor_columns}
use Rattle.step_tables.specs.Lists.{Distinct}

-- l has the members of rest and c, which stands somewhere among them
pub data Picked (c : ℕ) : List ℕ → List ℕ → Type 0 where
  here : {rest : List ℕ} → Picked c rest (c ∷ rest)
  there : {x : ℕ} {rest l : List ℕ} → Picked c rest l → Picked c (x ∷ rest) (x ∷ l)

-- the members of cs are members of l, each at a place of its own
pub data Within : List ℕ → List ℕ → Type 0 where
  nothing : {l : List ℕ} → Within [] l
  pick : {c : ℕ} {cs rest l : List ℕ} → Picked c rest l → Within cs rest → Within (c ∷ cs) l

-- ---- one member more

picked_middle : {c : ℕ} (xs ys : List ℕ) → Picked c (xs ++ ys) (xs ++ c ∷ ys)
picked_middle [] ys = here
picked_middle (x ∷ xs) ys = there (picked_middle xs ys)

picked_append : {c : ℕ} {rest l : List ℕ} (ys : List ℕ) → Picked c rest l → Picked c (rest ++ ys) (l ++ ys)
picked_append ys here = here
picked_append ys (there p) = there (picked_append ys p)

within_append : {cs l : List ℕ} (ys : List ℕ) → Within cs l → Within cs (l ++ ys)
within_append ys nothing = nothing
within_append ys (pick p w) = pick (picked_append ys p) (within_append ys w)

length_picked : {c : ℕ} {rest l : List ℕ} → Picked c rest l → length l ≡ suc (length rest)
length_picked here = refl
length_picked (there p) = ap suc (length_picked p)

-- a member of cs that comes last in l
within_last : {c : ℕ} {rest cs l : List ℕ} → Picked c rest cs → Within rest l → Within cs (l ++ c ∷ [])
within_last {c} {l} here w = pick (rw append-nil at (picked_middle {c = c} l [])) w
within_last {c} (there p) (pick q w) = pick (picked_append (c ∷ []) q) (within_last p w)

pub picked_below : {n c : ℕ} {rest l : List ℕ} → Picked c rest l → Below n l → (c < n) × Below n rest
picked_below here (more h b) = (h, b)
picked_below (there p) (more h b) = let (hc, br) = picked_below p b in (hc, more h br)

-- ---- different numbers below n + 1, without n

mem_picked : {x c : ℕ} {rest l : List ℕ} → Picked c rest l → Memᴰ x rest → Memᴰ x l
mem_picked here m = Memᴰ.tail m
mem_picked (there p) m = ⊎_elim Memᴰ.head (λ n. Memᴰ.tail (mem_picked p n)) (Memᴰ.cases_cons m)

absent_below : {n : ℕ} {xs : List ℕ} → (Memᴰ n xs → ⊥) → Below (suc n) xs → Below n xs
absent_below a none = none
absent_below {n} a (more {x} h b) =
    let other : x ≢ n = λ e. a (Memᴰ.head (sym e)) in
    more {x = x} (omega (arith, other)) (absent_below (λ m. a (Memᴰ.tail m)) b)

-- fs has n, and its other members are different numbers below n
record Without (n : ℕ) (fs : List ℕ) : Type 0 where
  rest : List ℕ
  picked : Picked n rest fs
  below : Below n rest
  distinct : Distinct rest

-- fs has n, or it does not
take_out : {n : ℕ} {fs : List ℕ} → Below (suc n) fs → Distinct fs → Below n fs ⊎ Without n fs
take_out none d = inl none
take_out {n} (more {x} {xs} h b) d =
    by_cases (ℕ_discrete x n)
    (λ e. inr (record {
      rest = xs;
      picked = subst (λ y. Picked n xs (y ∷ xs)) (sym e) here;
      below = absent_below (λ m. d.0 (Memᴰ.cast e m)) b;
      distinct = d.1;
    }))
    (λ other.
    let l : x < n = omega arith in
    ⊎_elim
    (λ b'. inl (more l b'))
    (λ w. inr (record {
      rest = x ∷ w.rest;
      picked = there w.picked;
      below = more l w.below;
      distinct = (λ m. d.0 (mem_picked w.picked m), w.distinct);
    }))
    (take_out b d.1))

-- ---- an increasing list around different numbers

increasing_last : (n : ℕ) (is : List ℕ) → Increasing n is → Increasing (suc n) (is ++ n ∷ [])
unfolding Increasing
increasing_last n [] h = lt-suc_self n
increasing_last n (i ∷ []) h = (h, lt-suc_self n)
increasing_last n (i ∷ j ∷ is) h = (h.0, increasing_last n (j ∷ is) h.1)

increasing_step : (n : ℕ) (is : List ℕ) → Increasing n is → Increasing (suc n) is
unfolding Increasing
increasing_step n [] h = tt
increasing_step n (i ∷ []) h = le_step h
increasing_step n (i ∷ j ∷ is) h = (h.0, increasing_step n (j ∷ is) h.1)

pub increasing_below : (n : ℕ) (is : List ℕ) → Increasing n is → Below n is
unfolding Increasing
increasing_below n [] h = none
increasing_below n (i ∷ []) h = more h none
increasing_below n (i ∷ j ∷ is) h = first_below h.0 (increasing_below n (j ∷ is) h.1)
  where
    first_below : i < j → Below n (j ∷ is) → Below n (i ∷ j ∷ is)
    first_below l (more k b) = more (lt_trans l k) (more k b)

-- an increasing list of g numbers below n, or of all where there are fewer, with the members of fs
pub record Around (n g : ℕ) (fs : List ℕ) : Type 0 where
  pub list : List ℕ
  pub increasing : Increasing n list
  pub size : length list ≡ min g n
  pub within : Within fs list

-- one number more, the last
and_last : {n g h : ℕ} {fs gs : List ℕ} (a : Around n g fs) → suc (min g n) ≡ min h (suc n) → Within gs (a.list ++ n ∷ []) → Around (suc n) h gs
and_last {n} a e w =
    record {
      list = a.list ++ n ∷ [];
      increasing = increasing_last n a.list a.increasing;
      size = omega (arith, a.size, length-append a.list (n ∷ []));
      within = w;
    }

pub around : (n g : ℕ) {fs : List ℕ} → Below n fs → Distinct fs → length fs ≤ g → Around n g fs
unfolding Increasing
around zero g none empty h = record { list = []; increasing = tt; size = sym (min-zero g); within = nothing }
around zero g (more l b) d h = absurd (not-suc-le-zero l)
around (suc n) g {fs} b d h =
    ⊎_elim
    (λ b'.
    let a = around n g b' d h in
    by_cases (dec_le g n)
    (λ few. record { list = a.list; increasing = increasing_step n a.list a.increasing; size = omega (arith, a.size); within = a.within })
    (λ many. and_last a (omega arith) (within_append (n ∷ []) a.within)))
    (λ (w : Without n fs).
    let a = around n (pred g) {fs = w.rest} w.below w.distinct (omega (arith, length_picked w.picked)) in
    and_last a (omega (arith, length_picked w.picked)) (within_last w.picked a.within))
    (take_out b d)

-- ---- the columns of factors

-- a block of columns, picked from the middle
within_block : (before block after : List ℕ) {ds : List ℕ} → Within ds (before ++ after) → Within (block ++ ds) (before ++ (block ++ after))
within_block before [] after w = w
within_block before (c ∷ block) after w = pick (picked_middle before (block ++ after)) (within_block before block after w)

module _ (us : List ℕ) where
  columns_picked : {f : ℕ} (before : List ℕ) {rest is ds : List ℕ} → Picked f rest is
      → Within ds (before ++ columns_of us rest) → Within (factor_columns us f ++ ds) (before ++ columns_of us is)
  unfolding columns_of
  columns_picked {f} before (here {rest}) w = within_block before (factor_columns us f) (columns_of us rest) w
  columns_picked {f} before {ds} (there {x} {rest} {l} p) w =
      let block = factor_columns us x in
      subst (λ l'. Within (factor_columns us f ++ ds) l') (append_assoc before block (columns_of us l))
      (columns_picked (before ++ block) p (subst (Within ds) (sym (append_assoc before block (columns_of us rest))) w))

  pub within_columns : {fs is : List ℕ} → Within fs is → Within (columns_of us fs) (columns_of us is)
  unfolding columns_of
  within_columns nothing = nothing
  within_columns (pick p w) = columns_picked [] p (within_columns w)
