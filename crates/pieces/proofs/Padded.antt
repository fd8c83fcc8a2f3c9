-- Laws of zeros and of buffers with zeros after what they hold.
-- Assumes nothing.
use mathlib.Core.Path.{◌≡◌, sym, ◌∙◌, ap}
use mathlib.Core.Logic.{by_cases}
use mathlib.Core.List.{List, ◌++◌}
use Prim.Native.Nat.{ℕ, ◌+◌, ◌-◌, ◌≤◌, ◌<◌}
use native.Mathlib.Decide.{dec_lt}
use native.Mathlib.Omega.{arith}
use lib.ListN.{length, get_or, take, drop, length-append, length-replicate, get_or-replicate, get_or-append, get_or-eq_default}
use lib.Seq.{take_at, drop_at, get_or-append-add}
use Rattle.buffers.specs.Put.{Put}
use Rattle.pieces.specs.Padded.{zeros, padded, Zeros}
use Rattle.pieces.proofs.Lists.{drop_replicate}

-- bytes put at the front of zeros
pub put_padded : {before bytes after : List ℕ} {end : ℕ} (n : ℕ) → before ≡ zeros n → Put before 0 bytes after end → after ≡ padded n bytes
unfolding padded
put_padded {before} {bytes} {after} {end} n clear put =
    let ends : end ≡ length bytes = omega (arith, put.ends) in
    put.holds ∙ ap (λ (rest : List ℕ). bytes ++ rest) (ap (drop end) clear ∙ drop_replicate end n 0 ∙ ap (λ (m : ℕ). zeros (n - m)) ends)

-- any number of zeros
pub zeros_all : {xs : List ℕ} (n : ℕ) → xs ≡ zeros n → Zeros xs
unfolding Zeros
zeros_all n clear = clear ∙ ap zeros (sym (ap length clear ∙ length-replicate n 0))

pub padded_length : (n : ℕ) (xs : List ℕ) → length xs ≤ n → length (padded n xs) ≡ n
unfolding padded
padded_length n xs h =
    length-append xs (zeros (n - length xs)) ∙ omega (arith, length-replicate {A = ℕ} (n - length xs) 0)

pub zero_at : (n k : ℕ) → get_or (zeros n) k 0 ≡ 0
zero_at n k = by_cases (dec_lt k n) (λ h. get_or-replicate n k 0 0 h) (λ h. get_or-eq_default (zeros n) 0 {n = k} (omega (arith, length-replicate {A = ℕ} n 0)))

pub padded_at : (n : ℕ) (xs : List ℕ) (k : ℕ) → get_or (padded n xs) k 0 ≡ get_or xs k 0
unfolding padded
padded_at n xs k =
    by_cases (dec_lt k (length xs))
    (λ (h : k < length xs). get_or-append xs (zeros (n - length xs)) 0 k h)
    (λ h.
    let there : k ≡ length xs + (k - length xs) = omega arith in
    ap (λ (i : ℕ). get_or (xs ++ zeros (n - length xs)) i 0) there
    ∙ get_or-append-add xs (zeros (n - length xs)) (k - length xs) 0
    ∙ zero_at (n - length xs) (k - length xs)
    ∙ sym (get_or-eq_default xs 0 {n = k} (omega arith)))

pub padded_front : (n k : ℕ) (xs : List ℕ) → length xs ≡ k → take k (padded n xs) ≡ xs
unfolding padded
padded_front n k xs e = take_at xs (zeros (n - length xs)) k e

pub padded_after : (n k : ℕ) (xs : List ℕ) → length xs ≡ k → Zeros (drop k (padded n xs))
unfolding padded
padded_after n k xs e = zeros_all (n - length xs) (drop_at xs (zeros (n - length xs)) k e)

-- what a buffer has at its front lies within it
pub padded_within : (bytes front : List ℕ) → bytes ≡ padded (length bytes) front → length front ≤ length bytes
unfolding padded
padded_within bytes front e = omega (arith, simp length-append at (ap length e))
