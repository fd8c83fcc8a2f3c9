-- Laws of numbers right-aligned: as many characters as there is room for, where the digits have room.
-- Assumes nothing.
use mathlib.Core.Path.{◌≡◌, ◌∙◌, ap}
use mathlib.Core.List.{List, [], ◌∷◌, ◌++◌, flat_map, append-nil}
use Prim.Native.Nat.{ℕ, suc, ◌-◌, ◌*◌, ◌≤◌}
use native.Mathlib.Omega.{arith}
use lib.ListN.{length, length-append, length-replicate}
use Rattle.finite.proofs.Lists.{Below, none, more}
use Rattle.decimals.specs.Decimals.{decimal_digits}
use Rattle.decimals.proofs.Decimals.{decimal_length}
use Rattle.pieces.proofs.Lists.{flat_map_append}
use Rattle.page_text.specs.Pages.{blanks, right_aligned, in_three}

pub aligned_length : (w n : ℕ) → length (decimal_digits n) ≤ w → length (right_aligned w n) ≡ w
unfolding right_aligned
aligned_length w n h =
    length-append (blanks (w - length (decimal_digits n))) (decimal_digits n)
    ∙ omega (arith, length-replicate {A = ℕ} (w - length (decimal_digits n)) 32)

-- with room for one more, one blank more before it
pub aligned_wider : (w n : ℕ) → length (decimal_digits n) ≤ w → right_aligned (suc w) n ≡ 32 ∷ right_aligned w n
unfolding right_aligned
aligned_wider w n h =
    let one : suc w - length (decimal_digits n) ≡ suc (w - length (decimal_digits n)) = omega arith in
    ap (λ (k : ℕ). blanks k ++ decimal_digits n) one

-- three characters for each number below 1,000
pub three_length : (ns : List ℕ) → Below 1000 ns → length (in_three ns) ≡ 3 * length ns
unfolding in_three flat_map
three_length [] none = omega arith
three_length (n ∷ ns) (more h b) =
    unfold in_three in
    length-append (right_aligned 3 n) (flat_map (right_aligned 3) ns)
    ∙ omega (arith, aligned_length 3 n (decimal_length 2 n (omega arith)), three_length ns b)

pub three_snoc : (ns : List ℕ) (n : ℕ) → in_three (ns ++ (n ∷ [])) ≡ in_three ns ++ right_aligned 3 n
unfolding in_three flat_map
three_snoc ns n = flat_map_append (right_aligned 3) ns (n ∷ []) ∙ ap (λ (xs : List ℕ). in_three ns ++ xs) (append-nil (right_aligned 3 n))
