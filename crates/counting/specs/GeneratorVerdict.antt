-- The verdict on a generator, with the first failure: document 01, question 4.
use Rattle.std.specs.Prelude.{Bool, cond, ◌&&◌, List, [], ◌∷◌, map, ℕ, ◌+◌, ◌^◌, eqb, ltb, length, Result, Ok, Err}
use Rattle.std.proofs.Math.Option
use Rattle.std.proofs.Math.Option.{Option, none, some}
use Rattle.finite.specs.Sum.{every}
use Rattle.finite.specs.First.{first, first_pair}
use Rattle.finite.specs.Digits.{digits}
use Rattle.galois.specs.Arithmetic.{field_sum, field_product}
use Rattle.galois.specs.Combination.{combination}
use Rattle.counting.specs.Generator.{Generator, factors, columns_of}
use Rattle.counting.specs.declared.verdict.DependenceFault.{DependenceFault}

-- a field's sum and product
module _ (plus times : ℕ → ℕ → ℕ) where
  -- the coefficient list number v, read base s, first highest, combines the columns to zero in every row
  unfoldable pub combines_to_zero : Generator → List ℕ → ℕ → Bool
  combines_to_zero G cs v =
      every G.coordinates
      (λ r. eqb (combination plus times (digits G.size (length cs) v) (map (G.entry r) cs)) 0)

  -- the least such number but 0
  unfoldable pub dependence : Generator → List ℕ → Option ℕ
  dependence G cs = first (G.size ^ length cs) (λ v. cond (ltb 0 v && combines_to_zero G cs v) (some v) none)

  -- the dependence of two factors; factors are named from 1
  abbrev pub pair_dependence : Generator → ℕ → ℕ → Option DependenceFault
  pair_dependence G i j =
      Option.map (λ (v : ℕ). record { first = i + 1; second = j + 1; coefficients = v })
      (dependence G (columns_of G.widths (i ∷ j ∷ [])))

  -- the dependence of an only factor, with 0 in the place of a second
  abbrev pub only_dependence : Generator → Option DependenceFault
  only_dependence G =
      Option.map (λ (v : ℕ). record { first = 1; second = 0; coefficients = v })
      (dependence G (columns_of G.widths (0 ∷ [])))

  -- the only factor, or the first two in the order 1-2, 1-3, .., 2-3, ..
  unfoldable pub generator_fault : Generator → Option DependenceFault
  generator_fault G = cond (eqb (factors G) 1) (only_dependence G) (first_pair (factors G) (pair_dependence G))

abbrev pub generator_finding : Option DependenceFault → Result (Unit {0}) DependenceFault
generator_finding none = Ok tt
generator_finding (some fault) = Err fault

-- over the field of the generator's size
unfoldable pub generator_verdict : Generator → Result (Unit {0}) DependenceFault
generator_verdict G = generator_finding (generator_fault (field_sum G.size) (field_product G.size) G)
