-- The sheet that MERGE leaves, on bytes: what the function that builds it takes (document 01, "Steps by kind", step 4).
use Rattle.std.specs.Prelude.{◌≡◌, List, ℕ, length, take}
use Rattle.layout.specs.Step.{Ready}
use Rattle.layout.specs.declared.Size.{Size}
use Rattle.merge_questions.specs.Questions.{members_of, Fitting, HasRoles}

-- MERGE can be carried out: the sheet of an order is ready, the members fit it, and each column has its role
pub record Mergeable (p : ℕ) (numbers roles : List ℕ) (size : Size) (table levels scratch : List ℕ) : Type 0 where
  pub list : List ℕ
  pub ready : Ready list size table levels scratch
  pub fitting : Fitting p numbers table (take size.columns levels) size.runs
  pub enough : length roles ≡ 128
  pub given : HasRoles (members_of numbers) roles
