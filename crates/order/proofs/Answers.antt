-- Laws of the answers of the code, for the proofs of its functions.
use mathlib.Core.Path.{◌≡◌, refl, sym, ap, ◌∙◌}
use Rattle.std.specs.Prelude.{Option, Some, None, Result, Ok, Err, IsErrAnd}
use Rattle.std.specs.Result.{result_ok}
use Rattle.std.proofs.lemmas.Result.{err_from_is_err_and}
use mathlib.Core.Bool.{Bool}
use mathlib.Core.List.{List, [], ◌∷◌}
use Prim.Native.Nat.{ℕ, zero, suc, ◌+◌, ◌-◌, ◌≤◌, ◌<◌}
use native.Mathlib.Nat.{add_assoc, add-zero, zero-add}
use native.Mathlib.Omega.{arith}
use lib.ListN.{get_or}
use Rattle.order.specs.Reader.{Parsed, value, refused, Reader, continue, give, allowed, repeated}
use Rattle.order.specs.Order.{Ingredient, Step, total}
use Rattle.order.specs.Answers.{number_of, total_of, walk_of, walk_after, located, spot_of, kind_of, stage_of}
use Rattle.order.specs.declared.Cursor.{Cursor}
use Rattle.order.specs.declared.Refused.{Refused}
use Rattle.order.specs.declared.Stage.{Stage}
use Rattle.order.specs.declared.Located.{Located}

-- A number at a place, a test's answer at it and what is accepted on that answer make the reading of a number that passes the test.
pub accepted : (test : ℕ → Bool) (list : List ℕ) (at : ℕ) {x : ℕ} {ok : Bool} {r : Result (ℕ × Cursor) Refused} → x ≡ get_or list at 0 → ok ≡ test x → r ≡ number_of (allowed (λ y. ok) list at) → r ≡ number_of (allowed test list at)
unfolding allowed
accepted test list at here passed e = e ∙ rw (passed, here)

-- What stands in two equal answers is equal.
pub value_same : {A E : Type 0} {a b : A} → ◌≡◌ {A = Result A E} (Ok a) (Ok b) → a ≡ b
value_same e = cc

pub refusal_same : {A E : Type 0} {a b : E} → ◌≡◌ {A = Result A E} (Err a) (Err b) → a ≡ b
refusal_same e = cc

pub apart : {A E C : Type 0} {a : A} {refusal : E} → ◌≡◌ {A = Result A E} (Ok a) (Err refusal) → C
apart e = absurd (let z : ◌≡◌ {A = ℕ} 0 1 = cc in omega arith)

-- What `ok` made of an answer says what the answer was.
pub taken : {A E : Type 0} (r : Result A E) {a : A} → result_ok r ≡ Some a → r ≡ Ok a
taken (Ok b) e = ap (λ x. Ok x) (some_same e)
  where
    some_same : {A : Type 0} {a b : A} → ◌≡◌ {A = Option A} (Some a) (Some b) → a ≡ b
    some_same e = cc
taken (Err refusal) e = absurd (let z : ◌≡◌ {A = ℕ} 0 1 = cc in omega arith)

pub untaken : {A E C : Type 0} (r : Result A E) → result_ok r ≡ None → ((refusal : E) → r ≡ Err refusal → C) → C
untaken (Ok a) e left = absurd (let z : ◌≡◌ {A = ℕ} 0 1 = cc in omega arith)
untaken (Err refusal) e left = left refusal refl

-- What a reader gave, from the answer made of it.
pub number_value : (p : Parsed ℕ) {x : ℕ} {next : Cursor} → number_of p ≡ Ok (x, next) → p ≡ value x next.at
unfolding number_of
number_value (value y mid) {x} {next} e =
    let same = value_same {b = (x, next)} e in
    let number : y ≡ x = ap (λ r. r.0) same in
    let there : mid ≡ next.at = ap (λ r. r.1.at) same in
    rw (number, there)
number_value (refused place) e = apart (sym e)

pub number_refused : (p : Parsed ℕ) {refusal : Refused} → number_of p ≡ Err refusal → p ≡ refused refusal.place
unfolding number_of
number_refused (value y mid) e = apart e
number_refused (refused there) e = ap (λ r. refused r.place) (refusal_same e)

pub walk_value : {A C : Type 0} (p : Parsed A) {next : Cursor} → walk_of p ≡ Ok next → ((a : A) → p ≡ value a next.at → C) → C
unfolding walk_of
walk_value (value a mid) e found = found a (ap (λ c. value a c.at) (value_same e))
walk_value (refused place) e found = apart (sym e)

pub walk_refused : {A : Type 0} (p : Parsed A) {refusal : Refused} → walk_of p ≡ Err refusal → p ≡ refused refusal.place
unfolding walk_of
walk_refused (value a mid) e = apart e
walk_refused (refused there) e = ap (λ r. refused r.place) (refusal_same e)

pub total_value : {C : Type 0} (p : Parsed (List ℕ)) {x : ℕ} {next : Cursor} → total_of p ≡ Ok (x, next) → ((xs : List ℕ) → x ≡ total xs → p ≡ value xs next.at → C) → C
unfolding total_of
total_value (value xs mid) {x} {next} e found =
    let same = value_same {b = (x, next)} e in
    found xs (sym (ap (λ r. r.0) same)) (ap (λ r. value xs r.1.at) same)
total_value (refused place) e found = apart (sym e)

pub total_refused : (p : Parsed (List ℕ)) {refusal : Refused} → total_of p ≡ Err refusal → p ≡ refused refusal.place
unfolding total_of
total_refused (value xs mid) e = apart e
total_refused (refused there) e = ap (λ r. refused r.place) (refusal_same e)

pub spot_value : {C : Type 0} (from : ℕ) (p : Parsed Ingredient) {what : Located} {next : Cursor} → spot_of from p ≡ Ok (what, next) → ((g : Ingredient) → what ≡ located from g → p ≡ value g next.at → C) → C
unfolding spot_of
spot_value from (value g mid) {what} {next} e found =
    let same = value_same {b = (what, next)} e in
    found g (sym (ap (λ r. r.0) same)) (ap (λ r. value g r.1.at) same)
spot_value from (refused place) e found = apart (sym e)

pub spot_refused : (from : ℕ) (p : Parsed Ingredient) {refusal : Refused} → spot_of from p ≡ Err refusal → p ≡ refused refusal.place
unfolding spot_of
spot_refused from (value g mid) e = apart e
spot_refused from (refused there) e = ap (λ r. refused r.place) (refusal_same e)

pub stage_value : {C : Type 0} (from : ℕ) (p : Parsed Step) {found : Stage} {next : Cursor} → stage_of from p ≡ Ok (found, next) → ((s : Step) → found.kind ≡ kind_of s → found.operands_at ≡ from → p ≡ value s next.at → C) → C
unfolding stage_of
stage_value from (value s mid) {found} {next} e rest =
    let same = value_same {b = (found, next)} e in
    rest s (sym (ap (λ r. r.0.kind) same)) (sym (ap (λ r. r.0.operands_at) same)) (ap (λ r. value s r.1.at) same)
stage_value from (refused place) e rest = apart (sym e)

pub stage_refused : (from : ℕ) (p : Parsed Step) {refusal : Refused} → stage_of from p ≡ Err refusal → p ≡ refused refusal.place
unfolding stage_of
stage_refused from (value s mid) e = apart e
stage_refused from (refused there) e = ap (λ r. refused r.place) (refusal_same e)

pub stage_stops : (from : ℕ) (p : Parsed Step) {refusal : Refused} → walk_of p ≡ Err refusal → Err refusal ≡ stage_of from p
unfolding stage_of
stage_stops from p e = rw (walk_refused p e)

-- What a `?` returns where it goes out is the refusal that came in.
pub passed_on : {A : Type 0} {r whole : Result A Refused} {refusal : Refused} → IsErrAnd r (λ out. out ≡ refusal) → Err refusal ≡ whole → r ≡ whole
passed_on {r = r} h e = let out = err_from_is_err_and r h in rw (out.1, out.2) e

-- A reading p that k continues, and an answer f of the whole: where p is refused the answer is a refusal, and otherwise k's.
module _ {A B R : Type 0} (f : Parsed B → R) (k : A → ℕ → Parsed B) (p : Parsed A) where
  pub walk_stop : {refusal : Refused} → walk_of p ≡ Err refusal → f (refused refusal.place) ≡ f (continue p k)
  walk_stop e = rw (walk_refused p e)

  pub walk_go : {r : R} {next : Cursor} → walk_of p ≡ Ok next → ((a : A) → p ≡ value a next.at → r ≡ f (k a next.at)) → r ≡ f (continue p k)
  walk_go e rest = walk_value p e λ a v. rest a v ∙ rw v

module _ {B R : Type 0} (f : Parsed B → R) (k : ℕ → ℕ → Parsed B) (p : Parsed ℕ) where
  pub number_stop : {refusal : Refused} → number_of p ≡ Err refusal → f (refused refusal.place) ≡ f (continue p k)
  number_stop e = rw (number_refused p e)

  pub number_go : {r : R} {x : ℕ} {next : Cursor} → number_of p ≡ Ok (x, next) → r ≡ f (k x next.at) → r ≡ f (continue p k)
  number_go e rest = rest ∙ rw (number_value p e)

module _ {B R : Type 0} (f : Parsed B → R) (k : List ℕ → ℕ → Parsed B) (p : Parsed (List ℕ)) where
  pub total_stop : {refusal : Refused} → total_of p ≡ Err refusal → f (refused refusal.place) ≡ f (continue p k)
  total_stop e = rw (total_refused p e)

  pub total_go : {r : R} {x : ℕ} {next : Cursor} → total_of p ≡ Ok (x, next) → ((xs : List ℕ) → x ≡ total xs → p ≡ value xs next.at → r ≡ f (k xs next.at)) → r ≡ f (continue p k)
  total_go e rest = total_value p e λ xs same v. rest xs same v ∙ rw v

-- The same where the answer is the cursor alone.
pub walk_stops : {A B : Type 0} (k : A → ℕ → Parsed B) (p : Parsed A) {refusal : Refused} → walk_of p ≡ Err refusal → Err refusal ≡ walk_of (continue p k)
unfolding walk_of
walk_stops k p e = rw (walk_refused p e)

pub number_stops : {B : Type 0} (k : ℕ → ℕ → Parsed B) (p : Parsed ℕ) {refusal : Refused} → number_of p ≡ Err refusal → Err refusal ≡ walk_of (continue p k)
unfolding walk_of
number_stops k p e = rw (number_refused p e)

-- The last values that are read, of which something is made.
pub walk_last : {A B : Type 0} (g : A → B) (p : Parsed A) {r : Result Cursor Refused} → r ≡ walk_of p → r ≡ walk_of (continue p (λ a next. value (g a) next))
unfolding walk_of
walk_last g (value a next) e = e
walk_last g (refused place) e = e

pub number_last : {B : Type 0} (g : ℕ → B) (p : Parsed ℕ) {x : Result (ℕ × Cursor) Refused} {r : Result Cursor Refused} → r ≡ walk_after x → x ≡ number_of p → r ≡ walk_of (continue p (λ a next. value (g a) next))
unfolding walk_of number_of
number_last g (value y next) e h = e ∙ rw h
number_last g (refused place) e h = e ∙ rw h

-- A value in front changes nothing but the values.
walk_cons : {A : Type 0} (a : A) (p : Parsed (List A)) → walk_of (continue p (λ xs next. give (a ∷ xs) [] next)) ≡ walk_of p
unfolding walk_of
walk_cons a (value xs next) = refl
walk_cons a (refused place) = refl

-- One of n values, after so many of them.
module _ {A : Type 0} (r : Reader A) (list : List ℕ) (at n done : ℕ) where
  pub times_on : {a : A} {next : ℕ} → done < n → r list at ≡ value a next → walk_of (repeated (n - done) r list at) ≡ walk_of (repeated (n - (done + 1)) r list next)
  times_on {a} {next} h e =
      let more : n - done ≡ suc (n - (done + 1)) = omega arith in
      rw (more, e) (walk_cons a (repeated (n - (done + 1)) r list next))

  pub times_refused : {refusal : Refused} → done < n → r list at ≡ refused refusal.place → walk_of (repeated (n - done) r list at) ≡ Err refusal
  unfolding walk_of
  times_refused h e =
      let more : n - done ≡ suc (n - (done + 1)) = omega arith in
      rw (more, e)

  pub times_done : n ≤ done → walk_of (repeated (n - done) r list at) ≡ Ok (record { at = at })
  unfolding walk_of
  times_done h =
      let none : n - done ≡ 0 = omega arith in
      rw none

-- A number's answer with k added.
abbrev pub plus : ℕ → Result (ℕ × Cursor) Refused → Result (ℕ × Cursor) Refused
plus k (Ok (x, next)) = Ok (k + x, next)
plus k (Err refusal) = Err refusal

plus_cons : (k x : ℕ) (p : Parsed (List ℕ)) → plus k (total_of (continue p (λ xs next. give (x ∷ xs) [] next))) ≡ plus (k + x) (total_of p)
unfolding total_of
plus_cons k x (value xs next) = rw add_assoc
plus_cons k x (refused place) = refl

pub plus_zero : (p : Parsed (List ℕ)) → plus 0 (total_of p) ≡ total_of p
unfolding total_of
plus_zero (value xs next) = rw zero-add
plus_zero (refused place) = refl

-- The same for the sum of n values, with k read before.
module _ (r : Reader ℕ) (list : List ℕ) (at k n done : ℕ) where
  pub sum_on : {x next : ℕ} → done < n → r list at ≡ value x next → plus k (total_of (repeated (n - done) r list at)) ≡ plus (k + x) (total_of (repeated (n - (done + 1)) r list next))
  sum_on {x} {next} h e =
      let more : n - done ≡ suc (n - (done + 1)) = omega arith in
      rw (more, e) (plus_cons k x (repeated (n - (done + 1)) r list next))

  pub sum_refused : {refusal : Refused} → done < n → r list at ≡ refused refusal.place → plus k (total_of (repeated (n - done) r list at)) ≡ Err refusal
  unfolding total_of
  sum_refused h e =
      let more : n - done ≡ suc (n - (done + 1)) = omega arith in
      rw (more, e)

  pub sum_done : n ≤ done → plus k (total_of (repeated (n - done) r list at)) ≡ Ok (k, record { at = at })
  unfolding total_of
  sum_done h =
      let none : n - done ≡ 0 = omega arith in
      rw (none, add-zero)
