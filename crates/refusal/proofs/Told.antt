-- What the case of an answer tells, in the terms of its definition.
-- Assumes nothing.
use Prim.Native.Nat.{ℕ}
use mathlib.Core.Path.{◌≡◌, sym, ap, ◌∙◌}
use Rattle.refusal.specs.Number.{number_of, cause_of}
use Rattle.refusal.specs.declared.Cause.{Cause}
use Rattle.std.specs.Prelude.{Result, Ok, Err, IsErrAnd}
use Rattle.std.proofs.lemmas.Result.{err_from_is_err_and}

pub told : {A B : Type 0} (of : A → B) {x y : A} {b : B} → x ≡ y → of x ≡ b → of y ≡ b
told of case answer = sym (ap of case) ∙ answer

-- of an answer that a refusal may stand in place of: the number is the cause's, or there is none
pub refusal_told : {A : Type 0} {r : Result A Cause} {cause : Cause} {n : ℕ} → r ≡ Err cause → cause_of r ≡ n → number_of cause ≡ n
refusal_told case answer = told cause_of case answer

pub none_told : {A : Type 0} {r : Result A Cause} {x : A} {n : ℕ} → r ≡ Ok x → cause_of r ≡ n → n ≡ 0
none_told case answer = sym (told cause_of case answer)

-- the refusal that a `?` hands on
pub refused_is : {A : Type 0} (r : Result A Cause) (cause : Cause) → IsErrAnd r (λ e. e ≡ cause) → r ≡ Err cause
refused_is r cause passed = let p = err_from_is_err_and r passed in p.1 ∙ ap Err p.2

pub passed_on : {A : Type 0} (r : Result A Cause) (cause : Cause) {n : ℕ} → IsErrAnd r (λ e. e ≡ cause) → number_of cause ≡ n → cause_of r ≡ n
passed_on r cause passed answer = ap cause_of (refused_is r cause passed) ∙ answer
