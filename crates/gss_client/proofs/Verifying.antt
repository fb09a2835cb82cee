-- The first of several numbers over which a verifier is.
use Rattle.std.proofs.Common.{◌≡◌, ℕ, suc, ◌+◌, ◌-◌, ◌<◌, ◌≤◌, true, false, refl, arith, None, Some}
use Rattle.spnego_core.specs.declared.outcome.Outcome.{Outcome}
use Rattle.gss_client.specs.Again.{first_verified}
use Rattle.gss_client.specs.Judging.{AnswerValue, is_verified}

pub fits-here : (outcome : Outcome) (answer : AnswerValue) (number last : ℕ) → number ≤ last → is_verified outcome answer number ≡ true → first_verified outcome answer number (last + 1 - number) ≡ Some number
fits-here outcome answer number last le h = let e : last + 1 - number ≡ suc (last - number) = omega (arith, le) in rw (e, h) refl

pub fits-later : (outcome : Outcome) (answer : AnswerValue) (number last : ℕ) → number ≤ last → is_verified outcome answer number ≡ false → first_verified outcome answer number (last + 1 - number) ≡ first_verified outcome answer (number + 1) (last + 1 - (number + 1))
fits-later outcome answer number last le h =
    let e : last + 1 - number ≡ suc (last - number) = omega (arith, le) in
    let f : last + 1 - (number + 1) ≡ last - number = omega (arith, le) in rw (e, f, h) refl

pub fits-none : (outcome : Outcome) (answer : AnswerValue) (number last : ℕ) → last < number → first_verified outcome answer number (last + 1 - number) ≡ None
fits-none outcome answer number last lt = let e : last + 1 - number ≡ 0 = omega (arith, lt) in rw e refl
