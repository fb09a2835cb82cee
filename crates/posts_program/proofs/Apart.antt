-- What the program of posts takes and tells is told apart.
use Rattle.std.proofs.Common.{◌≡◌, ℕ, Bool, true, false, List, [], length, Some, refl, sym, subst, ◌∙◌, arith, lit≤}
use Rattle.std.specs.Prelude.{◌==◌, if◌then◌else◌}
use Rattle.std.proofs.lemmas.Bool.{eqb-true}
use Rattle.std.proofs.lemmas.List.{nil_from_length}
use Rattle.std.proofs.lemmas.Option.{none-some, same_Some}
use Rattle.rpc_msgs.specs.Words.{word, opaque}
use Rattle.rpc_program.specs.Programs.{Gives, result_in}
use Rattle.rpc_program.specs.declared.outcome.Outcome.{Outcome}
use Rattle.rpc_program.specs.declared.outcome.Outcome.TheVariants as outcomes
use Rattle.posts_program.specs.Posts.{is_one_opaque, are_args, result_of, posts_says}
use Rattle.told_apart.specs.Apart.{NoHeader, NoList, IsApart}
use Rattle.told_apart.proofs.Octets.{few-apart, word-apart, opaque-apart, read-apart, read-header}

-- a procedure's arguments are one opaque, or nothing
args-either : (Holds : List ℕ → Type 0) → ((octets : List ℕ) → is_one_opaque octets ≡ true → Holds octets) → ((octets : List ℕ) → length octets ≡ 0 → Holds octets)
    → (procedure : ℕ) (args : List ℕ) → are_args procedure args ≡ true → Holds args
args-either Holds one none procedure args h = first (procedure == 1) h
  where
    last : (length args == 0) ≡ true → Holds args
    last e = none args (eqb-true (length args) 0 e)

    third : (c : Bool) → (if c then is_one_opaque args else length args == 0) ≡ true → Holds args
    third true e = one args e
    third false e = last e

    first : (b : Bool) → (if b then is_one_opaque args else if procedure == 3 then is_one_opaque args else length args == 0) ≡ true → Holds args
    first true e = one args e
    first false e = third (procedure == 3) e

args-apart : (procedure : ℕ) (args : List ℕ) → are_args procedure args ≡ true → NoList args
args-apart = args-either NoList (λ octets one. read-apart octets 65536 one) (λ octets none. few-apart octets (omega (arith, none)))

-- what the program takes
pub posts-apart : IsApart posts_says
posts-apart = record {
  null = λ args proper. nil_from_length args (eqb-true (length args) 0 proper);
  headers = args-either NoHeader (λ octets one. read-header octets 65536 one) (λ octets none. record { few = λ call version. omega (arith, none) });
  lists = args-apart;
}

result-apart : (p0 p1 p2 : Bool) (args name : List ℕ) (posts : ℕ) → (p1 ≡ true → NoList args) → NoList (if p0 then [] else if p1 then args else if p2 then opaque name else word posts)
result-apart true p1 p2 args name posts echo = few-apart [] (lit≤ tt)
result-apart false true p2 args name posts echo = echo refl
result-apart false false true args name posts echo = opaque-apart name
result-apart false false false args name posts echo = word-apart posts

by-outcome : (args result : List ℕ) (outcome : Outcome) → Gives args result outcome → NoList result → (octets : List ℕ) → result_in args outcome ≡ Some octets → NoList octets
by-outcome args result outcomes.Args given apart octets e = subst NoList (sym given ∙ same_Some args octets e) apart
by-outcome args result (outcomes.Done told) given apart octets e = subst NoList (sym given ∙ same_Some told octets e) apart
by-outcome args result (outcomes.Refused why) given apart octets e = absurd given
by-outcome args result (outcomes.Mismatch low high) given apart octets e = absurd given
by-outcome args result outcomes.Gone given apart octets e = absurd given
by-outcome args result outcomes.NoMemory given apart octets e = absurd (none-some octets e)

-- what the program tells of a call
pub posts_told : (procedure : ℕ) (args name : List ℕ) (posts : ℕ) (outcome : Outcome) → are_args procedure args ≡ true → Gives args (result_of procedure args name posts) outcome
    → (octets : List ℕ) → result_in args outcome ≡ Some octets → NoList octets
posts_told procedure args name posts outcome proper given octets e =
    by-outcome args (result_of procedure args name posts) outcome given
    (result-apart (procedure == 0) (procedure == 1) (procedure == 2) args name posts (λ echo. args-apart procedure args proper)) octets e
