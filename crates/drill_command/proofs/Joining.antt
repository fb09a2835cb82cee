-- What was drawn for the tokens of a session makes its two ends an honest pair.
use Rattle.std.proofs.Common.{◌≡◌, ◌∙◌, ◌<◌, ◌+◌, ℕ, zero, suc, refl, ap, sym, subst, arith, List, [], ◌∷◌, ◌++◌, length, map, take, replicate, slice_get}
use Rattle.std.specs.List.{AllByRecursion}
use Rattle.base64.specs.GeneralPurpose.{IsBytes}
use Rattle.spnego_core.specs.Ends.{PlainSetup}
use Rattle.spnego_core.specs.Exchange.{Occasion, HonestPair}
use Rattle.gss_server.specs.declared.answer.Kept.{Kept}
use Rattle.pair_laws.specs.Creation.{IsAt, padded}
use Rattle.pair_laws.specs.Honest.{occasion_of}
use Rattle.pair_laws.specs.Linked.{kept_of}
use Rattle.pair_laws.specs.Meeting.{IsDrawn, drawn_on, MeetLaw}
use Rattle.drill_command.specs.Fitting.{IsGiven, tokens_for, FitLaw}
use Rattle.drill_command.specs.Paired.{HasOctets, AreOnTime, IsPaired, drawn_from}
use Rattle.drill_plan.specs.Sessions.{moment_of, kind_of}
use Rattle.drill_plan.specs.Setting.{drill_acceptor}
use Rattle.drill_command.proofs.Fitting.{take-bytes}

-- what the acceptor is given with so many tokens of a session, by these answers
abbrev pub occasions_of : ℕ → ℕ → List Kept → List Occasion
occasions_of moment n kept = padded moment n (map occasion_of (kept_of kept))

-- what counts as drawn for so many tokens
abbrev pub draws_to : ℕ → ℕ → List Kept → List (List ℕ)
draws_to moment n kept = drawn_on (occasions_of moment n kept)

one-drawn : (moment n : ℕ) (kept : List Kept) → draws_to moment (suc n) kept ≡ draws_to moment n kept ++ drawn_from (slice_get kept n) ∷ []
one-drawn moment zero [] = refl
one-drawn moment zero (first ∷ kept) = refl
one-drawn moment (suc n) [] = ap (λ (ds : List (List ℕ)). replicate 66 0 ∷ ds) (one-drawn moment n [])
one-drawn moment (suc n) (first ∷ kept) = ap (λ (ds : List (List ℕ)). take 66 first.draws ∷ ds) (one-drawn moment n kept)

pub draws-more : (moment n : ℕ) (kept : List Kept) (all all' : List (List ℕ)) (one : List ℕ) → all' ≡ all ++ one ∷ [] → one ≡ drawn_from (slice_get kept n) → all ≡ draws_to moment n kept → all' ≡ draws_to moment (n + 1) kept
draws-more moment n kept all all' one added is e =
    let next : suc n ≡ n + 1 = omega arith in
    added ∙ (ap (λ (ds : List (List ℕ)). ds ++ one ∷ []) e ∙ (ap (λ (d : List ℕ). draws_to moment n kept ++ d ∷ []) is ∙ (sym (one-drawn moment n kept) ∙ ap (λ (m : ℕ). draws_to moment m kept) next)))

pub drawn-more : (draws : List (List ℕ)) (one : List ℕ) → AllByRecursion IsDrawn draws → IsDrawn one → AllByRecursion IsDrawn (draws ++ one ∷ [])
drawn-more [] one each here = (here, tt)
drawn-more (first ∷ draws) one each here = (each.0, drawn-more draws one each.1 here)

zero-bytes : (n : ℕ) → IsBytes (replicate n 0)
zero-bytes zero i = omega arith
zero-bytes (suc n) zero = omega arith
zero-bytes (suc n) (suc i) = zero-bytes n i

many : (moment n : ℕ) (occasions : List Occasion) → length (padded moment n occasions) ≡ n
many moment zero occasions = refl
many moment (suc n) [] = ap suc (many moment n [])
many moment (suc n) (occasion ∷ occasions) = ap suc (many moment n occasions)

all-given : (number n : ℕ) (kept : List Kept) → AllByRecursion (IsAt (moment_of number)) (kept_of kept) → AllByRecursion HasOctets kept → AllByRecursion IsDrawn (draws_to (moment_of number) n kept) → AllByRecursion (IsGiven number) (occasions_of (moment_of number) n kept)
all-given number zero kept moments octets drawn = tt
all-given number (suc n) [] moments octets drawn = (
  record { now = refl; drawn = drawn.0; octets = zero-bytes 66 },
  all-given number n [] tt tt drawn.1,
)
all-given number (suc n) (one ∷ kept) moments octets drawn = (
  record { now = moments.0; drawn = drawn.0; octets = take-bytes 66 one.draws octets.0 },
  all-given number n kept moments.1 octets.1 drawn.1,
)

pub joined : (number n : ℕ) (own : PlainSetup) (kept : List Kept) (draws : List (List ℕ)) → number < 86400 → n ≡ tokens_for (kind_of number) → draws ≡ draws_to (moment_of number) n kept → AllByRecursion IsDrawn draws → FitLaw number own → MeetLaw own draws → AreOnTime number kept → IsPaired number own kept
joined number n own kept draws day counted is drawn fits meets on =
    let occasions : List Occasion = occasions_of (moment_of number) n kept in
    let given : AllByRecursion (IsGiven number) occasions = all-given number n kept on.moments on.octets (subst (λ (ds : List (List ℕ)). AllByRecursion IsDrawn ds) is drawn) in
    let pair : HonestPair drill_acceptor own (kind_of number) occasions = meets drill_acceptor (kind_of number) occasions (sym is) (fits occasions day (many (moment_of number) n (map occasion_of (kept_of kept)) ∙ counted) given) in
    subst (λ (m : ℕ). HonestPair drill_acceptor own (kind_of number) (occasions_of (moment_of number) m kept)) counted pair
