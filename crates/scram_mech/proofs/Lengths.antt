-- How long the texts are that both ends write.
use Rattle.std.proofs.Common.{◌≡◌, ℕ, zero, suc, ◌+◌, ◌≤◌, true, List, [], ◌∷◌, ◌++◌, codes, length, Option, Some, None, Result, Ok, Err, refl, ap, subst, arith, length-append}
use Rattle.std.specs.Prelude.{IfOk, slice_get}
use Rattle.std.specs.Fmt.{decimal}
use Rattle.std.proofs.lemmas.Fmt.{length-decimal-le}
use Rattle.std.proofs.lemmas.Bool.Decides.{nat_tests}
use Rattle.sec_base.specs.Answers.{Gives}
use Rattle.scram_mech.specs.declared.verifiers.Verifier.{Verifier}
use Rattle.scram_mech.specs.declared.refusal.ScramRefusal.{ScramRefusal}
use Rattle.scram_mech.specs.declared.refusal.ScramRefusal.TheVariants as refusals
use Rattle.scram_mech.specs.Reading.{seen}
use Rattle.scram_mech.specs.Base64.{encoded}
use Rattle.scram_mech.specs.Judging.{are_rounds}
use Rattle.scram_bindings.specs.Carried.{data_of}
use Rattle.scram_mech.specs.SecondText.{second_text}
use Rattle.scram_mech.specs.ThirdText.{bare_text, with_proof}
use Rattle.scram_mech.specs.FinalText.{final_text}
use Rattle.scram_mech.specs.Secrets.{proof_of, signature_of}
use Rattle.scram_mech.specs.Initiator.{InitModel, InitAnswered, Proving, proving, secret_of, bare_of, auth_of, init_answered}
use Rattle.scram_mech.specs.VerifierFile.{IsLine, AreLines}
use Rattle.scram_mech.specs.Acceptor.{AcceptModel, AcceptStarted, AcceptFinished, Accepting, accepting, nonce_of, accept_with, auth_with, accept_started, accept_finished}
use Rattle.scram_mech.proofs.Written.{length-encoded}
use Rattle.scram_mech.proofs.Masks.{length-proof, length-signature}
use Rattle.scram_mech.proofs.ExchangeLaws.{proves, takes, accepts}
use Rattle.scram_mech.proofs.FoundTexts.{first-found, second-found}

-- ---- the lines of verifiers

pub line_at_place : (lines : List Verifier) (place : ℕ) (line : Verifier) → AreLines lines → slice_get lines place ≡ Some line → IsLine line
line_at_place [] place line each e = absurd (let f : None ≡ Some line = e in cc)
line_at_place (first ∷ others) zero line each e = let same : first ≡ line = cc in subst IsLine same each.0
line_at_place (first ∷ others) (suc place) line each e = line_at_place others place line each.1 e

-- ---- the initiator's proof

bare-length : (binding nonce : List ℕ) → length (bare_text binding nonce) ≡ 5 + length (encoded binding) + length nonce
unfolding bare_text
bare-length binding nonce =
    omega (arith, length-append (encoded binding ++ codes ",r=") nonce, length-append (encoded binding) (codes ",r="))

with-length : (bare proof : List ℕ) → length (with_proof bare proof) ≡ length bare + 3 + length (encoded proof)
unfolding with_proof
with-length bare proof =
    omega (arith, length-append (bare ++ codes ",p=") (encoded proof), length-append bare (codes ",p="))

pub answer_short : (init : InitModel) (text : List ℕ) (answered : InitAnswered) → length (data_of init.bindings) ≤ 32768 → init_answered init text ≡ Ok answered → length answered.token ≤ 44000
answer_short init text answered few e =
    let p = proves init text answered e in
    let nonce = (second-found text p.second p.read).fresh.few in
    let proof = proof_of (secret_of init p.second) (auth_of init text p.second) in
    let token : length answered.token ≡ length (with_proof (bare_of init p.second) proof) = ap (λ (a : InitAnswered). length a.token) p.same in
    omega (arith, token, with-length (bare_of init p.second) proof, bare-length (data_of init.bindings) p.second.nonce, length-encoded (data_of init.bindings), length-encoded proof, length-proof (secret_of init p.second) (auth_of init text p.second), nonce, few)

pub answer_given : (init : InitModel) (text : List ℕ) {A : Type 0} (view : A → Proving) (result : Result A ScramRefusal) → length (data_of init.bindings) ≤ 32768
    → Gives refusals.NoMemory view result (seen proving (init_answered init text)) → IfOk result (λ a. length (view a).token ≤ 44000)
answer_given init text view (Ok a) few g = go (init_answered init text) refl g
  where
    go : (r : Result InitAnswered ScramRefusal) → init_answered init text ≡ r → seen proving r ≡ Ok (view a) → length (view a).token ≤ 44000
    go (Ok answered) is e =
        let same : proving answered ≡ view a = cc in
        subst (λ (p : Proving). length p.token ≤ 44000) same (answer_short init text answered few is)
    go (Err refusal) is e = absurd (let f : Err refusal ≡ Ok (view a) = e in cc)
answer_given init text view (Err refusal) few g = tt

-- ---- the acceptor's texts

second-length : (nonce salt : List ℕ) (rounds : ℕ) → length (second_text nonce salt rounds) ≡ 8 + length nonce + length (encoded salt) + length (decimal rounds)
unfolding second_text
second-length nonce salt rounds =
    omega (arith, length-append (nonce ++ codes ",s=" ++ encoded salt ++ codes ",i=") (decimal rounds), length-append (nonce ++ codes ",s=" ++ encoded salt) (codes ",i="), length-append (nonce ++ codes ",s=") (encoded salt), length-append nonce (codes ",s="))

few_rounds : (rounds : ℕ) → are_rounds rounds ≡ true → rounds ≤ 200000
few_rounds rounds e = grind (arith, nat_tests)

pub second_short : (lines : List Verifier) (token draw : List ℕ) (started : AcceptStarted) → AreLines lines → length draw ≡ 18 → accept_started lines token draw ≡ Ok started → length started.token ≤ 1024
second_short lines token draw started each drawn e =
    let t = takes lines token draw started e in
    let line = line_at_place lines t.place t.line each t.there in
    let rounds = few_rounds t.line.rounds line.ranged in
    let client = (first-found t.text t.first t.read).fresh.few in
    let end = accept_with t.text t.first.nonce t.line (encoded draw) in
    omega (arith, ap length t.token_is, second-length (nonce_of end) t.line.salt t.line.rounds, length-append t.first.nonce (encoded draw), length-encoded draw, drawn, length-encoded t.line.salt, line.salted.few, client, length-decimal-le 6 t.line.rounds (omega arith) (omega (arith, rounds)) (omega (arith, rounds)))

final-length : (signature : List ℕ) → length (final_text signature) ≡ 2 + length (encoded signature)
unfolding final_text
final-length signature = omega arith

pub final_short : (accept : AcceptModel) (text : List ℕ) (bindings : Option (List ℕ)) (now : ℕ) (finished : AcceptFinished) → accept_finished accept text bindings now ≡ Ok finished → length finished.token ≤ 1024
final_short accept text bindings now finished e =
    let a = accepts accept text bindings now finished e in
    let signature = signature_of accept.line.server (auth_with accept a.third.bare) in
    let token : length finished.token ≡ length (final_text signature) = ap (λ (f : AcceptFinished). length f.token) a.same in
    omega (arith, token, final-length signature, length-encoded signature, length-signature accept.line.server (auth_with accept a.third.bare))

pub second_given : (lines : List Verifier) (token draw : List ℕ) {A : Type 0} (view : A → AcceptStarted) (result : Result A ScramRefusal) → AreLines lines → length draw ≡ 18
    → Gives refusals.NoMemory view result (accept_started lines token draw) → IfOk result (λ a. length (view a).token ≤ 1024)
second_given lines token draw view (Ok a) each drawn g = second_short lines token draw (view a) each drawn g
second_given lines token draw view (Err refusal) each drawn g = tt

pub final_given : (accept : AcceptModel) (text : List ℕ) (bindings : Option (List ℕ)) (now : ℕ) {A : Type 0} (view : A → Accepting) (result : Result A ScramRefusal)
    → Gives refusals.NoMemory view result (seen accepting (accept_finished accept text bindings now)) → IfOk result (λ a. length (view a).token ≤ 1024)
final_given accept text bindings now view (Ok a) g = go (accept_finished accept text bindings now) refl g
  where
    go : (r : Result AcceptFinished ScramRefusal) → accept_finished accept text bindings now ≡ r → seen accepting r ≡ Ok (view a) → length (view a).token ≤ 1024
    go (Ok finished) is e =
        let same : accepting finished ≡ view a = cc in
        subst (λ (p : Accepting). length p.token ≤ 1024) same (final_short accept text bindings now finished is)
    go (Err refusal) is e = absurd (let f : Err refusal ≡ Ok (view a) = e in cc)
final_given accept text bindings now view (Err refusal) g = tt
