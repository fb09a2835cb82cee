-- What each answer of an exchange is made of.
use Rattle.std.proofs.Common.{◌≡◌, ℕ, suc, inl, inr, Bool, true, false, cond, List, [], ◌∷◌, ◌++◌, length, Option, Some, None, Result, Ok, Err, refl, sym, ap, ◌∙◌, arith, subst}
use Rattle.std.specs.List.{slice_get}
use Rattle.std.specs.Cmp.Lexicographic.{same_text}
use Rattle.sha1.specs.Sha1.{sha1}
use Rattle.scram_mech.specs.declared.refusal.Stuck.{Stuck}
use Rattle.scram_mech.specs.declared.refusal.ScramRefusal.{ScramRefusal}
use Rattle.scram_mech.specs.declared.refusal.ScramRefusal.TheVariants as refusals
use Rattle.scram_mech.specs.declared.verifiers.Verifier.{Verifier}
use Rattle.scram_mech.specs.declared.state.State.{State}
use Rattle.scram_mech.specs.declared.symbols.Spot.TheVariants as spots
use Rattle.scram_mech.specs.Reading.{◌>>=◌, in_text}
use Rattle.scram_mech.specs.State.{base64, ends}
use Rattle.scram_mech.specs.Judging.{demand, same, is_extended, are_rounds, unframed}
use Rattle.scram_bindings.specs.Carried.{is_bound}
use Rattle.scram_mech.specs.Base64.{decoded}
use Rattle.scram_mech.specs.Formats.{Segment, pieces_of, piece, is_mandatory, values_of}
use Rattle.scram_mech.specs.FirstText.{first_of}
use Rattle.scram_mech.specs.SecondText.{second_of}
use Rattle.scram_mech.specs.ThirdText.{Third, third_format, third_of}
use Rattle.scram_mech.specs.FinalText.{final_of}
use Rattle.scram_mech.specs.Secrets.{Secret, stored_key, masked, proof_of, signature_of}
use Rattle.scram_mech.specs.MechMaking.{MechMaking, signature_making, proof_making, VerifiesProof, Verifies, AmongMakings}
use Rattle.scram_mech.specs.Initiator.{InitModel, WaitModel, InitAnswered, InitFinished, secret_of, bare_of, auth_of, answer_with, init_answered, init_finished}
use Rattle.scram_mech.specs.Verifiers.{line_for}
use Rattle.scram_mech.specs.Acceptor.{AcceptModel, AcceptStarted, AcceptFinished, nonce_of, line_or_none, auth_with, is_proof, finish_with, accept_started, accept_finished}
use Rattle.scram_mech.specs.Laws as laws
use Rattle.scram_mech.proofs.SymbolSteps.{st, some_is}
use Rattle.scram_mech.proofs.Signs64.{decodes}
use Rattle.scram_mech.proofs.ValueFacts.{symbols_walk}
use Rattle.scram_mech.proofs.Pieces.{Spelled, Takes, bind_ok, pieces_of-found}
use Rattle.scram_mech.proofs.Masks.{proof-gives, length-proof}

demanded : {E : Type 0} (b : Bool) (e : E) (u : Unit {0}) → demand b e ≡ Ok u → b ≡ true
demanded true e u h = refl
demanded false e u h = absurd cc

same_is : (a b : List ℕ) → same a b ≡ true → a ≡ b
same_is a b e = same_text a b (sym e)

abbrev pub given : {A : Type 0} → A → Result A ScramRefusal
given x = Ok x

pub given_is : {A : Type 0} (x y : A) → given x ≡ given y → x ≡ y
given_is x y e = cc

-- ---- the initiator

pub proves : (init : InitModel) (text : List ℕ) (answered : InitAnswered) → init_answered init text ≡ given answered → laws.Proves init text answered
unfolding init_answered
proves init text answered e =
    let b = bind_ok (second_of text) (λ second. demand (is_extended init.nonce second.nonce) refusals.Nonce >>= (λ fresh. demand (are_rounds second.rounds) refusals.Rounds >>= (λ ranged. Ok (answer_with init (bare_of init second) (secret_of init second) (auth_of init text second))))) answered e in
    let c = bind_ok (demand (is_extended init.nonce b.0.nonce) refusals.Nonce) (λ fresh. demand (are_rounds b.0.rounds) refusals.Rounds >>= (λ ranged. Ok (answer_with init (bare_of init b.0) (secret_of init b.0) (auth_of init text b.0)))) answered b.2 in
    let d = bind_ok (demand (are_rounds b.0.rounds) refusals.Rounds) (λ ranged. Ok (answer_with init (bare_of init b.0) (secret_of init b.0) (auth_of init text b.0))) answered c.2 in
    record {
      second = b.0;
      read = b.1;
      extends = demanded (is_extended init.nonce b.0.nonce) refusals.Nonce c.0 c.1;
      ranged = demanded (are_rounds b.0.rounds) refusals.Rounds d.0 d.1;
      same = sym (given_is (answer_with init (bare_of init b.0) (secret_of init b.0) (auth_of init text b.0)) answered d.2);
    }

-- what was found when a final text was taken
abbrev finished_with : WaitModel → InitFinished → InitFinished
finished_with wait f = record { done = f.done; found = signature_making wait.server wait.auth ∷ [] }

only_signature : (server auth signature : List ℕ) (making : MechMaking) → signature_of server auth ≡ signature → AmongMakings (signature_making server auth ∷ []) making → Verifies making signature
only_signature server auth signature making e (inl a) = subst (λ (m : MechMaking). Verifies m signature) (sym a) (sym e)
only_signature server auth signature making e (inr b) = absurd b

pub completes : (wait : WaitModel) (text : List ℕ) (finished : InitFinished) → init_finished wait text ≡ given finished → laws.Completes wait text finished
unfolding init_finished
completes wait text finished e =
    let b = bind_ok (final_of text) _ finished e in
    let c = bind_ok (demand (same (signature_of wait.server wait.auth) b.0) refusals.Signature) _ finished b.2 in
    let is = sym (given_is _ finished c.2) in
    let verified = same_is (signature_of wait.server wait.auth) b.0 (demanded (same (signature_of wait.server wait.auth) b.0) refusals.Signature c.0 c.1) in
    let found = ap (λ (f : InitFinished). f.found) is in
    record {
      signature = b.0;
      read = b.1;
      found = found;
      verified = λ making among. only_signature wait.server wait.auth b.0 making verified (subst (λ (ms : List MechMaking). AmongMakings ms making) found among);
      key = ap (λ (f : InitFinished). f.done.key) is;
      initiator = ap (λ (f : InitFinished). f.done.initiator) is;
      acceptor = ap (λ (f : InitFinished). f.done.acceptor) is;
      hash = ap (λ (f : InitFinished). f.done.hash) is;
    }

-- ---- the acceptor

line_here : (first : Verifier) (others : List Verifier) (name : List ℕ) (line : Verifier) → (line_for others name ≡ Some line → (place : ℕ) × (slice_get others place ≡ Some line) × (line.name ≡ name)) → (b : Bool) → same first.name name ≡ b → cond b (Some first) (line_for others name) ≡ Some line
    → (place : ℕ) × (slice_get (first ∷ others) place ≡ Some line) × (line.name ≡ name)
line_here first others name line more true t e =
    let is : first ≡ line = some_is first line e in (0, ap Some is, ap (λ (l : Verifier). l.name) (sym is) ∙ same_is first.name name t)
line_here first others name line more false t e = let r = more e in (suc r.0, r.1, r.2)

line_found : (lines : List Verifier) (name : List ℕ) (line : Verifier) → line_for lines name ≡ Some line → (place : ℕ) × (slice_get lines place ≡ Some line) × (line.name ≡ name)
line_found [] name line e = absurd cc
line_found (first ∷ others) name line e = line_here first others name line (λ f. line_found others name line f) (same first.name name) refl e

line_some : (o : Option Verifier) (line : Verifier) → line_or_none o ≡ given line → o ≡ Some line
line_some None line e = absurd cc
line_some (Some l) line e = ap Some (given_is l line e)

pub takes : (lines : List Verifier) (token draw : List ℕ) (started : AcceptStarted) → accept_started lines token draw ≡ given started → laws.Takes lines token draw started
unfolding accept_started
takes lines token draw started e =
    let b = bind_ok (unframed token) _ started e in
    let c = bind_ok (first_of b.0) _ started b.2 in
    let d = bind_ok (line_or_none (line_for lines c.0.name)) _ started c.2 in
    let is = sym (given_is _ started d.2) in
    let found = line_found lines c.0.name d.0 (line_some (line_for lines c.0.name) d.0 d.1) in
    record {
      text = b.0;
      first = c.0;
      line = d.0;
      place = found.0;
      framed = b.1;
      read = c.1;
      there = found.1;
      named = found.2;
      end = ap (λ (s : AcceptStarted). s.end) is;
      token_is = ap (λ (s : AcceptStarted). s.token) is;
    }

-- a proof that is read has 20 octets
in_text_ok : {A : Type 0} (text : List ℕ) (r : Result A Stuck) (x : A) → in_text text r ≡ given x → r ≡ Ok x
in_text_ok text (Ok y) x e = ap Ok (given_is y x e)
in_text_ok text (Err d) x e = absurd cc

values_by : (format : List Segment) (text : List ℕ) (values : List (List ℕ)) (b : Bool) → cond b (Err refusals.Mandatory) (in_text text (pieces_of format text)) ≡ given values → pieces_of format text ≡ Ok values
values_by format text values true e = absurd cc
values_by format text values false e = in_text_ok text (pieces_of format text) values e

pub values-read : (format : List Segment) (text : List ℕ) (values : List (List ℕ)) → values_of format text ≡ given values → pieces_of format text ≡ Ok values
unfolding values_of
values-read format text values e = values_by format text values (is_mandatory text) e

twenty : (value rest : List ℕ) → Takes (base64 20 20) value rest → length (decoded value) ≡ 20
twenty value rest t =
    let w = symbols_walk (st spots.First 20 20) value t.last t.passed in
    let d = decodes 20 20 value w.0 w.1 (subst (λ (s : State). ends s ≡ true) (sym w.2) t.ended) in
    omega (arith, d.enough, d.few)

third_values : (values : List (List ℕ)) (text rest : List ℕ) → Spelled third_format values text rest → length (decoded (piece values 3)) ≡ 20
unfolding third_format
third_values [] text rest s = absurd s.2
third_values (a ∷ []) text rest s = absurd s.2.3.2
third_values (a ∷ b ∷ []) text rest s = absurd s.2.3.2.3
third_values (a ∷ b ∷ c ∷ []) text rest s = absurd s.2.3.2.3.3.2
third_values (a ∷ b ∷ c ∷ d ∷ others) text rest s = twenty d s.2.3.2.3.3.2.0 s.2.3.2.3.3.2.2

pub third-proof : (text : List ℕ) (third : Third) → third_of text ≡ given third → length third.proof ≡ 20
unfolding third_of
third-proof text third e =
    let b = bind_ok (values_of third_format text) _ third e in
    let s = pieces_of-found third_format b.0 text (values-read third_format text b.0 b.1) in
    let is = given_is _ third b.2 in
    ap (λ (t : Third). length t.proof) (sym is) ∙ third_values b.0 text s.0 s.1

only_proof : (stored auth proof : List ℕ) (making : MechMaking) → length proof ≡ 20 → sha1 (masked stored auth proof) ≡ stored → AmongMakings (proof_making stored auth proof ∷ []) making → Verifies making []
only_proof stored auth proof making long gives (inl a) =
    subst (λ (m : MechMaking). Verifies m []) (sym a) (record { auth = auth; proof = proof; parts = refl; sized = long; gives = gives; bare = refl })
only_proof stored auth proof making long gives (inr b) = absurd b

pub accepts : (accept : AcceptModel) (text : List ℕ) (bindings : Option (List ℕ)) (now : ℕ) (finished : AcceptFinished) → accept_finished accept text bindings now ≡ given finished → laws.Accepts accept text bindings now finished
unfolding accept_finished
accepts accept text bindings now finished e =
    let b = bind_ok (third_of text) _ finished e in
    let third = b.0 in
    let auth = auth_with accept third.bare in
    let c = bind_ok (demand (same third.nonce (nonce_of accept)) refusals.Nonce) _ finished b.2 in
    let d = bind_ok (demand (is_bound bindings third.binding) refusals.Bindings) _ finished c.2 in
    let p = bind_ok (demand (is_proof accept.line.stored auth third.proof) refusals.Proof) _ finished d.2 in
    let is = sym (given_is (finish_with accept third now auth) finished p.2) in
    let gives = same_is (sha1 (masked accept.line.stored auth third.proof)) accept.line.stored (demanded (is_proof accept.line.stored auth third.proof) refusals.Proof p.0 p.1) in
    record {
      third = third;
      read = b.1;
      nonce = same_is third.nonce (nonce_of accept) (demanded (same third.nonce (nonce_of accept)) refusals.Nonce c.0 c.1);
      bound = demanded (is_bound bindings third.binding) refusals.Bindings d.0 d.1;
      verified = λ making among. only_proof accept.line.stored auth third.proof making (third-proof text third b.1) gives (subst (λ (ms : List MechMaking). AmongMakings ms making) (ap (λ (f : AcceptFinished). f.found) is) among);
      same = is;
    }

pub proof-verifies : (secret : Secret) (auth : List ℕ) → VerifiesProof (stored_key secret) (auth ++ proof_of secret auth) []
unfolding stored_key
proof-verifies secret auth = record { auth = auth; proof = proof_of secret auth; parts = refl; sized = length-proof secret auth; gives = ap sha1 (proof-gives secret auth); bare = refl }
