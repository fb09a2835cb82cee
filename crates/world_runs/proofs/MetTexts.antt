-- A round of texts and one of a proof, by SCRAM between ends whose facts fit: what each end makes of the other's text, hands out and finds.
use Rattle.std.proofs.Common.{◌≡◌, ℕ, ◌<◌, ◌≤◌, ◌^◌, true, false, nat_lt, nat_le, refl, sym, ap, ◌∙◌, subst, arith, List, [], ◌∷◌, ◌++◌, length, take, None, Result, Ok, length-append}
use Rattle.std.proofs.lemmas.Grind.{common_steps}
use Rattle.std.proofs.lemmas.Bool.Decides.{nat_tests}
use Rattle.sha1.specs.Sha1.{sha1}
use Rattle.sec_base.specs.Moment.{greatest_moment}
use Rattle.gss_base.specs.Bindings.{hash_of}
use Rattle.gss_base.specs.Mech.{oid_of}
use Rattle.gss_base.specs.declared.mech.MechKind.TheVariants as kinds
use Rattle.der_core.specs.Frame.{framed}
use Rattle.krb_derive.proofs.Tags.{same_tag}
use Rattle.ap_exchange.specs.Draws.{drawn_nonce}
use Rattle.scram_mech.specs.declared.run.Class.TheVariants.{Printable}
use Rattle.scram_mech.specs.declared.verifiers.Verifier.{Verifier}
use Rattle.scram_mech.specs.Signs.{is_nonce}
use Rattle.scram_mech.specs.Base64.{encoded}
use Rattle.scram_mech.specs.Judging.{same, is_extended}
use Rattle.scram_bindings.specs.Carried.{data_of}
use Rattle.scram_mech.specs.FirstText.{first_text}
use Rattle.scram_mech.specs.SecondText.{second_of, second_text}
use Rattle.scram_mech.specs.ThirdText.{Third, third_of, bare_text}
use Rattle.scram_mech.specs.FinalText.{final_of}
use Rattle.scram_mech.specs.Secrets.{Secret, stored_key, server_key, auth_message, masked, proof_of, signature_of}
use Rattle.scram_mech.specs.MechMaking.{signature_making}
use Rattle.scram_mech.specs.Initiator.{InitModel, WaitModel, InitStarted, InitAnswered, InitFinished, init_started, wait_with, answer_with, init_answered, init_finished}
use Rattle.scram_mech.specs.Verifiers.{line_with}
use Rattle.scram_mech.specs.Acceptor.{AcceptModel, AcceptFinished, accept_with, auth_with, is_proof, finish_with, accept_started, accept_finished}
use Rattle.scram_mech.proofs.ExchangeLaws.{given, given_is}
use Rattle.scram_mech.proofs.Sextets.{and_true}
use Rattle.scram_mech.proofs.Written.{first-read, second-read, third-read, final-read, encoded-nonce, length-encoded, all-append, judged-whole}
use Rattle.scram_mech.proofs.Frames.{unframed-framed, first-short}
use Rattle.scram_mech.proofs.Lengths.{answer_short, final_short}
use Rattle.scram_mech.proofs.Masks.{proof-gives, length-proof, proof-octets, signature-octets, length-signature, same-key}
use Rattle.spnego_core.specs.declared.outcome.Outcome.{Outcome}
use Rattle.spnego_core.specs.declared.refusal.MechRefusal.{MechRefusal}
use Rattle.spnego_core.specs.declared.setup.AcceptSetup.{AcceptSetup}
use Rattle.spnego_core.specs.declared.setup.MechCred.TheVariants as creds
use Rattle.spnego_core.specs.MechStates as tells
use Rattle.spnego_core.specs.declared.accept_mech.AcceptMech.{AcceptMech}
use Rattle.spnego_core.specs.declared.accept_mech.AcceptMech.TheVariants as accepts
use Rattle.spnego_core.specs.declared.accept_mech.AcceptAnswer.TheVariants as answers
use Rattle.spnego_core.specs.Ends.{PlainSetup}
use Rattle.spnego_core.specs.Outcome.{outcome_of}
use Rattle.spnego_core.specs.AcceptMech.{MechTaken, proof_answered, accept_taken}
use Rattle.spnego_core.specs.Exchange.{Occasion, UserFits}
use Rattle.spnego_core.specs.InitMech.{MechBegun, MechReplied, init_begun, init_taken}
use Rattle.spnego_core.proofs.MechRounds.{pairs, texts-go}
use Rattle.world_laws.specs.Premises.{HasAuth}

-- a user and an acceptor whose facts fit on the occasion of the first text
pub record Users : Type 0 where
  pub setup : AcceptSetup
  pub own : PlainSetup
  pub user : List ℕ
  pub password : List ℕ
  pub occasion : Occasion
  pub fits : UserFits setup own user password occasion

-- ---- the four texts

abbrev pub secret : Users → Secret
secret u = record { password = u.password; salt = u.fits.salt; rounds = u.fits.rounds }

abbrev pub user_line : Users → Verifier
user_line u = line_with u.user (secret u)

abbrev own_nonce : Users → List ℕ
own_nonce u = encoded (drawn_nonce u.own.draws)

abbrev their_nonce : Users → List ℕ
their_nonce u = encoded (drawn_nonce u.occasion.drawn)

abbrev whole_nonce : Users → List ℕ
whole_nonce u = own_nonce u ++ their_nonce u

abbrev one_text : Users → List ℕ
one_text u = first_text u.user (own_nonce u)

abbrev pub init_end : Users → InitModel
init_end u = record { user = u.user; password = u.password; nonce = own_nonce u; bindings = u.own.bindings }

abbrev pub one_token : Users → List ℕ
one_token u = framed.spell (oid_of kinds.Scram, one_text u)

abbrev pub accept_end : Users → AcceptModel
accept_end u = accept_with (one_text u) (own_nonce u) (user_line u) (their_nonce u)

abbrev pub two_text : Users → List ℕ
two_text u = second_text (whole_nonce u) u.fits.salt u.fits.rounds

abbrev bare : Users → List ℕ
bare u = bare_text (data_of u.own.bindings) (whole_nonce u)

abbrev pub auth_of : Users → List ℕ
auth_of u = auth_message (one_text u) (two_text u) (bare u)

abbrev pub proof_by : Users → List ℕ
proof_by u = proof_of (secret u) (auth_of u)

abbrev pub proved : Users → InitAnswered
proved u = answer_with (init_end u) (bare u) (secret u) (auth_of u)

abbrev three : Users → Third
three u = record { binding = data_of u.own.bindings; nonce = whole_nonce u; proof = proof_by u; bare = bare u }

abbrev pub accepted : Users → ℕ → AcceptFinished
accepted u now = finish_with (accept_end u) (three u) now (auth_of u)

abbrev waiting : Users → WaitModel
waiting u = wait_with (init_end u) (secret u) (auth_of u)

abbrev pub finished : Users → InitFinished
finished u = record {
  done = record { key = (waiting u).key; subkey = false; initiator = u.user; acceptor = []; hash = (waiting u).hash; ends = greatest_moment; first = 0 };
  found = signature_making (waiting u).server (auth_of u) ∷ [];
}

-- ---- how they read

same_self : (xs : List ℕ) → same xs xs ≡ true
same_self xs = same_tag xs xs refl

longer_by : (a b : ℕ) → a < b → nat_lt a b ≡ true
longer_by a b lt = grind (arith, nat_tests)

take_front : (xs ys : List ℕ) → take (length xs) (xs ++ ys) ≡ xs
take_front xs ys = grind (arith, common_steps)

extended : (own more : List ℕ) → 0 < length more → is_extended own (own ++ more) ≡ true
extended own more some =
    let longer : nat_lt (length own) (length (own ++ more)) ≡ true = longer_by (length own) (length (own ++ more)) (omega (arith, length-append own more)) in
    let front : take (length own) (own ++ more) ≡ own = take_front own more in
    rw (longer, front, same_self own) refl

low_rounds : (n : ℕ) → nat_le 4096 n ≡ true → 0 < n
low_rounds n e = grind (arith, nat_tests)

high_rounds : (n : ℕ) → nat_le n 200000 ≡ true → n < 10 ^ 10
high_rounds n e = grind (arith, nat_tests)

nonce-length : (draw : List ℕ) → length draw ≡ 18 → length (encoded draw) ≡ 24
nonce-length draw long = omega (arith, length-encoded draw)

own-long : (u : Users) → length (own_nonce u) ≡ 24
own-long u = nonce-length (drawn_nonce u.own.draws) u.fits.honest.drawn

their-long : (u : Users) → length (their_nonce u) ≡ 24
their-long u = nonce-length (drawn_nonce u.occasion.drawn) u.fits.honest.other_drawn

whole-long : (u : Users) → length (whole_nonce u) ≡ 48
whole-long u = omega (arith, length-append (own_nonce u) (their_nonce u), own-long u, their-long u)

second-so : (u : Users) → second_of (two_text u) ≡ Ok (record { nonce = whole_nonce u; salt = u.fits.salt; rounds = u.fits.rounds })
second-so u =
    let h = u.fits.honest in
    let each = all-append is_nonce (own_nonce u) (their_nonce u) (encoded-nonce (drawn_nonce u.own.draws) h.draw_octets) (encoded-nonce (drawn_nonce u.occasion.drawn) h.other_octets) in
    let ranges = and_true (nat_le 4096 u.fits.rounds) (nat_le u.fits.rounds 200000) h.ranged in
    second-read (whole_nonce u) u.fits.salt u.fits.rounds each (omega (arith, whole-long u)) (omega (arith, whole-long u)) h.salt_octets h.salted h.salt_few (low_rounds u.fits.rounds ranges.0) (high_rounds u.fits.rounds ranges.1)

third-so : (u : Users) → third_of (proved u).token ≡ Ok (three u)
third-so u =
    let h = u.fits.honest in
    let each = all-append is_nonce (own_nonce u) (their_nonce u) (encoded-nonce (drawn_nonce u.own.draws) h.draw_octets) (encoded-nonce (drawn_nonce u.occasion.drawn) h.other_octets) in
    third-read (data_of u.own.bindings) (whole_nonce u) (proof_by u) h.data_octets h.data_few each (omega (arith, whole-long u)) (omega (arith, whole-long u)) (proof-octets (secret u) (auth_of u)) (length-proof (secret u) (auth_of u))

final-so : (u : Users) (now : ℕ) → final_of (accepted u now).token ≡ Ok (signature_of (server_key (secret u)) (auth_of u))
final-so u now = final-read (signature_of (server_key (secret u)) (auth_of u)) (signature-octets (server_key (secret u)) (auth_of u)) (length-signature (server_key (secret u)) (auth_of u))

-- ---- the five steps

starts-so : (u : Users) → init_started u.user u.password (drawn_nonce u.own.draws) u.own.bindings ≡ Ok (record { end = init_end u; token = one_token u })
unfolding init_started
starts-so u =
    let h = u.fits.honest in
    rw (judged-whole Printable 255 u.user h.named h.some h.few, judged-whole Printable 1024 u.password h.opened h.any h.most) refl

takes-so : (u : Users) → accept_started u.setup.verifiers (one_token u) (drawn_nonce u.occasion.drawn) ≡ Ok (record { end = accept_end u; token = two_text u })
unfolding accept_started
takes-so u =
    let h = u.fits.honest in
    rw (
      unframed-framed (one_text u) (first-short u.user (own_nonce u) h.few (omega (arith, own-long u))),
      first-read u.user (own_nonce u) h.named h.some h.few (encoded-nonce (drawn_nonce u.own.draws) h.draw_octets) (omega (arith, own-long u)) (omega (arith, own-long u)),
      h.line,
    ) refl

proves-so : (u : Users) → init_answered (init_end u) (two_text u) ≡ Ok (proved u)
unfolding init_answered
proves-so u = rw (second-so u, extended (own_nonce u) (their_nonce u) (omega (arith, their-long u)), u.fits.honest.ranged) refl

is-proof : (u : Users) → is_proof (stored_key (secret u)) (auth_of u) (proof_by u) ≡ true
unfolding stored_key
is-proof u = same_tag (sha1 (masked (stored_key (secret u)) (auth_of u) (proof_by u))) (stored_key (secret u)) (ap sha1 (proof-gives (secret u) (auth_of u)))

accepts-so : (u : Users) (now : ℕ) → accept_finished (accept_end u) (proved u).token u.setup.bindings now ≡ Ok (accepted u now)
unfolding accept_finished
accepts-so u now = rw (third-so u, same_self (whole_nonce u), u.fits.bound, is-proof u) refl

finishes-so : (u : Users) (now : ℕ) → init_finished (proved u).end (accepted u now).token ≡ Ok (finished u)
unfolding init_finished
finishes-so u now = rw (final-so u now, same_self (signature_of (server_key (secret u)) (auth_of u))) refl

-- ---- the same as mechanisms

abbrev pub begun_with : Users → MechBegun
begun_with u = record { mech = tells.Scram (init_end u); token = one_token u; makes = [] }

pub text-begun : (u : Users) → init_begun u.own (creds.Scram u.user u.password) ≡ Ok (begun_with u)
unfolding init_begun
text-begun u = rw (starts-so u) refl

abbrev pub text_taken : Users → MechTaken
text_taken u = record { answer = answers.More (accepts.Proof (accept_end u)) (two_text u); makes = []; found = []; built = None }

pub text-taken : (u : Users) → accept_taken u.setup accepts.Scram (one_token u) u.occasion.now u.occasion.drawn ≡ Ok (text_taken u)
unfolding accept_taken
text-taken u = rw (takes-so u) refl

abbrev pub text_replied : Users → MechReplied
text_replied u = record { answer = tells.More (tells.Proof (proved u).end) (proved u).token; makes = (proved u).makes; found = [] }

pub text-replied : (u : Users) → init_taken (tells.Scram (init_end u)) (two_text u) ≡ Ok (text_replied u)
unfolding init_taken
text-replied u = rw (proves-so u) refl

abbrev pub proof_taken : Users → ℕ → MechTaken
proof_taken u now = proof_answered (accept_end u) (proved u).token (accepted u now)

pub proof-taken : (u : Users) (now : ℕ) (drawn : List ℕ) → accept_taken u.setup (accepts.Proof (accept_end u)) (proved u).token now drawn ≡ Ok (proof_taken u now)
unfolding accept_taken
proof-taken u now drawn = rw (accepts-so u now) refl

abbrev pub outcome_with : Users → ℕ → Outcome
outcome_with u now = outcome_of kinds.Scram (accepted u now).done

abbrev pub proof_replied : Users → ℕ → MechReplied
proof_replied u now = record { answer = tells.Done (outcome_with u now); makes = []; found = (finished u).found }

one-outcome : (u : Users) (now : ℕ) → outcome_of kinds.Scram (finished u).done ≡ outcome_with u now
one-outcome u now = λ i. record {
  mech = kinds.Scram;
  initiator = u.user;
  acceptor = [];
  key = same-key (secret u) (auth_of u) i;
  subkey = false;
  hash = ap hash_of (sym u.fits.honest.carries) i;
}

pub proof-replied : (u : Users) (now : ℕ) → init_taken (tells.Proof (proved u).end) (accepted u now).token ≡ Ok (proof_replied u now)
unfolding init_taken
proof-replied u now = rw (finishes-so u now) (ap (λ (o : Outcome). Ok (record { answer = tells.Done o; makes = []; found = (finished u).found })) (one-outcome u now))

-- ---- sizes

abbrev given_taken : MechTaken → Result MechTaken MechRefusal
given_taken t = Ok t

same-taken : (a b : MechTaken) → given_taken a ≡ given_taken b → a ≡ b
same-taken a b e = cc

same-text : (a b : AcceptMech) (x y : List ℕ) → answers.More a x ≡ answers.More b y → x ≡ y
same-text a b x y e = cc

pub text-short : (u : Users) → length (two_text u) ≤ 65000
text-short u =
    let p = pairs u.setup u.own u.user u.password u.occasion u.occasion u.fits in
    let begun : p.started ≡ record { end = init_end u; token = one_token u } = given_is p.started (record { end = init_end u; token = one_token u }) (sym p.starts ∙ starts-so u) in
    let r = texts-go u.setup u.own u.user u.password u.occasion u.occasion u.fits p in
    let took : accept_taken u.setup accepts.Scram (one_token u) u.occasion.now u.occasion.drawn ≡ Ok r.taken =
    subst (λ (s : InitStarted). accept_taken u.setup accepts.Scram s.token u.occasion.now u.occasion.drawn ≡ Ok r.taken) begun r.accepts in
    let is : text_taken u ≡ r.taken = same-taken (text_taken u) r.taken (sym (text-taken u) ∙ took) in
    subst (λ (zs : List ℕ). length zs ≤ 65000) (sym (same-text (accepts.Proof (accept_end u)) _ (two_text u) r.text (ap (λ (t : MechTaken). t.answer) is ∙ r.says))) r.size

pub proof-short : (u : Users) → length (proved u).token ≤ 65000
proof-short u = omega (arith, answer_short (init_end u) (two_text u) (proved u) u.fits.honest.data_few (proves-so u))

pub final-short : (u : Users) (now : ℕ) → length (accepted u now).token ≤ 65000
final-short u now = omega (arith, final_short (accept_end u) (proved u).token u.setup.bindings now (accepted u now) (accepts-so u now))

-- ---- the AuthMessage of the text with the proof

same-third : (a b : Third) → given a ≡ given b → a ≡ b
same-third a b e = given_is a b e

pub one-auth : (u : Users) (auth : List ℕ) → HasAuth (accept_end u) (proved u).token auth → auth_of u ≡ auth
one-auth u auth has = ap (λ (t : Third). auth_with (accept_end u) t.bare) (same-third (three u) has.third (sym (third-so u) ∙ has.read)) ∙ sym has.auth_is
