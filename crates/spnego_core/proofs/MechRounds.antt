-- The rounds of an honest mechanism.
use Rattle.std.proofs.Common.{◌≡◌, ℕ, ◌+◌, ◌≤◌, true, false, codes, refl, sym, ap, ◌∙◌, subst, arith, List, [], ◌++◌, length, map, Option, Some, None, Ok}
use Rattle.std.specs.Fmt.{decimal}
use Rattle.std.proofs.lemmas.Fmt.{length-decimal-le}
use Rattle.std.proofs.lemmas.List.{length-append}
use Rattle.std.proofs.lemmas.Bool.Decides.{nat_tests}
use Rattle.gss_base.specs.declared.mech.MechKind.TheVariants as kinds
use Rattle.gss_base.specs.declared.mech.MechKind.TheVariants.{Scram}
use Rattle.gss_base.specs.declared.mech.KerberosName.{KerberosName}
use Rattle.gss_base.specs.Mech.{oid_of}
use Rattle.der_core.specs.Frame.{framed}
use Rattle.krb_tokens.specs.declared.done.MechDone.{MechDone}
use Rattle.krb_files.specs.Granted.{Granted}
use Rattle.ap_exchange.specs.declared.judged.Judged.{Judged}
use Rattle.ap_exchange.specs.Draws.{drawn_nonce}
use Rattle.ap_exchange.specs.Request.{waiting, request_token, request_of, request_makes}
use Rattle.ap_exchange.specs.Exchange.{judge_found}
use Rattle.ap_exchange.specs.Reply.{reply_found}
use Rattle.ap_exchange.specs.Answer.{answer_done, answer_token}
use Rattle.ap_exchange.specs.Laws as ap_laws
use Rattle.ap_exchange.proofs.Honest.{honest_request, honest_reply}
use Rattle.scram_mech.specs.declared.refusal.ScramRefusal.TheVariants as refusals
use Rattle.scram_mech.specs.declared.verifiers.Verifier.{Verifier}
use Rattle.scram_mech.specs.MechMaking.{typed}
use Rattle.scram_mech.specs.Base64.{encoded}
use Rattle.scram_mech.specs.declared.run.Class.TheVariants.{Printable}
use Rattle.scram_mech.specs.Judging.{are_rounds, judged, unframed, demand, same}
use Rattle.scram_bindings.specs.Carried.{data_of}
use Rattle.scram_mech.specs.FirstText.{First, first_of, first_text}
use Rattle.scram_mech.specs.FinalText.{final_of}
use Rattle.scram_mech.specs.Secrets.{signature_of}
use Rattle.scram_mech.specs.Verifiers.{line_for, line_with}
use Rattle.scram_mech.specs.SecondText.{second_text}
use Rattle.scram_mech.specs.Initiator.{WaitModel, InitStarted, InitFinished, init_started, init_finished}
use Rattle.scram_mech.specs.Acceptor.{AcceptModel, accept_with, second_by, AcceptStarted, AcceptFinished, accept_started, accept_finished}
use Rattle.scram_mech.specs.Laws as scram_laws
use Rattle.scram_mech.proofs.Agreement.{agrees}
use Rattle.scram_mech.proofs.ExchangeLaws.{given, given_is, accepts}
use Rattle.scram_mech.proofs.Pieces.{bind_ok}
use Rattle.scram_mech.proofs.Written.{first-read, encoded-nonce, length-encoded}
use Rattle.scram_mech.proofs.Frames.{unframed-framed, first-short}
use Rattle.scram_mech.proofs.Lengths.{answer_short, final_short}
use Rattle.spnego_core.specs.declared.outcome.Outcome.{Outcome}
use Rattle.spnego_core.specs.declared.setup.AcceptSetup.{AcceptSetup}
use Rattle.spnego_core.specs.declared.setup.MechCred.TheVariants as creds
use Rattle.spnego_core.specs.MechStates as inits
use Rattle.spnego_core.specs.declared.accept_mech.AcceptMech.TheVariants as mechs
use Rattle.spnego_core.specs.declared.accept_mech.AcceptAnswer.TheVariants as answers
use Rattle.spnego_core.specs.declared.accept_end.Answered.{Answered}
use Rattle.spnego_core.specs.declared.accept_end.Answered.TheVariants as afters
use Rattle.spnego_core.specs.Ends.{PlainSetup}
use Rattle.spnego_core.specs.Outcome.{outcome_of}
use Rattle.spnego_core.specs.AcceptMech.{request_answered, proof_answered, accept_taken}
use Rattle.spnego_core.specs.InitMech.{MechBegun, init_begun, init_taken}
use Rattle.spnego_core.specs.Accepting as accepting
use Rattle.spnego_core.specs.Exchange.{Occasion, passed, TicketFits, UserFits}
use Rattle.spnego_core.proofs.Sizes.{answer_within}
use Rattle.spnego_core.proofs.Turns.{LastRound, TextRound}

-- a step once nothing is to be asked asks nothing
gone_passed : (after : Answered) → passed (accepting.gone_on after) ≡ accepting.gone_on after
gone_passed (afters.More end token) = refl
gone_passed (afters.Done outcome lasts token) = refl

-- ---- Kerberos

-- what begins
abbrev pub request_begins : PlainSetup → Granted → MechBegun
request_begins own credential = record {
  mech = inits.Kerberos (waiting credential own.stamp own.draws own.bindings);
  token = request_token credential own.stamp own.draws own.bindings;
  makes = map typed (request_makes credential own.stamp own.draws own.bindings);
}

pub request-begins : (setup : AcceptSetup) (own : PlainSetup) (name : KerberosName) (credential : Granted) (occasion : Occasion) → TicketFits setup own credential occasion → init_begun own (creds.Kerberos name credential) ≡ Ok (request_begins own credential)
unfolding init_begun request_of
request-begins setup own name credential occasion h = rw h.fit.is_ticket refl

-- ends that agree have one outcome
one_outcome : (a b : MechDone) → ap_laws.Agrees a b → outcome_of kinds.Kerberos a ≡ outcome_of kinds.Kerberos b
one_outcome a b g = λ i. record { mech = kinds.Kerberos; initiator = g.initiator_name i; acceptor = g.acceptor_name i; key = g.key i; subkey = g.subkey i; hash = g.hash i }

abbrev judged_on : (setup : AcceptSetup) (own : PlainSetup) (credential : Granted) (occasion : Occasion) → TicketFits setup own credential occasion → Judged
judged_on setup own credential occasion h = ap_laws.honest_judged credential own.stamp own.bindings h.fit.part

-- the request's round is the last
pub request-ends : (setup : AcceptSetup) (own : PlainSetup) (credential : Granted) (occasion : Occasion) → length own.draws ≡ 66 → length occasion.drawn ≡ 66 → (h : TicketFits setup own credential occasion)
    → LastRound setup occasion mechs.Kerberos (request_begins own credential).mech (request_begins own credential).token (outcome_of kinds.Kerberos (answer_done (judged_on setup own credential occasion h) occasion.drawn))
unfolding accept_taken init_taken
request-ends setup own credential occasion draws drawn h =
    let j : Judged = judged_on setup own credential occasion h in
    let token : List ℕ = request_token credential own.stamp own.draws own.bindings in
    let taken = honest_reply credential own.stamp own.draws own.bindings h.fit.part occasion.drawn drawn h.answer in
    record {
      taken = request_answered occasion.drawn (map typed (judge_found setup.keytab setup.own token)) j;
      accepts = rw (honest_request setup.keytab setup.own occasion.now setup.bindings credential own.stamp own.draws own.bindings draws h.request h.fit) refl;
      lasts = j.ends;
      last = answer_token j occasion.drawn;
      passes = λ turn chosen. refl;
      size = omega (arith, (answer_within j occasion.drawn drawn).most);
      replied = record {
        answer = inits.Done (outcome_of kinds.Kerberos taken.0);
        makes = [];
        found = map typed (reply_found (waiting credential own.stamp own.draws own.bindings) (answer_token j occasion.drawn));
      };
      replies = rw taken.1 refl;
      done = ap (λ (o : Outcome). inits.Done o) (one_outcome taken.0 (answer_done j occasion.drawn) taken.2);
    }

-- ---- SCRAM

second-length : (nonce salt : List ℕ) (rounds : ℕ) → length (second_text nonce salt rounds) ≡ 8 + length nonce + length (encoded salt) + length (decimal rounds)
unfolding second_text
second-length nonce salt rounds =
    omega (arith, length-append (nonce ++ codes ",s=" ++ encoded salt ++ codes ",i=") (decimal rounds), length-append (nonce ++ codes ",s=" ++ encoded salt) (codes ",i="), length-append (nonce ++ codes ",s=") (encoded salt), length-append nonce (codes ",s="))

few_rounds : (rounds : ℕ) → are_rounds rounds ≡ true → rounds ≤ 200000
few_rounds rounds e = grind (arith, nat_tests)

-- what begins
abbrev pub text_begins : InitStarted → MechBegun
text_begins started = record { mech = inits.Scram started.end; token = started.token; makes = [] }

pub text-begins : (own : PlainSetup) (user password : List ℕ) (started : InitStarted) → init_started user password (drawn_nonce own.draws) own.bindings ≡ Ok started → init_begun own (creds.Scram user password) ≡ Ok (text_begins started)
unfolding init_begun
text-begins own user password started e = rw e refl

-- the first text that was begun with
started_is : (user password draw : List ℕ) (bindings : Option (List ℕ)) (started : InitStarted) → init_started user password draw bindings ≡ given started → started.token ≡ framed.spell (oid_of Scram, first_text user (encoded draw))
unfolding init_started
started_is user password draw bindings started e =
    let b = bind_ok (judged Printable 255 user) _ started e in
    let c = bind_ok (judged Printable 1024 password) _ started b.2 in
    ap (λ (s : InitStarted). s.token) (sym (given_is _ started c.2))

started_bindings : (user password draw : List ℕ) (bindings : Option (List ℕ)) (started : InitStarted) → init_started user password draw bindings ≡ given started → started.end.bindings ≡ bindings
unfolding init_started
started_bindings user password draw bindings started e =
    let b = bind_ok (judged Printable 255 user) _ started e in
    let c = bind_ok (judged Printable 1024 password) _ started b.2 in
    ap (λ (s : InitStarted). s.end.bindings) (sym (given_is _ started c.2))

-- the acceptor's text, by the line of the user
taken_is : (lines : List Verifier) (token text other : List ℕ) (first : First) (line : Verifier) (taken : AcceptStarted) → unframed token ≡ Ok text → first_of text ≡ Ok first → line_for lines first.name ≡ Some line → accept_started lines token other ≡ given taken
    → taken.token ≡ second_by (accept_with text first.nonce line (encoded other))
unfolding accept_started
taken_is lines token text other first line taken a b c e =
    let whole : given taken ≡ given (record { end = accept_with text first.nonce line (encoded other); token = second_by (accept_with text first.nonce line (encoded other)) }) = sym e ∙ rw (a, b, c) refl in
    ap (λ (s : AcceptStarted). s.token) (given_is taken _ whole)

-- it is short
text_size : (user password draw other : List ℕ) (bindings : Option (List ℕ)) (lines : List Verifier) (salt : List ℕ) (rounds : ℕ) (started : InitStarted) (taken : AcceptStarted) → scram_laws.Honest user password draw other bindings lines salt rounds
    → init_started user password draw bindings ≡ Ok started → accept_started lines started.token other ≡ Ok taken → length taken.token ≤ 65000
text_size user password draw other bindings lines salt rounds started taken h starts takes =
    let own : List ℕ = encoded draw in
    let own_long : length own ≡ 24 = omega (arith, length-encoded draw, h.drawn) in
    let text : List ℕ = first_text user own in
    let first : First = record { name = user; nonce = own } in
    let line : Verifier = line_with user (record { password = password; salt = salt; rounds = rounds }) in
    let token : started.token ≡ framed.spell (oid_of Scram, text) = started_is user password draw bindings started starts in
    let took : accept_started lines (framed.spell (oid_of Scram, text)) other ≡ given taken = subst (λ (octets : List ℕ). accept_started lines octets other ≡ given taken) token takes in
    let is : taken.token ≡ second_by (accept_with text own line (encoded other)) =
    taken_is lines (framed.spell (oid_of Scram, text)) text other first line taken (unframed-framed text (first-short user own h.few (omega arith)))
    (first-read user own h.named h.some h.few (encoded-nonce draw h.draw_octets) (omega arith) (omega arith)) h.line took in
    let rounds_few : rounds ≤ 200000 = few_rounds rounds h.ranged in
    let nonce : List ℕ = own ++ encoded other in
    omega (arith, ap length is, second-length nonce salt rounds, length-append own (encoded other), own_long, length-encoded other, h.other_drawn, length-encoded salt, h.salt_few, length-decimal-le 6 rounds (omega arith) (omega (arith, rounds_few)) (omega (arith, rounds_few)))

init-plain : (wait : WaitModel) (text : List ℕ) (finished : InitFinished) → init_finished wait text ≡ given finished → finished.done.subkey ≡ false
unfolding init_finished
init-plain wait text finished e =
    let b = bind_ok (final_of text) _ finished e in
    let c = bind_ok (demand (same (signature_of wait.server wait.auth) b.0) refusals.Signature) _ finished b.2 in
    ap (λ (f : InitFinished). f.done.subkey) (sym (given_is _ finished c.2))

accept-plain : (end : AcceptModel) (text : List ℕ) (bindings : Option (List ℕ)) (now : ℕ) (finished : AcceptFinished) → accept_finished end text bindings now ≡ given finished → finished.done.subkey ≡ false
accept-plain end text bindings now finished e = ap (λ (f : AcceptFinished). f.done.subkey) (accepts end text bindings now finished e).same

-- what the two rounds of an honest pair come to
abbrev Pairs : AcceptSetup → PlainSetup → List ℕ → List ℕ → Occasion → Occasion → Type 0
Pairs setup own user password first second =
    scram_laws.Agrees user password (drawn_nonce own.draws) (drawn_nonce first.drawn) own.bindings setup.bindings setup.verifiers second.now

pub pairs : (setup : AcceptSetup) (own : PlainSetup) (user password : List ℕ) (first second : Occasion) → UserFits setup own user password first → Pairs setup own user password first second
pairs setup own user password first second h =
    agrees user password (drawn_nonce own.draws) (drawn_nonce first.drawn) own.bindings setup.bindings setup.verifiers h.salt h.rounds second.now h.honest h.bound

-- the proof is short
pub proof-short : (setup : AcceptSetup) (own : PlainSetup) (user password : List ℕ) (first second : Occasion) → UserFits setup own user password first → (p : Pairs setup own user password first second) → length p.proved.token ≤ 65000
proof-short setup own user password first second h p = omega (arith, answer_short p.started.end p.taken.token p.proved (bound_few p.starts) p.proves)
  where
    bound_few : init_started user password (drawn_nonce own.draws) own.bindings ≡ Ok p.started → length (data_of p.started.end.bindings) ≤ 32768
    bound_few e = subst (λ (b : Option (List ℕ)). length (data_of b) ≤ 32768) (sym (started_bindings user password (drawn_nonce own.draws) own.bindings p.started e)) h.honest.data_few

-- the round of the texts
pub texts-go : (setup : AcceptSetup) (own : PlainSetup) (user password : List ℕ) (first second : Occasion) → UserFits setup own user password first → (p : Pairs setup own user password first second)
    → TextRound setup first mechs.Scram (text_begins p.started).mech (text_begins p.started).token (mechs.Proof p.taken.end) (inits.Proof p.proved.end) p.proved.token
unfolding accept_taken init_taken
texts-go setup own user password first second h p = record {
  taken = record { answer = answers.More (mechs.Proof p.taken.end) p.taken.token; makes = []; found = []; built = None };
  accepts = rw p.takes refl;
  text = p.taken.token;
  says = refl;
  size = text_size user password (drawn_nonce own.draws) (drawn_nonce first.drawn) own.bindings setup.verifiers h.salt h.rounds p.started p.taken h.honest p.starts p.takes;
  replied = record { answer = inits.More (inits.Proof p.proved.end) p.proved.token; makes = p.proved.makes; found = [] };
  replies = rw p.proves refl;
  answer = refl;
  short = proof-short setup own user password first second h p;
}

-- the round of the proof is the last
pub proof-ends : (setup : AcceptSetup) (own : PlainSetup) (user password : List ℕ) (first second : Occasion) → (p : Pairs setup own user password first second)
    → LastRound setup second (mechs.Proof p.taken.end) (inits.Proof p.proved.end) p.proved.token (outcome_of kinds.Scram p.accepted.done)
unfolding accept_taken init_taken
proof-ends setup own user password first second p = record {
  taken = proof_answered p.taken.end p.proved.token p.accepted;
  accepts = rw p.accepts refl;
  lasts = p.accepted.done.ends;
  last = p.accepted.token;
  passes = λ turn chosen. gone_passed (accepting.finished turn chosen (outcome_of kinds.Scram p.accepted.done) p.accepted.done.ends p.accepted.token);
  size = omega (arith, final_short p.taken.end p.proved.token setup.bindings second.now p.accepted p.accepts);
  replied = record { answer = inits.Done (outcome_of kinds.Scram p.finished.done); makes = []; found = p.finished.found };
  replies = rw p.finishes refl;
  done = ap (λ (o : Outcome). inits.Done o) (λ i. record {
    mech = kinds.Scram;
    initiator = p.initiator i;
    acceptor = p.acceptor i;
    key = p.key i;
    subkey = plain i;
    hash = p.hash i;
  });
}
  where
    plain : p.finished.done.subkey ≡ p.accepted.done.subkey
    plain = init-plain p.proved.end p.accepted.token p.finished p.finishes ∙ sym (accept-plain p.taken.end p.proved.token setup.bindings second.now p.accepted p.accepts)
