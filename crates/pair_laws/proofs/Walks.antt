-- Along the dialogue of an honest pair the acceptor's steps are known, whatever the initiator sends but its first token.
use Rattle.std.proofs.Common.{◌≡◌, inl, inr, ℕ, ◌+◌, ◌≤◌, Bool, true, false, not, if◌then◌else◌, refl, sym, ap, ◌∙◌, subst, arith, List, [], ◌∷◌, length, map, Option, Some, None, Result, Ok, Err, nat_le}
use Rattle.std.specs.Prelude.{min}
use Rattle.std.specs.List.{AllByRecursion}
use Rattle.std.proofs.lemmas.Bool.{cases_Bool}
use Rattle.std.proofs.lemmas.Bool.Decides.{nat_tests}
use Rattle.sec_base.specs.Moment.{greatest_moment}
use Rattle.gss_base.specs.declared.mech.MechKind.{MechKind}
use Rattle.gss_base.specs.declared.mech.MechKind.TheVariants as kinds
use Rattle.gss_base.specs.declared.mech.KerberosName.{KerberosName}
use Rattle.gss_base.specs.declared.mech.KerberosName.TheVariants.{Standard, Microsoft}
use Rattle.krb_tokens.specs.declared.end.Side.TheVariants.{Acceptor}
use Rattle.krb_files.specs.Granted.{Granted}
use Rattle.ap_exchange.specs.declared.judged.Judged.{Judged}
use Rattle.ap_exchange.specs.Request.{request_token}
use Rattle.ap_exchange.specs.Answer.{answer_done, answer_token}
use Rattle.ap_exchange.specs.Laws as ap_laws
use Rattle.ap_exchange.specs.Draws.{drawn_nonce}
use Rattle.ap_exchange.specs.Judging as judging
use Rattle.ap_exchange.proofs.Honest.{honest_request}
use Rattle.scram_mech.specs.declared.refusal.ScramRefusal.{ScramRefusal}
use Rattle.scram_mech.specs.declared.run.Class.TheVariants.{Printable}
use Rattle.scram_mech.specs.Judging.{judged}
use Rattle.scram_mech.specs.Initiator.{InitStarted, InitAnswered, init_started}
use Rattle.scram_mech.specs.Acceptor.{AcceptModel, AcceptFinished, accept_finished}
use Rattle.scram_mech.specs.Laws as scram_laws
use Rattle.scram_mech.proofs.ExchangeLaws.{given, given_is, proves, completes, accepts}
use Rattle.scram_mech.proofs.Pieces.{bind_ok}
use Rattle.scram_mech.proofs.Lengths.{final_short}
use Rattle.spnego_msgs.specs.declared.neg_resp.NegResp.{NegResp}
use Rattle.spnego_core.specs.declared.outcome.Outcome.{Outcome}
use Rattle.spnego_core.specs.declared.refusal.NegRefusal.{NegRefusal}
use Rattle.spnego_core.specs.declared.refusal.NegRefusal.TheVariants.{Defective, Rejected, MicMissing, MicBad}
use Rattle.spnego_core.specs.declared.refusal.MechRefusal.{MechRefusal}
use Rattle.spnego_core.specs.declared.setup.AcceptSetup.{AcceptSetup}
use Rattle.spnego_core.specs.declared.setup.MechCred.{MechCred}
use Rattle.spnego_core.specs.declared.setup.MechCred.TheVariants as creds
use Rattle.spnego_core.specs.MechStates.{InitMech}
use Rattle.spnego_core.specs.declared.accept_mech.AcceptMech.{AcceptMech}
use Rattle.spnego_core.specs.declared.accept_mech.AcceptMech.TheVariants as mechs
use Rattle.spnego_core.specs.declared.accept_end.Turn.{Turn}
use Rattle.spnego_core.specs.declared.accept_end.Turn.TheVariants.{First, Later, Bare}
use Rattle.spnego_core.specs.declared.accept_end.Chosen.{Chosen}
use Rattle.spnego_core.specs.declared.accept_end.Running.{Running}
use Rattle.spnego_core.specs.declared.accept_end.Owing.{Owing}
use Rattle.spnego_core.specs.declared.accept_end.AcceptEnd.{AcceptEnd}
use Rattle.spnego_core.specs.declared.accept_end.AcceptEnd.TheVariants as ends
use Rattle.spnego_core.specs.declared.accept_end.Answered.{Answered}
use Rattle.spnego_core.specs.declared.accept_end.Answered.TheVariants as afters
use Rattle.spnego_core.specs.declared.accept_end.AcceptPause.{AcceptPause}
use Rattle.spnego_core.specs.declared.accept_end.AcceptStep.{AcceptStep}
use Rattle.spnego_core.specs.declared.accept_end.AcceptStep.TheVariants as steps
use Rattle.spnego_core.specs.Ends.{PlainSetup, EndSays}
use Rattle.spnego_core.specs.Ends as inits
use Rattle.spnego_core.specs.EndSteps.{StepSays}
use Rattle.spnego_core.specs.EndSteps as initiated
use Rattle.spnego_core.specs.Steps.{◌>>=◌, due, or_refuse}
use Rattle.spnego_core.specs.Outcome.{outcome_of}
use Rattle.spnego_core.specs.ListMic.{list_mic, is_list_mic}
use Rattle.spnego_core.specs.Choice.{same_kind, is_first, is_first_named, best}
use Rattle.spnego_core.specs.Tokens.{init_octets, resp_read, resp_octets, rejects}
use Rattle.spnego_core.specs.AcceptMech.{accept_begun, accept_taken, proof_taken}
use Rattle.spnego_core.specs.InitMech.{kind_of, kinds_of, oid_listed, is_own, is_own_list, cred_for, MechBegun, init_begun}
use Rattle.spnego_core.specs.Sizes.{IsShort}
use Rattle.spnego_core.specs.Accepting as accepting
use Rattle.spnego_core.specs.Initiating as initiating
use Rattle.spnego_core.specs.Exchange.{Occasion, passed, passed_of, Completes, BareFits, TicketFits, UserFits, Fitting, HonestPair}
use Rattle.spnego_core.specs.Bare.{takes_bare}
use Rattle.spnego_core.proofs.Bares.{bare-list}
use Rattle.spnego_core.proofs.InitSteps.{cred_for-kind}
use Rattle.spnego_core.proofs.Sizes.{Within, answer_within}
use Rattle.spnego_core.proofs.Listed.{listed-few}
use Rattle.spnego_core.proofs.Short.{named_within, some-is, none-is, list_mic_within, resp_within, octets_short, last_short}
use Rattle.spnego_core.proofs.Spelled.{init_asks, init_reads}
use Rattle.spnego_core.proofs.Turns.{oid_on, end_at, chosen_on, Hears, hears_first, hears_later, hears_bare, switches}
use Rattle.spnego_core.proofs.MechRounds.{request_begins, request-begins, text_begins, text-begins, pairs, texts-go}
use Rattle.spnego_core.proofs.Exchanges.{Opened, opened_from, negotiated, alone_from, only_cred, exchanges}
use Rattle.pair_laws.specs.Walking.{Walks, HasNames, Walked}

-- ---- what a step comes to

-- the credential is a user's, of this name
abbrev IsUser : MechCred → List ℕ → Type 0
IsUser (creds.Kerberos alias credential) name = ⊥
IsUser (creds.Scram user password) name = name ≡ user

-- a mechanism waits for the proof of the credential's user
abbrev WaitsFor : MechCred → AcceptMech → Type 0
WaitsFor cred mechs.Kerberos = ⊥
WaitsFor cred mechs.Scram = ⊥
WaitsFor cred (mechs.Proof end) = IsUser cred end.line.name

-- an outcome lasts until this moment or longer, and has the credential's names
record Lasts (moment : ℕ) (cred : MechCred) (outcome : Outcome) (lasts : ℕ) : Type 0 where
  lasting : moment ≤ lasts
  names : HasNames cred outcome

-- an end whose further steps are known, whatever token comes
abbrev Holds : ℕ → MechCred → AcceptEnd → Type 0
Holds moment cred ends.New = ⊥
Holds moment cred (ends.Runs running) = WaitsFor cred running.mech
Holds moment cred (ends.Owes owing) = Lasts moment cred owing.outcome owing.lasts

-- once nothing is to be asked: the token is short, and the end is such, or the outcome
abbrev FineAfter : ℕ → MechCred → Answered → Type 0
FineAfter moment cred (afters.More end token) = IsShort token × Holds moment cred end
FineAfter moment cred (afters.Done outcome lasts token) = IsShort token × Lasts moment cred outcome lasts

-- the same of a step: where it asks for a mark, that is of this stamp
abbrev Fine : ℕ → ℕ → MechCred → AcceptStep → Type 0
Fine stamp moment cred (steps.More end token) = IsShort token × Holds moment cred end
Fine stamp moment cred (steps.Done outcome lasts token) = IsShort token × Lasts moment cred outcome lasts
Fine stamp moment cred (steps.WantsAuth pause) = (pause.mark.at ≡ stamp) × FineAfter moment cred pause.after

-- where it is no refusal
abbrev FineOf : ℕ → ℕ → MechCred → Result AcceptStep NegRefusal → Type 0
FineOf stamp moment cred (Ok step) = Fine stamp moment cred step
FineOf stamp moment cred (Err refusal) = Unit {0}

gone-fine : (stamp moment : ℕ) (cred : MechCred) (after : Answered) → FineAfter moment cred after → Fine stamp moment cred (accepting.gone_on after)
gone-fine stamp moment cred (afters.More end token) f = f
gone-fine stamp moment cred (afters.Done outcome lasts token) f = f

passed-fine : (stamp moment : ℕ) (cred : MechCred) (step : AcceptStep) → Fine stamp moment cred step → Fine stamp moment cred (passed step)
passed-fine stamp moment cred (steps.More end token) f = f
passed-fine stamp moment cred (steps.Done outcome lasts token) f = f
passed-fine stamp moment cred (steps.WantsAuth pause) f = gone-fine stamp moment cred pause.after f.1

passed_of-fine : (stamp moment : ℕ) (cred : MechCred) (r : Result AcceptStep NegRefusal) → FineOf stamp moment cred r → FineOf stamp moment cred (passed_of r)
passed_of-fine stamp moment cred (Ok step) f = passed-fine stamp moment cred step f
passed_of-fine stamp moment cred (Err refusal) f = tt

-- its mark is of the stamp
stamped : (stamp moment : ℕ) (cred : MechCred) (r : Result AcceptStep NegRefusal) → FineOf stamp moment cred r → (pause : AcceptPause) → r ≡ Ok (steps.WantsAuth pause) → (accepting.mark_asked pause).at ≡ stamp
stamped stamp moment cred r f pause e =
    let g : FineOf stamp moment cred (Ok (steps.WantsAuth pause)) = subst (λ (s : Result AcceptStep NegRefusal). FineOf stamp moment cred s) e f in g.0

-- what follows such a step
fine-on : (stamp moment : ℕ) (cred : MechCred) (r s : Result AcceptStep NegRefusal) → FineOf stamp moment cred r → passed_of r ≡ s → FineOf stamp moment cred s
fine-on stamp moment cred r s f e = subst (λ (t : Result AcceptStep NegRefusal). FineOf stamp moment cred t) e (passed_of-fine stamp moment cred r f)

bind-fine : {A : Type 0} (stamp moment : ℕ) (cred : MechCred) (r : Result A NegRefusal) (next : A → Result accepting.Accepted NegRefusal) → ((x : A) → FineOf stamp moment cred (accepting.step_of (next x))) → FineOf stamp moment cred (accepting.step_of (r >>= next))
bind-fine stamp moment cred (Ok x) next f = f x
bind-fine stamp moment cred (Err refusal) next f = tt

-- ---- the replies are short

reply-fits : (turn : Turn) (chosen : Chosen) (owes finished : Bool) (token mic : Option (List ℕ)) → ((v : List ℕ) → token ≡ Some v → Within v 65000) → ((v : List ℕ) → mic ≡ Some v → Within v 28) → IsShort (accepting.reply turn (accepting.oid_chosen chosen) owes finished token mic)
reply-fits turn chosen owes finished token mic t m =
    let few : length (accepting.oid_chosen chosen) ≤ 32 = omega (arith, listed-few chosen.received chosen.kind) in
    octets_short turn (accepting.reply_with turn (accepting.oid_chosen chosen) owes finished token mic)
    (omega (arith, (resp_within (accepting.reply_with turn (accepting.oid_chosen chosen) owes finished token mic) 65000 (λ v e. named_within turn (accepting.oid_chosen chosen) v few e) t m).most)) (λ v e. omega (arith, (t v e).most))

token-within : (token : List ℕ) → length token ≤ 65000 → (v : List ℕ) → Some token ≡ Some v → Within v 65000
token-within token few v e = some-is token v 65000 (record { most = few }) e

-- the mechanism is done
finished-fine : (moment : ℕ) (cred : MechCred) (is_due : Bool) (turn : Turn) (chosen : Chosen) (outcome : Outcome) (lasts : ℕ) (token : List ℕ) → Lasts moment cred outcome lasts → length token ≤ 65000
    → FineAfter moment cred (if is_due
    then afters.More (ends.Owes (record { received = chosen.received; outcome = outcome; lasts = lasts })) (accepting.reply turn (accepting.oid_chosen chosen) true true (Some token) (Some (list_mic outcome Acceptor chosen.received)))
    else afters.Done outcome lasts (accepting.reply turn (accepting.oid_chosen chosen) false true (Some token) None))
finished-fine moment cred true turn chosen outcome lasts token l few =
    let mic : List ℕ = list_mic outcome Acceptor chosen.received in
    (reply-fits turn chosen true true (Some token) (Some mic) (token-within token few) (λ v e. some-is mic v 28 (list_mic_within outcome Acceptor chosen.received) e), l)
finished-fine moment cred false turn chosen outcome lasts token l few =
    (reply-fits turn chosen false true (Some token) None (token-within token few) (λ v e. none-is v 28 e), l)

-- ---- the steps of an end that holds

user-named : (cred : MechCred) (name : List ℕ) (outcome : Outcome) → IsUser cred name → outcome.initiator ≡ name → outcome.acceptor ≡ [] → HasNames cred outcome
user-named (creds.Kerberos alias credential) name outcome is e f = absurd is
user-named (creds.Scram user password) name outcome is e f = (e ∙ is, f)

-- the proof came
proved-fine : (stamp moment : ℕ) (cred : MechCred) (turn : Turn) (chosen : Chosen) (end : AcceptModel) (token : List ℕ) (bindings : Option (List ℕ)) (now : ℕ) (r : Result AcceptFinished ScramRefusal)
    → accept_finished end token bindings now ≡ r → moment ≤ greatest_moment → now ≡ moment → IsUser cred end.line.name
    → FineOf stamp moment cred (accepting.step_of (accepting.run turn chosen (proof_taken end token r)))
proved-fine stamp moment cred turn chosen end token bindings now (Ok finished) e known at is =
    let a = accepts end token bindings now finished e in
    let initiator : finished.done.initiator ≡ end.line.name = ap (λ (f : AcceptFinished). f.done.initiator) a.same in
    let acceptor : finished.done.acceptor ≡ [] = ap (λ (f : AcceptFinished). f.done.acceptor) a.same in
    let until : finished.done.ends ≡ min (now + 86400000000) greatest_moment = ap (λ (f : AcceptFinished). f.done.ends) a.same in
    let outcome : Outcome = outcome_of kinds.Scram finished.done in
    let few : length finished.token ≤ 1024 = final_short end token bindings now finished e in
    gone-fine stamp moment cred (accepting.finished turn chosen outcome finished.done.ends finished.token)
    (finished-fine moment cred chosen.due turn chosen outcome finished.done.ends finished.token
    (record { lasting = omega (arith, until, known, at); names = user-named cred end.line.name outcome is initiator acceptor }) (omega (arith, few)))
proved-fine stamp moment cred turn chosen end token bindings now (Err refusal) e known at is = tt

proof-fine : (setup : AcceptSetup) (stamp moment : ℕ) (cred : MechCred) (turn : Turn) (chosen : Chosen) (mech : AcceptMech) (token : List ℕ) (now : ℕ) (drawn : List ℕ) → moment ≤ greatest_moment → now ≡ moment → WaitsFor cred mech
    → FineOf stamp moment cred (accepting.step_of (accepting.run turn chosen (accept_taken setup mech token now drawn)))
unfolding accept_taken
proof-fine setup stamp moment cred turn chosen mechs.Kerberos token now drawn known at w = absurd w
proof-fine setup stamp moment cred turn chosen mechs.Scram token now drawn known at w = absurd w
proof-fine setup stamp moment cred turn chosen (mechs.Proof end) token now drawn known at w =
    proved-fine stamp moment cred turn chosen end token setup.bindings now (accept_finished end token setup.bindings now) refl known at w

proceeds-fine : (setup : AcceptSetup) (stamp moment : ℕ) (cred : MechCred) (now : ℕ) (drawn : List ℕ) (size : ℕ) (running : Running) (resp : NegResp) → moment ≤ greatest_moment → now ≡ moment → WaitsFor cred running.mech
    → FineOf stamp moment cred (accepting.step_of (accepting.proceeds setup now drawn size running resp))
unfolding accepting.proceeds
proceeds-fine setup stamp moment cred now drawn size running resp known at w =
    bind-fine stamp moment cred (due Rejected (not (rejects resp.state))) (λ goes. or_refuse (Defective size) resp.token >>= (λ token. accepting.run Later running.chosen (accept_taken setup running.mech token now drawn)))
    (λ goes. bind-fine stamp moment cred (or_refuse (Defective size) resp.token) (λ token. accepting.run Later running.chosen (accept_taken setup running.mech token now drawn))
    (λ token. proof-fine setup stamp moment cred Later running.chosen running.mech token now drawn known at w))

closes-fine : (stamp moment : ℕ) (cred : MechCred) (owing : Owing) (resp : NegResp) → Lasts moment cred owing.outcome owing.lasts → FineOf stamp moment cred (accepting.step_of (accepting.closes owing resp))
unfolding accepting.closes
closes-fine stamp moment cred owing resp l =
    bind-fine stamp moment cred (due Rejected (not (rejects resp.state))) (λ goes. or_refuse MicMissing resp.mic >>= (λ mic. due MicBad (is_list_mic owing.outcome Acceptor owing.received mic) >>= (λ right. Ok (accepting.settled owing resp.state mic))))
    (λ goes. bind-fine stamp moment cred (or_refuse MicMissing resp.mic) (λ mic. due MicBad (is_list_mic owing.outcome Acceptor owing.received mic) >>= (λ right. Ok (accepting.settled owing resp.state mic)))
    (λ mic. bind-fine stamp moment cred (due MicBad (is_list_mic owing.outcome Acceptor owing.received mic)) (λ right. Ok (accepting.settled owing resp.state mic))
    (λ right. (last_short resp.state, l))))

holds-fine : (setup : AcceptSetup) (stamp moment : ℕ) (cred : MechCred) (end : AcceptEnd) (token : List ℕ) (occasion : Occasion) → moment ≤ greatest_moment → occasion.now ≡ moment → Holds moment cred end
    → FineOf stamp moment cred (accepting.step_of (accepting.accept_step setup end token occasion.now occasion.drawn))
holds-fine setup stamp moment cred ends.New token occasion known at h = absurd h
holds-fine setup stamp moment cred (ends.Runs running) token occasion known at h =
    bind-fine stamp moment cred (resp_read token) (accepting.proceeds setup occasion.now occasion.drawn (length token) running)
    (λ resp. proceeds-fine setup stamp moment cred occasion.now occasion.drawn (length token) running resp known at h)
holds-fine setup stamp moment cred (ends.Owes owing) token occasion known at h =
    bind-fine stamp moment cred (resp_read token) (accepting.closes owing) (λ resp. closes-fine stamp moment cred owing resp h)

-- ---- the walk

-- an occasion is at this moment
abbrev IsNow : ℕ → Occasion → Type 0
IsNow moment occasion = occasion.now ≡ moment

-- a dialogue walks so, and its outcome has the credential's names
record WalksOn (setup : AcceptSetup) (stamp moment : ℕ) (cred : MechCred) (occasions : List Occasion) (acceptor : AcceptEnd) (initiator : EndSays) (token : List ℕ) (outcome : Outcome) (c : Completes setup occasions acceptor initiator token outcome) : Type 0 where
  walks : Walks setup stamp moment occasions acceptor initiator token outcome c
  names : HasNames cred outcome

-- from a step that is fine all others are
walks-from : (setup : AcceptSetup) (stamp moment : ℕ) (cred : MechCred) (first : Occasion) (rest : List Occasion) (acceptor : AcceptEnd) (initiator : EndSays) (token : List ℕ) (outcome : Outcome) → moment ≤ greatest_moment → AllByRecursion (IsNow moment) rest
    → FineOf stamp moment cred (accepting.step_of (accepting.accept_step setup acceptor token first.now first.drawn)) → (c : Completes setup (first ∷ rest) acceptor initiator token outcome) → WalksOn setup stamp moment cred (first ∷ rest) acceptor initiator token outcome c
walks-from setup stamp moment cred first [] acceptor initiator token outcome known at fine c =
    let step : Result AcceptStep NegRefusal = accepting.step_of (accepting.accept_step setup acceptor token first.now first.drawn) in
    let f : FineOf stamp moment cred (Ok (steps.Done outcome c.lasts c.reply)) = fine-on stamp moment cred step (Ok (steps.Done outcome c.lasts c.reply)) fine c.accepts in
    record { walks = (stamped stamp moment cred step fine, f.0, f.1.lasting); names = f.1.names }
walks-from setup stamp moment cred first (next ∷ later) acceptor initiator token outcome known at fine c =
    let step : Result AcceptStep NegRefusal = accepting.step_of (accepting.accept_step setup acceptor token first.now first.drawn) in
    let f : FineOf stamp moment cred (Ok (steps.More c.0.acceptor_after c.0.reply)) = fine-on stamp moment cred step (Ok (steps.More c.0.acceptor_after c.0.reply)) fine c.0.accepts in
    let w = walks-from setup stamp moment cred next later c.0.acceptor_after c.0.initiator_after c.0.further outcome known at.1 (holds-fine setup stamp moment cred c.0.acceptor_after c.0.further next known at.0 f.1) c.1 in
    record { walks = (stamped stamp moment cred step fine, f.0, w.walks); names = w.names }

-- ---- the first step of the chosen mechanism

at-most : (a b : ℕ) → nat_le a b ≡ true → a ≤ b
at-most a b e = grind (arith, nat_tests)

-- Kerberos: its mark is of the stamp
request-fine : (setup : AcceptSetup) (own : PlainSetup) (name : KerberosName) (credential : Granted) (occasion : Occasion) (moment : ℕ) (turn : Turn) (chosen : Chosen) → length own.draws ≡ 66 → length occasion.drawn ≡ 66 → TicketFits setup own credential occasion → moment ≤ greatest_moment → occasion.now ≡ moment
    → FineOf own.stamp moment (creds.Kerberos name credential) (accepting.step_of (accepting.run turn chosen (accept_taken setup mechs.Kerberos (request_token credential own.stamp own.draws own.bindings) occasion.now occasion.drawn)))
unfolding accept_taken
request-fine setup own name credential occasion moment turn chosen draws drawn h known at =
    let j : Judged = ap_laws.honest_judged credential own.stamp own.bindings h.fit.part in
    let outcome : Outcome = outcome_of kinds.Kerberos (answer_done j occasion.drawn) in
    let below : occasion.now ≤ h.fit.part.endtime + judging.skew = at-most occasion.now (h.fit.part.endtime + judging.skew) h.fit.lasting in
    let few : length (answer_token j occasion.drawn) ≤ 400 = (answer_within j occasion.drawn drawn).most in
    rw (honest_request setup.keytab setup.own occasion.now setup.bindings credential own.stamp own.draws own.bindings draws h.request h.fit)
    (refl, finished-fine moment (creds.Kerberos name credential) chosen.due turn chosen outcome j.ends (answer_token j occasion.drawn) (record { lasting = omega (arith, below, known, at); names = (refl, refl) }) (omega (arith, few)))

started-user : (user password draw : List ℕ) (bindings : Option (List ℕ)) (started : InitStarted) → init_started user password draw bindings ≡ given started → started.end.user ≡ user
unfolding init_started
started-user user password draw bindings started e =
    let b = bind_ok (judged Printable 255 user) _ started e in
    let c = bind_ok (judged Printable 1024 password) _ started b.2 in
    ap (λ (s : InitStarted). s.end.user) (sym (given_is _ started c.2))

-- what the two rounds of an honest pair come to
abbrev Pairs : AcceptSetup → PlainSetup → List ℕ → List ℕ → Occasion → Occasion → Type 0
Pairs setup own user password first second = scram_laws.Agrees user password (drawn_nonce own.draws) (drawn_nonce first.drawn) own.bindings setup.bindings setup.verifiers second.now

-- the line that was taken is the user's
line-user : (setup : AcceptSetup) (own : PlainSetup) (user password : List ℕ) (first second : Occasion) → (p : Pairs setup own user password first second) → p.taken.end.line.name ≡ user
line-user setup own user password first second p =
    let line : p.accepted.done.initiator ≡ p.taken.end.line.name = ap (λ (f : AcceptFinished). f.done.initiator) (accepts p.taken.end p.proved.token setup.bindings second.now p.accepted p.accepts).same in
    let waits : p.finished.done.initiator ≡ p.proved.end.user = (completes p.proved.end p.accepted.token p.finished p.finishes).initiator in
    let answers : p.proved.end.user ≡ p.started.end.user = ap (λ (x : InitAnswered). x.end.user) (proves p.started.end p.taken.token p.proved p.proves).same in
    sym line ∙ sym p.initiator ∙ waits ∙ answers ∙ started-user user password (drawn_nonce own.draws) own.bindings p.started p.starts

-- SCRAM: the text asks for no mark
text-fine : (setup : AcceptSetup) (own : PlainSetup) (user password : List ℕ) (occasion : Occasion) (moment : ℕ) (turn : Turn) (chosen : Chosen) → UserFits setup own user password occasion → (p : Pairs setup own user password occasion occasion)
    → FineOf own.stamp moment (creds.Scram user password) (accepting.step_of (accepting.run turn chosen (accept_taken setup mechs.Scram (text_begins p.started).token occasion.now occasion.drawn)))
text-fine setup own user password occasion moment turn chosen h p =
    let r = texts-go setup own user password occasion occasion h p in
    rw (r.accepts, r.says)
    (reply-fits turn chosen chosen.due false (Some r.text) None (token-within r.text r.size) (λ v e. none-is v 28 e), line-user setup own user password occasion occasion p)

begun-is : (a b : MechBegun) (r : Result MechBegun MechRefusal) → r ≡ Ok a → r ≡ Ok b → a ≡ b
begun-is a b r e f = let both : Ok a ≡ Ok b = sym e ∙ f in cc

-- by the credential
chosen-fine : (setup : AcceptSetup) (own : PlainSetup) (cred : MechCred) (occasion : Occasion) (moment : ℕ) (turn : Turn) (end : AcceptEnd) (octets : List ℕ) (chosen : Chosen) (begun : MechBegun) → length own.draws ≡ 66 → Hears setup end octets turn chosen (accept_begun (kind_of cred)) begun.token → init_begun own cred ≡ Ok begun
    → Fitting setup own cred occasion → moment ≤ greatest_moment → occasion.now ≡ moment → FineOf own.stamp moment cred (accepting.step_of (accepting.accept_step setup end octets occasion.now occasion.drawn))
chosen-fine setup own (creds.Kerberos name credential) occasion moment turn end octets chosen begun draws hears begins fits known at =
    let same : begun ≡ request_begins own credential = begun-is begun (request_begins own credential) (init_begun own (creds.Kerberos name credential)) begins (request-begins setup own name credential occasion fits.facts) in
    let heard : Hears setup end octets turn chosen mechs.Kerberos (request_begins own credential).token = subst (λ (b : MechBegun). Hears setup end octets turn chosen mechs.Kerberos b.token) same hears in
    rw (heard occasion.now occasion.drawn) (request-fine setup own name credential occasion moment turn chosen draws fits.drawn fits.facts known at)
chosen-fine setup own (creds.Scram user password) occasion moment turn end octets chosen begun draws hears begins fits known at =
    let p = pairs setup own user password occasion occasion fits.facts in
    let same : begun ≡ text_begins p.started = begun-is begun (text_begins p.started) (init_begun own (creds.Scram user password)) begins (text-begins own user password p.started p.starts) in
    let heard : Hears setup end octets turn chosen mechs.Scram (text_begins p.started).token = subst (λ (b : MechBegun). Hears setup end octets turn chosen mechs.Scram b.token) same hears in
    rw (heard occasion.now occasion.drawn) (text-fine setup own user password occasion moment turn chosen fits.facts p)

-- ---- the chosen mechanism is the own first one

first-named : (own : PlainSetup) (list : List MechCred) (kind : MechKind) → is_first_named (map oid_listed list) kind ≡ is_first (kinds_of list) kind
first-named own [] kind = refl
first-named own (creds.Kerberos Standard credential ∷ rest) kind = refl
first-named own (creds.Kerberos Microsoft credential ∷ rest) kind = refl
first-named own (creds.Scram user password ∷ rest) kind = refl

first-chosen : (first cred : MechCred) (rest : List MechCred) (kind : MechKind) → same_kind (kind_of first) kind ≡ true → cred_for (first ∷ rest) kind ≡ Some cred → first ≡ cred
first-chosen first cred rest kind same e = let is : Some first ≡ Some cred = sym (rw same refl) ∙ e in cc

with-first : (setup : AcceptSetup) (own : PlainSetup) (cred : MechCred) (moment : ℕ) (occasions : List Occasion) (started : initiating.Started) (o : Opened own started)
    → own.negotiates ≡ true → is_own_list own.list ≡ true → best setup.offer (initiating.own_list own) ≡ Some (kind_of cred) → cred_for own.list (kind_of cred) ≡ Some cred → length own.draws ≡ 66 → IsShort started.token
    → AllByRecursion (Fitting setup own cred) occasions → is_first (kinds_of own.list) (kind_of cred) ≡ true → moment ≤ greatest_moment → AllByRecursion (IsNow moment) occasions
    → (outcome : Outcome) (c : Completes setup occasions ends.New started.end started.token outcome) → WalksOn setup own.stamp moment cred occasions ends.New started.end started.token outcome c
with-first setup own cred moment [] started o negotiates list chosen is_cred draws short fits first known at outcome c = absurd c
with-first setup own cred moment (occasion ∷ rest) started o negotiates list chosen is_cred draws short fits first known at outcome c =
    let kind : MechKind = kind_of cred in
    let here : same_kind (kind_of o.first) kind ≡ true = subst (λ (l : List MechCred). is_first (kinds_of l) kind ≡ true) o.list first in
    let same : o.first ≡ cred = first-chosen o.first cred o.rest kind here (subst (λ (l : List MechCred). cred_for l kind ≡ Some cred) o.list is_cred) in
    let begins : init_begun own cred ≡ Ok o.begun = subst (λ (x : MechCred). init_begun own x ≡ Ok o.begun) same o.begins in
    let octets : List ℕ = init_octets (initiating.first_sent own o.begun.token) in
    let running : Running = accepting.begun setup (initiating.own_list own) kind in
    let heard : Hears setup ends.New octets First running.chosen (accept_begun kind) o.begun.token = hears_first setup own kind o.begun.token list (subst IsShort (negotiated own started o negotiates) short) chosen (first-named own own.list kind ∙ first) in
    let fine = chosen-fine setup own cred occasion moment First ends.New octets running.chosen o.begun draws heard begins fits.0 known at.0 in
    walks-from setup own.stamp moment cred occasion rest ends.New started.end started.token outcome known at.1
    (subst (λ (t : List ℕ). FineOf own.stamp moment cred (accepting.step_of (accepting.accept_step setup ends.New t occasion.now occasion.drawn))) (sym (negotiated own started o negotiates)) fine) c

-- ---- another one is chosen

-- the acceptor's end waits for the chosen mechanism's token
abbrev waiting : PlainSetup → MechKind → AcceptEnd
waiting own kind = ends.Runs (record { chosen = chosen_on own kind true; mech = accept_begun kind })

-- and its reply names that
abbrev asked : PlainSetup → MechKind → List ℕ
asked own kind = accepting.reply First (oid_on own kind) true false None None

passes-over : (setup : AcceptSetup) (own : PlainSetup) (kind : MechKind) (token : List ℕ) (occasion : Occasion) → is_own_list own.list ≡ true → IsShort (init_octets (initiating.first_sent own token)) → best setup.offer (initiating.own_list own) ≡ Some kind → is_first_named (initiating.own_list own) kind ≡ false
    → accepting.step_of (accepting.accept_step setup ends.New (init_octets (initiating.first_sent own token)) occasion.now occasion.drawn) ≡ Ok (steps.More (waiting own kind) (asked own kind))
unfolding accepting.begins
passes-over setup own kind token occasion list short chosen other = rw (init_asks setup own token list short, init_reads own token list short, chosen, other) refl

own-by : (b : Bool) (list : List MechCred) (kind : MechKind) (first cred : MechCred) → same_kind (kind_of first) kind ≡ b → (cred_for list kind ≡ Some cred → is_own list kind ≡ true) → (if b then Some first else cred_for list kind) ≡ Some cred → is_own (first ∷ list) kind ≡ true
own-by true list kind first cred e more found = rw e refl
own-by false list kind first cred e more found = rw e (more found)

cred-own : (list : List MechCred) (kind : MechKind) (cred : MechCred) → cred_for list kind ≡ Some cred → is_own list kind ≡ true
cred-own [] kind cred e = cc
cred-own (first ∷ rest) kind cred e = own-by (same_kind (kind_of first) kind) rest kind first cred refl (λ f. cred-own rest kind cred f) e

-- what two steps that are one go on with
record SameMore (end other : AcceptEnd) (token another : List ℕ) : Type 0 where
  end_is : end ≡ other
  token_is : token ≡ another

same-more : (end other : AcceptEnd) (token another : List ℕ) (r : Result AcceptStep NegRefusal) → r ≡ Ok (steps.More end token) → r ≡ Ok (steps.More other another) → SameMore end other token another
same-more end other token another r e f =
    let both : Ok (steps.More end token) ≡ Ok (steps.More other another) = sym e ∙ f in
    record { end_is = cc; token_is = cc }

no-end : (end : AcceptEnd) (token reply : List ℕ) (outcome : Outcome) (lasts : ℕ) (r : Result AcceptStep NegRefusal) → r ≡ Ok (steps.More end token) → r ≡ Ok (steps.Done outcome lasts reply) → ⊥
no-end end token reply outcome lasts r e f = let both : Ok (steps.More end token) ≡ Ok (steps.Done outcome lasts reply) = sym e ∙ f in cc

no-mark : (stamp : ℕ) (end : AcceptEnd) (token : List ℕ) (r : Result AcceptStep NegRefusal) → r ≡ Ok (steps.More end token) → (pause : AcceptPause) → r ≡ Ok (steps.WantsAuth pause) → (accepting.mark_asked pause).at ≡ stamp
no-mark stamp end token r e pause f = absurd (let both : Ok (steps.More end token) ≡ Ok (steps.WantsAuth pause) = sym e ∙ f in cc)

same-sent : (end other : EndSays) (token another : List ℕ) (r : Result StepSays NegRefusal) → r ≡ Ok (initiated.More end token) → r ≡ Ok (initiated.More other another) → token ≡ another
same-sent end other token another r e f = let both : Ok (initiated.More end token) ≡ Ok (initiated.More other another) = sym e ∙ f in cc

-- once the acceptor passed the first token over
walks-over : (setup : AcceptSetup) (own : PlainSetup) (cred : MechCred) (moment : ℕ) (occasion : Occasion) (rest : List Occasion) (started : initiating.Started) (mech : InitMech) (begun : MechBegun)
    → own.negotiates ≡ true → started.end ≡ inits.Opens (record { own = own; mech = mech }) → accepting.step_of (accepting.accept_step setup ends.New started.token occasion.now occasion.drawn) ≡ Ok (steps.More (waiting own (kind_of cred)) (asked own (kind_of cred)))
    → cred_for own.list (kind_of cred) ≡ Some cred → length own.draws ≡ 66 → init_begun own cred ≡ Ok begun → IsShort (resp_octets (initiating.token_sent begun.token)) → AllByRecursion (Fitting setup own cred) rest → is_first (kinds_of own.list) (kind_of cred) ≡ false
    → moment ≤ greatest_moment → AllByRecursion (IsNow moment) rest → (outcome : Outcome) (c : Completes setup (occasion ∷ rest) ends.New started.end started.token outcome) → WalksOn setup own.stamp moment cred (occasion ∷ rest) ends.New started.end started.token outcome c
walks-over setup own cred moment occasion [] started mech begun negotiates end_is over is_cred draws begins begun_short fits other known at outcome c =
    absurd (no-end (waiting own (kind_of cred)) (asked own (kind_of cred)) c.reply outcome c.lasts (passed_of (accepting.step_of (accepting.accept_step setup ends.New started.token occasion.now occasion.drawn))) (ap passed_of over) c.accepts)
walks-over setup own cred moment occasion (next ∷ later) started mech begun negotiates end_is over is_cred draws begins begun_short fits other known at outcome c =
    let kind : MechKind = kind_of cred in
    let step : Result AcceptStep NegRefusal = accepting.step_of (accepting.accept_step setup ends.New started.token occasion.now occasion.drawn) in
    let same = same-more (waiting own kind) c.0.acceptor_after (asked own kind) c.0.reply (passed_of step) (ap passed_of over) c.0.accepts in
    let sent : List ℕ = resp_octets (initiating.token_sent begun.token) in
    let after : EndSays = end_at Later own kind true begun.mech in
    let goes : initiating.step_of (initiating.init_step (inits.Opens (record { own = own; mech = mech })) (asked own kind)) ≡ Ok (initiated.More after sent) = switches own kind mech cred begun negotiates (cred-own own.list kind cred is_cred) other is_cred begins in
    let there : initiating.step_of (initiating.init_step started.end (asked own kind)) ≡ Ok (initiated.More after sent) = subst (λ (e : EndSays). initiating.step_of (initiating.init_step e (asked own kind)) ≡ Ok (initiated.More after sent)) (sym end_is) goes in
    let heard_so : initiating.step_of (initiating.init_step started.end c.0.reply) ≡ Ok (initiated.More after sent) = subst (λ (t : List ℕ). initiating.step_of (initiating.init_step started.end t) ≡ Ok (initiated.More after sent)) same.token_is there in
    let further : sent ≡ c.0.further = same-sent after c.0.initiator_after sent c.0.further (initiating.step_of (initiating.init_step started.end c.0.reply)) heard_so c.0.initiates in
    let heard : Hears setup (waiting own kind) sent Later (chosen_on own kind true) (accept_begun kind) begun.token = hears_later setup (chosen_on own kind true) (accept_begun kind) begun.token begun_short in
    let fine = chosen-fine setup own cred next moment Later (waiting own kind) sent (chosen_on own kind true) begun draws heard begins fits.0 known at.0 in
    let fine_sent = subst (λ (t : List ℕ). FineOf own.stamp moment cred (accepting.step_of (accepting.accept_step setup (waiting own kind) t next.now next.drawn))) further fine in
    let fine_after = subst (λ (e : AcceptEnd). FineOf own.stamp moment cred (accepting.step_of (accepting.accept_step setup e c.0.further next.now next.drawn))) same.end_is fine_sent in
    let w = walks-from setup own.stamp moment cred next later c.0.acceptor_after c.0.initiator_after c.0.further outcome known at.1 fine_after c.1 in
    let short : IsShort (asked own kind) = reply-fits First (chosen_on own kind true) true false None None (λ v e. none-is v 65000 e) (λ v e. none-is v 28 e) in
    record { walks = (no-mark own.stamp (waiting own kind) (asked own kind) step over, subst IsShort same.token_is short, w.walks); names = w.names }

with-other : (setup : AcceptSetup) (own : PlainSetup) (cred : MechCred) (moment : ℕ) (occasions : List Occasion) (started : initiating.Started) (o : Opened own started) (begun : MechBegun)
    → own.negotiates ≡ true → is_own_list own.list ≡ true → best setup.offer (initiating.own_list own) ≡ Some (kind_of cred) → cred_for own.list (kind_of cred) ≡ Some cred → length own.draws ≡ 66 → IsShort started.token → init_begun own cred ≡ Ok begun → IsShort (resp_octets (initiating.token_sent begun.token))
    → AllByRecursion (Fitting setup own cred) occasions → is_first (kinds_of own.list) (kind_of cred) ≡ false → moment ≤ greatest_moment → AllByRecursion (IsNow moment) occasions
    → (outcome : Outcome) (c : Completes setup occasions ends.New started.end started.token outcome) → WalksOn setup own.stamp moment cred occasions ends.New started.end started.token outcome c
with-other setup own cred moment [] started o begun negotiates list chosen is_cred draws short begins begun_short fits other known at outcome c = absurd c
with-other setup own cred moment (occasion ∷ rest) started o begun negotiates list chosen is_cred draws short begins begun_short fits other known at outcome c =
    let kind : MechKind = kind_of cred in
    let first = passes-over setup own kind o.begun.token occasion list (subst IsShort (negotiated own started o negotiates) short) chosen (first-named own own.list kind ∙ other) in
    let over : accepting.step_of (accepting.accept_step setup ends.New started.token occasion.now occasion.drawn) ≡ Ok (steps.More (waiting own kind) (asked own kind)) =
    subst (λ (t : List ℕ). accepting.step_of (accepting.accept_step setup ends.New t occasion.now occasion.drawn) ≡ Ok (steps.More (waiting own kind) (asked own kind))) (sym (negotiated own started o negotiates)) first in
    walks-over setup own cred moment occasion rest started o.begun.mech begun negotiates o.end over is_cred draws begins begun_short fits.1 other known at.1 outcome c

-- ---- without negotiation

alone-walks : (setup : AcceptSetup) (own : PlainSetup) (credential : Granted) (moment : ℕ) (occasions : List Occasion) (started : initiating.Started) (begun : MechBegun)
    → own.negotiates ≡ false → own.list ≡ creds.Kerberos Standard credential ∷ [] → takes_bare setup ≡ true → length own.draws ≡ 66 → initiating.init_start own ≡ Ok started → init_begun own (creds.Kerberos Standard credential) ≡ Ok begun
    → AllByRecursion (Fitting setup own (creds.Kerberos Standard credential)) occasions → moment ≤ greatest_moment → AllByRecursion (IsNow moment) occasions
    → (outcome : Outcome) (c : Completes setup occasions ends.New started.end started.token outcome) → WalksOn setup own.stamp moment (creds.Kerberos Standard credential) occasions ends.New started.end started.token outcome c
alone-walks setup own credential moment [] started begun negotiates list takes draws starts begins fits known at outcome c = absurd c
alone-walks setup own credential moment (occasion ∷ rest) started begun negotiates list takes draws starts begins fits known at outcome c =
    let cred : MechCred = creds.Kerberos Standard credential in
    let same : begun ≡ request_begins own credential = begun-is begun (request_begins own credential) (init_begun own cred) begins (request-begins setup own Standard credential occasion fits.0.facts) in
    let token_is : started.token ≡ request_token credential own.stamp own.draws own.bindings = (alone_from own credential begun started negotiates list begins starts).1 ∙ ap (λ (b : MechBegun). b.token) same in
    let heard = hears_bare setup own credential list fits.0.facts.request takes in
    let fine : FineOf own.stamp moment cred (accepting.step_of (accepting.accept_step setup ends.New (request_token credential own.stamp own.draws own.bindings) occasion.now occasion.drawn)) =
    rw (heard occasion.now occasion.drawn) (request-fine setup own Standard credential occasion moment Bare (chosen_on own kinds.Kerberos false) draws fits.0.drawn fits.0.facts known at.0) in
    walks-from setup own.stamp moment cred occasion rest ends.New started.end started.token outcome known at.1
    (subst (λ (t : List ℕ). FineOf own.stamp moment cred (accepting.step_of (accepting.accept_step setup ends.New t occasion.now occasion.drawn))) (sym token_is) fine) c

with-alone : (setup : AcceptSetup) (own : PlainSetup) (cred : MechCred) (moment : ℕ) (occasions : List Occasion) (started : initiating.Started) (begun : MechBegun)
    → own.negotiates ≡ false → BareFits setup own → cred_for own.list (kind_of cred) ≡ Some cred → length own.draws ≡ 66 → initiating.init_start own ≡ Ok started → init_begun own cred ≡ Ok begun
    → AllByRecursion (Fitting setup own cred) occasions → moment ≤ greatest_moment → AllByRecursion (IsNow moment) occasions
    → (outcome : Outcome) (c : Completes setup occasions ends.New started.end started.token outcome) → WalksOn setup own.stamp moment cred occasions ends.New started.end started.token outcome c
with-alone setup own cred moment occasions started begun negotiates bare is_cred draws starts begins fits known at outcome c =
    let a = bare-list own.list bare.list in
    let same : creds.Kerberos Standard a.credential ≡ cred = only_cred a.credential cred (subst (λ (l : List MechCred). cred_for l (kind_of cred) ≡ Some cred) a.is is_cred) in
    subst (λ (x : MechCred). init_begun own x ≡ Ok begun → AllByRecursion (Fitting setup own x) occasions → WalksOn setup own.stamp moment x occasions ends.New started.end started.token outcome c) same
    (λ b f. alone-walks setup own a.credential moment occasions started begun negotiates a.is bare.takes draws starts b f known at outcome c) begins fits

-- ---- an honest pair

by-cred : (setup : AcceptSetup) (own : PlainSetup) (cred : MechCred) (moment : ℕ) (occasions : List Occasion) (started : initiating.Started) (begun : MechBegun)
    → (own.negotiates ≡ false → BareFits setup own) → is_own_list own.list ≡ true → best setup.offer (initiating.own_list own) ≡ Some (kind_of cred) → cred_for own.list (kind_of cred) ≡ Some cred → length own.draws ≡ 66 → initiating.init_start own ≡ Ok started → IsShort started.token → init_begun own cred ≡ Ok begun → IsShort (resp_octets (initiating.token_sent begun.token))
    → AllByRecursion (Fitting setup own cred) occasions → moment ≤ greatest_moment → AllByRecursion (IsNow moment) occasions
    → (outcome : Outcome) (c : Completes setup occasions ends.New started.end started.token outcome) → WalksOn setup own.stamp moment cred occasions ends.New started.end started.token outcome c
by-cred setup own cred moment occasions started begun bare list chosen is_cred draws starts short begins begun_short fits known at outcome c =
    let o = opened_from own own.list started refl starts in
    elim (cases_Bool own.negotiates) [
      | inl negotiates ↦ elim (cases_Bool (is_first (kinds_of own.list) (kind_of cred))) [
        | inl first ↦ with-first setup own cred moment occasions started o negotiates list chosen is_cred draws short fits first known at outcome c
        | inr other ↦ with-other setup own cred moment occasions started o begun negotiates list chosen is_cred draws short begins begun_short fits other known at outcome c
      ]
      | inr alone ↦ with-alone setup own cred moment occasions started begun alone (bare alone) is_cred draws starts begins fits known at outcome c
    ]

same-cred : (a b : MechCred) (r : Option MechCred) → r ≡ Some a → r ≡ Some b → a ≡ b
same-cred a b r e f = let both : Some a ≡ Some b = sym e ∙ f in cc

-- an honest pair completes, walks so, and has the credential's names
pub walked : (setup : AcceptSetup) (own : PlainSetup) (kind : MechKind) (moment : ℕ) (occasions : List Occasion) → (h : HonestPair setup own kind occasions) → AllByRecursion (λ occasion. occasion.now ≡ moment) occasions → moment ≤ greatest_moment → Walked setup own kind moment occasions h.started
walked setup own kind moment occasions h at known =
    let a = exchanges setup own kind occasions h in
    let same : kind ≡ kind_of h.cred = sym (cred_for-kind own.list kind h.cred h.is_cred) in
    let chosen : best setup.offer (initiating.own_list own) ≡ Some (kind_of h.cred) = subst (λ (k : MechKind). best setup.offer (initiating.own_list own) ≡ Some k) same h.chosen in
    let is_cred : cred_for own.list (kind_of h.cred) ≡ Some h.cred = subst (λ (k : MechKind). cred_for own.list k ≡ Some h.cred) same h.is_cred in
    let w = by-cred setup own h.cred moment occasions h.started h.begun h.bare h.is_list chosen is_cred h.draws h.starts h.short h.begins h.begun_short h.fit known at a.outcome a.completes in
    record {
      outcome = a.outcome;
      mech = a.mech;
      named = λ cred is. subst (λ (x : MechCred). HasNames x a.outcome) (same-cred h.cred cred (cred_for own.list kind) h.is_cred is) w.names;
      completes = a.completes;
      walks = w.walks;
    }
