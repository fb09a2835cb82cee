-- No step of an initiator is refused for want of memory.
use Rattle.std.proofs.Common.{◌≡◌, ℕ, Bool, true, false, not, List, [], ◌∷◌, length, Option, Some, None, Result, Ok, Err, refl}
use Rattle.gss_base.specs.declared.mech.MechKind.{MechKind}
use Rattle.gss_base.specs.Mech.{mech_of}
use Rattle.krb_tokens.specs.declared.end.Side.TheVariants.{Initiator}
use Rattle.scram_mech.specs.MechMaking.{MechMaking}
use Rattle.spnego_msgs.specs.declared.neg_resp.NegResp.{NegResp}
use Rattle.spnego_msgs.specs.declared.neg_state.NegState.{NegState}
use Rattle.spnego_core.specs.MechStates.{InitAnswer}
use Rattle.spnego_core.specs.MechStates as answers
use Rattle.spnego_core.specs.MechStates.{InitMech}
use Rattle.spnego_core.specs.declared.outcome.Outcome.{Outcome}
use Rattle.spnego_core.specs.declared.refusal.MechRefusal.{MechRefusal}
use Rattle.spnego_core.specs.declared.refusal.NegRefusal.{NegRefusal}
use Rattle.spnego_core.specs.declared.refusal.NegRefusal.TheVariants.{Defective, Rejected, MechNotMine, MicBad}
use Rattle.spnego_core.specs.declared.setup.MechCred.{MechCred}
use Rattle.spnego_core.specs.Ends.{PlainSetup, OpeningSays, TalkSays, TalkingSays, SignedSays, EndSays}
use Rattle.spnego_core.specs.Ends as ends
use Rattle.spnego_core.specs.InitMech.{MechBegun, MechReplied, init_begun, init_taken, kinds_of, cred_for}
use Rattle.spnego_core.specs.Initiating.{Initiated, behind, own_list, opens, starts, init_start, looks, told, ran, run, switched, begins_other, switches, talk_with, picks, own_kind, opened, is_chosen, talk_after, talked, settles, looks_again, closed, init_step, completes_later}
use Rattle.spnego_core.specs.Choice.{is_first}
use Rattle.spnego_core.specs.ListMic.{mic_found}
use Rattle.spnego_core.specs.Reasons.{neg_wants_memory}
use Rattle.spnego_core.specs.Steps.{due, or_refuse}
use Rattle.spnego_core.specs.Tokens.{first_read, resp_read, last_read, rejects}
use Rattle.spnego_core.proofs.MechReasons.{MechReasoned, init_begun-reasoned, init_taken-reasoned, Reasoned, reason-of, reason-ok, reason-err, reason-bind, reason-if, reason-due, reason-or}
use Rattle.spnego_core.proofs.AcceptReasons.{resp_read-reasoned}

opens-reasoned : (own : PlainSetup) (r : Result MechBegun MechRefusal) → MechReasoned r → Reasoned (opens own r)
unfolding MechReasoned Reasoned
opens-reasoned own (Ok begun) h = tt
opens-reasoned own (Err e) h = h

starts-reasoned : (own : PlainSetup) (list : List MechCred) → Reasoned (starts own list)
starts-reasoned own [] = reason-err _ _ refl
starts-reasoned own (first ∷ rest) = opens-reasoned own (init_begun own first) (init_begun-reasoned own first)

behind-reasoned : (makes found : List MechMaking) (r : Result Initiated NegRefusal) → Reasoned r → Reasoned (behind makes found r)
unfolding Reasoned
behind-reasoned makes found (Ok taken) h = tt
behind-reasoned makes found (Err e) h = h

looks-reasoned : (talk : TalkSays) (outcome : Outcome) (state : Option NegState) (mic : Option (List ℕ)) → Reasoned (looks talk outcome state mic)
looks-reasoned talk outcome state None = reason-if _ _ _ (reason-err _ _ refl) (reason-ok _)
looks-reasoned talk outcome state (Some mic) = reason-if _ _ _ (reason-ok _) (reason-err _ _ refl)

told-reasoned : (talk : TalkSays) (state : Option NegState) (mic : Option (List ℕ)) (answer : InitAnswer) → Reasoned (told talk state mic answer)
told-reasoned talk state mic (answers.More mech token) = reason-if _ _ _ (reason-err _ _ refl) (reason-ok _)
told-reasoned talk state mic (answers.Done outcome) = looks-reasoned talk outcome state mic

err-reasoned : (talk : TalkSays) (state : Option NegState) (mic : Option (List ℕ)) (e : MechRefusal) → MechReasoned {A = MechReplied} (Err e) → Reasoned (ran talk state mic (Err e))
unfolding MechReasoned Reasoned
err-reasoned talk state mic e h = h

ran-reasoned : (talk : TalkSays) (state : Option NegState) (mic : Option (List ℕ)) (r : Result MechReplied MechRefusal) → MechReasoned r → Reasoned (ran talk state mic r)
ran-reasoned talk state mic (Ok taken) h = behind-reasoned taken.makes taken.found (told talk state mic taken.answer) (told-reasoned talk state mic taken.answer)
ran-reasoned talk state mic (Err e) h = err-reasoned talk state mic e h

run-reasoned : (size : ℕ) (talk : TalkSays) (mech : InitMech) (state : Option NegState) (token mic : Option (List ℕ)) → Reasoned (run size talk mech state token mic)
unfolding run
run-reasoned size talk mech state None mic = reason-err _ _ refl
run-reasoned size talk mech state (Some token) mic = ran-reasoned talk state mic (init_taken mech token) (init_taken-reasoned mech token)

switched-reasoned : (talk : TalkSays) (r : Result MechBegun MechRefusal) → MechReasoned r → Reasoned (switched talk r)
unfolding MechReasoned Reasoned
switched-reasoned talk (Ok begun) h = tt
switched-reasoned talk (Err e) h = h

other-reasoned : (talk : TalkSays) (cred : Option MechCred) → Reasoned (begins_other talk cred)
other-reasoned talk None = reason-err _ _ refl
other-reasoned talk (Some cred) = switched-reasoned talk (init_begun talk.own cred) (init_begun-reasoned talk.own cred)

switches-reasoned : (talk : TalkSays) (state : Option NegState) (token : Option (List ℕ)) → Reasoned (switches talk state token)
switches-reasoned talk state (Some token) = reason-err _ _ refl
switches-reasoned talk state None = reason-if _ _ _ (reason-err _ _ refl) (other-reasoned talk (cred_for talk.own.list talk.chosen))

picks-reasoned : (size : ℕ) (opening : OpeningSays) (kind : MechKind) (state : Option NegState) (token mic : Option (List ℕ)) → Reasoned (picks size opening kind state token mic)
unfolding picks
picks-reasoned size opening kind state token mic =
    reason-if (is_first (kinds_of opening.own.list) kind) (run size (talk_with opening.own kind state) opening.mech state token mic) (switches (talk_with opening.own kind state) state token)
    (run-reasoned size (talk_with opening.own kind state) opening.mech state token mic) (switches-reasoned (talk_with opening.own kind state) state token)

opened-reasoned : (size : ℕ) (opening : OpeningSays) (resp : NegResp) → Reasoned (opened size opening resp)
unfolding opened
opened-reasoned size opening resp =
    reason-bind (due Rejected (not (rejects resp.state))) _ (reason-due Rejected (not (rejects resp.state)) refl)
    (λ goes. reason-bind (or_refuse (Defective size) resp.state) _ (reason-or (Defective size) resp.state refl)
    (λ state. reason-bind (or_refuse (Defective size) resp.mech) _ (reason-or (Defective size) resp.mech refl)
    (λ oid. reason-bind (or_refuse MechNotMine (own_kind opening.own.list (mech_of oid))) _ (reason-or MechNotMine (own_kind opening.own.list (mech_of oid)) refl)
    (λ kind. picks-reasoned size opening kind (Some state) resp.token resp.mic))))

talked-reasoned : (size : ℕ) (talking : TalkingSays) (resp : NegResp) → Reasoned (talked size talking resp)
unfolding talked
talked-reasoned size talking resp =
    reason-bind (due Rejected (not (rejects resp.state))) _ (reason-due Rejected (not (rejects resp.state)) refl)
    (λ goes. reason-bind (due MechNotMine (is_chosen talking.talk.chosen resp.mech)) _ (reason-due MechNotMine (is_chosen talking.talk.chosen resp.mech) refl)
    (λ same. run-reasoned size (talk_after talking.talk resp.state) talking.mech resp.state resp.token resp.mic))

settles-reasoned : (signed : SignedSays) (listed complete : Bool) → Reasoned (settles signed listed complete)
settles-reasoned signed listed true = reason-ok _
settles-reasoned signed listed false = reason-err _ _ refl

again-reasoned : (signed : SignedSays) (state : Option NegState) (mic : Option (List ℕ)) → Reasoned (looks_again signed state mic)
again-reasoned signed state None = settles-reasoned signed signed.listed (completes_later state)
again-reasoned signed state (Some mic) =
    let found : List MechMaking = mic_found signed.outcome Initiator (own_list signed.talk.own) mic ∷ [] in
    reason-if _ _ _ (behind-reasoned [] found (settles signed true (completes_later state)) (settles-reasoned signed true (completes_later state))) (reason-err _ MicBad refl)

closed-reasoned : (signed : SignedSays) (resp : NegResp) → Reasoned (closed signed resp)
unfolding closed
closed-reasoned signed resp =
    reason-bind (due Rejected (not (rejects resp.state))) _ (reason-due Rejected (not (rejects resp.state)) refl)
    (λ goes. reason-bind (due MechNotMine (is_chosen signed.talk.chosen resp.mech)) _ (reason-due MechNotMine (is_chosen signed.talk.chosen resp.mech) refl)
    (λ same. again-reasoned signed resp.state resp.mic))

first-reasoned : (negotiates : Bool) (list : List (List ℕ)) (token : List ℕ) → Reasoned (first_read negotiates list token)
first-reasoned true list token = resp_read-reasoned token
first-reasoned false list token = reason-ok _

last-reasoned : (token : List ℕ) → Reasoned (last_read token)
last-reasoned [] = reason-ok _
last-reasoned (octet ∷ octets) = resp_read-reasoned (octet ∷ octets)

step-reasoned : (old : EndSays) (token : List ℕ) → Reasoned (init_step old token)
step-reasoned (ends.Opens opening) token =
    reason-bind (first_read opening.own.negotiates (own_list opening.own) token) _ (first-reasoned opening.own.negotiates (own_list opening.own) token) (opened-reasoned (length token) opening)
step-reasoned (ends.Talks talking) token = reason-bind (resp_read token) _ (resp_read-reasoned token) (talked-reasoned (length token) talking)
step-reasoned (ends.Signed signed) token = reason-bind (last_read token) _ (last-reasoned token) (closed-reasoned signed)

pub start_reasons : (own : PlainSetup) (refusal : NegRefusal) → init_start own ≡ Err refusal → neg_wants_memory refusal ≡ false
start_reasons own refusal = reason-of (init_start own) refusal (starts-reasoned own own.list)

pub init_reasons : (old : EndSays) (token : List ℕ) (refusal : NegRefusal) → init_step old token ≡ Err refusal → neg_wants_memory refusal ≡ false
init_reasons old token refusal = reason-of (init_step old token) refusal (step-reasoned old token)
