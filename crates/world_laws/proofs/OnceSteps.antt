-- A step of an initiator's end hands out one proof at most, and behind it no first text is answered; its first request is of its own first mechanism.
use Rattle.std.proofs.Common.{◌≡◌, ℕ, Bool, true, false, not, if◌then◌else◌, refl, sym, ap, ◌∙◌, subst, inl, inr, List, [], ◌∷◌, ◌++◌, length, map, Option, Some, None, Result, Ok, Err}
use Rattle.gss_base.specs.declared.mech.MechKind.{MechKind}
use Rattle.gss_base.specs.declared.mech.MechKind.TheVariants as kinds
use Rattle.gss_base.specs.Mech.{mech_of}
use Rattle.krb_derive.specs.Making.{Proof}
use Rattle.krb_tokens.specs.declared.done.MechDone.{MechDone}
use Rattle.krb_tokens.specs.declared.end.Side.TheVariants.{Initiator}
use Rattle.spnego_msgs.specs.declared.neg_state.NegState.{NegState}
use Rattle.spnego_msgs.specs.declared.neg_resp.NegResp.{NegResp}
use Rattle.ap_exchange.specs.declared.refusal.ApRefusal.{ApRefusal}
use Rattle.ap_exchange.specs.declared.request.ApInit.{ApInit}
use Rattle.ap_exchange.specs.Request.{request_of}
use Rattle.ap_exchange.specs.Reply.{reply_taken, reply_found}
use Rattle.ap_exchange.specs.Draws.{drawn_nonce}
use Rattle.scram_mech.specs.declared.refusal.ScramRefusal.{ScramRefusal}
use Rattle.scram_mech.specs.MechMaking.{MechMaking, AmongMakings, typed}
use Rattle.scram_mech.specs.Initiator.{InitModel, WaitModel, InitStarted, InitAnswered, InitFinished, init_started, init_answered, init_finished}
use Rattle.scram_mech.specs.Laws.{Laws as ScramLaws}
use Rattle.spnego_core.specs.declared.outcome.Outcome.{Outcome}
use Rattle.spnego_core.specs.declared.refusal.NegRefusal.{NegRefusal}
use Rattle.spnego_core.specs.declared.refusal.NegRefusal.TheVariants.{Defective, Rejected, MechNotMine, MicMissing, MicBad}
use Rattle.spnego_core.specs.declared.setup.MechCred.{MechCred}
use Rattle.spnego_core.specs.declared.setup.MechCred.TheVariants as creds
use Rattle.spnego_core.specs.MechStates.{InitMech}
use Rattle.spnego_core.specs.MechStates as mechs
use Rattle.spnego_core.specs.Ends.{PlainSetup, OpeningSays, TalkSays, TalkingSays, SignedSays, EndSays}
use Rattle.spnego_core.specs.Ends as ends
use Rattle.spnego_core.specs.EndSteps as steps
use Rattle.spnego_core.specs.Outcome.{outcome_of}
use Rattle.spnego_core.specs.Steps.{◌>>=◌, due, or_refuse}
use Rattle.spnego_core.specs.Tokens.{rejects, says_completed, first_read, resp_read, last_read, resp_octets}
use Rattle.spnego_core.specs.ListMic.{is_list_mic, mic_making, mic_found}
use Rattle.spnego_core.specs.Choice.{is_first}
use Rattle.spnego_core.specs.InitMech.{kinds_of, cred_for, request_begun, text_begun, init_begun, reply_answered, text_answered, final_answered, init_taken}
use Rattle.spnego_core.specs.Initiating.{Initiated, Started, opens, starts, init_start, opened, talked, closed, init_step, behind, own_list, ended, is_mic_owed, is_chosen, completes_now, completes_later, looks, token_sent, ran, run, begins_other, switched, switches, talk_with, talk_after, picks, own_kind, settles, looks_again}
use Rattle.spnego_core.specs.InitLaws.{answers_in}
use Rattle.spnego_core.proofs.Makings.{among_split}
use Rattle.spnego_core.proofs.InitSteps.{On}

-- what a step hands out of proofs
pub record OneProof (taken : Initiated) : Type 0 where
  pub next : (making : MechMaking) → AmongMakings taken.makes making → making.kind ≡ Proof → answers_in taken.step ≡ None
  pub same : (making other : MechMaking) → AmongMakings taken.makes making → AmongMakings taken.makes other → making.kind ≡ Proof → other.kind ≡ Proof → making ≡ other

record NoProof (taken : Initiated) : Type 0 where
  none : (making : MechMaking) → AmongMakings taken.makes making → making.kind ≡ Proof → ⊥

either : (P : Initiated → Type 0) (b : Bool) (x y : Result Initiated NegRefusal) → On P x → On P y → On P (if b then x else y)
either P true x y f g = f
either P false x y f g = g

on-bind : {A : Type 0} (P : Initiated → Type 0) (r : Result A NegRefusal) (next : A → Result Initiated NegRefusal) → ((x : A) → On P (next x)) → On P (r >>= next)
on-bind P (Ok x) next f = f x
on-bind P (Err refusal) next f = tt

none-one : (r : Result Initiated NegRefusal) → On NoProof r → On OneProof r
none-one (Ok taken) h = record { next = λ making a e. absurd (h.none making a e); same = λ making other a b e f. absurd (h.none making a e) }
none-one (Err refusal) h = tt

nothing-made : (taken : Initiated) → taken.makes ≡ [] → NoProof taken
nothing-made taken e = record { none = λ making a k. subst (λ (ms : List MechMaking). AmongMakings ms making) e a }

only : (making first : MechMaking) → AmongMakings (first ∷ []) making → making ≡ first
only making first (inl e) = e
only making first (inr a) = absurd a

one-made : (taken : Initiated) (first : MechMaking) → taken.makes ≡ first ∷ [] → (first.kind ≡ Proof → ⊥) → NoProof taken
one-made taken first e other = record {
  none = λ making a k. other (subst (λ (m : MechMaking). m.kind ≡ Proof) (only making first (subst (λ (ms : List MechMaking). AmongMakings ms making) e a)) k);
}

-- ---- a mechanism that is done

behind-none : (found : List MechMaking) (r : Result Initiated NegRefusal) → On NoProof r → On NoProof (behind [] found r)
behind-none found (Ok taken) h = record { none = h.none }
behind-none found (Err refusal) h = tt

ended-none : (talk : TalkSays) (outcome : Outcome) (listed completes : Bool) → NoProof (ended talk outcome listed completes)
ended-none talk outcome listed true = nothing-made _ refl
ended-none talk outcome listed false = one-made (ended talk outcome listed false) (mic_making outcome Initiator (own_list talk.own)) refl (λ e. cc)

looks-none : (talk : TalkSays) (outcome : Outcome) (state : Option NegState) (mic : Option (List ℕ)) → On NoProof (looks talk outcome state mic)
looks-none talk outcome state None = either NoProof (is_mic_owed talk) (Err MicMissing) (Ok (ended talk outcome false (completes_now state false))) tt (ended-none talk outcome false (completes_now state false))
looks-none talk outcome state (Some mic) =
    either NoProof (is_list_mic outcome Initiator (own_list talk.own) mic) (behind [] (mic_found outcome Initiator (own_list talk.own) mic ∷ []) (Ok (ended talk outcome true (completes_now state true)))) (Err MicBad)
    (behind-none (mic_found outcome Initiator (own_list talk.own) mic ∷ []) (Ok (ended talk outcome true (completes_now state true))) (ended-none talk outcome true (completes_now state true))) tt

reply-none : (talk : TalkSays) (state : Option NegState) (mic : Option (List ℕ)) (found : List MechMaking) (result : Result MechDone ApRefusal) → On NoProof (ran talk state mic (reply_answered found result))
reply-none talk state mic found (Err refusal) = tt
reply-none talk state mic found (Ok done) = behind-none found (looks talk (outcome_of kinds.Kerberos done) state mic) (looks-none talk (outcome_of kinds.Kerberos done) state mic)

final-none : (talk : TalkSays) (state : Option NegState) (mic : Option (List ℕ)) (result : Result InitFinished ScramRefusal) → On NoProof (ran talk state mic (final_answered result))
final-none talk state mic (Err refusal) = tt
final-none talk state mic (Ok finished) = behind-none finished.found (looks talk (outcome_of kinds.Scram finished.done) state mic) (looks-none talk (outcome_of kinds.Scram finished.done) state mic)

-- ---- the proof

sent-one : (talk : TalkSays) (wait : WaitModel) (token : List ℕ) (makes : List MechMaking) (first : MechMaking) → makes ≡ first ∷ []
    → OneProof (record { step = steps.More (ends.Talks (record { talk = talk; mech = mechs.Proof wait })) (resp_octets (token_sent token)); chosen = Some talk.chosen; listed = false; makes = makes ++ []; found = [] })
sent-one talk wait token makes first e = record {
  next = λ making a k. refl;
  same = λ making other a b k l. is-first making a ∙ sym (is-first other b);
}
  where
    is-first : (making : MechMaking) → AmongMakings (makes ++ []) making → making ≡ first
    is-first making a = elim (among_split makes [] making a) [ inl f ↦ only making first (subst (λ (ms : List MechMaking). AmongMakings ms making) e f) | inr n ↦ absurd n ]

text-one : (scram : ScramLaws) (talk : TalkSays) (state : Option NegState) (mic : Option (List ℕ)) (end : InitModel) (text : List ℕ) (result : Result InitAnswered ScramRefusal) → init_answered end text ≡ result → On OneProof (ran talk state mic (text_answered result))
text-one scram talk state mic end text (Err refusal) e = tt
text-one scram talk state mic end text (Ok answered) e =
    let p = scram.proves end text answered e in
    by-state (says_completed state) _ (sent-one talk answered.end answered.token answered.makes _ (ap (λ (a : InitAnswered). a.makes) p.same))
  where
    by-state : (b : Bool) (sent : Initiated) → OneProof (record sent { makes = answered.makes ++ sent.makes; found = sent.found }) → On OneProof (behind answered.makes [] (if b then Err (Defective 0) else Ok sent))
    by-state true sent h = tt
    by-state false sent h = h

run-one : (scram : ScramLaws) (size : ℕ) (talk : TalkSays) (mech : InitMech) (state : Option NegState) (token mic : Option (List ℕ)) → On OneProof (run size talk mech state token mic)
unfolding run init_taken
run-one scram size talk mech state None mic = tt
run-one scram size talk (mechs.Kerberos end) state (Some token) mic = none-one _ (reply-none talk state mic (map typed (reply_found end token)) (reply_taken end token))
run-one scram size talk (mechs.Scram end) state (Some token) mic = text-one scram talk state mic end token (init_answered end token) refl
run-one scram size talk (mechs.Proof end) state (Some token) mic = none-one _ (final-none talk state mic (init_finished end token))

-- ---- another mechanism begins

request-none : (talk : TalkSays) (first : MechMaking) (result : Result (ApInit × List ℕ) ApRefusal) → (first.kind ≡ Proof → ⊥) → On NoProof (switched talk (request_begun (first ∷ []) result))
request-none talk first (Err refusal) other = tt
request-none talk first (Ok sent) other = one-made _ first refl other

text-none : (talk : TalkSays) (result : Result InitStarted ScramRefusal) → On NoProof (switched talk (text_begun result))
text-none talk (Err refusal) = tt
text-none talk (Ok started) = nothing-made _ refl

switched-none : (talk : TalkSays) (cred : MechCred) → On NoProof (switched talk (init_begun talk.own cred))
unfolding init_begun
switched-none talk (creds.Kerberos name credential) = request-none talk _ (request_of credential talk.own.stamp talk.own.draws talk.own.bindings) (λ e. cc)
switched-none talk (creds.Scram user password) = text-none talk (init_started user password (drawn_nonce talk.own.draws) talk.own.bindings)

other-none : (talk : TalkSays) (found : Option MechCred) → On NoProof (begins_other talk found)
other-none talk None = tt
other-none talk (Some cred) = switched-none talk cred

switches-none : (talk : TalkSays) (state : Option NegState) (token : Option (List ℕ)) → On NoProof (switches talk state token)
switches-none talk state (Some token) = tt
switches-none talk state None = either NoProof (says_completed state) (Err (Defective 0)) (begins_other talk (cred_for talk.own.list talk.chosen)) tt (other-none talk (cred_for talk.own.list talk.chosen))

-- ---- the machine

picks-one : (scram : ScramLaws) (size : ℕ) (opening : OpeningSays) (kind : MechKind) (state : Option NegState) (token mic : Option (List ℕ)) → On OneProof (picks size opening kind state token mic)
unfolding picks
picks-one scram size opening kind state token mic =
    either OneProof (is_first (kinds_of opening.own.list) kind) (run size (talk_with opening.own kind state) opening.mech state token mic) (switches (talk_with opening.own kind state) state token)
    (run-one scram size (talk_with opening.own kind state) opening.mech state token mic) (none-one _ (switches-none (talk_with opening.own kind state) state token))

opened-one : (scram : ScramLaws) (size : ℕ) (opening : OpeningSays) (resp : NegResp) → On OneProof (opened size opening resp)
unfolding opened
opened-one scram size opening resp =
    on-bind {A = Unit {0}} OneProof (due Rejected (not (rejects resp.state)))
    (λ goes. or_refuse (Defective size) resp.state >>= (λ state. or_refuse (Defective size) resp.mech >>= (λ oid. or_refuse MechNotMine (own_kind opening.own.list (mech_of oid)) >>= (λ kind. picks size opening kind (Some state) resp.token resp.mic))))
    (λ goes. on-bind {A = NegState} OneProof (or_refuse (Defective size) resp.state)
    (λ state. or_refuse (Defective size) resp.mech >>= (λ oid. or_refuse MechNotMine (own_kind opening.own.list (mech_of oid)) >>= (λ kind. picks size opening kind (Some state) resp.token resp.mic)))
    (λ state. on-bind {A = List ℕ} OneProof (or_refuse (Defective size) resp.mech)
    (λ oid. or_refuse MechNotMine (own_kind opening.own.list (mech_of oid)) >>= (λ kind. picks size opening kind (Some state) resp.token resp.mic))
    (λ oid. on-bind {A = MechKind} OneProof (or_refuse MechNotMine (own_kind opening.own.list (mech_of oid)))
    (λ kind. picks size opening kind (Some state) resp.token resp.mic)
    (λ kind. picks-one scram size opening kind (Some state) resp.token resp.mic))))

talked-one : (scram : ScramLaws) (size : ℕ) (talking : TalkingSays) (resp : NegResp) → On OneProof (talked size talking resp)
unfolding talked
talked-one scram size talking resp =
    on-bind {A = Unit {0}} OneProof (due Rejected (not (rejects resp.state)))
    (λ goes. due MechNotMine (is_chosen talking.talk.chosen resp.mech) >>= (λ same. run size (talk_after talking.talk resp.state) talking.mech resp.state resp.token resp.mic))
    (λ goes. on-bind {A = Unit {0}} OneProof (due MechNotMine (is_chosen talking.talk.chosen resp.mech))
    (λ same. run size (talk_after talking.talk resp.state) talking.mech resp.state resp.token resp.mic)
    (λ same. run-one scram size (talk_after talking.talk resp.state) talking.mech resp.state resp.token resp.mic))

settles-none : (signed : SignedSays) (listed completes : Bool) → On NoProof (settles signed listed completes)
settles-none signed listed true = nothing-made _ refl
settles-none signed listed false = tt

looks_again-none : (signed : SignedSays) (state : Option NegState) (mic : Option (List ℕ)) → On NoProof (looks_again signed state mic)
looks_again-none signed state None = settles-none signed signed.listed (completes_later state)
looks_again-none signed state (Some mic) =
    either NoProof (is_list_mic signed.outcome Initiator (own_list signed.talk.own) mic) (behind [] (mic_found signed.outcome Initiator (own_list signed.talk.own) mic ∷ []) (settles signed true (completes_later state))) (Err MicBad)
    (behind-none (mic_found signed.outcome Initiator (own_list signed.talk.own) mic ∷ []) (settles signed true (completes_later state)) (settles-none signed true (completes_later state))) tt

closed-one : (signed : SignedSays) (resp : NegResp) → On OneProof (closed signed resp)
unfolding closed
closed-one signed resp =
    on-bind {A = Unit {0}} OneProof (due Rejected (not (rejects resp.state)))
    (λ goes. due MechNotMine (is_chosen signed.talk.chosen resp.mech) >>= (λ same. looks_again signed resp.state resp.mic))
    (λ goes. on-bind {A = Unit {0}} OneProof (due MechNotMine (is_chosen signed.talk.chosen resp.mech)) (λ same. looks_again signed resp.state resp.mic)
    (λ same. none-one _ (looks_again-none signed resp.state resp.mic)))

step-one : (scram : ScramLaws) (old : EndSays) (token : List ℕ) → On OneProof (init_step old token)
step-one scram (ends.Opens opening) token = on-bind OneProof (first_read opening.own.negotiates (own_list opening.own) token) (opened (length token) opening) (λ resp. opened-one scram (length token) opening resp)
step-one scram (ends.Talks talking) token = on-bind OneProof (resp_read token) (talked (length token) talking) (λ resp. talked-one scram (length token) talking resp)
step-one scram (ends.Signed signed) token = on-bind OneProof (last_read token) (closed signed) (λ resp. closed-one signed resp)

pub one-proof : (scram : ScramLaws) (old : EndSays) (token : List ℕ) (taken : Initiated) → init_step old token ≡ Ok taken → OneProof taken
one-proof scram old token taken e = subst (On OneProof) e (step-one scram old token)

-- ---- the first request

none-made : (x started : Started) (r : Result Started NegRefusal) → r ≡ Ok x → r ≡ Ok started → x.makes ≡ [] → started.makes ≡ []
none-made x started r e f n = let same : x ≡ started = cc in subst (λ (s : Started). s.makes ≡ []) same n

begun-first : (own : PlainSetup) (first : MechCred) (rest : List MechCred) (started : Started) (making : MechMaking) → opens own (init_begun own first) ≡ Ok started → AmongMakings started.makes making → is_first (kinds_of (first ∷ rest)) kinds.Kerberos ≡ true
unfolding init_begun
begun-first own (creds.Kerberos name credential) rest started making e a = refl
begun-first own (creds.Scram user password) rest started making e a = absurd (by (init_started user password (drawn_nonce own.draws) own.bindings) e)
  where
    by : (result : Result InitStarted ScramRefusal) → opens own (text_begun result) ≡ Ok started → ⊥
    by (Err refusal) f = cc
    by (Ok sent) f = (let is : started.makes ≡ [] = none-made _ started _ refl f refl in subst (λ (ms : List MechMaking). AmongMakings ms making) is a)

start-by : (own : PlainSetup) (list : List MechCred) (started : Started) (making : MechMaking) → starts own list ≡ Ok started → AmongMakings started.makes making → is_first (kinds_of list) kinds.Kerberos ≡ true
start-by own [] started making e a = absurd cc
start-by own (first ∷ rest) started making e a = begun-first own first rest started making e a

pub start-first : (own : PlainSetup) (started : Started) (making : MechMaking) → init_start own ≡ Ok started → AmongMakings started.makes making → is_first (kinds_of own.list) kinds.Kerberos ≡ true
start-first own started making e a = start-by own own.list started making e a
