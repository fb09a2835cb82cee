-- A step of an initiator's end hands its proof out where it then waits for the signature, and finishes by SCRAM only where it waited.
use Rattle.std.proofs.Common.{◌≡◌, inl, ℕ, Bool, true, false, not, refl, sym, ◌∙◌, ap, subst, List, [], ◌∷◌, length, map, Option, Some, None, Result, Ok, Err}
use Rattle.std.specs.Prelude.{if◌then◌else◌}
use Rattle.std.proofs.lemmas.Option.{none-some, same_Some}
use Rattle.gss_base.specs.declared.mech.MechKind.{MechKind}
use Rattle.gss_base.specs.declared.mech.MechKind.TheVariants as kinds
use Rattle.gss_base.specs.Mech.{mech_of}
use Rattle.krb_derive.specs.Making.{Proof}
use Rattle.krb_tokens.specs.declared.done.MechDone.{MechDone}
use Rattle.krb_tokens.specs.declared.end.Side.TheVariants.{Initiator}
use Rattle.ap_exchange.specs.declared.refusal.ApRefusal.{ApRefusal}
use Rattle.ap_exchange.specs.declared.request.ApInit.{ApInit}
use Rattle.ap_exchange.specs.Draws.{drawn_nonce}
use Rattle.ap_exchange.specs.Reply.{reply_taken}
use Rattle.ap_exchange.specs.Request.{request_of, request_makes}
use Rattle.scram_mech.specs.declared.refusal.ScramRefusal.{ScramRefusal}
use Rattle.scram_mech.specs.Laws.{Laws as ScramLaws}
use Rattle.scram_mech.specs.MechMaking.{MechMaking, AmongMakings, typed}
use Rattle.scram_mech.specs.Initiator.{InitModel, WaitModel, InitStarted, InitAnswered, InitFinished, init_started, init_answered, init_finished}
use Rattle.spnego_msgs.specs.declared.neg_state.NegState.{NegState}
use Rattle.spnego_msgs.specs.declared.neg_resp.NegResp.{NegResp}
use Rattle.spnego_core.specs.declared.outcome.Outcome.{Outcome}
use Rattle.spnego_core.specs.declared.refusal.NegRefusal.{NegRefusal}
use Rattle.spnego_core.specs.declared.refusal.NegRefusal.TheVariants.{Defective, Rejected, MechNotMine, MicMissing, MicBad}
use Rattle.spnego_core.specs.declared.refusal.MechRefusal.{MechRefusal}
use Rattle.spnego_core.specs.declared.setup.MechCred.{MechCred}
use Rattle.spnego_core.specs.declared.setup.MechCred.TheVariants as creds
use Rattle.spnego_core.specs.MechStates.{InitMech}
use Rattle.spnego_core.specs.MechStates as mechs
use Rattle.spnego_core.specs.MechStates.{InitAnswer}
use Rattle.spnego_core.specs.Ends.{PlainSetup, OpeningSays, TalkSays, TalkingSays, SignedSays, EndSays}
use Rattle.spnego_core.specs.Ends as ends
use Rattle.spnego_core.specs.EndSteps.{StepSays}
use Rattle.spnego_core.specs.EndSteps as steps
use Rattle.spnego_core.specs.Choice.{is_first}
use Rattle.spnego_core.specs.InitMech.{kinds_of, cred_for, MechBegun, request_begun, text_begun, init_begun, reply_answered, text_answered, final_answered, init_taken}
use Rattle.spnego_core.specs.Initiating.{Started, Initiated, opens, starts, init_start, opened, talked, closed, init_step, behind, own_list, ended, is_mic_owed, is_chosen, completes_now, completes_later, looks, token_sent, told, ran, run, begins_other, switched, switches, talk_with, talk_after, picks, own_kind, settles, looks_again}
use Rattle.spnego_core.specs.InitLaws.{finished_in}
use Rattle.spnego_core.specs.ListMic.{is_list_mic, mic_found}
use Rattle.spnego_core.specs.Steps.{◌>>=◌, due, or_refuse}
use Rattle.spnego_core.specs.Tokens.{resp_octets, rejects, says_completed, first_read, resp_read, last_read}
use Rattle.rpc_msgs.proofs.XdrLaws.{ok_is}
use Rattle.spnego_core.proofs.InitSteps.{On}
use Rattle.spnego_core.proofs.Makings.{among_front, among_back}

-- the SCRAM end that waits for the signature
abbrev pub proof_end : InitMech → Option WaitModel
proof_end (mechs.Kerberos end) = None
proof_end (mechs.Scram end) = None
proof_end (mechs.Proof end) = Some end

abbrev pub waits_of : EndSays → Option WaitModel
waits_of (ends.Opens opening) = proof_end opening.mech
waits_of (ends.Talks talking) = proof_end talking.mech
waits_of (ends.Signed signed) = None

abbrev pub waits_in : StepSays → Option WaitModel
waits_in (steps.More end token) = waits_of end
waits_in (steps.Done outcome) = None

-- a proof is among these
pub record HasProof (makes : List MechMaking) : Type 0 where
  pub making : MechMaking
  pub among : AmongMakings makes making
  pub is_proof : making.kind ≡ Proof

-- a step that then waits handed its proof out, and one that finishes by SCRAM was ready
pub record Proving (Ready : Outcome → Type 0) (taken : Initiated) : Type 0 where
  pub proves : (wait : WaitModel) → waits_in taken.step ≡ Some wait → HasProof taken.makes
  pub finishes : (outcome : Outcome) → finished_in taken.step ≡ Some outcome → outcome.mech ≡ kinds.Scram → Ready outcome

either : (P : Initiated → Type 0) (b : Bool) (x y : Result Initiated NegRefusal) → On P x → On P y → On P (if b then x else y)
either P true x y p q = p
either P false x y p q = q

goes_on : {A : Type 0} (P : Initiated → Type 0) (r : Result A NegRefusal) (next : A → Result Initiated NegRefusal) → ((x : A) → On P (next x)) → On P (r >>= next)
goes_on P (Ok x) next on = on x
goes_on P (Err refusal) next on = tt

behind-proving : (Ready : Outcome → Type 0) (makes found : List MechMaking) (r : Result Initiated NegRefusal) → On (Proving Ready) r → On (Proving Ready) (behind makes found r)
behind-proving Ready makes found (Err refusal) p = tt
behind-proving Ready makes found (Ok taken) p = record {
  proves = λ wait e. (let h = p.proves wait e in record { making = h.making; among = among_back makes taken.makes h.making h.among; is_proof = h.is_proof });
  finishes = p.finishes;
}

ended-proving : (Ready : Outcome → Type 0) (talk : TalkSays) (outcome : Outcome) (listed now : Bool) → (outcome.mech ≡ kinds.Scram → Ready outcome) → Proving Ready (ended talk outcome listed now)
ended-proving Ready talk outcome listed true ready = record {
  proves = λ wait e. absurd (none-some wait e);
  finishes = λ other e scram. (let same : outcome ≡ other = same_Some outcome other e in subst (λ (o : Outcome). o.mech ≡ kinds.Scram → Ready o) same ready scram);
}
ended-proving Ready talk outcome listed false ready = record {
  proves = λ wait e. absurd (none-some wait e);
  finishes = λ other e scram. (let same : outcome ≡ other = same_Some outcome other e in subst (λ (o : Outcome). o.mech ≡ kinds.Scram → Ready o) same ready scram);
}

looks-proving : (Ready : Outcome → Type 0) (talk : TalkSays) (outcome : Outcome) (state : Option NegState) (mic : Option (List ℕ)) → (outcome.mech ≡ kinds.Scram → Ready outcome) → On (Proving Ready) (looks talk outcome state mic)
looks-proving Ready talk outcome state None ready = either (Proving Ready) (is_mic_owed talk) (Err MicMissing) (Ok (ended talk outcome false (completes_now state false))) tt (ended-proving Ready talk outcome false (completes_now state false) ready)
looks-proving Ready talk outcome state (Some mic) ready = either (Proving Ready) (is_list_mic outcome Initiator (own_list talk.own) mic) (behind [] (mic_found outcome Initiator (own_list talk.own) mic ∷ []) (Ok (ended talk outcome true (completes_now state true)))) (Err MicBad)
    (behind-proving Ready [] (mic_found outcome Initiator (own_list talk.own) mic ∷ []) (Ok (ended talk outcome true (completes_now state true))) (ended-proving Ready talk outcome true (completes_now state true) ready)) tt

-- ---- the mechanism

-- what it made of a token
abbrev Answering : (Outcome → Type 0) → List MechMaking → InitAnswer → Type 0
Answering Ready makes (mechs.More mech token) = (wait : WaitModel) → proof_end mech ≡ Some wait → HasProof makes
Answering Ready makes (mechs.Done outcome) = outcome.mech ≡ kinds.Scram → Ready outcome

told-proving : (Ready : Outcome → Type 0) (talk : TalkSays) (state : Option NegState) (mic : Option (List ℕ)) (makes found : List MechMaking) (answer : InitAnswer) → Answering Ready makes answer
    → On (Proving Ready) (behind makes found (told talk state mic answer))
told-proving Ready talk state mic makes found (mechs.More mech token) a = more (says_completed state)
  where
    more : (b : Bool) → On (Proving Ready) (behind makes found (if b then Err (Defective 0) else Ok (record { step = steps.More (ends.Talks (record { talk = talk; mech = mech })) (resp_octets (token_sent token)); chosen = Some talk.chosen; listed = false; makes = []; found = [] })))
    more true = tt
    more false = record {
      proves = λ wait e. (let h = a wait e in record { making = h.making; among = among_front makes [] h.making h.among; is_proof = h.is_proof });
      finishes = λ outcome e scram. absurd (none-some outcome e);
    }
told-proving Ready talk state mic makes found (mechs.Done outcome) a = behind-proving Ready makes found (looks talk outcome state mic) (looks-proving Ready talk outcome state mic a)

-- it waited for the signature
abbrev pub Waited : Option WaitModel → Outcome → Type 0
Waited before outcome = (wait : WaitModel) × (before ≡ Some wait)

no-scram : kinds.Kerberos ≡ kinds.Scram → ⊥
no-scram e = cc

replied : (talk : TalkSays) (state : Option NegState) (mic : Option (List ℕ)) (end : ApInit) (found : List MechMaking) (r : Result MechDone ApRefusal) → On (Proving (Waited None)) (ran talk state mic (reply_answered found r))
replied talk state mic end found (Ok made) = told-proving (Waited None) talk state mic [] found (mechs.Done _) (λ e. absurd (no-scram e))
replied talk state mic end found (Err refusal) = tt

one-proof : (scram : ScramLaws) (end : InitModel) (token : List ℕ) (answered : InitAnswered) → init_answered end token ≡ Ok answered → HasProof answered.makes
one-proof scram end token answered e =
    let p = scram.proves end token answered e in
    subst (λ (a : InitAnswered). HasProof a.makes) (sym p.same) (record { making = _; among = inl refl; is_proof = refl })

answered-text : (scram : ScramLaws) (talk : TalkSays) (state : Option NegState) (mic : Option (List ℕ)) (end : InitModel) (token : List ℕ) (r : Result InitAnswered ScramRefusal) → init_answered end token ≡ r
    → On (Proving (Waited None)) (ran talk state mic (text_answered r))
answered-text scram talk state mic end token (Ok answered) e = told-proving (Waited None) talk state mic answered.makes [] (mechs.More (mechs.Proof answered.end) answered.token) (λ wait f. one-proof scram end token answered e)
answered-text scram talk state mic end token (Err refusal) e = tt

answered-final : (talk : TalkSays) (state : Option NegState) (mic : Option (List ℕ)) (end : WaitModel) (r : Result InitFinished ScramRefusal) → On (Proving (Waited (Some end))) (ran talk state mic (final_answered r))
answered-final talk state mic end (Ok finished) = told-proving (Waited (Some end)) talk state mic [] finished.found (mechs.Done _) (λ e. (end, refl))
answered-final talk state mic end (Err refusal) = tt

ran-proving : (scram : ScramLaws) (talk : TalkSays) (state : Option NegState) (mic : Option (List ℕ)) (mech : InitMech) (token : List ℕ) → On (Proving (Waited (proof_end mech))) (ran talk state mic (init_taken mech token))
unfolding init_taken
ran-proving scram talk state mic (mechs.Kerberos end) token = replied talk state mic end _ (reply_taken end token)
ran-proving scram talk state mic (mechs.Scram end) token = answered-text scram talk state mic end token (init_answered end token) refl
ran-proving scram talk state mic (mechs.Proof end) token = answered-final talk state mic end (init_finished end token)

run-proving : (scram : ScramLaws) (size : ℕ) (talk : TalkSays) (mech : InitMech) (state : Option NegState) (token mic : Option (List ℕ)) → On (Proving (Waited (proof_end mech))) (run size talk mech state token mic)
unfolding run
run-proving scram size talk mech state None mic = tt
run-proving scram size talk mech state (Some token) mic = ran-proving scram talk state mic mech token

-- ---- another mechanism begins, which waits for no signature

begun-none : (own : PlainSetup) (cred : MechCred) (begun : MechBegun) → init_begun own cred ≡ Ok begun → proof_end begun.mech ≡ None
unfolding init_begun
begun-none own (creds.Kerberos name credential) begun e = by (request_of credential own.stamp own.draws own.bindings) e
  where
    by : (r : Result (ApInit × List ℕ) ApRefusal) → request_begun (map typed (request_makes credential own.stamp own.draws own.bindings)) r ≡ Ok begun → proof_end begun.mech ≡ None
    by (Ok sent) f = ap (λ (b : MechBegun). proof_end b.mech) (ok_is {E = MechRefusal} begun _ (sym f))
    by (Err refusal) f = absurd cc
begun-none own (creds.Scram user password) begun e = by (init_started user password (drawn_nonce own.draws) own.bindings) e
  where
    by : (r : Result InitStarted ScramRefusal) → text_begun r ≡ Ok begun → proof_end begun.mech ≡ None
    by (Ok started) f = ap (λ (b : MechBegun). proof_end b.mech) (ok_is {E = MechRefusal} begun _ (sym f))
    by (Err refusal) f = absurd cc

switched-proving : (Ready : Outcome → Type 0) (talk : TalkSays) (cred : MechCred) (r : Result MechBegun MechRefusal) → init_begun talk.own cred ≡ r → On (Proving Ready) (switched talk r)
switched-proving Ready talk cred (Err refusal) e = tt
switched-proving Ready talk cred (Ok begun) e = record {
  proves = λ wait f. absurd (none-some wait (sym (begun-none talk.own cred begun e) ∙ f));
  finishes = λ outcome f scram. absurd (none-some outcome f);
}

other-proving : (Ready : Outcome → Type 0) (talk : TalkSays) (cred : Option MechCred) → On (Proving Ready) (begins_other talk cred)
other-proving Ready talk None = tt
other-proving Ready talk (Some cred) = switched-proving Ready talk cred (init_begun talk.own cred) refl

switches-proving : (Ready : Outcome → Type 0) (talk : TalkSays) (state : Option NegState) (token : Option (List ℕ)) → On (Proving Ready) (switches talk state token)
switches-proving Ready talk state (Some token) = tt
switches-proving Ready talk state None = either (Proving Ready) (says_completed state) _ _ tt (other-proving Ready talk (cred_for talk.own.list talk.chosen))

picks-proving : (scram : ScramLaws) (size : ℕ) (opening : OpeningSays) (kind : MechKind) (state : Option NegState) (token mic : Option (List ℕ)) → On (Proving (Waited (proof_end opening.mech))) (picks size opening kind state token mic)
unfolding picks
picks-proving scram size opening kind state token mic = either (Proving (Waited (proof_end opening.mech))) (is_first (kinds_of opening.own.list) kind) _ _
    (run-proving scram size (talk_with opening.own kind state) opening.mech state token mic) (switches-proving (Waited (proof_end opening.mech)) (talk_with opening.own kind state) state token)

opened-proving : (scram : ScramLaws) (size : ℕ) (opening : OpeningSays) (resp : NegResp) → On (Proving (Waited (proof_end opening.mech))) (opened size opening resp)
unfolding opened
opened-proving scram size opening resp =
    goes_on (Proving (Waited (proof_end opening.mech))) (due Rejected (not (rejects resp.state))) _
    (λ goes. goes_on (Proving (Waited (proof_end opening.mech))) (or_refuse (Defective size) resp.state) _
    (λ state. goes_on (Proving (Waited (proof_end opening.mech))) (or_refuse (Defective size) resp.mech) _
    (λ oid. goes_on (Proving (Waited (proof_end opening.mech))) (or_refuse MechNotMine (own_kind opening.own.list (mech_of oid))) _ (λ kind. picks-proving scram size opening kind (Some state) resp.token resp.mic))))

talked-proving : (scram : ScramLaws) (size : ℕ) (talking : TalkingSays) (resp : NegResp) → On (Proving (Waited (proof_end talking.mech))) (talked size talking resp)
unfolding talked
talked-proving scram size talking resp =
    goes_on (Proving (Waited (proof_end talking.mech))) (due Rejected (not (rejects resp.state))) _
    (λ goes. goes_on (Proving (Waited (proof_end talking.mech))) (due MechNotMine (is_chosen talking.talk.chosen resp.mech)) _
    (λ same. run-proving scram size (talk_after talking.talk resp.state) talking.mech resp.state resp.token resp.mic))

-- ---- once the mechanism is done

settles-proving : (signed : SignedSays) (listed now : Bool) → On (Proving (λ outcome. signed.outcome ≡ outcome)) (settles signed listed now)
settles-proving signed listed true = record { proves = λ wait e. absurd (none-some wait e); finishes = λ outcome e scram. same_Some signed.outcome outcome e }
settles-proving signed listed false = tt

again-proving : (signed : SignedSays) (state : Option NegState) (mic : Option (List ℕ)) → On (Proving (λ outcome. signed.outcome ≡ outcome)) (looks_again signed state mic)
again-proving signed state None = settles-proving signed signed.listed (completes_later state)
again-proving signed state (Some mic) = either (Proving (λ outcome. signed.outcome ≡ outcome)) (is_list_mic signed.outcome Initiator (own_list signed.talk.own) mic) (behind [] (mic_found signed.outcome Initiator (own_list signed.talk.own) mic ∷ []) (settles signed true (completes_later state))) (Err MicBad)
    (behind-proving (λ outcome. signed.outcome ≡ outcome) [] (mic_found signed.outcome Initiator (own_list signed.talk.own) mic ∷ []) (settles signed true (completes_later state)) (settles-proving signed true (completes_later state))) tt

closed-proving : (signed : SignedSays) (resp : NegResp) → On (Proving (λ outcome. signed.outcome ≡ outcome)) (closed signed resp)
unfolding closed
closed-proving signed resp =
    goes_on (Proving (λ outcome. signed.outcome ≡ outcome)) (due Rejected (not (rejects resp.state))) _
    (λ goes. goes_on (Proving (λ outcome. signed.outcome ≡ outcome)) (due MechNotMine (is_chosen signed.talk.chosen resp.mech)) _ (λ same. again-proving signed resp.state resp.mic))

-- ---- the machine

-- it was finished so, or waited for the signature
abbrev pub ReadyBy : EndSays → Outcome → Type 0
ReadyBy (ends.Opens opening) outcome = Waited (proof_end opening.mech) outcome
ReadyBy (ends.Talks talking) outcome = Waited (proof_end talking.mech) outcome
ReadyBy (ends.Signed signed) outcome = signed.outcome ≡ outcome

on-step : (scram : ScramLaws) (old : EndSays) (token : List ℕ) → On (Proving (ReadyBy old)) (init_step old token)
on-step scram (ends.Opens opening) token = goes_on (Proving (ReadyBy (ends.Opens opening))) (first_read opening.own.negotiates (own_list opening.own) token) _ (λ resp. opened-proving scram (length token) opening resp)
on-step scram (ends.Talks talking) token = goes_on (Proving (ReadyBy (ends.Talks talking))) (resp_read token) _ (λ resp. talked-proving scram (length token) talking resp)
on-step scram (ends.Signed signed) token = goes_on (Proving (ReadyBy (ends.Signed signed))) (last_read token) _ (λ resp. closed-proving signed resp)

pub step-proving : (scram : ScramLaws) (old : EndSays) (token : List ℕ) (taken : Initiated) → init_step old token ≡ Ok taken → Proving (ReadyBy old) taken
step-proving scram old token taken e = subst (On (Proving (ReadyBy old))) e (on-step scram old token)

-- ---- the start

pub start-waits : (own : PlainSetup) (started : Started) → init_start own ≡ Ok started → waits_of started.end ≡ None
start-waits own started e = by own.list e
  where
    opens-by : (cred : MechCred) (r : Result MechBegun MechRefusal) → init_begun own cred ≡ r → opens own r ≡ Ok started → waits_of started.end ≡ None
    opens-by cred (Err refusal) b f = absurd cc
    opens-by cred (Ok begun) b f = ap (λ (s : Started). waits_of s.end) (ok_is {E = NegRefusal} started _ (sym f)) ∙ begun-none own cred begun b

    by : (list : List MechCred) → starts own list ≡ Ok started → waits_of started.end ≡ None
    by [] f = absurd cc
    by (first ∷ rest) f = opens-by first (init_begun own first) refl f
