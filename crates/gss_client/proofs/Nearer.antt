-- Each step of a negotiating end leads to one that takes fewer replies.
use Rattle.std.proofs.Common.{◌≡◌, subst, ℕ, ◌+◌, ◌<◌, ◌≤◌, Bool, true, false, not, cond, List, [], ◌∷◌, map, arith, Option, Some, None, Result, Ok, Err}
use Rattle.gss_base.specs.declared.mech.MechKind.{MechKind}
use Rattle.gss_base.specs.Mech.{mech_of}
use Rattle.ap_exchange.specs.declared.refusal.ApRefusal.{ApRefusal}
use Rattle.scram_mech.specs.Initiator.{InitAnswered, InitFinished, init_answered, init_finished}
use Rattle.scram_mech.specs.MechMaking.{MechMaking, typed}
use Rattle.scram_mech.specs.declared.refusal.ScramRefusal.{ScramRefusal}
use Rattle.krb_tokens.specs.declared.done.MechDone.{MechDone}
use Rattle.spnego_msgs.specs.declared.neg_state.NegState.{NegState}
use Rattle.spnego_msgs.specs.declared.neg_resp.NegResp.{NegResp}
use Rattle.spnego_core.specs.MechStates.{InitMech}
use Rattle.spnego_core.specs.MechStates as mechs
use Rattle.spnego_core.specs.declared.outcome.Outcome.{Outcome}
use Rattle.spnego_core.specs.declared.refusal.MechRefusal.{MechRefusal}
use Rattle.spnego_core.specs.declared.refusal.NegRefusal.{NegRefusal}
use Rattle.spnego_core.specs.declared.refusal.NegRefusal.TheVariants.{Defective, Rejected, MechNotMine, MicMissing, MicBad}
use Rattle.krb_tokens.specs.declared.end.Side.TheVariants.{Initiator}
use Rattle.spnego_core.specs.declared.setup.MechCred.{MechCred}
use Rattle.spnego_core.specs.Ends.{OpeningSays, TalkSays, TalkingSays, SignedSays, EndSays}
use Rattle.spnego_core.specs.Ends as ends
use Rattle.spnego_core.specs.EndSteps.{StepSays}
use Rattle.spnego_core.specs.InitMech.{MechBegun, reply_answered, text_answered, final_answered, init_taken, init_begun, cred_for, kinds_of}
use Rattle.ap_exchange.specs.Reply.{reply_taken, reply_found}
use Rattle.spnego_core.specs.Choice.{is_first}
use Rattle.spnego_core.specs.ListMic.{is_list_mic, mic_found}
use Rattle.spnego_core.specs.Steps.{◌>>=◌, due, or_refuse}
use Rattle.spnego_core.specs.Tokens.{first_read, resp_read, last_read, says_completed, rejects}
use Rattle.spnego_core.specs.Initiating.{Initiated, step_of, behind, ended, told, looks, is_mic_owed, completes_now, completes_later, own_list, own_kind, is_chosen, ran, run, switched, begins_other, switches, talk_with, picks, opened, talk_after, talked, settles, looks_again, closed, init_step}
use Rattle.gss_client.specs.Rank.{taken_by, replies_left, IsNearer}

Nears : ℕ → Result Initiated NegRefusal → Type 0
Nears count (Ok taken) = IsNearer count taken.step
Nears count (Err refusal) = Unit {0}

refused : (count : ℕ) (refusal : NegRefusal) → Nears count (Err refusal)
unfolding Nears
refused count refusal = tt

either : (count : ℕ) (b : Bool) (x y : Result Initiated NegRefusal) → Nears count x → Nears count y → Nears count (cond b x y)
either count true x y p q = p
either count false x y p q = q

after : {A : Type 0} (count : ℕ) (r : Result A NegRefusal) (next : A → Result Initiated NegRefusal) → ((x : A) → Nears count (next x)) → Nears count (r >>= next)
after count (Ok x) next p = p x
after count (Err refusal) next p = refused count refusal

nears-behind : (count : ℕ) (makes found : List MechMaking) (r : Result Initiated NegRefusal) → Nears count r → Nears count (behind makes found r)
unfolding Nears
nears-behind count makes found (Ok taken) p = p
nears-behind count makes found (Err refusal) p = tt

nears-ended : (count : ℕ) (talk : TalkSays) (outcome : Outcome) (listed completes : Bool) → 1 < count → Nears count (Ok (ended talk outcome listed completes))
unfolding Nears
nears-ended count talk outcome listed true h = tt
nears-ended count talk outcome listed false h = h

nears-looks : (count : ℕ) (talk : TalkSays) (outcome : Outcome) (state : Option NegState) (mic : Option (List ℕ)) → 1 < count → Nears count (looks talk outcome state mic)
nears-looks count talk outcome state None h = either count (is_mic_owed talk) _ _ (refused count MicMissing) (nears-ended count talk outcome false (completes_now state false) h)
nears-looks count talk outcome state (Some mic) h = either count (is_list_mic outcome Initiator (own_list talk.own) mic) _ _ (nears-behind count [] (mic_found outcome Initiator (own_list talk.own) mic ∷ []) _ (nears-ended count talk outcome true (completes_now state true) h)) (refused count MicBad)

nears-answered : (count : ℕ) (talk : TalkSays) (state : Option NegState) (mic : Option (List ℕ)) (found : List MechMaking) (r : Result MechDone ApRefusal) → 1 < count → Nears count (ran talk state mic (reply_answered found r))
nears-answered count talk state mic found (Ok made) h = nears-behind count [] found _ (nears-looks count talk _ state mic h)
nears-answered count talk state mic found (Err refusal) h = refused count _

nears-more : (count : ℕ) (talk : TalkSays) (mech : InitMech) (token : List ℕ) (state : Option NegState) (mic : Option (List ℕ)) → taken_by mech + 1 < count → Nears count (told talk state mic (mechs.More mech token))
unfolding Nears
nears-more count talk mech token state mic h = either count (says_completed state) _ _ (refused count (Defective 0)) h

nears-text : (count : ℕ) (talk : TalkSays) (state : Option NegState) (mic : Option (List ℕ)) (r : Result InitAnswered ScramRefusal) → 2 < count → Nears count (ran talk state mic (text_answered r))
nears-text count talk state mic (Ok answered) h = nears-behind count answered.makes [] _ (nears-more count talk (mechs.Proof answered.end) answered.token state mic h)
nears-text count talk state mic (Err refusal) h = refused count _

nears-final : (count : ℕ) (talk : TalkSays) (state : Option NegState) (mic : Option (List ℕ)) (r : Result InitFinished ScramRefusal) → 1 < count → Nears count (ran talk state mic (final_answered r))
nears-final count talk state mic (Ok finished) h = nears-behind count [] finished.found _ (nears-looks count talk _ state mic h)
nears-final count talk state mic (Err refusal) h = refused count _

nears-run : (count size : ℕ) (talk : TalkSays) (mech : InitMech) (state : Option NegState) (token mic : Option (List ℕ)) → taken_by mech < count → Nears count (run size talk mech state token mic)
unfolding run init_taken
nears-run count size talk mech state None mic h = refused count _
nears-run count size talk (mechs.Kerberos end) state (Some token) mic h = nears-answered count talk state mic (map typed (reply_found end token)) (reply_taken end token) h
nears-run count size talk (mechs.Scram end) state (Some token) mic h = nears-text count talk state mic (init_answered end token) h
nears-run count size talk (mechs.Proof end) state (Some token) mic h = nears-final count talk state mic (init_finished end token) h

-- a mechanism takes two replies at most
few-taken : (mech : InitMech) → taken_by mech ≤ 2
few-taken (mechs.Kerberos end) = omega arith
few-taken (mechs.Scram end) = omega arith
few-taken (mechs.Proof end) = omega arith

nears-switched : (count : ℕ) (talk : TalkSays) (begun : Result MechBegun MechRefusal) → 3 < count → Nears count (switched talk begun)
unfolding Nears
nears-switched count talk (Ok begun) h = omega (arith, few-taken begun.mech, h)
nears-switched count talk (Err refusal) h = tt

nears-other : (count : ℕ) (talk : TalkSays) (cred : Option MechCred) → 3 < count → Nears count (begins_other talk cred)
nears-other count talk None h = refused count _
nears-other count talk (Some cred) h = nears-switched count talk (init_begun talk.own cred) h

nears-switches : (count : ℕ) (talk : TalkSays) (state : Option NegState) (token : Option (List ℕ)) → 3 < count → Nears count (switches talk state token)
nears-switches count talk state (Some token) h = refused count _
nears-switches count talk state None h = either count (says_completed state) _ _ (refused count (Defective 0)) (nears-other count talk (cred_for talk.own.list talk.chosen) h)

nears-picks : (size : ℕ) (opening : OpeningSays) (kind : MechKind) (state : Option NegState) (token mic : Option (List ℕ)) → Nears 4 (picks size opening kind state token mic)
unfolding picks
nears-picks size opening kind state token mic =
    either 4 (is_first (kinds_of opening.own.list) kind) _ _ (nears-run 4 size (talk_with opening.own kind state) opening.mech state token mic (omega (arith, few-taken opening.mech))) (nears-switches 4 (talk_with opening.own kind state) state token (omega arith))

nears-opened : (size : ℕ) (opening : OpeningSays) (resp : NegResp) → Nears 4 (opened size opening resp)
unfolding opened
nears-opened size opening resp =
    after 4 (due Rejected (not (rejects resp.state))) _ (λ goes. after 4 (or_refuse (Defective size) resp.state) _ (λ state. after 4 (or_refuse (Defective size) resp.mech) _ (λ oid. after 4 (or_refuse MechNotMine (own_kind opening.own.list (mech_of oid))) _ (λ kind. nears-picks size opening kind (Some state) resp.token resp.mic))))

nears-talked : (size : ℕ) (talking : TalkingSays) (resp : NegResp) → Nears (taken_by talking.mech + 1) (talked size talking resp)
unfolding talked
nears-talked size talking resp =
    after (taken_by talking.mech + 1) (due Rejected (not (rejects resp.state))) _ (λ goes. after (taken_by talking.mech + 1) (due MechNotMine (is_chosen talking.talk.chosen resp.mech)) _ (λ same. nears-run (taken_by talking.mech + 1) size (talk_after talking.talk resp.state) talking.mech resp.state resp.token resp.mic (omega arith)))

nears-settles : (signed : SignedSays) (listed completes : Bool) → Nears 1 (settles signed listed completes)
unfolding Nears
nears-settles signed listed true = tt
nears-settles signed listed false = tt

nears-again : (signed : SignedSays) (state : Option NegState) (mic : Option (List ℕ)) → Nears 1 (looks_again signed state mic)
nears-again signed state None = nears-settles signed signed.listed (completes_later state)
nears-again signed state (Some mic) = either 1 (is_list_mic signed.outcome Initiator (own_list signed.talk.own) mic) _ _ (nears-behind 1 [] (mic_found signed.outcome Initiator (own_list signed.talk.own) mic ∷ []) _ (nears-settles signed true (completes_later state))) (refused 1 MicBad)

nears-closed : (signed : SignedSays) (resp : NegResp) → Nears 1 (closed signed resp)
unfolding closed
nears-closed signed resp = after 1 (due Rejected (not (rejects resp.state))) _ (λ goes. after 1 (due MechNotMine (is_chosen signed.talk.chosen resp.mech)) _ (λ same. nears-again signed resp.state resp.mic))

nears : (end : EndSays) (token : List ℕ) → Nears (replies_left end) (init_step end token)
nears (ends.Opens opening) token = after 4 (first_read opening.own.negotiates (own_list opening.own) token) _ (λ resp. nears-opened _ opening resp)
nears (ends.Talks talking) token = after (taken_by talking.mech + 1) (resp_read token) _ (λ resp. nears-talked _ talking resp)
nears (ends.Signed signed) token = after 1 (last_read token) _ (λ resp. nears-closed signed resp)

stepped : (count : ℕ) (r : Result Initiated NegRefusal) (step : StepSays) → Nears count r → step_of r ≡ Ok step → IsNearer count step
unfolding Nears
stepped count (Ok taken) step p e = let is : taken.step ≡ step = cc in subst (λ (s : StepSays). IsNearer count s) is p
stepped count (Err refusal) step p e = cc

pub nearer : (end : EndSays) (token : List ℕ) (step : StepSays) → step_of (init_step end token) ≡ Ok step → IsNearer (replies_left end) step
nearer end token step e = stepped (replies_left end) (init_step end token) step (nears end token) e

-- an end takes four replies at most
pub few-left : (end : EndSays) → replies_left end ≤ 4
few-left (ends.Opens opening) = omega arith
few-left (ends.Talks talking) = omega (arith, few-taken talking.mech)
few-left (ends.Signed signed) = omega arith
