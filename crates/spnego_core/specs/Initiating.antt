-- The initiator's machine, RFC 4178 sections 3.2, 4.2.2 and 5. Each part gives the step, which
-- mechanism is chosen and whether the acceptor's MIC over the own list was verified, what is handed
-- out with the step's token, and what was found verified.
use Rattle.std.specs.Prelude.{ℕ, Bool, true, false, not, ◌||◌, if◌then◌else◌, List, [], ◌∷◌}
use Rattle.std.specs.Prelude.{◌++◌, length, map, Option, Some, None, Result, Ok, Err}
use Rattle.gss_base.specs.declared.mech.MechKind.{MechKind}
use Rattle.gss_base.specs.Mech.{mech_of}
use Rattle.krb_tokens.specs.declared.end.Side.TheVariants.{Initiator}
use Rattle.spnego_msgs.specs.declared.neg_state.NegState.{NegState}
use Rattle.spnego_msgs.specs.declared.neg_state.NegState.TheVariants.{Completed}
use Rattle.spnego_msgs.specs.declared.neg_init.NegInit.{NegInit}
use Rattle.spnego_msgs.specs.declared.neg_resp.NegResp.{NegResp}
use Rattle.scram_mech.specs.MechMaking.{MechMaking}
use Rattle.spnego_core.specs.declared.outcome.Outcome.{Outcome}
use Rattle.spnego_core.specs.declared.refusal.NegRefusal.{NegRefusal}
use Rattle.spnego_core.specs.declared.refusal.NegRefusal.TheVariants.{Defective, Rejected}
use Rattle.spnego_core.specs.declared.refusal.NegRefusal.TheVariants.{MechNotMine, MicMissing}
use Rattle.spnego_core.specs.declared.refusal.NegRefusal.TheVariants.{MicBad, Mech}
use Rattle.spnego_core.specs.declared.refusal.MechRefusal.{MechRefusal}
use Rattle.spnego_core.specs.declared.setup.MechCred.{MechCred}
use Rattle.spnego_core.specs.MechStates.{InitMech}
use Rattle.spnego_core.specs.MechStates.{InitAnswer}
use Rattle.spnego_core.specs.MechStates as answers
use Rattle.spnego_core.specs.Ends.{PlainSetup, OpeningSays, TalkSays, TalkingSays, SignedSays}
use Rattle.spnego_core.specs.Ends.{EndSays}
use Rattle.spnego_core.specs.Ends as ends
use Rattle.spnego_core.specs.EndSteps.{StepSays}
use Rattle.spnego_core.specs.EndSteps as steps
use Rattle.spnego_core.specs.Steps.{◌>>=◌, due, or_refuse}
use Rattle.spnego_core.specs.Tokens.{first_octets, first_read, resp_read, last_read, resp_octets}
use Rattle.spnego_core.specs.Tokens.{rejects, says_completed, asks_mic}
use Rattle.spnego_core.specs.ListMic.{list_mic, is_list_mic, mic_making, mic_found}
use Rattle.spnego_core.specs.Choice.{is_first, is_kind}
use Rattle.spnego_core.specs.InitMech.{kinds_of, oid_listed, is_own, cred_for, MechBegun}
use Rattle.spnego_core.specs.InitMech.{init_begun}
use Rattle.spnego_core.specs.InitMech.{MechReplied, init_taken}

-- a step that was taken
pub record Initiated : Type 0 where
  pub step : StepSays
  pub chosen : Option MechKind
  pub listed : Bool
  pub makes : List MechMaking
  pub found : List MechMaking

-- what the code returns of it
abbrev pub step_of : Result Initiated NegRefusal → Result StepSays NegRefusal
step_of (Ok taken) = Ok taken.step
step_of (Err refusal) = Err refusal

-- the same step behind what was handed out and found before
abbrev pub behind : List MechMaking → List MechMaking → Result Initiated NegRefusal
    → Result Initiated NegRefusal
behind makes found (Err refusal) = Err refusal
behind makes found (Ok taken) = Ok (record {
  step = taken.step;
  chosen = taken.chosen;
  listed = taken.listed;
  makes = makes ++ taken.makes;
  found = found ++ taken.found;
})

-- ---- the own list

-- the list as it was sent
abbrev pub own_list : PlainSetup → List (List ℕ)
own_list own = map oid_listed own.list

-- ---- the first token

-- the own list and the first token of its first mechanism, with neither flags nor a MIC
abbrev pub first_sent : PlainSetup → List ℕ → NegInit
first_sent own token = record { list = own_list own; flags = None; token = Some token; mic = None }

-- an end that sent its first token
pub record Started : Type 0 where
  pub end : EndSays
  pub token : List ℕ
  pub makes : List MechMaking

-- what the code returns of it
abbrev pub sent_of : Result Started NegRefusal → Result (EndSays × List ℕ) NegRefusal
sent_of (Ok started) = Ok (started.end, started.token)
sent_of (Err refusal) = Err refusal

-- the first token by how its mechanism began, the mechanism's own where nothing is negotiated; the
-- mechanism's refusal is the end's
abbrev pub opens : PlainSetup → Result MechBegun MechRefusal → Result Started NegRefusal
opens own (Err refusal) = Err (Mech refusal)
opens own (Ok begun) = Ok (record {
  end = ends.Opens (record { own = own; mech = begun.mech });
  token = first_octets own.negotiates (first_sent own begun.token);
  makes = begun.makes;
})

-- the mechanism of a list's first credential begins; by the condition on a setup there is one
abbrev pub starts : PlainSetup → List MechCred → Result Started NegRefusal
starts own [] = Err MechNotMine
starts own (first ∷ rest) = opens own (init_begun own first)

-- an initiator begins, with the first mechanism of its list (RFC 4178 sections 3.2 and 4.2.1)
abbrev pub init_start : PlainSetup → Result Started NegRefusal
init_start own = starts own own.list

-- ---- the answer

-- a later token with the mechanism's: it says no more
abbrev pub token_sent : List ℕ → NegResp
token_sent token = record { state = None; mech = None; token = Some token; mic = None }

-- the token with the own MIC, which says accept-completed
abbrev pub mic_sent : List ℕ → NegResp
mic_sent mic = record { state = Some Completed; mech = None; token = None; mic = Some mic }

-- the initiator's MIC over its own list
abbrev pub own_mic : TalkSays → Outcome → List ℕ
own_mic talk outcome = list_mic outcome Initiator (own_list talk.own)

-- the end of a mechanism that is done: where all is complete, the outcome, else the own MIC is
-- sent, once
abbrev pub ended : TalkSays → Outcome → Bool → Bool → Initiated
ended talk outcome listed true =
    record {
      step = steps.Done outcome;
      chosen = Some talk.chosen;
      listed = listed;
      makes =
          [];
      found = [];
    }
ended talk outcome listed false = record {
  step = steps.More (ends.Signed (record { talk = talk; outcome = outcome; listed = listed }))
      (resp_octets (mic_sent (own_mic talk outcome)));
  chosen = Some talk.chosen;
  listed = listed;
  makes = mic_making outcome Initiator (own_list talk.own) ∷ [];
  found = [];
}

-- ---- the MIC

-- the acceptor's MIC must come where the chosen mechanism isn't the own first choice, or where the
-- acceptor asked for MICs
abbrev pub is_mic_owed : TalkSays → Bool
is_mic_owed talk = not (is_first (kinds_of talk.own.list) talk.chosen) || talk.asked

-- whether all is complete by the reply that finishes the mechanism; a state that isn't said is
-- accept-incomplete where a MIC is there
abbrev pub completes_now : Option NegState → Bool → Bool
completes_now None signed = not signed
completes_now (Some state) signed = says_completed (Some state)

-- whether all is complete by a reply to the own MIC
abbrev pub completes_later : Option NegState → Bool
completes_later None = true
completes_later (Some state) = says_completed (Some state)

-- the reply that finishes the mechanism, by its MIC
abbrev pub looks : TalkSays → Outcome → Option NegState → Option (List ℕ)
    → Result Initiated NegRefusal
looks talk outcome state None = if is_mic_owed talk then Err MicMissing
    else Ok (ended talk outcome false (completes_now state false))
looks talk outcome state (Some mic) =
    if is_list_mic outcome Initiator (own_list talk.own) mic
    then behind [] (mic_found outcome Initiator (own_list talk.own) mic ∷ [])
    (Ok (ended talk outcome true (completes_now state true)))
    else Err MicBad

-- ---- the mechanism

-- the step by the mechanism's answer: a further token may not come where all is complete, and a MIC
-- beside it is passed over
abbrev pub told : TalkSays → Option NegState → Option (List ℕ) → InitAnswer
    → Result Initiated NegRefusal
told talk state mic (answers.More mech token) =
    if says_completed state then Err (Defective 0) else Ok (record {
      step = steps.More (ends.Talks (record { talk = talk; mech = mech }))
          (resp_octets (token_sent token));
      chosen = Some talk.chosen;
      listed = false;
      makes = [];
      found = [];
    })
told talk state mic (answers.Done outcome) = looks talk outcome state mic

-- the step by what the mechanism made of its token; its refusal is the end's, and comes before what
-- the state says
abbrev pub ran : TalkSays → Option NegState → Option (List ℕ) → Result MechReplied MechRefusal
    → Result Initiated NegRefusal
ran talk state mic (Err refusal) = Err (Mech refusal)
ran talk state mic (Ok taken) = behind taken.makes taken.found (told talk state mic taken.answer)

-- the reply of so many octets must have a token for the mechanism
unfoldable pub run : ℕ → TalkSays → InitMech → Option NegState → Option (List ℕ) → Option (List ℕ)
    → Result Initiated NegRefusal
run size talk mech state None mic = Err (Defective size)
run size talk mech state (Some token) mic = ran talk state mic (init_taken mech token)

-- ---- the first reply

-- the acceptor chose another mechanism than the first: that begins now
abbrev pub switched : TalkSays → Result MechBegun MechRefusal → Result Initiated NegRefusal
switched talk (Err refusal) = Err (Mech refusal)
switched talk (Ok begun) = Ok (record {
  step = steps.More (ends.Talks (record { talk = talk; mech = begun.mech }))
      (resp_octets (token_sent begun.token));
  chosen = Some talk.chosen;
  listed = false;
  makes = begun.makes;
  found = [];
})

-- the own list has a credential of each mechanism that can be chosen
abbrev pub begins_other : TalkSays → Option MechCred → Result Initiated NegRefusal
begins_other talk None = Err MechNotMine
begins_other talk (Some cred) = switched talk (init_begun talk.own cred)

-- there can be no token of it yet, and nothing can be complete
abbrev pub switches : TalkSays → Option NegState → Option (List ℕ) → Result Initiated NegRefusal
switches talk state (Some token) = Err (Defective 0)
switches talk state None = if says_completed state then Err (Defective 0)
    else begins_other talk (cred_for talk.own.list talk.chosen)

-- the talk as the first reply begins it
abbrev pub talk_with : PlainSetup → MechKind → Option NegState → TalkSays
talk_with own kind state = record { own = own; chosen = kind; asked = asks_mic state }

-- the acceptor chose this mechanism
unfoldable pub picks : ℕ → OpeningSays → MechKind → Option NegState → Option (List ℕ)
    → Option (List ℕ) → Result Initiated NegRefusal
picks size opening kind state token mic =
    if is_first (kinds_of opening.own.list) kind
    then run size (talk_with opening.own kind state) opening.mech state token mic
    else switches (talk_with opening.own kind state) state token

-- the mechanism that an identifier names, where it is one of the own list
abbrev pub own_kind : List MechCred → Option MechKind → Option MechKind
own_kind list None = None
own_kind list (Some kind) = if is_own list kind then Some kind else None

-- the first reply, of so many octets, must have a state and a mechanism, which is one of the own
-- list
unfoldable pub opened : ℕ → OpeningSays → NegResp → Result Initiated NegRefusal
opened size opening resp = do
  goes ← due Rejected (not (rejects resp.state))
  state ← or_refuse (Defective size) resp.state
  oid ← or_refuse (Defective size) resp.mech
  kind ← or_refuse MechNotMine (own_kind opening.own.list (mech_of oid))
  picks size opening kind (Some state) resp.token resp.mic

-- ---- later replies

-- a mechanism that is named again is the chosen one
abbrev pub is_chosen : MechKind → Option (List ℕ) → Bool
is_chosen kind None = true
is_chosen kind (Some oid) = is_kind (mech_of oid) kind

-- the talk behind a further reply
abbrev pub talk_after : TalkSays → Option NegState → TalkSays
talk_after talk state =
    record { own = talk.own; chosen = talk.chosen; asked = talk.asked || asks_mic state }

-- while the mechanism isn't done
unfoldable pub talked : ℕ → TalkingSays → NegResp → Result Initiated NegRefusal
talked size talking resp = do
  goes ← due Rejected (not (rejects resp.state))
  same ← due MechNotMine (is_chosen talking.talk.chosen resp.mech)
  run size (talk_after talking.talk resp.state) talking.mech resp.state resp.token resp.mic

-- all is complete, or a second token would be due
abbrev pub settles : SignedSays → Bool → Bool → Result Initiated NegRefusal
settles signed listed true =
    Ok (record {
      step = steps.Done signed.outcome;
      chosen = Some signed.talk.chosen;
      listed =
          listed;
      makes = [];
      found = [];
    })
settles signed listed false = Err (Defective 0)

-- the reply to the own MIC, by its MIC
abbrev pub looks_again : SignedSays → Option NegState → Option (List ℕ)
    → Result Initiated NegRefusal
looks_again signed state None = settles signed signed.listed (completes_later state)
looks_again signed state (Some mic) =
    if is_list_mic signed.outcome Initiator (own_list signed.talk.own) mic
    then behind [] (mic_found signed.outcome Initiator (own_list signed.talk.own) mic ∷ [])
    (settles signed true (completes_later state))
    else Err MicBad

-- once the own MIC was sent
unfoldable pub closed : SignedSays → NegResp → Result Initiated NegRefusal
closed signed resp = do
  goes ← due Rejected (not (rejects resp.state))
  same ← due MechNotMine (is_chosen signed.talk.chosen resp.mech)
  looks_again signed resp.state resp.mic

-- ---- the machine: end, token
-- what an initiator makes of a token: the first reply, a later one, or the one to its MIC
abbrev pub init_step : EndSays → List ℕ → Result Initiated NegRefusal
init_step (ends.Opens opening) token =
    first_read opening.own.negotiates (own_list opening.own) token >>= opened (length token) opening
init_step (ends.Talks talking) token = resp_read token >>= talked (length token) talking
init_step (ends.Signed signed) token = last_read token >>= closed signed
