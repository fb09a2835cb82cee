-- The initiator's machine over objects, RFC 4178 sections 3.2, 4.2.1, 4.2.2 and 5. A mechanism is
-- an object of the own list, and stands in it under its object identifier.
use Rattle.std.specs.Prelude.{ℕ, Bool, true, false, not, ◌||◌, if◌then◌else◌, List, [], ◌∷◌}
use Rattle.std.specs.Prelude.{length, Option, Some, None, Result, Ok, Err}
use Rattle.krb_tokens.specs.declared.end.Side.TheVariants.{Initiator}
use Rattle.spnego_msgs.specs.declared.neg_state.NegState.{NegState}
use Rattle.spnego_msgs.specs.declared.neg_init.NegInit.{NegInit}
use Rattle.spnego_msgs.specs.declared.neg_resp.NegResp.{NegResp}
use Rattle.spnego_core.specs.declared.outcome.Outcome.{Outcome}
use Rattle.spnego_core.specs.declared.refusal.NegRefusal.{NegRefusal}
use Rattle.spnego_core.specs.declared.refusal.NegRefusal.TheVariants.{Defective, Rejected}
use Rattle.spnego_core.specs.declared.refusal.NegRefusal.TheVariants.{MechNotMine, MicMissing}
use Rattle.spnego_core.specs.declared.refusal.NegRefusal.TheVariants.{MicBad}
use Rattle.spnego_core.specs.EndSteps.{More, Done}
use Rattle.spnego_core.specs.Steps.{◌>>=◌, due, or_refuse}
use Rattle.spnego_core.specs.Outcome.{outcome_of}
use Rattle.spnego_core.specs.Tokens.{first_octets, first_read, resp_read, last_read, resp_octets}
use Rattle.spnego_core.specs.Tokens.{rejects, says_completed, asks_mic}
use Rattle.spnego_core.specs.ListMic.{list_mic, is_list_mic}
use Rattle.spnego_core.specs.Initiating.{token_sent, mic_sent, completes_now, completes_later}
use Rattle.mech_objects.specs.declared.ask.MechAsk.{MechAsk}
use Rattle.mech_objects.specs.declared.ask.MechMove.{MechMove}
use Rattle.mech_objects.specs.declared.ask.MechMove.TheVariants as moves
use Rattle.mech_objects.specs.Meaning.{MechSays, starts, started, takes, took}
use Rattle.init_ends.specs.declared.ends.Talk.{Talk}
use Rattle.init_ends.specs.declared.ends.Signed.{Signed as SignedEnd}
use Rattle.init_ends.specs.Objects.{is_named, oids_of, mech_for, is_first_named}
use Rattle.init_ends.specs.Ends.{SetupMeans, OpeningMeans, TalkingMeans, EndMeans, Opens, Talks}
use Rattle.init_ends.specs.Ends.{Signed, StepMeans}

-- ---- the first token

-- the own list and the first token of its first mechanism, with neither flags nor a MIC
abbrev pub first_sent : List (List ℕ) → List ℕ → NegInit
first_sent list token = record { list = list; flags = None; token = Some token; mic = None }

-- the first token by how the first object starts, the object's own where nothing is negotiated; its
-- refusal is the end's
abbrev pub opens : SetupMeans → MechSays → List MechSays → Result (List ℕ) NegRefusal
    → Result (EndMeans × List ℕ) NegRefusal
opens own first rest (Err refusal) = Err refusal
opens own first rest (Ok token) = Ok (
  Opens (record {
    list = oids_of own.list;
    ask = own.ask;
    mech = started first own.ask (Ok token);
    others = rest;
    negotiates = own.negotiates;
  }),
  first_octets own.negotiates (first_sent (oids_of own.list) token),
)

-- the first of the objects starts; by the condition on a setup there is one
abbrev pub starts_first : SetupMeans → List MechSays → Result (EndMeans × List ℕ) NegRefusal
starts_first own [] = Err MechNotMine
starts_first own (first ∷ rest) = opens own first rest (starts first own.ask)

-- an initiator begins, with the first object of its list (RFC 4178 sections 3.2 and 4.2.1)
abbrev pub end_start : SetupMeans → Result (EndMeans × List ℕ) NegRefusal
end_start own = starts_first own own.list

-- ---- the MIC

-- the initiator's MIC over its own list
abbrev pub own_mic : Talk → Outcome → List ℕ
own_mic talk outcome = list_mic outcome Initiator talk.list

-- the end of a mechanism that is done: where all is complete, the outcome, else the own MIC is
-- sent, once
abbrev pub ended : Talk → Outcome → Bool → Bool → StepMeans
ended talk outcome listed true = Done outcome
ended talk outcome listed false =
    More (Signed (record { talk = talk; outcome = outcome; listed = listed }))
    (resp_octets (mic_sent (own_mic talk outcome)))

-- the acceptor's MIC must come where the chosen mechanism isn't the own first choice, or where the
-- acceptor asked for MICs (RFC 4178 section 5)
abbrev pub is_mic_owed : Talk → Bool
is_mic_owed talk = not (is_first_named talk.list talk.chosen) || talk.asked

-- the reply that finishes the mechanism, by its MIC
abbrev pub looks : Talk → Outcome → Option NegState → Option (List ℕ) → Result StepMeans NegRefusal
looks talk outcome state None = if is_mic_owed talk then Err MicMissing
    else Ok (ended talk outcome false (completes_now state false))
looks talk outcome state (Some mic) = if is_list_mic outcome Initiator talk.list mic
    then Ok (ended talk outcome true (completes_now state true)) else Err MicBad

-- ---- the mechanism

-- a further token of the mechanism is sent
abbrev pub sends : TalkingMeans → List ℕ → StepMeans
sends talking token = More (Talks talking) (resp_octets (token_sent token))

-- an object has a further token, which may not come where all is complete; a MIC beside what it
-- took is passed over
abbrev pub goes_on : Talk → MechSays → Option NegState → List ℕ → Result StepMeans NegRefusal
goes_on talk m state token = if says_completed state then Err (Defective 0)
    else Ok (More (Talks (record { talk = talk; mech = m })) (resp_octets (token_sent token)))

-- the step by what the object made of its token; its refusal is the end's, and comes before what
-- the state says
abbrev pub ran : Talk → MechSays → List ℕ → Option NegState → Option (List ℕ)
    → Result MechMove NegRefusal → Result StepMeans NegRefusal
ran talk m token state mic (Err refusal) = Err refusal
ran talk m token state mic (Ok (moves.Token octets)) =
    goes_on talk (took m token (Ok (moves.Token octets))) state octets
ran talk m token state mic (Ok (moves.Done made)) = looks talk (outcome_of m.kind made) state mic

-- the reply of so many octets must have a token for the mechanism
unfoldable pub run : ℕ → Talk → MechSays → Option NegState → Option (List ℕ) → Option (List ℕ)
    → Result StepMeans NegRefusal
run size talk m state None mic = Err (Defective size)
run size talk m state (Some token) mic = ran talk m token state mic (takes m token)

-- ---- the first reply

-- another object than the first starts
abbrev pub switched : Talk → MechSays → MechAsk → Result (List ℕ) NegRefusal
    → Result StepMeans NegRefusal
switched talk m ask (Err refusal) = Err refusal
switched talk m ask (Ok token) =
    Ok (More (Talks (record { talk = talk; mech = started m ask (Ok token) }))
    (resp_octets (token_sent token)))

-- there can be no token of it yet, and nothing can be complete
abbrev pub begins : Talk → MechSays → MechAsk → Option NegState → Option (List ℕ)
    → Result StepMeans NegRefusal
begins talk m ask state (Some token) = Err (Defective 0)
begins talk m ask state None = if says_completed state then Err (Defective 0)
    else switched talk m ask (starts m ask)

-- the acceptor chose another mechanism than the first: that begins now, where it is one of the list
abbrev pub switches : Talk → MechAsk → Option MechSays → Option NegState → Option (List ℕ)
    → Result StepMeans NegRefusal
switches talk ask None state token = Err MechNotMine
switches talk ask (Some m) state token = begins talk m ask state token

-- the talk as the first reply begins it
abbrev pub talk_with : List (List ℕ) → List ℕ → Option NegState → Talk
talk_with list oid state = record { list = list; chosen = oid; asked = asks_mic state }

-- the acceptor chose the mechanism with this identifier
unfoldable pub picks : ℕ → OpeningMeans → List ℕ → Option NegState → Option (List ℕ)
    → Option (List ℕ) → Result StepMeans NegRefusal
picks size opening oid state token mic =
    if is_named oid opening.mech.oid
    then run size (talk_with opening.list oid state) opening.mech state token mic
    else switches (talk_with opening.list oid state) opening.ask (mech_for opening.others oid) state
    token

-- the first reply, of so many octets, must have a state and a mechanism (RFC 4178 section 4.2.2)
unfoldable pub opened : ℕ → OpeningMeans → NegResp → Result StepMeans NegRefusal
opened size opening resp = do
  goes ← due Rejected (not (rejects resp.state))
  state ← or_refuse (Defective size) resp.state
  oid ← or_refuse (Defective size) resp.mech
  picks size opening oid (Some state) resp.token resp.mic

-- ---- later replies

-- a mechanism that is named again is the chosen one
abbrev pub is_chosen : List ℕ → Option (List ℕ) → Bool
is_chosen chosen None = true
is_chosen chosen (Some oid) = is_named oid chosen

-- the talk behind a further reply
abbrev pub talk_after : Talk → Option NegState → Talk
talk_after talk state =
    record { list = talk.list; chosen = talk.chosen; asked = talk.asked || asks_mic state }

-- while the mechanism isn't done
unfoldable pub talked : ℕ → TalkingMeans → NegResp → Result StepMeans NegRefusal
talked size talking resp = do
  goes ← due Rejected (not (rejects resp.state))
  same ← due MechNotMine (is_chosen talking.talk.chosen resp.mech)
  run size (talk_after talking.talk resp.state) talking.mech resp.state resp.token resp.mic

-- all is complete, or a second token would be due
abbrev pub settles : SignedEnd → Bool → Result StepMeans NegRefusal
settles signed true = Ok (Done signed.outcome)
settles signed false = Err (Defective 0)

-- the reply to the own MIC, by its MIC
abbrev pub looks_again : SignedEnd → Option NegState → Option (List ℕ)
    → Result StepMeans NegRefusal
looks_again signed state None = settles signed (completes_later state)
looks_again signed state (Some mic) =
    if is_list_mic signed.outcome Initiator signed.talk.list mic
    then settles signed (completes_later state) else Err MicBad

-- once the own MIC was sent
unfoldable pub closed : SignedEnd → NegResp → Result StepMeans NegRefusal
closed signed resp = do
  goes ← due Rejected (not (rejects resp.state))
  same ← due MechNotMine (is_chosen signed.talk.chosen resp.mech)
  looks_again signed resp.state resp.mic

-- ---- the machine: end, token
-- what an initiator makes of a token: the first reply, a later one, or the one to its MIC
abbrev pub end_step : EndMeans → List ℕ → Result StepMeans NegRefusal
end_step (Opens opening) token =
    first_read opening.negotiates opening.list token >>= opened (length token) opening
end_step (Talks talking) token = resp_read token >>= talked (length token) talking
end_step (Signed signed) token = last_read token >>= closed signed
