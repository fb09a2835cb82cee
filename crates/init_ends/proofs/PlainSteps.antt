-- An initiator over the objects of Kerberos and SCRAM steps as the plain one.
use Rattle.std.proofs.Common.{◌≡◌, ℕ, Bool, true, false, not, ◌||◌, if◌then◌else◌, refl, sym, ap, ◌∙◌, subst, List, [], ◌∷◌, ◌++◌, length, map, Option, Some, None, Result, Ok, Err}
use Rattle.std.specs.Prelude.{option_map}
use Rattle.gss_base.specs.declared.mech.MechKind.{MechKind}
use Rattle.gss_base.specs.Mech.{kind_named, mech_of}
use Rattle.krb_tokens.specs.declared.end.Side.TheVariants.{Initiator}
use Rattle.scram_mech.specs.MechMaking.{MechMaking}
use Rattle.spnego_msgs.specs.declared.neg_state.NegState.{NegState}
use Rattle.spnego_msgs.specs.declared.neg_resp.NegResp.{NegResp}
use Rattle.spnego_core.specs.declared.outcome.Outcome.{Outcome}
use Rattle.spnego_core.specs.declared.refusal.MechRefusal.{MechRefusal}
use Rattle.spnego_core.specs.declared.refusal.NegRefusal.{NegRefusal}
use Rattle.spnego_core.specs.declared.refusal.NegRefusal.TheVariants.{Defective, Rejected, MechNotMine, MicMissing, MicBad, Mech}
use Rattle.spnego_core.specs.declared.setup.MechCred.{MechCred}
use Rattle.spnego_core.specs.MechStates.{InitMech}
use Rattle.spnego_core.specs.MechStates.{InitAnswer}
use Rattle.spnego_core.specs.MechStates as answers
use Rattle.spnego_core.specs.Choice.{same_kind, is_first}
use Rattle.spnego_core.specs.Ends.{PlainSetup, OpeningSays, TalkSays, TalkingSays, SignedSays, EndSays}
use Rattle.spnego_core.specs.Ends as plain_ends
use Rattle.spnego_core.specs.InitMech.{kind_of, name_of, kinds_of, is_own, cred_for, MechBegun, MechReplied, init_taken, replied}
use Rattle.spnego_core.specs.Initiating.{Initiated, own_list, sent_of, step_of, behind, init_step, own_kind, completes_now, completes_later}
use Rattle.spnego_core.specs.Initiating.{opens as plain_opens, starts as plain_starts, ended as plain_ended, is_mic_owed as plain_owed, looks as plain_looks, told as plain_told, ran as plain_ran, run as plain_run}
use Rattle.spnego_core.specs.Initiating.{switched as plain_switched, begins_other as plain_begins, switches as plain_switches, talk_with as plain_talk_with, picks as plain_picks, opened as plain_opened, is_chosen as plain_chosen}
use Rattle.spnego_core.specs.Initiating.{talk_after as plain_talk_after, talked as plain_talked, settles as plain_settles, looks_again as plain_looks_again, closed as plain_closed}
use Rattle.spnego_core.specs.InitLaws.{own_of}
use Rattle.spnego_core.specs.ListMic.{is_list_mic, mic_found}
use Rattle.spnego_core.specs.Outcome.{outcome_of}
use Rattle.spnego_core.specs.Steps.{◌>>=◌, due, or_refuse}
use Rattle.spnego_core.specs.Tokens.{first_read, resp_read, last_read, rejects, says_completed}
use Rattle.mech_objects.specs.declared.ask.MechAsk.{MechAsk}
use Rattle.mech_objects.specs.declared.ask.MechMove.{MechMove}
use Rattle.mech_objects.specs.Meaning.{starts, as_end}
use Rattle.mech_objects.specs.Standard.{begun, token_begun, Answered, GoesOn, Ends, answered, move_answered, state_answered, state_after, state_of}
use Rattle.mech_objects.specs.Laws.{outcome_answered}
use Rattle.mech_objects.proofs.StandardTalks.{standard_laws}
use Rattle.init_ends.specs.declared.ends.Signed.{Signed as SignedEnd}
use Rattle.init_ends.specs.Ends.{OpeningMeans, EndMeans, StepMeans, holds}
use Rattle.init_ends.specs.Initiating.{opens, starts_first, ended, is_mic_owed, looks, goes_on, ran, run, switched, begins, switches, picks, opened, is_chosen, talked, settles, looks_again, closed, end_step}
use Rattle.init_ends.specs.Plain.{ask_of, fresh_of, waiting_of, objects_of, named_talk, StandsAs, StartsAs, GoesAs, StepsAs, plain_opening, plain_of, PlainLaw}
use Rattle.init_ends.proofs.PlainNames.{named-kind, listed-named, kind-named, same-is, oids-of, first-named, fresh-all, object-for, object-unnamed, unnamed, owned, unowned, own-lists}
use Rattle.init_ends.proofs.PlainStates.{begun-own, began, takes-by, kind-of-state}

-- ---- parts of a step

due-as : (refusal : NegRefusal) (a b : Bool) (f : Unit {0} → Result StepMeans NegRefusal) (g : Unit {0} → Result Initiated NegRefusal) → a ≡ b → StepsAs (f tt) (step_of (g tt)) → StepsAs (due refusal a >>= f) (step_of (due refusal b >>= g))
due-as refusal true true f g e h = h
due-as refusal false false f g e h = refl
due-as refusal true false f g e h = cc
due-as refusal false true f g e h = cc

or-as : {A : Type 0} (refusal : NegRefusal) (o : Option A) (f : A → Result StepMeans NegRefusal) (g : A → Result Initiated NegRefusal) → ((v : A) → StepsAs (f v) (step_of (g v))) → StepsAs (or_refuse refusal o >>= f) (step_of (or_refuse refusal o >>= g))
or-as refusal None f g h = refl
or-as refusal (Some v) f g h = h v

read-as : {A : Type 0} (x : Result A NegRefusal) (f : A → Result StepMeans NegRefusal) (g : A → Result Initiated NegRefusal) → ((v : A) → StepsAs (f v) (step_of (g v))) → StepsAs (x >>= f) (step_of (x >>= g))
read-as (Ok v) f g h = h v
read-as (Err refusal) f g h = refl

if-as : (a b : Bool) (x y : Result StepMeans NegRefusal) (v w : Result Initiated NegRefusal) → a ≡ b → StepsAs x (step_of v) → StepsAs y (step_of w) → StepsAs (if a then x else y) (step_of (if b then v else w))
if-as true true x y v w e h k = h
if-as false false x y v w e h k = k
if-as true false x y v w e h k = cc
if-as false true x y v w e h k = cc

behind-as : (makes found : List MechMaking) (x : Result StepMeans NegRefusal) (y : Result Initiated NegRefusal) → StepsAs x (step_of y) → StepsAs x (step_of (behind makes found y))
behind-as makes found x (Ok taken) h = h
behind-as makes found x (Err refusal) h = h

-- ---- the end of a mechanism that is done

ended-as : (talk : TalkSays) (oid : List ℕ) (named : mech_of oid ≡ Some talk.chosen) (outcome : Outcome) (listed completes : Bool) → GoesAs (ended (named_talk talk oid) outcome listed completes) (plain_ended talk outcome listed completes).step
ended-as talk oid named outcome listed true = refl
ended-as talk oid named outcome listed false = (record { oid = oid; oid_is = named; end_is = refl }, refl)

owed-as : (talk : TalkSays) (oid : List ℕ) (named : mech_of oid ≡ Some talk.chosen) → is_mic_owed (named_talk talk oid) ≡ plain_owed talk
owed-as talk oid named = ap (λ (x : Bool). not x || talk.asked) (first-named talk.own.list oid talk.chosen named)

looks-as : (talk : TalkSays) (oid : List ℕ) (named : mech_of oid ≡ Some talk.chosen) (outcome : Outcome) (state : Option NegState) (mic : Option (List ℕ)) → StepsAs (looks (named_talk talk oid) outcome state mic) (step_of (plain_looks talk outcome state mic))
looks-as talk oid named outcome state None =
    if-as (is_mic_owed (named_talk talk oid)) (plain_owed talk) (Err MicMissing) (Ok (ended (named_talk talk oid) outcome false (completes_now state false)))
    (Err MicMissing) (Ok (plain_ended talk outcome false (completes_now state false))) (owed-as talk oid named) refl (ended-as talk oid named outcome false (completes_now state false))
looks-as talk oid named outcome state (Some mic) =
    if-as (is_list_mic outcome Initiator (own_list talk.own) mic) (is_list_mic outcome Initiator (own_list talk.own) mic)
    (Ok (ended (named_talk talk oid) outcome true (completes_now state true))) (Err MicBad)
    (behind [] (mic_found outcome Initiator (own_list talk.own) mic ∷ []) (Ok (plain_ended talk outcome true (completes_now state true)))) (Err MicBad) refl
    (ended-as talk oid named outcome true (completes_now state true)) refl

-- ---- the mechanism

goes-as : (talk : TalkSays) (oid : List ℕ) (named : mech_of oid ≡ Some talk.chosen) (cred : MechCred) (sent taken : List (List ℕ)) (mech : InitMech) (state : Option NegState) (mic : Option (List ℕ)) (octets : List ℕ) → kind_of cred ≡ talk.chosen → state_of cred (ask_of talk.own) taken ≡ Some mech
    → StepsAs (goes_on (named_talk talk oid) (waiting_of cred (ask_of talk.own) sent taken) state octets) (step_of (plain_told talk state mic (answers.More mech octets)))
goes-as talk oid named cred sent taken mech state mic octets chosen e =
    if-as (says_completed state) (says_completed state) (Err (Defective 0)) _ (Err (Defective 0)) _ refl refl
    (record { cred = cred; sent = sent; taken = taken; oid = oid; oid_is = named; chosen = chosen; state = e; end_is = refl }, refl)

answer-as : (talk : TalkSays) (oid : List ℕ) (named : mech_of oid ≡ Some talk.chosen) (cred : MechCred) (sent taken : List (List ℕ)) (token : List ℕ) (state : Option NegState) (mic : Option (List ℕ)) → kind_of cred ≡ talk.chosen
    → (r : Result Answered MechRefusal) (q : Result MechReplied MechRefusal) → replied q ≡ outcome_answered (kind_named (name_of cred)) r
    → ((mech : InitMech) (octets : List ℕ) → r ≡ Ok (GoesOn mech octets) → state_of cred (ask_of talk.own) (taken ++ token ∷ []) ≡ Some mech)
    → StepsAs (ran (named_talk talk oid) (waiting_of cred (ask_of talk.own) sent taken) token state mic (as_end (move_answered r))) (step_of (plain_ran talk state mic q))
answer-as talk oid named cred sent taken token state mic chosen (Err a) (Err b) e next = let is : Mech b ≡ Mech a = cc in sym is
answer-as talk oid named cred sent taken token state mic chosen (Err a) (Ok q) e next = absurd (let f : Ok q.answer ≡ Err (Mech a) = e in cc)
answer-as talk oid named cred sent taken token state mic chosen (Ok (GoesOn mech octets)) (Err b) e next = absurd (let f : Err (Mech b) ≡ Ok (answers.More mech octets) = e in cc)
answer-as talk oid named cred sent taken token state mic chosen (Ok (Ends done)) (Err b) e next = absurd (let f : Err (Mech b) ≡ Ok (answers.Done (outcome_of (kind_named (name_of cred)) done)) = e in cc)
answer-as talk oid named cred sent taken token state mic chosen (Ok (GoesOn mech octets)) (Ok q) e next =
    let is : answers.More mech octets ≡ q.answer = cc in
    behind-as q.makes q.found _ (plain_told talk state mic q.answer)
    (subst (λ (x : InitAnswer). StepsAs (goes_on (named_talk talk oid) (waiting_of cred (ask_of talk.own) (sent ++ octets ∷ []) (taken ++ token ∷ [])) state octets) (step_of (plain_told talk state mic x))) is
    (goes-as talk oid named cred (sent ++ octets ∷ []) (taken ++ token ∷ []) mech state mic octets chosen (next mech octets refl)))
answer-as talk oid named cred sent taken token state mic chosen (Ok (Ends done)) (Ok q) e next =
    let is : answers.Done (outcome_of (kind_named (name_of cred)) done) ≡ q.answer = cc in
    behind-as q.makes q.found _ (plain_told talk state mic q.answer)
    (subst (λ (x : InitAnswer). StepsAs (looks (named_talk talk oid) (outcome_of (kind_named (name_of cred)) done) state mic) (step_of (plain_told talk state mic x))) is
    (looks-as talk oid named (outcome_of (kind_named (name_of cred)) done) state mic))

answered-is : (cred : MechCred) (ask : MechAsk) (taken : List (List ℕ)) (mech : InitMech) (token : List ℕ) → state_of cred ask taken ≡ Some mech → replied (init_taken mech token) ≡ outcome_answered (kind_named (name_of cred)) (answered mech token)
answered-is cred ask taken mech token e =
    subst (λ (k : MechKind). replied (init_taken mech token) ≡ outcome_answered k (answered mech token)) (kind-of-state cred ask taken mech e ∙ sym (kind-named cred)) (standard_laws.answers mech token)

next-is : (cred : MechCred) (ask : MechAsk) (taken : List (List ℕ)) (mech : InitMech) (token : List ℕ) → state_of cred ask taken ≡ Some mech → (next : InitMech) (octets : List ℕ) → answered mech token ≡ Ok (GoesOn next octets)
    → state_of cred ask (taken ++ token ∷ []) ≡ Some next
next-is cred ask taken mech token e next octets f =
    standard_laws.takes_on cred ask taken token ∙ (ap (λ (x : Option InitMech). state_after x token) e ∙ ap state_answered f)

run-as : (size : ℕ) (talk : TalkSays) (oid : List ℕ) (named : mech_of oid ≡ Some talk.chosen) (cred : MechCred) (sent taken : List (List ℕ)) (mech : InitMech) (state : Option NegState) (token mic : Option (List ℕ)) → kind_of cred ≡ talk.chosen → state_of cred (ask_of talk.own) taken ≡ Some mech
    → StepsAs (run size (named_talk talk oid) (waiting_of cred (ask_of talk.own) sent taken) state token mic) (step_of (plain_run size talk mech state token mic))
unfolding run plain_run
run-as size talk oid named cred sent taken mech state None mic chosen e = refl
run-as size talk oid named cred sent taken mech state (Some token) mic chosen e =
    subst (λ (x : Result MechMove NegRefusal). StepsAs (ran (named_talk talk oid) (waiting_of cred (ask_of talk.own) sent taken) token state mic x) (step_of (plain_ran talk state mic (init_taken mech token))))
    (sym (takes-by cred (ask_of talk.own) sent taken mech token e))
    (answer-as talk oid named cred sent taken token state mic chosen (answered mech token) (init_taken mech token) (answered-is cred (ask_of talk.own) taken mech token e) (next-is cred (ask_of talk.own) taken mech token e))

-- ---- the first reply

began-as : (talk : TalkSays) (oid : List ℕ) (named : mech_of oid ≡ Some talk.chosen) (cred : MechCred) → kind_of cred ≡ talk.chosen → (r : Result MechBegun MechRefusal) → begun cred (ask_of talk.own) ≡ r
    → StepsAs (switched (named_talk talk oid) (fresh_of cred) (ask_of talk.own) (as_end (token_begun r))) (step_of (plain_switched talk r))
began-as talk oid named cred chosen (Err refusal) e = refl
began-as talk oid named cred chosen (Ok made) e =
    (record { cred = cred; sent = made.token ∷ []; taken = []; oid = oid; oid_is = named; chosen = chosen; state = began cred (ask_of talk.own) made e; end_is = refl }, refl)

begins-as : (talk : TalkSays) (oid : List ℕ) (named : mech_of oid ≡ Some talk.chosen) (cred : MechCred) → cred_for talk.own.list talk.chosen ≡ Some cred → kind_of cred ≡ talk.chosen → (state : Option NegState) (token : Option (List ℕ))
    → StepsAs (begins (named_talk talk oid) (fresh_of cred) (ask_of talk.own) state token) (step_of (plain_switches talk state token))
begins-as talk oid named cred found chosen state (Some token) = refl
begins-as talk oid named cred found chosen state None =
    if-as (says_completed state) (says_completed state) (Err (Defective 0)) _ (Err (Defective 0)) (plain_begins talk (cred_for talk.own.list talk.chosen)) refl refl
    (subst (λ (x : Option MechCred). StepsAs (switched (named_talk talk oid) (fresh_of cred) (ask_of talk.own) (starts (fresh_of cred) (ask_of talk.own))) (step_of (plain_begins talk x))) (sym found)
    (subst (λ (x : Result MechBegun MechRefusal). StepsAs (switched (named_talk talk oid) (fresh_of cred) (ask_of talk.own) (starts (fresh_of cred) (ask_of talk.own))) (step_of (plain_switched talk x))) (sym (begun-own talk.own cred))
    (began-as talk oid named cred chosen (begun cred (ask_of talk.own)) refl)))

-- an end over objects that sent its first token
abbrev opening_of : OpeningSays → MechCred → List MechCred → List ℕ → OpeningMeans
opening_of plain first rest token = record {
  list = own_list plain.own;
  ask = ask_of plain.own;
  mech = waiting_of first (ask_of plain.own) (token ∷ []) [];
  others = map fresh_of rest;
  negotiates = plain.own.negotiates;
}

-- what the first reply names by its mechanism
abbrev named_step : ℕ → OpeningSays → NegState → Option (List ℕ) → Option (List ℕ) → Option MechKind → Result Initiated NegRefusal
named_step size plain state token mic kind =
    or_refuse MechNotMine (own_kind plain.own.list kind) >>= (λ kind. plain_picks size plain kind (Some state) token mic)

-- the plain end where the mechanism is the own first one
first-plain : (size : ℕ) (plain : OpeningSays) (kind : MechKind) (state : NegState) (token mic : Option (List ℕ)) → is_own plain.own.list kind ≡ true → is_first (kinds_of plain.own.list) kind ≡ true
    → named_step size plain state token mic (Some kind) ≡ plain_run size (plain_talk_with plain.own kind (Some state)) plain.mech (Some state) token mic
unfolding plain_picks
first-plain size plain kind state token mic own first = rw (own, first) refl

-- where it is another of the list
other-plain : (size : ℕ) (plain : OpeningSays) (kind : MechKind) (state : NegState) (token mic : Option (List ℕ)) → is_own plain.own.list kind ≡ true → is_first (kinds_of plain.own.list) kind ≡ false
    → named_step size plain state token mic (Some kind) ≡ plain_switches (plain_talk_with plain.own kind (Some state)) (Some state) token
unfolding plain_picks
other-plain size plain kind state token mic own first = rw (own, first) refl

-- where it is none of the list
none-plain : (size : ℕ) (plain : OpeningSays) (kind : MechKind) (state : NegState) (token mic : Option (List ℕ)) → is_own plain.own.list kind ≡ false
    → named_step size plain state token mic (Some kind) ≡ Err MechNotMine
none-plain size plain kind state token mic own = rw own refl

-- the same over objects
first-objects : (size : ℕ) (plain : OpeningSays) (first : MechCred) (rest : List MechCred) (sent oid : List ℕ) (kind : MechKind) (named : mech_of oid ≡ Some kind) (state : NegState) (token mic : Option (List ℕ)) → same_kind (kind_of first) kind ≡ true
    → picks size (opening_of plain first rest sent) oid (Some state) token mic ≡ run size (named_talk (plain_talk_with plain.own kind (Some state)) oid) (waiting_of first (ask_of plain.own) (sent ∷ []) []) (Some state) token mic
unfolding picks
first-objects size plain first rest sent oid kind named state token mic e = rw (listed-named oid first kind named, e) refl

other-objects : (size : ℕ) (plain : OpeningSays) (first : MechCred) (rest : List MechCred) (sent oid : List ℕ) (kind : MechKind) (named : mech_of oid ≡ Some kind) (state : NegState) (token mic : Option (List ℕ)) → same_kind (kind_of first) kind ≡ false
    → picks size (opening_of plain first rest sent) oid (Some state) token mic
    ≡ switches (named_talk (plain_talk_with plain.own kind (Some state)) oid) (ask_of plain.own) (option_map fresh_of (cred_for rest kind)) (Some state) token
unfolding picks
other-objects size plain first rest sent oid kind named state token mic e = rw (listed-named oid first kind named, e, object-for rest oid kind named) refl

-- the first object is named
first-as : (size : ℕ) (plain : OpeningSays) (first : MechCred) (rest : List MechCred) (sent oid : List ℕ) (kind : MechKind) (named : mech_of oid ≡ Some kind) (state : NegState) (token mic : Option (List ℕ)) → plain.own.list ≡ first ∷ rest → state_of first (ask_of plain.own) [] ≡ Some plain.mech
    → same_kind (kind_of first) kind ≡ true
    → StepsAs (picks size (opening_of plain first rest sent) oid (Some state) token mic) (step_of (named_step size plain state token mic (Some kind)))
first-as size plain first rest sent oid kind named state token mic list mech e =
    let own : is_own plain.own.list kind ≡ true = subst (λ (x : List MechCred). is_own x kind ≡ true) (sym list) (rw e refl) in
    let begun_is : is_first (kinds_of plain.own.list) kind ≡ true = subst (λ (x : List MechCred). is_first (kinds_of x) kind ≡ true) (sym list) e in
    subst (λ (x : Result StepMeans NegRefusal). StepsAs x (step_of (named_step size plain state token mic (Some kind)))) (sym (first-objects size plain first rest sent oid kind named state token mic e))
    (subst (λ (x : Result Initiated NegRefusal). StepsAs (run size (named_talk (plain_talk_with plain.own kind (Some state)) oid) (waiting_of first (ask_of plain.own) (sent ∷ []) []) (Some state) token mic) (step_of x)) (sym (first-plain size plain kind state token mic own begun_is))
    (run-as size (plain_talk_with plain.own kind (Some state)) oid named first (sent ∷ []) [] plain.mech (Some state) token mic (same-is (kind_of first) kind e) mech))

-- another is named, or none of the list
other-as : (size : ℕ) (plain : OpeningSays) (first : MechCred) (rest : List MechCred) (sent oid : List ℕ) (kind : MechKind) (named : mech_of oid ≡ Some kind) (state : NegState) (token mic : Option (List ℕ)) → plain.own.list ≡ first ∷ rest
    → same_kind (kind_of first) kind ≡ false → (c : Option MechCred) → cred_for rest kind ≡ c
    → StepsAs (switches (named_talk (plain_talk_with plain.own kind (Some state)) oid) (ask_of plain.own) (option_map fresh_of c) (Some state) token) (step_of (named_step size plain state token mic (Some kind)))
other-as size plain first rest sent oid kind named state token mic list e None f =
    let own : is_own plain.own.list kind ≡ false = subst (λ (x : List MechCred). is_own x kind ≡ false) (sym list) (rw e (unowned rest kind f)) in
    subst (λ (x : Result Initiated NegRefusal). StepsAs (Err MechNotMine) (step_of x)) (sym (none-plain size plain kind state token mic own)) refl
other-as size plain first rest sent oid kind named state token mic list e (Some cred) f =
    let both : (is_own rest kind ≡ true) × (kind_of cred ≡ kind) = owned rest kind cred f in
    let own : is_own plain.own.list kind ≡ true = subst (λ (x : List MechCred). is_own x kind ≡ true) (sym list) (rw e both.0) in
    let later : is_first (kinds_of plain.own.list) kind ≡ false = subst (λ (x : List MechCred). is_first (kinds_of x) kind ≡ false) (sym list) e in
    let found : cred_for plain.own.list kind ≡ Some cred = subst (λ (x : List MechCred). cred_for x kind ≡ Some cred) (sym list) (rw e f) in
    subst (λ (x : Result Initiated NegRefusal). StepsAs (begins (named_talk (plain_talk_with plain.own kind (Some state)) oid) (fresh_of cred) (ask_of plain.own) (Some state) token) (step_of x)) (sym (other-plain size plain kind state token mic own later))
    (begins-as (plain_talk_with plain.own kind (Some state)) oid named cred found both.1 (Some state) token)

-- a mechanism is named by its identifier
named-as : (size : ℕ) (plain : OpeningSays) (first : MechCred) (rest : List MechCred) (sent oid : List ℕ) (kind : MechKind) (named : mech_of oid ≡ Some kind) (state : NegState) (token mic : Option (List ℕ)) → plain.own.list ≡ first ∷ rest → state_of first (ask_of plain.own) [] ≡ Some plain.mech
    → (b : Bool) → same_kind (kind_of first) kind ≡ b
    → StepsAs (picks size (opening_of plain first rest sent) oid (Some state) token mic) (step_of (named_step size plain state token mic (Some kind)))
named-as size plain first rest sent oid kind named state token mic list mech true e = first-as size plain first rest sent oid kind named state token mic list mech e
named-as size plain first rest sent oid kind named state token mic list mech false e =
    subst (λ (x : Result StepMeans NegRefusal). StepsAs x (step_of (named_step size plain state token mic (Some kind)))) (sym (other-objects size plain first rest sent oid kind named state token mic e))
    (other-as size plain first rest sent oid kind named state token mic list e (cred_for rest kind) refl)

unnamed-objects : (size : ℕ) (plain : OpeningSays) (first : MechCred) (rest : List MechCred) (sent oid : List ℕ) (state : NegState) (token mic : Option (List ℕ)) → mech_of oid ≡ None
    → picks size (opening_of plain first rest sent) oid (Some state) token mic ≡ Err MechNotMine
unfolding picks
unnamed-objects size plain first rest sent oid state token mic e = rw (unnamed oid first e, object-unnamed rest oid e) refl

-- an identifier is named, of a mechanism or of none
picks-as : (size : ℕ) (plain : OpeningSays) (first : MechCred) (rest : List MechCred) (sent oid : List ℕ) (state : NegState) (token mic : Option (List ℕ)) → plain.own.list ≡ first ∷ rest → state_of first (ask_of plain.own) [] ≡ Some plain.mech
    → (kind : Option MechKind) → mech_of oid ≡ kind
    → StepsAs (picks size (opening_of plain first rest sent) oid (Some state) token mic) (step_of (named_step size plain state token mic kind))
picks-as size plain first rest sent oid state token mic list mech None e =
    subst (λ (x : Result StepMeans NegRefusal). StepsAs x (Err MechNotMine)) (sym (unnamed-objects size plain first rest sent oid state token mic e)) refl
picks-as size plain first rest sent oid state token mic list mech (Some kind) e =
    named-as size plain first rest sent oid kind e state token mic list mech (same_kind (kind_of first) kind) refl

opened-as : (size : ℕ) (plain : OpeningSays) (first : MechCred) (rest : List MechCred) (sent : List ℕ) (resp : NegResp) → plain.own.list ≡ first ∷ rest → state_of first (ask_of plain.own) [] ≡ Some plain.mech
    → StepsAs (opened size (opening_of plain first rest sent) resp) (step_of (plain_opened size plain resp))
unfolding opened plain_opened
opened-as size plain first rest sent resp list mech =
    due-as Rejected (not (rejects resp.state)) (not (rejects resp.state)) _ _ refl
    (or-as (Defective size) resp.state _ _ (λ state. or-as (Defective size) resp.mech _ _ (λ oid. picks-as size plain first rest sent oid state resp.token resp.mic list mech (mech_of oid) refl)))

-- ---- later replies

chosen-as : (oid : List ℕ) (kind : MechKind) → mech_of oid ≡ Some kind → (mech : Option (List ℕ)) → is_chosen oid mech ≡ plain_chosen kind mech
chosen-as oid kind named None = refl
chosen-as oid kind named (Some other) = named-kind other oid kind named

talked-as : (size : ℕ) (plain : TalkingSays) (oid : List ℕ) → mech_of oid ≡ Some plain.talk.chosen → (cred : MechCred) (sent taken : List (List ℕ)) (resp : NegResp) → kind_of cred ≡ plain.talk.chosen → state_of cred (ask_of plain.talk.own) taken ≡ Some plain.mech
    → StepsAs (talked size (record { talk = named_talk plain.talk oid; mech = waiting_of cred (ask_of plain.talk.own) sent taken }) resp) (step_of (plain_talked size plain resp))
unfolding talked plain_talked
talked-as size plain oid named cred sent taken resp chosen e =
    due-as Rejected (not (rejects resp.state)) (not (rejects resp.state)) _ _ refl
    (due-as MechNotMine (is_chosen oid resp.mech) (plain_chosen plain.talk.chosen resp.mech) _ _ (chosen-as oid plain.talk.chosen named resp.mech)
    (run-as size (plain_talk_after plain.talk resp.state) oid named cred sent taken plain.mech resp.state resp.token resp.mic chosen e))

-- an end over objects that sent its MIC
abbrev signed_of : SignedSays → List ℕ → SignedEnd
signed_of plain oid = record { talk = named_talk plain.talk oid; outcome = plain.outcome; listed = plain.listed }

settles-as : (plain : SignedSays) (oid : List ℕ) (listed completes : Bool) → StepsAs (settles (signed_of plain oid) completes) (step_of (plain_settles plain listed completes))
settles-as plain oid listed true = refl
settles-as plain oid listed false = refl

again-as : (plain : SignedSays) (oid : List ℕ) (state : Option NegState) (mic : Option (List ℕ)) → StepsAs (looks_again (signed_of plain oid) state mic) (step_of (plain_looks_again plain state mic))
again-as plain oid state None = settles-as plain oid plain.listed (completes_later state)
again-as plain oid state (Some mic) =
    if-as (is_list_mic plain.outcome Initiator (own_list plain.talk.own) mic) (is_list_mic plain.outcome Initiator (own_list plain.talk.own) mic)
    _ (Err MicBad) (behind [] (mic_found plain.outcome Initiator (own_list plain.talk.own) mic ∷ []) (plain_settles plain true (completes_later state))) (Err MicBad) refl
    (behind-as [] (mic_found plain.outcome Initiator (own_list plain.talk.own) mic ∷ []) _ (plain_settles plain true (completes_later state)) (settles-as plain oid true (completes_later state))) refl

closed-as : (plain : SignedSays) (oid : List ℕ) → mech_of oid ≡ Some plain.talk.chosen → (resp : NegResp) → StepsAs (closed (signed_of plain oid) resp) (step_of (plain_closed plain resp))
unfolding closed plain_closed
closed-as plain oid named resp =
    due-as Rejected (not (rejects resp.state)) (not (rejects resp.state)) _ _ refl
    (due-as MechNotMine (is_chosen oid resp.mech) (plain_chosen plain.talk.chosen resp.mech) _ _ (chosen-as oid plain.talk.chosen named resp.mech) (again-as plain oid resp.state resp.mic))

-- ---- the machine

steps-as : (end : EndMeans) (plain : EndSays) (token : List ℕ) → StandsAs end plain → StepsAs (end_step end token) (step_of (init_step plain token))
steps-as end (plain_ends.Opens plain) token h =
    subst (λ (x : EndMeans). StepsAs (end_step x token) (step_of (init_step (plain_ends.Opens plain) token))) (sym h.end_is)
    (read-as (first_read plain.own.negotiates (own_list plain.own) token) (opened (length token) (opening_of plain h.first h.rest h.token)) (plain_opened (length token) plain) (λ resp. opened-as (length token) plain h.first h.rest h.token resp h.own_is h.state))
steps-as end (plain_ends.Talks plain) token h =
    subst (λ (x : EndMeans). StepsAs (end_step x token) (step_of (init_step (plain_ends.Talks plain) token))) (sym h.end_is)
    (read-as (resp_read token) _ (plain_talked (length token) plain) (λ resp. talked-as (length token) plain h.oid h.oid_is h.cred h.sent h.taken resp h.chosen h.state))
steps-as end (plain_ends.Signed plain) token h =
    subst (λ (x : EndMeans). StepsAs (end_step x token) (step_of (init_step (plain_ends.Signed plain) token))) (sym h.end_is)
    (read-as (last_read token) _ (plain_closed plain) (λ resp. closed-as plain h.oid h.oid_is resp))

-- the first token, by how the own first mechanism begins
opens-as : (own : PlainSetup) (first : MechCred) (rest : List MechCred) → own.list ≡ first ∷ rest → (r : Result MechBegun MechRefusal) → begun first (ask_of own) ≡ r
    → StartsAs (opens (objects_of own) (fresh_of first) (map fresh_of rest) (as_end (token_begun r))) (sent_of (plain_opens own r))
opens-as own first rest list (Err refusal) e = refl
opens-as own first rest list (Ok made) e =
    (record { first = first; rest = rest; token = made.token; own_is = list; state = began first (ask_of own) made e; end_is = rw (oids-of own.list) refl }, rw (oids-of own.list) refl)

starts-by : (own : PlainSetup) (list : List MechCred) → own.list ≡ list → StartsAs (starts_first (objects_of own) (map fresh_of list)) (sent_of (plain_starts own list))
starts-by own [] e = refl
starts-by own (first ∷ rest) e =
    subst (λ (x : Result MechBegun MechRefusal). StartsAs (opens (objects_of own) (fresh_of first) (map fresh_of rest) (starts (fresh_of first) (ask_of own))) (sent_of (plain_opens own x))) (sym (begun-own own first))
    (opens-as own first rest e (begun first (ask_of own)) refl)

-- ---- the plain end as a function

shown-as : (end : EndMeans) (plain : EndSays) → StandsAs end plain → plain_of (own_of plain) end ≡ Some plain
shown-as end (plain_ends.Opens plain) h =
    subst (λ (x : EndMeans). plain_of plain.own x ≡ Some (plain_ends.Opens plain)) (sym h.end_is) (ap (plain_opening plain.own) h.state)
shown-as end (plain_ends.Talks plain) h =
    subst (λ (x : EndMeans). plain_of plain.talk.own x ≡ Some (plain_ends.Talks plain)) (sym h.end_is) (rw (h.oid_is, h.state) refl)
shown-as end (plain_ends.Signed plain) h =
    subst (λ (x : EndMeans). plain_of plain.talk.own x ≡ Some (plain_ends.Signed plain)) (sym h.end_is) (rw h.oid_is refl)

held-as : (end : EndMeans) (plain : EndSays) → StandsAs end plain → holds end ≡ true
held-as end (plain_ends.Opens plain) h = subst (λ (x : EndMeans). holds x ≡ true) (sym h.end_is) (fresh-all h.rest)
held-as end (plain_ends.Talks plain) h = subst (λ (x : EndMeans). holds x ≡ true) (sym h.end_is) refl
held-as end (plain_ends.Signed plain) h = subst (λ (x : EndMeans). holds x ≡ true) (sym h.end_is) refl

pub plain_law : PlainLaw
plain_law = record {
  lists = λ own. own-lists own.list;
  starts = λ own. starts-by own own.list refl;
  steps = steps-as;
  shown = shown-as;
  held = held-as;
}
