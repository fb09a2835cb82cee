-- Single messages of an honest exchange.
use Rattle.std.proofs.Common.{◌≡◌, ℕ, ◌≤◌, Bool, true, false, if◌then◌else◌, refl, ap, arith, List, [], ◌∷◌, length, Option, Some, None, Ok}
use Rattle.gss_base.specs.declared.mech.MechKind.{MechKind}
use Rattle.gss_base.specs.declared.mech.MechKind.TheVariants.{Kerberos}
use Rattle.gss_base.specs.declared.mech.KerberosName.TheVariants.{Standard}
use Rattle.krb_files.specs.Granted.{Granted}
use Rattle.ap_exchange.specs.Request.{request_token, RequestFits}
use Rattle.krb_tokens.specs.declared.end.Side.TheVariants.{Initiator, Acceptor}
use Rattle.spnego_core.specs.declared.outcome.Outcome.{Outcome}
use Rattle.spnego_core.specs.declared.setup.AcceptSetup.{AcceptSetup}
use Rattle.spnego_core.specs.declared.setup.MechCred.{MechCred}
use Rattle.spnego_core.specs.declared.setup.MechCred.TheVariants as creds
use Rattle.spnego_core.specs.MechStates.{InitMech}
use Rattle.spnego_core.specs.MechStates as tells
use Rattle.spnego_core.specs.declared.accept_mech.AcceptMech.{AcceptMech}
use Rattle.spnego_core.specs.declared.accept_mech.AcceptMech.TheVariants as mechs
use Rattle.spnego_core.specs.declared.accept_mech.AcceptAnswer.TheVariants as answers
use Rattle.spnego_core.specs.declared.accept_end.Turn.{Turn}
use Rattle.spnego_core.specs.declared.accept_end.Turn.TheVariants.{First, Later, Bare}
use Rattle.spnego_core.specs.declared.accept_end.Chosen.{Chosen}
use Rattle.spnego_core.specs.declared.accept_end.AcceptEnd.{AcceptEnd}
use Rattle.spnego_core.specs.declared.accept_end.AcceptEnd.TheVariants as accepts
use Rattle.spnego_core.specs.declared.accept_end.AcceptStep.{AcceptStep}
use Rattle.spnego_core.specs.declared.accept_end.AcceptStep.TheVariants as accepted
use Rattle.spnego_core.specs.Ends.{PlainSetup, TalkSays, EndSays}
use Rattle.spnego_core.specs.Ends as inits
use Rattle.spnego_core.specs.EndSteps as initiated
use Rattle.spnego_core.specs.ListMic.{list_mic}
use Rattle.spnego_core.specs.Choice.{is_first, is_first_named, best, listed_as}
use Rattle.spnego_core.specs.Bare.{takes_bare}
use Rattle.spnego_core.specs.Tokens.{init_octets, resp_octets}
use Rattle.spnego_core.specs.AcceptMech.{MechTaken, accept_begun, accept_taken}
use Rattle.spnego_core.specs.InitMech.{kinds_of, is_own, is_own_list, cred_for, MechBegun, init_begun, MechReplied, init_taken}
use Rattle.spnego_core.specs.Sizes.{IsShort}
use Rattle.spnego_core.specs.Accepting as accepting
use Rattle.spnego_core.specs.Initiating as initiating
use Rattle.spnego_core.specs.Exchange.{Occasion, passed, answered_on, IsDone, Completes}
use Rattle.spnego_core.proofs.Listed.{listed-back}
use Rattle.spnego_core.proofs.Sizes.{Within}
use Rattle.spnego_core.proofs.Short.{some-is, none-is, list_mic_within}
use Rattle.spnego_core.proofs.Pairs.{acceptors_mic, initiators_mic}
use Rattle.spnego_core.proofs.Bares.{request-bare, takes-first}
use Rattle.spnego_core.proofs.Spelled.{reply_reads, token_reads, token_short, mic_reads, mic_short, init_asks, init_reads}

-- what both know once the mechanism was chosen; whether the MIC is due is said by the first reply
abbrev pub talk_on : PlainSetup → MechKind → Bool → TalkSays
talk_on own kind due = record { own = own; chosen = kind; asked = due }

abbrev pub chosen_on : PlainSetup → MechKind → Bool → Chosen
chosen_on own kind due = record { received = initiating.own_list own; kind = kind; due = due }

-- the initiator's end while the chosen mechanism runs, by the turn of the reply that is due
abbrev pub end_at : Turn → PlainSetup → MechKind → Bool → InitMech → EndSays
end_at First own kind due mech = inits.Opens (record { own = own; mech = mech })
end_at Later own kind due mech = inits.Talks (record { talk = talk_on own kind due; mech = mech })
end_at Bare own kind due mech = inits.Opens (record { own = own; mech = mech })

-- a first reply that carries on a mechanism is for the own first one; both ends negotiate
abbrev pub MayCome : Turn → PlainSetup → MechKind → Type 0
MayCome First own kind = (own.negotiates ≡ true) × (is_first (kinds_of own.list) kind ≡ true)
MayCome Later own kind = Unit {0}
MayCome Bare own kind = ⊥

-- the mechanism as the acceptor names it: as the own list has it
abbrev pub oid_on : PlainSetup → MechKind → List ℕ
oid_on own kind = listed_as (initiating.own_list own) kind

one_within : (octets : List ℕ) (n : ℕ) → length octets ≤ n → (v : List ℕ) → Some octets ≡ Some v → Within v n
one_within octets n h v e = some-is octets v n (record { most = h }) e

-- ---- the initiator takes a reply

takes_first : (own : PlainSetup) (kind : MechKind) (due finished : Bool) (mech : InitMech) (token : List ℕ) (mic : Option (List ℕ)) → is_own own.list kind ≡ true → own.negotiates ≡ true → is_first (kinds_of own.list) kind ≡ true → length token ≤ 65000 → ((v : List ℕ) → mic ≡ Some v → Within v 28)
    → initiating.init_step (inits.Opens (record { own = own; mech = mech })) (accepting.reply First (oid_on own kind) due finished (Some token) mic)
    ≡ initiating.ran (talk_on own kind due) (accepting.state_said First due finished) mic (init_taken mech token)
unfolding initiating.opened initiating.picks initiating.run
takes_first own kind true finished mech token mic is negotiates first few m =
    rw (negotiates, reply_reads First (initiating.own_list own) kind true finished (Some token) mic (one_within token 65000 few) m, listed-back (initiating.own_list own) kind, is, first) refl
takes_first own kind false true mech token mic is negotiates first few m =
    rw (negotiates, reply_reads First (initiating.own_list own) kind false true (Some token) mic (one_within token 65000 few) m, listed-back (initiating.own_list own) kind, is, first) refl
takes_first own kind false false mech token mic is negotiates first few m =
    rw (negotiates, reply_reads First (initiating.own_list own) kind false false (Some token) mic (one_within token 65000 few) m, listed-back (initiating.own_list own) kind, is, first) refl

takes_later : (own : PlainSetup) (kind : MechKind) (due finished : Bool) (mech : InitMech) (token : List ℕ) (mic : Option (List ℕ)) → length token ≤ 65000 → ((v : List ℕ) → mic ≡ Some v → Within v 28)
    → initiating.init_step (inits.Talks (record { talk = talk_on own kind due; mech = mech })) (accepting.reply Later (oid_on own kind) due finished (Some token) mic)
    ≡ initiating.ran (talk_on own kind due) (accepting.state_said Later due finished) mic (init_taken mech token)
unfolding initiating.talked initiating.run
takes_later own kind true finished mech token mic few m = rw (reply_reads Later (initiating.own_list own) kind true finished (Some token) mic (one_within token 65000 few) m) refl
takes_later own kind false true mech token mic few m = rw (reply_reads Later (initiating.own_list own) kind false true (Some token) mic (one_within token 65000 few) m) refl
takes_later own kind false false mech token mic few m = rw (reply_reads Later (initiating.own_list own) kind false false (Some token) mic (one_within token 65000 few) m) refl

takes : (turn : Turn) (own : PlainSetup) (kind : MechKind) (due finished : Bool) (mech : InitMech) (token : List ℕ) (mic : Option (List ℕ)) → is_own own.list kind ≡ true → MayCome turn own kind → length token ≤ 65000 → ((v : List ℕ) → mic ≡ Some v → Within v 28)
    → initiating.init_step (end_at turn own kind due mech) (accepting.reply turn (oid_on own kind) due finished (Some token) mic)
    ≡ initiating.ran (talk_on own kind due) (accepting.state_said turn due finished) mic (init_taken mech token)
takes First own kind due finished mech token mic is may few m = takes_first own kind due finished mech token mic is may.0 may.1 few m
takes Later own kind due finished mech token mic is may few m = takes_later own kind due finished mech token mic few m
takes Bare own kind due finished mech token mic is may few m = absurd may

-- the mechanism goes on
goes_on : (turn : Turn) (due : Bool) (talk : TalkSays) (taken : MechReplied) (mech : InitMech) (further : List ℕ) → taken.answer ≡ tells.More mech further
    → initiating.step_of (initiating.ran talk (accepting.state_said turn due false) None (Ok taken))
    ≡ Ok (initiated.More (inits.Talks (record { talk = talk; mech = mech })) (resp_octets (initiating.token_sent further)))
goes_on First true talk taken mech further e = rw e refl
goes_on First false talk taken mech further e = rw e refl
goes_on Later true talk taken mech further e = rw e refl
goes_on Later false talk taken mech further e = rw e refl
goes_on Bare due talk taken mech further e = rw e refl

-- the mechanism is done, and the MICs aren't due
ends_plain : (turn : Turn) (own : PlainSetup) (kind : MechKind) (taken : MechReplied) (outcome : Outcome) → is_first (kinds_of own.list) kind ≡ true → taken.answer ≡ tells.Done outcome
    → initiating.step_of (initiating.ran (talk_on own kind false) (accepting.state_said turn false true) None (Ok taken)) ≡ Ok (initiated.Done outcome)
ends_plain First own kind taken outcome first e = rw (e, first) refl
ends_plain Later own kind taken outcome first e = rw (e, first) refl
ends_plain Bare own kind taken outcome first e = rw (e, first) refl

-- the end once the own MIC was sent
abbrev pub signed_on : PlainSetup → MechKind → Outcome → EndSays
signed_on own kind outcome = inits.Signed (record { talk = talk_on own kind true; outcome = outcome; listed = true })

abbrev pub last_mic : PlainSetup → Outcome → List ℕ
last_mic own outcome = resp_octets (initiating.mic_sent (list_mic outcome Initiator (initiating.own_list own)))

-- the mechanism is done, and the acceptor's MIC is there
ends_signed : (turn : Turn) (own : PlainSetup) (kind : MechKind) (taken : MechReplied) (outcome : Outcome) → taken.answer ≡ tells.Done outcome
    → initiating.step_of (initiating.ran (talk_on own kind true) (accepting.state_said turn true true) (Some (list_mic outcome Acceptor (initiating.own_list own))) (Ok taken))
    ≡ Ok (initiated.More (signed_on own kind outcome) (last_mic own outcome))
ends_signed First own kind taken outcome e = rw (e, acceptors_mic outcome (initiating.own_list own)) refl
ends_signed Later own kind taken outcome e = rw (e, acceptors_mic outcome (initiating.own_list own)) refl
ends_signed Bare own kind taken outcome e = rw (e, acceptors_mic outcome (initiating.own_list own)) refl

-- another mechanism than the own first was chosen
pub switches : (own : PlainSetup) (kind : MechKind) (mech : InitMech) (cred : MechCred) (begun : MechBegun) → own.negotiates ≡ true → is_own own.list kind ≡ true → is_first (kinds_of own.list) kind ≡ false → cred_for own.list kind ≡ Some cred → init_begun own cred ≡ Ok begun
    → initiating.step_of (initiating.init_step (inits.Opens (record { own = own; mech = mech })) (accepting.reply First (oid_on own kind) true false None None))
    ≡ Ok (initiated.More (end_at Later own kind true begun.mech) (resp_octets (initiating.token_sent begun.token)))
unfolding initiating.opened initiating.picks init_begun resp_octets
switches own kind mech cred begun negotiates is other cred_is begins =
    rw (negotiates, reply_reads First (initiating.own_list own) kind true false None None (λ v e. none-is v 65000 e) (λ v e. none-is v 28 e), listed-back (initiating.own_list own) kind, is, other, cred_is, begins) refl

-- ---- the acceptor hears a token

-- its end takes the octets by what the mechanism makes of this token
abbrev pub Hears : AcceptSetup → AcceptEnd → List ℕ → Turn → Chosen → AcceptMech → List ℕ → Type 0
Hears setup end octets turn chosen mech token =
    (now : ℕ) (drawn : List ℕ) → accepting.accept_step setup end octets now drawn ≡ accepting.run turn chosen (accept_taken setup mech token now drawn)

-- the first token, for the chosen mechanism
pub hears_first : (setup : AcceptSetup) (own : PlainSetup) (kind : MechKind) (token : List ℕ) → is_own_list own.list ≡ true → IsShort (init_octets (initiating.first_sent own token)) → best setup.offer (initiating.own_list own) ≡ Some kind → is_first_named (initiating.own_list own) kind ≡ true
    → Hears setup accepts.New (init_octets (initiating.first_sent own token)) First (accepting.begun setup (initiating.own_list own) kind).chosen (accept_begun kind) token
unfolding accepting.begins
hears_first setup own kind token list short chosen first now drawn = rw (init_asks setup own token list short, init_reads own token list short, chosen, first) refl

-- a later token
pub hears_later : (setup : AcceptSetup) (chosen : Chosen) (mech : AcceptMech) (token : List ℕ) → IsShort (resp_octets (initiating.token_sent token))
    → Hears setup (accepts.Runs (record { chosen = chosen; mech = mech })) (resp_octets (initiating.token_sent token)) Later chosen mech token
unfolding accepting.proceeds
hears_later setup chosen mech token short now drawn = rw (token_reads token short) refl

-- the first token, for another mechanism than the chosen one, which waits
pub waits : (setup : AcceptSetup) (own : PlainSetup) (kind : MechKind) (token : List ℕ) (occasion : Occasion) → is_own_list own.list ≡ true → IsShort (init_octets (initiating.first_sent own token)) → best setup.offer (initiating.own_list own) ≡ Some kind → is_first_named (initiating.own_list own) kind ≡ false
    → answered_on setup occasion accepts.New (init_octets (initiating.first_sent own token))
    ≡ Ok (accepted.More (accepts.Runs (record { chosen = chosen_on own kind true; mech = accept_begun kind })) (accepting.reply First (oid_on own kind) true false None None))
unfolding accepting.begins
waits setup own kind token occasion list short chosen other = rw (init_asks setup own token list short, init_reads own token list short, chosen, other) refl

-- ---- the MICs

-- both are done once the acceptor took the initiator's MIC
pub closes : (setup : AcceptSetup) (own : PlainSetup) (kind : MechKind) (outcome : Outcome) (lasts : ℕ) (occasion : Occasion)
    → IsDone setup occasion (accepts.Owes (record { received = initiating.own_list own; outcome = outcome; lasts = lasts })) (signed_on own kind outcome) (last_mic own outcome) outcome
unfolding accepting.closes initiating.closed
closes setup own kind outcome lasts occasion =
    let mic : List ℕ = list_mic outcome Initiator (initiating.own_list own) in
    record {
      reply = [];
      lasts = lasts;
      accepts = rw (mic_reads mic (list_mic_within outcome Initiator (initiating.own_list own)), initiators_mic outcome (initiating.own_list own)) refl;
      initiates = refl;
    }

-- ---- the mechanism's rounds

-- a round that both mechanisms finish
pub record LastRound (setup : AcceptSetup) (occasion : Occasion) (mech : AcceptMech) (own : InitMech) (token : List ℕ) (outcome : Outcome) : Type 0 where
  pub taken : MechTaken
  pub accepts : accept_taken setup mech token occasion.now occasion.drawn ≡ Ok taken
  pub lasts : ℕ
  pub last : List ℕ
  pub passes : (turn : Turn) (chosen : Chosen) → passed (accepting.told turn chosen taken.answer) ≡ accepting.gone_on (accepting.finished turn chosen outcome lasts last)
  pub size : length last ≤ 65000
  pub replied : MechReplied
  pub replies : init_taken own last ≡ Ok replied
  pub done : replied.answer ≡ tells.Done outcome

-- a round after which both go on
pub record TextRound (setup : AcceptSetup) (occasion : Occasion) (mech : AcceptMech) (own : InitMech) (token : List ℕ) (mech_after : AcceptMech) (own_after : InitMech) (further : List ℕ) : Type 0 where
  pub taken : MechTaken
  pub accepts : accept_taken setup mech token occasion.now occasion.drawn ≡ Ok taken
  pub text : List ℕ
  pub says : taken.answer ≡ answers.More mech_after text
  pub size : length text ≤ 65000
  pub replied : MechReplied
  pub replies : init_taken own text ≡ Ok replied
  pub answer : replied.answer ≡ tells.More own_after further
  pub short : length further ≤ 65000

-- the acceptor's step where the mechanism is done
last_answered : (setup : AcceptSetup) (end : AcceptEnd) (octets : List ℕ) (turn : Turn) (chosen : Chosen) (mech : AcceptMech) (token : List ℕ) (own : InitMech) (outcome : Outcome) (occasion : Occasion) → Hears setup end octets turn chosen mech token → (r : LastRound setup occasion mech own token outcome)
    → answered_on setup occasion end octets ≡ Ok (accepting.gone_on (accepting.finished turn chosen outcome r.lasts r.last))
last_answered setup end octets turn chosen mech token own outcome occasion hears r =
    rw (hears occasion.now occasion.drawn, r.accepts) (ap (λ (s : AcceptStep). Ok s) (r.passes turn chosen))

-- and where it goes on
text_answered : (setup : AcceptSetup) (end : AcceptEnd) (octets : List ℕ) (turn : Turn) (chosen : Chosen) (mech : AcceptMech) (token : List ℕ) (own : InitMech) (mech_after : AcceptMech) (own_after : InitMech) (further : List ℕ) (occasion : Occasion) → Hears setup end octets turn chosen mech token → (r : TextRound setup occasion mech own token mech_after own_after further)
    → answered_on setup occasion end octets ≡ Ok (accepted.More (accepts.Runs (record { chosen = chosen; mech = mech_after })) (accepting.reply turn (accepting.oid_chosen chosen) chosen.due false (Some r.text) None))
text_answered setup end octets turn chosen mech token own mech_after own_after further occasion hears r = rw (hears occasion.now occasion.drawn, r.accepts, r.says) refl

-- a round of texts, before the others
pub texts : (setup : AcceptSetup) (own : PlainSetup) (kind : MechKind) (due : Bool) (turn : Turn) (end : AcceptEnd) (octets : List ℕ) (mech : AcceptMech) (own_mech : InitMech) (token : List ℕ) (mech_after : AcceptMech) (own_after : InitMech) (further : List ℕ) (outcome : Outcome) (occasion next : Occasion) (later : List Occasion)
    → is_own own.list kind ≡ true → MayCome turn own kind → Hears setup end octets turn (chosen_on own kind due) mech token → TextRound setup occasion mech own_mech token mech_after own_after further
    → Completes setup (next ∷ later) (accepts.Runs (record { chosen = chosen_on own kind due; mech = mech_after })) (end_at Later own kind due own_after) (resp_octets (initiating.token_sent further)) outcome
    → Completes setup (occasion ∷ next ∷ later) end (end_at turn own kind due own_mech) octets outcome
texts setup own kind due turn end octets mech own_mech token mech_after own_after further outcome occasion next later is may hears r others = (
  record {
    reply = accepting.reply turn (oid_on own kind) due false (Some r.text) None;
    acceptor_after = accepts.Runs (record { chosen = chosen_on own kind due; mech = mech_after });
    accepts = text_answered setup end octets turn (chosen_on own kind due) mech token own_mech mech_after own_after further occasion hears r;
    initiator_after = end_at Later own kind due own_after;
    further = resp_octets (initiating.token_sent further);
    initiates =
        rw (takes turn own kind due false own_mech r.text None is may r.size (λ v e. none-is v 28 e), r.replies)
        (goes_on turn due (talk_on own kind due) r.replied own_after further r.answer);
    short = token_short further r.short;
  },
  others,
)

-- the last round, and the MICs where they are due
pub ends_all : (setup : AcceptSetup) (own : PlainSetup) (kind : MechKind) (due : Bool) (turn : Turn) (end : AcceptEnd) (octets : List ℕ) (mech : AcceptMech) (own_mech : InitMech) (token : List ℕ) (outcome : Outcome) (occasion : Occasion) (rest : List Occasion)
    → (due ≡ false → is_first (kinds_of own.list) kind ≡ true) → is_own own.list kind ≡ true → MayCome turn own kind → Hears setup end octets turn (chosen_on own kind due) mech token → LastRound setup occasion mech own_mech token outcome → length rest ≡ (if due then 1 else 0)
    → Completes setup (occasion ∷ rest) end (end_at turn own kind due own_mech) octets outcome
ends_all setup own kind false turn end octets mech own_mech token outcome occasion [] first is may hears r count = record {
  reply = accepting.reply turn (oid_on own kind) false true (Some r.last) None;
  lasts = r.lasts;
  accepts = last_answered setup end octets turn (chosen_on own kind false) mech token own_mech outcome occasion hears r;
  initiates =
      rw (takes turn own kind false true own_mech r.last None is may r.size (λ v e. none-is v 28 e), r.replies)
      (ends_plain turn own kind r.replied outcome (first refl) r.done);
}
ends_all setup own kind false turn end octets mech own_mech token outcome occasion (next ∷ rest) first is may hears r count = absurd (omega (arith, count))
ends_all setup own kind true turn end octets mech own_mech token outcome occasion [] first is may hears r count = absurd (omega (arith, count))
ends_all setup own kind true turn end octets mech own_mech token outcome occasion (last ∷ []) first is may hears r count =
    let mic : List ℕ = list_mic outcome Acceptor (initiating.own_list own) in (
      record {
        reply = accepting.reply turn (oid_on own kind) true true (Some r.last) (Some mic);
        acceptor_after = accepts.Owes (record { received = initiating.own_list own; outcome = outcome; lasts = r.lasts });
        accepts = last_answered setup end octets turn (chosen_on own kind true) mech token own_mech outcome occasion hears r;
        initiator_after = signed_on own kind outcome;
        further = last_mic own outcome;
        initiates =
            rw (takes turn own kind true true own_mech r.last (Some mic) is may r.size (λ v e. some-is mic v 28 (list_mic_within outcome Acceptor (initiating.own_list own)) e), r.replies)
            (ends_signed turn own kind r.replied outcome r.done);
        short = mic_short (list_mic outcome Initiator (initiating.own_list own)) (list_mic_within outcome Initiator (initiating.own_list own));
      },
      closes setup own kind outcome r.lasts last,
    )
ends_all setup own kind true turn end octets mech own_mech token outcome occasion (last ∷ more ∷ rest) first is may hears r count = absurd (omega (arith, count))

-- ---- without negotiation

-- a request alone
pub hears_bare : (setup : AcceptSetup) (own : PlainSetup) (credential : Granted) → own.list ≡ creds.Kerberos Standard credential ∷ [] → RequestFits credential own.stamp own.draws own.bindings → takes_bare setup ≡ true
    → Hears setup accepts.New (request_token credential own.stamp own.draws own.bindings) Bare (chosen_on own Kerberos false) mechs.Kerberos (request_token credential own.stamp own.draws own.bindings)
hears_bare setup own credential list made takes now drawn =
    rw (list, request-bare setup credential own.stamp own.draws own.bindings made takes, takes-first setup takes) refl

-- the one round, after which both are done
pub ends_bare : (setup : AcceptSetup) (own : PlainSetup) (credential : Granted) (octets : List ℕ) (own_mech : InitMech) (token : List ℕ) (outcome : Outcome) (occasion : Occasion) → own.negotiates ≡ false → own.list ≡ creds.Kerberos Standard credential ∷ []
    → Hears setup accepts.New octets Bare (chosen_on own Kerberos false) mechs.Kerberos token → LastRound setup occasion mechs.Kerberos own_mech token outcome
    → IsDone setup occasion accepts.New (inits.Opens (record { own = own; mech = own_mech })) octets outcome
unfolding initiating.opened initiating.picks initiating.run
ends_bare setup own credential octets own_mech token outcome occasion negotiates list hears r = record {
  reply = r.last;
  lasts = r.lasts;
  accepts = last_answered setup accepts.New octets Bare (chosen_on own Kerberos false) mechs.Kerberos token own_mech outcome occasion hears r;
  initiates = rw (negotiates, list, r.replies, r.done) refl;
}
