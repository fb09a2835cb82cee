-- What every event keeps of a world.
use Rattle.std.specs.Prelude.{◌≡◌, ◌⊎◌, ℕ, ◌≤◌, true, false, List, map, slice_get, Option, Some, None, Ok}
use Rattle.gss_base.specs.declared.mech.MechKind.{MechKind}
use Rattle.gss_base.specs.declared.mech.MechKind.TheVariants as kinds
use Rattle.krb_derive.specs.Making.{sealed_making}
use Rattle.krb_files.specs.Granted.{Granted}
use Rattle.krb_tokens.specs.declared.done.MechDone.{MechDone}
use Rattle.krb_tokens.specs.declared.end.Side.TheVariants.{Initiator, Acceptor}
use Rattle.ap_exchange.specs.declared.judged.Judged.{Judged}
use Rattle.ap_exchange.specs.declared.request.ApInit.{ApInit}
use Rattle.ap_exchange.specs.Draws.{drawn_nonce}
use Rattle.ap_exchange.specs.Answer.{answer_done, answer_making}
use Rattle.ap_exchange.specs.Judging.{client_granted}
use Rattle.ap_exchange.specs.Keys.{authenticator_usage}
use Rattle.ap_exchange.specs.Laws.{JudgesBy}
use Rattle.ap_exchange.specs.Reply.{reply_taken, reply_found}
use Rattle.ap_exchange.specs.Request.{request_making}
use Rattle.scram_mech.specs.Acceptor.{AcceptModel, AcceptFinished, accept_finished}
use Rattle.scram_mech.specs.Initiator.{InitModel, WaitModel, InitAnswered, InitFinished, init_answered, init_finished}
use Rattle.scram_mech.specs.MechMaking.{MechMaking, AmongMakings, typed}
use Rattle.spnego_core.specs.declared.outcome.Outcome.{Outcome}
use Rattle.spnego_core.specs.AcceptLaws.{IsOfLine}
use Rattle.spnego_core.specs.AcceptMech.{ByRequest, ByProof}
use Rattle.spnego_core.specs.Choice.{best, is_first}
use Rattle.spnego_core.specs.InitLaws.{own_of, chosen_of, listed_of, finished_of, answers_next, GoodInit, IsWaiting, IsFirstText, IsProved, Covered}
use Rattle.spnego_core.specs.InitMech.{kinds_of, is_own_list, ticket_for}
use Rattle.spnego_core.specs.Initiating.{own_list}
use Rattle.spnego_core.specs.ListMic.{is_list_mic, mic_making, mic_found}
use Rattle.spnego_core.specs.Outcome.{outcome_of}
use Rattle.context_table.specs.Places.{slot_at}
use Rattle.accept_book.specs.declared.book_answer.Lease.{Lease}
use Rattle.accept_core.specs.declared.entry.Entry.TheVariants.{Settled}
use Rattle.accept_book.specs.Booking.{names_of}
use Rattle.accept_book.specs.BookLaws.{AllGood, Lasting, fixed_in}
use Rattle.accept_core.specs.History.{opened, entry_at}
use Rattle.accept_book.specs.RecordShown.{end_of}
use Rattle.accept_core.specs.Stepping.{Context as Slot, context_of}
use Rattle.spnego_core.specs.declared.accept_end.AcceptEnd.{AcceptEnd}
use Rattle.spnego_core.specs.Ends.{PlainSetup, EndSays}
use Rattle.gss_client.specs.Session.{SessionState}
use Rattle.world_laws.specs.Stages.{StageSays}
use Rattle.world_laws.specs.Stages as stages
pub use Rattle.world_laws.specs.Agreement.{FixedAs, WasOpened, HasAuthEntry}
pub use Rattle.world_laws.specs.Below.{Below}
use Rattle.world_laws.specs.State.{InHand, Context, World}
use Rattle.told_apart.specs.Apart.{NoList}
use Rattle.world_laws.specs.Initiators.{call_makings}
use Rattle.world_laws.specs.Lanes.{result_makings}
use Rattle.world_laws.specs.Events.{IsBook}
use Rattle.world_laws.specs.Premises.{Marking, GuardedSession, GuardedSecret, OnGuarded, WasMade, WasIssued, HasTicket, HasAccount, Completed}

-- ---- initiators

-- each end is good, and of the facts at its place
pub record Known (w : World) : Type 0 where
  pub sized : (i : ℕ) (own : PlainSetup) → slice_get w.facts i ≡ Some own → is_own_list own.list ≡ true
  pub ready : (i : ℕ) (own : PlainSetup) → slice_get w.stages i ≡ Some (stages.Ready own) → slice_get w.facts i ≡ Some own
  pub asks : (i xid : ℕ) (end : EndSays) → slice_get w.stages i ≡ Some (stages.Asks xid end) → (slice_get w.facts i ≡ Some (own_of end)) × GoodInit end
  pub placed : (i : ℕ) (stage : StageSays) → slice_get w.stages i ≡ Some stage → (own : PlainSetup) × (slice_get w.facts i ≡ Some own)

-- ---- contexts

pub record Held (w : World) : Type 0 where
  pub book : IsBook w.book
  pub good : AllGood w.book.setup w.book.core.table
  -- what a live context has fixed was fixed, and the reverse
  pub slots : (id : ℕ) (context : Slot AcceptEnd Outcome) (lasting : Lasting) → context_of (slot_at w.book.core.table id) ≡ Some context → fixed_in (Some context) ≡ Some lasting
      → FixedAs w id lasting.outcome lasting.ends
  pub live : (place : ℕ) (x : Context) (context : Slot AcceptEnd Outcome) → slice_get w.fixed place ≡ Some x → context_of (slot_at w.book.core.table x.id) ≡ Some context
      → fixed_in (Some context) ≡ Some (record { outcome = x.fixed.outcome; ends = x.fixed.lasts })
  -- its id was opened, and is its own
  pub opened_id : (place : ℕ) (x : Context) → slice_get w.fixed place ≡ Some x → x.id ≤ opened w.book.core.history
  pub opened_at : (place : ℕ) (x : Context) → slice_get w.fixed place ≡ Some x → WasOpened w.book.core.history x.id
  pub ids : (i j : ℕ) (x y : Context) → slice_get w.fixed i ≡ Some x → slice_get w.fixed j ≡ Some y → x.id ≡ y.id → i ≡ j
  pub auths : (place : ℕ) (x : Context) (request : Judged) → slice_get w.fixed place ≡ Some x → x.fixed.basis ≡ ByRequest request → HasAuthEntry w x request
  -- a context that was settled was fixed, with the names in the log
  pub settled : (place id : ℕ) (mech : MechKind) (names : List ℕ) (ends at : ℕ) → entry_at place w.book.core.history ≡ Some (Settled id mech names ends at)
      → (outcome : Outcome) × FixedAs w id outcome ends × (outcome.mech ≡ mech) × (names_of outcome ≡ names)
  -- a lease in hand is of a context that was fixed
  pub leases : (lane : ℕ) (hand : InHand) (lease : Lease) → slice_get w.lanes lane ≡ Some (Some hand) → hand.kept.looked ≡ Some (Ok lease) → FixedAs w lease.id lease.outcome lease.ends
  pub best_is : (place : ℕ) (x : Context) → slice_get w.fixed place ≡ Some x → best w.book.setup.offer x.fixed.received ≡ Some x.fixed.outcome.mech

-- ---- who handed out what

pub record MadeRequest (own : PlainSetup) (making : MechMaking) : Type 0 where
  pub credential : Granted
  pub is_own : ticket_for own.list ≡ Some credential
  pub made : making ≡ typed (request_making credential own.stamp own.draws own.bindings)

pub record MadeProof (own : PlainSetup) (making : MechMaking) : Type 0 where
  pub end : InitModel
  pub first : IsFirstText own end
  pub text : List ℕ
  pub answered : InitAnswered
  pub answers : init_answered end text ≡ Ok answered
  pub made : AmongMakings answered.makes making

-- the MIC over the own list
pub record MadeListMic (own : PlainSetup) (making : MechMaking) : Type 0 where
  pub outcome : Outcome
  pub made : making ≡ mic_making outcome Initiator (own_list own)

pub record MadeCall (w : World) (i : ℕ) (own : PlainSetup) (making : MechMaking) : Type 0 where
  pub session : SessionState
  pub completed : Completed w i own session.outcome
  pub procedure : ℕ
  pub args : List ℕ
  pub made : AmongMakings (map typed (call_makings session procedure args)) making

abbrev pub InitMade : World → ℕ → PlainSetup → MechMaking → Type 0
InitMade w i own making = MadeRequest own making ⊎ (MadeProof own making ⊎ (MadeListMic own making ⊎ MadeCall w i own making))

pub record ByInitiator (w : World) (making : MechMaking) : Type 0 where
  pub i : ℕ
  pub own : PlainSetup
  pub there : slice_get w.facts i ≡ Some own
  pub made : InitMade w i own making

pub record MadeAnswer (x : Context) (making : MechMaking) : Type 0 where
  pub request : Judged
  pub draws : List ℕ
  pub basis : x.fixed.basis ≡ ByRequest request
  pub outcome_is : x.fixed.outcome ≡ outcome_of kinds.Kerberos (answer_done request draws)
  pub made : making ≡ typed (answer_making request draws)

pub record MadeSignature (x : Context) (making : MechMaking) : Type 0 where
  pub end : AcceptModel
  pub text : List ℕ
  pub bindings : Option (List ℕ)
  pub now : ℕ
  pub finished : AcceptFinished
  pub basis : x.fixed.basis ≡ ByProof end text
  pub finishes : accept_finished end text bindings now ≡ Ok finished
  pub outcome_is : x.fixed.outcome ≡ outcome_of kinds.Scram finished.done
  pub made : AmongMakings finished.makes making

-- the MIC over the list that came
pub record MadeAcceptMic (x : Context) (making : MechMaking) : Type 0 where
  pub made : making ≡ mic_making x.fixed.outcome Acceptor x.fixed.received

pub record MadeResult (x : Context) (making : MechMaking) : Type 0 where
  pub lease : Lease
  pub outcome_is : x.fixed.outcome ≡ lease.outcome
  pub service : ℕ
  pub seq : ℕ
  pub result : List ℕ
  pub apart : NoList result
  pub made : AmongMakings (map typed (result_makings (end_of lease) service seq result)) making

abbrev pub ContextMade : Context → MechMaking → Type 0
ContextMade x making = MadeAnswer x making ⊎ (MadeSignature x making ⊎ (MadeAcceptMic x making ⊎ MadeResult x making))

pub record ByContext (w : World) (making : MechMaking) : Type 0 where
  pub place : ℕ
  pub context : Context
  pub there : slice_get w.fixed place ≡ Some context
  pub made : ContextMade context making

pub record Owning (w : World) : Type 0 where
  pub owned : (making : MechMaking) → AmongMakings w.makings making → ByInitiator w making ⊎ ByContext w making

-- ---- what was found verified stays

-- a context on a request: the request was judged; where its session key is guarded, its authenticator was handed out; its ticket was issued
pub record KrbFixed (marking : Marking) (w : World) (x : Context) (request : Judged) : Type 0 where
  pub draws : List ℕ
  pub outcome_is : x.fixed.outcome ≡ outcome_of kinds.Kerberos (answer_done request draws)
  pub token : List ℕ
  pub by : JudgesBy w.book.setup.keytab w.book.setup.own w.book.setup.bindings token request
  pub handed_out : GuardedSession marking request.session → WasMade w (typed (sealed_making request.session authenticator_usage by.x.octets))
  pub issued : WasIssued marking (record { service = by.x.service; client = client_granted by.x.part; session = by.x.session })

-- a context on a proof: where the line's stored key is guarded, the proof was handed out
pub record ScramFixed (marking : Marking) (w : World) (x : Context) (end : AcceptModel) (text : List ℕ) : Type 0 where
  pub line : IsOfLine w.book.setup.verifiers end
  pub now : ℕ
  pub finished : AcceptFinished
  pub finishes : accept_finished end text w.book.setup.bindings now ≡ Ok finished
  pub outcome_is : x.fixed.outcome ≡ outcome_of kinds.Scram finished.done
  pub handed_out : GuardedSecret marking end.line.stored → (making : MechMaking) → AmongMakings finished.found making → WasMade w making

-- an initiator whose mechanism is done, by a reply or by a signature; where the key is guarded, that was handed out
pub record KrbDone (marking : Marking) (w : World) (own : PlainSetup) (outcome : Outcome) : Type 0 where
  pub end : ApInit
  pub waits : IsWaiting own end
  pub token : List ℕ
  pub done : MechDone
  pub takes : reply_taken end token ≡ Ok done
  pub outcome_is : outcome ≡ outcome_of kinds.Kerberos done
  pub handed_out : GuardedSession marking end.session → (making : MechMaking) → AmongMakings (map typed (reply_found end token)) making → WasMade w making

pub record ScramDone (marking : Marking) (w : World) (own : PlainSetup) (outcome : Outcome) : Type 0 where
  pub end : WaitModel
  pub proved : IsProved own end
  pub token : List ℕ
  pub finished : InitFinished
  pub takes : init_finished end token ≡ Ok finished
  pub outcome_is : outcome ≡ outcome_of kinds.Scram finished.done
  pub handed_out : GuardedSecret marking end.server → (making : MechMaking) → AmongMakings finished.found making → WasMade w making

abbrev pub MechFinished : Marking → World → PlainSetup → Outcome → Type 0
MechFinished marking w own outcome = KrbDone marking w own outcome ⊎ ScramDone marking w own outcome

-- the acceptor's MIC over the own list was verified; where the initiator is on a guarded key, it was handed out
pub record SawList (marking : Marking) (w : World) (own : PlainSetup) (outcome : Outcome) : Type 0 where
  pub mic : List ℕ
  pub right : is_list_mic outcome Initiator (own_list own) mic ≡ true
  pub handed_out : OnGuarded marking own outcome.mech → WasMade w (mic_found outcome Initiator (own_list own) mic)

pub record Found (marking : Marking) (w : World) : Type 0 where
  pub requests : (place : ℕ) (x : Context) (request : Judged) → slice_get w.fixed place ≡ Some x → x.fixed.basis ≡ ByRequest request → KrbFixed marking w x request
  pub proofs : (place : ℕ) (x : Context) (end : AcceptModel) (text : List ℕ) → slice_get w.fixed place ≡ Some x → x.fixed.basis ≡ ByProof end text → ScramFixed marking w x end text
  pub signed : (i xid : ℕ) (end : EndSays) (outcome : Outcome) → slice_get w.stages i ≡ Some (stages.Asks xid end) → finished_of end ≡ Some outcome → MechFinished marking w (own_of end) outcome
  pub completed : (i : ℕ) (own : PlainSetup) (outcome : Outcome) → Completed w i own outcome → MechFinished marking w own outcome
  -- the acceptor's MIC over the own list
  pub signed_list : (i xid : ℕ) (end : EndSays) (outcome : Outcome) → slice_get w.stages i ≡ Some (stages.Asks xid end) → finished_of end ≡ Some outcome → listed_of end ≡ true → SawList marking w (own_of end) outcome
  pub covered : (i : ℕ) (own : PlainSetup) (outcome : Outcome) → Completed w i own outcome → Covered own outcome.mech false ⊎ SawList marking w own outcome

-- ---- an initiator hands out one proof, and only by the mechanism that was chosen

-- what is used of freshness on the way: the facts of initiators stay as they are
pub record FreshFacts (w : World) : Type 0 where
  pub stamps : (i j : ℕ) (own other : PlainSetup) (c d : Granted) → HasTicket w i own c → HasTicket w j other d → c.session ≡ d.session → own.stamp ≡ other.stamp → i ≡ j
  pub nonces : (i j : ℕ) (own other : PlainSetup) (a p b q : List ℕ) → HasAccount w i own a p → HasAccount w j other b q → drawn_nonce own.draws ≡ drawn_nonce other.draws → i ≡ j

-- the own first mechanism is Kerberos, or it was chosen
abbrev pub MayAsk : PlainSetup → Option MechKind → Type 0
MayAsk own chosen = (is_first (kinds_of own.list) kinds.Kerberos ≡ true) ⊎ (chosen ≡ Some kinds.Kerberos)

pub record Once (w : World) : Type 0 where
  pub proofs : (i : ℕ) (own : PlainSetup) (making other : MechMaking) → slice_get w.facts i ≡ Some own → AmongMakings w.makings making → AmongMakings w.makings other
      → MadeProof own making → MadeProof own other → making ≡ other
  -- an initiator that wasn't started has handed nothing out
  pub unproved : (i : ℕ) (own : PlainSetup) (making : MechMaking) → slice_get w.stages i ≡ Some (stages.Ready own) → AmongMakings w.makings making → MadeProof own making → ⊥
  pub unasked : (i : ℕ) (own : PlainSetup) (making : MechMaking) → slice_get w.stages i ≡ Some (stages.Ready own) → AmongMakings w.makings making → MadeRequest own making → ⊥
  -- one whose proof is out hands out no other, and has chosen SCRAM
  pub proved : (i xid : ℕ) (end : EndSays) (making : MechMaking) → slice_get w.stages i ≡ Some (stages.Asks xid end) → AmongMakings w.makings making → MadeProof (own_of end) making
      → (answers_next end ≡ None) × (chosen_of end ≡ Some kinds.Scram)
  pub done_proved : (i : ℕ) (own : PlainSetup) (outcome : Outcome) (making : MechMaking) → Completed w i own outcome → AmongMakings w.makings making → MadeProof own making → outcome.mech ≡ kinds.Scram
  -- one whose request is out has Kerberos first, or has chosen it
  pub asked : (i xid : ℕ) (end : EndSays) (making : MechMaking) → slice_get w.stages i ≡ Some (stages.Asks xid end) → AmongMakings w.makings making → MadeRequest (own_of end) making
      → MayAsk (own_of end) (chosen_of end)
  pub done_asked : (i : ℕ) (own : PlainSetup) (outcome : Outcome) (making : MechMaking) → Completed w i own outcome → AmongMakings w.makings making → MadeRequest own making
      → MayAsk own (Some outcome.mech)

-- ---- all of it

pub record Kept (marking : Marking) (w : World) : Type 0 where
  pub known : Known w
  pub held : Held w
  pub owning : Owning w
  pub found : Found marking w
  pub once : Once w
