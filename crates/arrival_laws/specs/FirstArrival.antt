-- First arrival: an honest call that comes to a lane without a record, of a context that lives, is
-- done by two events of the lane.
use Rattle.std.specs.Prelude.{◌≡◌, ◌≢◌, ◌⊎◌, ℕ, ◌≤◌, true, List, ◌∷◌, slice_get, Some, None, Ok}
use Rattle.std.specs.List.{AllByRecursion}
use Rattle.sha1.specs.Sha1.{sha1}
use Rattle.krb_tokens.specs.declared.end.Side.TheVariants.{Initiator}
use Rattle.spnego_core.specs.declared.outcome.Outcome.{Outcome}
use Rattle.spnego_core.specs.Outcome.{token_end}
use Rattle.accept_core.specs.Answers.{Free}
use Rattle.accept_core.specs.History.{standing, is_whole}
use Rattle.accept_core.specs.declared.entry.Entry.TheVariants.{Call}
use Rattle.rpc_program.specs.Programs.{Serving}
use Rattle.accept_book.specs.declared.book_answer.Admitted.{Admitted}
use Rattle.accept_book.specs.declared.book_answer.Lease.{Lease}
use Rattle.accept_book.specs.declared.rule.Rule.TheVariants as rules
use Rattle.accept_book.specs.Honest.{Honest, rule_of_outcome}
use Rattle.accept_book.specs.RecordRule.{record_ruling}
use Rattle.accept_book.specs.RecordShown.{Ruling, handle_id}
use Rattle.accept_book.specs.Rules.{rule_number}
use Rattle.honest_calls.specs.HonestCalls.{HasOctets}
use Rattle.gss_server.specs.Answers.{IsDecided}
use Rattle.world_laws.specs.declared.event.Happened.TheVariants.{Sent, Stepped}
use Rattle.world_laws.specs.declared.event.WorldEvent.{WorldEvent}
use Rattle.world_laws.specs.declared.event.WorldEvent.TheVariants.{Start, Deliver, Lane, CallBy}
use Rattle.world_laws.specs.Agreement.{FixedAs}
use Rattle.world_laws.specs.Arrival.{TakesInHand}
use Rattle.world_laws.specs.Deeds.{Deed}
use Rattle.world_laws.specs.Events.{Happens, Run, Begins}
use Rattle.world_laws.specs.State.{World}

-- an honest call of the served program comes to a lane that has no record in hand, of a context.
-- The acceptor fixed the context with this outcome, until this moment; by the log it is settled and
-- not ended; and the moment of the call is in its time
pub record Comes (w : World) (lane : ℕ) (octets : List ℕ) (now : ℕ) (outcome : Outcome)
    (id ends n procedure : ℕ) (args : List ℕ) : Type 0 where
  pub idle : slice_get w.lanes lane ≡ Some None
  pub fixed : FixedAs w id outcome ends
  pub lives : is_whole (standing id w.book.core.history) ≡ true
  pub timely : now ≤ ends
  pub honest : Honest w.serves.program octets (token_end outcome Initiator) n procedure args
  pub handle : handle_id honest.cred.context ≡ Some id
  -- as the octets of each key that a program has
  pub key : HasOctets outcome.key

-- what a record with this moment and these draws comes to, whose context was shown by this lease,
-- and whose call was admitted so
abbrev pub admitted_ruling : Serving → List ℕ → ℕ → List ℕ → Lease → Admitted → Ruling
admitted_ruling serves octets now draws lease admitted = record_ruling octets (record {
  now = now;
  draws = draws;
  negotiated = None;
  looked = Some (Ok lease);
  admitted = Some (Ok admitted);
  ended = None;
}) serves

-- a call was done: it was admitted by a lease of its context, the rule of what became of it
-- decides, and the log has it. By rule 23 its reply was sent; else nothing is known of it, and none
-- was
pub record IsDone (old : World) (deed : Deed) (new : World) (octets : List ℕ) (now : ℕ)
    (draws : List ℕ) (id n procedure : ℕ) (args : List ℕ) : Type 0 where
  pub lease : Lease
  pub shows : lease.id ≡ id
  pub admitted : Admitted
  pub ruling : Ruling
  pub is_ruling : ruling ≡ admitted_ruling old.serves octets now draws lease admitted
  pub rule : ruling.rule ≡ rule_of_outcome admitted.outcome
  pub decided : IsDecided ruling
  pub sent : ruling.rule ≡ rule_number rules.Done → (reply : List ℕ)
      × (ruling.reply ≡ Some reply) × (deed.answer ≡ Some (Sent reply))
  pub lost : ruling.rule ≡ rule_number rules.Lost
      → deed.answer ≡ Some (Stepped (rule_number rules.Lost))
  pub logged : new.book.core.history
      ≡ Call id n procedure (sha1 args) ∷ old.book.core.history

-- not an event of this lane
abbrev pub IsElsewhere : ℕ → WorldEvent → Type 0
IsElsewhere lane (Start i) = Unit {0}
IsElsewhere lane (Deliver i octets first) = Unit {0}
IsElsewhere lane (Lane other octets now draws) = other ≢ lane
IsElsewhere lane (CallBy i procedure args) = Unit {0}

-- whatever happens elsewhere meanwhile, the next event of the lane does the call, unless memory is
-- wanted: where the context still isn't ended, the number is at most 0x80000000, above the floor of
-- the context's window and wasn't called, and the log has a place (`Free`)
abbrev pub TakesNext : World → ℕ → List ℕ → ℕ → List ℕ → ℕ → ℕ → ℕ → List ℕ → Type 0
TakesNext looked lane octets now draws id n procedure args =
    (between : List WorldEvent) (late : World) → Run looked between late
    → AllByRecursion (IsElsewhere lane) between
    → Free late.book.core.limit late.book.core.width late.book.core.history id n
    → (others : List ℕ) (moment : ℕ) (drawn : List ℕ) (deed : Deed) (new : World)
    → Happens late (Lane lane others moment drawn) deed new
    → (deed.answer ≡ None) ⊎ IsDone late deed new octets now draws id n procedure args

-- so it is at each point of each run: the lane's event with the call looks for its context, and the
-- lane's next event does it, unless memory is wanted in one of them
abbrev pub FirstArrivalLaw : Type 0
FirstArrivalLaw = (start : World) (earlier : List WorldEvent) (w : World) → Begins start
    → Run start earlier w → (lane : ℕ) (octets : List ℕ) (now : ℕ) (draws : List ℕ)
    (outcome : Outcome) (id ends n procedure : ℕ) (args : List ℕ)
    → Comes w lane octets now outcome id ends n procedure args → (deed : Deed) (looked : World)
    → Happens w (Lane lane octets now draws) deed looked
    → (deed.answer ≡ None) ⊎ TakesNext looked lane octets now draws id n procedure args

-- ---- a call that is in hand already

-- in every world a call that a lane has in hand, whatever lease showed its context, is done by the
-- lane's next event
abbrev pub ArrivalInHandLaw : Type 0
ArrivalInHandLaw = (lease : Lease) → HasOctets lease.outcome.key → TakesInHand lease
