-- What a program sees of an exchange that it carries.
-- It isn't needed to read the headline.
use Rattle.std.specs.Prelude.{◌≡◌, ℕ, ◌==◌, Bool, true, false, List, Option, Some, None}
use Rattle.accept_book.specs.declared.book_answer.Lease.{Lease}
use Rattle.accept_book.specs.declared.rule.Rule.TheVariants.{Lost}
use Rattle.accept_book.specs.Rules.{rule_number}
use Rattle.accept_book.specs.Honest.{HonestLaw}
use Rattle.gss_client.specs.Session.{SessionState}
use Rattle.world_laws.specs.declared.event.Happened.{Happened}
use Rattle.world_laws.specs.declared.event.Happened.TheVariants.{Sent, Completed, Stepped, Refused}
use Rattle.world_laws.specs.declared.event.Happened.TheVariants.{Nothing}
use Rattle.world_laws.specs.declared.event.WorldEvent.TheVariants.{Deliver, Lane}
use Rattle.world_laws.specs.Stages.{StageSays}
use Rattle.world_laws.specs.Stages as stages
use Rattle.world_runs.specs.Objects.{StageMeans}
use Rattle.world_runs.specs.Objects as objects
use Rattle.world_runs.specs.Showing.{Shown, Steps}

-- the calls of a session whose key is this are answered as the law of honest calls says
abbrev pub RulesCalls : Option StageSays → Type 0
RulesCalls stage = (s : SessionState) (lease : Lease) → stage ≡ Some (stages.Stands s)
    → lease.outcome.key ≡ s.outcome.key → HonestLaw lease

-- the same of an initiator over objects whose context stands
abbrev pub RulesAt : StageMeans → Type 0
RulesAt stage = (s : SessionState) (lease : Lease) → stage ≡ objects.Stands s
    → lease.outcome.key ≡ s.outcome.key → HonestLaw lease

-- ---- what an event handed out

-- the record that was handed out, where one was
abbrev pub sent_in : Happened → Option (List ℕ)
sent_in (Sent octets) = Some octets
sent_in (Completed outcome) = None
sent_in (Stepped rule) = None
sent_in Refused = None
sent_in Nothing = None

-- a record's reply was handed out, or the record was ended without one, since what became of its
-- call isn't known
abbrev pub taken_in : Happened → Bool
taken_in (Sent octets) = true
taken_in (Completed outcome) = false
taken_in (Stepped rule) = rule == rule_number Lost
taken_in Refused = false
taken_in Nothing = false

-- the initiator's context stands
abbrev pub completed_in : Happened → Bool
completed_in (Sent octets) = false
completed_in (Completed outcome) = true
completed_in (Stepped rule) = false
completed_in Refused = false
completed_in Nothing = false

-- ---- a turn

-- a record came to the first lane with this moment and these draws, and the reply to it, where it
-- had one, to the first initiator, whose session's first call has number 1
pub record IsTurn (octets : List ℕ) (now : ℕ) (draws : List ℕ) (happened : Happened)
    (old new : Shown) : Type 0 where
  pub answered : Happened
  pub between : Shown
  pub comes : Steps (Lane 0 octets now draws) (Some answered) old between
  pub goes : (reply : List ℕ) → sent_in answered ≡ Some reply
      → Steps (Deliver 0 reply 1) (Some happened) between new
