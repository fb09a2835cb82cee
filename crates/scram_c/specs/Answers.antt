-- What an export answers, by what the handle held.
use Rattle.std.specs.Prelude.{◌≡◌, ◌≢◌, ℕ, ◌+◌, ◌%◌, ◌^◌, List, [], ◌++◌, drop, length}
use Rattle.std.specs.Prelude.{Option, Some, None, Result, Ok, Err, nat_eq, nat_lt, min}
use Rattle.std.specs.Prelude.{if◌then◌else◌}
use Rattle.sec_base.specs.Moment.{greatest_moment}
use Rattle.scram_mech.specs.declared.refusal.ScramRefusal.{ScramRefusal}
use Rattle.scram_mech.specs.declared.refusal.VerifierRefusal.{VerifierRefusal}
use Rattle.scram_mech.specs.declared.refusal.VerifierRefusal.TheVariants as lines
use Rattle.scram_mech.specs.declared.verifiers.Verifier.{Verifier}
use Rattle.scram_mech.specs.Initiator.{InitStarted, init_started}
use Rattle.scram_c.specs.declared.status.Status.{Status}
use Rattle.scram_c.specs.declared.status.Status.TheVariants as statuses
use Rattle.scram_c.specs.declared.exchange.Standing.{Standing}
use Rattle.scram_c.specs.declared.exchange.Stage.{Stage}
use Rattle.scram_c.specs.declared.exchange.Stage.TheVariants as stages
use Rattle.scram_c.specs.declared.exchange.Exchange.{Exchange}
use Rattle.scram_c.specs.declared.exchange.Went.{Went}
use Rattle.scram_c.specs.Status.{status_number, no_memory}
use Rattle.scram_c.specs.Steps.{stepped, changed}

-- a status, and what the handle holds then
pub record Answer (A : Type 0) : Type 0 where
  pub status : Status
  pub held : Option A

-- the number of an answer and what the handle holds are those of the definition. Want of memory
-- alone is free, and leaves the handle as it was
pub record Comes {A : Type 0} (result : ℕ) (old new : Option A) (answer : Answer A) : Type 0 where
  pub told : result ≢ no_memory → result ≡ status_number answer.status
  pub held : result ≢ no_memory → new ≡ answer.held
  pub kept : result ≡ no_memory → new ≡ old

-- the handle stays as it was
abbrev pub stays : {A : Type 0} → Option A → Status → Answer A
stays old status = record { status = status; held = old }

-- application data of channel bindings, of which empty ones are none
abbrev pub given : List ℕ → Option (List ℕ)
given application = if nat_eq (length application) 0 then None else Some application

-- application data that an exchange may carry have so many octets at most
abbrev pub most_bindings : ℕ
most_bindings = 32768

-- ---- beginning

-- an exchange whose first token is to be sent
abbrev pub begun_with : Option Exchange → Option (List ℕ) → Result InitStarted ScramRefusal
    → Answer Exchange
begun_with old bindings (Ok begun) = record {
  status = statuses.More;
  held = Some (record {
    stage = stages.First begun.end;
    bindings = bindings;
    token = Some begun.token;
  });
}
begun_with old bindings (Err refusal) = stays old (statuses.Scram refusal)

-- an initiator's exchange, by user, password, drawn octets and bindings
abbrev pub begun : Option Exchange → List ℕ → List ℕ → List ℕ → List ℕ → Answer Exchange
begun old user password nonce application =
    if nat_lt most_bindings (length application) then stays old statuses.LongBindings
    else begun_with old (given application) (init_started user password nonce (given application))

-- an acceptor to whom nothing came
abbrev pub awaiting : Option Exchange → List ℕ → Answer Exchange
awaiting old application =
    if nat_lt most_bindings (length application) then stays old statuses.LongBindings
    else record {
      status = statuses.Done;
      held = Some (record { stage = stages.Due; bindings = given application; token = None });
    }

-- ---- a step

abbrev pub went_in : Exchange → Went → Answer Exchange
went_in exchange went = record { status = went.status; held = Some (changed exchange went) }

abbrev pub step_answer : Option Exchange → Option (List Verifier) → List ℕ → ℕ → List ℕ
    → Answer Exchange
step_answer None users token micros nonce = stays None statuses.Empty
step_answer (Some exchange) users token micros nonce =
    went_in exchange (stepped exchange users token (min micros greatest_moment) nonce)

-- ---- octets that are handed out

-- where there is too little room for the octets, the answer says so
abbrev pub room_status : List ℕ → List ℕ → Status
room_status room octets = if nat_lt (length room) (length octets) then statuses.NoRoom
    else statuses.Done

-- the octets stand at the front of the room, the rest of which is as it was
abbrev pub put_into : List ℕ → List ℕ → List ℕ
put_into room octets = if nat_lt (length room) (length octets) then room
    else octets ++ drop (length octets) room

-- the token that is to be sent
abbrev pub token_of : Option Exchange → Option (List ℕ)
token_of None = None
token_of (Some exchange) = exchange.token

-- the octets of a token, none where there is none
abbrev pub octets_in : Option (List ℕ) → List ℕ
octets_in None = []
octets_in (Some octets) = octets

-- ---- a context that stands

abbrev pub context_in : Stage → Option Standing
context_in (stages.First end) = None
context_in (stages.Wait end) = None
context_in stages.Due = None
context_in (stages.Accept end) = None
context_in (stages.Stands context) = Some context
context_in stages.Over = None

-- the context that a handle holds, where one stands
abbrev pub context_of : Option Exchange → Option Standing
context_of None = None
context_of (Some exchange) = context_in exchange.stage

-- an empty handle, or an exchange without a context
abbrev pub absent : Option Exchange → Status
absent None = statuses.Empty
absent (Some exchange) = statuses.NotDue

-- what is asked of a context that stands is done
abbrev pub standing_status : Option Exchange → Option Standing → Status
standing_status held None = absent held
standing_status held (Some context) = statuses.Done

-- octets of a context, which are handed out where one stands
abbrev pub handed_status : Option Exchange → List ℕ → Option (List ℕ) → Status
handed_status held room None = absent held
handed_status held room (Some octets) = room_status room octets

abbrev pub handed_room : List ℕ → Option (List ℕ) → List ℕ
handed_room room None = room
handed_room room (Some octets) = put_into room octets

abbrev pub handed_count : ℕ → Option (List ℕ) → ℕ
handed_count before None = before
handed_count before (Some octets) = length octets

-- the initiator's name
abbrev pub initiator_of : Option Standing → Option (List ℕ)
initiator_of None = None
initiator_of (Some context) = Some context.initiator

-- when a context ends, where one stands
abbrev pub ends_of : ℕ → Option Standing → ℕ
ends_of before None = before
ends_of before (Some context) = context.ends

-- one more token was made: the next has the next number, modulo 2^64
abbrev pub counted_in : Stage → Stage
counted_in (stages.First end) = stages.First end
counted_in (stages.Wait end) = stages.Wait end
counted_in stages.Due = stages.Due
counted_in (stages.Accept end) = stages.Accept end
counted_in (stages.Stands context) =
    stages.Stands (record context { number = (context.number + 1) % 2 ^ 64 })
counted_in stages.Over = stages.Over

abbrev pub counted : Option Exchange → Option Exchange
counted None = None
counted (Some exchange) = Some (record exchange { stage = counted_in exchange.stage })

-- ---- verifiers

abbrev pub read_into : Option (List Verifier) → Result (List Verifier) VerifierRefusal
    → Answer (List Verifier)
read_into old (Ok users) = record { status = statuses.Done; held = Some users }
read_into old (Err (lines.Line number)) = stays old statuses.Line
read_into old (Err (lines.Twice number)) = stays old statuses.Twice
read_into old (Err lines.NoMemory) = stays old statuses.NoMemory
