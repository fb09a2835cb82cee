-- A run of the client against an honest server.
use Rattle.std.specs.Prelude.{◌≡◌, ℕ, ◌*◌, ◌<◌, ◌≤◌, ◌^◌, Bool, true, List, ◌++◌, length, replicate}
use Rattle.std.specs.Prelude.{Option, Some}
use Rattle.std.specs.List.{flat_map}
use Rattle.sec_base.specs.Link.{Wire}
use Rattle.rpc_msgs.specs.Records.{last_fragment}
use Rattle.seq_window.specs.Marks.{greatest}
use Rattle.spnego_core.specs.declared.setup.AcceptSetup.{AcceptSetup}
use Rattle.spnego_core.specs.declared.setup.MechCred.{MechCred}
use Rattle.spnego_core.specs.declared.outcome.Outcome.{Outcome}
use Rattle.accept_core.specs.History.{numbers}
use Rattle.accept_book.specs.Honest.{IsOctets}
use Rattle.rpcsec_bodies.specs.Service.{number_of}
use Rattle.rpc_program.specs.Programs.{ProgramSays}
use Rattle.posts_program.specs.Posts.{posts_says}
use Rattle.gss_client.specs.Start.{StartSays}
use Rattle.gss_client.specs.Exchanging.{Went}
use Rattle.client_options.specs.Command.{called_by}
use Rattle.client_options.specs.Endings.{end_of}
use Rattle.client_command.specs.Runs.{Drew, start_of}
use Rattle.client_options.specs.declared.command.Command.{Command}
use Rattle.client_options.specs.declared.command.Command.TheVariants.{Served, Numbered}
use Rattle.client_options.specs.declared.ending.RunEnd.{RunEnd}
use Rattle.client_options.specs.declared.words.Plan.{Plan}
use Rattle.pair_laws.specs.Answering.{Server}
use Rattle.pair_laws.specs.Booked.{id_in}
use Rattle.pair_laws.specs.Honest.{HonestExchange}
use Rattle.pair_laws.specs.Laws.{Completes}
use Rattle.pair_laws.specs.Live.{lease_on}
use Rattle.pair_laws.specs.Running.{Turn, sent_in, heard_in, Serves, Succeeds}
use Rattle.pair_laws.specs.Running.{results_in, calls_made, parting_of, Logged}

-- the words ask a procedure that the program has, with that procedure's arguments: by its name they
-- do so of the program of posts, by its number if these are so
abbrev pub AsksServer : ProgramSays → Command → List ℕ → Type 0
AsksServer program (Served procedure) args = program ≡ posts_says
AsksServer program (Numbered number) args = (number < 2 ^ 32) × (program.has number ≡ true)
    × (program.takes number args ≡ true)

-- an honest server answers the session of a plan by what was written and what came: its book
-- creates the context, of which `PairLaw` says how it completes, and then answers each record, as
-- `HonestRun` says; its results are results of what is asked; the words ask what its program has,
-- by a service that the procedure allows, and the confounders are octets
pub record HonestServer (start : StartSays) (plan : Plan)
    (confounders wrote stream : List ℕ) : Type 0 where
  pub setup : AcceptSetup
  pub serves : Server
  pub exchange : HonestExchange setup serves start stream
  pub created : Completes setup serves start stream exchange
  pub turns : List Turn
  pub rest : List ℕ
  pub written : wrote
      ≡ flat_map last_fragment exchange.converses.records ++ flat_map sent_in turns
  pub heard : exchange.converses.rest ≡ flat_map (heard_in serves) turns ++ rest
  pub served : Serves serves
      (lease_on (id_in exchange.books) created.outcome created.lasts) created.core turns
  pub unused : greatest (numbers (id_in exchange.books) created.core.history) < plan.first
  pub asks : AsksServer serves.serving.program plan.command plan.args
  pub protected : number_of (serves.serving.program.needs (called_by plan.command).number)
      ≤ number_of plan.terms.service
  pub succeeds : Succeeds serves created.outcome.initiator
      (record { query = called_by plan.command; args = plan.args })
  pub octets : IsOctets confounders

-- so it does, whatever the clock, the source of random octets and the link gave
abbrev pub Answers : Bool → List ℕ → List ℕ → Bool → List ℕ → List ℕ → Plan → List MechCred
    → Wire → Wire → Type 0
Answers clock moments moments' draw given given' plan creds old new =
    (stamp : ℕ) (draws confounders took wrote : List ℕ)
    → Drew clock moments moments' draw given given' stamp draws confounders
    → Went old new took wrote
    → HonestServer (start_of plan creds stamp draws) plan confounders wrote (took ++ new.coming)

-- the run agreed on the server's outcome, was answered what its calls came to, and ends with all of
-- them made or its numbers spent; 16 octets were drawn for each call; the server has each call in
-- its log, and has destroyed the context
pub record IsCompleted (start : StartSays) (plan : Plan) (confounders wrote stream : List ℕ)
    (h : HonestServer start plan confounders wrote stream) (outcome : Option Outcome)
    (results : List (List ℕ)) (end : RunEnd) : Type 0 where
  pub outcome_is : outcome ≡ Some h.created.outcome
  pub results_are : results ≡ results_in h.serves (replicate (calls_made plan.first plan.times)
      (record { query = called_by plan.command; args = plan.args }))
      h.created.outcome.initiator h.turns
  pub ends : end ≡ end_of (parting_of plan.first plan.times)
  pub drawn : length confounders ≡ 16 * calls_made plan.first plan.times
  pub logged : Logged h.serves
      (lease_on (id_in h.exchange.books) h.created.outcome h.created.lasts)
      (called_by plan.command).number plan.args (calls_made plan.first plan.times) plan.first
      h.turns

-- the run is complete by what the devices gave
pub record Completed (clock : Bool) (moments moments' : List ℕ) (draw : Bool)
    (given given' : List ℕ) (plan : Plan) (creds : List MechCred) (old new : Wire)
    (server : Answers clock moments moments' draw given given' plan creds old new)
    (outcome : Option Outcome) (results : List (List ℕ)) (end : RunEnd) : Type 0 where
  pub stamp : ℕ
  pub draws : List ℕ
  pub confounders : List ℕ
  pub took : List ℕ
  pub wrote : List ℕ
  pub drew : Drew clock moments moments' draw given given' stamp draws confounders
  pub went : Went old new took wrote
  pub completed : IsCompleted (start_of plan creds stamp draws) plan confounders wrote
      (took ++ new.coming) (server stamp draws confounders took wrote drew went) outcome results end
