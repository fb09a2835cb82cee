-- The completeness of the pair.
use Rattle.std.specs.Prelude.{◌≡◌, ◌⊎◌, ℕ, ◌+◌, List, [], ◌∷◌, length, Some, Result, Ok, Err}
use Rattle.std.specs.List.{flat_map}
use Rattle.sec_base.specs.Link.{Wire}
use Rattle.rpc_msgs.specs.Records.{last_fragment}
use Rattle.spnego_core.specs.declared.setup.AcceptSetup.{AcceptSetup}
use Rattle.spnego_core.specs.declared.accept_end.AcceptEnd.{AcceptEnd}
use Rattle.spnego_core.specs.declared.outcome.Outcome.{Outcome}
use Rattle.accept_core.specs.Replays.{Accepting}
use Rattle.accept_book.specs.RecordShown.{KeptAnswers, handle_of}
use Rattle.accept_book.specs.RecordRule.{record_ruling}
use Rattle.accept_book.specs.declared.book_answer.Lease.{Lease}
use Rattle.accept_book.specs.declared.book_answer.Negotiated.{Negotiated}
use Rattle.accept_book.specs.declared.book_answer.NegAnswer.TheVariants.{Settled}
use Rattle.gss_client.specs.declared.refusal.ClientRefusal.{ClientRefusal}
use Rattle.gss_client.specs.declared.refusal.ClientRefusal.TheVariants.{LinkFault, NoMemory}
use Rattle.gss_client.specs.Start.{StartSays}
use Rattle.gss_client.specs.Exchanging.{Talks}
use Rattle.gss_client.specs.Session.{SessionState}
use Rattle.gss_client.specs.Talk.{begun, created_from}
use Rattle.gss_client.specs.Talking.{said}
use Rattle.pair_laws.specs.Answering.{Server}
use Rattle.pair_laws.specs.Conversing.{IsStream}
use Rattle.pair_laws.specs.Booked.{Around, id_in}
use Rattle.pair_laws.specs.Live.{lease_on, IsWhole}
use Rattle.pair_laws.specs.Honest.{HonestExchange}

-- the record was answered by the rule of a context that is complete, and the book settled it so
pub record IsSettled (serves : Server) (lease : Lease) (octets : List ℕ) (kept : KeptAnswers)
    : Type 0
  where
    pub answer : Negotiated
    pub is_kept : kept.negotiated ≡ Some answer
    pub token : List ℕ
    pub settled : answer.answer ≡ Settled lease token
    pub rule : (record_ruling octets kept serves.serving).rule ≡ 22

-- each record but the last was answered by the rule of a context that goes on, and with the last
-- the context was settled; there are as many answers as records
abbrev pub Settles : Server → Lease → List (List ℕ) → List KeptAnswers → Type 0
Settles serves lease [] kept = ⊥
Settles serves lease (octets ∷ records) [] = ⊥
Settles serves lease (last ∷ []) (one ∷ []) = IsSettled serves lease last one
Settles serves lease (last ∷ []) (one ∷ two ∷ kept) = ⊥
Settles serves lease (octets ∷ next ∷ records) (one ∷ kept) =
    ((record_ruling octets one serves.serving).rule ≡ 21) × Settles serves lease
    (next ∷ records) kept

-- this is the book as the last of these answers left it
abbrev pub IsBehind : List KeptAnswers → List Around → Accepting AcceptEnd Outcome → Type 0
IsBehind [] books core = ⊥
IsBehind (one ∷ answers) [] core = ⊥
IsBehind (last ∷ []) (book ∷ books) core = core ≡ book.after
IsBehind (one ∷ two ∷ answers) (book ∷ books) core = IsBehind (two ∷ answers) books core

-- both ends are done with one outcome, by the chosen mechanism: the book settled its next context
-- with it, and has it so; the session stands on it, with the context's handle; its records are
-- those of the creation, its transaction number is the next, and the rest of the stream is left
pub record Completes (setup : AcceptSetup) (serves : Server) (start : StartSays) (stream : List ℕ)
    (x : HonestExchange setup serves start stream) : Type 0 where
  pub outcome : Outcome
  pub lasts : ℕ
  pub mech : outcome.mech ≡ x.kind
  pub settles : Settles serves (lease_on (id_in x.books) outcome lasts) x.converses.records
      x.answers
  pub core : Accepting AcceptEnd Outcome
  pub behind : IsBehind x.answers x.books core
  pub whole : IsWhole core (lease_on (id_in x.books) outcome lasts)
  pub session : created_from start stream ≡ said (flat_map last_fragment x.converses.records)
      (Ok (begun start.terms start.first (1 + length x.answers) outcome
      (handle_of (id_in x.books)))) x.converses.rest

-- what came of a creation: the session, or the link's fault or want of memory
abbrev pub CameTo : Result SessionState ClientRefusal → SessionState → Type 0
CameTo result session = (result ≡ Ok session) ⊎ (result ≡ Err LinkFault) ⊎ (result ≡ Err NoMemory)

-- an honest pair completes by its records, and so does a session's creation over a link
pub record PairLaw : Type 0 where
  -- an honest exchange completes
  pub completes : (setup : AcceptSetup) (serves : Server) (start : StartSays) (stream : List ℕ)
      → (x : HonestExchange setup serves start stream) → Completes setup serves start stream x
  -- so does the creation of a session over a link that has these octets to come
  pub over_a_link : (setup : AcceptSetup) (serves : Server) (start : StartSays) (stream : List ℕ)
      → (x : HonestExchange setup serves start stream) → (c : Completes setup serves start stream x)
      → (old new : Wire) (result : Result SessionState ClientRefusal) → IsStream old new stream
      → Talks (created_from start) old new result
      → CameTo result
      (begun start.terms start.first (1 + length x.answers) c.outcome (handle_of (id_in x.books)))
