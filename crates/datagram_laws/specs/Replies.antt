-- Replies to datagrams, and the calls that acted for them.
use Rattle.std.specs.Prelude.{◌≡◌, ℕ, false, ◌<◌, ◌≤◌, ◌*◌, ◌==◌, if◌then◌else◌, List, [], ◌∷◌, map}
use Rattle.std.specs.List.{AllByRecursion}
use Rattle.rpc_msgs.specs.Calls.{CallValue}
use Rattle.accept_book.specs.Booking.{BookOf}
use Rattle.rpc_program.specs.Programs.{Serving, NONE}
use Rattle.rpc_program.specs.declared.outcome.Outcome.{Outcome}
use Rattle.gss_server.specs.Hearing.{kept_answers}
use Rattle.again_gate.specs.Again.{AgainOf}
use Rattle.again_gate.specs.Turns.{Turned}
use Rattle.again_laws.specs.Acting.{Acted, acting, SuchAmong}
use Rattle.again_laws.specs.Laws.{Through}
use Rattle.again_laws.specs.Sending.{Sent, Sending, IsFrom}
use Rattle.rpc_datagram.specs.Served.{Datagram, record_of, ruling_of, turn_of}
use Rattle.datagram_laws.specs.Done.{IsDone, IsCalled, shown_as}

-- the calls with a transaction number
abbrev pub with_number : ℕ → List Acted → List Acted
with_number xid [] = []
with_number xid (call ∷ calls) =
    if call.xid == xid then call ∷ with_number xid calls else with_number xid calls

-- one call alone has this transaction number, and this became of it
pub record IsOnly (xid : ℕ) (outcome : Outcome) (calls : List Acted) : Type 0 where
  pub call : Acted
  pub alone : with_number xid calls ≡ call ∷ []
  pub is : call.outcome ≡ outcome

-- at least twice as many calls are kept as the window is wide
pub record IsEnough (width kept : ℕ) : Type 0 where
  pub some : 0 < width
  pub twice : 2 * width ≤ kept

-- a datagram that is a call was done, and its reply says this outcome: that of a call of its
-- context that acted, with its transaction number. Where enough calls are kept, and the calls of
-- the context that acted came by its session's records, it is that of the one call that acted with
-- this transaction number
pub record IsReplied (window kept : ℕ) (serves : Serving) (turns : List Turned) (one : Datagram)
    (call : CallValue) : Type 0 where
  pub done : IsDone (shown_as (record_of one.octets) (kept_answers one.kept) serves call)
      (ruling_of serves one)
  pub acted : SuchAmong (λ first. first ≡ done.admitted.outcome) call.xid
      (acting done.lease.id turns)
  pub once : IsEnough window kept → (sent : List Sent) → Sending sent
      → AllByRecursion (IsFrom sent) (acting done.lease.id turns)
      → IsOnly call.xid done.admitted.outcome (acting done.lease.id turns)

-- so it is of each datagram that was answered through a gate over a book, from the opening of both
-- on, whatever was lost, doubled or came late; the program that is served hasn't the procedure that
-- none has
abbrev pub RepliesLaw : Type 0
RepliesLaw = (kept contexts most : ℕ) (serves : Serving) (book : BookOf) (all : List Datagram)
    (new : AgainOf BookOf) → serves.program.has NONE ≡ false
    → Through kept contexts most book (map (turn_of serves) all) new
    → AllByRecursion (λ one. (call : CallValue)
    → IsCalled (record_of one.octets) call (ruling_of serves one)
    → IsReplied book.core.width kept serves (map (turn_of serves) all) one call) all
