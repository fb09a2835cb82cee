-- What a desk did: it served the links of its port, in order.
use Rattle.std.specs.Prelude.{◌≡◌, ◌≢◌, ◌⊎◌, ℕ, ◌+◌, ◌-◌, ◌*◌, ◌<◌, ◌≤◌, Bool, true, false, IsTrue}
use Rattle.std.specs.Prelude.{List, [], ◌∷◌, ◌++◌, length, map, min, sum_by, slice_get, take}
use Rattle.std.specs.Prelude.{Option, None, Some}
use Rattle.std.specs.List.{AllByRecursion, flat_map}
use Rattle.sec_base.specs.Answers.{Rose}
use Rattle.sec_base.specs.declared.port.Port as ports
use Rattle.sec_base.specs.declared.link.Link as links
use Rattle.sec_base.specs.declared.clock.Clock as clocks
use Rattle.sec_base.specs.declared.draw.Draw as draws
use Rattle.accept_book.specs.RecordShown.{Asked}
use Rattle.accept_book.specs.declared.book_answer.Admitted.{Admitted}
use Rattle.rpc_program.specs.Programs.{Serving}
use Rattle.gss_server.specs.Asking.{Asking}
use Rattle.gss_server.specs.Connections.{IsServed, StreamEnds}
use Rattle.gss_server.specs.Keeping.{Given}
use Rattle.gss_server.specs.Steady.{ClosedWell, Timed, Drawn}
use Rattle.gss_server.specs.declared.answer.Kept.{Kept}
use Rattle.gss_server.specs.declared.connection.ConnEnd.{ConnEnd}
use Rattle.gss_server.specs.declared.connection.ConnEnd.TheVariants as conns
use Rattle.gss_server.specs.declared.connection.Served.{Served}
use Rattle.gss_server.specs.declared.keeper.Keeper as keepers
use Rattle.server_desks.specs.declared.desk.Desk.{Desk}
use Rattle.server_desks.specs.declared.desk.DeskEnd.{DeskEnd}
use Rattle.server_desks.specs.declared.desk.DeskEnd.TheVariants as ends
use Rattle.server_options.specs.declared.ending.RunEnd.{RunEnd}
use Rattle.server_options.specs.declared.ending.RunEnd.TheVariants as whole

-- ---- one link

-- a link that was served, with the answers to its records
pub record ServedOf (L : Type 0) : Type 0 where
  pub served : Served L
  pub answers : List Kept

-- a link was served to its end, from one state of the gate to another, as the connection's own
-- contract says; the gate gave the answers, also where the link doesn't tell its octets
pub record ServedLink {S L : Type 0} (Answers : S → Asked Admitted → S → Type 0) (serves : Serving)
    (link : links.Ghosts L) (before : S) (old : L) (one : ServedOf L) (after : S) : Type 0 where
  pub served : IsServed (link.tells old) (λ asked. Asking Answers before asked after) serves
      (link.wire old) (link.wire one.served.link) one.served.end one.answers
  pub counted : one.served.records ≡ length one.answers
  pub most : one.served.records ≤ 65536
  pub always : IsTrue (link.tells old) → (expected : ConnEnd)
      → StreamEnds (link.wire old) (link.wire one.served.link) expected
      → one.served.end ≢ conns.LinkFault → one.served.end ≢ conns.NoMemory
      → one.served.end ≢ conns.Lost → one.served.end ≡ expected
  pub fault : one.served.end ≡ conns.LinkFault
      → Rose (link.faults old) (link.faults one.served.link)
  pub faultless : one.served.end ≢ conns.LinkFault → ClosedWell link old one.served.link
  pub closed : link.closed one.served.link ≡ true

-- links were served one after the other, each from the state of the gate that the one before left
abbrev pub LinksServed : {S L : Type 0} → (S → Asked Admitted → S → Type 0) → Serving
    → links.Ghosts L → S → List L → List (ServedOf L) → S → Type 0
LinksServed Answers serves link before [] [] after = after ≡ before
LinksServed Answers serves link before [] (one ∷ more) after = ⊥
LinksServed Answers serves link before (old ∷ olds) [] after = ⊥
LinksServed {S} Answers serves link before (old ∷ olds) (one ∷ more) after =
    (middle : S) × ServedLink Answers serves link before old one middle
    × LinksServed Answers serves link middle olds more after

-- the links as they were served, in order
abbrev pub links_in : {L : Type 0} → List (ServedOf L) → List (Served L)
links_in served = map (λ one. one.served) served

-- the answers to the records of all connections, in order
abbrev pub answers_in : {L : Type 0} → List (ServedOf L) → List Kept
answers_in served = flat_map (λ one. one.answers) served

-- no connection ended for want of memory
abbrev pub NoneWanted : {L : Type 0} → List (ServedOf L) → Type 0
NoneWanted served = AllByRecursion (λ one. one.served.end ≢ conns.NoMemory) served

-- all but the last
abbrev pub earlier : {A : Type 0} → List A → List A
earlier xs = take (length xs - 1) xs

-- a connection ended for want of memory
abbrev pub is_starved : ConnEnd → Bool
is_starved conns.Ended = false
is_starved conns.LinkFault = false
is_starved conns.TooLong = false
is_starved conns.TooManyFragments = false
is_starved conns.Torn = false
is_starved conns.Budget = false
is_starved conns.Lost = false
is_starved conns.NoMemory = true

-- ---- one desk

-- a desk with another speller, or without one
abbrev pub with_speller : {P C D K M W V : Type 0} → Desk P C D K M W → V → Desk P C D K M V
with_speller desk speller = record {
  port = desk.port;
  clock = desk.clock;
  draw = desk.draw;
  keeper = desk.keeper;
  links = desk.links;
  speller = speller;
  connections = desk.connections;
  records = desk.records;
}

-- it has served nothing yet
pub record IsFresh {P C D K M W : Type 0} (desk : Desk P C D K M W) : Type 0 where
  pub connections : desk.connections ≡ 0
  pub records : desk.records ≡ 0

-- it served these links: its keepers were given the answers and the links, its clock and its draw
-- gave what the answers hold and nothing else, and it counted them
pub record DeskGave {P C D K M W L Q R : Type 0} (clock : clocks.Ghosts C) (draw : draws.Ghosts D)
    (keeper : keepers.Ghosts K Kept Q) (kept : keepers.Ghosts M (Served L) R)
    (old new : Desk P C D K M W) (served : List (ServedOf L)) : Type 0 where
  pub answers : Given keeper old.keeper new.keeper (answers_in served)
  pub links : Given kept old.links new.links (links_in served)
  pub timed : Timed clock old.clock new.clock (answers_in served)
  pub drawn : Drawn draw old.draw new.draw (answers_in served)
  pub connections : new.connections ≡ old.connections + length served
  pub records : new.records ≡ old.records + length (answers_in served)

-- one more link was served, to this end
pub record DeskAdds {S P C D K M W L Q R : Type 0} (Answers : S → Asked Admitted → S → Type 0)
    (serves : Serving) (link : links.Ghosts L) (clock : clocks.Ghosts C) (draw : draws.Ghosts D)
    (keeper : keepers.Ghosts K Kept Q) (kept : keepers.Ghosts M (Served L) R) (before : S)
    (old : Desk P C D K M W) (one : L) (end : ConnEnd) (new : Desk P C D K M W)
    (after : S) : Type 0 where
  pub served : ServedOf L
  pub ended : served.served.end ≡ end
  pub each : ServedLink Answers serves link before one served after
  pub gave : DeskGave clock draw keeper kept old new (served ∷ [])

-- the first links of its port were served, in order, and the others are still to come
pub record DeskWent {S P C D K M W L Q R : Type 0} (Answers : S → Asked Admitted → S → Type 0)
    (serves : Serving) (port : ports.Ghosts P L) (link : links.Ghosts L) (clock : clocks.Ghosts C)
    (draw : draws.Ghosts D) (keeper : keepers.Ghosts K Kept Q)
    (kept : keepers.Ghosts M (Served L) R) (before : S) (old new : Desk P C D K M W)
    (after : S) : Type 0 where
  pub links : List L
  pub served : List (ServedOf L)
  pub each : LinksServed Answers serves link before links served after
  pub split : IsTrue (port.tells old.port)
      → port.links old.port ≡ links ++ port.links new.port
  pub gave : DeskGave clock draw keeper kept old new served

-- it served the first links of its port, at most so many, and stopped at the first that ended for
-- want of memory, and at the first fault of its port. Where it is done, these are all of them or so
-- many. It ended by its port exactly where the port's count of faults rose
pub record DeskServed {S P C D K M W L Q R : Type 0} (Answers : S → Asked Admitted → S → Type 0)
    (serves : Serving) (most : ℕ) (port : ports.Ghosts P L) (link : links.Ghosts L)
    (clock : clocks.Ghosts C) (draw : draws.Ghosts D) (keeper : keepers.Ghosts K Kept Q)
    (kept : keepers.Ghosts M (Served L) R) (before : S) (old : Desk P C D K M W) (end : DeskEnd)
    (new : Desk P C D K M W) (after : S) : Type 0 where
  pub went : DeskWent Answers serves port link clock draw keeper kept before old new after
  pub few : new.connections ≤ most
  pub done : end ≡ ends.Done → IsTrue (port.tells old.port)
      → (port.links new.port ≡ []) ⊎ (new.connections ≡ most)
  pub wanted : NoneWanted (earlier went.served)
  pub none_wanted : end ≢ ends.NoMemory → NoneWanted went.served
  pub failed : end ≡ ends.PortFault → Rose (port.faults old.port) (port.faults new.port)
  pub steady : end ≢ ends.PortFault → port.faults new.port ≡ port.faults old.port

-- the greatest number of links that a desk may serve, 2 ^ 47: at 10,000 a second it takes 446 years
abbrev pub greatest_count : ℕ
greatest_count = 140737488355328

-- how many links each of so many desks may serve: as many as the run serves, `connections` for each
-- desk, whichever desk they come to; without a number as many as are counted at all
abbrev pub run_limit : Option ℕ → ℕ → ℕ
run_limit None desks = greatest_count
run_limit (Some connections) desks = min (connections * desks) greatest_count

-- so few connections and records that they can be counted
pub record IsSmall {P C D K M W : Type 0} (desk : Desk P C D K M W) : Type 0 where
  pub few : desk.connections ≤ greatest_count
  pub within : desk.records ≤ 65536 * desk.connections

-- ---- several desks

-- of a thing in one list and the one at the same place in another, whatever the place
abbrev pub InStep : {A B : Type 0} → List A → List B → (ℕ → A → B → Type 0) → Type 0
InStep {A} {B} xs ys Both = (place : ℕ) (x : A) (y : B) → slice_get xs place ≡ Some x
    → slice_get ys place ≡ Some y → Both place x y

-- the end of a run behind a desk: as the first desk that failed has it
abbrev pub joined : RunEnd → ℕ → DeskEnd → RunEnd
joined (whole.PortFault first) desk end = whole.PortFault first
joined whole.NoMemory desk end = whole.NoMemory
joined whole.Usage desk end = whole.Usage
joined (whole.CannotLoad file) desk end = whole.CannotLoad file
joined (whole.Bad file at) desk end = whole.Bad file at
joined whole.NoKey desk end = whole.NoKey
joined whole.Served desk ends.Done = whole.Served
joined whole.Served desk ends.PortFault = whole.PortFault desk
joined whole.Served desk ends.NoMemory = whole.NoMemory

-- the end of a run behind desks of these ends, of which the first has this number
abbrev pub end_behind : RunEnd → ℕ → List DeskEnd → RunEnd
end_behind before number [] = before
end_behind before number (end ∷ ends) = end_behind (joined before number end) (number + 1) ends

-- a run that fails at a port's fault names a desk of so many, counted from 1
abbrev pub NamesADesk : RunEnd → ℕ → Type 0
NamesADesk end count = (desk : ℕ) → end ≡ whole.PortFault desk → (0 < desk) × (desk ≤ count)

-- how many connections the desks had
abbrev pub all_connections : {P C D K M W : Type 0} → List (Desk P C D K M W) → ℕ
all_connections desks = sum_by (λ desk. desk.connections) desks

-- how many records the connections of all desks had
abbrev pub all_records : {P C D K M W : Type 0} → List (Desk P C D K M W) → ℕ
all_records desks = sum_by (λ desk. desk.records) desks
