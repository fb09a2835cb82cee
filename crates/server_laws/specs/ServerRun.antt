-- The log that a run of the server returns is that of a run of the world.
use Rattle.std.specs.Prelude.{◌≡◌, ◌≤◌, ℕ, List, [], ◌∷◌, ◌++◌, length, map, reverse, slice_get}
use Rattle.std.specs.Prelude.{Bool, is_some, Some, None}
use Rattle.sec_base.specs.declared.port.Port as ports
use Rattle.sec_base.specs.declared.link.Link as links
use Rattle.sec_base.specs.declared.clock.Clock as clocks
use Rattle.sec_base.specs.declared.draw.Draw as draws
use Rattle.rpc_msgs.specs.Records.{Fragments}
use Rattle.accept_book.specs.Booking.{BookOf}
use Rattle.accept_core.specs.Legal.{Legal}
use Rattle.accept_core.specs.Logs.{LogOf}
use Rattle.accept_book.specs.RecordShown.{Asked}
use Rattle.accept_book.specs.declared.book_answer.Admitted.{Admitted}
use Rattle.rpc_program.specs.Programs.{Serving}
use Rattle.rpc_program.specs.declared.program.Program as programs
use Rattle.rpc_program.specs.declared.program.Speller as spellers
use Rattle.accept_core.specs.declared.entry.Entry.{Entry}
use Rattle.gss_server.specs.Connections.{in_order}
use Rattle.gss_server.specs.Hearing.{kept_answers, serving}
use Rattle.gss_server.specs.declared.answer.Kept.{Kept}
use Rattle.gss_server.specs.declared.connection.Served.{Served}
use Rattle.gss_server.specs.declared.keeper.Keeper as keepers
use Rattle.book_seats.specs.Notes.{Note, Noted, noted_by, receipted}
use Rattle.server_desks.specs.Desks.{ServedOf, LinksServed, run_limit}
use Rattle.server_command.specs.Through.{IsOpened, OneHistory, keeping_of, log_limit}
use Rattle.server_seating.specs.SideBySide.{DeskTold, unasked, Hears}
use Rattle.server_desks.specs.declared.desk.Desk.{Desk}
use Rattle.server_desks.specs.declared.desk.DeskEnd.{DeskEnd}
use Rattle.server_options.specs.declared.ending.RunEnd.{RunEnd}
use Rattle.server_options.specs.declared.keys.Keys.{Keys}
use Rattle.server_options.specs.declared.options.Options.{Options}
use Rattle.world_laws.specs.Events.{IsBook}
use Rattle.world_laws.specs.State.{InHand, World}
use Rattle.server_laws.specs.Apart.{SpellsApart}
use Rattle.server_laws.specs.Beside.{AreFree, BookNote, RunsBeside}
use Rattle.server_laws.specs.Served.{AllAnswered, GateAnswers, Meanwhile, IsRun}

-- the book that a run opens: by its options and keys, without entries, contexts and marks
abbrev pub opened_book : Options → Keys → ℕ → BookOf
opened_book options keys start = record {
  setup = record {
    own = options.name;
    keytab = keys.keytab;
    verifiers = keys.verifiers;
    bindings = options.bindings;
    offer = options.offer;
    bare = options.bare;
  };
  core = record {
    history = [];
    limit = log_limit options.log;
    width = options.window;
    keeping = keeping_of options;
    table = record { limit = options.contexts; width = options.window; slots = []; used = [] };
    cache = record { capacity = options.marks; greatest = start; held = [] };
  };
}

-- a world can begin with it
abbrev pub OpenedLaw : Type 0
OpenedLaw = (options : Options) (keys : Keys) (start : ℕ)
    → IsBook (opened_book options keys start)

-- a run of the world in which one lane serves these records, to a world whose book has this log
pub record BookRun (lane : ℕ) (meanwhile : (w : World) → Meanwhile w) (hands : List InHand)
    (old : World) (history : List Entry) : Type 0 where
  pub book : BookOf
  pub logged : book.core.history ≡ history
  pub runs : IsRun lane meanwhile hands old book

-- an opened book answered records, and its log is legal: then from every world of the opened book
-- with a free lane, whatever happens elsewhere meanwhile, a run of the world in which the lane
-- serves these records leads to a book with the log
abbrev pub BookRunLaw : Type 0
BookRunLaw = (options : Options) (keys : Keys) (start : ℕ) (first last : BookOf) (width : ℕ)
    (hands : List InHand) → IsOpened options keys start first → (w : World)
    → AllAnswered GateAnswers (serving w.serves.program width) hands first last
    → Legal last.core.width last.core.history → (lane : ℕ)
    (meanwhile : (w : World) → Meanwhile w) → w.book ≡ opened_book options keys start
    → slice_get w.lanes lane ≡ Some None → BookRun lane meanwhile hands w last.core.history

-- ---- the run of a server, whose desks are served side by side

-- a record of a link, with the answers that were kept for it
abbrev pub hand_of : List ℕ → Kept → InHand
hand_of octets one = record { octets = octets; kept = kept_answers one }

-- records of a link, in order
abbrev pub hands_of : List Fragments → List Kept → List InHand
hands_of records kept = in_order (λ octets one. hand_of octets one ∷ []) records kept

-- the records of all links that were served, in order
abbrev pub hands_in : {S L : Type 0} (Answers : S → Asked Admitted → S → Type 0) (serves : Serving)
    (link : links.Ghosts L) (before : S) (olds : List L) (served : List (ServedOf L)) (after : S)
    → LinksServed Answers serves link before olds served after → List InHand
hands_in Answers serves link before [] [] after each = []
hands_in Answers serves link before [] (one ∷ more) after each = []
hands_in Answers serves link before (old ∷ olds) [] after each = []
hands_in Answers serves link before (old ∷ olds) (one ∷ more) after each =
    hands_of each.1.served.records one.answers
    ++ hands_in Answers serves link each.0 olds more after each.2

-- a desk served links, and these are the records of all of them, in order
pub record DeskHad {P C D K M T W L Q R : Type 0} (spelling : spellers.Ghosts W T)
    (journaled : Bool) (faults faults' : ℕ) (serves : Serving) (most : ℕ) (port : ports.Ghosts P L)
    (link : links.Ghosts L) (clock : clocks.Ghosts C) (draw : draws.Ghosts D)
    (keeper : keepers.Ghosts K Kept Q) (kept : keepers.Ghosts M (Served L) R) (i : ℕ)
    (old : Desk P C D K M W) (end : DeskEnd) (new : Desk P C D K M W) (noted : List (Noted T))
    (hands : List InHand) : Type 0 where
  pub told : DeskTold spelling journaled faults faults' serves most port link clock draw keeper kept
      i old end new noted
  pub are : hands ≡ hands_in (Hears spelling journaled) serves link (unasked i old.speller)
      told.served.went.links told.served.went.served
      (record { desk = i; noted = noted; speller = new.speller; failed = told.failed })
      told.served.went.each

-- each desk's records are those of the links that it served, and there are no others
pub record AreTheirs {P C D K M T W L Q R : Type 0} (spelling : spellers.Ghosts W T)
    (journaled : Bool) (faults faults' : ℕ) (serves : Serving) (most : ℕ) (port : ports.Ghosts P L)
    (link : links.Ghosts L) (clock : clocks.Ghosts C) (draw : draws.Ghosts D)
    (keeper : keepers.Ghosts K Kept Q) (kept : keepers.Ghosts M (Served L) R)
    (olds : List (Desk P C D K M W)) (ends : List DeskEnd) (news : List (Desk P C D K M W))
    (notes : List (Note T)) (hands : ℕ → List InHand) : Type 0 where
  pub each : (i : ℕ) (old new : Desk P C D K M W) (ending : DeskEnd) → slice_get olds i ≡ Some old
      → slice_get ends i ≡ Some ending → slice_get news i ≡ Some new
      → DeskHad spelling journaled faults faults' serves most port link clock draw keeper kept i old
      ending new (noted_by i notes) (hands i)
  pub others : (i : ℕ) → length olds ≤ i → hands i ≡ []

-- a run of the world in which the desks' lanes serve such records side by side, by this history, to
-- a world whose book has this log
pub record LogIsRun (Are : (ℕ → List InHand) → Type 0) (lane : ℕ → ℕ)
    (meanwhile : (w : World) → Meanwhile w) (notes : List BookNote) (old : World)
    (history : List Entry) : Type 0 where
  pub hands : ℕ → List InHand
  pub theirs : Are hands
  pub book : BookOf
  pub logged : book.core.history ≡ history
  pub runs : RunsBeside lane meanwhile notes hands old book

-- a history as the book has it
abbrev pub book_notes : {T : Type 0} → List (Note T) → List BookNote
book_notes notes = map (λ note. (note.0, receipted note.1)) notes

-- desks were served side by side by one book and one program, as the run of the server says, and
-- results are told apart from lists of mechanisms: then from every world of the opened book and the
-- served program with a free lane for each desk, whatever happens elsewhere meanwhile, there is a
-- run of the world in which the lane of each desk serves the records of its links. It asks the
-- questions of the history, in its order, and leads to a book with the log that the server returns
abbrev pub ServerIsRun : {V P C D K M T W L Q R : Type 0} → programs.Ghosts V T
    → spellers.Ghosts W T → ports.Ghosts P L → links.Ghosts L → clocks.Ghosts C → draws.Ghosts D
    → keepers.Ghosts K Kept Q → keepers.Ghosts M (Served L) R → Type 0
ServerIsRun {V} {P} {C} {D} {K} {M} {T} {W} served spelling port link clock draw keeper kept =
    SpellsApart served.says spelling → (options : Options) (keys : Keys)
    (start faults faults' : ℕ)
    (olds : List (Desk P C D K M W)) (before : V) (end : RunEnd) (news : List (Desk P C D K M W))
    (after : V) (log : LogOf)
    (one : OneHistory served spelling options keys start faults faults' port link clock draw keeper
    kept olds before end news after log)
    → Legal log.width (reverse log.entries) → (w : World) (lane : ℕ → ℕ)
    (meanwhile : (w : World) → Meanwhile w) → w.book ≡ opened_book options keys start
    → w.serves ≡ serving spelling.says options.window → AreFree w lane (length olds) → LogIsRun
    (AreTheirs spelling (is_some options.files.journal) faults faults'
    (serving spelling.says options.window) (run_limit options.connections (length olds)) port link
    clock draw keeper kept olds one.ends news one.all) lane meanwhile (book_notes one.all) w
    (reverse log.entries)
