-- Desks that are served side by side, over one book and one program: there is one history of all
-- that they asked.
use Rattle.std.specs.Prelude.{◌≡◌, ◌≤◌, ◌<◌, ℕ, Bool, List, [], ◌∷◌, ◌++◌, length, slice_get, Some}
use Rattle.sec_base.specs.Answers.{Rose}
use Rattle.sec_base.specs.declared.port.Port as ports
use Rattle.sec_base.specs.declared.link.Link as links
use Rattle.sec_base.specs.declared.clock.Clock as clocks
use Rattle.sec_base.specs.declared.draw.Draw as draws
use Rattle.accept_core.specs.Logs.{LogOf}
use Rattle.accept_book.specs.RecordShown.{Asked}
use Rattle.accept_book.specs.declared.book_answer.Admitted.{Admitted}
use Rattle.rpc_program.specs.Programs.{Serving}
use Rattle.rpc_program.specs.declared.program.Program as programs
use Rattle.rpc_program.specs.declared.program.Speller as spellers
use Rattle.accept_core.specs.declared.entry.Limits.{Limits}
use Rattle.gss_server.specs.Asking.{Asking}
use Rattle.gss_server.specs.declared.answer.Kept.{Kept}
use Rattle.gss_server.specs.declared.connection.Served.{Served}
use Rattle.gss_server.specs.declared.keeper.Keeper as keepers
use Rattle.book_seats.specs.Acts.{ActsOnce}
use Rattle.book_seats.specs.Both.{BothOf, BothAnswer}
use Rattle.book_seats.specs.Notes.{Note, Noted, noted_by, noted_in}
use Rattle.book_seats.specs.Telling.{ToldFrom}
use Rattle.journal_gate.specs.Withheld.{IsTold}
use Rattle.server_desks.specs.Desks.{DeskServed, end_behind}
use Rattle.server_desks.specs.Courses.{IsLogOf}
use Rattle.server_desks.specs.declared.desk.Desk.{Desk}
use Rattle.server_desks.specs.declared.desk.DeskEnd.{DeskEnd}
use Rattle.server_options.specs.declared.ending.RunEnd.{RunEnd}
use Rattle.server_options.specs.declared.ending.RunEnd.TheVariants as whole

-- a log was kept under these limits
pub record IsUnder (limits : Limits) (log : LogOf) : Type 0 where
  pub width : log.width ≡ limits.width
  pub limit : log.limit ≡ limits.log
  pub contexts : log.contexts ≡ limits.contexts
  pub marks : log.marks ≡ limits.marks
  pub keeping : log.keeping ≡ limits.keeping

-- what a desk asked so far: its number, its questions as they stand in the history, who spells its
-- results, and how many of its answers a journal's disk failed
pub record DeskAsked (T W : Type 0) : Type 0 where
  pub desk : ℕ
  pub noted : List (Noted T)
  pub speller : W
  pub failed : ℕ

-- a desk that asked nothing, with this speller
abbrev pub unasked : {T W : Type 0} → ℕ → W → DeskAsked T W
unasked desk speller = record { desk = desk; noted = []; speller = speller; failed = 0 }

-- a desk asked one question more. It was told what the book answered, and of an admission the
-- outcome that is spelled, once, from the ticket that the call's own entry gave; or, with a
-- journal, the journal's refusal of the authenticator that the book took
pub record Hears {T W : Type 0} (spelling : spellers.Ghosts W T) (journaled : Bool)
    (old : DeskAsked T W) (one : Asked Admitted) (new : DeskAsked T W) : Type 0 where
  pub noted : Noted T
  pub first : Asked Admitted
  pub spelt : ToldFrom spelling old.speller noted first new.speller
  pub told : IsTold journaled first old.failed one new.failed
  pub desk : new.desk ≡ old.desk
  pub asked : new.noted ≡ old.noted ++ noted ∷ []

-- a desk of this number served the first links of its port, and asked this; where the journal's
-- disk failed an answer, its count of faults rose
pub record DeskTold {P C D K M T W L Q R : Type 0} (spelling : spellers.Ghosts W T)
    (journaled : Bool) (faults faults' : ℕ) (serves : Serving) (most : ℕ) (port : ports.Ghosts P L)
    (link : links.Ghosts L) (clock : clocks.Ghosts C) (draw : draws.Ghosts D)
    (keeper : keepers.Ghosts K Kept Q) (kept : keepers.Ghosts M (Served L) R) (i : ℕ)
    (old : Desk P C D K M W) (end : DeskEnd) (new : Desk P C D K M W)
    (noted : List (Noted T)) : Type 0 where
  pub failed : ℕ
  pub served : DeskServed (Hears spelling journaled) serves most port link clock draw keeper kept
      (unasked i old.speller) old end new
      (record { desk = i; noted = noted; speller = new.speller; failed = failed })
  pub failing : 0 < failed → Rose faults faults'

-- one book, with one program, answered all questions of all desks, in one order, from how they
-- begin to this log and this program. The calls that the log gained are those whose number was
-- taken, and the program entered each of them once, in the log's order. Each desk served the first
-- links of its port, in order; of the questions its own are those of its connections, in its own
-- order, all of them; and no other desk asked. The run's end is that of the first desk that failed.
-- Desks are numbered from 0 here, and from 1 in the end. With a journal its disk's count of faults
-- went from one number to another
pub record SideBySide {V P C D K M T W L Q R : Type 0} (served : programs.Ghosts V T)
    (spelling : spellers.Ghosts W T) (begins : BothOf V → Type 0) (journaled : Bool)
    (faults faults' : ℕ) (serves : Serving) (most : ℕ) (port : ports.Ghosts P L)
    (link : links.Ghosts L) (clock : clocks.Ghosts C) (draw : draws.Ghosts D)
    (keeper : keepers.Ghosts K Kept Q) (kept : keepers.Ghosts M (Served L) R)
    (olds : List (Desk P C D K M W)) (end : RunEnd) (news : List (Desk P C D K M W))
    (program : V) (log : LogOf) : Type 0 where
  pub all : List (Note T)
  pub ends : List DeskEnd
  pub first : BothOf V
  pub last : BothOf V
  pub opened : begins first
  pub chain : Asking (BothAnswer served) first (noted_in all) last
  pub once : ActsOnce served first (noted_in all) last
  pub closed : IsLogOf last.book log
  pub left : program ≡ last.program
  pub count : length news ≡ length olds
  pub ends_count : length ends ≡ length olds
  pub each : (i : ℕ) (old new : Desk P C D K M W) (ending : DeskEnd) → slice_get olds i ≡ Some old
      → slice_get ends i ≡ Some ending → slice_get news i ≡ Some new
      → DeskTold spelling journaled faults faults' serves most port link clock draw keeper kept i
      old ending new (noted_by i all)
  pub others : (desk : ℕ) → length olds ≤ desk → noted_by desk all ≡ []
  pub ended : end ≡ end_behind whole.Served 1 ends
