-- What a program did, by the history of a run.
use Rattle.std.proofs.Common.{◌≡◌, ◌⊎◌, inl, inr, ℕ, List, [], ◌++◌, reverse, Result, Ok, Err, refl, ◌∙◌, sym, ap, subst}
use Rattle.sec_base.specs.declared.port.Port as ports
use Rattle.sec_base.specs.declared.link.Link as links
use Rattle.sec_base.specs.declared.clock.Clock as clocks
use Rattle.sec_base.specs.declared.draw.Draw as draws
use Rattle.cli_base.specs.declared.given.WordsRefusal.{WordsRefusal}
use Rattle.rpc_program.specs.declared.program.Program as programs
use Rattle.rpc_program.specs.declared.program.Speller as spellers
use Rattle.accept_core.specs.Logs.{LogOf}
use Rattle.accept_core.specs.declared.entry.Entry.{Entry}
use Rattle.gss_server.specs.declared.answer.Kept.{Kept}
use Rattle.gss_server.specs.declared.connection.Served.{Served}
use Rattle.gss_server.specs.declared.keeper.Keeper as keepers
use Rattle.book_seats.specs.Acts.{ActsOnce, Folds, calls_in, receipts_of, acts_in}
use Rattle.book_seats.specs.Both.{BothOf}
use Rattle.book_seats.specs.Notes.{Noted, noted_in}
use Rattle.server_seating.specs.Through.{NoBook}
use Rattle.server_command.specs.Through.{OneHistory}
use Rattle.server_desks.specs.declared.desk.Desk.{Desk}
use Rattle.server_options.specs.declared.ending.RunEnd.{RunEnd}
use Rattle.server_options.specs.declared.keys.Keys.{Keys}
use Rattle.server_options.specs.declared.options.Options.{Options}
use Rattle.service_kit.specs.Acted.{Acted}

-- no call was made
pub none-acted : {V T : Type 0} (served : programs.Ghosts V T) (program : V) → Acted served program program []
none-acted served program = record { acts = []; log = refl; own = tt; folds = refl }

-- from a book without a history, with the program that was handed in
pub all-acted : {V T : Type 0} (served : programs.Ghosts V T) (first last : BothOf V) (all : List (Noted T)) (old new : V) (entries : List Entry) → ActsOnce served first all last → first.book.core.history ≡ [] → first.program ≡ old → new ≡ last.program → reverse entries ≡ last.book.core.history → Acted served old new entries
all-acted served first last all old new entries once empty handed left closed = record {
  acts = acts_in all;
  log = ap calls_in closed ∙ (once.log ∙ ap (λ h. calls_in h ++ receipts_of (acts_in all)) empty);
  own = once.entries;
  folds = subst (λ o. Folds served o (acts_in all) new) handed (subst (λ n. Folds served first.program (acts_in all) n) (sym left) once.folds);
}

-- a run in which no book was opened
pub unopened-acted : {V P C D K M T W : Type 0} (served : programs.Ghosts V T) (olds news : List (Desk P C D K M W)) (log : LogOf) (old new : V) → NoBook olds news log → new ≡ old → Acted served old new log.entries
unopened-acted served olds news log old new none same = record {
  acts = [];
  log = ap (λ (l : LogOf). calls_in (reverse l.entries)) none.empty;
  own = tt;
  folds = same;
}

-- a run in which one was
pub opened-acted : {V P C D K M T W L Q R : Type 0} (served : programs.Ghosts V T) (spelling : spellers.Ghosts W T) (options : Options) (keys : Keys) (start faults faults' : ℕ) (port : ports.Ghosts P L) (link : links.Ghosts L) (clock : clocks.Ghosts C) (draw : draws.Ghosts D)
    (keeper : keepers.Ghosts K Kept Q) (kept : keepers.Ghosts M (Served L) R) (olds : List (Desk P C D K M W)) (old : V) (end : RunEnd) (news : List (Desk P C D K M W)) (new : V) (log : LogOf)
    → OneHistory served spelling options keys start faults faults' port link clock draw keeper kept olds old end news new log → Acted served old new log.entries
opened-acted served spelling options keys start faults faults' port link clock draw keeper kept olds old end news new log one =
    all-acted served one.first one.last (noted_in one.all) old new log.entries one.once one.opened.opened.history one.opened.handed one.left one.closed.entries

-- words are in the command or not
pub either : {X : Type 0} (read : Result Options WordsRefusal) → ((refusal : WordsRefusal) → read ≡ Err refusal → X) → ((options : Options) → read ≡ Ok options → X) → X
either (Ok options) refused given = given options refl
either (Err refusal) refused given = refused refusal refl

-- one or the other
pub chosen : {A B X : Type 0} → A ⊎ B → (A → X) → (B → X) → X
chosen (inl a) left right = left a
chosen (inr b) left right = right b
