-- What holds of a run of desks that are served side by side.
use Rattle.std.proofs.Common.{◌≡◌, ◌≢◌, ◌⊎◌, inl, inr, ℕ, Bool, true, false, List, slice_get, Some, refl, sym, subst, ◌∙◌}
use Rattle.sec_base.specs.Answers.{Rose}
use Rattle.sec_base.specs.declared.port.Port as ports
use Rattle.sec_base.specs.declared.link.Link as links
use Rattle.sec_base.specs.declared.clock.Clock as clocks
use Rattle.sec_base.specs.declared.draw.Draw as draws
use Rattle.accept_book.specs.Booking.{BookOf}
use Rattle.book_seats.specs.Both.{BothOf}
use Rattle.rpc_program.specs.Programs.{Serving}
use Rattle.rpc_program.specs.declared.program.Program as programs
use Rattle.rpc_program.specs.declared.program.Speller as spellers
use Rattle.accept_core.specs.Logs.{LogOf}
use Rattle.gss_server.specs.Telling.{limits_of}
use Rattle.gss_server.specs.declared.answer.Kept.{Kept}
use Rattle.gss_server.specs.declared.connection.Served.{Served}
use Rattle.gss_server.specs.declared.keeper.Keeper as keepers
use Rattle.server_options.specs.Lines.{is_begun}
use Rattle.server_command.specs.Runs.{HasLimits}
use Rattle.server_seating.specs.SideBySide.{SideBySide, IsUnder}
use Rattle.server_command.specs.Through.{IsOpened}
use Rattle.server_desks.specs.declared.desk.Desk.{Desk}
use Rattle.server_desks.specs.declared.desk.DeskEnd.TheVariants.{PortFault}
use Rattle.server_options.specs.declared.ending.RunEnd.{RunEnd}
use Rattle.server_options.specs.declared.ending.RunEnd.TheVariants as whole
use Rattle.server_options.specs.declared.keys.Keys.{Keys}
use Rattle.server_options.specs.declared.options.Options.{Options}
use Rattle.server_desks.proofs.Ends.{all-done}
use Rattle.server_desks.proofs.InStep.{there}

module _ {V P C D K M T W L Q R : Type 0} {program : programs.Ghosts V T} {spelling : spellers.Ghosts W T} {begins : BothOf V → Type 0} {journaled : Bool} {faults faults' : ℕ} {serves : Serving} {most : ℕ} {port : ports.Ghosts P L} {link : links.Ghosts L} {clock : clocks.Ghosts C} {draw : draws.Ghosts D} {keeper : keepers.Ghosts K Kept Q} {kept : keepers.Ghosts M (Served L) R} {olds news : List (Desk P C D K M W)} {end : RunEnd} {left : V} {log : LogOf} where
  -- a run in which no desk failed serves all connections
  pub side-served : SideBySide program spelling begins journaled faults faults' serves most port link clock draw keeper kept olds end news left log → ((i : ℕ) (a b : Desk P C D K M W) → slice_get olds i ≡ Some a → slice_get news i ≡ Some b → Rose (port.faults a.port) (port.faults b.port) → ⊥) → end ≢ whole.NoMemory → end ≡ whole.Served
  side-served s steady other =
      s.ended ∙ all-done 1 s.ends (λ i at.
      let old = there s.ends olds i PortFault (sym s.ends_count) at in
      let new = there olds news i old.0 s.count old.1 in
      steady i old.0 new.0 old.1 new.1 ((s.each i old.0 new.0 PortFault old.1 at new.1).served.failed refl)) (λ e. other (s.ended ∙ e))

  -- the book began in another sense, and other counts of faults were seen
  began : {Begins : BothOf V → Type 0} {before after : ℕ} → ((both : BothOf V) → begins both → Begins both) → (Rose faults faults' → Rose before after) → SideBySide program spelling begins journaled faults faults' serves most port link clock draw keeper kept olds end news left log
      → SideBySide program spelling Begins journaled before after serves most port link clock draw keeper kept olds end news left log
  began by rises s = record {
    all = s.all;
    ends = s.ends;
    first = s.first;
    last = s.last;
    opened = by s.first s.opened;
    chain = s.chain;
    once = s.once;
    closed = s.closed;
    left = s.left;
    count = s.count;
    ends_count = s.ends_count;
    each = λ i old new ending a b c.
        let t = s.each i old new ending a b c in
        record { failed = t.failed; served = t.served; failing = λ some. rises (t.failing some) };
    others = s.others;
    ended = s.ended;
  }

  -- the same, with or without a journal as is known of another, and where the desks' limit is written otherwise
  pub began-as : {Begins : BothOf V → Type 0} {before after limit : ℕ} {other : Bool} → ((both : BothOf V) → begins both → Begins both) → (Rose faults faults' → Rose before after) → journaled ≡ other → most ≡ limit
      → SideBySide program spelling begins journaled faults faults' serves most port link clock draw keeper kept olds end news left log → SideBySide program spelling Begins other before after serves limit port link clock draw keeper kept olds end news left log
  began-as {Begins} {before} {after} {limit} by rises flag same s =
      subst (λ (b : Bool). SideBySide program spelling Begins b before after serves limit port link clock draw keeper kept olds end news left log) flag
      (subst (λ (n : ℕ). SideBySide program spelling Begins journaled before after serves n port link clock draw keeper kept olds end news left log) same (began by rises s))

pub begun-served : {end : RunEnd} {Idle Other : Type 0} → Idle ⊎ Other → (Idle → is_begun end ≡ false) → (Other → end ≡ whole.Served) → is_begun end ≡ true → end ≡ whole.Served
begun-served (inl idle) unserved served begun = let bad : false ≡ true = sym (unserved idle) ∙ begun in cc
begun-served (inr one) unserved served begun = served one

-- the limits of an opened book are those of its options
pub limits-as : {options : Options} {keys : Keys} {start : ℕ} (book : BookOf) {log : LogOf} → IsOpened options keys start book → IsUnder (limits_of book.core) log → HasLimits options log
limits-as book opened under = record {
  width = under.width ∙ opened.width;
  limit = under.limit ∙ opened.limit;
  contexts = under.contexts ∙ opened.contexts;
  marks = under.marks ∙ opened.marks;
  keeping = under.keeping ∙ opened.keeping;
}
