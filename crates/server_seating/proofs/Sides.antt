-- What holds of desks that are served side by side.
use Rattle.std.proofs.Common.{◌≤◌, ℕ, Bool, List, sym}
use Rattle.std.specs.List.{AllByRecursion}
use Rattle.sec_base.specs.declared.port.Port as ports
use Rattle.sec_base.specs.declared.link.Link as links
use Rattle.sec_base.specs.declared.clock.Clock as clocks
use Rattle.sec_base.specs.declared.draw.Draw as draws
use Rattle.rpc_program.specs.Programs.{Serving}
use Rattle.rpc_program.specs.declared.program.Program as programs
use Rattle.rpc_program.specs.declared.program.Speller as spellers
use Rattle.book_seats.specs.Both.{BothOf}
use Rattle.accept_core.specs.Logs.{LogOf}
use Rattle.gss_server.specs.declared.answer.Kept.{Kept}
use Rattle.gss_server.specs.declared.connection.Served.{Served}
use Rattle.gss_server.specs.declared.keeper.Keeper as keepers
use Rattle.server_desks.specs.Desks.{IsFresh, IsSmall, greatest_count}
use Rattle.server_seating.specs.SideBySide.{SideBySide}
use Rattle.server_desks.specs.declared.desk.Desk.{Desk}
use Rattle.server_options.specs.declared.ending.RunEnd.{RunEnd}
use Rattle.server_desks.proofs.DeskRuns.{desk-small}
use Rattle.server_desks.proofs.InStep.{there, at-place, by-places}

module _ {V P C D K M T W L Q R : Type 0} {program : programs.Ghosts V T} {spelling : spellers.Ghosts W T} {begins : BothOf V → Type 0} {journaled : Bool} {faults faults' : ℕ} {serves : Serving} {most : ℕ} {port : ports.Ghosts P L} {link : links.Ghosts L} {clock : clocks.Ghosts C} {draw : draws.Ghosts D} {keeper : keepers.Ghosts K Kept Q} {kept : keepers.Ghosts M (Served L) R} {olds news : List (Desk P C D K M W)} {end : RunEnd} {left : V} {log : LogOf} where
  -- desks that began with nothing are small
  pub side-small : most ≤ greatest_count → AllByRecursion IsFresh olds → SideBySide program spelling begins journaled faults faults' serves most port link clock draw keeper kept olds end news left log → AllByRecursion IsSmall news
  side-small few fresh s = by-places IsSmall news (λ i new at.
      let old = there news olds i new (sym s.count) at in
      let ending = there olds s.ends i old.0 s.ends_count old.1 in
      desk-small few (at-place IsFresh olds i old.0 fresh old.1) (s.each i old.0 new ending.0 old.1 ending.1 at).served)
