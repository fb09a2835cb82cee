-- What a keeper was given.
use Rattle.std.specs.Prelude.{◌≡◌, List, ◌++◌}
use Rattle.std.specs.List.{flat_map}
use Rattle.sec_base.specs.declared.clock.Clock as clocks
use Rattle.sec_base.specs.declared.draw.Draw as draws
use Rattle.gss_server.specs.declared.answer.Kept.{Kept}
use Rattle.gss_server.specs.declared.keeper.Keeper as keepers
use Rattle.gss_server.specs.Steady.{Timed, Drawn}

-- a keeper was given these things, in order, and keeps of them what it keeps
abbrev pub Given : {T K P : Type 0} → keepers.Ghosts K T P → K → K → List T → Type 0
Given keeper old new things = keeper.kept new ≡ keeper.kept old ++ flat_map keeper.parts things

-- answers were made of which this holds: a keeper was given them, in order, and their moments and
-- their octets are those that a clock and a draw gave meanwhile
pub record Makes {K P C D : Type 0} (keeper : keepers.Ghosts K Kept P) (clock : clocks.Ghosts C)
    (draw : draws.Ghosts D) (keeper_old keeper_new : K) (clock_old clock_new : C)
    (draw_old draw_new : D) (Holds : List Kept → Type 0) : Type 0 where
  pub kept : List Kept
  pub given : Given keeper keeper_old keeper_new kept
  pub timed : Timed clock clock_old clock_new kept
  pub drawn : Drawn draw draw_old draw_new kept
  pub holds : Holds kept
