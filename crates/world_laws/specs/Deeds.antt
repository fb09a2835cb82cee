-- What an event did, beside the state that it left.
use Rattle.std.specs.Prelude.{List, [], Option, Some, None}
use Rattle.gss_base.specs.Name.{Name}
use Rattle.krb_derive.specs.declared.key.Key.{Key}
use Rattle.scram_mech.specs.MechMaking.{MechMaking}
use Rattle.world_laws.specs.declared.event.Happened.{Happened}
use Rattle.world_laws.specs.declared.event.Happened.TheVariants.{Nothing}
use Rattle.world_laws.specs.State.{Context}

-- a ticket that an acceptor opened: by which key, and of which client and session key it says that
-- it is
pub record Opened : Type 0 where
  pub service : Key
  pub client : Name
  pub session : Key

-- the answer, none where memory was wanted; what honest ends handed out and what they found
-- verified; the ticket that was opened, and what was fixed
pub record Deed : Type 0 where
  pub answer : Option Happened
  pub makes : List MechMaking
  pub found : List MechMaking
  pub opened : Option Opened
  pub fixes : Option Context

-- nothing but this answer
abbrev pub quiet : Option Happened → Deed
quiet answer = record { answer = answer; makes = []; found = []; opened = None; fixes = None }

-- there was nothing to be done, and nothing was done
abbrev pub nothing : Deed
nothing = quiet (Some Nothing)
