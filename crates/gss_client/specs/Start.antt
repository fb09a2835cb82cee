-- What a session is begun with, however it lies in memory.
use Rattle.std.specs.Prelude.{ℕ}
use Rattle.spnego_core.specs.Ends.{PlainSetup}
use Rattle.mech_objects.specs.Meaning.{MechSays}
use Rattle.init_ends.specs.Ends.{SetupMeans, setup_by}
use Rattle.init_ends.specs.Plain.{objects_of}
use Rattle.gss_client.specs.declared.start.Start.{Start}
use Rattle.gss_client.specs.declared.terms.Terms.{Terms}

-- what its initiator is begun with, what is called and how that is protected, and the number of the
-- first call
pub record StartOf (S : Type 0) : Type 0 where
  pub setup : S
  pub terms : Terms
  pub first : ℕ

-- by plain credentials
abbrev pub StartSays : Type 0
StartSays = StartOf PlainSetup

-- by objects
abbrev pub StartMeans : Type 0
StartMeans = StartOf SetupMeans

-- the start over the objects of Kerberos and SCRAM that got a plain start's credentials
abbrev pub objects_start : StartSays → StartMeans
objects_start start =
    record { setup = objects_of start.setup; terms = start.terms; first = start.first }

-- what the code's start is, by what its objects are
abbrev pub start_means : {X : Type 0} → {D : X → Type 0} → Start X D
    → ((x : X) × D x → MechSays) → StartMeans
start_means start says =
    record { setup = setup_by start.setup says; terms = start.terms; first = start.first }
