-- The sessions of a drill.
use Rattle.std.specs.Prelude.{ℕ, zero, suc, ◌+◌, ◌-◌, ◌*◌, ◌/◌, ◌%◌, ◌==◌, nat_lt, min, List, []}
use Rattle.std.specs.Prelude.{◌∷◌, ◌++◌, if◌then◌else◌}
use Rattle.gss_base.specs.declared.mech.MechKind.{MechKind}
use Rattle.gss_base.specs.declared.mech.MechKind.TheVariants as kinds
use Rattle.gss_base.specs.declared.mech.KerberosName.TheVariants.{Standard}
use Rattle.gss_base.specs.declared.mech.MechName.{MechName}
use Rattle.gss_base.specs.declared.mech.MechName.TheVariants as names
use Rattle.mech_objects.specs.Meaning.{MechSays}
use Rattle.mech_objects.specs.Standard.{blank_of}
use Rattle.gss_client.specs.declared.terms.Terms.{Terms}
use Rattle.posts_program.specs.declared.numbers.TheConstants.{PROGRAM, VERSION}
use Rattle.rpcsec_bodies.specs.declared.service.Service.{Service}
use Rattle.rpcsec_bodies.specs.declared.service.Service.TheVariants as services

-- how many sessions make so many calls, of which each makes 1,000 and the last one the rest
abbrev pub session_count : ℕ → ℕ
session_count calls = (calls + 999) / 1000

-- how many of them session `number` makes, counted from 0
abbrev pub calls_in : ℕ → ℕ → ℕ
calls_in calls number = min (calls - number * 1000) 1000

-- the moment of a session, in microseconds: a second later than that of the session before
abbrev pub moment_of : ℕ → ℕ
moment_of number = (1000000 + number) * 1000000

-- the mechanism of a session
abbrev pub kind_of : ℕ → MechKind
kind_of number = if number % 2 == 0 then kinds.Kerberos else kinds.Scram

-- the name under which a mechanism stands in a session: Kerberos's own, and never Microsoft's
abbrev pub own_name : MechKind → MechName
own_name kinds.Kerberos = names.Kerberos Standard
own_name kinds.Scram = names.Scram

-- how the calls of a session are protected
abbrev pub service_of : ℕ → Service
service_of number = if nat_lt (number % 4) 2 then services.Integrity else services.Privacy

-- what a session calls: the server's program
abbrev pub terms_of : ℕ → Terms
terms_of number =
    record { service = service_of number; program = PROGRAM; version = VERSION }

-- a blank object for each of so many sessions, in their order: that of a session is of its
-- mechanism
abbrev pub blank_objects : ℕ → List MechSays
blank_objects zero = []
blank_objects (suc number) = blank_objects number ++ blank_of (own_name (kind_of number)) ∷ []
