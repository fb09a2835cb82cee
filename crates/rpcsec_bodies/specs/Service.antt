-- The services of calls, RFC 2203 section 5.
use Rattle.std.specs.Prelude.{ℕ, ◌==◌, if◌then◌else◌}
use Rattle.rpcsec_msgs.specs.declared.numbers.TheConstants.{RPC_GSS_SVC_NONE, RPC_GSS_SVC_INTEGRITY}
use Rattle.rpcsec_msgs.specs.declared.numbers.TheConstants.{RPC_GSS_SVC_PRIVACY}
use Rattle.rpcsec_bodies.specs.declared.service.Service.{Service}
use Rattle.rpcsec_bodies.specs.declared.service.Service.TheVariants as services

-- the number of a service in a credential
abbrev pub number_of : Service → ℕ
number_of services.None = RPC_GSS_SVC_NONE
number_of services.Integrity = RPC_GSS_SVC_INTEGRITY
number_of services.Privacy = RPC_GSS_SVC_PRIVACY

-- the service of a number; a credential that was read has the number of one of the three
abbrev pub service_of : ℕ → Service
service_of number = if number == RPC_GSS_SVC_NONE then services.None
    else if number == RPC_GSS_SVC_INTEGRITY then services.Integrity else services.Privacy
