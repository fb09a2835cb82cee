-- The credentials of a run over datagrams: each creation call has room in one.
use Rattle.std.specs.Prelude.{Bool, true, nat_le, List, length, Result, Ok, Err}
use Rattle.std.specs.Prelude.{if◌then◌else◌}
use Rattle.std.specs.List.{list_all}
use Rattle.spnego_core.specs.declared.setup.MechCred.{MechCred}
use Rattle.spnego_core.specs.declared.setup.MechCred.TheVariants as creds
use Rattle.client_options.specs.declared.ending.RunEnd.{RunEnd}
use Rattle.client_options.specs.declared.ending.RunEnd.TheVariants.{NoCredential}

-- a credential's ticket, where it has one, has at most 7,000 octets
abbrev pub is_short : MechCred → Bool
is_short (creds.Kerberos name granted) = nat_le (length granted.ticket) 7000
is_short (creds.Scram user password) = true

-- each one's has
abbrev pub are_short : List MechCred → Bool
are_short list = list_all is_short list

-- the credentials of a run over datagrams: one whose ticket is longer counts as none
abbrev pub short_creds : Result (List MechCred) RunEnd → Result (List MechCred) RunEnd
short_creds (Ok list) = if are_short list then Ok list else Err NoCredential
short_creds (Err end) = Err end
