-- A request of Kerberos that comes without negotiation: RFC 4178 section 3.2 lets an acceptor take
-- a mechanism's own token.
use Rattle.std.specs.Prelude.{ℕ, Bool, ◌&&◌, if◌then◌else◌, List, Option, Some, None, Result, Ok}
use Rattle.std.specs.Prelude.{Err}
use Rattle.gss_base.specs.declared.mech.MechKind.TheVariants.{Kerberos}
use Rattle.gss_base.specs.Mech.{mech_of}
use Rattle.der_core.specs.declared.refusal.DerRefusal.{DerRefusal}
use Rattle.der_core.specs.Format.{all_of}
use Rattle.der_core.specs.Frame.{framed}
use Rattle.spnego_core.specs.declared.setup.AcceptSetup.{AcceptSetup}
use Rattle.spnego_core.specs.Choice.{is_first, is_kind}

-- the identifier, where it is one of Kerberos's two
abbrev pub if_kerberos : List ℕ → Option (List ℕ)
if_kerberos oid = if is_kind (mech_of oid) Kerberos then Some oid else None

-- the same of what stands in a frame
abbrev pub kerberos_in : Result (List ℕ × List ℕ) DerRefusal → Option (List ℕ)
kerberos_in (Ok frame) = if_kerberos frame.0
kerberos_in (Err refusal) = None

-- the identifier of Kerberos in a token's frame (RFC 2743 section 3.1), where it has one there
unfoldable pub kerberos_framed : List ℕ → Option (List ℕ)
kerberos_framed token = kerberos_in (framed.read (all_of token))

-- such tokens are taken where that was chosen and Kerberos is the first of the offer: else who
-- strips the negotiation from a token would settle a context against the acceptor's first choice
abbrev pub takes_bare : AcceptSetup → Bool
takes_bare setup = setup.bare && is_first setup.offer Kerberos

-- the identifier under which a first token is taken as Kerberos's own; none where it negotiates
abbrev pub bare_oid : AcceptSetup → List ℕ → Option (List ℕ)
bare_oid setup token = if takes_bare setup then kerberos_framed token else None
