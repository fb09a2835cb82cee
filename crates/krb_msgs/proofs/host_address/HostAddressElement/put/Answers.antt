use Rattle.std.proofs.lemmas.Result.{on_ok_weaker}
use Rattle.der_core.specs.Format.{Puts}
use Rattle.der_core.specs.Element.{element}
use Rattle.krb_msgs.specs.TypedOctets.{typed_octets}
use Rattle.krb_msgs.specs.HostAddress.{host_address}
use Rattle.krb_msgs.proofs.host_address.HostAddressElement.put.Goals as goal

pub returns : goal.returns
unfolding host_address
returns c = on_ok_weaker c.put_typed_octets.result (λ (p : Puts (element 0x30 typed_octets) (c.args.self.now.addr_type, (c.args.self.now.address, tt)) _ _). record { spells = p.spells; fits = p.fits }) c.put_typed_octets.ensures
