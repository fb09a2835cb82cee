use Rattle.std.proofs.lemmas.Result.{on_ok_weaker}
use Rattle.der_core.specs.Format.{Puts}
use Rattle.der_core.specs.Element.{element}
use Rattle.krb_msgs.specs.TypedOctets.{typed_octets}
use Rattle.krb_msgs.specs.TransitedEncoding.{transited_encoding}
use Rattle.krb_msgs.proofs.transited_encoding.TransitedEncodingElement.put.Goals as goal

pub returns : goal.returns
unfolding transited_encoding
returns c = on_ok_weaker c.put_typed_octets.result (λ (p : Puts (element 0x30 typed_octets) (c.args.self.now.tr_type, (c.args.self.now.contents, tt)) _ _). record { spells = p.spells; fits = p.fits }) c.put_typed_octets.ensures
