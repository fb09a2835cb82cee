use Rattle.std.proofs.Common.{rules}
use Rattle.krb_msgs.specs.declared.host_address.HostAddress.{HostAddress}
use Rattle.krb_msgs.specs.HostAddress.{host_address_fields}
use Rattle.krb_msgs.proofs.ReadFields.{reads_field, reads_seen}
use Rattle.krb_msgs.proofs.host_address.HostAddressSequence.read_fields.Goals as goal

pub returns : goal.returns
returns c = reads_seen _ (λ (p : HostAddress). (p.addr_type, (p.address, tt))) host_address_fields (c.field-addr_type.result, (c.field-address.result, tt)) _ _ _ (reads_field _ _ _ _ _ _ _ c.field-addr_type.ensures (reads_field _ _ _ _ _ _ _ c.field-address.ensures c.end.ensures)) (search rules)
