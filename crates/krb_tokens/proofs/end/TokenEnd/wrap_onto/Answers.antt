use Rattle.std.proofs.Common.{◌≡◌, ℕ, true, List, ◌++◌, length, arith}
use Rattle.aes_cts.specs.Cipher.{IsOctets}
use Rattle.aes_cts.proofs.Restored.{append-IsOctets}
use Rattle.krb_tokens.specs.Wrap.{wrap_header}
use Rattle.krb_tokens.proofs.Octets.{wrap_header-IsOctets}
use Rattle.krb_tokens.proofs.Unwrapping.{sealed-taken}
use Rattle.krb_tokens.proofs.Wrapped.{room_behind, wrapped_behind}
use Rattle.krb_tokens.proofs.end.TokenEnd.wrap_onto.Goals as goal

pub seal_behind-requires : goal.seal_behind-requires
seal_behind-requires c =
    let start : c.len-start.result ≡ length c.extend_from_slice.new.self.items = omega arith in
    rw start (room_behind c.args.confounder.now _ c.extend_from_slice.new.self.items c.put_plain.new.list.items c.told-confounder c.in_ok-put_plain.ensures)

pub returns-clause-value : goal.returns-clause-value
returns-clause-value c =
    let start : c.len-start.result ≡ length c.extend_from_slice.new.self.items = omega arith in
    wrapped_behind c.args.self.now c.args.number c.args.confounder.now (c.args.first.now ++ c.args.second.now) c.args.list.items c.wrap_header-header.result
    c.extend_from_slice.new.self.items c.put_plain.new.list.items c.seal_behind.new.list.items c.told-confounder c.wrap_header-header.ensures
    c.in_ok-extend_from_slice.ensures.items c.in_ok-put_plain.ensures (rw start at c.in_ok-seal_behind.ensures.value)

pub returns-clause-unwraps : goal.returns-clause-unwraps
returns-clause-unwraps c = λ rotation small.
    let header : List ℕ = wrap_header c.args.self.now true 0 0 c.args.number in
    let octets : List ℕ = c.args.first.now ++ c.args.second.now in
    let fit : IsOctets (c.args.confounder.now ++ (octets ++ header)) =
    append-IsOctets c.args.confounder.now (octets ++ header) c.fits-confounder
    (append-IsOctets octets header (append-IsOctets c.args.first.now c.args.second.now (λ i. (c.type_inv.first i).fits) (λ i. (c.type_inv.second i).fits))
    (wrap_header-IsOctets c.args.self.now true 0 0 c.args.number)) in
    sealed-taken c.args.self.now c.args.number rotation c.args.confounder.now octets small c.in_ok-seal_behind.ensures.opens c.told-confounder fit
