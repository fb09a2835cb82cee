-- Octets that are spelled alone read as what they are.
use Rattle.std.proofs.Common.{◌≡◌, ℕ, ◌≤◌, ◌<◌, ◌^◌, lit<, true, refl, ap, sym, ◌∙◌, List, [], length, Ok}
use Rattle.std.proofs.lemmas.List.{append-nil}
use Rattle.rpc_msgs.specs.Words.{opaque}
use Rattle.rpc_msgs.specs.Xdr.{opaque_at}
use Rattle.rpc_msgs.proofs.XdrLaws.{opaque_law}
use Rattle.rpcsec_msgs.proofs.BodyLaws.{end-only}
use Rattle.rpc_msgs.specs.Opaque.{opaque_alone}
use Rattle.posts_program.specs.Posts.{is_one_opaque}

pub alone-read : (limit : ℕ) (octets : List ℕ) → limit < 2 ^ 32 → length octets ≤ limit → opaque_alone limit (opaque octets) ≡ Ok octets
unfolding opaque_alone
alone-read limit octets fits h =
    let end : ℕ = length (opaque octets) in
    let read : opaque_at limit (record { octets = opaque octets; end = end }) ≡ Ok (octets, record { octets = []; end = end }) =
    ap (λ (zs : List ℕ). opaque_at limit (record { octets = zs; end = end })) (sym (append-nil (opaque octets))) ∙ (opaque_law limit fits).only octets [] end h in
    rw (read, end-only end) refl

pub one-fits : (octets : List ℕ) → length octets ≤ 65536 → is_one_opaque (opaque octets) ≡ true
one-fits octets h = rw (alone-read 65536 octets (lit< tt) h) refl
