use Rattle.std.proofs.Common.{◌≡◌, ◌+◌, ◌-◌, ◌∙◌, refl, sym, ap, length, List, ℕ, ◌++◌}
use Rattle.std.proofs.lemmas.List.{append_assoc, take_rest}
use Rattle.rpc_msgs.specs.Words.{word}
use Rattle.rpcsec_msgs.specs.Bodies.{checked_octets}
use Rattle.rpcsec_bodies.proofs.Behind.{databody-at, fits-behind, opaque-behind, checked-behind}
use Rattle.rpcsec_bodies.proofs.Lengths.{databody-size}
use Rattle.rpcsec_bodies.proofs.protection.put_signed.Goals as goal

pub overflow_sub-octets : goal.overflow_sub-octets
overflow_sub-octets c =
    let size : ℕ = length c.args.content.now + 4 in
    fits-behind c.args.out (word size) (word c.args.seq ++ c.args.content.now) c.as_slice-octets.result.now size (databody-size c.args.seq c.args.content.now)
    (c.as_slice-octets.ensures ∙ c.in_ok-put_databody.ensures)

pub returns : goal.returns
returns c =
    let size : ℕ = length c.args.content.now + 4 in
    let databody : List ℕ = word c.args.seq ++ c.args.content.now in
    let octets : List ℕ = c.as_slice-octets.result.now in
    let long : size ≡ length databody = databody-size c.args.seq c.args.content.now in
    let shown = take_rest octets (length octets - size)
    ∙ databody-at c.args.out (word size) databody octets size long (c.as_slice-octets.ensures ∙ c.in_ok-put_databody.ensures) in
    let mic = rw (c.token_number.ensures, shown) at c.make_mic_by-mic.ensures.value in
    let whole = opaque-behind c.args.out databody (c.args.out ++ word size) c.put_databody.new.out c.padding.new.self size long refl
    (c.in_ok-put_databody.ensures ∙ sym (append_assoc c.args.out (word size) databody)) c.in_ok-padding.ensures in
    checked-behind c.args.out databody c.make_mic_by-mic.result c.padding.new.self c.opaque.new.self whole c.in_ok-opaque.ensures
    ∙ ap (λ (tag : List ℕ). c.args.out ++ checked_octets databody tag) mic
