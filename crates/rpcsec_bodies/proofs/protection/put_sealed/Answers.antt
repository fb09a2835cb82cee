use Rattle.std.proofs.Common.{◌+◌, ◌*◌, ◌∙◌, true, refl, length, ◌++◌}
use Rattle.rpc_msgs.specs.Words.{word}
use Rattle.krb_tokens.specs.Wrap.{wrap_of}
use Rattle.rpcsec_bodies.proofs.Behind.{opaque-behind}
use Rattle.rpcsec_bodies.proofs.Lengths.{sealed-size}
use Rattle.rpcsec_bodies.proofs.Made.{opens-made}
use Rattle.rpcsec_bodies.proofs.protection.put_sealed.Goals as goal

pub returns-clause-value : goal.returns-clause-value
unfolding word
returns-clause-value c =
    let made = rw (c.token_number.ensures, c.to_be_bytes-front.ensures) at c.in_ok-list.ensures.value in
    opaque-behind c.args.out (wrap_of c.args.end.now (2 * c.args.seq + 1) true c.args.confounder.now (word c.args.seq ++ c.args.content.now))
    c.into_vec-list.result.items c.over-out.result c.padding.new.self (length c.args.content.now + 4 + 60)
    (sealed-size c.args.end.now c.args.seq c.args.confounder.now c.args.content.now c.told-confounder)
    (c.into_vec-list.ensures ∙ c.in_ok-word.ensures) (c.over-out.ensures ∙ made) c.in_ok-padding.ensures

pub returns-clause-opens : goal.returns-clause-opens
unfolding word
returns-clause-opens c =
    opens-made c.args.end.now (2 * c.args.seq + 1) c.args.confounder.now (word c.args.seq ++ c.args.content.now)
    (wrap_of c.args.end.now (2 * c.args.seq + 1) true c.args.confounder.now (word c.args.seq ++ c.args.content.now)) refl
    (rw (c.token_number.ensures, c.to_be_bytes-front.ensures) at c.in_ok-list.ensures.unwraps)
