use Rattle.std.proofs.Common.{◌≡◌, ◌∙◌, refl, ap, inl, Err, arith}
use Rattle.rpc_msgs.specs.Records.{octets_in}
use Rattle.gss_server.specs.Hearing.{serving}
use Rattle.gss_server.proofs.KeptInARow.{makes-none, makes-so}
use Rattle.gss_server.proofs.Turning.{asked-none, turned, unread}
use Rattle.gss_server.proofs.connection.turn.Goals as goal

pub returns-in-Ok-clause-turned : goal.returns-in-Ok-clause-turned
returns-in-Ok-clause-turned g c =
    let read = c.in-Ok.ensures.told in
    let octets : c.as_slice.result.now ≡ octets_in read.0 = c.as_slice.ensures ∙ read.2 in
    makes-so c.reply_to_record.ensures.replied
    (λ xs p. (p.0, turned _ _ (serving g.G.Gate.program c.args.width) _ xs read.0 c.reply_to_record.result read.1 read.3 (rw (c.in-Ok.ensures.link_left.kept.tells, octets) at p.1)))

pub returns-in-Err-clause-turned : goal.returns-in-Err-clause-turned
returns-in-Err-clause-turned g c =
    makes-none refl (omega arith, inl (unread c.in-Err.end (asked-none _ _ _ _ 2 _) (λ e. c.in-Err.ensures.early (ap Err e)) (λ e. c.in-Err.ensures.known (ap Err e)) c.in-Err.ensures.told))
