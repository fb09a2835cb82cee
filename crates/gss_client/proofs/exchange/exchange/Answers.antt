use Rattle.std.proofs.Common.{IsTrue}
use Rattle.sec_base.proofs.InARow.{put-told}
use Rattle.gss_client.proofs.Parts.{talks-exchanged, stopped-writing}
use Rattle.gss_client.proofs.exchange.exchange.Goals as goal

pub returns-in-Ok-clause-told : goal.returns-in-Ok-clause-told
returns-in-Ok-clause-told g c = λ t.
    let tells : IsTrue (g.L.Link.tells c.write_record.new.link) = rw c.in-Ok.ensures.tells t in
    talks-exchanged _ _ _ c.args.call.now c.listen.result (put-told t c.in-Ok.ensures.told) (c.listen.ensures.told tells)

pub returns-in-Err-clause-told : goal.returns-in-Err-clause-told
returns-in-Err-clause-told g c = λ t. let r = c.in-Err.ensures.told in stopped-writing c.args.call.now r.0 (put-told t r.1)
