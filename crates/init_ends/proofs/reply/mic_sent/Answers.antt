use Rattle.spnego_core.proofs.ShortInit.{if_mic}
use Rattle.init_ends.proofs.reply.mic_sent.Goals as goal

pub returns-clause-short : goal.returns-clause-short
returns-clause-short c =
    if_mic c.args.outcome.now c.as_slice.result.now c.in_ok-mic.mic c.resp_octets.result c.in_ok-mic.ensures.exact c.resp_octets.ensures
