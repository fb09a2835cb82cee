use Rattle.spnego_core.specs.Ends.{setup_of}
use Rattle.pair_laws.proofs.Meetings.{if-told}
use Rattle.pair_laws.proofs.meeting.prove_meeting.Goals as goal

pub returns : goal.returns
returns c = if-told (setup_of c.args.own) c.args.draws.now c.tell_creds.result c.requires c.tell_size.ensures c.tell_sizes.ensures c.tell_creds.ensures
