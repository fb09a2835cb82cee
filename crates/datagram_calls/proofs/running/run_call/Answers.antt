use Rattle.client_command.proofs.Listing.{fit-alone}
use Rattle.datagram_calls.proofs.running.run_call.Goals as goal

pub run_by-ended-requires-clause-bare : goal.run_by-ended-requires-clause-bare
run_by-ended-requires-clause-bare g c = λ off.
    c.short_creds-creds.ensures.bare (c.creds_given.ensures.bare (fit-alone c.args.words.plan.negotiates c.args.words.sources.mechs c.requires.fit off))

pub returns-clause-runs : goal.returns-clause-runs
returns-clause-runs g c = record {
  creds = c.creds_given.result;
  read = c.creds_given.ensures.read;
  behind = rw c.short_creds-creds.ensures.value at c.run_by-ended.ensures.behind;
}
