use Rattle.server_options.specs.Options.{options_of}
use Rattle.service_kit.proofs.Acts.{unopened-acted, opened-acted, either, chosen}
use Rattle.service_kit.proofs.running.run_program.Goals as goal

pub returns-clause-acted : goal.returns-clause-acted
returns-clause-acted g c = either (options_of c.args.words.now)
    (λ refusal is. let none = c.run_server-ended.ensures.unasked refusal is in unopened-acted g.V.Program _ _ _ _ _ none.0 none.1)
    (λ options is. chosen (c.run_server-ended.ensures.booked options is)
    (λ idle. unopened-acted g.V.Program _ _ _ _ _ idle.1 idle.2)
    (λ one. opened-acted g.V.Program _ _ _ _ _ _ _ _ _ _ _ _ _ _ _ _ _ _ one.2))

pub returns-clause-ended : goal.returns-clause-ended
returns-clause-ended g c = let e = c.run_server-ended.ensures in record {
  usage = e.usage;
  always = e.always_usage;
  unread = λ refusal is. (e.unasked refusal is).0.empty;
  legal = e.legal;
  limits = e.limits;
}
