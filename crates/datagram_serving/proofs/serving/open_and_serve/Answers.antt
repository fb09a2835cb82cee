use Rattle.std.proofs.Common.{inr, refl, ◌++◌}
use Rattle.gss_server.specs.Hearing.{serving}
use Rattle.again_laws.specs.Below.{asked_in}
use Rattle.datagram_serving.specs.Serving.{turns_of}
use Rattle.datagram_serving.proofs.Once.{once-of, opened-of, limits-of, in-order, seen-of}
use Rattle.datagram_serving.proofs.serving.open_and_serve.Goals as goal

pub returns-in-Ok-clause-served : goal.returns-in-Ok-clause-served
returns-in-Ok-clause-served g c =
    let options = c.args.options in
    let gate = c.in-Ok.gate in
    let is = c.in-Ok.ensures in
    let a = rw c.waits_of-most.ensures at c.serve_by.ensures.told in
    let turns = turns_of (serving g.S.Speller.says options.window) (a.served.answered ++ a.served.last) in
    let has = c.prove_below.ensures turns gate a.gate_new a.served.course.turns in
    let opened = opened-of _ options c.args.keys c.args.start c.args.kept gate is in
    inr (record {
      gate = gate;
      is = is;
      answers = a;
      limits = limits-of options c.args.keys c.args.start gate.gate.seat c.serve_by.result.log opened a.under;
      turns = turns;
      turns_are = refl;
      once = once-of c.prove_acts_once.ensures.acts_once _ options c.args.keys c.args.start c.args.kept gate is (λ old one new b. b.book) turns a.gate_new a.served.course.turns a.legal;
      in_order = in-order _ options c.args.keys c.args.start c.args.kept gate a.gate_new (asked_in turns) c.serve_by.result.log is (λ old one new b. b.book) has a.entries;
      asked = has;
      seen = seen-of _ options c.args.keys c.args.start c.args.kept gate a.gate_new (asked_in turns) is (λ old one new b. b.book) has a.legal;
    })
