use Rattle.std.proofs.Math.Nat.{le_trans, le_refl}
use Rattle.std.proofs.Common.{◌≡◌, ◌+◌, ◌∙◌, ap, refl, arith, ℕ, IsTrue}
use Rattle.sasl_gssapi.specs.declared.accept.SaslAccept.TheVariants.{Asked}
use Rattle.sasl_command.specs.Serving.{limit, Serves, IsServed, IsBefore, age}
use Rattle.sasl_command.specs.declared.serving.Stage.TheVariants.{Before}
use Rattle.sasl_command.proofs.Turning.{leads-none, leads-on, leads-end}
use Rattle.sasl_command.proofs.ServeTurns.{served}
use Rattle.sasl_command.proofs.serving.serve.Goals as goal

pub loop-number-init : goal.loop-number-init
loop-number-init g c = record {
  ages = rw c.new.ensures refl;
  spare = omega arith;
  told = λ t. rw c.new.ensures (leads-none (Serves c.args.setup.now) (Before (Asked c.args.wish)) _);
  tells = refl;
  unclosed = c.requires;
  faults = le_refl _;
}

pub loop-number-preserved : goal.loop-number-preserved
loop-number-preserved g c = record {
  ages = c.in-Ok.ensures.ages ∙ ap (λ (n : ℕ). n + 1) c.loop-number.invariant.ages;
  spare = c.in-Ok.ensures.spare;
  told = λ t.
      let tells : IsTrue (g.L.Link.tells c.loop-number.link) = rw c.loop-number.invariant.tells t in
      leads-on (Serves c.args.setup.now) (Before (Asked c.args.wish)) c.loop-number.stage c.in-Ok.next (c.loop-number.invariant.told t) (c.in-Ok.ensures.told tells);
  tells = c.in-Ok.ensures.tells ∙ c.loop-number.invariant.tells;
  unclosed = c.in-Ok.ensures.unclosed;
  faults = le_trans c.loop-number.invariant.faults c.in-Ok.ensures.faults;
}

pub returns-in-Err-clause-told : goal.returns-in-Err-clause-told
returns-in-Err-clause-told g c = λ t.
    let tells : IsTrue (g.L.Link.tells c.loop-number.link) = rw c.loop-number.invariant.tells t in
    let e = c.in-Err.ensures.told tells in
    record {
      stands = c.loop-number.stage;
      spoken = leads-end (Serves c.args.setup.now) limit IsServed IsBefore (Before (Asked c.args.wish)) c.loop-number.stage c.in-Err.parted.end (c.loop-number.invariant.told t) e.0;
      facts_are = e.1;
    }

pub returns-in-Err-clause-tells : goal.returns-in-Err-clause-tells
returns-in-Err-clause-tells g c = c.in-Err.ensures.tells ∙ c.loop-number.invariant.tells

pub returns-in-Err-clause-fault : goal.returns-in-Err-clause-fault
returns-in-Err-clause-fault g c = λ e n. omega (arith, c.in-Err.ensures.fault e n, c.loop-number.invariant.faults)

pub returns-in-Err-clause-faults : goal.returns-in-Err-clause-faults
returns-in-Err-clause-faults g c = le_trans c.loop-number.invariant.faults c.in-Err.ensures.faults

pub returns-clause-told : goal.returns-clause-told
returns-clause-told g c = λ t.
    let all : age c.loop-number.stage ≡ 65539 = omega (arith, c.loop-number.invariant.ages) in
    record {
      stands = c.loop-number.stage;
      spoken = served c.args.setup.now c.args.wish c.loop-number.stage (c.loop-number.invariant.told t) all;
      facts_are = c.facts_of-facts.ensures;
    }

pub returns-clause-tells : goal.returns-clause-tells
returns-clause-tells g c = c.loop-number.invariant.tells

pub returns-clause-unclosed : goal.returns-clause-unclosed
returns-clause-unclosed g c = c.loop-number.invariant.unclosed

pub returns-clause-faults : goal.returns-clause-faults
returns-clause-faults g c = c.loop-number.invariant.faults
