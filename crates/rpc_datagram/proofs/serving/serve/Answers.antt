use Rattle.std.proofs.Common.{◌∙◌, ◌+◌, [], refl, sym, arith}
use Rattle.std.proofs.lemmas.List.{append-nil}
use Rattle.gss_server.proofs.KeptInARow.{makes-none, makes-again}
use Rattle.gss_server.specs.Hearing.{serving}
use Rattle.rpc_datagram.specs.declared.serving.ServeEnd.TheVariants as ends
use Rattle.rpc_datagram.proofs.Rows.{nothing, then-one, goes-on, breaks-off}
use Rattle.rpc_datagram.proofs.serving.serve.Goals as goal

pub loop-init : goal.loop-init
loop-init g c = record {
  served = makes-none refl (nothing g.P.Post g.G.Gate (serving g.G.Gate.program c.args.width) 0 ends.Done [] _ _ _ refl refl (λ t. sym (append-nil _)) (λ t. refl));
  tells = refl;
  faults = omega arith;
  limits = refl;
}

pub loop-preserved : goal.loop-preserved
loop-preserved g c =
    let was = c.loop.invariant in
    let now = c.in-Done.ensures in record {
      served = makes-again was.served now.served
          (λ xs ys p q. then-one g.P.Post g.G.Gate (serving g.G.Gate.program c.args.width) c.loop.counter (c.loop.counter + 1) ends.Done _ _ _ _ _ _ xs ys (goes-on g.P.Post g.G.Gate (serving g.G.Gate.program c.args.width) c.loop.counter) was.tells p q);
      tells = now.left.tells ∙ was.tells;
      faults = omega (arith, was.faults, now.left.faults);
      limits = now.gate_kept.limits ∙ was.limits;
    }

pub returns-in-PostFault-clause-served : goal.returns-in-PostFault-clause-served
returns-in-PostFault-clause-served g c =
    let was = c.loop.invariant in
    makes-again was.served c.in-PostFault.ensures.served
    (λ xs ys p q. then-one g.P.Post g.G.Gate (serving g.G.Gate.program c.args.width) c.loop.counter c.args.most ends.PostFault _ _ _ _ _ _ xs ys (λ i j. breaks-off g.P.Post g.G.Gate (serving g.G.Gate.program c.args.width) c.loop.counter c.args.most i j (omega (arith, c.loop-test.true))) was.tells p q)

pub returns-in-NoMemory-clause-served : goal.returns-in-NoMemory-clause-served
returns-in-NoMemory-clause-served g c =
    let was = c.loop.invariant in
    makes-again was.served c.in-NoMemory.ensures.served
    (λ xs ys p q. then-one g.P.Post g.G.Gate (serving g.G.Gate.program c.args.width) c.loop.counter c.args.most ends.NoMemory _ _ _ _ _ _ xs ys (λ i j. breaks-off g.P.Post g.G.Gate (serving g.G.Gate.program c.args.width) c.loop.counter c.args.most i j (omega (arith, c.loop-test.true))) was.tells p q)
