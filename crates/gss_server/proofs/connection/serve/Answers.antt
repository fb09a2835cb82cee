use Rattle.std.proofs.Common.{arith, ◌∙◌, ◌+◌, ℕ, refl, ap, sym, length}
use Rattle.std.proofs.lemmas.List.{length-append}
use Rattle.gss_server.proofs.KeptInARow.{makes-none, makes-again}
use Rattle.gss_server.proofs.Turning.{asked-none, joined, serving-none, serving-more, serving-stop, one-more}
use Rattle.gss_server.proofs.connection.serve.Goals as goal

pub returns-in-Some-clause-served : goal.returns-in-Some-clause-served
returns-in-Some-clause-served g c =
    let was = c.loop-number.invariant in
    makes-again was.served c.in-Some.ensures.turned
    (λ xs ys p q. (
      q.0 ∙ (ap (λ (k : ℕ). k + length ys) p.0 ∙ sym (length-append xs ys)),
      serving-stop c.loop-number.number c.in-Some.end (joined _ _ _ was.gate_kept.tells c.loop-number-test.true) c.loop-number-test.true p.1 (rw was.link_kept.tells at q.1),
    ))

pub loop-number-preserved : goal.loop-number-preserved
loop-number-preserved g c =
    let was = c.loop-number.invariant in
    let now = c.in-None.ensures in record {
      served = makes-again was.served now.turned
          (λ xs ys p q. (
            q.0 ∙ (ap (λ (k : ℕ). k + length ys) p.0 ∙ sym (length-append xs ys)),
            serving-more c.loop-number.number (joined _ _ _ was.gate_kept.tells c.loop-number-test.true) p.1 (rw was.link_kept.tells at q.1),
          ));
      count = omega (arith, was.count, now.turned.holds.0, one-more now.turned.holds.1);
      link_kept = record {
        tells = now.link_left.kept.tells ∙ was.link_kept.tells;
        unclosed = now.link_left.kept.unclosed;
        faults = omega (arith, was.link_kept.faults, now.link_left.kept.faults);
      };
      link_steady = now.link_left.steady (λ e. cc) ∙ was.link_steady;
      gate_kept = record { tells = now.gate_kept.tells ∙ was.gate_kept.tells; limits = now.gate_kept.limits ∙ was.gate_kept.limits };
    }

pub loop-number-init : goal.loop-number-init
loop-number-init g c = record {
  served = makes-none refl (c.requires.none, serving-none (g.L.Link.wire c.args.link.now) (asked-none _ _ _ _ 131072 _));
  count = c.requires.none;
  link_kept = record { tells = refl; unclosed = c.requires.unclosed; faults = omega arith };
  link_steady = refl;
  gate_kept = record { tells = refl; limits = refl };
}
