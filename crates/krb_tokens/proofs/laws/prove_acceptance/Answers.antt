use Rattle.krb_tokens.proofs.Accepted.{mic-only, mic-all}
use Rattle.krb_tokens.proofs.AcceptedWraps.{wrap-only, wrap-all}
use Rattle.krb_tokens.proofs.laws.prove_acceptance.Goals as goal

pub returns-clause-mics : goal.returns-clause-mics
returns-clause-mics c = λ token octets small. (mic-only c.args.end.now token octets small, mic-all c.args.end.now token octets)

pub returns-clause-wraps : goal.returns-clause-wraps
returns-clause-wraps c = λ sealed token content small.
    let kept = rw (c.seal_usage.ensures, c.other.ensures) at c.of-keys.ensures in (
      wrap-only c.of-keys.result c.args.end.now sealed token content kept small,
      wrap-all c.of-keys.result c.args.end.now sealed token content kept,
    )
