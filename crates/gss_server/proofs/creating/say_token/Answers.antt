use Rattle.std.proofs.Common.{◌≡◌, false, eqb, arith}
use Rattle.std.proofs.lemmas.Bool.Decides.{nat_tests}
use Rattle.gss_server.proofs.creating.say_token.Goals as goal

pub returns-then-cred-eq-RPCSEC_GSS_INIT : goal.returns-then-cred-eq-RPCSEC_GSS_INIT
returns-then-cred-eq-RPCSEC_GSS_INIT g c = record { ruled = rw c.if-cred-eq-RPCSEC_GSS_INIT.true c.ask_for_step.ensures.ruled }

pub returns : goal.returns
returns g c =
    let later : eqb c.args.cred.now.proc 1 ≡ false = grind (arith, nat_tests, c.if-cred-eq-RPCSEC_GSS_INIT.false) in
    record { ruled = rw later (rw c.id_in.ensures at c.say_continued.ensures.ruled) }
