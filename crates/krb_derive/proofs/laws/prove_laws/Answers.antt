use Rattle.krb_derive.proofs.Makings.{opening_verifies, checking_verifies, among_both, among_front, among_back}
use Rattle.krb_derive.proofs.laws.prove_laws.Goals as goal

pub returns : goal.returns
returns c = record {
  opening_verifies = opening_verifies;
  checking_verifies = checking_verifies;
  among_both = among_both;
  among_front = among_front;
  among_back = among_back;
}
