use Rattle.ap_exchange.proofs.Found.{judges, takes}
use Rattle.ap_exchange.proofs.Honest.{honest_request, honest_reply}
use Rattle.ap_exchange.proofs.Reasons.{judged-reasons, taken-reasons, request-reasons}
use Rattle.ap_exchange.proofs.laws.prove_laws.Goals as goal

pub returns : goal.returns
returns c = record {
  judges = judges;
  takes = takes;
  honest_request = honest_request;
  honest_reply = honest_reply;
  judged_reasons = judged-reasons;
  taken_reasons = taken-reasons;
  request_reasons = request-reasons;
}
