-- A signed token has no confounder, and how long it is; how long Kerberos's answer is.
use Rattle.std.proofs.Common.{◌≡◌, ℕ, ◌+◌, ◌≤◌, false, refl, arith, List, length}
use Rattle.krb_tokens.specs.declared.end.TokenEnd.{TokenEnd}
use Rattle.krb_tokens.specs.Wrap.{wrap_of}
use Rattle.ap_exchange.specs.declared.judged.Judged.{Judged}
use Rattle.ap_exchange.specs.Answer.{answer_token}
use Rattle.spnego_core.proofs.Sizes.{answer_within}
use Rattle.sasl_layer.proofs.Sizes.{signed-long}

pub signed_any : (end : TokenEnd) (number : ℕ) (a b octets : List ℕ) → wrap_of end number false a octets ≡ wrap_of end number false b octets
unfolding wrap_of
signed_any end number a b octets = refl

pub signed_long : (end : TokenEnd) (number : ℕ) (confounder octets : List ℕ) → length (wrap_of end number false confounder octets) ≡ length octets + 28
signed_long end number confounder octets = signed-long end number confounder octets

pub short_answer : (j : Judged) (draws : List ℕ) → length draws ≡ 66 → length (answer_token j draws) ≤ 65536
short_answer j draws long = omega (arith, (answer_within j draws long).most)
