-- An opaque that is all there is: nothing is left after it.
use Rattle.std.proofs.Common.{◌≡◌, ℕ, List, [], length, eqb, Ok, ap, ◌∙◌, ◌++◌}
use Rattle.std.proofs.lemmas.Bool.{eqb-true}
use Rattle.std.proofs.lemmas.List.{append-nil, nil_from_length}
use Rattle.rpc_msgs.specs.Words.{opaque}
use Rattle.rpc_msgs.specs.Xdr.{Input, Answers, refusal, place, end_at}
use Rattle.rpc_msgs.specs.declared.xdr_reader.XdrWhy.TheVariants.{TooLong}
use Rattle.rpc_msgs.proofs.XdrLaws.{refused_else}

pub none-left : (i : Input) (u : Unit {0}) → Answers (λ (v : Unit {0}). v) (Ok u) (end_at i) → i.octets ≡ []
unfolding end_at
none-left i u e = nil_from_length i.octets (eqb-true (length i.octets) 0 (refused_else (eqb (length i.octets) 0) (refusal TooLong (place i)) (Ok tt) u e).0)

pub is-opaque : (octets value rest : List ℕ) → octets ≡ opaque value ++ rest → rest ≡ [] → octets ≡ opaque value
is-opaque octets value rest e none = e ∙ (ap (λ (r : List ℕ). opaque value ++ r) none ∙ append-nil (opaque value))
