-- How long words and opaques are.
use Rattle.std.proofs.Common.{◌≡◌, ℕ, ◌+◌, List, length, length-append, refl, arith}
use Rattle.std.proofs.lemmas.List.{length-replicate}
use Rattle.rpc_msgs.specs.Words.{word, opaque, padding_length}

pub length-word : (number : ℕ) → length (word number) ≡ 4
unfolding word
length-word number = refl

pub length-opaque : (octets : List ℕ) → length (opaque octets) ≡ 4 + length octets + padding_length (length octets)
unfolding opaque
length-opaque octets = simp (length-append, length-word, length-replicate) (omega arith)
