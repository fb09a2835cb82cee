-- The octets of a word are those of the number's low 32 bits.
use Rattle.std.proofs.Common.{◌≡◌, ℕ, ◌%◌, ◌∷◌, [], refl, arith}
use Rattle.rpc_msgs.specs.Words.{word}

octets-same : {a b c d x y z w : ℕ} → a ≡ x → b ≡ y → c ≡ z → d ≡ w → a ∷ b ∷ c ∷ d ∷ [] ≡ x ∷ y ∷ z ∷ w ∷ []
octets-same e f g h = rw (e, f, g, h) refl

pub low-octets : (n : ℕ) → word (n % 4294967296) ≡ word n
unfolding word
low-octets n = octets-same (omega arith) (omega arith) (omega arith) (omega arith)
