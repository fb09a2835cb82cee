use Rattle.std.proofs.Common.{◌≡◌, ◌<◌, ◌∷◌, [], List, ℕ, length, refl, arith}
use Rattle.sha1.specs.Sha1.{sha1, digest_bytes, hash_after, compress, rounds, schedule, first_words}
use Rattle.gss_server.proofs.calling.digest_of.Goals as goal

-- a list shorter than one is empty
none : (xs : List ℕ) → length xs < 1 → xs ≡ []
none [] less = refl
none (x ∷ xs) less = absurd (omega (arith, less))

of-none : sha1 [] ≡ 218 ∷ 57 ∷ 163 ∷ 238 ∷ 94 ∷ 107 ∷ 75 ∷ 13 ∷ 50 ∷ 85 ∷ 191 ∷ 239 ∷ 149 ∷ 96 ∷ 24 ∷ 144 ∷ 175 ∷ 216 ∷ 7 ∷ 9 ∷ []
unfolding sha1 digest_bytes hash_after compress rounds schedule first_words
of-none = refl

pub returns-in-empty : goal.returns-in-empty
returns-in-empty c = rw (none c.args.args.now c.in-empty.len_below, of-none) refl
