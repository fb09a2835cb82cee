-- Codes from the hash values after the pads.
use Rattle.std.proofs.Common.{◌≡◌, ℕ, ◌-◌, ◌≤◌, List, ◌++◌, length, replicate, refl, sym, ap, ◌∙◌, arith, inl, inr, length-append}
use Rattle.std.specs.Int.Bits.{bit_xor}
use Rattle.std.proofs.lemmas.Bool.{le-leb, lt-leb, cases_lt}
use Rattle.std.proofs.lemmas.List.{length-map, length-replicate, take_all}
use Rattle.sha1.specs.Sha1.{sha1, digest_bytes, hash_after, compress, initial_hash}
use Rattle.sha1.proofs.Absorbing.{hash_after_next}
use Rattle.mac_sha1.specs.Mac.{short_key, block_key, added, inner_pad, outer_pad, hmac}

length-sha1 : (m : List ℕ) → length (sha1 m) ≡ 20
unfolding sha1 digest_bytes
length-sha1 m = refl

length-short_key : (key : List ℕ) → length (short_key key) ≤ 64
length-short_key key = elim (cases_lt (length key) 65) [
  | inl lt ↦ rw (le-leb (length key) 64 (omega arith)) (omega arith)
  | inr ge ↦ rw (lt-leb (length key) 64 (omega arith), length-sha1 key) (omega arith)
]

length-block_key : (key : List ℕ) → length (block_key key) ≡ 64
unfolding block_key
length-block_key key =
    omega (arith, length-append (short_key key) (replicate (64 - length (short_key key)) 0), length-replicate {A = ℕ} (64 - length (short_key key)) 0, length-short_key key)

-- a pad is a block
pub length-pad : (with : ℕ) (key : List ℕ) → length (added with (block_key key)) ≡ 64
length-pad with key = omega (arith, length-map (block_key key) (λ octet. bit_xor octet with), length-block_key key)

-- the hash value after a pad
pub after_pad : (with : ℕ) (key h pad next : List ℕ) → pad ≡ added with (block_key key) → h ≡ initial_hash → next ≡ compress h pad
    → next ≡ hash_after (added with (block_key key)) 1
unfolding hash_after
after_pad with key h pad next is_pad begun e =
    e ∙ rw (begun, is_pad) (sym (hash_after_next (added with (block_key key)) 0
    ∙ ap (compress initial_hash) (take_all 64 (added with (block_key key)) (omega (arith, length-pad with key)))))

-- the digest of a pad and the digest of the other pad and the message
pub coded : (key m digest code : List ℕ) → digest ≡ sha1 (inner_pad key ++ m) → code ≡ sha1 (outer_pad key ++ digest) → code ≡ hmac key m
unfolding hmac
coded key m digest code inner outer = outer ∙ ap (λ (octets : List ℕ). sha1 (outer_pad key ++ octets)) inner
