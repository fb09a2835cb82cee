-- How the hash value of a padded message follows its blocks, from a place in it on.
use Rattle.std.proofs.Common.{◌≡◌, ℕ, ◌+◌, ◌-◌, ◌*◌, ◌/◌, ◌%◌, ◌<◌, ◌≤◌, List, ◌++◌, length, take, drop, replicate, refl, sym, ap, ◌∙◌, arith, inl, inr, ◌≢◌, length-append, length-drop}
use Rattle.std.proofs.lemmas.Bool.{cases_lt}
use Rattle.std.proofs.lemmas.List.{drop-drop, drop_at, drop-take, take-take, take-append-drop, take_all, length-take-le, append_assoc, append-nil, length-replicate}
use Rattle.sha1.specs.Sha1.{compress, hash_after, padding, padded_message, digest_bytes, sha1}
use Rattle.lanes_sha1.specs.Lanes.{block_count}
use Rattle.lanes_sha1.proofs.Joining.{whole_again}
use Rattle.sha1.proofs.Absorbing.{hash_after-append, hash_after_next}

-- what is left of a message, after p, with the padding of both
abbrev pub padded_rest : List ℕ → List ℕ → List ℕ
padded_rest p m = m ++ padding (length (p ++ m))

length-padding : (n : ℕ) → length (padding n) ≡ 9 + (119 - n % 64) % 64
length-padding n = omega (arith, length-append (replicate {A = ℕ} ((119 - n % 64) % 64) 0), length-replicate {A = ℕ} ((119 - n % 64) % 64) 0)

-- the hash value of the blocks of p alone
hash_before : (p x h : List ℕ) (n : ℕ) → n * 64 ≤ length p → h ≡ hash_after p n → h ≡ hash_after (p ++ x) n
hash_before p x h n le e = e ∙ sym (hash_after-append p x n le)

-- one more block of x, which follows p
hash_more : (p x h b : List ℕ) (n i : ℕ) → length p ≡ 64 * n → h ≡ hash_after (p ++ x) (n + i) → b ≡ take 64 (drop (i * 64) x)
    → compress h b ≡ hash_after (p ++ x) (n + (i + 1))
hash_more p x h b n i l e eb =
    let s : n + (i + 1) ≡ n + i + 1 = omega arith in
    let at : (n + i) * 64 ≡ length p + i * 64 = omega arith in
    let rest : drop ((n + i) * 64) (p ++ x) ≡ drop (i * 64) x =
    rw (at, ← drop-drop (i * 64) (length p) (p ++ x), drop_at p x (length p) refl) refl in
    rw s (sym (hash_after_next (p ++ x) (n + i) ∙ rw (rest, ← eb, ← e) refl))

-- the digest, once all blocks are taken
digest_done : (p m h d : List ℕ) (n i : ℕ) → length p ≡ 64 * n → i ≡ block_count m → h ≡ hash_after (p ++ padded_rest p m) (n + i) → d ≡ digest_bytes h 5 → d ≡ sha1 (p ++ m)
unfolding sha1
digest_done p m h d n i l ei eh ed =
    let whole : padded_message (p ++ m) ≡ p ++ padded_rest p m = append_assoc p m (padding (length (p ++ m))) in
    let all = length-append (p ++ m) (padding (length (p ++ m))) in
    let both = length-append p m in
    let pad = length-padding (length (p ++ m)) in
    let count : length (padded_message (p ++ m)) / 64 ≡ n + i = omega (arith, all, both, pad) in
    rw (count, whole, ← eh) ed

-- ---- whole blocks of a piece

take_block : (m : List ℕ) (a : ℕ) → take (a + 64) m ≡ take a m ++ take 64 (drop a m)
take_block m a =
    let whole : take a (take (a + 64) m) ++ drop a (take (a + 64) m) ≡ take (a + 64) m = take-append-drop a (take (a + 64) m) in
    sym (rw (take-take a (a + 64) m (omega arith), drop-take a 64 m) at whole)

-- no block yet
pub advance_none : (p m h : List ℕ) (n : ℕ) → h ≡ hash_after p n → h ≡ hash_after (p ++ take (64 * 0) m) (n + 0)
advance_none p m h n e =
    let z : n + 0 ≡ n = omega arith in
    rw (z, append-nil p) e

-- one more block
pub advance_more : (p m h b next : List ℕ) (n i : ℕ) → length p ≡ 64 * n → 64 * i + 64 ≤ length m → h ≡ hash_after (p ++ take (64 * i) m) (n + i)
    → b ≡ take 64 (drop (64 * i) m) → next ≡ compress h b → next ≡ hash_after (p ++ take (64 * (i + 1)) m) (n + (i + 1))
advance_more p m h b next n i l fits eh block e =
    let a = take (64 * i) m in
    let la : length a ≡ 64 * i = length-take-le (64 * i) m (omega arith) in
    let lb : length b ≡ 64 = ap length block ∙ length-take-le 64 (drop (64 * i) m) (omega (arith, length-drop (64 * i) m)) in
    let s : 64 * (i + 1) ≡ 64 * i + 64 = omega arith in
    let grown : take (64 * (i + 1)) m ≡ a ++ b = rw (s, block) (take_block m (64 * i)) in
    let long : length (p ++ a) ≡ 64 * (n + i) = omega (arith, length-append p a) in
    let z : n + i + 0 ≡ n + i = omega arith in
    let count : n + (i + 1) ≡ n + i + (0 + 1) = omega arith in
    let begun : h ≡ hash_after ((p ++ a) ++ b) (n + i + 0) = rw z (hash_before (p ++ a) b h (n + i) (omega arith) eh) in
    let after : compress h b ≡ hash_after ((p ++ a) ++ b) (n + i + (0 + 1)) =
    hash_more (p ++ a) b h b (n + i) 0 long begun (sym (take_all 64 b (omega arith))) in
    rw (grown, count, ← append_assoc p a b) (e ∙ after)

-- ---- the last blocks

-- a block of padding by the count of octets
pub last_block : (p m b : List ℕ) (i n total : ℕ) → length p ≡ 64 * n → total ≡ n * 64 + length m
    → b ≡ take 64 (drop (i * 64) (m ++ padding total)) → b ≡ take 64 (drop (i * 64) (padded_rest p m))
last_block p m b i n total l et e =
    let same : total ≡ length (p ++ m) = omega (arith, length-append p m) in
    rw same at e

-- a lane with i blocks taken: its hash value follows the message, and after the last block its digest is known
pub record Follows (p m h d : List ℕ) (n i : ℕ) : Type 0 where
  pub value : i ≤ block_count m → h ≡ hash_after (p ++ padded_rest p m) (n + i)
  pub digest : block_count m ≤ i → d ≡ sha1 (p ++ m)

-- whole blocks alone are taken
pub follows_start : (p m h d : List ℕ) (n i : ℕ) → length p ≡ 64 * n → i ≤ length m / 64 → h ≡ hash_after (p ++ take (64 * i) m) (n + i) → Follows p m h d n i
follows_start p m h d n i l le e =
    let taken = p ++ take (64 * i) m in
    let long : length taken ≡ 64 * (n + i) = omega (arith, length-append p (take (64 * i) m), length-take-le (64 * i) m (omega arith)) in
    let later : h ≡ hash_after (taken ++ (drop (64 * i) m ++ padding (length (p ++ m)))) (n + i) =
    hash_before taken (drop (64 * i) m ++ padding (length (p ++ m))) h (n + i) (omega arith) e in
    record {
      value = λ _. rw (whole_again p m (padding (length (p ++ m))) (64 * i)) at later;
      digest = λ over. absurd (omega arith);
    }

-- one more block, if the lane has one
pub follows_more : (p m h d b h2 d2 : List ℕ) (n i : ℕ) → length p ≡ 64 * n → Follows p m h d n i
    → (i < block_count m → b ≡ take 64 (drop (i * 64) (padded_rest p m))) → h2 ≡ compress h b
    → (i + 1 ≡ block_count m → d2 ≡ digest_bytes h2 5) → (i + 1 ≢ block_count m → d2 ≡ d) → Follows p m h2 d2 n (i + 1)
follows_more p m h d b h2 d2 n i l held eb eh done kept =
    let more : i + 1 ≤ block_count m → h2 ≡ hash_after (p ++ padded_rest p m) (n + (i + 1)) =
    λ le. eh ∙ hash_more p (padded_rest p m) h b n i l (held.value (omega arith)) (eb (omega arith)) in
    record {
      value = more;
      digest = λ le. elim (cases_lt (block_count m) (i + 1)) [
        | inl past ↦ kept (omega arith) ∙ held.digest (omega arith)
        | inr at ↦
            let e : i + 1 ≡ block_count m = omega arith in
            digest_done p m h2 d2 n (i + 1) l e (more (omega arith)) (done e)
      ];
    }
