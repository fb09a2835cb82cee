-- The last two blocks, as they are written one after the other.
use Rattle.std.proofs.Common.{◌≡◌, ℕ, zero, suc, ◌+◌, ◌-◌, ◌*◌, ◌<◌, ◌≤◌, refl, sym, ap, ◌∙◌, arith, List, ◌++◌, length, take, drop, replicate}
use Rattle.std.proofs.lemmas.List.{length-append, length-drop, length-take-le, length-replicate, append_assoc, append-nil, drop_at, drop-drop, drop-append-le, take-append-le, take-take, take_all, drop_all, drop-replicate}
use borrow.Rule.Slice.PartMut.{put_mid}
use Rattle.aes_cts.specs.Cipher.{cipher, inverse_cipher}
use Rattle.aes_cts.specs.Stealing.{add_octets, zero_block, block_at, blocks_before_last, chain, chained, padded, stolen, unchained, given_back}
use Rattle.aes_cts.proofs.Blocks.{length-inverse_cipher}
use Rattle.aes_cts.proofs.Chaining.{length-chain, length-chained, chain-append, chained-append, chained-suc, chain_more, replaced, unchained-append}

pub stolen-is : (key plain b last y z previous whole : List ℕ) (k j n : ℕ) → 0 < n → 16 * n < length plain → length plain ≤ 16 * n + 16
    → b ≡ chained key plain n ++ drop (16 * n) plain → previous ≡ chain key plain n → k ≡ length b - 16 * n → j ≡ 16
    → last ≡ take k (drop (16 * n) b) → whole ≡ cipher key (add_octets previous (last ++ drop k zero_block)) → y ≡ take k previous → z ≡ whole
    → put_mid (16 * n - 16) j (put_mid (16 * n) k b y) z ≡ stolen key plain n
stolen-is key plain b last y z previous whole k j zero some low high eb ep ek ej el ew ey ez = absurd (omega arith)
stolen-is key plain b last y z previous whole k j (suc m) some low high eb ep ek ej el ew ey ez =
    let n : ℕ = suc m in
    let a : List ℕ = chained key plain m in
    let c : List ℕ = chain key plain n in
    let rest : List ℕ = drop (16 * n) plain in
    let long : length rest ≡ length plain - 16 * n = length-drop (16 * n) plain in
    let longa : length a ≡ 16 * m = length-chained key plain m in
    let longc : length c ≡ 16 = length-chain key plain n in
    let front : length (chained key plain n) ≡ 16 * n = length-chained key plain n in
    let longb : length b ≡ length plain = ap length eb ∙ simp (length-append, front, long) (omega arith) in
    let size : k ≡ length rest = omega arith in
    let same : last ≡ rest = el ∙ rw (eb, drop_at (chained key plain n) rest (16 * n) front) (take_all k rest (omega arith)) in
    let number : blocks_before_last plain ≡ n = omega arith in
    let zeros : List ℕ = replicate (16 * (n + 1) - length plain) 0 in
    let pad : drop k zero_block ≡ zeros = drop-replicate k 16 0 ∙ ap (λ (i : ℕ). replicate i 0) (omega arith) in
    let p : List ℕ = plain ++ zeros in
    let whole_p : padded plain ≡ p = rw number refl in
    let longz : length zeros ≡ 16 * (n + 1) - length plain = length-replicate (16 * (n + 1) - length plain) 0 in
    let block : block_at p n ≡ last ++ drop k zero_block =
    rw (same, pad, drop-append-le (16 * n) plain zeros (omega arith)) (take_all 16 (rest ++ zeros) (omega (arith, length-append rest zeros))) in
    let final : whole ≡ chain key p (n + 1) =
    chain_more key p previous (last ++ drop k zero_block) whole n (ep ∙ sym (chain-append key plain zeros n (omega arith))) (sym block) ew in
    let inner : put_mid (16 * n) k b y ≡ a ++ (c ++ y) =
    rw (eb, replaced (chained key plain n) rest y (16 * n) k front, drop_all k rest (omega arith), append-nil y, chained-suc key plain m) (append_assoc a c y) in
    let at : 16 * n - 16 ≡ 16 * m = omega arith in
    let left : put_mid (16 * n - 16) j (put_mid (16 * n) k b y) z ≡ a ++ (whole ++ take k c) =
    rw (inner, at, ej, replaced a (c ++ y) z (16 * m) 16 longa, drop_at c y 16 longc, ez, ey, ep) refl in
    let pred : n - 1 ≡ m = omega arith in
    let amount : k ≡ length plain - 16 * n = omega arith in
    let right : stolen key plain n ≡ (a ++ whole) ++ take k c =
    rw (whole_p, pred, ← final, chained-append key plain zeros m (omega arith), chain-append key plain zeros n (omega arith), ← amount) refl in
    left ∙ sym (append_assoc a whole (take k c)) ∙ sym right

pub given_back-is : (key octets whole end sum cut new : List ℕ) (k j n : ℕ) → 0 < n → 16 * n < length octets → length octets ≤ 16 * n + 16
    → whole ≡ inverse_cipher key (take j (drop (16 * n - 16) octets)) → j ≡ 16 → k ≡ length octets - 16 * n
    → end ≡ take k (drop (16 * n) octets) → sum ≡ add_octets (take k (drop (16 * n) octets)) whole → cut ≡ end ++ drop k whole
    → new ≡ unchained key (put_mid (16 * n - 16) j (put_mid (16 * n) k octets sum) cut) n
    ++ drop (16 * n) (put_mid (16 * n - 16) j (put_mid (16 * n) k octets sum) cut)
    → new ≡ given_back key octets n
given_back-is key octets whole end sum cut new k j zero some low high ew ej ek ee es ec en = absurd (omega arith)
given_back-is key octets whole end sum cut new k j (suc m) some low high ew ej ek ee es ec en =
    let n : ℕ = suc m in
    let rest : List ℕ = drop (16 * n) octets in
    let long : length rest ≡ length octets - 16 * n = length-drop (16 * n) octets in
    let all : take k rest ≡ rest = take_all k rest (omega arith) in
    let same : end ≡ rest = ee ∙ all in
    let made : sum ≡ add_octets rest whole = rw all at es in
    let at : 16 * n - 16 ≡ 16 * m = omega arith in
    let pred : n - 1 ≡ m = omega arith in
    let size : k ≡ length rest = omega arith in
    let ciphered : whole ≡ inverse_cipher key (block_at octets m) = rw (at, ej) at ew in
    let longw : length whole ≡ 16 = ap length ciphered ∙ length-inverse_cipher key (block_at octets m) in
    let f : List ℕ = take (16 * m) octets in
    let longf : length f ≡ 16 * m = length-take-le (16 * m) octets (omega arith) in
    let cut_is : cut ≡ rest ++ drop (length rest) whole = ec ∙ rw (same, size) refl in
    let longcut : length cut ≡ 16 = ap length cut_is ∙ simp (length-append, length-drop, longw) (omega arith) in
    let inner : put_mid (16 * n) k octets sum ≡ take (16 * n) octets ++ sum =
    rw (drop_all k rest (omega arith), append-nil sum) refl in
    let head : take (16 * m) (take (16 * n) octets ++ sum) ≡ f =
    take-append-le (16 * m) (take (16 * n) octets) sum (omega (arith, length-take-le (16 * n) octets (omega arith)))
    ∙ take-take (16 * m) (16 * n) octets (omega arith) in
    let tail : drop 16 (drop (16 * m) (take (16 * n) octets ++ sum)) ≡ sum =
    drop-drop 16 (16 * m) (take (16 * n) octets ++ sum)
    ∙ drop_at (take (16 * n) octets) sum (16 * m + 16) (length-take-le (16 * n) octets (omega arith) ∙ omega arith) in
    let outer : put_mid (16 * n - 16) j (put_mid (16 * n) k octets sum) cut ≡ (f ++ cut) ++ sum =
    rw (inner, at, ej, head, tail) (sym (append_assoc f cut sum)) in
    let longfc : length (f ++ cut) ≡ 16 * n = length-append f cut ∙ omega arith in
    let left : new ≡ unchained key (f ++ cut) n ++ sum =
    rw (outer, unchained-append key (f ++ cut) sum n (omega arith), drop_at (f ++ cut) sum (16 * n) longfc) at en in
    left ∙ rw (pred, ← ciphered, made, cut_is, append_assoc f rest (drop (length rest) whole)) refl
