-- Bodies that are made behind other octets.
use Rattle.std.proofs.Common.{◌≡◌, ℕ, ◌-◌, ◌≤◌, ◌∙◌, refl, sym, ap, arith, List, ◌++◌, length, drop, replicate}
use Rattle.std.proofs.lemmas.List.{length-append, drop_at, append_assoc}
use Rattle.rpc_msgs.specs.Words.{word, opaque, padding_length}
use Rattle.rpcsec_msgs.specs.Bodies.{checked_octets}

-- the databody stands at the end
pub databody-at : (out head databody one : List ℕ) (size : ℕ) → size ≡ length databody → one ≡ out ++ (head ++ databody) → drop (length one - size) one ≡ databody
databody-at out head databody one size es e =
    let cut : one ≡ (out ++ head) ++ databody = e ∙ sym (append_assoc out head databody) in
    let place : length one - size ≡ length (out ++ head) = omega (arith, ap length cut, length-append (out ++ head) databody) in
    rw (place, cut) (drop_at (out ++ head) databody (length (out ++ head)) refl)

pub fits-behind : (out head databody one : List ℕ) (size : ℕ) → size ≡ length databody → one ≡ out ++ (head ++ databody) → size ≤ length one
fits-behind out head databody one size es e =
    omega (arith, ap length e, length-append out (head ++ databody), length-append head databody)

pub opaque-behind : (out octets one two three : List ℕ) (size : ℕ) → size ≡ length octets → one ≡ out ++ word size → two ≡ one ++ octets
    → three ≡ two ++ replicate (padding_length size) 0 → three ≡ out ++ opaque octets
unfolding opaque
opaque-behind out octets one two three size es e1 e2 e3 =
    e3 ∙ rw (e2, e1, es) (append_assoc (out ++ word (length octets)) octets (replicate (padding_length (length octets)) 0)
    ∙ append_assoc out (word (length octets)) (octets ++ replicate (padding_length (length octets)) 0))

pub checked-behind : (out databody tag two three : List ℕ) → two ≡ out ++ opaque databody → three ≡ two ++ opaque tag → three ≡ out ++ checked_octets databody tag
checked-behind out databody tag two three e1 e2 = e2 ∙ rw e1 (append_assoc out (opaque databody) (opaque tag))
