-- The next record of a stream, however it was cut.
use Rattle.std.proofs.Common.{◌≡◌, inl, inr, ℕ, zero, suc, ◌+◌, ◌-◌, ◌%◌, ◌<◌, ◌≤◌, ◌^◌, List, [], ◌∷◌, ◌++◌, length, take, drop, refl, ap, sym, ◌∙◌, arith, append_assoc, true, false, ltb}
use Rattle.std.proofs.Math.Seq.{drop-append_seam, take-append_seam}
use Rattle.std.proofs.lemmas.Bool.Decides.{nat_tests}
use Rattle.std.proofs.lemmas.Nat.{from_be_bytes-to_be_bytes_4}
use Rattle.std.proofs.lemmas.List.{length-append, append-nil}
use Rattle.rpc_msgs.specs.Words.{word}
use Rattle.rpc_msgs.specs.Records.{more_fragment, last_fragment, frames, joined, Fragments, octets_in, frame, IsRecord, IsTooLong, IsTooMany, IsPartial, IsTorn}
use Rattle.rpc_msgs.proofs.WordLengths.{length-word}
use Rattle.gss_client.specs.Hearing.{whole, ended, unfit, header_at, announced, record_from, next_of}

header-is : (header : ℕ) (octets : List ℕ) → header < 2 ^ 32 → header_at (word header ++ octets) ≡ header
unfolding word
header-is header octets h = from_be_bytes-to_be_bytes_4 header h

announced-is : (header : ℕ) (octets : List ℕ) → header < 2 ^ 32 → announced (word header ++ octets) ≡ header % 2 ^ 31
announced-is header octets h = ap (λ (k : ℕ). k % 2 ^ 31) (header-is header octets h)

from-short : (left : ℕ) (before stream : List ℕ) → length stream < 4 → record_from left before stream ≡ ended
unfolding record_from
from-short zero before stream h = let f : ltb (length stream) 4 ≡ true = grind (arith, nat_tests) in rw f refl
from-short (suc left) before stream h = let f : ltb (length stream) 4 ≡ true = grind (arith, nat_tests) in rw f refl

from-long : (left n : ℕ) (before stream : List ℕ) → 4 ≤ length stream → announced stream ≡ n → 131072 < length before + n → record_from left before stream ≡ unfit
unfolding record_from
from-long zero n before stream h e past = let f : ltb (length stream) 4 ≡ false = grind (arith, nat_tests) in rw f refl
from-long (suc left) n before stream h e past =
    let f : ltb (length stream) 4 ≡ false = grind (arith, nat_tests) in
    let g : ltb 131072 (length before + n) ≡ true = grind (arith, nat_tests) in rw (f, e, g) refl

from-many : (before stream : List ℕ) → 4 ≤ length stream → record_from 0 before stream ≡ unfit
unfolding record_from
from-many before stream h = let f : ltb (length stream) 4 ≡ false = grind (arith, nat_tests) in rw f refl

from-cut : (left n : ℕ) (before stream : List ℕ) → 4 ≤ length stream → announced stream ≡ n → length before + n ≤ 131072 → length stream < 4 + n → record_from (suc left) before stream ≡ ended
unfolding record_from
from-cut left n before stream h e fits less =
    let f : ltb (length stream) 4 ≡ false = grind (arith, nat_tests) in
    let g : ltb 131072 (length before + n) ≡ false = grind (arith, nat_tests) in
    let k : ltb (length stream) (4 + n) ≡ true = grind (arith, nat_tests) in rw (f, e, g, k) refl

from-more : (left n : ℕ) (before stream part rest : List ℕ) → announced stream ≡ n → length before + n ≤ 131072 → 4 + n ≤ length stream → header_at stream < 2 ^ 31 → take n (drop 4 stream) ≡ part → drop (4 + n) stream ≡ rest → record_from (suc left) before stream ≡ record_from left (before ++ part) rest
unfolding record_from
from-more left n before stream part rest e fits all more p d =
    let f : ltb (length stream) 4 ≡ false = grind (arith, nat_tests) in
    let g : ltb 131072 (length before + n) ≡ false = grind (arith, nat_tests) in
    let k : ltb (length stream) (4 + n) ≡ false = grind (arith, nat_tests) in
    let m : ltb (header_at stream) (2 ^ 31) ≡ true = grind (arith, nat_tests) in rw (f, e, g, k, m, p, d) refl

from-last : (left n : ℕ) (before stream part rest : List ℕ) → announced stream ≡ n → length before + n ≤ 131072 → 4 + n ≤ length stream → 2 ^ 31 ≤ header_at stream → take n (drop 4 stream) ≡ part → drop (4 + n) stream ≡ rest → record_from (suc left) before stream ≡ whole (before ++ part) rest
unfolding record_from
from-last left n before stream part rest e fits all last p d =
    let f : ltb (length stream) 4 ≡ false = grind (arith, nat_tests) in
    let g : ltb 131072 (length before + n) ≡ false = grind (arith, nat_tests) in
    let k : ltb (length stream) (4 + n) ≡ false = grind (arith, nat_tests) in
    let m : ltb (header_at stream) (2 ^ 31) ≡ false = grind (arith, nat_tests) in rw (f, e, g, k, m, p, d) refl

-- what is behind a header and as many octets as it announces
behind : (header : ℕ) (part rest : List ℕ) → drop (4 + length part) (word header ++ (part ++ rest)) ≡ rest
behind header part rest =
    let size : length (word header ++ part) ≡ 4 + length part = length-append (word header) part ∙ ap (λ (k : ℕ). k + length part) (length-word header) in
    ap (λ (zs : List ℕ). drop (4 + length part) zs) (sym (append_assoc (word header) part rest))
    ∙ (ap (λ (k : ℕ). drop k ((word header ++ part) ++ rest)) (sym size) ∙ drop-append_seam (word header ++ part) rest)

-- the octets that it announces
content : (header : ℕ) (part rest : List ℕ) → take (length part) (drop 4 (word header ++ (part ++ rest))) ≡ part
content header part rest =
    ap (λ (k : ℕ). take (length part) (drop k (word header ++ (part ++ rest)))) (sym (length-word header))
    ∙ (ap (λ (zs : List ℕ). take (length part) zs) (drop-append_seam (word header) (part ++ rest)) ∙ take-append_seam part rest)

framed-length : (header : ℕ) (part rest : List ℕ) → length (word header ++ (part ++ rest)) ≡ 4 + length part + length rest
framed-length header part rest = simp (length-append, length-word) (omega arith)

of-more : (left : ℕ) (before part rest : List ℕ) → length before + length part ≤ 131072 → record_from (suc left) before (more_fragment part ++ rest) ≡ record_from left (before ++ part) rest
of-more left before part rest fits =
    let bound : length part < 2 ^ 32 = omega arith in
    let spelled : more_fragment part ++ rest ≡ word (length part) ++ (part ++ rest) = append_assoc (word (length part)) part rest in
    let is : announced (word (length part) ++ (part ++ rest)) ≡ length part = announced-is (length part) (part ++ rest) bound ∙ omega arith in
    let low : header_at (word (length part) ++ (part ++ rest)) < 2 ^ 31 = omega (arith, header-is (length part) (part ++ rest) bound) in
    ap (λ (zs : List ℕ). record_from (suc left) before zs) spelled
    ∙ from-more left (length part) before (word (length part) ++ (part ++ rest)) part rest is fits (omega (arith, framed-length (length part) part rest)) low (content (length part) part rest) (behind (length part) part rest)

of-last : (left : ℕ) (before part rest : List ℕ) → length before + length part ≤ 131072 → record_from (suc left) before (last_fragment part ++ rest) ≡ whole (before ++ part) rest
of-last left before part rest fits =
    let header : ℕ = 2 ^ 31 + length part in
    let bound : header < 2 ^ 32 = omega arith in
    let spelled : last_fragment part ++ rest ≡ word header ++ (part ++ rest) = append_assoc (word header) part rest in
    let is : announced (word header ++ (part ++ rest)) ≡ length part = announced-is header (part ++ rest) bound ∙ omega arith in
    let high : 2 ^ 31 ≤ header_at (word header ++ (part ++ rest)) = omega (arith, header-is header (part ++ rest) bound) in
    ap (λ (zs : List ℕ). record_from (suc left) before zs) spelled
    ∙ from-last left (length part) before (word header ++ (part ++ rest)) part rest is fits (omega (arith, framed-length header part rest)) high (content header part rest) (behind header part rest)

of-frames : (left n : ℕ) (before : List ℕ) (earlier : List (List ℕ)) (rest : List ℕ) → n ≡ length earlier + left → length before + length (joined earlier) ≤ 131072 → record_from n before (frames earlier ++ rest) ≡ record_from left (before ++ joined earlier) rest
of-frames left n before [] rest e fits =
    let same : n ≡ left = omega arith in
    ap (λ (k : ℕ). record_from k before rest) same ∙ ap (λ (zs : List ℕ). record_from left zs rest) (sym (append-nil before))
of-frames left n before (part ∷ earlier) rest e fits =
    let m : ℕ = length earlier + left in
    let next : n ≡ suc m = omega arith in
    let both : length (part ++ joined earlier) ≡ length part + length (joined earlier) = length-append part (joined earlier) in
    let grown : length (before ++ part) ≡ length before + length part = length-append before part in
    ap (λ (k : ℕ). record_from k before ((more_fragment part ++ frames earlier) ++ rest)) next
    ∙ (ap (λ (zs : List ℕ). record_from (suc m) before zs) (append_assoc (more_fragment part) (frames earlier) rest)
    ∙ (of-more m before part (frames earlier ++ rest) (omega arith)
    ∙ (of-frames left m (before ++ part) earlier rest refl (omega arith)
    ∙ ap (λ (zs : List ℕ). record_from left zs rest) (append_assoc before part (joined earlier)))))

-- a stream that begins with fragments of a record
after-frames : (left : ℕ) (earlier : List (List ℕ)) (rest : List ℕ) → length earlier + left ≡ 64 → length (joined earlier) ≤ 131072 → next_of (frames earlier ++ rest) ≡ record_from left (joined earlier) rest
after-frames left earlier rest e fits = of-frames left 64 [] earlier rest (sym e) (omega arith)

pub of-frame : (cut : Fragments) (more : List ℕ) → IsRecord cut → next_of (frame cut ++ more) ≡ whole (octets_in cut) more
of-frame cut more r =
    let few : length cut.earlier < 64 = r.few in
    let left : ℕ = 63 - length cut.earlier in
    let size : length (joined cut.earlier) + length cut.last ≤ 131072 = omega (arith, r.size, length-append (joined cut.earlier) cut.last) in
    ap next_of (append_assoc (frames cut.earlier) (last_fragment cut.last) more)
    ∙ (after-frames (suc left) cut.earlier (last_fragment cut.last ++ more) (omega arith) (omega arith)
    ∙ of-last left (joined cut.earlier) cut.last more size)

pub of-too-long : (front more : List ℕ) → IsTooLong front → next_of (front ++ more) ≡ unfit
of-too-long front more p =
    let left : ℕ = 64 - length p.earlier in
    let some : 4 ≤ length (word p.header ++ more) = omega (arith, length-append (word p.header) more, length-word p.header) in
    ap (λ (zs : List ℕ). next_of (zs ++ more)) p.spelled
    ∙ (ap next_of (append_assoc (frames p.earlier) (word p.header) more)
    ∙ (after-frames left p.earlier (word p.header ++ more) (omega (arith, p.few)) p.size
    ∙ from-long left (p.header % 2 ^ 31) (joined p.earlier) (word p.header ++ more) some (announced-is p.header more p.bound) p.announced))

pub of-too-many : (front more : List ℕ) → IsTooMany front → next_of (front ++ more) ≡ unfit
of-too-many front more p =
    let some : 4 ≤ length (word p.header ++ more) = omega (arith, length-append (word p.header) more, length-word p.header) in
    ap (λ (zs : List ℕ). next_of (zs ++ more)) p.spelled
    ∙ (ap next_of (append_assoc (frames p.earlier) (word p.header) more)
    ∙ (after-frames 0 p.earlier (word p.header ++ more) (omega (arith, p.full)) (omega (arith, p.announced))
    ∙ from-many (joined p.earlier) (word p.header ++ more) some))

of-partial : (left number : ℕ) (before part : List ℕ) → number + left ≡ 64 → IsPartial number (length before) part → record_from left before part ≡ ended
of-partial left number before part e (inl few) = from-short left before part few
of-partial zero number before part e (inr p) = absurd (omega (arith, p.3))
of-partial (suc left) number before part e (inr p) =
    let total : length (word p.0 ++ p.1) ≡ 4 + length p.1 = length-append (word p.0) p.1 ∙ ap (λ (k : ℕ). k + length p.1) (length-word p.0) in
    ap (λ (zs : List ℕ). record_from (suc left) before zs) p.5
    ∙ from-cut left (p.0 % 2 ^ 31) before (word p.0 ++ p.1) (omega arith) (announced-is p.0 p.1 p.2) p.4 (omega (arith, p.6))

pub of-torn : (octets : List ℕ) → IsTorn octets → next_of octets ≡ ended
of-torn octets p =
    let left : ℕ = 64 - length p.front.earlier in
    ap next_of p.front.spelled
    ∙ (after-frames left p.front.earlier p.front.part (omega (arith, p.front.few)) p.front.size
    ∙ of-partial left (length p.front.earlier) (joined p.front.earlier) p.front.part (omega (arith, p.front.few)) p.front.partial)

pub of-nothing : next_of [] ≡ ended
of-nothing = from-short 64 [] [] (omega arith)
