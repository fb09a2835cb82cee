-- A stream has one reading, and the call for the next record gives it.
use Rattle.std.proofs.Common.{◌≡◌, inl, inr, ℕ, zero, suc, ◌+◌, ◌-◌, ◌%◌, ◌<◌, ◌≤◌, ◌^◌, List, [], ◌∷◌, ◌++◌, length, take, drop, refl, ap, sym, ◌∙◌, arith, append_assoc, Bool, IsTrue, true, false, Option, Some, None, Result, Ok, Err}
use Rattle.std.specs.Prelude.{nat_lt, nat_le}
use Rattle.std.proofs.Math.Seq.{drop-append_seam, take-append_seam}
use Rattle.std.proofs.lemmas.Nat.{from_be_bytes-to_be_bytes_4}
use Rattle.std.proofs.lemmas.List.{length-append, append-nil}
use Rattle.std.proofs.lemmas.Bool.Decides.{nat_tests}
use Rattle.sec_base.specs.Link.{Wire}
use Rattle.rpc_msgs.specs.Words.{word}
use Rattle.rpc_msgs.specs.Records.{more_fragment, last_fragment, frames, joined, Fragments, octets_in, frame, IsRecord, IsTooLong, IsTooMany, IsPartial, IsTorn, TakesRecord}
use Rattle.rpc_msgs.specs.Reading.{nothing, short, long, many, whole, header_at, announced_at, record_from, first_record, Finds}
use Rattle.rpc_msgs.specs.declared.record.RecordRefusal.{RecordRefusal}
use Rattle.rpc_msgs.specs.declared.record.RecordRefusal.TheVariants.{LinkFault, TooLong, TooManyFragments, Torn, NoMemory}
use Rattle.rpc_msgs.proofs.WordLengths.{length-word}

header-is : (header : ℕ) (octets : List ℕ) → header < 2 ^ 32 → header_at (word header ++ octets) ≡ header
unfolding header_at word
header-is header octets h = from_be_bytes-to_be_bytes_4 header h

announced-is : (header : ℕ) (octets : List ℕ) → header < 2 ^ 32 → announced_at (word header ++ octets) ≡ header % 2 ^ 31
unfolding announced_at
announced-is header octets h = ap (λ (k : ℕ). k % 2 ^ 31) (header-is header octets h)

next-short : (left : ℕ) (held octets : List ℕ) → length octets < 4 → record_from left held octets ≡ short
unfolding record_from
next-short zero held octets h = let f : nat_lt (length octets) 4 ≡ true = grind (arith, nat_tests) in rw f refl
next-short (suc left) held octets h = let f : nat_lt (length octets) 4 ≡ true = grind (arith, nat_tests) in rw f refl

next-long : (left n : ℕ) (held octets : List ℕ) → 4 ≤ length octets → announced_at octets ≡ n → 131072 < length held + n → record_from left held octets ≡ long
unfolding record_from
next-long zero n held octets h e past =
    let f : nat_lt (length octets) 4 ≡ false = grind (arith, nat_tests) in
    let g : nat_lt 131072 (length held + n) ≡ true = grind (arith, nat_tests) in rw (f, e, g) refl
next-long (suc left) n held octets h e past =
    let f : nat_lt (length octets) 4 ≡ false = grind (arith, nat_tests) in
    let g : nat_lt 131072 (length held + n) ≡ true = grind (arith, nat_tests) in rw (f, e, g) refl

next-many : (n : ℕ) (held octets : List ℕ) → 4 ≤ length octets → announced_at octets ≡ n → length held + n ≤ 131072 → record_from 0 held octets ≡ many
unfolding record_from
next-many n held octets h e fits =
    let f : nat_lt (length octets) 4 ≡ false = grind (arith, nat_tests) in
    let g : nat_lt 131072 (length held + n) ≡ false = grind (arith, nat_tests) in rw (f, e, g) refl

next-cut : (left n : ℕ) (held octets : List ℕ) → 4 ≤ length octets → announced_at octets ≡ n → length held + n ≤ 131072 → length octets < 4 + n → record_from (suc left) held octets ≡ short
unfolding record_from
next-cut left n held octets h e fits less =
    let f : nat_lt (length octets) 4 ≡ false = grind (arith, nat_tests) in
    let g : nat_lt 131072 (length held + n) ≡ false = grind (arith, nat_tests) in
    let k : nat_lt (length octets) (4 + n) ≡ true = grind (arith, nat_tests) in rw (f, e, g, k) refl

next-more : (left n : ℕ) (held octets part rest : List ℕ) → announced_at octets ≡ n → length held + n ≤ 131072 → 4 + n ≤ length octets → header_at octets < 2 ^ 31 → take n (drop 4 octets) ≡ part → drop (4 + n) octets ≡ rest → record_from (suc left) held octets ≡ record_from left (held ++ part) rest
unfolding record_from
next-more left n held octets part rest e fits all more t d =
    let f : nat_lt (length octets) 4 ≡ false = grind (arith, nat_tests) in
    let g : nat_lt 131072 (length held + n) ≡ false = grind (arith, nat_tests) in
    let k : nat_lt (length octets) (4 + n) ≡ false = grind (arith, nat_tests) in
    let m : nat_le (2 ^ 31) (header_at octets) ≡ false = grind (arith, nat_tests) in rw (f, e, g, k, m, t, d) refl

next-last : (left n : ℕ) (held octets part rest : List ℕ) → announced_at octets ≡ n → length held + n ≤ 131072 → 4 + n ≤ length octets → 2 ^ 31 ≤ header_at octets → take n (drop 4 octets) ≡ part → drop (4 + n) octets ≡ rest → record_from (suc left) held octets ≡ whole (held ++ part) rest
unfolding record_from
next-last left n held octets part rest e fits all last t d =
    let f : nat_lt (length octets) 4 ≡ false = grind (arith, nat_tests) in
    let g : nat_lt 131072 (length held + n) ≡ false = grind (arith, nat_tests) in
    let k : nat_lt (length octets) (4 + n) ≡ false = grind (arith, nat_tests) in
    let m : nat_le (2 ^ 31) (header_at octets) ≡ true = grind (arith, nat_tests) in rw (f, e, g, k, m, t, d) refl

-- what stands behind a header
after-header : (header : ℕ) (octets : List ℕ) → drop 4 (word header ++ octets) ≡ octets
after-header header octets =
    ap (λ (k : ℕ). drop k (word header ++ octets)) (sym (length-word header)) ∙ drop-append_seam (word header) octets

-- as many octets as a header announces
within : (header : ℕ) (part rest : List ℕ) → take (length part) (drop 4 (word header ++ (part ++ rest))) ≡ part
within header part rest =
    ap (λ (zs : List ℕ). take (length part) zs) (after-header header (part ++ rest)) ∙ take-append_seam part rest

-- what is behind these
behind : (header : ℕ) (part rest : List ℕ) → drop (4 + length part) (word header ++ (part ++ rest)) ≡ rest
behind header part rest =
    let size : length (word header ++ part) ≡ 4 + length part = length-append (word header) part ∙ ap (λ (k : ℕ). k + length part) (length-word header) in
    ap (λ (zs : List ℕ). drop (4 + length part) zs) (sym (append_assoc (word header) part rest))
    ∙ (ap (λ (k : ℕ). drop k ((word header ++ part) ++ rest)) (sym size) ∙ drop-append_seam (word header ++ part) rest)

framed-length : (header : ℕ) (part rest : List ℕ) → length (word header ++ (part ++ rest)) ≡ 4 + length part + length rest
framed-length header part rest = simp (length-append, length-word) (omega arith)

of-more : (left : ℕ) (held part rest : List ℕ) → length held + length part ≤ 131072 → record_from (suc left) held (more_fragment part ++ rest) ≡ record_from left (held ++ part) rest
of-more left held part rest fits =
    let bound : length part < 2 ^ 32 = omega arith in
    let spelled : more_fragment part ++ rest ≡ word (length part) ++ (part ++ rest) = append_assoc (word (length part)) part rest in
    let is : announced_at (word (length part) ++ (part ++ rest)) ≡ length part = announced-is (length part) (part ++ rest) bound ∙ omega arith in
    let low : header_at (word (length part) ++ (part ++ rest)) < 2 ^ 31 = omega (arith, header-is (length part) (part ++ rest) bound) in
    ap (λ (zs : List ℕ). record_from (suc left) held zs) spelled
    ∙ next-more left (length part) held (word (length part) ++ (part ++ rest)) part rest is fits (omega (arith, framed-length (length part) part rest)) low (within (length part) part rest) (behind (length part) part rest)

of-last : (left : ℕ) (held part rest : List ℕ) → length held + length part ≤ 131072 → record_from (suc left) held (last_fragment part ++ rest) ≡ whole (held ++ part) rest
of-last left held part rest fits =
    let header : ℕ = 2 ^ 31 + length part in
    let bound : header < 2 ^ 32 = omega arith in
    let spelled : last_fragment part ++ rest ≡ word header ++ (part ++ rest) = append_assoc (word header) part rest in
    let is : announced_at (word header ++ (part ++ rest)) ≡ length part = announced-is header (part ++ rest) bound ∙ omega arith in
    let high : 2 ^ 31 ≤ header_at (word header ++ (part ++ rest)) = omega (arith, header-is header (part ++ rest) bound) in
    ap (λ (zs : List ℕ). record_from (suc left) held zs) spelled
    ∙ next-last left (length part) held (word header ++ (part ++ rest)) part rest is fits (omega (arith, framed-length header part rest)) high (within header part rest) (behind header part rest)

of-frames : (left n : ℕ) (held : List ℕ) (earlier : List (List ℕ)) (rest : List ℕ) → n ≡ length earlier + left → length held + length (joined earlier) ≤ 131072 → record_from n held (frames earlier ++ rest) ≡ record_from left (held ++ joined earlier) rest
of-frames left n held [] rest e fits =
    let same : n ≡ left = omega arith in
    ap (λ (k : ℕ). record_from k held rest) same ∙ ap (λ (zs : List ℕ). record_from left zs rest) (sym (append-nil held))
of-frames left n held (part ∷ earlier) rest e fits =
    let m : ℕ = length earlier + left in
    let next : n ≡ suc m = omega arith in
    let both : length (part ++ joined earlier) ≡ length part + length (joined earlier) = length-append part (joined earlier) in
    let longer : length (held ++ part) ≡ length held + length part = length-append held part in
    ap (λ (k : ℕ). record_from k held ((more_fragment part ++ frames earlier) ++ rest)) next
    ∙ (ap (λ (zs : List ℕ). record_from (suc m) held zs) (append_assoc (more_fragment part) (frames earlier) rest)
    ∙ (of-more m held part (frames earlier ++ rest) (omega arith)
    ∙ (of-frames left m (held ++ part) earlier rest refl (omega arith)
    ∙ ap (λ (zs : List ℕ). record_from left zs rest) (append_assoc held part (joined earlier)))))

first-some : (octets : List ℕ) → 0 < length octets → first_record octets ≡ record_from 64 [] octets
unfolding first_record
first-some [] h = absurd (omega (arith, h))
first-some (octet ∷ octets) h = refl

pub first-none : first_record [] ≡ nothing
unfolding first_record
first-none = refl

-- a stream that begins with fragments of a record
first-frames : (left : ℕ) (earlier : List (List ℕ)) (rest : List ℕ) → length earlier + left ≡ 64 → length (joined earlier) ≤ 131072 → 0 < length rest → first_record (frames earlier ++ rest) ≡ record_from left (joined earlier) rest
first-frames left earlier rest e fits some =
    first-some (frames earlier ++ rest) (omega (arith, length-append (frames earlier) rest))
    ∙ of-frames left 64 [] earlier rest (sym e) (omega arith)

-- a stream that begins with a whole record
pub of-frame : (cut : Fragments) (more : List ℕ) → IsRecord cut → first_record (frame cut ++ more) ≡ whole (octets_in cut) more
of-frame cut more r =
    let few : length cut.earlier < 64 = r.few in
    let left : ℕ = 63 - length cut.earlier in
    let size : length (joined cut.earlier) + length cut.last ≤ 131072 = omega (arith, r.size, length-append (joined cut.earlier) cut.last) in
    let some : 0 < length (last_fragment cut.last ++ more) = omega (arith, length-append (last_fragment cut.last) more, length-append (word (2 ^ 31 + length cut.last)) cut.last, length-word (2 ^ 31 + length cut.last)) in
    ap first_record (append_assoc (frames cut.earlier) (last_fragment cut.last) more)
    ∙ (first-frames (suc left) cut.earlier (last_fragment cut.last ++ more) (omega arith) (omega arith) some
    ∙ of-last left (joined cut.earlier) cut.last more size)

-- one that begins with a record that is too long
pub of-too-long : (front more : List ℕ) → IsTooLong front → first_record (front ++ more) ≡ long
of-too-long front more p =
    let left : ℕ = 64 - length p.earlier in
    let some : 4 ≤ length (word p.header ++ more) = omega (arith, length-append (word p.header) more, length-word p.header) in
    ap (λ (zs : List ℕ). first_record (zs ++ more)) p.spelled
    ∙ (ap first_record (append_assoc (frames p.earlier) (word p.header) more)
    ∙ (first-frames left p.earlier (word p.header ++ more) (omega (arith, p.few)) p.size (omega arith)
    ∙ next-long left (p.header % 2 ^ 31) (joined p.earlier) (word p.header ++ more) some (announced-is p.header more p.bound) p.announced))

-- one that begins with a record of too many fragments
pub of-too-many : (front more : List ℕ) → IsTooMany front → first_record (front ++ more) ≡ many
of-too-many front more p =
    let some : 4 ≤ length (word p.header ++ more) = omega (arith, length-append (word p.header) more, length-word p.header) in
    ap (λ (zs : List ℕ). first_record (zs ++ more)) p.spelled
    ∙ (ap first_record (append_assoc (frames p.earlier) (word p.header) more)
    ∙ (first-frames 0 p.earlier (word p.header ++ more) (omega (arith, p.full)) (omega (arith, p.announced)) (omega arith)
    ∙ next-many (p.header % 2 ^ 31) (joined p.earlier) (word p.header ++ more) some (announced-is p.header more p.bound) p.announced))

of-partial : (left number : ℕ) (held part : List ℕ) → number + left ≡ 64 → IsPartial number (length held) part → record_from left held part ≡ short
of-partial left number held part e (inl few) = next-short left held part few
of-partial zero number held part e (inr p) = absurd (omega (arith, p.3))
of-partial (suc left) number held part e (inr p) =
    let total : length (word p.0 ++ p.1) ≡ 4 + length p.1 = length-append (word p.0) p.1 ∙ ap (λ (k : ℕ). k + length p.1) (length-word p.0) in
    ap (λ (zs : List ℕ). record_from (suc left) held zs) p.5
    ∙ next-cut left (p.0 % 2 ^ 31) held (word p.0 ++ p.1) (omega arith) (announced-is p.0 p.1 p.2) p.4 (omega (arith, p.6))

-- one that ends inside its first record
pub of-torn : (octets : List ℕ) → IsTorn octets → first_record octets ≡ short
of-torn octets p =
    let left : ℕ = 64 - length p.front.earlier in
    first-some octets p.some
    ∙ (ap (λ (zs : List ℕ). record_from 64 [] zs) p.front.spelled
    ∙ (of-frames left 64 [] p.front.earlier p.front.part (omega (arith, p.front.few)) (omega (arith, p.front.size))
    ∙ of-partial left (length p.front.earlier) (joined p.front.earlier) p.front.part (omega (arith, p.front.few)) p.front.partial))

-- what was taken for an answer is how the stream begins
pub finds : (told : Bool) (old new : Wire) (result : Result (Option (List ℕ)) RecordRefusal) → IsTrue told → TakesRecord told old new result → Finds (first_record old.coming) result new.coming
finds told old new (Ok (Some octets)) tells t =
    ap first_record (t.3.coming tells) ∙ (of-frame t.0 new.coming t.1 ∙ ap (λ (zs : List ℕ). whole zs new.coming) (sym t.2))
finds told old new (Ok None) tells t = ap first_record (t.0.coming tells ∙ t.1 tells) ∙ first-none
finds told old new (Err LinkFault) tells t = tt
finds told old new (Err TooLong) tells t = ap first_record (t.2.coming tells) ∙ of-too-long t.0 new.coming t.1
finds told old new (Err TooManyFragments) tells t = ap first_record (t.2.coming tells) ∙ of-too-many t.0 new.coming t.1
finds told old new (Err Torn) tells t =
    let all : old.coming ≡ t.0 = t.2.coming tells ∙ (ap (λ (zs : List ℕ). t.0 ++ zs) (t.3 tells) ∙ append-nil t.0) in
    ap first_record all ∙ of-torn t.0 t.1
finds told old new (Err NoMemory) tells t = tt
