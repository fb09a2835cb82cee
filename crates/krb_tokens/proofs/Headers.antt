-- The header of a token, octet by octet.
use Rattle.std.proofs.Common.{◌≡◌, ℕ, ◌+◌, ◌*◌, ◌^◌, ◌<◌, ◌≤◌, ◌&&◌, Bool, true, false, refl, sym, ap, ◌∙◌, arith, List, [], ◌∷◌, ◌++◌, length, take, drop, replicate, get_or}
use Rattle.std.specs.Prelude.{◌==◌, not, slice_index}
use Rattle.std.specs.Int.{w16, w64, to_be_bytes, from_be_bytes}
use Rattle.std.proofs.Math.Seq.{take-add}
use Rattle.std.proofs.lemmas.Bool.{eqb-true, le-leb}
use Rattle.std.proofs.lemmas.Nat.{be_bytes_8}
use Rattle.std.proofs.lemmas.List.{length-take-le, length-drop, get_or-drop}
use Rattle.aes_cts.specs.Cipher.{IsOctets}
use Rattle.aes_cts.proofs.Restored.{take-IsOctets, drop-IsOctets}
use Rattle.krb_tokens.specs.End.{is_other_kind, all_filler}
use Rattle.krb_tokens.specs.Tokens.{mic_header_with, wrap_header_with}
use Rattle.krb_tokens.specs.Wrap.{word_of, unturned_header, bare_header}

both : (a b : Bool) → (true && not (a && b)) ≡ false → (a ≡ true) × (b ≡ true)
both true true e = (refl, refl)
both true false e = let z : true ≡ false = e in absurd (cc)
both false b e = let z : true ≡ false = e in absurd (cc)

-- the first two octets of a token that isn't of another kind
pub kind_of : (kind : ℕ) (token : List ℕ) → 2 ≤ length token → is_other_kind kind token ≡ false → (slice_index token 0 ≡ kind) × (slice_index token 1 ≡ 4)
kind_of kind token long e =
    let same : (true && not ((slice_index token 0 == kind) && (slice_index token 1 == 4))) ≡ false = rw (le-leb 2 (length token) long) at e in
    let p : ((slice_index token 0 == kind) ≡ true) × ((slice_index token 1 == 4) ≡ true) = both (slice_index token 0 == kind) (slice_index token 1 == 4) same in
    (eqb-true (slice_index token 0) kind p.0, eqb-true (slice_index token 1) 4 p.1)

front3 : (xs : List ℕ) → 3 ≤ length xs → take 3 xs ≡ slice_index xs 0 ∷ slice_index xs 1 ∷ slice_index xs 2 ∷ []
front3 [] h = absurd (omega arith)
front3 (a ∷ []) h = absurd (omega arith)
front3 (a ∷ b ∷ []) h = absurd (omega arith)
front3 (a ∷ b ∷ c ∷ xs) h = refl

front4 : (xs : List ℕ) → 4 ≤ length xs → take 4 xs ≡ slice_index xs 0 ∷ slice_index xs 1 ∷ slice_index xs 2 ∷ slice_index xs 3 ∷ []
front4 [] h = absurd (omega arith)
front4 (a ∷ []) h = absurd (omega arith)
front4 (a ∷ b ∷ []) h = absurd (omega arith)
front4 (a ∷ b ∷ c ∷ []) h = absurd (omega arith)
front4 (a ∷ b ∷ c ∷ d ∷ xs) h = refl

front2 : (xs : List ℕ) → 2 ≤ length xs → take 2 xs ≡ slice_index xs 0 ∷ slice_index xs 1 ∷ []
front2 [] h = absurd (omega arith)
front2 (a ∷ []) h = absurd (omega arith)
front2 (a ∷ b ∷ xs) h = refl

word_bytes : (a b : ℕ) → a < 256 → b < 256 → to_be_bytes w16 (256 * a + b) ≡ a ∷ b ∷ []
word_bytes a b ha hb = grind arith

-- two octets as a number
pub word-octets : (token : List ℕ) (at : ℕ) → IsOctets token → at + 2 ≤ length token → to_be_bytes w16 (word_of token at) ≡ take 2 (drop at token)
word-octets token at small long =
    let front : take 2 (drop at token) ≡ get_or (drop at token) 0 0 ∷ get_or (drop at token) 1 0 ∷ [] = front2 (drop at token) (omega (arith, length-drop at token)) in
    let first : get_or (drop at token) 0 0 ≡ get_or token at 0 = get_or-drop at token 0 0 ∙ ap (λ (i : ℕ). get_or token i 0) (omega arith) in
    let second : get_or (drop at token) 1 0 ≡ get_or token (at + 1) 0 = get_or-drop at token 1 0 in
    word_bytes (get_or token at 0) (get_or token (at + 1) 0) (small at) (small (at + 1)) ∙ sym (rw (← first, ← second) front)

number-small : (bs : List ℕ) → IsOctets bs → from_be_bytes w64 bs < 2 ^ 64
number-small bs h = omega (arith, h 0, h 1, h 2, h 3, h 4, h 5, h 6, h 7)

two : (a b : Bool) → (a && b) ≡ true → (a ≡ true) × (b ≡ true)
two true b e = (refl, e)
two false b e = let z : false ≡ true = e in absurd (cc)

fillers : (octets : List ℕ) → all_filler octets ≡ true → octets ≡ replicate (length octets) 255
fillers [] e = refl
fillers (x ∷ xs) e =
    let p : ((x == 255) ≡ true) × (all_filler xs ≡ true) = two (x == 255) (all_filler xs) e in
    rw (eqb-true x 255 p.0) (ap (λ (t : List ℕ). 255 ∷ t) (fillers xs p.1))

mic-header-at : (token : List ℕ) (number : ℕ) → 16 ≤ length token → slice_index token 0 ≡ 4 → slice_index token 1 ≡ 4
    → all_filler (take 5 (drop 3 token)) ≡ true → to_be_bytes w64 number ≡ take 8 (drop 8 token)
    → take 16 token ≡ mic_header_with (slice_index token 2) number
unfolding mic_header_with
mic-header-at token number long first second filler last =
    let parts : take 16 token ≡ (take 3 token ++ take 5 (drop 3 token)) ++ take 8 (drop 8 token) =
    take-add 8 8 token ∙ ap (λ (t : List ℕ). t ++ take 8 (drop 8 token)) (take-add 3 5 token) in
    let front : take 3 token ≡ 4 ∷ 4 ∷ slice_index token 2 ∷ [] = front3 token (omega arith) ∙ rw (first, second) refl in
    let five : length (take 5 (drop 3 token)) ≡ 5 = length-take-le 5 (drop 3 token) (omega (arith, length-drop 3 token)) in
    let middle : take 5 (drop 3 token) ≡ 255 ∷ 255 ∷ 255 ∷ 255 ∷ 255 ∷ [] = fillers (take 5 (drop 3 token)) filler ∙ ap (λ (n : ℕ). replicate n 255) five in
    parts ∙ rw (front, middle, ← last) refl

-- the number of a token, from its last eight octets
pub number_in : List ℕ → ℕ
number_in token = from_be_bytes w64 (take 8 (drop 8 token))

number_in-octets : (token : List ℕ) → IsOctets token → 16 ≤ length token → to_be_bytes w64 (number_in token) ≡ take 8 (drop 8 token)
unfolding number_in
number_in-octets token small long =
    be_bytes_8 (take 8 (drop 8 token)) (from_be_bytes w64 (take 8 (drop 8 token))) (length-take-le 8 (drop 8 token) (omega (arith, length-drop 8 token)))
    (take-IsOctets 8 (drop 8 token) (drop-IsOctets 8 token small)) refl

pub number_in-small : (token : List ℕ) → IsOctets token → number_in token < 2 ^ 64
unfolding number_in
number_in-small token small = number-small (take 8 (drop 8 token)) (take-IsOctets 8 (drop 8 token) (drop-IsOctets 8 token small))

pub mic-header : (token : List ℕ) → IsOctets token → 16 ≤ length token → is_other_kind 4 token ≡ false → all_filler (take 5 (drop 3 token)) ≡ true
    → take 16 token ≡ mic_header_with (slice_index token 2) (number_in token)
mic-header token small long kind filler =
    let p = kind_of 4 token (omega arith) kind in
    mic-header-at token (number_in token) long p.0 p.1 filler (number_in-octets token small long)

wrap-header-at : (token : List ℕ) (extra rotation number : ℕ) → 16 ≤ length token → slice_index token 0 ≡ 5 → slice_index token 1 ≡ 4
    → slice_index token 3 ≡ 255 → to_be_bytes w16 extra ≡ take 2 (drop 4 token) → to_be_bytes w16 rotation ≡ take 2 (drop 6 token)
    → to_be_bytes w64 number ≡ take 8 (drop 8 token) → take 16 token ≡ wrap_header_with (slice_index token 2) extra rotation number
unfolding wrap_header_with
wrap-header-at token extra rotation number long first second filler e r n =
    let parts : take 16 token ≡ ((take 4 token ++ take 2 (drop 4 token)) ++ take 2 (drop 6 token)) ++ take 8 (drop 8 token) =
    take-add 8 8 token ∙ ap (λ (t : List ℕ). t ++ take 8 (drop 8 token)) (take-add 6 2 token ∙ ap (λ (t : List ℕ). t ++ take 2 (drop 6 token)) (take-add 4 2 token)) in
    let front : take 4 token ≡ 5 ∷ 4 ∷ slice_index token 2 ∷ 255 ∷ [] = front4 token (omega arith) ∙ rw (first, second, filler) refl in
    parts ∙ rw (front, ← e, ← r, ← n) refl

pub wrap-header : (token : List ℕ) → IsOctets token → 16 ≤ length token → is_other_kind 5 token ≡ false → slice_index token 3 ≡ 255
    → take 16 token ≡ wrap_header_with (slice_index token 2) (word_of token 4) (word_of token 6) (number_in token)
wrap-header token small long kind filler =
    let p = kind_of 5 token (omega arith) kind in
    wrap-header-at token (word_of token 4) (word_of token 6) (number_in token) long p.0 p.1 filler
    (word-octets token 4 small (omega arith)) (word-octets token 6 small (omega arith)) (number_in-octets token small long)

-- ---- what is read of a header

pub long-with : (flags extra rotation number : ℕ) → length (wrap_header_with flags extra rotation number) ≡ 16
unfolding wrap_header_with
long-with flags extra rotation number = refl

pub flags-with : (flags extra rotation number : ℕ) (body : List ℕ) → slice_index (wrap_header_with flags extra rotation number ++ body) 2 ≡ flags
unfolding wrap_header_with
flags-with flags extra rotation number body = refl

pub filler-with : (flags extra rotation number : ℕ) (body : List ℕ) → slice_index (wrap_header_with flags extra rotation number ++ body) 3 ≡ 255
unfolding wrap_header_with
filler-with flags extra rotation number body = refl

pub rest-with : (flags extra rotation number : ℕ) (body : List ℕ) → drop 16 (wrap_header_with flags extra rotation number ++ body) ≡ body
unfolding wrap_header_with
rest-with flags extra rotation number body = refl

pub extra-with : (flags extra rotation number : ℕ) (body : List ℕ) → extra < 2 ^ 16
    → word_of (wrap_header_with flags extra rotation number ++ body) 4 ≡ extra
unfolding wrap_header_with
extra-with flags extra rotation number body h = omega arith

pub rotation-with : (flags extra rotation number : ℕ) (body : List ℕ) → rotation < 2 ^ 16
    → word_of (wrap_header_with flags extra rotation number ++ body) 6 ≡ rotation
unfolding wrap_header_with
rotation-with flags extra rotation number body h = omega arith

pub unturned-with : (flags extra rotation number : ℕ) (body : List ℕ)
    → unturned_header (wrap_header_with flags extra rotation number ++ body) ≡ wrap_header_with flags extra 0 number
unfolding wrap_header_with
unturned-with flags extra rotation number body = refl

pub bare-with : (flags extra rotation number : ℕ) (body : List ℕ)
    → bare_header (wrap_header_with flags extra rotation number ++ body) ≡ wrap_header_with flags 0 0 number
unfolding wrap_header_with
bare-with flags extra rotation number body = refl
