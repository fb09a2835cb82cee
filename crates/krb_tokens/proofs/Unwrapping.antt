-- What an end wraps, with its body turned right by any count, is unwrapped by the end that faces it.
use Rattle.std.proofs.Common.{◌≡◌, ℕ, ◌+◌, ◌-◌, ◌%◌, ◌<◌, ◌≤◌, ◌∙◌, Bool, true, false, if◌then◌else◌, refl, ap, arith, List, ◌++◌, length, take, drop}
use Rattle.std.specs.Prelude.{Ok, nat_lt, nat_le, slice_index}
use Rattle.std.proofs.lemmas.Bool.{eq-eqb, le-ltb}
use Rattle.std.proofs.lemmas.Nat.{mod_below}
use native.Mathlib.Nat.{sub-zero}
use Rattle.std.proofs.lemmas.List.{length-append, length-drop, take_at, drop_at, take-append-drop}
use lib.Pointwise.{bytes_decides}
use Rattle.krb_derive.specs.declared.key.Key.{Key}
use Rattle.aes_cts.specs.Cipher.{IsOctets}
use Rattle.aes_cts.specs.Stealing.{cts_encrypted}
use Rattle.aes_cts.proofs.Restored.{length-cts_encrypted}
use Rattle.krb_derive.specs.declared.derivation.Part.TheVariants.{Encrypt, Integrity}
use Rattle.krb_derive.specs.Key.{key_octets}
use Rattle.krb_derive.specs.Derivation.{derived}
use Rattle.krb_derive.specs.Sealing.{checksum_of, tag_of, seal_of, opened, Opens}
use Rattle.krb_derive.proofs.Opened.{length-tag_of}
use Rattle.krb_tokens.specs.declared.end.Side.{Side}
use Rattle.krb_tokens.specs.declared.end.Side.TheVariants.{Initiator, Acceptor}
use Rattle.krb_tokens.specs.declared.end.TokenEnd.{TokenEnd}
use Rattle.krb_tokens.specs.End.{other_side, seal_usage, flags_of, is_from_other, is_sealed, has_subkey, is_other_kind, facing}
use Rattle.krb_tokens.specs.Wrap.{wrap_header, wrap_of, signed_body, sealed_body, word_of, extra_count, body_of, turned_right, rotated, unturned_header, bare_header, unwrapped, unwrapped_signed, unwrapped_sealed}
use Rattle.krb_tokens.proofs.Parts.{length-turned, signed-good, sealed-opened, plain-good}
use Rattle.krb_tokens.proofs.Taken.{and_false, other-other, from-facing, subkey-facing, length-checksum_of}

sealed-flags : (key : Key) (side : Side) (subkey sealed : Bool)
    → is_sealed (flags_of (record { key = key; side = side; subkey = subkey }) sealed) ≡ sealed
sealed-flags key Initiator true true = refl
sealed-flags key Initiator true false = refl
sealed-flags key Initiator false true = refl
sealed-flags key Initiator false false = refl
sealed-flags key Acceptor true true = refl
sealed-flags key Acceptor true false = refl
sealed-flags key Acceptor false true = refl
sealed-flags key Acceptor false false = refl

-- ---- turning

turned-twice : (count : ℕ) (body : List ℕ) → count % length body ≤ length body
    → drop (count % length body) (turned_right count body) ++ take (count % length body) (turned_right count body) ≡ body
turned-twice count body h =
    let r : ℕ = count % length body in
    let k : ℕ = length body - r in
    let front : length (drop k body) ≡ r = length-drop k body ∙ omega arith in
    let first : drop r (drop k body ++ take k body) ≡ take k body = drop_at (drop k body) (take k body) r front in
    let second : take r (drop k body ++ take k body) ≡ drop k body = take_at (drop k body) (take k body) r front in
    rw (first, second) (take-append-drop k body)

pub body-back : (token body : List ℕ) (rotation : ℕ) → drop 16 token ≡ turned_right rotation body → word_of token 6 ≡ rotation
    → rotation % length body ≤ length body → body_of token ≡ body
body-back token body rotation rest word le =
    rw (rest, word, length-turned (length body - rotation % length body) body) (turned-twice rotation body le)

-- ---- a token's octets

long-wrap : (end : TokenEnd) (sealed : Bool) (extra rotation number : ℕ) → length (wrap_header end sealed extra rotation number) ≡ 16
unfolding wrap_header
long-wrap end sealed extra rotation number = refl

kind-wrap : (end : TokenEnd) (sealed : Bool) (extra rotation number : ℕ) (body : List ℕ) → is_other_kind 5 (wrap_header end sealed extra rotation number ++ body) ≡ false
unfolding wrap_header
kind-wrap end sealed extra rotation number body = and_false (nat_le 2 (length (wrap_header end sealed extra rotation number ++ body)))

flags-wrap : (end : TokenEnd) (sealed : Bool) (extra rotation number : ℕ) (body : List ℕ)
    → slice_index (wrap_header end sealed extra rotation number ++ body) 2 ≡ flags_of end sealed
unfolding wrap_header
flags-wrap end sealed extra rotation number body = refl

filler-wrap : (end : TokenEnd) (sealed : Bool) (extra rotation number : ℕ) (body : List ℕ)
    → slice_index (wrap_header end sealed extra rotation number ++ body) 3 ≡ 255
unfolding wrap_header
filler-wrap end sealed extra rotation number body = refl

rest-wrap : (end : TokenEnd) (sealed : Bool) (extra rotation number : ℕ) (body : List ℕ) → drop 16 (wrap_header end sealed extra rotation number ++ body) ≡ body
unfolding wrap_header
rest-wrap end sealed extra rotation number body = refl

extra-12 : (end : TokenEnd) (sealed : Bool) (rotation number : ℕ) (body : List ℕ) → extra_count (wrap_header end sealed 12 rotation number ++ body) ≡ 12
unfolding wrap_header
extra-12 end sealed rotation number body = refl

word-wrap : (end : TokenEnd) (sealed : Bool) (extra rotation number : ℕ) (body : List ℕ) → rotation < 65536
    → word_of (wrap_header end sealed extra rotation number ++ body) 6 ≡ rotation
unfolding wrap_header
word-wrap end sealed extra rotation number body h = omega arith

bare-wrap : (end : TokenEnd) (sealed : Bool) (extra rotation number : ℕ) (body : List ℕ)
    → bare_header (wrap_header end sealed extra rotation number ++ body) ≡ wrap_header end sealed 0 0 number
unfolding wrap_header
bare-wrap end sealed extra rotation number body = refl

rotated-wrap : (end : TokenEnd) (sealed : Bool) (extra rotation number : ℕ) (body : List ℕ)
    → rotated rotation (wrap_header end sealed extra 0 number ++ body) ≡ wrap_header end sealed extra rotation number ++ turned_right rotation body
unfolding wrap_header rotated
rotated-wrap end sealed extra rotation number body = refl

-- ---- reading

reads-signed : (end : TokenEnd) (token : List ℕ) → is_other_kind 5 token ≡ false
    → nat_lt (length token) (if is_sealed (slice_index token 2) then 60 else 28) ≡ false → is_from_other end (slice_index token 2) ≡ true
    → has_subkey end (slice_index token 2) ≡ true → slice_index token 3 ≡ 255 → is_sealed (slice_index token 2) ≡ false
    → unwrapped end token ≡ unwrapped_signed end token
unfolding unwrapped
reads-signed end token kind long from subkey filler sealed = rw (kind, long, from, subkey, eq-eqb (slice_index token 3) 255 filler, sealed) refl

pub signed-taken : (end : TokenEnd) (number rotation : ℕ) (confounder octets : List ℕ) → rotation < 65536
    → unwrapped (facing end) (rotated rotation (wrap_of end number false confounder octets)) ≡ Ok (record { sealed = false; content = octets })
unfolding wrap_of signed_body
signed-taken end number rotation confounder octets small =
    let bare : List ℕ = wrap_header end false 0 0 number in
    let tag : List ℕ = checksum_of end.key (seal_usage end.side) (octets ++ bare) in
    let token : List ℕ = wrap_header end false 12 rotation number ++ turned_right rotation (octets ++ tag) in
    let longt : length tag ≡ 12 = length-checksum_of end.key (seal_usage end.side) (octets ++ bare) in
    let longb : length (octets ++ tag) ≡ length octets + 12 = length-append octets tag ∙ omega arith in
    let below : rotation % length (octets ++ tag) < length (octets ++ tag) = mod_below rotation (length (octets ++ tag)) (omega arith) in
    let back : body_of token ≡ octets ++ tag =
    body-back token (octets ++ tag) rotation (rest-wrap end false 12 rotation number (turned_right rotation (octets ++ tag)))
    (word-wrap end false 12 rotation number (turned_right rotation (octets ++ tag)) small) (omega arith) in
    let count : length (octets ++ tag) - 12 ≡ length octets = omega arith in
    let content : take (length (body_of token) - 12) (body_of token) ≡ octets = rw (back, count) (take_at octets tag (length octets) refl) in
    let ending : drop (length (body_of token) - 12) (body_of token) ≡ tag = rw (back, count) (drop_at octets tag (length octets) refl) in
    let header : bare_header token ≡ bare = bare-wrap end false 12 rotation number (turned_right rotation (octets ++ tag)) in
    let same : checksum_of end.key (seal_usage (other_side (other_side end.side))) (take (length (body_of token) - 12) (body_of token) ++ bare_header token)
    ≡ drop (length (body_of token) - 12) (body_of token) = rw (other-other end.side, content, ending, header) refl in
    let flags : slice_index token 2 ≡ flags_of end false = flags-wrap end false 12 rotation number (turned_right rotation (octets ++ tag)) in
    let signed : is_sealed (slice_index token 2) ≡ false = rw flags (sealed-flags end.key end.side end.subkey false) in
    let longw : length token ≡ 16 + length (octets ++ tag) =
    length-append (wrap_header end false 12 rotation number) (turned_right rotation (octets ++ tag))
    ∙ omega (arith, long-wrap end false 12 rotation number, length-turned (length (octets ++ tag) - rotation % length (octets ++ tag)) (octets ++ tag)) in
    let long : nat_lt (length token) (if is_sealed (slice_index token 2) then 60 else 28) ≡ false = rw signed (le-ltb (length token) 28 (omega arith)) in
    let from : is_from_other (facing end) (slice_index token 2) ≡ true = rw flags (from-facing end.key end.side end.subkey false) in
    let subkey : has_subkey (facing end) (slice_index token 2) ≡ true = rw flags (subkey-facing end.key end.side end.subkey false) in
    let good = rw content at (signed-good (facing end) token (extra-12 end false rotation number (turned_right rotation (octets ++ tag))) ((bytes_decides _ _).1 same)) in
    ap (unwrapped (facing end)) (rotated-wrap end false 12 rotation number (octets ++ tag))
    ∙ reads-signed (facing end) token (kind-wrap end false 12 rotation number (turned_right rotation (octets ++ tag))) long from subkey
    (filler-wrap end false 12 rotation number (turned_right rotation (octets ++ tag))) signed
    ∙ good

-- ---- what is sealed

extra-none : (end : TokenEnd) (sealed : Bool) (rotation number : ℕ) (body : List ℕ) → extra_count (wrap_header end sealed 0 rotation number ++ body) ≡ 0
unfolding wrap_header
extra-none end sealed rotation number body = refl

unturned-wrap : (end : TokenEnd) (sealed : Bool) (extra rotation number : ℕ) (body : List ℕ)
    → unturned_header (wrap_header end sealed extra rotation number ++ body) ≡ wrap_header end sealed extra 0 number
unfolding wrap_header
unturned-wrap end sealed extra rotation number body = refl

pub length-seal_of : (key : Key) (usage : ℕ) (confounder plain : List ℕ) → length confounder ≡ 16
    → length (seal_of key usage confounder plain) ≡ length plain + 28
unfolding seal_of
length-seal_of key usage confounder plain long =
    let whole : length (confounder ++ plain) ≡ 16 + length plain = length-append confounder plain ∙ omega arith in
    length-append (cts_encrypted (key_octets (derived key usage Encrypt)) (confounder ++ plain)) (tag_of (derived key usage Integrity) (confounder ++ plain))
    ∙ omega (arith, length-cts_encrypted (key_octets (derived key usage Encrypt)) (confounder ++ plain) (omega arith), length-tag_of (derived key usage Integrity) (confounder ++ plain))

reads-sealed : (end : TokenEnd) (token : List ℕ) → is_other_kind 5 token ≡ false
    → nat_lt (length token) (if is_sealed (slice_index token 2) then 60 else 28) ≡ false → is_from_other end (slice_index token 2) ≡ true
    → has_subkey end (slice_index token 2) ≡ true → slice_index token 3 ≡ 255 → is_sealed (slice_index token 2) ≡ true
    → unwrapped end token ≡ unwrapped_sealed end token
unfolding unwrapped
reads-sealed end token kind long from subkey filler sealed = rw (kind, long, from, subkey, eq-eqb (slice_index token 3) 255 filler, sealed) refl

pub sealed-taken : (end : TokenEnd) (number rotation : ℕ) (confounder octets : List ℕ) → rotation < 65536
    → Opens end.key (seal_usage end.side) → length confounder ≡ 16 → IsOctets (confounder ++ (octets ++ wrap_header end true 0 0 number))
    → unwrapped (facing end) (rotated rotation (wrap_of end number true confounder octets)) ≡ Ok (record { sealed = true; content = octets })
unfolding wrap_of sealed_body
sealed-taken end number rotation confounder octets small sealed_opens longc are =
    let header : List ℕ = wrap_header end true 0 0 number in
    let plain : List ℕ = octets ++ header in
    let body : List ℕ = seal_of end.key (seal_usage end.side) confounder plain in
    let token : List ℕ = wrap_header end true 0 rotation number ++ turned_right rotation body in
    let longp : length plain ≡ length octets + 16 = length-append octets header ∙ omega (arith, long-wrap end true 0 0 number) in
    let longb : length body ≡ length octets + 44 = length-seal_of end.key (seal_usage end.side) confounder plain longc ∙ omega arith in
    let below : rotation % length body < length body = mod_below rotation (length body) (omega arith) in
    let back : body_of token ≡ body =
    body-back token body rotation (rest-wrap end true 0 rotation number (turned_right rotation body))
    (word-wrap end true 0 rotation number (turned_right rotation body) small) (omega arith) in
    let opens : opened end.key (seal_usage (other_side (other_side end.side))) (body_of token) ≡ Ok plain =
    rw (back, other-other end.side) (sealed_opens confounder plain longc are) in
    let extra : extra_count token ≡ 0 = extra-none end true rotation number (turned_right rotation body) in
    let count : length plain - 16 ≡ length octets = omega arith in
    let ending : drop (length plain - 16) plain ≡ unturned_header token =
    rw (count, unturned-wrap end true 0 rotation number (turned_right rotation body)) (drop_at octets header (length octets) refl) in
    let content : take (length plain - 16 - extra_count token) plain ≡ octets = rw (extra, count, sub-zero) (take_at octets header (length octets) refl) in
    let good = rw content at (plain-good token plain (rw extra (omega arith)) ((bytes_decides _ _).1 ending)) in
    let flags : slice_index token 2 ≡ flags_of end true = flags-wrap end true 0 rotation number (turned_right rotation body) in
    let sealed : is_sealed (slice_index token 2) ≡ true = rw flags (sealed-flags end.key end.side end.subkey true) in
    let longw : length token ≡ 16 + length body =
    length-append (wrap_header end true 0 rotation number) (turned_right rotation body)
    ∙ omega (arith, long-wrap end true 0 rotation number, length-turned (length body - rotation % length body) body) in
    let long : nat_lt (length token) (if is_sealed (slice_index token 2) then 60 else 28) ≡ false = rw sealed (le-ltb (length token) 60 (omega arith)) in
    let from : is_from_other (facing end) (slice_index token 2) ≡ true = rw flags (from-facing end.key end.side end.subkey true) in
    let subkey : has_subkey (facing end) (slice_index token 2) ≡ true = rw flags (subkey-facing end.key end.side end.subkey true) in
    ap (unwrapped (facing end)) (rotated-wrap end true 0 rotation number body)
    ∙ reads-sealed (facing end) token (kind-wrap end true 0 rotation number (turned_right rotation body)) long from subkey
    (filler-wrap end true 0 rotation number (turned_right rotation body)) sealed
    ∙ sealed-opened (facing end) token plain opens
    ∙ good
