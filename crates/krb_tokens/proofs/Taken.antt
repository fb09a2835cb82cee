-- What an end makes is taken by the end that faces it.
use Rattle.std.proofs.Common.{◌≡◌, ℕ, ◌&&◌, ◌∙◌, Bool, true, false, refl, arith, List, ◌++◌, length, take, drop}
use Rattle.std.specs.Prelude.{Ok, nat_eq, nat_le, slice_index}
use Rattle.std.proofs.lemmas.Bool.{eq-eqb}
use Rattle.std.proofs.lemmas.List.{length-append, take_at, drop_at}
use lib.Pointwise.{pointwise, bytes_decides}
use Rattle.krb_derive.specs.declared.key.Key.{Key}
use Rattle.krb_derive.specs.Sealing.{checksum_of}
use Rattle.krb_derive.proofs.Opened.{length-tag_of}
use Rattle.krb_tokens.specs.declared.end.Side.{Side}
use Rattle.krb_tokens.specs.declared.end.Side.TheVariants.{Initiator, Acceptor}
use Rattle.krb_tokens.specs.declared.end.TokenEnd.{TokenEnd}
use Rattle.krb_tokens.specs.End.{other_side, sign_usage, flags_of, is_from_other, has_subkey, is_other_kind, all_filler, facing}
use Rattle.krb_tokens.specs.Mic.{mic_header, mic_of, checked_mic}

pub and_false : (b : Bool) → (b && false) ≡ false
and_false true = refl
and_false false = refl

pub other-other : (side : Side) → other_side (other_side side) ≡ side
other-other Initiator = refl
other-other Acceptor = refl

pub from-facing : (key : Key) (side : Side) (subkey sealed : Bool)
    → is_from_other (facing (record { key = key; side = side; subkey = subkey })) (flags_of (record { key = key; side = side; subkey = subkey }) sealed) ≡ true
from-facing key Initiator true true = refl
from-facing key Initiator true false = refl
from-facing key Initiator false true = refl
from-facing key Initiator false false = refl
from-facing key Acceptor true true = refl
from-facing key Acceptor true false = refl
from-facing key Acceptor false true = refl
from-facing key Acceptor false false = refl

pub subkey-facing : (key : Key) (side : Side) (subkey sealed : Bool)
    → has_subkey (facing (record { key = key; side = side; subkey = subkey })) (flags_of (record { key = key; side = side; subkey = subkey }) sealed) ≡ true
subkey-facing key Initiator true true = refl
subkey-facing key Initiator true false = refl
subkey-facing key Initiator false true = refl
subkey-facing key Initiator false false = refl
subkey-facing key Acceptor true true = refl
subkey-facing key Acceptor true false = refl
subkey-facing key Acceptor false true = refl
subkey-facing key Acceptor false false = refl

pub length-checksum_of : (key : Key) (usage : ℕ) (octets : List ℕ) → length (checksum_of key usage octets) ≡ 12
unfolding checksum_of
length-checksum_of key usage octets = length-tag_of _ octets

-- ---- of a MIC token

long-header : (end : TokenEnd) (number : ℕ) → length (mic_header end number) ≡ 16
unfolding mic_header
long-header end number = refl

kind-made : (end : TokenEnd) (number : ℕ) (tag : List ℕ) → is_other_kind 4 (mic_header end number ++ tag) ≡ false
unfolding mic_header
kind-made end number tag = and_false (nat_le 2 (length (mic_header end number ++ tag)))

flags-made : (end : TokenEnd) (number : ℕ) (tag : List ℕ) → slice_index (mic_header end number ++ tag) 2 ≡ flags_of end false
unfolding mic_header
flags-made end number tag = refl

filler-made : (end : TokenEnd) (number : ℕ) (tag : List ℕ) → all_filler (take 5 (drop 3 (mic_header end number ++ tag))) ≡ true
unfolding mic_header
filler-made end number tag = refl

pub mic-good : (end : TokenEnd) (token octets : List ℕ) → is_other_kind 4 token ≡ false → length token ≡ 28
    → is_from_other end (slice_index token 2) ≡ true → has_subkey end (slice_index token 2) ≡ true → all_filler (take 5 (drop 3 token)) ≡ true
    → pointwise nat_eq (checksum_of end.key (sign_usage (other_side end.side)) (octets ++ take 16 token)) (drop 16 token) ≡ true
    → checked_mic end token octets ≡ Ok tt
unfolding checked_mic
mic-good end token octets kind long from subkey filler same = rw (kind, eq-eqb (length token) 28 long, from, subkey, filler, same) refl

pub mic-taken : (end : TokenEnd) (number : ℕ) (octets : List ℕ) → checked_mic (facing end) (mic_of end number octets) octets ≡ Ok tt
unfolding mic_of
mic-taken end number octets =
    let header : List ℕ = mic_header end number in
    let tag : List ℕ = checksum_of end.key (sign_usage end.side) (octets ++ header) in
    let longh : length header ≡ 16 = long-header end number in
    let longt : length tag ≡ 12 = length-checksum_of end.key (sign_usage end.side) (octets ++ header) in
    let long : length (header ++ tag) ≡ 28 = length-append header tag ∙ omega arith in
    let flags : slice_index (header ++ tag) 2 ≡ flags_of end false = flags-made end number tag in
    let from : is_from_other (facing end) (slice_index (header ++ tag) 2) ≡ true = rw flags (from-facing end.key end.side end.subkey false) in
    let subkey : has_subkey (facing end) (slice_index (header ++ tag) 2) ≡ true = rw flags (subkey-facing end.key end.side end.subkey false) in
    let same : checksum_of end.key (sign_usage (other_side (other_side end.side))) (octets ++ take 16 (header ++ tag)) ≡ drop 16 (header ++ tag) =
    rw (other-other end.side, take_at header tag 16 longh, drop_at header tag 16 longh) refl in
    mic-good (facing end) (header ++ tag) octets (kind-made end number tag) long from subkey (filler-made end number tag)
    ((bytes_decides _ _).1 same)
