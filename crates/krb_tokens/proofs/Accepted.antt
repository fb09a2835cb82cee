-- A MIC token is taken exactly where the facing end could have made it.
use Rattle.std.proofs.Common.{◌≡◌, ℕ, ◌/◌, ◌%◌, ◌∙◌, Bool, true, false, if◌then◌else◌, refl, sym, ap, subst, arith, List, ◌++◌, length, take, drop}
use Rattle.std.specs.Prelude.{Result, Ok, Err, nat_eq, nat_le, ◌==◌, not, slice_index}
use Rattle.std.proofs.lemmas.Bool.{eqb-true, eq-eqb}
use Rattle.std.proofs.lemmas.List.{length-append, take_at, drop_at, take-append-drop}
use lib.Pointwise.{pointwise, bytes_decides}
use Rattle.aes_cts.specs.Cipher.{IsOctets}
use Rattle.krb_derive.specs.Sealing.{checksum_of}
use Rattle.krb_tokens.specs.declared.end.TokenEnd.{TokenEnd}
use Rattle.krb_tokens.specs.declared.end.TokenRefusal.{TokenRefusal}
use Rattle.krb_tokens.specs.declared.end.TokenRefusal.TheVariants.{Length, Kind, Direction, Subkey, Filler, BadChecksum}
use Rattle.krb_tokens.specs.End.{other_side, sign_usage, sender_flag, is_from_other, has_subkey, is_other_kind, all_filler, facing}
use Rattle.krb_tokens.specs.Mic.{checked_mic}
use Rattle.krb_tokens.specs.Tokens.{HasFlags, IsMicOf, mic_header_with}
use Rattle.krb_tokens.proofs.Headers.{number_in, number_in-small, mic-header}
use Rattle.krb_tokens.proofs.Taken.{and_false, length-checksum_of, mic-good}

abbrev refused : TokenRefusal → Result (Unit {0}) TokenRefusal
refused refusal = Err refusal

not_taken : (refusal : TokenRefusal) → refused refusal ≡ Ok tt → ⊥
not_taken refusal e = cc

abbrev judged : Bool → Bool → Bool → Bool → Bool → Bool → Result (Unit {0}) TokenRefusal
judged kind long from subkey filler tag =
    if kind then Err Kind else if not long then Err Length else if not from then Err Direction else if not subkey then Err Subkey
    else if not filler then Err Filler else if tag then Ok tt else Err BadChecksum

record Tests (kind long from subkey filler tag : Bool) : Type 0 where
  no_other : kind ≡ false
  length : long ≡ true
  direction : from ≡ true
  key : subkey ≡ true
  octets : filler ≡ true
  checksum : tag ≡ true

passed : (kind long from subkey filler tag : Bool) → judged kind long from subkey filler tag ≡ Ok tt → Tests kind long from subkey filler tag
passed true long from subkey filler tag e = absurd (not_taken Kind e)
passed false false from subkey filler tag e = absurd (not_taken Length e)
passed false true false subkey filler tag e = absurd (not_taken Direction e)
passed false true true false filler tag e = absurd (not_taken Subkey e)
passed false true true true false tag e = absurd (not_taken Filler e)
passed false true true true true false e = absurd (not_taken BadChecksum e)
passed false true true true true true e = record { no_other = refl; length = refl; direction = refl; key = refl; octets = refl; checksum = refl }

abbrev tag_due : TokenEnd → List ℕ → List ℕ → List ℕ
tag_due end octets header = checksum_of end.key (sign_usage (other_side end.side)) (octets ++ header)

tests_of : (end : TokenEnd) (token octets : List ℕ) → checked_mic end token octets ≡ Ok tt
    → Tests (is_other_kind 4 token) (length token == 28) (is_from_other end (slice_index token 2)) (has_subkey end (slice_index token 2))
    (all_filler (take 5 (drop 3 token))) (pointwise nat_eq (tag_due end octets (take 16 token)) (drop 16 token))
unfolding checked_mic
tests_of end token octets e =
    passed (is_other_kind 4 token) (length token == 28) (is_from_other end (slice_index token 2)) (has_subkey end (slice_index token 2))
    (all_filler (take 5 (drop 3 token))) (pointwise nat_eq (tag_due end octets (take 16 token)) (drop 16 token)) e

pub record Compared (end : TokenEnd) (token octets : List ℕ) : Type 0 where
  pub long : length token ≡ 28
  pub tag : checksum_of end.key (sign_usage (other_side end.side)) (octets ++ take 16 token) ≡ drop 16 token

pub mic-compared : (end : TokenEnd) (token octets : List ℕ) → checked_mic end token octets ≡ Ok tt → Compared end token octets
mic-compared end token octets e =
    let t = tests_of end token octets e in
    record { long = eqb-true (length token) 28 t.length; tag = (bytes_decides (tag_due end octets (take 16 token)) (drop 16 token)).0 t.checksum }

pub mic-only : (end : TokenEnd) (token octets : List ℕ) → IsOctets token → checked_mic end token octets ≡ Ok tt → IsMicOf (facing end) octets token
mic-only end token octets small e =
    let t = tests_of end token octets e in
    let c = mic-compared end token octets e in
    let flags : ℕ = slice_index token 2 in
    let header : take 16 token ≡ mic_header_with flags (number_in token) = mic-header token small (omega (arith, c.long)) t.no_other t.octets in
    record {
      flags = flags;
      number = number_in token;
      flagged = record {
        octet = small 2;
        sender = eqb-true (flags % 2) (sender_flag (other_side end.side)) t.direction;
        subkey = eqb-true (flags / 4 % 2) (if end.subkey then 1 else 0) t.key;
      };
      small = number_in-small token small;
      spelled = sym (take-append-drop 16 token) ∙ ap (λ (x : List ℕ). take 16 token ++ x) (sym c.tag) ∙ ap (λ (x : List ℕ). x ++ tag_due end octets x) header;
    }

-- ---- the other way round

long-mic : (flags number : ℕ) → length (mic_header_with flags number) ≡ 16
unfolding mic_header_with
long-mic flags number = refl

kind-mic : (flags number : ℕ) (tag : List ℕ) → is_other_kind 4 (mic_header_with flags number ++ tag) ≡ false
unfolding mic_header_with
kind-mic flags number tag = and_false (nat_le 2 (length (mic_header_with flags number ++ tag)))

flags-mic : (flags number : ℕ) (tag : List ℕ) → slice_index (mic_header_with flags number ++ tag) 2 ≡ flags
unfolding mic_header_with
flags-mic flags number tag = refl

filler-mic : (flags number : ℕ) (tag : List ℕ) → all_filler (take 5 (drop 3 (mic_header_with flags number ++ tag))) ≡ true
unfolding mic_header_with
filler-mic flags number tag = refl

mic-with : (end : TokenEnd) (flags number : ℕ) (octets : List ℕ) → HasFlags (facing end) flags
    → checked_mic end (mic_header_with flags number ++ tag_due end octets (mic_header_with flags number)) octets ≡ Ok tt
mic-with end flags number octets has =
    let header : List ℕ = mic_header_with flags number in
    let tag : List ℕ = tag_due end octets header in
    let long : length (header ++ tag) ≡ 28 =
    length-append header tag ∙ omega (arith, long-mic flags number, length-checksum_of end.key (sign_usage (other_side end.side)) (octets ++ header)) in
    let from : is_from_other end (slice_index (header ++ tag) 2) ≡ true = rw (flags-mic flags number tag) (eq-eqb (flags % 2) (sender_flag (other_side end.side)) has.sender) in
    let subkey : has_subkey end (slice_index (header ++ tag) 2) ≡ true = rw (flags-mic flags number tag) (eq-eqb (flags / 4 % 2) (if end.subkey then 1 else 0) has.subkey) in
    let same : tag_due end octets (take 16 (header ++ tag)) ≡ drop 16 (header ++ tag) =
    rw (take_at header tag 16 (long-mic flags number), drop_at header tag 16 (long-mic flags number)) refl in
    mic-good end (header ++ tag) octets (kind-mic flags number tag) long from subkey (filler-mic flags number tag) ((bytes_decides (tag_due end octets (take 16 (header ++ tag))) (drop 16 (header ++ tag))).1 same)

pub mic-all : (end : TokenEnd) (token octets : List ℕ) → IsMicOf (facing end) octets token → checked_mic end token octets ≡ Ok tt
mic-all end token octets made =
    let P : List ℕ → Type 0 = λ t. checked_mic end t octets ≡ Ok tt in
    subst P (sym made.spelled) (mic-with end made.flags made.number octets made.flagged)
