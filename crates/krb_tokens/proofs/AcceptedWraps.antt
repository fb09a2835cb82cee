-- A Wrap token is taken, with a content, exactly where the facing end could have made it of that content.
use Rattle.std.proofs.Common.{◌≡◌, ℕ, ◌+◌, ◌-◌, ◌/◌, ◌%◌, ◌^◌, ◌<◌, ◌≤◌, ◌∙◌, ◌⊎◌, inl, inr, Bool, true, false, if◌then◌else◌, refl, sym, ap, subst, arith, List, ◌++◌, length, take, drop}
use Rattle.std.specs.Prelude.{Result, Ok, Err, nat_eq, nat_le, nat_lt, ◌==◌, not, slice_index}
use Rattle.std.proofs.lemmas.Bool.{eqb-true, eq-eqb, le-ltb, ltb-false}
use Rattle.std.proofs.lemmas.Nat.{mod_below}
use Rattle.std.proofs.Math.Seq.{take-add, take-append-add}
use Rattle.std.proofs.lemmas.List.{length-append, length-take-le, length-drop, take_at, drop_at, take-append-drop, append_assoc}
use lib.Pointwise.{pointwise, bytes_decides}
use Rattle.aes_cts.specs.Cipher.{IsOctets}
use Rattle.aes_cts.proofs.Restored.{append-IsOctets, take-IsOctets, drop-IsOctets}
use Rattle.krb_derive.specs.declared.sealing.OpenRefusal.{OpenRefusal}
use Rattle.krb_derive.specs.declared.sealing.SealKeys.{SealKeys}
use Rattle.krb_derive.specs.Sealing.{checksum_of, opened}
use Rattle.krb_derive.specs.Kept.{ForSealing}
use Rattle.krb_derive.proofs.Opened.{kept_opens}
use Rattle.krb_tokens.specs.declared.end.TokenEnd.{TokenEnd}
use Rattle.krb_tokens.specs.declared.end.TokenRefusal.{TokenRefusal}
use Rattle.krb_tokens.specs.declared.end.TokenRefusal.TheVariants.{Length, Kind, Direction, Subkey, Filler, BadChecksum, ExtraCount, InnerHeader}
use Rattle.krb_tokens.specs.declared.wrap.Unwrapped.{Unwrapped}
use Rattle.krb_tokens.specs.End.{other_side, seal_usage, sender_flag, is_from_other, is_sealed, has_subkey, is_other_kind, facing}
use Rattle.krb_tokens.specs.Wrap.{word_of, extra_count, body_of, turned_right, unturned_header, bare_header, unwrapped, unwrapped_signed, unwrapped_plain, unwrapped_opened, unwrapped_sealed}
use Rattle.krb_tokens.specs.Tokens.{HasFlags, IsWrapOf, IsBody, IsSealedBody, IsSignedBody, wrap_header_with}
use Rattle.krb_tokens.proofs.Parts.{length-turned, signed-good, sealed-opened, plain-good}
use Rattle.krb_tokens.proofs.Taken.{and_false, length-checksum_of}
use Rattle.krb_tokens.proofs.Octets.{wrap_header_with-IsOctets}
use Rattle.krb_tokens.proofs.Headers.{number_in, number_in-small, wrap-header, long-with, flags-with, filler-with, rest-with, extra-with, rotation-with, unturned-with, bare-with}
use Rattle.krb_tokens.proofs.Deciphered.{Resealed, resealed}
use Rattle.krb_tokens.proofs.Unwrapping.{body-back, length-seal_of}

-- ---- the tests that a token passed

abbrev refused : TokenRefusal → Result Unwrapped TokenRefusal
refused refusal = Err refusal

not_taken : (refusal : TokenRefusal) (value : Unwrapped) → refused refusal ≡ Ok value → ⊥
not_taken refusal value e = cc

abbrev judged : Bool → Bool → Bool → Bool → Bool → Result Unwrapped TokenRefusal → Result Unwrapped TokenRefusal
judged kind short from subkey filler rest =
    if kind then Err Kind else if short then Err Length else if not from then Err Direction else if not subkey then Err Subkey
    else if not filler then Err Filler else rest

record Tests (kind short from subkey filler : Bool) (rest : Result Unwrapped TokenRefusal) (value : Unwrapped) : Type 0 where
  no_other : kind ≡ false
  length : short ≡ false
  direction : from ≡ true
  key : subkey ≡ true
  octet : filler ≡ true
  read : rest ≡ Ok value

passed : (kind short from subkey filler : Bool) (rest : Result Unwrapped TokenRefusal) (value : Unwrapped) → judged kind short from subkey filler rest ≡ Ok value
    → Tests kind short from subkey filler rest value
passed true short from subkey filler rest value e = absurd (not_taken Kind value e)
passed false true from subkey filler rest value e = absurd (not_taken Length value e)
passed false false false subkey filler rest value e = absurd (not_taken Direction value e)
passed false false true false filler rest value e = absurd (not_taken Subkey value e)
passed false false true true false rest value e = absurd (not_taken Filler value e)
passed false false true true true rest value e = record { no_other = refl; length = refl; direction = refl; key = refl; octet = refl; read = e }

abbrev read_by : Bool → TokenEnd → List ℕ → Result Unwrapped TokenRefusal
read_by sealed end token = if sealed then unwrapped_sealed end token else unwrapped_signed end token

tests_of : (end : TokenEnd) (token : List ℕ) (value : Unwrapped) → unwrapped end token ≡ Ok value
    → Tests (is_other_kind 5 token) (nat_lt (length token) (if is_sealed (slice_index token 2) then 60 else 28)) (is_from_other end (slice_index token 2))
    (has_subkey end (slice_index token 2)) (slice_index token 3 == 255) (read_by (is_sealed (slice_index token 2)) end token) value
unfolding unwrapped
tests_of end token value e =
    passed (is_other_kind 5 token) (nat_lt (length token) (if is_sealed (slice_index token 2) then 60 else 28)) (is_from_other end (slice_index token 2))
    (has_subkey end (slice_index token 2)) (slice_index token 3 == 255) (read_by (is_sealed (slice_index token 2)) end token) value e

least : (sealed : Bool) (n : ℕ) → nat_lt n (if sealed then 60 else 28) ≡ false → 28 ≤ n
least true n e = omega (arith, ltb-false n 60 e)
least false n e = ltb-false n 28 e

-- what is taken was sealed or signed, as its flag says
by_flag : (flag : Bool) (end : TokenEnd) (token : List ℕ) (value : Unwrapped) → read_by flag end token ≡ Ok value
    → ((flag ≡ true) × (unwrapped_sealed end token ≡ Ok value)) ⊎ ((flag ≡ false) × (unwrapped_signed end token ≡ Ok value))
by_flag true end token value e = inl (refl, e)
by_flag false end token value e = inr (refl, e)

-- ---- a signed one

abbrev signed_answer : Bool → Bool → List ℕ → Result Unwrapped TokenRefusal
signed_answer count tag content = if not count then Err ExtraCount else if tag then Ok (record { sealed = false; content = content }) else Err BadChecksum

signed_passed : (count tag : Bool) (content : List ℕ) (value : Unwrapped) → signed_answer count tag content ≡ Ok value
    → (count ≡ true) × (tag ≡ true) × (value ≡ record { sealed = false; content = content })
signed_passed false tag content value e = absurd (not_taken ExtraCount value e)
signed_passed true false content value e = absurd (not_taken BadChecksum value e)
signed_passed true true content value e = (refl, refl, cc)

abbrev tag_due : TokenEnd → List ℕ → List ℕ → List ℕ
tag_due end content header = checksum_of end.key (seal_usage (other_side end.side)) (content ++ header)

pub record Signed (end : TokenEnd) (token : List ℕ) (value : Unwrapped) : Type 0 where
  pub plain : value.sealed ≡ false
  pub count : extra_count token ≡ 12
  pub body : body_of token ≡ value.content ++ checksum_of end.key (seal_usage (other_side end.side)) (value.content ++ bare_header token)

signed : (end : TokenEnd) (token : List ℕ) (value : Unwrapped) → unwrapped_signed end token ≡ Ok value → Signed end token value
unfolding unwrapped_signed
signed end token value e =
    let body : List ℕ = body_of token in
    let count : ℕ = length body - 12 in
    let due : List ℕ = tag_due end (take count body) (bare_header token) in
    let p : ((extra_count token == 12) ≡ true) × (pointwise nat_eq due (drop count body) ≡ true) × (value ≡ record { sealed = false; content = take count body }) =
    signed_passed (extra_count token == 12) (pointwise nat_eq due (drop count body)) (take count body) value e in
    let content : value.content ≡ take count body = ap (λ (v : Unwrapped). v.content) p.2 in
    let tag : due ≡ drop count body = (bytes_decides due (drop count body)).0 p.1 in
    record {
      plain = ap (λ (v : Unwrapped). v.sealed) p.2;
      count = eqb-true (extra_count token) 12 p.0;
      body = rw (content, tag) (sym (take-append-drop count body));
    }

-- ---- a sealed one

opened_passed : (token : List ℕ) (answer : Result (List ℕ) OpenRefusal) (value : Unwrapped) → unwrapped_opened token answer ≡ Ok value
    → (plain : List ℕ) × (answer ≡ Ok plain) × (unwrapped_plain token plain ≡ Ok value)
opened_passed token (Ok plain) value e = (plain, refl, e)
opened_passed token (Err refusal) value e = absurd (not_taken BadChecksum value e)

abbrev plain_answer : Bool → Bool → List ℕ → Result Unwrapped TokenRefusal
plain_answer short header content = if short then Err ExtraCount else if header then Ok (record { sealed = true; content = content }) else Err InnerHeader

plain_passed : (short header : Bool) (content : List ℕ) (value : Unwrapped) → plain_answer short header content ≡ Ok value
    → (short ≡ false) × (header ≡ true) × (value ≡ record { sealed = true; content = content })
plain_passed true header content value e = absurd (not_taken ExtraCount value e)
plain_passed false false content value e = absurd (not_taken InnerHeader value e)
plain_passed false true content value e = (refl, refl, cc)

pub record Plain (token plain : List ℕ) (value : Unwrapped) : Type 0 where
  pub sealed : value.sealed ≡ true
  pub room : extra_count token + 16 ≤ length plain
  pub header : drop (length plain - 16) plain ≡ unturned_header token
  pub content : value.content ≡ take (length plain - 16 - extra_count token) plain

plain_of : (token plain : List ℕ) (value : Unwrapped) → unwrapped_plain token plain ≡ Ok value → Plain token plain value
unfolding unwrapped_plain
plain_of token plain value e =
    let ending : List ℕ = drop (length plain - 16) plain in
    let content : List ℕ = take (length plain - 16 - extra_count token) plain in
    let p : (nat_lt (length plain) (extra_count token + 16) ≡ false) × (pointwise nat_eq ending (unturned_header token) ≡ true)
    × (value ≡ record { sealed = true; content = content }) =
    plain_passed (nat_lt (length plain) (extra_count token + 16)) (pointwise nat_eq ending (unturned_header token)) content value e in
    record {
      sealed = ap (λ (v : Unwrapped). v.sealed) p.2;
      room = ltb-false (length plain) (extra_count token + 16) p.0;
      header = (bytes_decides ending (unturned_header token)).0 p.1;
      content = ap (λ (v : Unwrapped). v.content) p.2;
    }

pub record Sealed (end : TokenEnd) (token : List ℕ) (value : Unwrapped) : Type 0 where
  pub plain : List ℕ
  pub opens : opened end.key (seal_usage (other_side end.side)) (body_of token) ≡ Ok plain
  pub read : Plain token plain value

sealed_of : (end : TokenEnd) (token : List ℕ) (value : Unwrapped) → unwrapped_sealed end token ≡ Ok value → Sealed end token value
unfolding unwrapped_sealed
sealed_of end token value e =
    let p = opened_passed token (opened end.key (seal_usage (other_side end.side)) (body_of token)) value e in
    record { plain = p.0; opens = p.1; read = plain_of token p.0 value p.2 }

-- what a token that was taken is
pub taken_as : (end : TokenEnd) (token : List ℕ) (value : Unwrapped) → unwrapped end token ≡ Ok value
    → ((is_sealed (slice_index token 2) ≡ true) × Sealed end token value) ⊎ ((is_sealed (slice_index token 2) ≡ false) × Signed end token value)
taken_as end token value e =
    elim (by_flag (is_sealed (slice_index token 2)) end token value (tests_of end token value e).read) [
      | inl s ↦ inl (s.0, sealed_of end token value s.1)
      | inr s ↦ inr (s.0, signed end token value s.1)
    ]

pub enough : (end : TokenEnd) (token : List ℕ) (value : Unwrapped) → unwrapped end token ≡ Ok value → 28 ≤ length token
enough end token value e = least (is_sealed (slice_index token 2)) (length token) (tests_of end token value e).length

-- ---- such a token could have been made

-- a body that was turned back, turned again
turned-again : (count : ℕ) (xs : List ℕ) → count % length xs ≤ length xs
    → turned_right count (drop (count % length xs) xs ++ take (count % length xs) xs) ≡ xs
turned-again count xs h =
    let r : ℕ = count % length xs in
    let front : length (drop r xs) ≡ length xs - r = length-drop r xs in
    rw (length-turned r xs, drop_at (drop r xs) (take r xs) (length xs - r) front, take_at (drop r xs) (take r xs) (length xs - r) front)
    (take-append-drop r xs)

record Read (end : TokenEnd) (token : List ℕ) : Type 0 where
  flagged : HasFlags (facing end) (slice_index token 2)
  header : take 16 token ≡ wrap_header_with (slice_index token 2) (word_of token 4) (word_of token 6) (number_in token)
  rest : drop 16 token ≡ turned_right (word_of token 6) (body_of token)
  few : word_of token 4 < 2 ^ 16
  turns : word_of token 6 < 2 ^ 16

read : (end : TokenEnd) (token : List ℕ) (value : Unwrapped) → IsOctets token → unwrapped end token ≡ Ok value → Read end token
read end token value small e =
    let t = tests_of end token value e in
    let flags : ℕ = slice_index token 2 in
    let long : 28 ≤ length token = enough end token value e in
    let rest : List ℕ = drop 16 token in
    let longr : length rest ≡ length token - 16 = length-drop 16 token in
    let below : word_of token 6 % length rest < length rest = mod_below (word_of token 6) (length rest) (omega arith) in
    record {
      flagged = record {
        octet = small 2;
        sender = eqb-true (flags % 2) (sender_flag (other_side end.side)) t.direction;
        subkey = eqb-true (flags / 4 % 2) (if end.subkey then 1 else 0) t.key;
      };
      header = wrap-header token small (omega arith) t.no_other (eqb-true (slice_index token 3) 255 t.octet);
      rest = sym (turned-again (word_of token 6) rest (omega arith));
      few = omega (arith, small 4, small 5);
      turns = omega (arith, small 6, small 7);
    }

headers : (end : TokenEnd) (token : List ℕ) → Read end token
    → (unturned_header token ≡ wrap_header_with (slice_index token 2) (word_of token 4) 0 (number_in token))
    × (bare_header token ≡ wrap_header_with (slice_index token 2) 0 0 (number_in token))
headers end token r =
    let flags : ℕ = slice_index token 2 in
    let whole : token ≡ wrap_header_with flags (word_of token 4) (word_of token 6) (number_in token) ++ drop 16 token =
    sym (take-append-drop 16 token) ∙ ap (λ (x : List ℕ). x ++ drop 16 token) r.header in (
      ap unturned_header whole ∙ unturned-with flags (word_of token 4) (word_of token 6) (number_in token) (drop 16 token),
      ap bare_header whole ∙ bare-with flags (word_of token 4) (word_of token 6) (number_in token) (drop 16 token),
    )

signed_body : (end : TokenEnd) (token : List ℕ) (value : Unwrapped) → Read end token → Signed end token value
    → IsSignedBody (facing end) (wrap_header_with (slice_index token 2) 0 0 (number_in token)) (word_of token 4) value.content (body_of token)
signed_body end token value r s = record { count = s.count; signed = s.body ∙ rw (headers end token r).1 refl }

sealed_body : (kept : SealKeys) (end : TokenEnd) (token : List ℕ) (value : Unwrapped) → ForSealing kept end.key (seal_usage (other_side end.side))
    → IsOctets (body_of token) → Read end token → Sealed end token value
    → IsSealedBody (facing end) (wrap_header_with (slice_index token 2) (word_of token 4) 0 (number_in token)) (word_of token 4) value.content (body_of token)
sealed_body kept end token value for small r s =
    let plain : List ℕ = s.plain in
    let extra : ℕ = word_of token 4 in
    let count : ℕ = length plain - 16 in
    let room : extra + 16 ≤ length plain = s.read.room in
    let filling : List ℕ = take extra (drop (count - extra) plain) in
    let sum : count - extra + extra ≡ count = omega arith in
    let front : value.content ++ filling ≡ take count plain =
    ap (λ (x : List ℕ). x ++ filling) s.read.content ∙ sym (take-add (count - extra) extra plain) ∙ ap (λ (n : ℕ). take n plain) sum in
    let whole : (value.content ++ filling) ++ wrap_header_with (slice_index token 2) extra 0 (number_in token) ≡ plain =
    rw (front, ← (headers end token r).0, ← s.read.header) (take-append-drop count plain) in
    let again : Resealed end.key (seal_usage (other_side end.side)) (body_of token) plain =
    resealed kept end.key (seal_usage (other_side end.side)) (body_of token) plain for small s.opens in
    let octets : IsOctets (again.confounder ++ (value.content ++ filling)) =
    rw (front, ← take-append-add again.confounder plain count) (take-IsOctets (length again.confounder + count) (again.confounder ++ plain) again.small) in
    record {
      confounder = again.confounder;
      filling = filling;
      octets = octets;
      block = again.block;
      count = length-take-le extra (drop (count - extra) plain) (omega (arith, length-drop (count - extra) plain));
      sealed = rw whole again.sealed;
    }

made : (end : TokenEnd) (sealed : Bool) (token content : List ℕ) → IsOctets token → Read end token → is_sealed (slice_index token 2) ≡ sealed
    → IsBody (facing end) sealed (slice_index token 2) (word_of token 4) (number_in token) content (body_of token) → IsWrapOf (facing end) sealed content token
made end sealed token content small r flag body = record {
  flags = slice_index token 2;
  extra = word_of token 4;
  rotation = word_of token 6;
  number = number_in token;
  body = body_of token;
  flagged = r.flagged;
  sealing = flag;
  few = r.few;
  turns = r.turns;
  small = number_in-small token small;
  made = body;
  spelled = sym (take-append-drop 16 token) ∙ ap (λ (x : List ℕ). take 16 token ++ x) r.rest
      ∙ ap (λ (x : List ℕ). x ++ turned_right (word_of token 6) (body_of token)) r.header;
}

small_body : (token : List ℕ) → IsOctets token → IsOctets (body_of token)
small_body token small =
    let rest : List ℕ = drop 16 token in
    let n : ℕ = word_of token 6 % length rest in
    let each : IsOctets rest = drop-IsOctets 16 token small in
    append-IsOctets (drop n rest) (take n rest) (drop-IsOctets n rest each) (take-IsOctets n rest each)

pub differ : true ≡ false → ⊥
differ e = cc

pub wrap-only : (kept : SealKeys) (end : TokenEnd) (sealed : Bool) (token content : List ℕ) → ForSealing kept end.key (seal_usage (other_side end.side))
    → IsOctets token → unwrapped end token ≡ Ok (record { sealed = sealed; content = content }) → IsWrapOf (facing end) sealed content token
wrap-only kept end true token content for small e =
    let value : Unwrapped = record { sealed = true; content = content } in
    let r : Read end token = read end token value small e in
    elim (taken_as end token value e) [
      | inl s ↦ made end true token content small r s.0 (sealed_body kept end token value for (small_body token small) r s.1)
      | inr s ↦ absurd (differ s.1.plain)
    ]
wrap-only kept end false token content for small e =
    let value : Unwrapped = record { sealed = false; content = content } in
    let r : Read end token = read end token value small e in
    elim (taken_as end token value e) [
      | inl s ↦ absurd (differ (sym s.1.read.sealed))
      | inr s ↦ made end false token content small r s.0 (signed_body end token value r s.1)
    ]

-- ---- the other way round

kind-with : (flags extra rotation number : ℕ) (body : List ℕ) → is_other_kind 5 (wrap_header_with flags extra rotation number ++ body) ≡ false
unfolding wrap_header_with
kind-with flags extra rotation number body = and_false (nat_le 2 (length (wrap_header_with flags extra rotation number ++ body)))

reads : (end : TokenEnd) (token : List ℕ) (flags : ℕ) → is_other_kind 5 token ≡ false → slice_index token 2 ≡ flags
    → nat_lt (length token) (if is_sealed flags then 60 else 28) ≡ false → HasFlags (facing end) flags → slice_index token 3 ≡ 255
    → unwrapped end token ≡ read_by (is_sealed flags) end token
unfolding unwrapped
reads end token flags kind flag long has filler =
    rw (
      kind,
      flag,
      long,
      eq-eqb (flags % 2) (sender_flag (other_side end.side)) has.sender,
      eq-eqb (flags / 4 % 2) (if end.subkey then 1 else 0) has.subkey,
      eq-eqb (slice_index token 3) 255 filler,
    ) refl

-- a header before a body that was turned
record Made (token body : List ℕ) (flags extra rotation number : ℕ) : Type 0 where
  long : length token ≡ 16 + length body
  back : body_of token ≡ body
  flag : slice_index token 2 ≡ flags
  filler : slice_index token 3 ≡ 255
  kind : is_other_kind 5 token ≡ false
  count : extra_count token ≡ extra
  unturned : unturned_header token ≡ wrap_header_with flags extra 0 number
  bare : bare_header token ≡ wrap_header_with flags 0 0 number

made-with : (body : List ℕ) (flags extra rotation number : ℕ) → 0 < length body → extra < 2 ^ 16 → rotation < 2 ^ 16
    → Made (wrap_header_with flags extra rotation number ++ turned_right rotation body) body flags extra rotation number
made-with body flags extra rotation number some few turns =
    let turned : List ℕ = turned_right rotation body in
    let below : rotation % length body < length body = mod_below rotation (length body) some in
    record {
      long = length-append (wrap_header_with flags extra rotation number) turned
          ∙ omega (arith, long-with flags extra rotation number, length-turned (length body - rotation % length body) body);
      back = body-back (wrap_header_with flags extra rotation number ++ turned) body rotation (rest-with flags extra rotation number turned)
          (rotation-with flags extra rotation number turned turns) (omega arith);
      flag = flags-with flags extra rotation number turned;
      filler = filler-with flags extra rotation number turned;
      kind = kind-with flags extra rotation number turned;
      count = extra-with flags extra rotation number turned few;
      unturned = unturned-with flags extra rotation number turned;
      bare = bare-with flags extra rotation number turned;
    }

signed-with : (end : TokenEnd) (token content : List ℕ) (flags rotation number : ℕ) → HasFlags (facing end) flags → is_sealed flags ≡ false
    → Made token (content ++ tag_due end content (wrap_header_with flags 0 0 number)) flags 12 rotation number
    → unwrapped end token ≡ Ok (record { sealed = false; content = content })
signed-with end token content flags rotation number has sealed m =
    let tag : List ℕ = tag_due end content (wrap_header_with flags 0 0 number) in
    let body : List ℕ = content ++ tag in
    let longt : length tag ≡ 12 = length-checksum_of end.key (seal_usage (other_side end.side)) (content ++ wrap_header_with flags 0 0 number) in
    let longb : length body ≡ length content + 12 = length-append content tag ∙ omega arith in
    let count : length body - 12 ≡ length content = omega arith in
    let held : take (length (body_of token) - 12) (body_of token) ≡ content = rw (m.back, count) (take_at content tag (length content) refl) in
    let ending : drop (length (body_of token) - 12) (body_of token) ≡ tag = rw (m.back, count) (drop_at content tag (length content) refl) in
    let same : tag_due end (take (length (body_of token) - 12) (body_of token)) (bare_header token) ≡ drop (length (body_of token) - 12) (body_of token) =
    rw (held, ending, m.bare) refl in
    let long : nat_lt (length token) (if is_sealed flags then 60 else 28) ≡ false = rw sealed (le-ltb (length token) 28 (omega (arith, m.long))) in
    let good = rw held at (signed-good end token m.count ((bytes_decides (tag_due end (take (length (body_of token) - 12) (body_of token)) (bare_header token)) (drop (length (body_of token) - 12) (body_of token))).1 same)) in
    reads end token flags m.kind m.flag long has m.filler ∙ ap (λ (b : Bool). read_by b end token) sealed ∙ good

sealed-with : (kept : SealKeys) (end : TokenEnd) (token content body : List ℕ) (flags extra rotation number : ℕ)
    → ForSealing kept end.key (seal_usage (other_side end.side)) → HasFlags (facing end) flags → is_sealed flags ≡ true
    → IsSealedBody (facing end) (wrap_header_with flags extra 0 number) extra content body → Made token body flags extra rotation number
    → unwrapped end token ≡ Ok (record { sealed = true; content = content })
sealed-with kept end token content body flags extra rotation number for has sealed s m =
    let header : List ℕ = wrap_header_with flags extra 0 number in
    let front : List ℕ = content ++ s.filling in
    let plain : List ℕ = front ++ header in
    let longh : length header ≡ 16 = long-with flags extra 0 number in
    let longf : length front ≡ length content + extra = length-append content s.filling ∙ omega (arith, s.count) in
    let longp : length plain ≡ length content + extra + 16 = length-append front header ∙ omega arith in
    let longb : length body ≡ length plain + 28 = ap length s.sealed ∙ length-seal_of end.key (seal_usage (other_side end.side)) s.confounder plain s.block in
    let octets : IsOctets (s.confounder ++ plain) =
    rw (← append_assoc s.confounder front header) (append-IsOctets (s.confounder ++ front) header s.octets (wrap_header_with-IsOctets flags extra 0 number has.octet)) in
    let opens : opened end.key (seal_usage (other_side end.side)) (body_of token) ≡ Ok plain =
    rw m.back (kept_opens kept end.key (seal_usage (other_side end.side)) s.confounder plain body for s.block octets s.sealed) in
    let count : length plain - 16 ≡ length front = omega arith in
    let fewer : length front - extra ≡ length content = omega arith in
    let ending : drop (length plain - 16) plain ≡ unturned_header token = rw (count, m.unturned) (drop_at front header (length front) refl) in
    let held : take (length plain - 16 - extra_count token) plain ≡ content =
    rw (m.count, count, fewer, append_assoc content s.filling header) (take_at content (s.filling ++ header) (length content) refl) in
    let long : nat_lt (length token) (if is_sealed flags then 60 else 28) ≡ false = rw sealed (le-ltb (length token) 60 (omega (arith, m.long))) in
    let good = rw held at (plain-good token plain (rw m.count (omega arith)) ((bytes_decides (drop (length plain - 16) plain) (unturned_header token)).1 ending)) in
    reads end token flags m.kind m.flag long has m.filler ∙ ap (λ (b : Bool). read_by b end token) sealed ∙ sealed-opened end token plain opens ∙ good

pub wrap-all : (kept : SealKeys) (end : TokenEnd) (sealed : Bool) (token content : List ℕ) → ForSealing kept end.key (seal_usage (other_side end.side))
    → IsWrapOf (facing end) sealed content token → unwrapped end token ≡ Ok (record { sealed = sealed; content = content })
wrap-all kept end true token content for w =
    let P : List ℕ → Type 0 = λ t. unwrapped end t ≡ Ok (record { sealed = true; content = content }) in
    let long = ap length w.made.sealed ∙ length-seal_of end.key (seal_usage (other_side end.side)) w.made.confounder ((content ++ w.made.filling) ++ wrap_header_with w.flags w.extra 0 w.number) w.made.block in
    subst P (sym w.spelled) (sealed-with kept end (wrap_header_with w.flags w.extra w.rotation w.number ++ turned_right w.rotation w.body) content w.body
    w.flags w.extra w.rotation w.number for w.flagged w.sealing w.made (made-with w.body w.flags w.extra w.rotation w.number (omega (arith, long)) w.few w.turns))
wrap-all kept end false token content for w =
    let P : List ℕ → Type 0 = λ t. unwrapped end t ≡ Ok (record { sealed = false; content = content }) in
    let tag : List ℕ = tag_due end content (wrap_header_with w.flags 0 0 w.number) in
    let long : length (content ++ tag) ≡ length content + 12 =
    length-append content tag ∙ omega (arith, length-checksum_of end.key (seal_usage (other_side end.side)) (content ++ wrap_header_with w.flags 0 0 w.number)) in
    let spelled : token ≡ wrap_header_with w.flags 12 w.rotation w.number ++ turned_right w.rotation (content ++ tag) =
    w.spelled ∙ ap (λ (extra : ℕ). wrap_header_with w.flags extra w.rotation w.number ++ turned_right w.rotation w.body) w.made.count
    ∙ ap (λ (body : List ℕ). wrap_header_with w.flags 12 w.rotation w.number ++ turned_right w.rotation body) w.made.signed in
    subst P (sym spelled) (signed-with end (wrap_header_with w.flags 12 w.rotation w.number ++ turned_right w.rotation (content ++ tag)) content w.flags w.rotation w.number
    w.flagged w.sealing (made-with (content ++ tag) w.flags 12 w.rotation w.number (omega arith) (omega arith) w.turns))
