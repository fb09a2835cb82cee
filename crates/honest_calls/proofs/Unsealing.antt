-- What an end sealed under a key of octets is taken by the other end.
use Rattle.std.proofs.Common.{◌≡◌, ℕ, ◌+◌, ◌-◌, ◌/◌, ◌%◌, ◌^◌, ◌<◌, ◌∙◌, Bool, true, false, if◌then◌else◌, refl, sym, ap, subst, arith, List, ◌++◌, length, take, drop}
use Rattle.std.specs.Prelude.{Result, Ok, nat_le, nat_lt, slice_index}
use Rattle.std.proofs.lemmas.Bool.{eq-eqb, le-ltb}
use Rattle.std.proofs.lemmas.Nat.{mod_below}
use Rattle.std.proofs.lemmas.List.{length-append, take_at, drop_at, append_assoc}
use lib.Pointwise.{bytes_decides}
use Rattle.aes_cts.specs.Cipher.{IsOctets}
use Rattle.aes_cts.specs.Schedule.{rounds_of}
use Rattle.aes_cts.proofs.Restored.{append-IsOctets}
use Rattle.krb_derive.specs.declared.derivation.Part.TheVariants.{Encrypt}
use Rattle.krb_derive.specs.Derivation.{derived}
use Rattle.krb_derive.specs.Key.{key_octets}
use Rattle.krb_derive.specs.Sealing.{opened}
use Rattle.krb_derive.proofs.Opened.{opened-seal_of}
use Rattle.krb_tokens.specs.declared.end.TokenEnd.{TokenEnd}
use Rattle.krb_tokens.specs.declared.end.TokenRefusal.{TokenRefusal}
use Rattle.krb_tokens.specs.declared.wrap.Unwrapped.{Unwrapped}
use Rattle.krb_tokens.specs.End.{other_side, seal_usage, sender_flag, is_sealed, is_other_kind, facing}
use Rattle.krb_tokens.specs.Wrap.{extra_count, body_of, turned_right, unturned_header, unwrapped, unwrapped_signed, unwrapped_sealed}
use Rattle.krb_tokens.specs.Tokens.{HasFlags, IsWrapOf, IsSealedBody, wrap_header_with}
use Rattle.krb_tokens.proofs.Parts.{length-turned, sealed-opened, plain-good}
use Rattle.krb_tokens.proofs.Taken.{and_false}
use Rattle.krb_tokens.proofs.Octets.{wrap_header_with-IsOctets}
use Rattle.krb_tokens.proofs.Headers.{long-with, flags-with, filler-with, rest-with, extra-with, rotation-with, unturned-with}
use Rattle.krb_tokens.proofs.Unwrapping.{body-back, length-seal_of}
use Rattle.honest_calls.proofs.KeyOctets.{schedule-keys, derived-small}

abbrev read_by : Bool → TokenEnd → List ℕ → Result Unwrapped TokenRefusal
read_by sealed end token = if sealed then unwrapped_sealed end token else unwrapped_signed end token

kind-with : (flags extra rotation number : ℕ) (body : List ℕ) → is_other_kind 5 (wrap_header_with flags extra rotation number ++ body) ≡ false
unfolding wrap_header_with
kind-with flags extra rotation number body = and_false (nat_le 2 (length (wrap_header_with flags extra rotation number ++ body)))

reads : (end : TokenEnd) (token : List ℕ) (flags : ℕ) → is_other_kind 5 token ≡ false → slice_index token 2 ≡ flags
    → nat_lt (length token) (if is_sealed flags then 60 else 28) ≡ false → HasFlags (facing end) flags → slice_index token 3 ≡ 255
    → unwrapped end token ≡ read_by (is_sealed flags) end token
unfolding unwrapped
reads end token flags kind flag long has filler =
    rw (
      kind,
      flag,
      long,
      eq-eqb (flags % 2) (sender_flag (other_side end.side)) has.sender,
      eq-eqb (flags / 4 % 2) (if end.subkey then 1 else 0) has.subkey,
      eq-eqb (slice_index token 3) 255 filler,
    ) refl

-- a header before a body that was turned
record Made (token body : List ℕ) (flags extra rotation number : ℕ) : Type 0 where
  long : length token ≡ 16 + length body
  back : body_of token ≡ body
  flag : slice_index token 2 ≡ flags
  filler : slice_index token 3 ≡ 255
  kind : is_other_kind 5 token ≡ false
  count : extra_count token ≡ extra
  unturned : unturned_header token ≡ wrap_header_with flags extra 0 number

made-with : (body : List ℕ) (flags extra rotation number : ℕ) → 0 < length body → extra < 2 ^ 16 → rotation < 2 ^ 16
    → Made (wrap_header_with flags extra rotation number ++ turned_right rotation body) body flags extra rotation number
made-with body flags extra rotation number some few turns =
    let turned : List ℕ = turned_right rotation body in
    let below : rotation % length body < length body = mod_below rotation (length body) some in
    record {
      long = length-append (wrap_header_with flags extra rotation number) turned
          ∙ omega (arith, long-with flags extra rotation number, length-turned (length body - rotation % length body) body);
      back = body-back (wrap_header_with flags extra rotation number ++ turned) body rotation (rest-with flags extra rotation number turned)
          (rotation-with flags extra rotation number turned turns) (omega arith);
      flag = flags-with flags extra rotation number turned;
      filler = filler-with flags extra rotation number turned;
      kind = kind-with flags extra rotation number turned;
      count = extra-with flags extra rotation number turned few;
      unturned = unturned-with flags extra rotation number turned;
    }

sealed-with : (end : TokenEnd) (token content body : List ℕ) (flags extra rotation number : ℕ)
    → IsOctets (key_octets end.key) → HasFlags (facing end) flags → is_sealed flags ≡ true
    → IsSealedBody (facing end) (wrap_header_with flags extra 0 number) extra content body → Made token body flags extra rotation number
    → unwrapped end token ≡ Ok (record { sealed = true; content = content })
sealed-with end token content body flags extra rotation number small has sealed s m =
    let usage : ℕ = seal_usage (other_side end.side) in
    let header : List ℕ = wrap_header_with flags extra 0 number in
    let front : List ℕ = content ++ s.filling in
    let plain : List ℕ = front ++ header in
    let longh : length header ≡ 16 = long-with flags extra 0 number in
    let longf : length front ≡ length content + extra = length-append content s.filling ∙ omega (arith, s.count) in
    let longp : length plain ≡ length content + extra + 16 = length-append front header ∙ omega arith in
    let longb : length body ≡ length plain + 28 = ap length s.sealed ∙ length-seal_of end.key usage s.confounder plain s.block in
    let octets : IsOctets (s.confounder ++ plain) =
    rw (← append_assoc s.confounder front header) (append-IsOctets (s.confounder ++ front) header s.octets (wrap_header_with-IsOctets flags extra 0 number has.octet)) in
    let keys = schedule-keys (key_octets (derived end.key usage Encrypt)) (rounds_of (key_octets (derived end.key usage Encrypt))) (derived-small end.key usage Encrypt small) in
    let opens : opened end.key usage (body_of token) ≡ Ok plain =
    rw (m.back, s.sealed) (opened-seal_of end.key usage s.confounder plain keys s.block octets) in
    let count : length plain - 16 ≡ length front = omega arith in
    let fewer : length front - extra ≡ length content = omega arith in
    let ending : drop (length plain - 16) plain ≡ unturned_header token = rw (count, m.unturned) (drop_at front header (length front) refl) in
    let held : take (length plain - 16 - extra_count token) plain ≡ content =
    rw (m.count, count, fewer, append_assoc content s.filling header) (take_at content (s.filling ++ header) (length content) refl) in
    let long : nat_lt (length token) (if is_sealed flags then 60 else 28) ≡ false = rw sealed (le-ltb (length token) 60 (omega (arith, m.long))) in
    let good = rw held at (plain-good token plain (rw m.count (omega arith)) ((bytes_decides (drop (length plain - 16) plain) (unturned_header token)).1 ending)) in
    reads end token flags m.kind m.flag long has m.filler ∙ ap (λ (b : Bool). read_by b end token) sealed ∙ sealed-opened end token plain opens ∙ good

-- a sealed token is taken with its content
pub unsealed : (end : TokenEnd) (token content : List ℕ) → IsOctets (key_octets end.key) → IsWrapOf (facing end) true content token → unwrapped end token ≡ Ok (record { sealed = true; content = content })
unsealed end token content small w =
    let P : List ℕ → Type 0 = λ t. unwrapped end t ≡ Ok (record { sealed = true; content = content }) in
    let long = ap length w.made.sealed ∙ length-seal_of end.key (seal_usage (other_side end.side)) w.made.confounder ((content ++ w.made.filling) ++ wrap_header_with w.flags w.extra 0 w.number) w.made.block in
    subst P (sym w.spelled) (sealed-with end (wrap_header_with w.flags w.extra w.rotation w.number ++ turned_right w.rotation w.body) content w.body
    w.flags w.extra w.rotation w.number small w.flagged w.sealing w.made (made-with w.body w.flags w.extra w.rotation w.number (omega (arith, long)) w.few w.turns))
