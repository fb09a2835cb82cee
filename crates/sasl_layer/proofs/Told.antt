-- A token that was taken has the content and the number of the making that was found verified in it.
use Rattle.std.proofs.Common.{◌≡◌, ℕ, ◌+◌, ◌-◌, ◌^◌, ◌<◌, ◌≤◌, ◌∙◌, Bool, true, false, inl, inr, refl, sym, ap, arith, List, [], ◌∷◌, ◌++◌, length, take, drop}
use Rattle.std.specs.Prelude.{Ok}
use Rattle.std.specs.Int.{w64, to_be_bytes, from_be_bytes}
use Rattle.std.proofs.lemmas.Nat.{from_be_bytes-to_be_bytes_8}
use native.Mathlib.Nat.{sub-zero}
use Rattle.std.proofs.lemmas.List.{length-append, take_at, drop_at}
use Rattle.krb_derive.specs.Making.{Making, Check, Sealed, found_in, sealed_making, check_making}
use Rattle.krb_tokens.specs.declared.end.TokenEnd.{TokenEnd}
use Rattle.krb_tokens.specs.declared.wrap.Unwrapped.{Unwrapped}
use Rattle.krb_tokens.specs.End.{other_side, seal_usage}
use Rattle.krb_tokens.specs.Wrap.{wrap_header, word_of, extra_count, unturned_header, bare_header, unwrapped}
use Rattle.krb_tokens.specs.Makings.{wrap_making, found_of_wrap, unwrapping}
use Rattle.krb_tokens.proofs.Shown.{long_wrap}
use Rattle.krb_tokens.proofs.AcceptedWraps.{differ, enough, taken_as}
use Rattle.sasl_layer.specs.Layers.{number_in}

-- what two headers of a token keep of it
record HeaderParts (token : List ℕ) : Type 0 where
  unturned : take 8 (drop 8 (unturned_header token)) ≡ take 8 (drop 8 token)
  bare : take 8 (drop 8 (bare_header token)) ≡ take 8 (drop 8 token)
  extra : word_of (unturned_header token) 4 ≡ extra_count token
  long : length (bare_header token) ≡ 16

header-parts : (token : List ℕ) → 16 ≤ length token → HeaderParts token
header-parts [] most = absurd (omega arith)
header-parts (a ∷ []) most = absurd (omega arith)
header-parts (a ∷ b ∷ []) most = absurd (omega arith)
header-parts (a ∷ b ∷ c ∷ []) most = absurd (omega arith)
header-parts (a ∷ b ∷ c ∷ d ∷ []) most = absurd (omega arith)
header-parts (a ∷ b ∷ c ∷ d ∷ e ∷ []) most = absurd (omega arith)
header-parts (a ∷ b ∷ c ∷ d ∷ e ∷ f ∷ []) most = absurd (omega arith)
header-parts (a ∷ b ∷ c ∷ d ∷ e ∷ f ∷ g ∷ []) most = absurd (omega arith)
header-parts (a ∷ b ∷ c ∷ d ∷ e ∷ f ∷ g ∷ h ∷ []) most = absurd (omega arith)
header-parts (a ∷ b ∷ c ∷ d ∷ e ∷ f ∷ g ∷ h ∷ i ∷ []) most = absurd (omega arith)
header-parts (a ∷ b ∷ c ∷ d ∷ e ∷ f ∷ g ∷ h ∷ i ∷ j ∷ []) most = absurd (omega arith)
header-parts (a ∷ b ∷ c ∷ d ∷ e ∷ f ∷ g ∷ h ∷ i ∷ j ∷ k ∷ []) most = absurd (omega arith)
header-parts (a ∷ b ∷ c ∷ d ∷ e ∷ f ∷ g ∷ h ∷ i ∷ j ∷ k ∷ l ∷ []) most = absurd (omega arith)
header-parts (a ∷ b ∷ c ∷ d ∷ e ∷ f ∷ g ∷ h ∷ i ∷ j ∷ k ∷ l ∷ m ∷ []) most = absurd (omega arith)
header-parts (a ∷ b ∷ c ∷ d ∷ e ∷ f ∷ g ∷ h ∷ i ∷ j ∷ k ∷ l ∷ m ∷ n ∷ []) most = absurd (omega arith)
header-parts (a ∷ b ∷ c ∷ d ∷ e ∷ f ∷ g ∷ h ∷ i ∷ j ∷ k ∷ l ∷ m ∷ n ∷ o ∷ []) most = absurd (omega arith)
header-parts (a ∷ b ∷ c ∷ d ∷ e ∷ f ∷ g ∷ h ∷ i ∷ j ∷ k ∷ l ∷ m ∷ n ∷ o ∷ p ∷ rest) most = record { unturned = refl; bare = refl; extra = refl; long = refl }

-- the number in a header that an end makes
header-number : (end : TokenEnd) (sealed : Bool) (extra rotation number : ℕ) → take 8 (drop 8 (wrap_header end sealed extra rotation number)) ≡ to_be_bytes w64 number
unfolding wrap_header
header-number end sealed extra rotation number = refl

header-extra : (end : TokenEnd) (sealed : Bool) (rotation number : ℕ) → word_of (wrap_header end sealed 0 rotation number) 4 ≡ 0
unfolding wrap_header
header-extra end sealed rotation number = refl

numbered : (token : List ℕ) (number : ℕ) → number < 2 ^ 64 → take 8 (drop 8 token) ≡ to_be_bytes w64 number → number_in token ≡ number
numbered token number small e = ap (from_be_bytes w64) e ∙ from_be_bytes-to_be_bytes_8 number small

-- the content and the number of a token are those of a making
pub record Told (token content made : List ℕ) (number : ℕ) : Type 0 where
  pub content_is : content ≡ made
  pub number_is : number_in token ≡ number

-- ---- a sealed one

-- what was found verified in it
pub record FoundSealed (end : TokenEnd) (token content : List ℕ) : Type 0 where
  pub plain : List ℕ
  pub found : (unwrapping end token).found ≡ sealed_making end.key (seal_usage (other_side end.side)) plain ∷ []
  pub header : drop (length plain - 16) plain ≡ unturned_header token
  pub held : content ≡ take (length plain - 16 - extra_count token) plain
  pub long : 28 ≤ length token

pub found-sealed : (end : TokenEnd) (token content : List ℕ) → unwrapped end token ≡ Ok (record { sealed = true; content = content }) → FoundSealed end token content
found-sealed end token content e =
    let value : Unwrapped = record { sealed = true; content = content } in
    elim (taken_as end token value e) [
      | inl s ↦
          record {
            plain = s.1.plain;
            found = ap (found_of_wrap end token) e ∙ ap (found_in end.key (seal_usage (other_side end.side))) s.1.opens;
            header = s.1.read.header;
            held = s.1.read.content;
            long = enough end token value e;
          }
      | inr s ↦ absurd (differ s.1.plain)
    ]

pub sealed-told : (end maker : TokenEnd) (token content made : List ℕ) (number : ℕ) → number < 2 ^ 64 → (f : FoundSealed end token content)
    → f.plain ≡ made ++ wrap_header maker true 0 0 number → Told token content made number
sealed-told end maker token content made number small f e =
    let header : List ℕ = wrap_header maker true 0 0 number in
    let parts = header-parts token (omega (arith, f.long)) in
    let whole : length (made ++ header) - 16 ≡ length made = omega (arith, length-append made header, long_wrap maker true 0 0 number) in
    let last : drop (length (made ++ header) - 16) (made ++ header) ≡ header = rw whole (drop_at made header (length made) refl) in
    let same : header ≡ unturned_header token = sym last ∙ rw e at f.header in
    let extra : extra_count token ≡ 0 = sym parts.extra ∙ ap (λ (h : List ℕ). word_of h 4) (sym same) ∙ header-extra maker true 0 number in
    let held : content ≡ take (length (made ++ header) - 16 - extra_count token) (made ++ header) = rw e at f.held in
    record {
      content_is = held ∙ rw (extra, whole, sub-zero) (take_at made header (length made) refl);
      number_is = numbered token number small (sym parts.unturned ∙ ap (λ (h : List ℕ). take 8 (drop 8 h)) (sym same) ∙ header-number maker true 0 0 number);
    }

-- ---- a signed one

same-tails : (a b c d : List ℕ) → a ++ b ≡ c ++ d → length b ≡ length d → (a ≡ c) × (b ≡ d)
same-tails a b c d e h =
    let n : length c ≡ length a = omega (arith, ap length e, length-append a b, length-append c d) in
    (sym (take_at a b (length a) refl) ∙ ap (take (length a)) e ∙ take_at c d (length a) n, sym (drop_at a b (length a) refl) ∙ ap (drop (length a)) e ∙ drop_at c d (length a) n)

-- what was found verified in it
pub record FoundSigned (end : TokenEnd) (token content : List ℕ) : Type 0 where
  pub found : (unwrapping end token).found ≡ check_making end.key (seal_usage (other_side end.side)) (content ++ bare_header token) ∷ []
  pub long : 28 ≤ length token

pub found-signed : (end : TokenEnd) (token content : List ℕ) → unwrapped end token ≡ Ok (record { sealed = false; content = content }) → FoundSigned end token content
found-signed end token content e =
    record { found = ap (found_of_wrap end token) e; long = enough end token (record { sealed = false; content = content }) e }

pub signed-told : (end maker : TokenEnd) (token content made : List ℕ) (number : ℕ) → number < 2 ^ 64 → FoundSigned end token content
    → content ++ bare_header token ≡ made ++ wrap_header maker false 0 0 number → Told token content made number
signed-told end maker token content made number small f e =
    let header : List ℕ = wrap_header maker false 0 0 number in
    let parts = header-parts token (omega (arith, f.long)) in
    let both = same-tails content (bare_header token) made header e (parts.long ∙ sym (long_wrap maker false 0 0 number)) in
    record {
      content_is = both.0;
      number_is = numbered token number small (sym parts.bare ∙ ap (λ (h : List ℕ). take 8 (drop 8 h)) both.1 ∙ header-number maker false 0 0 number);
    }

-- a token that is taken has a header
pub long_taken : (end : TokenEnd) (token : List ℕ) (value : Unwrapped) → unwrapped end token ≡ Ok value → 16 ≤ length token
long_taken end token value e = omega (arith, enough end token value e)

-- ---- makings of different numbers

headers-apart : (a b : TokenEnd) (n : ℕ) → n + 1 < 2 ^ 64 → wrap_header a false 0 0 0 ≡ wrap_header b false 0 0 (n + 1) → ⊥
headers-apart a b n small e =
    let octets : to_be_bytes w64 0 ≡ to_be_bytes w64 (n + 1) = sym (header-number a false 0 0 0) ∙ ap (λ (h : List ℕ). take 8 (drop 8 h)) e ∙ header-number b false 0 0 (n + 1) in
    let same : 0 ≡ n + 1 = sym (from_be_bytes-to_be_bytes_8 0 (omega arith)) ∙ ap (from_be_bytes w64) octets ∙ from_be_bytes-to_be_bytes_8 (n + 1) small in
    omega (arith, same)

apart-kinds : (a b : Making) → a ≡ b → a.kind ≡ Check → b.kind ≡ Sealed → ⊥
apart-kinds a b e c s = let z : Check ≡ Sealed = sym c ∙ ap (λ (m : Making). m.kind) e ∙ s in cc

-- the first token of an end is none of its later ones
pub first-apart : (a b : TokenEnd) (n : ℕ) (sealed : Bool) (octets other : List ℕ) → n + 1 < 2 ^ 64 → wrap_making a 0 false octets ≡ wrap_making b (n + 1) sealed other → ⊥
first-apart a b n true octets other small e = apart-kinds (wrap_making a 0 false octets) (wrap_making b (n + 1) true other) e refl refl
first-apart a b n false octets other small e =
    headers-apart a b n small
    (same-tails octets (wrap_header a false 0 0 0) other (wrap_header b false 0 0 (n + 1)) (ap (λ (m : Making). m.octets) e) (long_wrap a false 0 0 0 ∙ sym (long_wrap b false 0 0 (n + 1)))).1

-- and says one thing
pub same-first : (end : TokenEnd) (octets other : List ℕ) → wrap_making end 0 false octets ≡ wrap_making end 0 false other → octets ≡ other
same-first end octets other e =
    (same-tails octets (wrap_header end false 0 0 0) other (wrap_header end false 0 0 0) (ap (λ (m : Making). m.octets) e) refl).0
