-- What a token that was taken shows.
use Rattle.std.proofs.Common.{◌≡◌, ℕ, ◌≤◌, ◌∙◌, Bool, true, false, refl, sym, ap, arith, List, [], ◌∷◌, ◌++◌, length, take, drop, inl, inr}
use Rattle.std.specs.Prelude.{Ok}
use Rattle.std.proofs.lemmas.List.{length-append, length-take-le, length-drop, take-append-drop}
use Rattle.krb_derive.specs.Making.{found_in}
use Rattle.krb_derive.specs.Sealing.{checksum_of}
use Rattle.krb_tokens.specs.declared.end.TokenEnd.{TokenEnd}
use Rattle.krb_tokens.specs.declared.wrap.Unwrapped.{Unwrapped}
use Rattle.krb_tokens.specs.End.{other_side, seal_usage}
use Rattle.krb_tokens.specs.Mic.{mic_header, checked_mic}
use Rattle.krb_tokens.specs.Wrap.{wrap_header, word_of, extra_count, unturned_header, bare_header, unwrapped}
use Rattle.krb_tokens.specs.Makings.{found_of_mic, found_of_wrap}
use Rattle.krb_tokens.specs.Laws.{ShownByMic, ShownBySigned, ShownBySealed}
use Rattle.krb_tokens.proofs.Accepted.{mic-compared}
use Rattle.krb_tokens.proofs.AcceptedWraps.{differ, enough, taken_as}

pub long_mic : (end : TokenEnd) (number : ℕ) → length (mic_header end number) ≡ 16
unfolding mic_header
long_mic end number = refl

pub long_wrap : (end : TokenEnd) (sealed : Bool) (extra rotation number : ℕ) → length (wrap_header end sealed extra rotation number) ≡ 16
unfolding wrap_header
long_wrap end sealed extra rotation number = refl

pub mic_shows : (end : TokenEnd) (token octets : List ℕ) → checked_mic end token octets ≡ Ok tt → ShownByMic end token octets
mic_shows end token octets e =
    let c = mic-compared end token octets e in
    record {
      header = take 16 token;
      tag = drop 16 token;
      long = length-take-le 16 token (omega (arith, c.long));
      spelled = sym (take-append-drop 16 token);
      found = ap (found_of_mic end token octets) e;
      verified = sym c.tag;
    }

long_bare : (token : List ℕ) → 16 ≤ length token → length (bare_header token) ≡ 16
long_bare token h =
    length-append (take 4 token) (0 ∷ 0 ∷ 0 ∷ 0 ∷ take 8 (drop 8 token))
    ∙ omega (arith, length-take-le 4 token (omega arith), length-take-le 8 (drop 8 token) (omega (arith, length-drop 8 token)))

pub signed_shows : (end : TokenEnd) (token content : List ℕ) → unwrapped end token ≡ Ok (record { sealed = false; content = content })
    → ShownBySigned end token content
signed_shows end token content e =
    let value : Unwrapped = record { sealed = false; content = content } in
    elim (taken_as end token value e) [
      | inl s ↦ absurd (differ (sym s.1.read.sealed))
      | inr s ↦
          record {
            header = bare_header token;
            tag = checksum_of end.key (seal_usage (other_side end.side)) (content ++ bare_header token);
            long = long_bare token (omega (arith, enough end token value e));
            body = s.1.body;
            found = ap (found_of_wrap end token) e;
            verified = refl;
          }
    ]

word-unturned : (token : List ℕ) → 6 ≤ length token → word_of (unturned_header token) 4 ≡ extra_count token
word-unturned [] h = absurd (omega arith)
word-unturned (a ∷ []) h = absurd (omega arith)
word-unturned (a ∷ b ∷ []) h = absurd (omega arith)
word-unturned (a ∷ b ∷ c ∷ []) h = absurd (omega arith)
word-unturned (a ∷ b ∷ c ∷ d ∷ []) h = absurd (omega arith)
word-unturned (a ∷ b ∷ c ∷ d ∷ e ∷ []) h = absurd (omega arith)
word-unturned (a ∷ b ∷ c ∷ d ∷ e ∷ f ∷ rest) h = refl

pub sealed_shows : (end : TokenEnd) (token content : List ℕ) → unwrapped end token ≡ Ok (record { sealed = true; content = content })
    → ShownBySealed end token content
sealed_shows end token content e =
    let value : Unwrapped = record { sealed = true; content = content } in
    elim (taken_as end token value e) [
      | inl s ↦
          record {
            plain = s.1.plain;
            found = ap (found_of_wrap end token) e ∙ ap (found_in end.key (seal_usage (other_side end.side))) s.1.opens;
            verified = s.1.opens;
            held = s.1.read.content ∙ sym (rw (s.1.read.header, word-unturned token (omega (arith, enough end token value e))) refl);
          }
      | inr s ↦ absurd (differ s.1.plain)
    ]
