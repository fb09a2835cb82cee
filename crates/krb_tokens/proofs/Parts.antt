-- Parts of tokens.
use Rattle.std.proofs.Common.{◌≡◌, ℕ, ◌+◌, ◌-◌, ◌<◌, ◌≤◌, Bool, true, false, if◌then◌else◌, refl, sym, ap, subst, ◌∙◌, arith, List, [], ◌++◌, length, take, drop, replicate}
use Rattle.std.proofs.lemmas.List.{length-append, length-take, length-drop, length-replicate, append_assoc, append-nil, take_at, drop_all, replicate-append-replicate}
use Rattle.std.specs.Prelude.{Result, Ok, Err, nat_eq, nat_lt}
use Rattle.std.proofs.lemmas.Bool.{lt-ltb, le-ltb, eq-eqb, ne_eqb}
use lib.Pointwise.{pointwise}
use Rattle.sec_base.specs.Answers.{Gives}
use Rattle.krb_derive.specs.declared.sealing.OpenRefusal.{OpenRefusal}
use Rattle.krb_derive.specs.Sealing.{checksum_of, opened}
use Rattle.krb_tokens.specs.declared.end.TokenEnd.{TokenEnd}
use Rattle.krb_tokens.specs.declared.end.TokenRefusal.TheVariants.{ExtraCount, InnerHeader, BadChecksum}
use Rattle.krb_tokens.specs.End.{other_side, seal_usage}
use Rattle.krb_tokens.specs.Wrap.{extra_count, body_of, unturned_header, bare_header, unwrapped_plain, unwrapped_signed, unwrapped_opened, unwrapped_sealed}

-- zeros between two parts of a header
pub between_parts : (a b : List ℕ) (n k m : ℕ) → length a + k ≡ 8 → n ≡ k + 8 → m ≡ 8 → length b ≡ 8
    → take 8 (a ++ replicate n 0) ++ (b ++ drop m (drop 8 (a ++ replicate n 0))) ≡ a ++ (replicate k 0 ++ b)
between_parts a b n k m la en em lb =
    let zeros : replicate {A = ℕ} k 0 ++ replicate 8 0 ≡ replicate n 0 = replicate-append-replicate k 8 0 ∙ ap (λ (i : ℕ). replicate i 0) (sym en) in
    let whole : a ++ replicate n 0 ≡ (a ++ replicate k 0) ++ replicate 8 0 =
    ap (λ (z : List ℕ). a ++ z) (sym zeros) ∙ sym (append_assoc a (replicate k 0) (replicate 8 0)) in
    let longk : length (replicate {A = ℕ} k 0) ≡ k = length-replicate k 0 in
    let longn : length (replicate {A = ℕ} n 0) ≡ n = length-replicate n 0 in
    let front : length (a ++ replicate k 0) ≡ 8 = length-append a (replicate k 0) ∙ omega arith in
    let first : take 8 (a ++ replicate n 0) ≡ a ++ replicate k 0 = rw whole (take_at (a ++ replicate k 0) (replicate 8 0) 8 front) in
    let rest : drop m (drop 8 (a ++ replicate n 0)) ≡ [] =
    drop_all m (drop 8 (a ++ replicate n 0)) (omega (arith, length-drop 8 (a ++ replicate n 0), length-append a (replicate n 0))) in
    rw (first, rest, append-nil b) (append_assoc a (replicate k 0) b)

pub length-turned : (places : ℕ) (octets : List ℕ) → length (drop places octets ++ take places octets) ≡ length octets
length-turned places octets = simp (length-append, length-drop, length-take) (omega arith)

-- ---- answers

pub true_not_false : true ≡ false → ⊥
true_not_false e = cc

pub short_anyway : (b : Bool) (n : ℕ) → n < 28 → nat_lt n (if b then 60 else 28) ≡ true
short_anyway true n h = lt-ltb n 60 (omega arith)
short_anyway false n h = lt-ltb n 28 h

pub gives_same : {A E : Type 0} (free : E) (r answer : Result A E) → answer ≡ r → Gives free (λ (x : A). x) r answer
gives_same free (Ok value) answer e = e
gives_same free (Err refusal) answer e = λ ne. e

pub gives_along : {A E : Type 0} (free : E) (r old new : Result A E) → new ≡ old → Gives free (λ (x : A). x) r old → Gives free (λ (x : A). x) r new
gives_along {A} free r old new e h = subst (λ (answer : Result A _). Gives free (λ (x : A). x) r answer) (sym e) h

pub plain-extra : (token plain : List ℕ) → length plain < extra_count token + 16 → unwrapped_plain token plain ≡ Err ExtraCount
unfolding unwrapped_plain
plain-extra token plain h = rw (lt-ltb (length plain) (extra_count token + 16) h) refl

pub plain-header : (token plain : List ℕ) → extra_count token + 16 ≤ length plain
    → pointwise nat_eq (drop (length plain - 16) plain) (unturned_header token) ≡ false → unwrapped_plain token plain ≡ Err InnerHeader
unfolding unwrapped_plain
plain-header token plain h e = rw (le-ltb (length plain) (extra_count token + 16) h, e) refl

pub plain-good : (token plain : List ℕ) → extra_count token + 16 ≤ length plain
    → pointwise nat_eq (drop (length plain - 16) plain) (unturned_header token) ≡ true
    → unwrapped_plain token plain ≡ Ok (record { sealed = true; content = take (length plain - 16 - extra_count token) plain })
unfolding unwrapped_plain
plain-good token plain h e = rw (le-ltb (length plain) (extra_count token + 16) h, e) refl

pub signed-extra : (end : TokenEnd) (token : List ℕ) → (extra_count token ≡ 12 → ⊥) → unwrapped_signed end token ≡ Err ExtraCount
unfolding unwrapped_signed
signed-extra end token h = rw (ne_eqb (extra_count token) 12 h) refl

pub signed-bad : (end : TokenEnd) (token : List ℕ) → extra_count token ≡ 12
    → pointwise nat_eq (checksum_of end.key (seal_usage (other_side end.side)) (take (length (body_of token) - 12) (body_of token) ++ bare_header token)) (drop (length (body_of token) - 12) (body_of token)) ≡ false
    → unwrapped_signed end token ≡ Err BadChecksum
unfolding unwrapped_signed
signed-bad end token h e = rw (eq-eqb (extra_count token) 12 h, e) refl

pub signed-good : (end : TokenEnd) (token : List ℕ) → extra_count token ≡ 12
    → pointwise nat_eq (checksum_of end.key (seal_usage (other_side end.side)) (take (length (body_of token) - 12) (body_of token) ++ bare_header token)) (drop (length (body_of token) - 12) (body_of token)) ≡ true
    → unwrapped_signed end token ≡ Ok (record { sealed = false; content = take (length (body_of token) - 12) (body_of token) })
unfolding unwrapped_signed
signed-good end token h e = rw (eq-eqb (extra_count token) 12 h, e) refl

pub sealed-opened : (end : TokenEnd) (token plain : List ℕ) → opened end.key (seal_usage (other_side end.side)) (body_of token) ≡ Ok plain
    → unwrapped_sealed end token ≡ unwrapped_plain token plain
unfolding unwrapped_sealed
sealed-opened end token plain e = ap (unwrapped_opened token) e

pub sealed-refused : (end : TokenEnd) (token : List ℕ) (refusal : OpenRefusal) → opened end.key (seal_usage (other_side end.side)) (body_of token) ≡ Err refusal
    → unwrapped_sealed end token ≡ Err BadChecksum
unfolding unwrapped_sealed
sealed-refused end token refusal e = ap (unwrapped_opened token) e
