-- The text form of a name is UTF-8, and so are the parts and the realm that a text in UTF-8 names.
use Rattle.std.proofs.Common.{◌≡◌, ℕ, ◌+◌, ◌/◌, ◌%◌, ◌<◌, ◌≤◌, Bool, true, false, ◌&&◌, cond, if◌then◌else◌, List, [], ◌∷◌, ◌++◌, refl, ap, subst, arith, inl, inr, ◌⊎◌, IsUtf8}
use Rattle.std.proofs.Math.Dec.{ltb}
use Rattle.std.proofs.lemmas.Bool.Decides.{nat_tests}
use Rattle.std.proofs.lemmas.Bool.{le-ltb, ltb-true, ltb-false}
use Rattle.std.proofs.lemmas.Str.{IsUtf8-append, IsUtf8-nil, encode_ascii, IsUtf8-encode}
use lib.Utf8.{encode, encodes, scalar, scalars}
use Rattle.gss_base.specs.Principal.{is_mark, quoted}

pub quoted-append : (xs ys : List ℕ) → quoted (xs ++ ys) ≡ quoted xs ++ quoted ys
quoted-append [] ys = refl
quoted-append (x ∷ xs) ys = elim (is_mark x) as (λ b. (if b then 92 ∷ x ∷ quoted (xs ++ ys) else x ∷ quoted (xs ++ ys)) ≡ (if b then 92 ∷ x ∷ quoted xs else x ∷ quoted xs) ++ quoted ys)
    [ true ↦ ap (λ (zs : List ℕ). 92 ∷ x ∷ zs) (quoted-append xs ys) | false ↦ ap (λ (zs : List ℕ). x ∷ zs) (quoted-append xs ys) ]

-- no octet is ASCII
abbrev pub AreHigh : List ℕ → Type 0
AreHigh [] = Unit {0}
AreHigh (x ∷ xs) = (128 ≤ x) × AreHigh xs

pub encode_high : (c : ℕ) → 128 ≤ c → AreHigh (encode c)
unfolding encode
encode_high c h = rw (le-ltb c 128 h) (elim (ltb c 2048) as (λ b. AreHigh (cond b ((192 + c / 64) ∷ (128 + c % 64) ∷ []) (cond (ltb c 65536) ((224 + c / 4096) ∷ (128 + c / 64 % 64) ∷ (128 + c % 64) ∷ []) ((240 + c / 262144) ∷ (128 + c / 4096 % 64) ∷ (128 + c / 64 % 64) ∷ (128 + c % 64) ∷ [])))) [
  | true ↦ (omega arith, (omega arith, tt))
  | false ↦ elim (ltb c 65536) as (λ b. AreHigh (cond b ((224 + c / 4096) ∷ (128 + c / 64 % 64) ∷ (128 + c % 64) ∷ []) ((240 + c / 262144) ∷ (128 + c / 4096 % 64) ∷ (128 + c / 64 % 64) ∷ (128 + c % 64) ∷ [])))
      [ true ↦ (omega arith, (omega arith, (omega arith, tt))) | false ↦ (omega arith, (omega arith, (omega arith, (omega arith, tt)))) ]
])

pub mark_high : (x : ℕ) → 128 ≤ x → is_mark x ≡ false
mark_high x h = grind (arith, nat_tests)

pub quoted_high : (xs : List ℕ) → AreHigh xs → quoted xs ≡ xs
quoted_high [] h = refl
quoted_high (x ∷ xs) h = rw (mark_high x h.0, quoted_high xs h.1) refl

pub ascii_utf8 : (c : ℕ) → c < 128 → IsUtf8 (c ∷ [])
ascii_utf8 c h = subst IsUtf8 (encode_ascii c h) (IsUtf8-encode c (low c h)) where
  low : (c : ℕ) → c < 128 → scalar c ≡ true
  low c h = grind (arith, nat_tests)

pub ascii_or_high : (c : ℕ) → (c < 128) ⊎ (128 ≤ c)
ascii_or_high c = elim (ltb c 128) as (λ b. ltb c 128 ≡ b → (c < 128) ⊎ (128 ≤ c)) [ true ↦ λ e. inl (ltb-true c 128 e) | false ↦ λ e. inr (ltb-false c 128 e) ] refl

first_of : (a b : Bool) → (a && b) ≡ true → a ≡ true
first_of true b e = refl
first_of false b e = cc

second_of : (a b : Bool) → (a && b) ≡ true → b ≡ true
second_of true b e = e
second_of false b e = cc

quoted_char : (c : ℕ) → scalar c ≡ true → IsUtf8 (quoted (encode c))
quoted_char c s = elim (ascii_or_high c) [
  | inl low ↦ rw (encode_ascii c low) (elim (is_mark c) as (λ b. IsUtf8 (if b then 92 ∷ c ∷ [] else c ∷ []))
      [ true ↦ IsUtf8-append (92 ∷ []) (c ∷ []) (ascii_utf8 92 (omega arith)) (ascii_utf8 c low) | false ↦ ascii_utf8 c low ])
  | inr high ↦ rw (quoted_high (encode c) (encode_high c high)) (IsUtf8-encode c s)
]

quoted_encodes : (cs : List ℕ) → scalars cs ≡ true → IsUtf8 (quoted (encodes cs))
quoted_encodes [] s = IsUtf8-nil
quoted_encodes (c ∷ cs) s =
    rw (quoted-append (encode c) (encodes cs)) (IsUtf8-append _ _ (quoted_char c (first_of (scalar c) (scalars cs) s)) (quoted_encodes cs (second_of (scalar c) (scalars cs) s)))

pub quoted_utf8 : (xs : List ℕ) → IsUtf8 xs → IsUtf8 (quoted xs)
quoted_utf8 xs u = subst (λ (ys : List ℕ). IsUtf8 (quoted ys)) u.1.1 (quoted_encodes u.0 u.1.0)

pub pushed_utf8 : (old new xs : List ℕ) → new ≡ old ++ quoted xs → IsUtf8 old → IsUtf8 xs → IsUtf8 new
pushed_utf8 old new xs e o u = rw e (IsUtf8-append old (quoted xs) o (quoted_utf8 xs u))

pub octet_utf8 : (old new : List ℕ) (c : ℕ) → new ≡ old ++ c ∷ [] → c < 128 → IsUtf8 old → IsUtf8 new
octet_utf8 old new c e low o = rw e (IsUtf8-append old (c ∷ []) o (ascii_utf8 c low))
