-- The next message that is read is the next one that was sent, and a first token is the offer or the choice.
use Rattle.std.proofs.Common.{◌≡◌, ◌⊎◌, inl, inr, ℕ, ◌+◌, ◌∙◌, Bool, true, false, refl, sym, ap, subst, arith, List, [], ◌∷◌, ◌++◌, length, slice_get}
use Rattle.std.specs.Prelude.{Some, None, Ok}
use Rattle.krb_derive.specs.Making.{Making, Check, Sealed, Among, sealed_making, check_making}
use Rattle.krb_tokens.specs.declared.end.TokenEnd.{TokenEnd}
use Rattle.krb_tokens.specs.declared.end.Side.{Side}
use Rattle.krb_tokens.specs.End.{other_side, seal_usage, facing}
use Rattle.krb_tokens.specs.Wrap.{bare_header, unwrapped}
use Rattle.krb_tokens.specs.Makings.{wrap_making, unwrapping}
use Rattle.krb_tokens.proofs.Taken.{other-other}
use Rattle.sasl_layer.specs.Layers.{number_in}
use Rattle.sasl_layer.specs.Lines.{IsFront, Line, IsBefore, IsSaid, AreItsOwn, WereMade, NextLaw, FirstLaw}
use Rattle.sasl_layer.proofs.Told.{Told, FoundSealed, found-sealed, sealed-told, FoundSigned, found-signed, signed-told}

-- ---- the front of a list

next-of : {A : Type 0} (read rest : List A) (x : A) → slice_get (read ++ rest) (length read) ≡ Some x → IsFront (read ++ x ∷ []) (read ++ rest)
next-of [] [] x e = let z : None ≡ Some x = e in absurd (cc)
next-of [] (y ∷ rest) x e = let same : y ≡ x = cc in record { rest = rest; is = ap (λ v. v ∷ rest) same }
next-of (a ∷ read) rest x e = let f = next-of read rest x e in record { rest = f.rest; is = ap (λ xs. a ∷ xs) f.is }

next : {A : Type 0} (read said : List A) (x : A) → IsFront read said → slice_get said (length read) ≡ Some x → IsFront (read ++ x ∷ []) said
next read said x f e = subst (λ xs. IsFront (read ++ x ∷ []) xs) (sym f.is) (next-of read f.rest x (subst (λ xs. slice_get xs (length read) ≡ Some x) f.is e))

-- ---- makings of both kinds

not-check : {A : Type 0} (a b : Making) → a ≡ b → a.kind ≡ Sealed → b.kind ≡ Check → A
not-check a b e s c = let z : Sealed ≡ Check = sym s ∙ ap (λ (m : Making). m.kind) e ∙ c in absurd (cc)

usage-back : (side : Side) → seal_usage (other_side (other_side side)) ≡ seal_usage side
usage-back side = ap seal_usage (other-other side)

in-found : (ms makings : List Making) (m : Making) → ms ≡ m ∷ [] → ((making : Making) → Among ms making → Among makings making) → Among makings m
in-found ms makings m e h = h m (subst (λ (xs : List Making). Among xs m) (sym e) (inl refl))

-- ---- the next message

said-is : (said : List (List ℕ)) (place n : ℕ) (octets content : List ℕ) → slice_get said place ≡ Some octets → content ≡ octets → place ≡ n → slice_get said n ≡ Some content
said-is said place n octets content there same at = rw (← at, same) there

sealed-next : (sender : TokenEnd) (said read : List (List ℕ)) (makings : List Making) (token content : List ℕ)
    → AreItsOwn (record { sender = sender; sealed = true; said = said }) makings → IsFront read said
    → unwrapped (facing sender) token ≡ Ok (record { sealed = true; content = content }) → number_in token ≡ length read + 1 → WereMade (facing sender) token makings
    → IsFront (read ++ content ∷ []) said
sealed-next sender said read makings token content own front taken number made =
    let f : FoundSealed (facing sender) token content = found-sealed (facing sender) token content taken in
    let m : Making = sealed_making sender.key (seal_usage (other_side (other_side sender.side))) f.plain in
    elim (own m (in-found (unwrapping (facing sender) token).found makings m f.found made) refl (usage-back sender.side)) [
      | inl b ↦ not-check m (wrap_making sender 0 false b.octets) b.is refl refl
      | inr s ↦
          let t : Told token content s.octets (s.place + 1) = sealed-told (facing sender) sender token content s.octets (s.place + 1) s.small f (ap (λ (x : Making). x.octets) s.is) in
          next read said content front (said-is said s.place (length read) s.octets content s.there t.content_is (omega (arith, t.number_is, number)))
    ]

signed-next : (sender : TokenEnd) (said read : List (List ℕ)) (makings : List Making) (token content : List ℕ)
    → AreItsOwn (record { sender = sender; sealed = false; said = said }) makings → IsFront read said
    → unwrapped (facing sender) token ≡ Ok (record { sealed = false; content = content }) → number_in token ≡ length read + 1 → WereMade (facing sender) token makings
    → IsFront (read ++ content ∷ []) said
signed-next sender said read makings token content own front taken number made =
    let f : FoundSigned (facing sender) token content = found-signed (facing sender) token content taken in
    let m : Making = check_making sender.key (seal_usage (other_side (other_side sender.side))) (content ++ bare_header token) in
    elim (own m (in-found (unwrapping (facing sender) token).found makings m f.found made) refl (usage-back sender.side)) [
      | inl b ↦
          let t : Told token content b.octets 0 = signed-told (facing sender) sender token content b.octets 0 (omega arith) f (ap (λ (x : Making). x.octets) b.is) in
          absurd (omega (arith, t.number_is, number))
      | inr s ↦
          let t : Told token content s.octets (s.place + 1) = signed-told (facing sender) sender token content s.octets (s.place + 1) s.small f (ap (λ (x : Making). x.octets) s.is) in
          next read said content front (said-is said s.place (length read) s.octets content s.there t.content_is (omega (arith, t.number_is, number)))
    ]

by-sealing : (sealed : Bool) (sender : TokenEnd) (said read : List (List ℕ)) (makings : List Making) (token content : List ℕ)
    → AreItsOwn (record { sender = sender; sealed = sealed; said = said }) makings → IsFront read said
    → unwrapped (facing sender) token ≡ Ok (record { sealed = sealed; content = content }) → number_in token ≡ length read + 1 → WereMade (facing sender) token makings
    → IsFront (read ++ content ∷ []) said
by-sealing true = sealed-next
by-sealing false = signed-next

pub next_law : NextLaw
next_law line read makings token content own front taken number made = by-sealing line.sealed line.sender line.said read makings token content own front taken number made

-- ---- the first token

first-said : (line : Line) (makings : List Making) (token content : List ℕ) (m : Making) → FoundSigned (facing line.sender) token content → number_in token ≡ 0
    → m ≡ check_making line.sender.key (seal_usage (other_side (other_side line.sender.side))) (content ++ bare_header token) → (s : IsSaid line m)
    → (sealed : Bool) → line.sealed ≡ sealed → (making : Making) × Among makings making × (making ≡ wrap_making line.sender 0 false content)
first-said line makings token content m f number is s true e =
    not-check (wrap_making line.sender (s.place + 1) true s.octets) m (sym (subst (λ (b : Bool). m ≡ wrap_making line.sender (s.place + 1) b s.octets) e s.is)) refl (ap (λ (x : Making). x.kind) is)
first-said line makings token content m f number is s false e =
    let own : m ≡ wrap_making line.sender (s.place + 1) false s.octets = subst (λ (b : Bool). m ≡ wrap_making line.sender (s.place + 1) b s.octets) e s.is in
    let t : Told token content s.octets (s.place + 1) = signed-told (facing line.sender) line.sender token content s.octets (s.place + 1) s.small f (ap (λ (x : Making). x.octets) (sym is ∙ own)) in
    absurd (omega (arith, t.number_is, number))

first-of : (line : Line) (makings : List Making) (token content : List ℕ) (m : Making) → Among makings m → FoundSigned (facing line.sender) token content → number_in token ≡ 0
    → m ≡ check_making line.sender.key (seal_usage (other_side (other_side line.sender.side))) (content ++ bare_header token) → IsBefore line m ⊎ IsSaid line m
    → (making : Making) × Among makings making × (making ≡ wrap_making line.sender 0 false content)
first-of line makings token content m among f number is (inl b) =
    let t : Told token content b.octets 0 = signed-told (facing line.sender) line.sender token content b.octets 0 (omega arith) f (ap (λ (x : Making). x.octets) (sym is ∙ b.is)) in
    (m, among, b.is ∙ ap (λ (os : List ℕ). wrap_making line.sender 0 false os) (sym t.content_is))
first-of line makings token content m among f number is (inr s) = first-said line makings token content m f number is s line.sealed refl

pub first_law : FirstLaw
first_law line makings token content own taken number made =
    let f : FoundSigned (facing line.sender) token content = found-signed (facing line.sender) token content taken in
    let m : Making = check_making line.sender.key (seal_usage (other_side (other_side line.sender.side))) (content ++ bare_header token) in
    let among : Among makings m = in-found (unwrapping (facing line.sender) token).found makings m f.found made in
    first-of line makings token content m among f number refl (own m among refl (usage-back line.sender.side))
