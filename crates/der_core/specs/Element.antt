-- Elements by their tags, and contents that are judged as a whole.
use Rattle.std.specs.Prelude.{ℕ, ◌-◌, ◌^◌, Bool, true, ◌&&◌, nat_lt, if◌then◌else◌, is_ok}
use Rattle.std.specs.Prelude.{List, [], ◌∷◌, length, take, Ok}
use Rattle.der_core.specs.declared.refusal.DerWhy.TheVariants.{Value}
use Rattle.der_core.specs.Format.{Format, Content, all_of, place, refused, ◌>>=◌}
use Rattle.der_core.specs.Header.{tlv, tlv_at, end_at}

-- one element with this tag and such a content
abbrev pub element : {A : Type 0} → ℕ → Content A → Format A
element tag content = record {
  read = λ i. do
    inner ← tlv_at tag i
    v ← content.read inner.0
    Ok (v, inner.1);
  spell = λ v. tlv tag (content.spell v);
  fits = λ v. content.fits v && nat_lt (length (content.spell v)) (2 ^ 32);
}

-- one value, and nothing behind it
abbrev pub whole : {A : Type 0} → Format A → Content A
whole format = record {
  read = λ i. do
    x ← format.read i
    nothing ← end_at x.1
    Ok x.0;
  spell = format.spell;
  fits = format.fits;
}

-- one element with this tag that holds one value
abbrev pub explicit : {A : Type 0} → ℕ → Format A → Format A
explicit tag format = element tag (whole format)

-- all the octets, where they pass a test
abbrev pub plain : (List ℕ → Bool) → Content (List ℕ)
plain test = record {
  read = λ i. if test i.octets then Ok i.octets else refused Value (place i);
  spell = λ octets. octets;
  fits = test;
}

-- any octets
abbrev pub any_octets : List ℕ → Bool
any_octets octets = true

-- values that pass a test, which is judged last, at the value's tag
abbrev pub guarded : {A : Type 0} → (A → Bool) → Format A → Format A
guarded test format = record {
  read = λ i. do
    x ← format.read i
    if test x.0 then Ok x else refused Value (place i);
  spell = format.spell;
  fits = λ v. format.fits v && test v;
}

-- each is below 256
abbrev pub are_octets : List ℕ → Bool
are_octets [] = true
are_octets (o ∷ os) = nat_lt o 256 && are_octets os

-- a value kept as the octets that spell it
abbrev pub kept : {A : Type 0} → Format A → Format (List ℕ)
kept format = record {
  read = λ i. do
    x ← format.read i
    Ok (take (length i.octets - length x.1.octets) i.octets, x.1);
  spell = λ octets. octets;
  fits = λ octets. are_octets octets && is_ok ((whole format).read (all_of octets));
}

-- an element with this tag, by its content
abbrev pub any_element : ℕ → Format (List ℕ)
any_element tag = element tag (plain any_octets)

-- an element with this tag, by all its octets
abbrev pub raw_element : ℕ → Format (List ℕ)
raw_element tag = kept (any_element tag)

-- OCTET STRING, ITU-T X.690 section 8.7
unfoldable pub octet_string : Format (List ℕ)
octet_string = element 4 (plain any_octets)
