-- The four texts by their parts, RFC 5802 section 7, apart from how they are read.
use Rattle.std.specs.Prelude.{◌≡◌, ℕ, ◌≤◌, ◌<◌, ◌^◌, true, List, [], ◌∷◌, ◌++◌, codes, length}
use Rattle.std.specs.List.{list_all}
use Rattle.std.specs.Fmt.{decimal}
use Rattle.base64.specs.GeneralPurpose.{IsBytes}
use Rattle.scram_mech.specs.Signs.{is_printable, is_value, is_nonce, is_free}
use Rattle.scram_mech.specs.Name.{escaped}
use Rattle.scram_mech.specs.Base64.{encoded}
use Rattle.scram_mech.specs.FirstText.{First}
use Rattle.scram_mech.specs.SecondText.{Second}
use Rattle.scram_mech.specs.ThirdText.{Third}

-- a name: 1 to 255 octets of printable ASCII
pub record IsName (name : List ℕ) : Type 0 where
  pub each : list_all is_printable name ≡ true
  pub some : 1 ≤ length name
  pub few : length name ≤ 255

-- a nonce: printable ASCII without comma and space, one octet at least and so many at most
pub record IsNonce (most : ℕ) (nonce : List ℕ) : Type 0 where
  pub each : list_all is_nonce nonce ≡ true
  pub some : 1 ≤ length nonce
  pub few : length nonce ≤ most

-- octets, so many of them
pub record AreOctets (least most : ℕ) (octets : List ℕ) : Type 0 where
  pub each : IsBytes octets
  pub enough : least ≤ length octets
  pub few : length octets ≤ most

-- a further part, `,X=VALUE`: no letter of a named part, printable ASCII without comma
pub record Extra : Type 0 where
  pub letter : ℕ
  pub value : List ℕ

-- its letter is that of no named part, and its value is printable ASCII without comma
pub record IsExtra (extra : Extra) : Type 0 where
  pub free : is_free extra.letter ≡ true
  pub each : list_all is_value extra.value ≡ true

-- each is a further part
abbrev pub AreExtras : List Extra → Type 0
AreExtras [] = Unit {0}
AreExtras (extra ∷ extras) = IsExtra extra × AreExtras extras

-- further parts as a text has them, each behind its comma
abbrev pub extras_text : List Extra → List ℕ
extras_text [] = []
extras_text (extra ∷ extras) =
    codes "," ++ (extra.letter ∷ []) ++ codes "=" ++ extra.value ++ extras_text extras

-- `n=NAME,r=NONCE` and further parts
pub record SpellsFirst (first : First) (text : List ℕ) : Type 0 where
  pub extras : List Extra
  pub named : IsName first.name
  pub fresh : IsNonce 232 first.nonce
  pub free : AreExtras extras
  pub same : text
      ≡ codes "n=" ++ escaped first.name ++ codes ",r=" ++ first.nonce ++ extras_text extras

-- `r=NONCE,s=SALT,i=ROUNDS` and further parts; rounds of at most ten digits
pub record SpellsSecond (second : Second) (text : List ℕ) : Type 0 where
  pub extras : List Extra
  pub fresh : IsNonce 256 second.nonce
  pub salted : AreOctets 1 64 second.salt
  pub short : second.rounds < 10 ^ 10
  pub free : AreExtras extras
  pub same : text ≡ codes "r=" ++ second.nonce ++ codes ",s=" ++ encoded second.salt ++ codes ",i="
      ++ decimal second.rounds ++ extras_text extras

-- `c=BINDING,r=NONCE`, further parts and `,p=PROOF`
pub record SpellsThird (third : Third) (text : List ℕ) : Type 0 where
  pub extras : List Extra
  pub bound : AreOctets 0 32768 third.binding
  pub fresh : IsNonce 256 third.nonce
  pub proved : AreOctets 20 20 third.proof
  pub free : AreExtras extras
  pub bare : third.bare
      ≡ codes "c=" ++ encoded third.binding ++ codes ",r=" ++ third.nonce ++ extras_text extras
  pub same : text ≡ third.bare ++ codes ",p=" ++ encoded third.proof

-- `v=SIGNATURE` and further parts
pub record SpellsFinal (signature text : List ℕ) : Type 0 where
  pub extras : List Extra
  pub signed : AreOctets 20 20 signature
  pub free : AreExtras extras
  pub same : text ≡ codes "v=" ++ encoded signature ++ extras_text extras

-- `e=VALUE` and further parts
pub record SpellsError (text : List ℕ) : Type 0 where
  pub value : List ℕ
  pub extras : List Extra
  pub each : list_all is_value value ≡ true
  pub free : AreExtras extras
  pub same : text ≡ codes "e=" ++ value ++ extras_text extras
