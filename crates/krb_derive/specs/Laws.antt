-- Laws of what ends hand out and find.
use Rattle.std.specs.Prelude.{◌≡◌, ◌⊎◌, ℕ, List, ◌++◌}
use Rattle.krb_derive.specs.declared.key.Key.{Key}
use Rattle.krb_derive.specs.Making.{Making, VerifiesCheck, VerifiesSealed, Among, sealed_making}
use Rattle.krb_derive.specs.Making.{check_making, opening, verifying}

-- what is proved of makings: found ones verify, and two lists in a row have those of both
pub record Laws : Type 0 where
  -- what an opening finds is what the octets open to, under that key and usage
  pub opening_verifies : (key : Key) (usage : ℕ) (octets : List ℕ) (making : Making)
      → Among (opening key usage octets).found making
      → (plain : List ℕ) × (making ≡ sealed_making key usage plain)
      × VerifiesSealed key usage plain octets
  -- what a comparison finds has that checksum, under that key and usage
  pub checking_verifies : (key : Key) (usage : ℕ) (octets tag : List ℕ) (making : Making)
      → Among (verifying key usage octets tag).found making
      → (making ≡ check_making key usage octets) × VerifiesCheck key usage octets tag
  -- a making stands in two lists in a row exactly where it stands in one of them
  pub among_both : (front back : List Making) (making : Making) → Among (front ++ back) making
      → Among front making ⊎ Among back making
  pub among_front : (front back : List Making) (making : Making) → Among front making
      → Among (front ++ back) making
  pub among_back : (front back : List Making) (making : Making) → Among back making
      → Among (front ++ back) making
