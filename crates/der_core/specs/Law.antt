-- What ties the two halves of a format: what is read is spelled so, and what is spelled so is read.
use Rattle.std.specs.Prelude.{◌≡◌, ℕ, ◌<◌, true, false, List, ◌∷◌, ◌++◌, Ok}
use Rattle.der_core.specs.Format.{Input, Format, Content, AreOctets, begins}

-- a spelling was taken from the front
pub record Takes (old : Input) (spelling : List ℕ) (new : Input) : Type 0 where
  pub parts : old.octets ≡ spelling ++ new.octets
  pub end : new.end ≡ old.end
  pub octets : AreOctets new.octets

-- what is read is a value of the format that was spelled so, and each of its values is read if its
-- spelling stands at the front
pub record IsFormat {A : Type 0} (f : Format A) : Type 0 where
  pub takes : (i : Input) (x : A × Input) → AreOctets i.octets → f.read i ≡ Ok x
      → Takes i (f.spell x.0) x.1 × (f.fits x.0 ≡ true)
  pub again : (end : ℕ) (v : A) (rest : List ℕ) → f.fits v ≡ true
      → f.read (record { end = end; octets = f.spell v ++ rest })
      ≡ Ok (v, record { end = end; octets = rest })

-- the same for a content, which is read from all that an input has
pub record IsContent {A : Type 0} (c : Content A) : Type 0 where
  pub takes : (i : Input) (v : A) → AreOctets i.octets → c.read i ≡ Ok v
      → (i.octets ≡ c.spell v) × (c.fits v ≡ true)
  pub again : (end : ℕ) (v : A) → c.fits v ≡ true
      → c.read (record { end = end; octets = c.spell v }) ≡ Ok v

-- each spelling begins with the tag
pub record HasTag {A : Type 0} (tag : ℕ) (f : Format A) : Type 0 where
  pub begins_so : (v : A) → (rest : List ℕ) × (f.spell v ≡ tag ∷ rest)

-- no spelling begins with a tag below this one
pub record IsFrom {A : Type 0} (low : ℕ) (c : Content A) : Type 0 where
  pub later : (v : A) (tag : ℕ) → tag < low → begins tag (c.spell v) ≡ false
