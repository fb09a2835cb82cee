-- One direction between two ends under a layer: what one end handed out, and what the other end
-- read of it. What is said here holds of that direction, whatever comes in between.
use Rattle.std.specs.Prelude.{◌≡◌, ◌⊎◌, ℕ, ◌+◌, ◌<◌, ◌^◌, Bool, false, List, [], ◌∷◌, ◌++◌}
use Rattle.std.specs.Prelude.{length, slice_get, Some, Ok}
use Rattle.krb_derive.specs.Making.{Making, Among}
use Rattle.krb_tokens.specs.declared.end.TokenEnd.{TokenEnd}
use Rattle.krb_tokens.specs.End.{seal_usage, facing}
use Rattle.krb_tokens.specs.Wrap.{unwrapped}
use Rattle.krb_tokens.specs.Makings.{wrap_making, unwrapping}
use Rattle.sasl_layer.specs.Layers.{number_in}

-- the front of a list
pub record IsFront {A : Type 0} (front whole : List A) : Type 0 where
  pub rest : List A
  pub is : whole ≡ front ++ rest

-- a direction: the end that sends, whether its messages are sealed, and what it sent, oldest first.
-- The first message has number 1
pub record Line : Type 0 where
  pub sender : TokenEnd
  pub sealed : Bool
  pub said : List (List ℕ)

-- a making is that of the offer, or of the choice: signed, with number 0
pub record IsBefore (line : Line) (making : Making) : Type 0 where
  pub octets : List ℕ
  pub is : making ≡ wrap_making line.sender 0 false octets

-- a making is that of a message that was sent
pub record IsSaid (line : Line) (making : Making) : Type 0 where
  pub place : ℕ
  pub octets : List ℕ
  pub there : slice_get line.said place ≡ Some octets
  pub small : place + 1 < 2 ^ 64
  pub is : making ≡ wrap_making line.sender (place + 1) line.sealed octets

-- what was made with the sender's key and usage was made by it
abbrev pub AreItsOwn : Line → List Making → Type 0
AreItsOwn line makings = (making : Making) → Among makings making
    → making.key ≡ line.sender.key → making.usage ≡ seal_usage line.sender.side
    → IsBefore line making ⊎ IsSaid line making

-- what is found verified in a token of the other end was made
abbrev pub WereMade : TokenEnd → List ℕ → List Making → Type 0
WereMade end token makings =
    (making : Making) → Among (unwrapping end token).found making → Among makings making

-- the next message that is read under the layer is the next one that was sent
abbrev pub NextLaw : Type 0
NextLaw = (line : Line) (read : List (List ℕ)) (makings : List Making) (token content : List ℕ)
    → AreItsOwn line makings → IsFront read line.said
    → unwrapped (facing line.sender) token ≡ Ok (record { sealed = line.sealed; content = content })
    → number_in token ≡ length read + 1 → WereMade (facing line.sender) token makings
    → IsFront (read ++ content ∷ []) line.said

-- a signed token with number 0 is the offer, or the choice
abbrev pub FirstLaw : Type 0
FirstLaw = (line : Line) (makings : List Making) (token content : List ℕ) → AreItsOwn line makings
    → unwrapped (facing line.sender) token ≡ Ok (record { sealed = false; content = content })
    → number_in token ≡ 0 → WereMade (facing line.sender) token makings
    → (making : Making) × Among makings making × (making ≡ wrap_making line.sender 0 false content)
