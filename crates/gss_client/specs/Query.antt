-- What a client asks of a program.
use Rattle.std.specs.Prelude.{ℕ, Bool, List}

-- a procedure by its number (RFC 5531 section 9), and which octets are a result of it
pub record QuerySays : Type 0 where
  pub number : ℕ
  pub is_result : List ℕ → Bool
