-- A session that writes a word into a register and reads it.
use Rattle.std.specs.Prelude.{ℕ, ◌==◌, List, [], ◌∷◌, length}
use Rattle.std.specs.Int.{w32, to_be_bytes}
use Rattle.service_kit.specs.Calling.{DueCall}
use Rattle.example_register.specs.declared.register.TheConstants.{READ, WRITE}

-- a call of a procedure whose result is a word
abbrev pub asks : ℕ → List ℕ → DueCall
asks procedure args = record {
  query = record { number = procedure; is_result = λ octets. length octets == 4 };
  args = args;
}

-- a word is written, and then read
abbrev pub write_then_read : ℕ → List DueCall
write_then_read word = asks WRITE (to_be_bytes w32 word) ∷ asks READ [] ∷ []
