-- The file of verifiers: a line `name:rounds:salt:stored:server` for each user, ended by a line
-- feed. Stored and server key: RFC 5802 section 3.
use Rattle.std.specs.Prelude.{ℕ, zero, suc, ◌+◌, Bool, true, false, List, [], ◌∷◌, ◌++◌, codes}
use Rattle.std.specs.Prelude.{length, Option, Some, None, Result, Ok, Err, if◌then◌else◌}
use Rattle.std.specs.Fmt.{decimal}
use Rattle.scram_mech.specs.declared.run.Class.TheVariants.{Printable, LineName}
use Rattle.scram_mech.specs.declared.verifiers.Verifier.{Verifier}
use Rattle.scram_mech.specs.declared.refusal.Stuck.{Stuck}
use Rattle.scram_mech.specs.declared.refusal.ScramRefusal.{ScramRefusal}
use Rattle.scram_mech.specs.declared.refusal.ScramRefusal.TheVariants as refusals
use Rattle.scram_mech.specs.declared.refusal.VerifierRefusal.{VerifierRefusal}
use Rattle.scram_mech.specs.declared.refusal.VerifierRefusal.TheVariants.{Line, Twice}
use Rattle.scram_mech.specs.Reading.{◌>>=◌}
use Rattle.scram_mech.specs.Base64.{encoded, decoded}
use Rattle.scram_mech.specs.Digits.{number_of}
use Rattle.scram_mech.specs.State.{some, base64, rounds_number}
use Rattle.scram_mech.specs.Formats.{Segment, Word, Value, piece, pieces}
use Rattle.scram_mech.specs.Judging.{demand, judged, same, are_rounds}
use Rattle.scram_mech.specs.Secrets.{Secret, stored_key, server_key}

-- `name:rounds:salt:stored:server` and a line feed; salt and keys are in base64
unfoldable pub line_format : List Segment
line_format =
    Value (some LineName 255) ∷ Word (codes ":") ∷ Value rounds_number ∷ Word (codes ":")
    ∷ Value (base64 1 64) ∷ Word (codes ":")
    ∷ Value (base64 20 20) ∷ Word (codes ":") ∷ Value (base64 20 20) ∷ Word (codes "\n") ∷ []

-- the line of these values
abbrev pub verifier_of : List (List ℕ) → Verifier
verifier_of values = record {
  name = piece values 0;
  rounds = number_of (piece values 1);
  salt = decoded (piece values 2);
  stored = decoded (piece values 3);
  server = decoded (piece values 4);
}

-- the refusal of the line of this number
abbrev pub bad_line : {A : Type 0} → ℕ → Result A VerifierRefusal
bad_line number = Err (Line number)

-- the line of this number by how it was read; it is bad too if its rounds aren't within the limits
abbrev pub line_from : ℕ → Result (List (List ℕ) × List ℕ) Stuck
    → Result (Verifier × List ℕ) VerifierRefusal
line_from number (Err stuck) = bad_line number
line_from number (Ok x) =
    if are_rounds (number_of (piece x.0 1)) then Ok (verifier_of x.0, x.1) else bad_line number

-- the line of this number, which stands at the front
unfoldable pub line_at : ℕ → List ℕ → Result (Verifier × List ℕ) VerifierRefusal
line_at number octets = line_from number (pieces line_format octets)

-- all lines, of which this is the number of the first; there are at most so many
unfoldable pub lines_at : ℕ → ℕ → List ℕ → Result (List Verifier) VerifierRefusal
lines_at zero number octets = Ok []
lines_at (suc most) number [] = Ok []
lines_at (suc most) number (octet ∷ octets) = do
  line ← line_at number (octet ∷ octets)
  others ← lines_at most (number + 1) line.1
  Ok (line.0 ∷ others)

-- the first line of a name
abbrev pub line_for : List Verifier → List ℕ → Option Verifier
line_for [] name = None
line_for (line ∷ lines) name = if same line.name name then Some line else line_for lines name

-- a line was found
abbrev pub is_there : Option Verifier → Bool
is_there None = false
is_there (Some line) = true

-- refused at the first line whose name stands in a line before it
unfoldable pub once : List Verifier → ℕ → List Verifier → Result (Unit {0}) VerifierRefusal
once before number [] = Ok tt
once before number (line ∷ lines) = if is_there (line_for before line.name) then Err (Twice number)
    else once (before ++ line ∷ []) (number + 1) lines

-- the lines of a file
unfoldable pub verifiers_of : List ℕ → Result (List Verifier) VerifierRefusal
verifiers_of octets = do
  lines ← lines_at (length octets) 1 octets
  single ← once [] 1 lines
  Ok lines

-- ---- making a line

-- a line as a file has it, with its line feed
unfoldable pub line_text : Verifier → List ℕ
line_text line =
    line.name ++ codes ":" ++ decimal line.rounds ++ codes ":" ++ encoded line.salt ++ codes ":"
    ++ encoded line.stored ++ codes ":" ++ encoded line.server
    ++ codes "\n"

-- the line of a user with this secret
abbrev pub line_with : List ℕ → Secret → Verifier
line_with user secret = record {
  name = user;
  rounds = secret.rounds;
  salt = secret.salt;
  stored =
      stored_key secret;
  server = server_key secret;
}

-- the user is judged before the password
unfoldable pub made_line : List ℕ → List ℕ → List ℕ → ℕ → Result (List ℕ) ScramRefusal
made_line user password salt rounds = do
  named ← judged LineName 255 user
  opened ← judged Printable 1024 password
  ranged ← demand (are_rounds rounds) refusals.Rounds
  Ok (line_text (line_with user (record { password = password; salt = salt; rounds = rounds })))
