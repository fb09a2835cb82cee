-- An AuthMessage read alone: its three texts, of which each but the last ends where a named part of
-- the next begins.
use Rattle.std.specs.Prelude.{ℕ, List, [], ◌∷◌, codes, Option, Some, None, Result, Ok, Err}
use Rattle.scram_mech.specs.declared.refusal.Stuck.{Stuck}
use Rattle.scram_mech.specs.declared.run.Class.TheVariants.{Nonce}
use Rattle.scram_mech.specs.declared.name.Escape.TheVariants.{Outside}
use Rattle.scram_mech.specs.Name.{unescaped}
use Rattle.scram_mech.specs.Digits.{number_of}
use Rattle.scram_mech.specs.Base64.{decoded}
use Rattle.scram_mech.specs.State.{some, a_name, base64, rounds_number, further_parts}
use Rattle.scram_mech.specs.Formats.{Segment, Word, Value, End, pieces_of, piece}

-- the further parts of the first text go up to the letter `r`, those of the second up to `c`: no
-- further part has these
unfoldable pub third_part : List Segment
third_part =
    Word (codes "=") ∷ Value (base64 0 32768) ∷ Word (codes ",r=") ∷ Value (some Nonce 256)
    ∷ Value (further_parts None) ∷ End ∷ []

-- the second text behind its letter `r`, up to the letter `c`, and the third text behind that
unfoldable pub second_part : List Segment
second_part =
    Word (codes "=") ∷ Value (some Nonce 256) ∷ Word (codes ",s=") ∷ Value (base64 1 64)
    ∷ Word (codes ",i=") ∷ Value rounds_number
    ∷ Value (further_parts (Some 99)) ∷ third_part

-- a whole AuthMessage: the first text up to the letter `r`, and the two texts behind it
unfoldable pub auth_format : List Segment
auth_format = Word (codes "n=") ∷ Value a_name ∷ Word (codes ",r=") ∷ Value (some Nonce 232)
    ∷ Value (further_parts (Some 114)) ∷ second_part

-- what an AuthMessage says: name and nonce of the first text; whole nonce, salt and rounds of the
-- second; binding data and nonce of the third
pub record AuthParts : Type 0 where
  pub name : List ℕ
  pub client : List ℕ
  pub nonce : List ℕ
  pub salt : List ℕ
  pub rounds : ℕ
  pub binding : List ℕ
  pub last_nonce : List ℕ

-- what the values of an AuthMessage say, none if it isn't in the format
abbrev pub parts_in : Result (List (List ℕ)) Stuck → Option AuthParts
parts_in (Err stuck) = None
parts_in (Ok values) = Some (record {
  name = unescaped Outside (piece values 0);
  client = piece values 1;
  nonce = piece values 3;
  salt = decoded (piece values 4);
  rounds = number_of (piece values 5);
  binding = decoded (piece values 7);
  last_nonce = piece values 8;
})

-- what an AuthMessage says
unfoldable pub auth_parts : List ℕ → Option AuthParts
auth_parts auth = parts_in (pieces_of auth_format auth)
