-- A line of words that `clap` reads: a plain word first, then plain words and options.
use Rattle.std.specs.Prelude.{◌≡◌, ℕ, ◌≤◌, true, List, [], ◌∷◌, length, slice_get, is_some, codes}
use Rattle.clap.specs.Walk.{Row, first_of}
use Rattle.cli_base.specs.Words.{is_dashed, are_words, value_of, first_word, plain_of}

-- the names of the server's options
abbrev pub server_names : List (List ℕ)
server_names = codes "--keytab" ∷ codes "--verifiers" ∷ codes "--name" ∷ codes "--bind"
    ∷ codes "--offer" ∷ codes "--bare" ∷ codes "--window" ∷ codes "--connections"
    ∷ codes "--contexts" ∷ codes "--marks" ∷ codes "--log" ∷ codes "--desks"
    ∷ codes "--idle" ∷ codes "--control" ∷ codes "--journal" ∷ codes "--digest" ∷ []

-- the names of the client's options
abbrev pub client_names : List (List ℕ)
client_names = codes "--ccache" ∷ codes "--server" ∷ codes "--user" ∷ codes "--password"
    ∷ codes "--mechs" ∷ codes "--bare" ∷ codes "--bind" ∷ codes "--service" ∷ codes "--times"
    ∷ codes "--first" ∷ []

-- the words are in a command: a plain word stands first, at most `most` words are plain, and the
-- options are of these names, each once, with its value
pub record IsLine (names : List (List ℕ)) (most : ℕ) (words : List (List ℕ)) : Type 0 where
  pub first : is_some (first_word words) ≡ true
  pub few : length (plain_of words) ≤ most
  pub known : are_words names words ≡ true

-- what was found is what the words say: by an option's name its value, and by `address`, `command`,
-- `argument` and those behind it the plain words in their order
pub record IsRead (rows : List Row) (words : List (List ℕ)) : Type 0 where
  pub values : (name : List ℕ) → is_dashed name ≡ true → first_of name rows ≡ value_of name words
  pub address : first_of (codes "address") rows ≡ slice_get (plain_of words) 0
  pub command : first_of (codes "command") rows ≡ slice_get (plain_of words) 1
  pub argument : first_of (codes "argument") rows ≡ slice_get (plain_of words) 2
  pub second : first_of (codes "second") rows ≡ slice_get (plain_of words) 3
  pub third : first_of (codes "third") rows ≡ slice_get (plain_of words) 4
  pub fourth : first_of (codes "fourth") rows ≡ slice_get (plain_of words) 5
  pub few : length (plain_of words) ≤ 6
