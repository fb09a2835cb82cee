-- The words of the program: which are in its command, and what they ask for.
use Rattle.std.specs.Prelude.{ℕ, ◌≤◌, Bool, ◌&&◌, not, nat_eq, nat_le, List, length, slice_get}
use Rattle.std.specs.Prelude.{codes, Option, Some, None, is_some, Result, Ok, Err, if◌then◌else◌}
use lib.Pointwise.{pointwise}
use Rattle.gss_base.specs.Name.{Name}
use Rattle.gss_base.specs.Signs.{parsed}
use Rattle.gss_base.specs.declared.principal.NameRefusal.{NameRefusal}
use Rattle.hex.specs.Hex.{decode_of}
use Rattle.hex.specs.declared.error.FromHexError.{FromHexError}
use Rattle.cli_base.specs.Given.{◌>>=◌, demanded, number_given}
use Rattle.cli_base.specs.Words.{are_words, value_of, first_word, plain_of}
use Rattle.cli_base.specs.declared.given.WordsRefusal.{WordsRefusal}
use Rattle.cli_base.specs.declared.given.WordsRefusal.TheVariants.{Usage}
use Rattle.cli_words.specs.Sasl.{sasl_names}
use Rattle.sasl_options.specs.declared.words.Wished.{Wished}
use Rattle.sasl_options.specs.declared.words.Words.{Words}
use Rattle.sasl_options.specs.declared.words.Words.TheVariants.{Serve, Ask}

-- a word that is no option stands first, and at most two such words follow; the options are of
-- these names, each once, with its value
abbrev pub is_command : List (List ℕ) → Bool
is_command words = is_some (first_word words)
    && are_words sasl_names words && nat_le (length (plain_of words)) 3

-- the option is there
abbrev pub is_given : List (List ℕ) → List ℕ → Bool
is_given words name = is_some (value_of name words)

-- the principal as its text was read, refused where it names none
abbrev pub name_by : Result Name NameRefusal → Result Name WordsRefusal
name_by (Ok name) = Ok name
name_by (Err refusal) = Err Usage

-- the principal of an option, which is required
abbrev pub name_given : Option (List ℕ) → Result Name WordsRefusal
name_given None = Err Usage
name_given (Some text) = name_by (parsed text)

-- the text of an option, which is required
abbrev pub text_given : Option (List ℕ) → Result (List ℕ) WordsRefusal
text_given None = Err Usage
text_given (Some text) = Ok text

-- the octets that a word has in hexadecimal
abbrev pub data_by : Result (List ℕ) FromHexError → Result (List ℕ) WordsRefusal
data_by (Ok octets) = Ok octets
data_by (Err refusal) = Err Usage

-- the same of a word that may be missing
abbrev pub data_in : Option (List ℕ) → Result (List ℕ) WordsRefusal
data_in None = Err Usage
data_in (Some text) = data_by (decode_of text)

-- the octets that are sent are the third plain word
abbrev pub octets_given : List (List ℕ) → Result (List ℕ) WordsRefusal
octets_given plain = data_in (slice_get plain 2)

-- the layers and the size: all layers and 65,536 octets without the options
abbrev pub wished_in : List (List ℕ) → Result Wished WordsRefusal
wished_in words = do
  layers ← number_given 1 7 7 (value_of (codes "--layers") words)
  size ← number_given 64 16777215 65536 (value_of (codes "--size") words)
  Ok (record { layers = layers; size = size })

-- `serve ADDRESS --keytab FILE --name PRINCIPAL`, without the options of `ask`
unfoldable pub serve_in : List (List ℕ) → Result Words WordsRefusal
serve_in words = do
  alone ← demanded (nat_eq (length (plain_of words)) 2 && not (is_given words (codes "--ccache"))
      && not (is_given words (codes "--server")))
  wished ← wished_in words
  name ← name_given (value_of (codes "--name") words)
  keytab ← text_given (value_of (codes "--keytab") words)
  Ok (Serve (record { keytab = keytab; name = name; wished = wished }))

-- `ask ADDRESS HEX --ccache FILE --server PRINCIPAL`, without the options of `serve`
unfoldable pub ask_in : List (List ℕ) → Result Words WordsRefusal
ask_in words = do
  alone ← demanded (nat_eq (length (plain_of words)) 3 && not (is_given words (codes "--keytab"))
      && not (is_given words (codes "--name")))
  wished ← wished_in words
  server ← name_given (value_of (codes "--server") words)
  ccache ← text_given (value_of (codes "--ccache") words)
  octets ← octets_given (plain_of words)
  Ok (Ask (record { ccache = ccache; server = server; octets = octets; wished = wished }))

-- two words are the same
abbrev pub same : List ℕ → List ℕ → Bool
same = pointwise nat_eq

-- by the first word
abbrev pub words_by : List (List ℕ) → List ℕ → Result Words WordsRefusal
words_by words word =
    if same word (codes "serve") then serve_in words
    else if same word (codes "ask") then ask_in words
    else Err Usage

-- the same where there may be none
abbrev pub words_at : List (List ℕ) → Option (List ℕ) → Result Words WordsRefusal
words_at words None = Err Usage
words_at words (Some word) = words_by words word

abbrev pub words_in : List (List ℕ) → Result Words WordsRefusal
words_in words = words_at words (slice_get (plain_of words) 0)

-- what the words ask for, refused exactly where they aren't in the command
abbrev pub words_of : List (List ℕ) → Result Words WordsRefusal
words_of words = if is_command words then words_in words else Err Usage

-- the limits of layers and size
pub record IsRanged (wished : Wished) : Type 0 where
  pub some : 1 ≤ wished.layers
  pub known : wished.layers ≤ 7
  pub least : 64 ≤ wished.size
  pub most : wished.size ≤ 16777215

-- the same of what words ask for
abbrev pub AreRanged : Words → Type 0
AreRanged (Serve words) = IsRanged words.wished
AreRanged (Ask words) = IsRanged words.wished
