-- The words of the program over datagrams, `serve|call ADDRESS [COMMAND] [ARG] [options]`. They are
-- those of the server and the client over connections, with `--datagrams` for the server's
-- `--connections` and without its `--desks` and `--idle`, and with the client's `--tries`.
use Rattle.std.specs.Prelude.{◌≡◌, ℕ, suc, ◌+◌, ◌<◌, Bool, true, ◌&&◌, nat_le, nat_lt, List}
use Rattle.std.specs.Prelude.{[], ◌∷◌, ◌++◌, length, take, drop, codes, Option, Some, None}
use Rattle.std.specs.Prelude.{Result, Ok, Err, if◌then◌else◌}
use Rattle.cli_base.specs.Given.{◌>>=◌, or_usage, demanded}
use Rattle.cli_base.specs.Numbers.{number_in}
use Rattle.cli_base.specs.Words.{are_words, first_word}
use Rattle.cli_base.specs.declared.given.WordsRefusal.{WordsRefusal}
use Rattle.cli_base.specs.declared.given.WordsRefusal.TheVariants.{Usage}
use Rattle.client_options.specs.Mechs.{is_list}
use Rattle.client_options.specs.Words.{words_of, is_fit}
use Rattle.client_options.specs.Words as clients
use Rattle.client_options.specs.declared.words.ClientWords.{ClientWords}
use Rattle.mech_words.specs.Names.{same}
use Rattle.server_options.specs.Options.{options_of}
use Rattle.server_options.specs.Options as servers
use Rattle.server_options.specs.declared.options.Options.{Options}
use Rattle.datagram_options.specs.declared.words.Asked.{Asked}
use Rattle.datagram_options.specs.declared.words.Asked.TheVariants.{Serve, Call}

-- ---- an option among words

-- how many words stand before the first that is this name
abbrev pub place_of : List ℕ → List (List ℕ) → ℕ
place_of name [] = 0
place_of name (word ∷ words) = if same word name then 0 else suc (place_of name words)

-- the name stands among the words
abbrev pub is_given : List ℕ → List (List ℕ) → Bool
is_given name words = nat_lt (place_of name words) (length words)

-- the words without the option at this place and its value
abbrev pub without_option : ℕ → List (List ℕ) → List (List ℕ)
without_option at words = take at words ++ drop (at + 2) words

-- the words with this name in place of the one at this place
abbrev pub with_name : List ℕ → ℕ → List (List ℕ) → List (List ℕ)
with_name name at words = take at words ++ name ∷ drop (at + 1) words

-- ---- `serve`

-- the names of its options
abbrev pub serve_names : List (List ℕ)
serve_names = codes "--keytab" ∷ codes "--verifiers" ∷ codes "--name" ∷ codes "--bind"
    ∷ codes "--offer" ∷ codes "--bare" ∷ codes "--window" ∷ codes "--datagrams"
    ∷ codes "--contexts" ∷ codes "--marks" ∷ codes "--log" ∷ []

-- each option is of these names, once, with its value
abbrev pub is_served : List (List ℕ) → Bool
is_served words = are_words serve_names words

-- as the server over connections reads them, whose connections are the datagrams
abbrev pub server_by : List (List ℕ) → Result Options WordsRefusal
server_by words = if is_given (codes "--datagrams") words
    then options_of (with_name (codes "--connections") (place_of (codes "--datagrams") words) words)
    else options_of words

-- at most 64 contexts live at once, and as many without the option
abbrev pub contexts_by : List (List ℕ) → Options → Options
contexts_by words options = if is_given (codes "--contexts") words then options
    else record options { contexts = 64 }

-- at most 64 contexts, and windows of at most 512 numbers
abbrev pub is_small : Options → Bool
is_small options = nat_le options.contexts 64 && nat_le options.window 512

-- what the words behind `serve` ask for
unfoldable pub served : List (List ℕ) → Result Asked WordsRefusal
served words = do
  formed ← demanded (is_served words)
  options ← server_by words
  small ← demanded (is_small (contexts_by words options))
  Ok (Serve (contexts_by words options))

-- ---- `call`

-- the names of its options
abbrev pub call_names : List (List ℕ)
call_names = codes "--ccache" ∷ codes "--server" ∷ codes "--user" ∷ codes "--password"
    ∷ codes "--mechs" ∷ codes "--bare" ∷ codes "--bind" ∷ codes "--service" ∷ codes "--times"
    ∷ codes "--first" ∷ codes "--tries" ∷ []

-- each option is of these names, once, with its value
abbrev pub is_called : List (List ℕ) → Bool
is_called words = are_words call_names words

-- how often a call is sent at most, 1 to 16, by the words behind the option
abbrev pub tries_in : List (List ℕ) → Result ℕ WordsRefusal
tries_in [] = Err Usage
tries_in (text ∷ words) = or_usage (number_in 1 16 text)

-- the octets of bindings
abbrev pub bound_in : Option (List ℕ) → ℕ
bound_in None = 0
bound_in (Some octets) = length octets

-- the arguments are those of at most 7,900 octets, and the bindings have at most 4,096, so that
-- each call has room in a datagram
abbrev pub is_within : ClientWords → Bool
is_within words = nat_le (length words.plan.args) 7904 && nat_le (bound_in words.plan.bindings) 4096

-- as the client over connections reads them
abbrev pub called_with : ℕ → List (List ℕ) → Result Asked WordsRefusal
called_with tries words = words_of words >>= λ asked. demanded (is_within asked) >>= λ fits.
    Ok (Call asked tries)

-- what the words behind `call` ask for: a call is sent at most four times without the option
unfoldable pub called : List (List ℕ) → Result Asked WordsRefusal
called words = do
  formed ← demanded (is_called words)
  if is_given (codes "--tries") words
      then (tries_in (drop (place_of (codes "--tries") words + 1) words) >>= λ tries.
      called_with tries (without_option (place_of (codes "--tries") words) words))
      else called_with 4 words

-- ---- the whole

-- what the words ask for, refused exactly where they aren't in a command
abbrev pub asked_of : List (List ℕ) → Result Asked WordsRefusal
asked_of [] = Err Usage
asked_of (word ∷ words) = if same word (codes "serve") then served words
    else if same word (codes "call") then called words else Err Usage

-- the address: the word behind the command, if it doesn't begin with `-`
abbrev pub address_in : List (List ℕ) → Option (List ℕ)
address_in [] = None
address_in (word ∷ words) = first_word words

-- the limits of what words ask for
abbrev pub IsAsked : Asked → Type 0
IsAsked (Serve options) = servers.IsRanged options
IsAsked (Call words tries) =
    clients.IsRanged words.plan × (is_list words.sources.mechs ≡ true)
    × (is_fit words.plan.negotiates words.sources.mechs ≡ true) × (0 < tries)
