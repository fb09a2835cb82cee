-- The words of the server: which are in its command, and what they ask for.
use Rattle.std.specs.Prelude.{ℕ, ◌<◌, ◌≤◌, Bool, true, false, ◌&&◌, not, nat_eq, List, []}
use Rattle.std.specs.Prelude.{◌∷◌, length, codes, Option, Some, None, Result, Ok, Err, IfSome}
use Rattle.std.specs.Prelude.{if◌then◌else◌}
use lib.Pointwise.{pointwise}
use Rattle.gss_base.specs.Name.{Name}
use Rattle.gss_base.specs.Signs.{parsed}
use Rattle.gss_base.specs.declared.mech.MechKind.{MechKind}
use Rattle.gss_base.specs.declared.mech.MechKind.TheVariants.{Kerberos, Scram}
use Rattle.gss_base.specs.declared.principal.NameRefusal.{NameRefusal}
use Rattle.cli_base.specs.Given.{◌>>=◌, demanded, number_given, data_given}
use Rattle.cli_base.specs.Words.{are_words, value_of, first_word, plain_of}
use Rattle.cli_base.specs.declared.given.WordsRefusal.{WordsRefusal}
use Rattle.cli_base.specs.declared.given.WordsRefusal.TheVariants.{Usage}
use Rattle.server_options.specs.declared.options.Files.{Files}
use Rattle.server_options.specs.declared.options.Numbers.{Numbers}
use Rattle.server_options.specs.declared.options.Options.{Options}

-- the names of the options
abbrev pub names : List (List ℕ)
names = codes "--keytab" ∷ codes "--verifiers" ∷ codes "--name" ∷ codes "--bind" ∷ codes "--offer"
    ∷ codes "--bare" ∷ codes "--window" ∷ codes "--connections" ∷ codes "--contexts"
    ∷ codes "--marks" ∷ codes "--log" ∷ codes "--desks" ∷ codes "--idle" ∷ codes "--control"
    ∷ codes "--journal" ∷ codes "--digest" ∷ []

-- two words are the same
abbrev pub same : List ℕ → List ℕ → Bool
same = pointwise nat_eq

-- an address stands first; `drill` is none
abbrev pub is_address : Option (List ℕ) → Bool
is_address None = false
is_address (Some word) = not (same word (codes "drill"))

-- the address, then options: each of these names, once, with its value
abbrev pub is_command : List (List ℕ) → Bool
is_command words =
    is_address (first_word words) && (nat_eq (length (plain_of words)) 1 && are_words names words)

-- words that don't have the form of the command are refused
abbrev pub formed : List (List ℕ) → Result (Unit {0}) WordsRefusal
formed words = demanded (is_command words)

-- the own name that was read, else the words are refused
abbrev pub name_by : Result Name NameRefusal → Result Name WordsRefusal
name_by (Ok name) = Ok name
name_by (Err refusal) = Err Usage

-- the files: those of the keys, both of which are required, and the journal, where one is kept
abbrev pub files_given : Option (List ℕ) → Option (List ℕ) → Option (List ℕ)
    → Result Files WordsRefusal
files_given None verifiers journal = Err Usage
files_given (Some keytab) None journal = Err Usage
files_given (Some keytab) (Some verifiers) journal =
    Ok (record { keytab = keytab; verifiers = verifiers; journal = journal })

-- the own name, which is required
abbrev pub name_given : Option (List ℕ) → Result Name WordsRefusal
name_given None = Err Usage
name_given (Some text) = name_by (parsed text)

-- the mechanisms of a list, the preferred first. They are mechanisms and not object identifiers: if
-- single identifiers were offered, an altered list and an altered supportedMech could complete a
-- mechanism that isn't the best one
abbrev pub offer_by : List ℕ → Result (List MechKind) WordsRefusal
offer_by text =
    if same text (codes "krb5") then Ok (Kerberos ∷ [])
    else if same text (codes "scram") then Ok (Scram ∷ [])
    else if same text (codes "krb5,scram") then Ok (Kerberos ∷ Scram ∷ [])
    else if same text (codes "scram,krb5") then Ok (Scram ∷ Kerberos ∷ [])
    else Err Usage

-- the mechanisms that are offered, by the option, or both without it, Kerberos first
abbrev pub offer_given : Option (List ℕ) → Result (List MechKind) WordsRefusal
offer_given None = Ok (Kerberos ∷ Scram ∷ [])
offer_given (Some text) = offer_by text

-- a limit that an option sets, from `least` to `most`, where it stands in the words
abbrev pub limit_given : ℕ → ℕ → Option (List ℕ) → Result (Option ℕ) WordsRefusal
limit_given least most None = Ok None
limit_given least most (Some text) =
    number_given least most most (Some text) >>= λ number. Ok (Some number)

-- the log's digest is kept where the option names its algorithm
abbrev pub digest_given : Option (List ℕ) → Result Bool WordsRefusal
digest_given None = Ok false
digest_given (Some text) = if same text (codes "sha1") then Ok true else Err Usage

-- a request that comes without negotiation (RFC 4178 section 3.2) is taken where the option names
-- its mechanism
abbrev pub bare_given : Option (List ℕ) → Result Bool WordsRefusal
bare_given None = Ok false
bare_given (Some text) =
    if same text (codes "krb5") then Ok true
    else if same text (codes "none") then Ok false
    else Err Usage

-- the numbers of the options, whether the log's digest is kept, and whether a request without
-- negotiation is taken
abbrev pub numbers_given : List (List ℕ) → Result Numbers WordsRefusal
numbers_given words = do
  window ← number_given 1 1024 128 (value_of (codes "--window") words)
  connections ← limit_given 1 1000000 (value_of (codes "--connections") words)
  contexts ← number_given 1 65536 1024 (value_of (codes "--contexts") words)
  marks ← number_given 1 1000000 65536 (value_of (codes "--marks") words)
  log ← limit_given 16 4000000 (value_of (codes "--log") words)
  desks ← number_given 1 1024 64 (value_of (codes "--desks") words)
  idle ← number_given 1 86400 60 (value_of (codes "--idle") words)
  digest ← digest_given (value_of (codes "--digest") words)
  bare ← bare_given (value_of (codes "--bare") words)
  Ok (record {
    window = window;
    connections = connections;
    contexts = contexts;
    marks = marks;
    log = log;
    desks = desks;
    idle = idle;
    digest = digest;
    bare = bare;
  })

-- what the options of words in the command ask for
unfoldable pub options_in : List (List ℕ) → Result Options WordsRefusal
options_in words = do
  files ← files_given (value_of (codes "--keytab") words) (value_of (codes "--verifiers") words)
      (value_of (codes "--journal") words)
  name ← name_given (value_of (codes "--name") words)
  bound ← data_given (value_of (codes "--bind") words)
  offer ← offer_given (value_of (codes "--offer") words)
  window ← number_given 1 1024 128 (value_of (codes "--window") words)
  connections ← limit_given 1 1000000 (value_of (codes "--connections") words)
  contexts ← number_given 1 65536 1024 (value_of (codes "--contexts") words)
  marks ← number_given 1 1000000 65536 (value_of (codes "--marks") words)
  log ← limit_given 16 4000000 (value_of (codes "--log") words)
  desks ← number_given 1 1024 64 (value_of (codes "--desks") words)
  idle ← number_given 1 86400 60 (value_of (codes "--idle") words)
  digest ← digest_given (value_of (codes "--digest") words)
  bare ← bare_given (value_of (codes "--bare") words)
  Ok (record {
    files = files;
    name = name;
    bindings = bound;
    offer = offer;
    bare = bare;
    window =
        window;
    connections = connections;
    contexts = contexts;
    marks = marks;
    log = log;
    desks = desks;
    idle = idle;
    digest = digest;
  })

-- what the words ask for, refused exactly where they aren't in the command
unfoldable pub options_of : List (List ℕ) → Result Options WordsRefusal
options_of words = do
  formed ← formed words
  options_in words

-- the limits of the numbers
pub record AreRanged (numbers : Numbers) : Type 0 where
  pub some_window : 0 < numbers.window
  pub window : numbers.window ≤ 1024
  pub connections : IfSome numbers.connections (λ number. number ≤ 1000000)
  pub contexts : numbers.contexts ≤ 65536
  pub some_mark : 0 < numbers.marks
  pub marks : numbers.marks ≤ 1000000
  pub log : IfSome numbers.log (λ number. number ≤ 4000000)
  pub some_desk : 0 < numbers.desks
  pub desks : numbers.desks ≤ 1024
  pub some_idle : 0 < numbers.idle
  pub idle : numbers.idle ≤ 86400

-- the limits of the options
pub record IsRanged (options : Options) : Type 0 where
  pub some_window : 0 < options.window
  pub window : options.window ≤ 1024
  pub connections : IfSome options.connections (λ number. number ≤ 1000000)
  pub contexts : options.contexts ≤ 65536
  pub some_mark : 0 < options.marks
  pub marks : options.marks ≤ 1000000
  pub log : IfSome options.log (λ number. number ≤ 4000000)
  pub some_desk : 0 < options.desks
  pub desks : options.desks ≤ 1024
  pub some_idle : 0 < options.idle
  pub idle : options.idle ≤ 86400
