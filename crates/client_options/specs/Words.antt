-- The words of the client, `ADDRESS COMMAND [ARG ..] [options]`: which are in its command, and what
-- they ask for.
use Rattle.std.specs.Prelude.{◌≡◌, ℕ, ◌<◌, ◌≤◌, Bool, true, ◌&&◌, nat_eq, nat_lt, nat_le}
use Rattle.std.specs.Prelude.{false, List, [], ◌∷◌, length, slice_get, slice_index, codes, Option}
use Rattle.std.specs.Prelude.{Some, None, is_some, Result, Ok, Err, if◌then◌else◌}
use Rattle.gss_base.specs.Name.{Name}
use Rattle.gss_base.specs.Signs.{parsed}
use Rattle.gss_base.specs.declared.mech.KerberosName.TheVariants.{Standard, Microsoft}
use Rattle.gss_base.specs.declared.mech.MechName.{MechName}
use Rattle.gss_base.specs.declared.mech.MechName.TheVariants as mech_names
use Rattle.gss_base.specs.declared.principal.NameRefusal.{NameRefusal}
use Rattle.posts_client.specs.declared.procedure.Procedure.{Procedure}
use Rattle.posts_client.specs.declared.procedure.Procedure.TheVariants.{Null, Echo, Whoami, Post}
use Rattle.posts_client.specs.declared.procedure.Procedure.TheVariants.{Count}
use Rattle.rpcsec_bodies.specs.declared.service.Service.{Service}
use Rattle.rpcsec_bodies.specs.declared.service.Service.TheVariants as services
use Rattle.cli_base.specs.Given.{◌>>=◌, or_usage, demanded, number_given, data_given}
use Rattle.cli_base.specs.Numbers.{number_in}
use Rattle.cli_base.specs.Words.{are_words, value_of, first_word, plain_of}
use Rattle.cli_base.specs.declared.given.WordsRefusal.{WordsRefusal}
use Rattle.cli_base.specs.declared.given.WordsRefusal.TheVariants.{Usage}
use Rattle.cli_words.specs.Line.{client_names}
use Rattle.hex.specs.Hex.{decode_of}
use Rattle.hex.specs.declared.error.FromHexError.{FromHexError}
use Rattle.rpc_msgs.specs.Words.{opaque}
use Rattle.posts_program.specs.declared.numbers.TheConstants.{PROGRAM, VERSION}
use Rattle.mech_words.specs.Names.{same}
use Rattle.client_options.specs.Mechs.{mechs_given}
use Rattle.client_options.specs.declared.command.Command.{Command}
use Rattle.client_options.specs.declared.command.Command.TheVariants.{Served, Numbered}
use Rattle.client_options.specs.declared.words.Asked.{Asked}
use Rattle.client_options.specs.declared.words.ClientWords.{ClientWords}
use Rattle.client_options.specs.declared.words.Plan.{Plan}
use Rattle.client_options.specs.declared.words.Sources.{Sources}

-- ---- the command and its argument

-- the octets of ARG, which has them in hexadecimal: at most 65,536
abbrev pub within : List ℕ → Result (List ℕ) WordsRefusal
within octets = if nat_lt 65536 (length octets) then Err Usage else Ok octets

-- the same of ARG as it was read: what isn't hexadecimal is refused
abbrev pub data_by : Result (List ℕ) FromHexError → Result (List ℕ) WordsRefusal
data_by (Ok octets) = within octets
data_by (Err refusal) = Err Usage

-- what is asked of the program that `gssrpcd` serves
abbrev pub served : Procedure → List ℕ → Asked
served procedure args = record {
  command = Served procedure;
  program = PROGRAM;
  version = VERSION;
  args = args;
}

-- a command without ARG
unfoldable pub bare : List (List ℕ) → Procedure → Result Asked WordsRefusal
bare plain procedure = do
  alone ← demanded (nat_eq (length plain) 2)
  Ok (served procedure [])

-- a command with ARG, which is the procedure's argument
unfoldable pub with_data : List (List ℕ) → Procedure → Result Asked WordsRefusal
with_data plain procedure = do
  alone ← demanded (nat_eq (length plain) 3)
  text ← or_usage (slice_get plain 2)
  octets ← data_by (decode_of text)
  Ok (served procedure (opaque octets))

-- a number of 32 bits in decimal, which has to be there
abbrev pub word_given : Option (List ℕ) → Result ℕ WordsRefusal
word_given None = Err Usage
word_given (Some text) = or_usage (number_in 0 0xffffffff text)

-- the octets of HEX, none without it
abbrev pub args_given : Option (List ℕ) → Result (List ℕ) WordsRefusal
args_given None = Ok []
args_given (Some text) = data_by (decode_of text)

-- `call PROGRAM VERSION PROCEDURE [HEX]`: any procedure of any program by its number, with these
-- octets as its arguments (RFC 5531 section 9)
unfoldable pub numbered : List (List ℕ) → Result Asked WordsRefusal
numbered plain = do
  few ← demanded (nat_le (length plain) 6)
  program ← word_given (slice_get plain 2)
  version ← word_given (slice_get plain 3)
  procedure ← word_given (slice_get plain 4)
  args ← args_given (slice_get plain 5)
  Ok (record { command = Numbered procedure; program = program; version = version; args = args })

-- what a command asks for, among the plain words
abbrev pub asked_by : List (List ℕ) → List ℕ → Result Asked WordsRefusal
asked_by plain word =
    if same word (codes "null") then bare plain Null
    else if same word (codes "echo") then with_data plain Echo
    else if same word (codes "whoami") then bare plain Whoami
    else if same word (codes "post") then with_data plain Post
    else if same word (codes "count") then bare plain Count
    else if same word (codes "call") then numbered plain
    else Err Usage

-- the command is the second plain word, behind the address
unfoldable pub asked_in : List (List ℕ) → Result Asked WordsRefusal
asked_in plain = do
  word ← or_usage (slice_get plain 1)
  asked_by plain word

-- ---- the options

-- a word that is no option stands first; the options are of these names, each once, with its value
abbrev pub is_command : List (List ℕ) → Bool
is_command words = is_some (first_word words) && are_words client_names words

-- words of the command, of which none is left over behind its argument
abbrev pub is_line : List (List ℕ) → Bool
is_line words = is_command words && nat_le (length (plain_of words)) 6

-- the server as its text was read, refused where it names no principal
abbrev pub name_by : Result Name NameRefusal → Result (Option Name) WordsRefusal
name_by (Ok name) = Ok (Some name)
name_by (Err refusal) = Err Usage

-- the server, where the option names one
abbrev pub server_given : Option (List ℕ) → Result (Option Name) WordsRefusal
server_given None = Ok None
server_given (Some text) = name_by (parsed text)

-- the service by its word
abbrev pub service_by : List ℕ → Result Service WordsRefusal
service_by text =
    if same text (codes "none") then Ok services.None
    else if same text (codes "integrity") then Ok services.Integrity
    else if same text (codes "privacy") then Ok services.Privacy
    else Err Usage

-- the service by the option, or integrity without it
abbrev pub service_given : Option (List ℕ) → Result Service WordsRefusal
service_given None = Ok services.Integrity
service_given (Some text) = service_by text

-- a mechanism is negotiated unless the option names the one whose own token is sent (RFC 4178
-- section 3.2)
abbrev pub negotiates_given : Option (List ℕ) → Result Bool WordsRefusal
negotiates_given None = Ok true
negotiates_given (Some text) = if same text (codes "krb5") then Ok false else Err Usage

-- what is called and how, from the command and its options
unfoldable pub plan_of : List (List ℕ) → Result Plan WordsRefusal
plan_of words = do
  asked ← asked_in (plain_of words)
  bound ← data_given (value_of (codes "--bind") words)
  negotiates ← negotiates_given (value_of (codes "--bare") words)
  service ← service_given (value_of (codes "--service") words)
  times ← number_given 1 1000 1 (value_of (codes "--times") words)
  first ← number_given 1 2147483647 1 (value_of (codes "--first") words)
  Ok (record {
    command = asked.command;
    args = asked.args;
    bindings = bound;
    negotiates = negotiates;
    terms = record { service = service; program = asked.program; version = asked.version };
    times = times;
    first = first;
  })

-- ---- the mechanisms

-- Kerberos's two options are the credential cache and the server, SCRAM's the user and the
-- password's file
abbrev pub is_given : List (List ℕ) → List ℕ → Bool
is_given words name = is_some (value_of name words)

-- both options of Kerberos are there
abbrev pub has_krb5 : List (List ℕ) → Bool
has_krb5 words = is_given words (codes "--ccache") && is_given words (codes "--server")

-- both options of SCRAM are there
abbrev pub has_scram : List (List ℕ) → Bool
has_scram words = is_given words (codes "--user") && is_given words (codes "--password")

-- where the credentials come from. Options of a mechanism that isn't listed are taken too.
unfoldable pub sources_of : List (List ℕ) → Result Sources WordsRefusal
sources_of words = do
  server ← server_given (value_of (codes "--server") words)
  list ← mechs_given (has_krb5 words) (has_scram words) (value_of (codes "--mechs") words)
  Ok (record {
    ccache = value_of (codes "--ccache") words;
    server = server;
    user = value_of (codes "--user") words;
    password = value_of (codes "--password") words;
    mechs = list;
  })

-- ---- the whole

-- this name is Kerberos's own
abbrev pub is_kerberos : MechName → Bool
is_kerberos (mech_names.Kerberos Standard) = true
is_kerberos (mech_names.Kerberos Microsoft) = false
is_kerberos mech_names.Scram = false

-- the list is Kerberos alone, under its own name
abbrev pub is_kerberos_alone : List MechName → Bool
is_kerberos_alone [] = false
is_kerberos_alone (name ∷ []) = is_kerberos name
is_kerberos_alone (name ∷ next ∷ names) = false

-- a list is one for this way to begin: without negotiation it is Kerberos alone
abbrev pub is_fit : Bool → List MechName → Bool
is_fit negotiates list = if negotiates then true else is_kerberos_alone list

-- the words' two halves, refused where the list isn't one for the way to begin
abbrev pub joined : Sources → Plan → Result ClientWords WordsRefusal
joined sources plan = if is_fit plan.negotiates sources.mechs
    then Ok (record { sources = sources; plan = plan }) else Err Usage

-- what the words ask for, refused exactly where they aren't in the command
unfoldable pub words_of : List (List ℕ) → Result ClientWords WordsRefusal
words_of words = do
  formed ← demanded (is_command words)
  sources ← sources_of words
  plan ← plan_of words
  joined sources plan

-- octets in XDR, at most 65,536 of them
pub record IsData (args : List ℕ) : Type 0 where
  pub octets : List ℕ
  pub few : length octets ≤ 65536
  pub spelled : args ≡ opaque octets

-- a served procedure's argument: octets for ECHO and POST, nothing for the others
abbrev pub IsArgument : Procedure → List ℕ → Type 0
IsArgument Null args = args ≡ []
IsArgument Echo args = IsData args
IsArgument Whoami args = args ≡ []
IsArgument Post args = IsData args
IsArgument Count args = args ≡ []

-- a served procedure is called of its program with its own arguments
abbrev pub IsOwn : Command → ℕ → ℕ → List ℕ → Type 0
IsOwn (Served procedure) program version args =
    (program ≡ PROGRAM) × (version ≡ VERSION) × IsArgument procedure args
IsOwn (Numbered number) program version args = Unit {0}

-- each number is an octet
abbrev pub AreOctets : List ℕ → Type 0
AreOctets octets = (i : ℕ) → slice_index octets i < 256

-- the limits of what words ask for
pub record IsRanged (plan : Plan) : Type 0 where
  pub args : length plan.args ≤ 65540
  pub octets : AreOctets plan.args
  pub some : 1 ≤ plan.times
  pub times : plan.times ≤ 1000
  pub least : 1 ≤ plan.first
  pub first : plan.first ≤ 2147483647
