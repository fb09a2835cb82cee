-- The run of the client.
use Rattle.std.specs.Prelude.{◌≡◌, ◌≢◌, ◌⊎◌, ℕ, Bool, true, IsTrue, List, [], ◌∷◌, ◌++◌, length}
use Rattle.std.specs.Prelude.{Option, Some, None, Result, Ok, Err}
use Rattle.sec_base.specs.Link.{Wire}
use Rattle.sec_base.specs.declared.shelf.NamedFile.{NamedFile}
use Rattle.gss_base.specs.Principal.{text_form}
use Rattle.gss_base.specs.Name.{Name}
use Rattle.spnego_core.specs.declared.outcome.Outcome.{Outcome}
use Rattle.spnego_core.specs.declared.setup.MechCred.{MechCred}
use Rattle.gss_client.specs.Conversation.{Talk, talk}
use Rattle.gss_client.specs.Conversing.{IsTalkFront}
use Rattle.gss_client.specs.Exchanging.{Went}
use Rattle.gss_client.specs.declared.conversation.Parting.{Parting}
use Rattle.posts_client.specs.declared.procedure.Procedure.TheVariants.{Null}
use Rattle.gss_client.specs.Start.{StartSays}
use Rattle.client_command.specs.Credentials.{creds_from}
use Rattle.client_options.specs.Command.{called_by}
use Rattle.client_options.specs.Endings.{Named, end_of, is_parted}
use Rattle.client_options.specs.Words.{words_of, IsRanged}
use Rattle.client_options.specs.declared.command.Command.{Command}
use Rattle.client_options.specs.declared.command.Command.TheVariants.{Served}
use Rattle.client_options.specs.declared.ending.RunEnd.{RunEnd}
use Rattle.client_options.specs.declared.ending.RunEnd.TheVariants.{LinkFault, NoMemory}
use Rattle.client_options.specs.declared.words.ClientWords.{ClientWords}
use Rattle.client_options.specs.declared.words.Plan.{Plan}
use Rattle.client_options.specs.declared.words.Sources.{Sources}
use Rattle.cli_base.specs.declared.given.WordsRefusal.{WordsRefusal}

-- ---- what the words name

-- an option's text, empty without it
abbrev pub text_or_none : Option (List ℕ) → List ℕ
text_or_none None = []
text_or_none (Some text) = text

-- the text form of the server, empty where none is named
abbrev pub server_text : Option Name → List ℕ
server_text None = []
server_text (Some server) = text_form server.realm server.parts

-- what the words name: the credential cache, the password's file, and the server
abbrev pub names_in : Sources → Named
names_in sources = record {
  ccache = text_or_none sources.ccache;
  password =
      text_or_none sources.password;
  server = server_text sources.server;
}

-- nothing is named
abbrev pub unnamed : Named
unnamed = record { ccache = []; password = []; server = [] }

-- none where the words aren't in the command
abbrev pub names_of : Result ClientWords WordsRefusal → Named
names_of (Ok words) = names_in words.sources
names_of (Err refusal) = unnamed

-- what is called, whose results are printed; without words there are none
abbrev pub command_of : Result ClientWords WordsRefusal → Command
command_of (Ok words) = words.plan.command
command_of (Err refusal) = Served Null

-- ---- the session

-- what a session is begun with: the plan of the words, the credentials of their mechanisms, a
-- moment as stamp, 66 random octets, and whether a mechanism is negotiated
abbrev pub start_of : Plan → List MechCred → ℕ → List ℕ → StartSays
start_of plan creds stamp draws = record {
  setup = record {
    list = creds;
    bindings = plan.bindings;
    stamp = stamp;
    draws = draws;
    negotiates = plan.negotiates;
  };
  terms = plan.terms;
  first = plan.first;
}

-- the talk of the plan over a stream of octets, where its calls' confounders are the first of these
-- octets
abbrev pub planned : Plan → List MechCred → ℕ → List ℕ → List ℕ → List ℕ → Talk
planned plan creds stamp draws confounders stream =
    talk (start_of plan creds stamp draws) plan.times (called_by plan.command) plan.args confounders
    stream

-- this is what a talk wrote, agreed on and was answered, the run ends as it did, and these of the
-- random octets weren't drawn
pub record IsWhole (wrote : List ℕ) (outcome : Option Outcome) (results : List (List ℕ))
    (end : RunEnd) (undrawn : List ℕ) (t : Talk) : Type 0 where
  pub written : t.written ≡ wrote
  pub outcome_is : t.outcome ≡ outcome
  pub results_are : t.results ≡ results
  pub ends : end ≡ end_of t.parting
  pub undrawn_is : t.undrawn ≡ undrawn

-- what the clock and the source of random octets gave: one moment, 66 octets, and the calls'
-- confounders
pub record Drew (clock : Bool) (moments moments' : List ℕ) (draw : Bool) (given given' : List ℕ)
    (stamp : ℕ) (draws confounders : List ℕ) : Type 0 where
  pub moment : IsTrue clock → moments' ≡ moments ++ stamp ∷ []
  pub size : length draws ≡ 66
  pub octets : IsTrue draw → given' ≡ given ++ (draws ++ confounders)

-- the run held the session of its plan over a link that tells its octets: what it wrote, agreed on
-- and was answered is its talk's, it ends as the talk does, and it drew what the talk draws: 16
-- octets for each call, whatever the service, and no more. After a fault of the link or want of
-- memory what it wrote and was answered are fronts of the talk's. Once the context was destroyed,
-- it took no octet more than it heard.
pub record Spoke (clock : Bool) (moments moments' : List ℕ) (draw : Bool) (given given' : List ℕ)
    (plan : Plan) (creds : List MechCred) (old new : Wire) (outcome : Option Outcome)
    (results : List (List ℕ)) (end : RunEnd) : Type 0 where
  pub stamp : ℕ
  pub draws : List ℕ
  pub confounders : List ℕ
  pub drew : Drew clock moments moments' draw given given' stamp draws confounders
  pub took : List ℕ
  pub wrote : List ℕ
  pub went : Went old new took wrote
  pub front : (later : List ℕ) → IsTalkFront wrote outcome results
      (planned plan creds stamp draws (confounders ++ later) (took ++ new.coming))
  pub whole : end ≢ LinkFault → end ≢ NoMemory → (later : List ℕ) → IsWhole wrote outcome results
      end later (planned plan creds stamp draws (confounders ++ later) (took ++ new.coming))
  pub heard : is_parted end ≡ true → (later : List ℕ)
      → (planned plan creds stamp draws (confounders ++ later) (took ++ new.coming)).rest
      ≡ new.coming

-- the talk of the plan by what the devices gave ends so
abbrev pub EndsSo : Bool → List ℕ → List ℕ → Bool → List ℕ → List ℕ → Plan → List MechCred → Wire
    → Wire → Parting → Type 0
EndsSo clock moments moments' draw given given' plan creds old new parting =
    (stamp : ℕ) (draws confounders took : List ℕ)
    → Drew clock moments moments' draw given given' stamp draws confounders
    → new.taken ≡ old.taken ++ took
    → (planned plan creds stamp draws confounders (took ++ new.coming)).parting ≡ parting

-- the credentials are those that were read in what the shelf answered for the files that the words
-- name (`loaded`), and where the shelf tells its files, those in them; the plan is within its
-- limits, and the session was held
pub record HasHeld (asked : ClientWords)
    (loaded : Sources → Result (List MechCred) RunEnd → Type 0) (shelf : Bool)
    (files : List NamedFile) (clock : Bool) (moments moments' : List ℕ) (draw : Bool)
    (given given' : List ℕ) (old new : Wire) (outcome : Option Outcome)
    (results : List (List ℕ)) (end : RunEnd) : Type 0 where
  pub creds : List MechCred
  pub read : loaded asked.sources (Ok creds)
  pub found : IsTrue shelf → creds_from files asked.sources ≡ Ok creds
  pub ranged : IsRanged asked.plan
  pub spoke : Spoke clock moments moments' draw given given' asked.plan creds old new outcome
      results end

-- the words are in the command, and the session was held
pub record HasSpoken (words : List (List ℕ))
    (loaded : Sources → Result (List MechCred) RunEnd → Type 0) (shelf : Bool)
    (files : List NamedFile) (clock : Bool) (moments moments' : List ℕ) (draw : Bool)
    (given given' : List ℕ) (old new : Wire) (outcome : Option Outcome)
    (results : List (List ℕ)) (end : RunEnd) : Type 0 where
  pub asked : ClientWords
  pub read : words_of words ≡ Ok asked
  pub held : HasHeld asked loaded shelf files clock moments moments' draw given given' old new
      outcome results end

-- nothing was written or read on the link, and there are no outcome and no results
pub record IsSilent (old new : Wire) (outcome : Option Outcome) (results : List (List ℕ)) : Type 0
  where
    pub same : new ≡ old
    pub none : outcome ≡ None
    pub empty : results ≡ []

-- what is returned of a session is what it came to; where there was no memory to print that,
-- nothing is
abbrev pub Reports : Option Outcome → List (List ℕ) → Parting → Option Outcome → List (List ℕ)
    → RunEnd → Type 0
Reports outcome results parting outcome' results' end =
    ((outcome' ≡ outcome) × (results' ≡ results) × (end ≡ end_of parting))
    ⊎ ((outcome' ≡ None) × (results' ≡ []) × (end ≡ NoMemory))
