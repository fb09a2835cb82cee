-- What a session by a user's password begins with, and what it is.
use Rattle.std.specs.Prelude.{◌≡◌, ℕ, Bool, true, IsTrue, List, [], ◌∷◌, ◌++◌, length}
use Rattle.std.specs.Prelude.{Option, None}
use Rattle.sec_base.specs.Link.{Wire}
use Rattle.spnego_core.specs.Ends.{PlainSetup, setup_of}
use Rattle.spnego_core.specs.declared.outcome.Outcome.{Outcome}
use Rattle.spnego_core.specs.declared.setup.InitFacts.{InitFacts}
use Rattle.spnego_core.specs.declared.setup.MechCred.TheVariants.{Scram}
use Rattle.gss_client.specs.Conferring.{DueCall}
use Rattle.gss_client.specs.Holding.{TalkedOf}
use Rattle.gss_client.specs.Start.{StartSays}
use Rattle.gss_client.specs.declared.conversation.Parting.{Parting}
use Rattle.gss_client.specs.declared.terms.Terms.{Terms}
pub use Rattle.sec_base.specs.Answers.{Rose}
pub use Rattle.sec_base.specs.Link.{Wire}
pub use Rattle.spnego_core.specs.declared.outcome.Outcome.{Outcome}
pub use Rattle.gss_client.specs.Conferring.{DueCall, calls_of}
pub use Rattle.gss_client.specs.Holding.{TalkedOf}
pub use Rattle.gss_client.specs.Query.{QuerySays}
pub use Rattle.gss_client.specs.declared.conversation.Parting.{Parting}
pub use Rattle.gss_client.specs.declared.terms.Terms.{Terms}

-- a start whose first call has the number 1
abbrev pub start_from : PlainSetup → Terms → StartSays
start_from setup terms = record { setup = setup; terms = terms; first = 1 }

-- one credential, of SCRAM, without bindings; it has no ticket, so the moment is that of none
abbrev pub password_facts : List ℕ → List ℕ → List ℕ → InitFacts
password_facts user password draws = record {
  list = Scram user password ∷ [];
  bindings = None;
  stamp = 0;
  draws = draws;
  negotiates = true;
}

-- a session by this password begins so
abbrev pub password_start : List ℕ → List ℕ → List ℕ → Terms → StartSays
password_start user password draws terms =
    start_from (setup_of (password_facts user password draws)) terms

-- so many octets were given after those that were given before
abbrev pub IsDrawn : ℕ → List ℕ → List ℕ → Type 0
IsDrawn count given given' = (draws : List ℕ) × (length draws ≡ count) × (given' ≡ given ++ draws)

-- 66 octets were drawn, and with them a session of these calls was begun by this password
pub record TalkedByPassword (tells : Bool) (given given' user password : List ℕ) (terms : Terms)
    (due : List DueCall) (old new : Wire) (outcome : Option Outcome) (results : List (List ℕ))
    (parting : Parting) : Type 0 where
  pub draws : List ℕ
  pub enough : length draws ≡ 66
  pub after : List ℕ
  pub drawn : IsTrue tells → after ≡ given ++ draws
  pub talked : TalkedOf tells after given' (password_start user password draws terms) due old new
      outcome results parting
