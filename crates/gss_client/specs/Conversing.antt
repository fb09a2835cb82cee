-- What a talk did over a link that tells its octets.
use Rattle.std.specs.Prelude.{◌≡◌, ◌≢◌, ◌⊎◌, ℕ, Bool, IsTrue, List, ◌++◌, Option, None}
use Rattle.sec_base.specs.Link.{Wire}
use Rattle.spnego_core.specs.declared.outcome.Outcome.{Outcome}
use Rattle.gss_client.specs.declared.conversation.Parting.{Parting}
use Rattle.gss_client.specs.declared.conversation.Parting.TheVariants.{Refused}
use Rattle.gss_client.specs.Query.{QuerySays}
use Rattle.gss_client.specs.declared.refusal.ClientRefusal.{ClientRefusal}
use Rattle.gss_client.specs.declared.refusal.ClientRefusal.TheVariants.{LinkFault, NoMemory}
use Rattle.gss_client.specs.Start.{StartSays}
use Rattle.gss_client.specs.Conversation.{Conversed, converses, Talk, talk_by}
use Rattle.gss_client.specs.Exchanging.{Went, Done, Stopped}
use Rattle.gss_client.specs.Session.{SessionState}
use Rattle.gss_client.specs.Talk.{created_from, destroys}
use Rattle.gss_client.specs.Talking.{Talking}

-- these are the first of those
abbrev pub IsFront : {A : Type 0} → List A → List A → Type 0
IsFront front all = (more : List _) × (all ≡ front ++ more)

-- ---- the calls of a session, and the end of its context

-- the conversation is what was written and answered, wherever its random octets go on
pub record IsConversed (wrote : List ℕ) (results : List (List ℕ)) (parting : Parting)
    (undrawn : List ℕ) (c : Conversed) : Type 0 where
  pub written : c.written ≡ wrote
  pub results_are : c.results ≡ results
  pub parts : c.parting ≡ parting
  pub undrawn_is : c.undrawn ≡ undrawn

-- the conversation is the one of the octets that were drawn, whatever follows them, and of those
-- that were taken and are to come. After a fault of the link or want of memory a front of it was
-- written and answered. Where it wasn't refused, it took no octet more than it heard.
pub record Conferred (tells : Bool) (given given' : List ℕ) (times : ℕ) (query : QuerySays)
    (args : List ℕ) (s : SessionState) (old new : Wire) (results : List (List ℕ))
    (parting : Parting) : Type 0 where
  pub took : List ℕ
  pub wrote : List ℕ
  pub drawn : List ℕ
  pub went : Went old new took wrote
  pub draws : IsTrue tells → given' ≡ given ++ drawn
  pub front : (later : List ℕ) → IsFront wrote
      (converses times query args s (drawn ++ later) (took ++ new.coming)).written × IsFront
      results (converses times query args s (drawn ++ later) (took ++ new.coming)).results
  pub whole : parting ≢ Refused LinkFault
      → parting ≢ Refused NoMemory → (later : List ℕ) → IsConversed wrote results parting later
      (converses times query args s (drawn ++ later) (took ++ new.coming))
  pub heard : ((refusal : ClientRefusal) → parting ≢ Refused refusal) → (later : List ℕ)
      → (converses times query args s (drawn ++ later) (took ++ new.coming)).rest ≡ new.coming

-- the context was destroyed, and the end is the one that was due; or the destruction was refused
abbrev pub Leaves : SessionState → Wire → Wire → Parting → Parting → Type 0
Leaves s old new due parting =
    (Done (destroys s) old new tt × (parting ≡ due)) ⊎ ((refusal : ClientRefusal)
    × (parting ≡ Refused refusal) × Stopped (destroys s) old new refusal)

-- ---- a whole session

-- the talk is what was written, agreed on and answered, wherever its random octets go on
pub record IsTalk (wrote : List ℕ) (outcome : Option Outcome) (results : List (List ℕ))
    (parting : Parting) (undrawn : List ℕ) (t : Talk) : Type 0 where
  pub written : t.written ≡ wrote
  pub outcome_is : t.outcome ≡ outcome
  pub results_are : t.results ≡ results
  pub parts : t.parting ≡ parting
  pub undrawn_is : t.undrawn ≡ undrawn

-- after a fault of the link or want of memory
pub record IsTalkFront (wrote : List ℕ) (outcome : Option Outcome) (results : List (List ℕ))
    (t : Talk) : Type 0 where
  pub written : IsFront wrote t.written
  pub outcome_is : (outcome ≡ None) ⊎ (t.outcome ≡ outcome)
  pub results_are : IsFront results t.results

-- the same for the whole talk, whose context is created so
pub record TalkedBy (tells : Bool) (given given' : List ℕ) (creation : Talking SessionState)
    (times : ℕ) (query : QuerySays) (args : List ℕ) (old new : Wire) (outcome : Option Outcome)
    (results : List (List ℕ)) (parting : Parting) : Type 0 where
  pub took : List ℕ
  pub wrote : List ℕ
  pub drawn : List ℕ
  pub went : Went old new took wrote
  pub draws : IsTrue tells → given' ≡ given ++ drawn
  pub front : (later : List ℕ) → IsTalkFront wrote outcome results
      (talk_by creation times query args (drawn ++ later) (took ++ new.coming))
  pub whole : parting ≢ Refused LinkFault
      → parting ≢ Refused NoMemory → (later : List ℕ) → IsTalk wrote outcome results parting later
      (talk_by creation times query args (drawn ++ later) (took ++ new.coming))
  pub heard : ((refusal : ClientRefusal) → parting ≢ Refused refusal) → (later : List ℕ)
      → (talk_by creation times query args (drawn ++ later) (took ++ new.coming)).rest
      ≡ new.coming

-- the same of a start by plain credentials
abbrev pub Talked : Bool → List ℕ → List ℕ → StartSays → ℕ → QuerySays → List ℕ → Wire → Wire
    → Option Outcome → List (List ℕ) → Parting → Type 0
Talked tells given given' start times query args old new outcome results parting = TalkedBy
    tells given given' (created_from start) times query args old new outcome results parting
