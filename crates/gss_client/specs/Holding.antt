-- What a talk over calls that may differ did, over a link that tells its octets.
use Rattle.std.specs.Prelude.{◌≡◌, ◌≢◌, ℕ, Bool, IsTrue, List, ◌++◌, Option}
use Rattle.sec_base.specs.Link.{Wire}
use Rattle.spnego_core.specs.declared.outcome.Outcome.{Outcome}
use Rattle.aes_cts.specs.Cipher.{IsOctets}
use Rattle.gss_client.specs.declared.conversation.Parting.{Parting}
use Rattle.gss_client.specs.declared.conversation.Parting.TheVariants.{Refused}
use Rattle.gss_client.specs.declared.refusal.ClientRefusal.{ClientRefusal}
use Rattle.gss_client.specs.declared.refusal.ClientRefusal.TheVariants.{LinkFault, NoMemory}
use Rattle.gss_client.specs.Start.{StartSays}
use Rattle.gss_client.specs.Conversing.{IsFront, IsConversed, IsTalk, IsTalkFront}
use Rattle.gss_client.specs.Exchanging.{Went}
use Rattle.gss_client.specs.Session.{SessionState}
use Rattle.gss_client.specs.Talk.{created_from}
use Rattle.gss_client.specs.Talking.{Talking}
use Rattle.gss_client.specs.Conferring.{DueCall, confers, talk_behind}

-- the calls and the end are those of the octets that were drawn, whatever follows them, and of
-- those that were taken and are to come. After a fault of the link or want of memory a front of
-- them was written and answered. Where they weren't refused, no octet more was taken than heard.
pub record ConferredOf (tells : Bool) (given given' : List ℕ) (due : List DueCall)
    (s : SessionState) (old new : Wire) (results : List (List ℕ)) (parting : Parting) : Type 0 where
  pub took : List ℕ
  pub wrote : List ℕ
  pub drawn : List ℕ
  pub octets : IsOctets drawn
  pub went : Went old new took wrote
  pub draws : IsTrue tells → given' ≡ given ++ drawn
  pub front : (later : List ℕ)
      → IsFront wrote (confers due s (drawn ++ later) (took ++ new.coming)).written
      × IsFront results (confers due s (drawn ++ later) (took ++ new.coming)).results
  pub whole : parting ≢ Refused LinkFault
      → parting ≢ Refused NoMemory → (later : List ℕ) → IsConversed wrote results parting later
      (confers due s (drawn ++ later) (took ++ new.coming))
  pub heard : ((refusal : ClientRefusal) → parting ≢ Refused refusal) → (later : List ℕ)
      → (confers due s (drawn ++ later) (took ++ new.coming)).rest ≡ new.coming

-- the same for the whole talk, whose context is created so
pub record TalkedBehind (tells : Bool) (given given' : List ℕ) (creation : Talking SessionState)
    (due : List DueCall) (old new : Wire) (outcome : Option Outcome) (results : List (List ℕ))
    (parting : Parting) : Type 0 where
  pub took : List ℕ
  pub wrote : List ℕ
  pub drawn : List ℕ
  pub octets : IsOctets drawn
  pub went : Went old new took wrote
  pub draws : IsTrue tells → given' ≡ given ++ drawn
  pub front : (later : List ℕ) → IsTalkFront wrote outcome results
      (talk_behind creation due (drawn ++ later) (took ++ new.coming))
  pub whole : parting ≢ Refused LinkFault
      → parting ≢ Refused NoMemory → (later : List ℕ) → IsTalk wrote outcome results parting later
      (talk_behind creation due (drawn ++ later) (took ++ new.coming))
  pub heard : ((refusal : ClientRefusal) → parting ≢ Refused refusal) → (later : List ℕ)
      → (talk_behind creation due (drawn ++ later) (took ++ new.coming)).rest ≡ new.coming

-- the same of a start by plain credentials
abbrev pub TalkedOf : Bool → List ℕ → List ℕ → StartSays → List DueCall → Wire → Wire
    → Option Outcome → List (List ℕ) → Parting → Type 0
TalkedOf tells given given' start due old new outcome results parting = TalkedBehind tells given
    given' (created_from start) due old new outcome results parting
