-- What a mechanism's object is, however it lies in memory, and what it answers.
use Rattle.std.specs.Prelude.{ℕ, List, [], ◌∷◌, ◌++◌, Option, Some, None, Result, Ok, Err}
use Rattle.std.specs.Prelude.{option_map}
use Rattle.gss_base.specs.declared.mech.MechKind.{MechKind}
use Rattle.spnego_core.specs.declared.setup.MechCred.{MechCred}
use Rattle.spnego_core.specs.declared.refusal.MechRefusal.{MechRefusal}
use Rattle.spnego_core.specs.declared.refusal.NegRefusal.{NegRefusal}
use Rattle.spnego_core.specs.declared.refusal.NegRefusal.TheVariants.{MechNotMine, Mech}
use Rattle.spnego_core.specs.Sizes.{FitsBeside}
use Rattle.mech_objects.specs.declared.ask.MechAsk.{MechAsk}
use Rattle.mech_objects.specs.declared.ask.MechMove.{MechMove}
use Rattle.mech_objects.specs.declared.ask.MechMove.TheVariants.{Token, Done}
use Rattle.mech_objects.specs.declared.ask.Stage.{Stage}
use Rattle.mech_objects.specs.declared.ask.Stage.TheVariants.{Blank, Fresh, Waiting, Over}

-- what a mechanism with a credential says: its first token, by what it is asked with, and what it
-- makes of a token after those that it took
pub record MechTalk : Type 0 where
  pub first : MechAsk → Result (List ℕ) MechRefusal
  pub next : MechAsk → List (List ℕ) → List ℕ → Result MechMove MechRefusal

-- an object: its mechanism, the identifier by which it stands in a list, what it says with a
-- credential; the credential once it is armed, what it was asked with once it started, the tokens
-- that it sent and took, and how far it is
pub record MechSays : Type 0 where
  pub kind : MechKind
  pub oid : List ℕ
  pub says : MechCred → MechTalk
  pub cred : Option MechCred
  pub ask : Option MechAsk
  pub sent : List (List ℕ)
  pub taken : List (List ℕ)
  pub stage : Stage

-- an object that has no credential yet
abbrev pub blank : MechKind → List ℕ → (MechCred → MechTalk) → MechSays
blank kind oid says = record {
  kind = kind;
  oid = oid;
  says = says;
  cred = None;
  ask = None;
  sent = [];
  taken = [];
  stage = Blank;
}

-- once it has one
abbrev pub armed : MechSays → MechCred → MechSays
armed m cred = record m { cred = Some cred; stage = Fresh }

-- once nothing follows
abbrev pub over : MechSays → MechSays
over m = record m { stage = Over }

-- what it says with the credential that it has
abbrev pub talk_of : MechSays → Option MechTalk
talk_of m = option_map m.says m.cred

-- a mechanism's refusal is the end's
abbrev pub as_end : {X : Type 0} → Result X MechRefusal → Result X NegRefusal
as_end (Ok x) = Ok x
as_end (Err refusal) = Err (Mech refusal)

-- ---- the first token

-- by what it says; one that isn't armed has none
abbrev pub first_by : Option MechTalk → MechAsk → Result (List ℕ) NegRefusal
first_by None ask = Err MechNotMine
first_by (Some talk) ask = as_end (talk.first ask)

-- the first token of an object
abbrev pub starts : MechSays → MechAsk → Result (List ℕ) NegRefusal
starts m ask = first_by (talk_of m) ask

-- the object behind it: it waits, or is over
abbrev pub started : MechSays → MechAsk → Result (List ℕ) NegRefusal → MechSays
started m ask (Ok token) =
    record m { ask = Some ask; sent = token ∷ []; taken = []; stage = Waiting }
started m ask (Err refusal) = over m

-- ---- a further token

-- by what it says; one that didn't start takes none
abbrev pub next_by : Option MechTalk → Option MechAsk → List (List ℕ) → List ℕ
    → Result MechMove NegRefusal
next_by None ask taken token = Err MechNotMine
next_by (Some talk) None taken token = Err MechNotMine
next_by (Some talk) (Some ask) taken token = as_end (talk.next ask taken token)

-- what an object makes of a token
abbrev pub takes : MechSays → List ℕ → Result MechMove NegRefusal
takes m token = next_by (talk_of m) m.ask m.taken token

-- the object behind that: it waits for another, or is over
abbrev pub took : MechSays → List ℕ → Result MechMove NegRefusal → MechSays
took m token (Ok (Token octets)) =
    record m { sent = m.sent ++ octets ∷ []; taken = m.taken ++ token ∷ [] }
took m token (Ok (Done made)) = record m { taken = m.taken ++ token ∷ []; stage = Over }
took m token (Err refusal) = over m

-- a mechanism's token leaves room for the negotiation's, where it has one
abbrev pub FitsMove : MechMove → Type 0
FitsMove (Token token) = FitsBeside token
FitsMove (Done made) = Unit {0}
