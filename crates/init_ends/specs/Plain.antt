-- An initiator over the objects of Kerberos and SCRAM, and the same over plain credentials: both
-- begin alike, and answer each reply alike.
use Rattle.std.specs.Prelude.{◌≡◌, ℕ, Bool, true, List, [], ◌∷◌, map, Option, Some, None, Result}
use Rattle.std.specs.Prelude.{Ok, Err}
use Rattle.gss_base.specs.declared.mech.MechKind.{MechKind}
use Rattle.gss_base.specs.Mech.{mech_of}
use Rattle.spnego_core.specs.declared.refusal.NegRefusal.{NegRefusal}
use Rattle.spnego_core.specs.declared.setup.MechCred.{MechCred}
use Rattle.spnego_core.specs.MechStates.{InitMech}
use Rattle.spnego_core.specs.InitMech.{kind_of, name_of}
use Rattle.spnego_core.specs.InitMech as plain_lists
use Rattle.spnego_core.specs.Ends.{PlainSetup, OpeningSays, TalkSays, TalkingSays, SignedSays}
use Rattle.spnego_core.specs.Ends.{EndSays}
use Rattle.spnego_core.specs.Ends as plain_ends
use Rattle.spnego_core.specs.EndSteps.{StepSays, More, Done}
use Rattle.spnego_core.specs.Initiating.{own_list, sent_of, step_of, init_start, init_step}
use Rattle.spnego_core.specs.InitLaws.{own_of}
use Rattle.mech_objects.specs.declared.ask.MechAsk.{MechAsk}
use Rattle.mech_objects.specs.declared.ask.Stage.TheVariants.{Waiting}
use Rattle.mech_objects.specs.Meaning.{MechSays, armed}
use Rattle.mech_objects.specs.Standard.{blank_of, state_of, object_state}
use Rattle.init_ends.specs.declared.ends.Talk.{Talk}
use Rattle.init_ends.specs.declared.ends.Signed.{Signed as SignedEnd}
use Rattle.init_ends.specs.Objects.{is_own_list}
use Rattle.init_ends.specs.Ends.{SetupMeans, EndMeans, Opens, Talks}
use Rattle.init_ends.specs.Ends.{Signed, StepMeans, holds}
use Rattle.init_ends.specs.Initiating.{end_start, end_step}

-- ---- the objects of plain credentials

-- what the mechanisms of a plain setup are begun with
abbrev pub ask_of : PlainSetup → MechAsk
ask_of own = record { stamp = own.stamp; draws = own.draws; bindings = own.bindings }

-- the object of Kerberos or SCRAM that got this credential, and sent nothing
abbrev pub fresh_of : MechCred → MechSays
fresh_of cred = armed (blank_of (name_of cred)) cred

-- the same object once it began so, sent and took these tokens, and waits
abbrev pub waiting_of : MechCred → MechAsk → List (List ℕ) → List (List ℕ) → MechSays
waiting_of cred ask sent taken =
    record (fresh_of cred) { ask = Some ask; sent = sent; taken = taken; stage = Waiting }

-- the setup over the objects of a plain setup's credentials
abbrev pub objects_of : PlainSetup → SetupMeans
objects_of own =
    record { list = map fresh_of own.list; ask = ask_of own; negotiates = own.negotiates }

-- the talk over objects: the chosen mechanism is named by the identifier by which the acceptor
-- chose it
abbrev pub named_talk : TalkSays → List ℕ → Talk
named_talk talk oid = record { list = own_list talk.own; chosen = oid; asked = talk.asked }

-- ---- an end over objects, and a plain one

-- the first token was sent by the object of the own first credential, which is in the plain end's
-- state; the objects of the others are fresh
pub record OpensAs (end : EndMeans) (plain : OpeningSays) : Type 0 where
  pub first : MechCred
  pub rest : List MechCred
  pub token : List ℕ
  pub own_is : plain.own.list ≡ first ∷ rest
  pub state : state_of first (ask_of plain.own) [] ≡ Some plain.mech
  pub end_is : end ≡ Opens (record {
    list = own_list plain.own;
    ask = ask_of plain.own;
    mech = waiting_of first (ask_of plain.own) (token ∷ []) [];
    others = map fresh_of rest;
    negotiates = plain.own.negotiates;
  })

-- the chosen mechanism isn't done: its object is in the plain end's state
pub record TalksAs (end : EndMeans) (plain : TalkingSays) : Type 0 where
  pub cred : MechCred
  pub sent : List (List ℕ)
  pub taken : List (List ℕ)
  pub oid : List ℕ
  pub oid_is : mech_of oid ≡ Some plain.talk.chosen
  pub chosen : kind_of cred ≡ plain.talk.chosen
  pub state : state_of cred (ask_of plain.talk.own) taken ≡ Some plain.mech
  pub end_is : end ≡ Talks (record {
    talk = named_talk plain.talk oid;
    mech = waiting_of cred (ask_of plain.talk.own) sent taken;
  })

-- the own MIC was sent
pub record SignsAs (end : EndMeans) (plain : SignedSays) : Type 0 where
  pub oid : List ℕ
  pub oid_is : mech_of oid ≡ Some plain.talk.chosen
  pub end_is : end ≡ Signed (record {
    talk = named_talk plain.talk oid;
    outcome = plain.outcome;
    listed = plain.listed;
  })

-- an end over the objects of a plain end's credentials stands where that stands
abbrev pub StandsAs : EndMeans → EndSays → Type 0
StandsAs end (plain_ends.Opens opening) = OpensAs end opening
StandsAs end (plain_ends.Talks talking) = TalksAs end talking
StandsAs end (plain_ends.Signed signed) = SignsAs end signed

-- both begin with the same token, or are refused alike
abbrev pub StartsAs : Result (EndMeans × List ℕ) NegRefusal
    → Result (EndSays × List ℕ) NegRefusal → Type 0
StartsAs (Ok started) (Ok plain) = StandsAs started.0 plain.0 × (started.1 ≡ plain.1)
StartsAs (Ok started) (Err refusal) = ⊥
StartsAs (Err refusal) (Ok plain) = ⊥
StartsAs (Err refusal) (Err plain) = refusal ≡ plain

-- both go on with the same token, or both contexts stand with the same outcome
abbrev pub GoesAs : StepMeans → StepSays → Type 0
GoesAs (More end token) (More plain sent) = StandsAs end plain × (token ≡ sent)
GoesAs (More end token) (Done outcome) = ⊥
GoesAs (Done outcome) (More plain sent) = ⊥
GoesAs (Done outcome) (Done plain) = outcome ≡ plain

-- the same of steps that may be refused: they are refused alike
abbrev pub StepsAs : Result StepMeans NegRefusal → Result StepSays NegRefusal → Type 0
StepsAs (Ok step) (Ok plain) = GoesAs step plain
StepsAs (Ok step) (Err refusal) = ⊥
StepsAs (Err refusal) (Ok plain) = ⊥
StepsAs (Err refusal) (Err plain) = refusal ≡ plain

-- ---- the plain end as a function

-- that sent its first token, by its object's state
abbrev pub plain_opening : PlainSetup → Option InitMech → Option EndSays
plain_opening own None = None
plain_opening own (Some mech) = Some (plain_ends.Opens (record { own = own; mech = mech }))

-- what is known, by the chosen mechanism
abbrev pub plain_talk : PlainSetup → MechKind → Bool → TalkSays
plain_talk own kind asked = record { own = own; chosen = kind; asked = asked }

-- whose mechanism isn't done, by what was chosen and its object's state
abbrev pub plain_talking : PlainSetup → Bool → Option MechKind → Option InitMech → Option EndSays
plain_talking own asked None mech = None
plain_talking own asked (Some kind) None = None
plain_talking own asked (Some kind) (Some mech) =
    Some (plain_ends.Talks (record { talk = plain_talk own kind asked; mech = mech }))

-- that sent its MIC, by what was chosen
abbrev pub plain_signed : PlainSetup → SignedEnd → Option MechKind → Option EndSays
plain_signed own signed None = None
plain_signed own signed (Some kind) = Some (plain_ends.Signed (record {
  talk = plain_talk own kind signed.talk.asked;
  outcome = signed.outcome;
  listed = signed.listed;
}))

-- the plain end of an end over objects that was begun with this; none where its object has no
-- state, or no mechanism of these was chosen
abbrev pub plain_of : PlainSetup → EndMeans → Option EndSays
plain_of own (Opens opening) = plain_opening own (object_state opening.mech)
plain_of own (Talks talking) = plain_talking own talking.talk.asked (mech_of talking.talk.chosen)
    (object_state talking.mech)
plain_of own (Signed signed) = plain_signed own signed (mech_of signed.talk.chosen)

-- ---- the law

-- an initiator over the objects of Kerberos and SCRAM does what one over their credentials does
pub record PlainLaw : Type 0 where
  -- both setups are of one to three mechanisms with different identifiers, or neither is
  pub lists : (own : PlainSetup)
      → is_own_list (objects_of own).list ≡ plain_lists.is_own_list own.list
  pub starts : (own : PlainSetup) → StartsAs (end_start (objects_of own)) (sent_of (init_start own))
  pub steps : (end : EndMeans) (plain : EndSays) (token : List ℕ) → StandsAs end plain
      → StepsAs (end_step end token) (step_of (init_step plain token))
  -- the plain end is the function's
  pub shown : (end : EndMeans) (plain : EndSays) → StandsAs end plain
      → plain_of (own_of plain) end ≡ Some plain
  -- its objects are as far as a step needs them
  pub held : (end : EndMeans) (plain : EndSays) → StandsAs end plain → holds end ≡ true
