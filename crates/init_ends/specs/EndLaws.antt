-- What holds of an initiator over any objects, from its first token to its context.
use Rattle.std.specs.Prelude.{◌≡◌, ◌⊎◌, ℕ, true, List, [], ◌∷◌, Some, Ok}
use Rattle.gss_base.specs.declared.mech.MechKind.{MechKind}
use Rattle.krb_tokens.specs.declared.end.Side.TheVariants.{Initiator}
use Rattle.spnego_msgs.specs.declared.neg_resp.NegResp.{NegResp}
use Rattle.spnego_core.specs.declared.outcome.Outcome.{Outcome}
use Rattle.spnego_core.specs.EndSteps.{More, Done}
use Rattle.spnego_core.specs.ListMic.{is_list_mic}
use Rattle.spnego_core.specs.Tokens.{resp_read}
use Rattle.mech_objects.specs.Meaning.{MechSays}
use Rattle.init_ends.specs.declared.ends.Signed.{Signed as SignedEnd}
use Rattle.init_ends.specs.Objects.{oids_of, mech_for, is_first_named}
use Rattle.init_ends.specs.Ends.{SetupMeans, OpeningMeans, TalkingMeans, EndMeans, Opens, Talks}
use Rattle.init_ends.specs.Ends.{Signed, StepMeans}
use Rattle.init_ends.specs.Initiating.{end_start, end_step}

-- the identifier names an object of the own list, of this mechanism
pub record IsOwn (own : List MechSays) (oid : List ℕ) (kind : MechKind) : Type 0 where
  pub object : MechSays
  pub found : mech_for own oid ≡ Some object
  pub kind_is : object.kind ≡ kind

-- the reply has the acceptor's MIC over the own list, which verifies under the outcome's key
pub record HasMic (own : List MechSays) (outcome : Outcome) (reply : List ℕ) : Type 0 where
  pub resp : NegResp
  pub read : resp_read reply ≡ Ok resp
  pub mic : List ℕ
  pub there : resp.mic ≡ Some mic
  pub right : is_list_mic outcome Initiator (oids_of own) mic ≡ true

-- one of these replies has it
abbrev pub SeesMic : List MechSays → Outcome → List (List ℕ) → Type 0
SeesMic own outcome [] = ⊥
SeesMic own outcome (reply ∷ replies) = HasMic own outcome reply ⊎ SeesMic own outcome replies

-- the chosen mechanism is the own first choice, or a reply that was taken has the acceptor's MIC
-- over the own list: that arrived as it was sent (RFC 4178 section 5)
abbrev pub Covered : List MechSays → List (List ℕ) → List ℕ → Outcome → Type 0
Covered own replies chosen outcome =
    (is_first_named (oids_of own) chosen ≡ true) ⊎ SeesMic own outcome replies

-- an end that sent its first token: the first object's; the others stand as they stood
pub record GoodOpening (own : List MechSays) (opening : OpeningMeans) : Type 0 where
  pub first : MechSays
  pub own_is : own ≡ first ∷ opening.others
  pub list_is : opening.list ≡ oids_of own
  pub oid_is : opening.mech.oid ≡ first.oid
  pub kind_is : opening.mech.kind ≡ first.kind

-- an end whose mechanism isn't done: the chosen one runs
pub record GoodTalking (own : List MechSays) (talking : TalkingMeans) : Type 0 where
  pub list_is : talking.talk.list ≡ oids_of own
  pub chosen : IsOwn own talking.talk.chosen talking.mech.kind

-- an end that sent its MIC: its outcome is by the chosen mechanism, and the choice is covered
pub record GoodSigned (own : List MechSays) (replies : List (List ℕ)) (signed : SignedEnd) : Type 0
  where
    pub list_is : signed.talk.list ≡ oids_of own
    pub chosen : IsOwn own signed.talk.chosen signed.outcome.mech
    pub covered : Covered own replies signed.talk.chosen signed.outcome

-- an initiator's end that took these replies is good, by what was done last
abbrev pub GoodEnd : List MechSays → List (List ℕ) → EndMeans → Type 0
GoodEnd own replies (Opens opening) = GoodOpening own opening
GoodEnd own replies (Talks talking) = GoodTalking own talking
GoodEnd own replies (Signed signed) = GoodSigned own replies signed

-- after these replies a context stands by an object of the own list: the first one, or another one
-- where a reply has the acceptor's MIC over the list
pub record Stands (own : List MechSays) (replies : List (List ℕ)) (outcome : Outcome) : Type 0 where
  pub oid : List ℕ
  pub chosen : IsOwn own oid outcome.mech
  pub covered : Covered own replies oid outcome

-- after a step: the end that goes on is good, or the context stands so
abbrev pub GoodAfter : List MechSays → List (List ℕ) → StepMeans → Type 0
GoodAfter own replies (More end token) = GoodEnd own replies end
GoodAfter own replies (Done outcome) = Stands own replies outcome

-- the laws of each start, and of each step from a good end
pub record EndLaws : Type 0 where
  pub starts : (setup : SetupMeans) (started : EndMeans × List ℕ) → end_start setup ≡ Ok started
      → GoodEnd setup.list [] started.0
  pub steps : (own : List MechSays) (replies : List (List ℕ)) (end : EndMeans) (reply : List ℕ)
      (step : StepMeans) → GoodEnd own replies end → end_step end reply ≡ Ok step
      → GoodAfter own (reply ∷ replies) step
