-- What is kept of each initiator by itself: by where it is, over what was handed out.
use Rattle.std.proofs.Common.{◌≡◌, ◌≢◌, inl, inr, ℕ, refl, sym, ◌∙◌, subst, List, ◌++◌, slice_get, slice_set, Some, None}
use Rattle.std.proofs.lemmas.Bool.{cases_eq}
use Rattle.std.proofs.lemmas.Option.{none-some, same_Some}
use Rattle.gss_base.specs.declared.mech.MechKind.TheVariants as kinds
use Rattle.scram_mech.specs.MechMaking.{MechMaking, AmongMakings}
use Rattle.spnego_core.specs.declared.outcome.Outcome.{Outcome}
use Rattle.spnego_core.specs.Ends.{PlainSetup, EndSays}
use Rattle.spnego_core.specs.InitLaws.{own_of, chosen_of, answers_next}
use Rattle.spnego_core.proofs.Makings.{among_split}
use Rattle.gss_client.specs.Session.{SessionState}
use Rattle.world_laws.specs.Stages.{StageSays}
use Rattle.world_laws.specs.Stages as stages
use Rattle.world_laws.specs.State.{World}
use Rattle.world_laws.specs.Premises.{session_in}
use Rattle.world_laws.proofs.Invariants.{Known, MadeRequest, MadeProof, MayAsk, Once}
use Rattle.world_laws.proofs.Slices.{set-cases}
use Rattle.world_laws.proofs.OnceMakers.{NoneOf}

pub record OnceAsking (own : PlainSetup) (makes : List MechMaking) (end : EndSays) : Type 0 where
  pub proved : (making : MechMaking) → AmongMakings makes making → MadeProof own making → (answers_next end ≡ None) × (chosen_of end ≡ Some kinds.Scram)
  pub asked : (making : MechMaking) → AmongMakings makes making → MadeRequest own making → MayAsk own (chosen_of end)

pub record OnceStanding (own : PlainSetup) (makes : List MechMaking) (outcome : Outcome) : Type 0 where
  pub proved : (making : MechMaking) → AmongMakings makes making → MadeProof own making → outcome.mech ≡ kinds.Scram
  pub asked : (making : MechMaking) → AmongMakings makes making → MadeRequest own making → MayAsk own (Some outcome.mech)

-- by where it is
abbrev pub OnceAt : PlainSetup → List MechMaking → StageSays → Type 0
OnceAt own makes (stages.Ready other) = NoneOf own makes
OnceAt own makes (stages.Asks xid end) = OnceAsking own makes end
OnceAt own makes (stages.Stands s) = OnceStanding own makes s.outcome
OnceAt own makes (stages.Left s) = OnceStanding own makes s.outcome
OnceAt own makes stages.Over = Unit {0}

-- one proof
abbrev pub OneOf : PlainSetup → List MechMaking → Type 0
OneOf own makes = (making other : MechMaking) → AmongMakings makes making → AmongMakings makes other → MadeProof own making → MadeProof own other → making ≡ other

pub record OnceAll (facts : List PlainSetup) (places : List StageSays) (makes : List MechMaking) : Type 0 where
  pub ones : (i : ℕ) (own : PlainSetup) → slice_get facts i ≡ Some own → OneOf own makes
  pub at : (i : ℕ) (own : PlainSetup) (stage : StageSays) → slice_get facts i ≡ Some own → slice_get places i ≡ Some stage → OnceAt own makes stage

-- ---- both forms

same-own : (facts : List PlainSetup) (i : ℕ) (own other : PlainSetup) → slice_get facts i ≡ Some own → slice_get facts i ≡ Some other → own ≡ other
same-own facts i own other e f = same_Some own other (sym e ∙ f)

all-at : (w : World) (i : ℕ) (own : PlainSetup) (stage : StageSays) → Known w → Once w → slice_get w.facts i ≡ Some own → slice_get w.stages i ≡ Some stage → OnceAt own w.makings stage
all-at w i own (stages.Ready other) k o there stands =
    let same : own ≡ other = same-own w.facts i own other there (k.ready i other stands) in
    subst (λ (x : PlainSetup). NoneOf x w.makings) (sym same) (record { proofs = λ making a p. o.unproved i other making stands a p; requests = λ making a r. o.unasked i other making stands a r })
all-at w i own (stages.Asks xid end) k o there stands =
    let same : own ≡ own_of end = same-own w.facts i own (own_of end) there (k.asks i xid end stands).0 in
    subst (λ (x : PlainSetup). OnceAsking x w.makings end) (sym same) (record { proved = λ making a p. o.proved i xid end making stands a p; asked = λ making a r. o.asked i xid end making stands a r })
all-at w i own (stages.Stands s) k o there stands = record {
  proved = λ making a p. o.done_proved i own s.outcome making (record { there = there; stage = stages.Stands s; stands = stands; session = s; in_session = refl; outcome_is = refl }) a p;
  asked = λ making a r. o.done_asked i own s.outcome making (record { there = there; stage = stages.Stands s; stands = stands; session = s; in_session = refl; outcome_is = refl }) a r;
}
all-at w i own (stages.Left s) k o there stands = record {
  proved = λ making a p. o.done_proved i own s.outcome making (record { there = there; stage = stages.Left s; stands = stands; session = s; in_session = refl; outcome_is = refl }) a p;
  asked = λ making a r. o.done_asked i own s.outcome making (record { there = there; stage = stages.Left s; stands = stands; session = s; in_session = refl; outcome_is = refl }) a r;
}
all-at w i own stages.Over k o there stands = tt

pub to-all : (w : World) → Known w → Once w → OnceAll w.facts w.stages w.makings
to-all w k o = record { ones = λ i own there making other a b p q. o.proofs i own making other there a b p q; at = λ i own stage there stands. all-at w i own stage k o there stands }

standing : (own : PlainSetup) (makes : List MechMaking) (stage : StageSays) (s : SessionState) → session_in stage ≡ Some s → OnceAt own makes stage → OnceStanding own makes s.outcome
standing own makes (stages.Ready other) s e h = absurd (none-some s e)
standing own makes (stages.Asks xid end) s e h = absurd (none-some s e)
standing own makes (stages.Stands before) s e h = subst (λ (x : SessionState). OnceStanding own makes x.outcome) (same_Some before s e) h
standing own makes (stages.Left before) s e h = subst (λ (x : SessionState). OnceStanding own makes x.outcome) (same_Some before s e) h
standing own makes stages.Over s e h = absurd (none-some s e)

pub from-all : (w : World) → Known w → OnceAll w.facts w.stages w.makings → Once w
from-all w k h = record {
  proofs = λ i own making other there a b p q. h.ones i own there making other a b p q;
  unproved = λ i own making stands a p. (h.at i own (stages.Ready own) (k.ready i own stands) stands).proofs making a p;
  unasked = λ i own making stands a r. (h.at i own (stages.Ready own) (k.ready i own stands) stands).requests making a r;
  proved = λ i xid end making stands a p. (h.at i (own_of end) (stages.Asks xid end) (k.asks i xid end stands).0 stands).proved making a p;
  done_proved = λ i own outcome making c a p. subst (λ (x : Outcome). x.mech ≡ kinds.Scram) c.outcome_is ((standing own w.makings c.stage c.session c.in_session (h.at i own c.stage c.there c.stands)).proved making a p);
  asked = λ i xid end making stands a r. (h.at i (own_of end) (stages.Asks xid end) (k.asks i xid end stands).0 stands).asked making a r;
  done_asked = λ i own outcome making c a r. subst (λ (x : Outcome). MayAsk own (Some x.mech)) c.outcome_is ((standing own w.makings c.stage c.session c.in_session (h.at i own c.stage c.there c.stands)).asked making a r);
}

-- ---- what is handed out that isn't this initiator's changes nothing

split : (own : PlainSetup) (makes more : List MechMaking) (making : MechMaking) → AmongMakings (makes ++ more) making → (AmongMakings more making → ⊥) → AmongMakings makes making
split own makes more making a no_more = elim (among_split makes more making a) [ inl b ↦ b | inr c ↦ absurd (no_more c) ]

none-more : (own : PlainSetup) (makes more : List MechMaking) → NoneOf own more → NoneOf own makes → NoneOf own (makes ++ more)
none-more own makes more n h = record {
  proofs = λ making a p. h.proofs making (split own makes more making a (λ b. n.proofs making b p)) p;
  requests = λ making a r. h.requests making (split own makes more making a (λ b. n.requests making b r)) r;
}

asking-more : (own : PlainSetup) (makes more : List MechMaking) (end : EndSays) → NoneOf own more → OnceAsking own makes end → OnceAsking own (makes ++ more) end
asking-more own makes more end n h = record {
  proved = λ making a p. h.proved making (split own makes more making a (λ b. n.proofs making b p)) p;
  asked = λ making a r. h.asked making (split own makes more making a (λ b. n.requests making b r)) r;
}

pub standing-more : (own : PlainSetup) (makes more : List MechMaking) (outcome : Outcome) → NoneOf own more → OnceStanding own makes outcome → OnceStanding own (makes ++ more) outcome
standing-more own makes more outcome n h = record {
  proved = λ making a p. h.proved making (split own makes more making a (λ b. n.proofs making b p)) p;
  asked = λ making a r. h.asked making (split own makes more making a (λ b. n.requests making b r)) r;
}

at-more : (own : PlainSetup) (makes more : List MechMaking) (stage : StageSays) → NoneOf own more → OnceAt own makes stage → OnceAt own (makes ++ more) stage
at-more own makes more (stages.Ready other) n h = none-more own makes more n h
at-more own makes more (stages.Asks xid end) n h = asking-more own makes more end n h
at-more own makes more (stages.Stands s) n h = standing-more own makes more s.outcome n h
at-more own makes more (stages.Left s) n h = standing-more own makes more s.outcome n h
at-more own makes more stages.Over n h = tt

pub ones-more : (own : PlainSetup) (makes more : List MechMaking) → NoneOf own more → OneOf own makes → OneOf own (makes ++ more)
ones-more own makes more n h making other a b p q = h making other (split own makes more making a (λ c. n.proofs making c p)) (split own makes more other b (λ c. n.proofs other c q)) p q

pub all-more : (facts : List PlainSetup) (places : List StageSays) (makes more : List MechMaking) → ((i : ℕ) (own : PlainSetup) → slice_get facts i ≡ Some own → NoneOf own more) → OnceAll facts places makes → OnceAll facts places (makes ++ more)
all-more facts places makes more n h = record {
  ones = λ i own there. ones-more own makes more (n i own there) (h.ones i own there);
  at = λ i own stage there stands. at-more own makes more stage (n i own there) (h.at i own stage there stands);
}

-- an initiator is elsewhere
pub all-set : (facts : List PlainSetup) (places : List StageSays) (makes more : List MechMaking) (i : ℕ) (stage : StageSays) (own : PlainSetup) → slice_get facts i ≡ Some own → OneOf own (makes ++ more) → OnceAt own (makes ++ more) stage
    → ((j : ℕ) (other : PlainSetup) → i ≢ j → slice_get facts j ≡ Some other → NoneOf other more) → OnceAll facts places makes → OnceAll facts (slice_set places i stage) (makes ++ more)
all-set facts places makes more i stage own here ones at n h = record {
  ones = λ j other there. elim (cases_eq i j) [
    | inl e ↦ subst (λ (x : PlainSetup). OneOf x (makes ++ more)) (same-own facts j own other (subst (λ (k : ℕ). slice_get facts k ≡ Some own) e here) there) ones
    | inr ne ↦ ones-more other makes more (n j other ne there) (h.ones j other there)
  ];
  at = λ j other next there stands. elim (set-cases places i j stage next stands) [
    | inl e ↦
        subst (λ (x : PlainSetup). OnceAt x (makes ++ more) next) (same-own facts j own other (subst (λ (k : ℕ). slice_get facts k ≡ Some own) e.0 here) there)
        (subst (OnceAt own (makes ++ more)) (sym e.1) at)
    | inr ne ↦ at-more other makes more next (n j other ne.0 there) (h.at j other next there ne.1)
  ];
}
