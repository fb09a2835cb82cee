-- After a call too the run meets the premises.
use Rattle.std.proofs.Common.{◌≡◌, inl, inr, ℕ, zero, suc, refl, sym, ap, ◌∙◌, subst, List, [], ◌∷◌, ◌++◌, map, slice_get, Some}
use Rattle.std.proofs.lemmas.Option.{none-some, same_Some}
use Rattle.krb_derive.specs.declared.key.Key.{Key}
use Rattle.krb_derive.specs.Making.{Making}
use Rattle.krb_files.specs.Granted.{Granted}
use Rattle.krb_files.specs.Keytab.{found}
use Rattle.scram_mech.specs.MechMaking.{OfType, OfPassword, MechMaking, AmongMakings, typed}
use Rattle.spnego_core.specs.declared.outcome.Outcome.{Outcome}
use Rattle.spnego_core.specs.declared.setup.AcceptSetup.{AcceptSetup}
use Rattle.spnego_core.specs.Ends.{PlainSetup}
use Rattle.spnego_core.proofs.Makings.{among_split}
use Rattle.gss_client.specs.Session.{SessionState, session_after}
use Rattle.world_laws.specs.declared.event.Happened.{Happened}
use Rattle.world_laws.specs.declared.event.WorldEvent.{WorldEvent}
use Rattle.world_laws.specs.Stages.{StageSays}
use Rattle.world_laws.specs.Stages as stages
use Rattle.world_laws.specs.State.{Context, World}
use Rattle.world_laws.specs.Events.{Happens, Next, Run}
use Rattle.world_laws.specs.Premises.{Marking, Listed, BuiltKey, Unforged, NoForgery, HasTicket, HasAccount, AtInitiator, session_in, Completed, Fresh}
use Rattle.world_runs.specs.Showing.{Shown, Shows, Follows, Steps}

-- ---- runs

-- a run in which nothing was forged
pub record Walked (marking : Marking) (start : World) (events : List WorldEvent) (now : World) : Type 0 where
  pub run : Run start events now
  pub unforged : NoForgery marking start events now run

-- one event more
pub walk-on : (marking : Marking) (start : World) (events : List WorldEvent) (now : World) (event : WorldEvent) (next : Next now event) → Walked marking start events now → Unforged marking now next.deed
    → Walked marking start (events ++ event ∷ []) next.world
walk-on marking start [] now event next walked unforged =
    subst (λ (s : World). Walked marking s (event ∷ []) next.world) walked.run (record { run = (next, refl); unforged = (unforged, tt) })
walk-on marking start (first ∷ later) now event next walked unforged =
    let r = walk-on marking walked.run.0.world later now event next (record { run = walked.run.1; unforged = walked.unforged.1 }) unforged in
    record { run = (walked.run.0, r.run); unforged = (walked.unforged.0, r.unforged) }

-- a run so far that led to this world, which shows this
pub record Past (marking : Marking) (start : World) (shown : Shown) (now : World) : Type 0 where
  pub walked : Walked marking start shown.events now
  pub shows : Shows now shown

-- one step more, which led to this world
pub steps-on : (marking : Marking) (start : World) (event : WorldEvent) (happened : Happened) (before after : World) (old shown : Shown) → Past marking start old before → Steps event (Some happened) old shown → (f : Follows event (Some happened) before shown) → f.new ≡ after
    → Unforged marking before f.deed → Past marking start shown after
steps-on marking start event happened before after old shown past steps f new_is unforged = record {
  walked = subst (λ (es : List WorldEvent). Walked marking start es after) (sym steps.events)
      (walk-on marking start old.events before event (record { deed = f.deed; world = after; happens = subst (λ (w : World). Happens before event f.deed w) new_is f.happens }) past.walked unforged);
  shows = subst (λ (w : World). Shows w shown) new_is f.shows;
}

-- ---- what is fresh stays so, where sessions only go on and no proof is handed out

-- what is the same in the new world
pub record GoesOn (old new : World) : Type 0 where
  pub facts : new.facts ≡ old.facts
  pub fixed : new.fixed ≡ old.fixed
  pub setup : new.book.setup ≡ old.book.setup
  pub completed : (i : ℕ) (own : PlainSetup) (outcome : Outcome) → Completed new i own outcome → Completed old i own outcome
  pub handed_out : (making : MechMaking) (octets : List ℕ) → making.key ≡ OfPassword octets → AmongMakings new.makings making → AmongMakings old.makings making

typed-key : (ms : List Making) (making : MechMaking) → AmongMakings (map typed ms) making → (key : Key) × (making.key ≡ OfType key)
typed-key [] making a = absurd a
typed-key (m ∷ ms) making (inl e) = (m.key, ap (λ (x : MechMaking). x.key) e)
typed-key (m ∷ ms) making (inr a) = typed-key ms making a

not-both : {A : Type 0} (key : Key) (octets : List ℕ) → OfType key ≡ OfPassword octets → A
not-both key octets e = absurd cc

-- what a call hands out, and its reply, is under no password
pub was-among : (front : List MechMaking) (calls replies : List Making) (making : MechMaking) (octets : List ℕ) → making.key ≡ OfPassword octets → AmongMakings (((front ++ map typed calls) ++ []) ++ map typed replies) making → AmongMakings front making
was-among front calls replies making octets password a = elim (among_split ((front ++ map typed calls) ++ []) (map typed replies) making a) [
  | inl before ↦ elim (among_split (front ++ map typed calls) [] making before) [
    | inl earlier ↦ elim (among_split front (map typed calls) making earlier) [
      | inl there ↦ there
      | inr made ↦ (let k = typed-key calls making made in not-both k.0 octets (sym k.1 ∙ password))
    ]
    | inr none ↦ absurd none
  ]
  | inr made ↦ (let k = typed-key replies making made in not-both k.0 octets (sym k.1 ∙ password))
]

ticket-was : (old new : World) (i : ℕ) (own : PlainSetup) (c : Granted) → GoesOn old new → HasTicket new i own c → HasTicket old i own c
ticket-was old new i own c g has = record { there = ap (λ (fs : List PlainSetup). slice_get fs i) (sym g.facts) ∙ has.there; is_own = has.is_own }

account-was : (old new : World) (i : ℕ) (own : PlainSetup) (user password : List ℕ) → GoesOn old new → HasAccount new i own user password → HasAccount old i own user password
account-was old new i own user password g has = record { there = ap (λ (fs : List PlainSetup). slice_get fs i) (sym g.facts) ∙ has.there; is_own = has.is_own }

at-was : (old new : World) (key : Key) (auth : List ℕ) → GoesOn old new → AtInitiator new key auth → AtInitiator old key auth
at-was old new key auth g at = record {
  i = at.i;
  own = at.own;
  outcome = at.outcome;
  completed = g.completed at.i at.own at.outcome at.completed;
  by_proof = at.by_proof;
  proved = record {
    user = at.proved.user;
    password = at.proved.password;
    is_own = at.proved.is_own;
    parts = at.proved.parts;
    reads = at.proved.reads;
    name = at.proved.name;
    nonce = at.proved.nonce;
    binding = at.proved.binding;
    handed_out = g.handed_out _ _ refl at.proved.handed_out;
  };
  key_is = at.key_is;
}

there-was : (old new : World) (i : ℕ) (x : Context) → GoesOn old new → slice_get new.fixed i ≡ Some x → slice_get old.fixed i ≡ Some x
there-was old new i x g e = ap (λ (xs : List Context). slice_get xs i) (sym g.fixed) ∙ e

listed-was : (old new : World) (x : Context) → GoesOn old new → Listed new.fixed x → Listed old.fixed x
listed-was old new x g l = record { place = l.place; there = there-was old new l.place x g l.there }

pub fresh-on : (marking : Marking) (old new : World) → GoesOn old new → Fresh marking old → Fresh marking new
fresh-on marking old new g f = record {
  credential = λ i own c t has. f.credential i own c t (ticket-was old new i own c g has);
  server = λ t number etype listed is. f.server t number etype listed (ap (λ (s : AcceptSetup). found s.keytab s.own number etype) (sym g.setup) ∙ is) ∙ ap (λ (s : AcceptSetup). s.own) (sym g.setup);
  stamps = λ i j own other c d a b. f.stamps i j own other c d (ticket-was old new i own c g a) (ticket-was old new j other d g b);
  subkeys = λ i j x y a b there next. f.subkeys i j x y a b (there-was old new i x g there) (there-was old new j y g next);
  nonces = λ i j own other a p b q x y. f.nonces i j own other a p b q (account-was old new i own a p g x) (account-was old new j other b q g y);
  own_nonces = λ i j x y end next auth last there other. f.own_nonces i j x y end next auth last (there-was old new i x g there) (there-was old new j y g other);
  lines = λ account line marked listed. f.lines account line marked (subst (λ (s : AcceptSetup). Listed s.verifiers line) g.setup listed);
  proof_keys = λ x end auth last listed guarded on at. f.proof_keys x end auth last (listed-was old new x g listed) guarded on (at-was old new x.fixed.outcome.key last g at);
  proof_subkeys = λ x y request end auth listed next. f.proof_subkeys x y request end auth (listed-was old new x g listed) (listed-was old new y g next);
  own_proofs = λ x request last listed guarded on at. f.own_proofs x request last (listed-was old new x g listed) guarded on (at-was old new x.fixed.outcome.key last g at);
  untold = λ i own c outcome has done mech built. f.untold i own c outcome (ticket-was old new i own c g has) (g.completed i own outcome done) mech (subst (λ (xs : List Context). BuiltKey marking xs outcome.key) g.fixed built);
}

-- ---- the one session goes on

one-place : {A : Type 0} (x y : A) (i : ℕ) → slice_get (x ∷ []) i ≡ Some y → (i ≡ 0) × (y ≡ x)
one-place x y zero e = (refl, sym (same_Some x y e))
one-place x y (suc i) e = absurd (none-some y e)

pub completed-was : (old new : World) (s : SessionState) → old.stages ≡ stages.Stands s ∷ [] → new.stages ≡ stages.Stands (session_after s) ∷ [] → new.facts ≡ old.facts
    → (i : ℕ) (own : PlainSetup) (outcome : Outcome) → Completed new i own outcome → Completed old i own outcome
completed-was old new s was is facts i own outcome done =
    let one = one-place (stages.Stands (session_after s)) done.stage i (subst (λ (xs : List StageSays). slice_get xs i ≡ Some done.stage) is done.stands) in
    let same : session_after s ≡ done.session = same_Some (session_after s) done.session (ap session_in (sym one.1) ∙ done.in_session) in
    record {
      there = ap (λ (fs : List PlainSetup). slice_get fs i) (sym facts) ∙ done.there;
      stage = stages.Stands s;
      stands = ap (λ (xs : List StageSays). slice_get xs i) was ∙ ap (λ (k : ℕ). slice_get (stages.Stands s ∷ []) k) one.0;
      session = s;
      in_session = refl;
      outcome_is = ap (λ (x : SessionState). x.outcome) same ∙ done.outcome_is;
    }
