-- The calls that were made: what was handed out for each, and its number, which no other call of the initiator has.
use Rattle.std.proofs.Common.{◌≡◌, ◌≢◌, ◌⊎◌, inl, inr, ℕ, ◌<◌, ◌^◌, ◌≤◌, ◌==◌, Bool, true, false, nat_le, refl, sym, ◌∙◌, ap, subst, arith, List, [], map, slice_get, slice_set, Option, Some, None}
use Rattle.std.proofs.lemmas.Bool.{cases_eq}
use Rattle.std.proofs.lemmas.Bool.Decides.{nat_tests}
use Rattle.scram_mech.specs.Laws.{Laws as ScramLaws}
use Rattle.scram_mech.specs.MechMaking.{MechMaking, AmongMakings, typed}
use Rattle.spnego_core.specs.Ends.{PlainSetup}
use Rattle.spnego_core.specs.InitMech.{is_own_list}
use Rattle.gss_client.specs.Session.{SessionState, session_after}
use Rattle.world_laws.specs.declared.event.WorldEvent.{WorldEvent}
use Rattle.world_laws.specs.declared.event.WorldEvent.TheVariants.{CallBy}
use Rattle.told_apart.specs.Apart.{NoHeader, IsApart}
use Rattle.world_laws.specs.Stages.{StageSays}
use Rattle.world_laws.specs.Stages as stages
use Rattle.world_laws.specs.Deeds.{Deed}
use Rattle.world_laws.specs.State.{Context, World}
use Rattle.world_laws.specs.Initiators.{Moved, header_making, calls, call_makings, leaves}
use Rattle.world_laws.specs.Events.{Moves, CallsWith, CallsBy, HappensBy, IsProper, Begins}
use Rattle.world_laws.specs.Origin.{IsCall}
use Rattle.world_laws.specs.Premises.{Completed}
use Rattle.world_laws.proofs.Invariants.{MadeRequest, MadeProof, MadeListMic, ContextMade}
use Rattle.world_laws.proofs.Slices.{set-same, set-other}
use Rattle.world_laws.proofs.Happening.{Move, Starting, Taking, Calling, Leaving, Came, Idling, Moving, Laning}
use Rattle.world_laws.proofs.Makers.{tag, tag-request, tag-proof, tag-list_mic, tag-answer, tag-signature, tag-accept_mic, tag-result}

-- ---- what is handed out for no call: of an initiator's MICs that over its own list alone, and nothing sealed

pub record OwnListMic (m : MechMaking) : Type 0 where
  pub own : PlainSetup
  pub sized : is_own_list own.list ≡ true
  pub made : MadeListMic own m

pub record Uncalled (m : MechMaking) : Type 0 where
  pub signed : tag m ≡ 100 → OwnListMic m
  pub sealed : tag m ≡ 97 → ⊥

uncalled-tag : (m : MechMaking) (n : ℕ) → tag m ≡ n → (n ≡ 100 → ⊥) → (n ≡ 97 → ⊥) → Uncalled m
uncalled-tag m n t a b = record { signed = λ e. absurd (a (sym t ∙ e)); sealed = λ e. b (sym t ∙ e) }

pub uncalled-request : (own : PlainSetup) (m : MechMaking) → MadeRequest own m → Uncalled m
uncalled-request own m made = uncalled-tag m 45 (tag-request own m made) (λ e. absurd (omega arith)) (λ e. absurd (omega arith))

pub uncalled-proof : (scram : ScramLaws) (own : PlainSetup) (m : MechMaking) → MadeProof own m → Uncalled m
uncalled-proof scram own m made = uncalled-tag m 3 (tag-proof scram own m made) (λ e. absurd (omega arith)) (λ e. absurd (omega arith))

pub uncalled-list : (own : PlainSetup) (m : MechMaking) → is_own_list own.list ≡ true → MadeListMic own m → Uncalled m
uncalled-list own m sized made =
    record { signed = λ e. record { own = own; sized = sized; made = made }; sealed = λ e. absurd (let t = tag-list_mic own m made in omega (arith, t, e)) }

pub uncalled-context : (scram : ScramLaws) (x : Context) (m : MechMaking) → ContextMade x m → Uncalled m
uncalled-context scram x m (inl made) = uncalled-tag m 49 (tag-answer x m made) (λ e. absurd (omega arith)) (λ e. absurd (omega arith))
uncalled-context scram x m (inr (inl made)) = uncalled-tag m 2 (tag-signature scram x m made) (λ e. absurd (omega arith)) (λ e. absurd (omega arith))
uncalled-context scram x m (inr (inr (inl made))) = uncalled-tag m 92 (tag-accept_mic x m made) (λ e. absurd (omega arith)) (λ e. absurd (omega arith))
uncalled-context scram x m (inr (inr (inr made))) = elim (tag-result x m made) [
  | inl t ↦ uncalled-tag m 92 t (λ e. absurd (omega arith)) (λ e. absurd (omega arith))
  | inr t ↦ uncalled-tag m 89 t (λ e. absurd (omega arith)) (λ e. absurd (omega arith))
]

-- ---- the calls so far

abbrev pub Called : Type 1
Called = (i number procedure : ℕ) → List ℕ → Type 0

-- the initiator's later calls have greater numbers
abbrev pub IsPast : Option StageSays → ℕ → Type 0
IsPast None number = ⊥
IsPast (Some (stages.Ready own)) number = ⊥
IsPast (Some (stages.Asks xid end)) number = ⊥
IsPast (Some (stages.Stands s)) number = number < s.number
IsPast (Some (stages.Left s)) number = Unit {0}
IsPast (Some stages.Over) number = ⊥

pub record CalledMaking (called : Called) (w : World) (m : MechMaking) : Type 0 where
  pub i : ℕ
  pub own : PlainSetup
  pub session : SessionState
  pub procedure : ℕ
  pub args : List ℕ
  pub was : called i session.number procedure args
  pub completed : Completed w i own session.outcome
  pub made : AmongMakings (map typed (call_makings session procedure args)) m
  -- after the last call the header of the destruction alone
  pub spent : nat_le session.number 0x7fffffff ≡ false → m ≡ typed (header_making session 3 1 0)

pub record Fitting (number procedure : ℕ) (args : List ℕ) : Type 0 where
  pub low : number ≤ 0x80000000
  pub served : procedure < 2 ^ 32
  pub apart : NoHeader args
  pub null : procedure ≡ 0 → args ≡ []

pub record Calls (called : Called) (w : World) : Type 0 where
  pub made : (m : MechMaking) → AmongMakings w.makings m → CalledMaking called w m ⊎ Uncalled m
  pub past : (i number procedure : ℕ) (args : List ℕ) → called i number procedure args → IsPast (slice_get w.stages i) number
  pub fits : (i number procedure : ℕ) (args : List ℕ) → called i number procedure args → Fitting number procedure args
  -- one call has a number
  pub same : (i number p q : ℕ) (a b : List ℕ) → called i number p a → called i number q b → (p ≡ q) × (a ≡ b)

-- this event's call with those before
abbrev pub and_now : Called → World → WorldEvent → Deed → Called
and_now called old event deed = λ i number procedure args. called i number procedure args ⊎ IsCall old event deed i number procedure args

pub calls-start : (w : World) → Begins w → Calls (λ i number procedure args. ⊥) w
calls-start w b = record {
  made = λ m a. absurd (subst (λ (ms : List MechMaking). AmongMakings ms m) b.unmade a);
  past = λ i number procedure args c. absurd c;
  fits = λ i number procedure args c. absurd c;
  same = λ i number p q a b c d. absurd c;
}

-- ---- numbers

pub now-fits : (old : World) (event : WorldEvent) (deed : Deed) (i number procedure : ℕ) (args : List ℕ) → IsApart old.serves.program → IsProper old.serves event → IsCall old event deed i number procedure args → Fitting number procedure args
now-fits old event deed i number procedure args apart proper c =
    let p : IsProper old.serves (CallBy i procedure args) = subst (IsProper old.serves) c.event_is proper in
    let left = c.left in
    let low : number ≤ 0x80000000 = grind (arith, nat_tests) in
    record {
      low = low;
      served = p.0;
      apart = apart.headers procedure args p.1;
      null = λ z. apart.null args (subst (λ (q : ℕ). old.serves.program.takes q args ≡ true) z p.1);
    }

same-event : (i j p q : ℕ) (a b : List ℕ) → CallBy i p a ≡ CallBy j q b → (p ≡ q) × (a ≡ b)
same-event i j p q a b e = (cc, cc)

-- a call's number is not one of those before
not-past : (old : World) (event : WorldEvent) (deed : Deed) (i number procedure : ℕ) (args : List ℕ) → IsPast (slice_get old.stages i) number → IsCall old event deed i number procedure args → ⊥
not-past old event deed i number procedure args past c =
    let less : number < c.session.number = subst (λ (stage : Option StageSays). IsPast stage number) c.stands past in
    let is = c.number_is in absurd (omega (arith, less, is))

pub now-same : (called : Called) (old : World) (event : WorldEvent) (deed : Deed) → Calls called old → (i number p q : ℕ) (a b : List ℕ) → and_now called old event deed i number p a → and_now called old event deed i number q b → (p ≡ q) × (a ≡ b)
now-same called old event deed c i number p q a b (inl x) (inl y) = c.same i number p q a b x y
now-same called old event deed c i number p q a b (inl x) (inr y) = absurd (not-past old event deed i number q b (c.past i number p a x) y)
now-same called old event deed c i number p q a b (inr x) (inl y) = absurd (not-past old event deed i number p a (c.past i number q b y) x)
now-same called old event deed c i number p q a b (inr x) (inr y) = same-event i i p q a b (sym x.event_is ∙ y.event_is)

-- ---- stages

past-set : (places : List StageSays) (i : ℕ) (before next : StageSays) → slice_get places i ≡ Some before → ((number : ℕ) → IsPast (Some before) number → IsPast (Some next) number)
    → (j number : ℕ) → IsPast (slice_get places j) number → IsPast (slice_get (slice_set places i next) j) number
past-set places i before next there on j number past = elim (cases_eq i j) [
  | inl e ↦ subst (λ (k : ℕ). IsPast (slice_get (slice_set places i next) k) number) e
      (subst (λ (stage : Option StageSays). IsPast stage number) (sym (set-same places i next before there))
      (on number (subst (λ (stage : Option StageSays). IsPast stage number) there (subst (λ (k : ℕ). IsPast (slice_get places k) number) (sym e) past))))
  | inr ne ↦ subst (λ (stage : Option StageSays). IsPast stage number) (sym (set-other places i j next ne)) past
]

move-past : (old : World) (i : ℕ) (moved : Moved) (deed : Deed) (new : World) → Move old i moved → Moves old i moved deed new → (j number : ℕ) → IsPast (slice_get old.stages j) number → IsPast (slice_get new.stages j) number
move-past old i moved deed new (Starting own there is) (inl m) j number past = subst (λ (w : World). IsPast (slice_get w.stages j) number) (sym m.1) (past-set old.stages i (stages.Ready own) moved.stage there (λ n p. absurd p) j number past)
move-past old i moved deed new (Starting own there is) (inr m) j number past = subst (λ (w : World). IsPast (slice_get w.stages j) number) (sym m.1) (past-set old.stages i (stages.Ready own) moved.lost there (λ n p. absurd p) j number past)
move-past old i moved deed new (Taking first xid end octets there is) (inl m) j number past = subst (λ (w : World). IsPast (slice_get w.stages j) number) (sym m.1) (past-set old.stages i (stages.Asks xid end) moved.stage there (λ n p. absurd p) j number past)
move-past old i moved deed new (Taking first xid end octets there is) (inr m) j number past = subst (λ (w : World). IsPast (slice_get w.stages j) number) (sym m.1) (past-set old.stages i (stages.Asks xid end) moved.lost there (λ n p. absurd p) j number past)
move-past old i moved deed new (Calling s procedure args there left served proper is) (inl m) j number past = subst (λ (w : World). IsPast (slice_get w.stages j) number) (sym m.1)
    (past-set old.stages i (stages.Stands s) moved.stage there (λ n p. subst (λ (v : Moved). IsPast (Some v.stage) n) (sym is) (omega (arith, p))) j number past)
move-past old i moved deed new (Calling s procedure args there left served proper is) (inr m) j number past = subst (λ (w : World). IsPast (slice_get w.stages j) number) (sym m.1)
    (past-set old.stages i (stages.Stands s) moved.lost there (λ n p. subst (λ (v : Moved). IsPast (Some v.lost) n) (sym is) tt) j number past)
move-past old i moved deed new (Leaving s procedure args there left last served proper is) (inl m) j number past = subst (λ (w : World). IsPast (slice_get w.stages j) number) (sym m.1)
    (past-set old.stages i (stages.Stands s) moved.stage there (λ n p. subst (λ (v : Moved). IsPast (Some v.stage) n) (sym is) tt) j number past)
move-past old i moved deed new (Leaving s procedure args there left last served proper is) (inr m) j number past = subst (λ (w : World). IsPast (slice_get w.stages j) number) (sym m.1)
    (past-set old.stages i (stages.Stands s) moved.lost there (λ n p. subst (λ (v : Moved). IsPast (Some v.lost) n) (sym is) tt) j number past)

pub came-past : (old : World) (deed : Deed) (new : World) → Came old deed new → (j number : ℕ) → IsPast (slice_get old.stages j) number → IsPast (slice_get new.stages j) number
came-past old deed new (Idling i) j number past = subst (λ (w : World). IsPast (slice_get w.stages j) number) (sym i.1) past
came-past old deed new (Moving i moved move m) j number past = move-past old i moved deed new move m j number past
came-past old deed new (Laning lane hand octets now draws there (inl a)) j number past = subst (λ (w : World). IsPast (slice_get w.stages j) number) (sym a.new_is) past
came-past old deed new (Laning lane hand octets now draws there (inr a)) j number past = subst (λ (w : World). IsPast (slice_get w.stages j) number) (sym a.new_is) past

-- a call that was answered leaves a greater number
answered-past : (old : World) (i : ℕ) (s : SessionState) (procedure : ℕ) (args : List ℕ) (deed : Deed) (new : World) → slice_get old.stages i ≡ Some (stages.Stands s) → deed.answer ≢ None
    → Moves old i (calls s procedure args) deed new → IsPast (slice_get new.stages i) s.number
answered-past old i s procedure args deed new there answered (inl m) = subst (λ (w : World). IsPast (slice_get w.stages i) s.number) (sym m.1)
    (subst (λ (stage : Option StageSays). IsPast stage s.number) (sym (set-same old.stages i (stages.Stands (session_after s)) (stages.Stands s) there)) (omega arith))
answered-past old i s procedure args deed new there answered (inr m) = absurd (answered (ap (λ (d : Deed). d.answer) m.0))

-- who ended its context has left it
ended-past : (old : World) (i : ℕ) (s : SessionState) (deed : Deed) (new : World) (number : ℕ) → slice_get old.stages i ≡ Some (stages.Stands s) → Moves old i (leaves s) deed new → IsPast (slice_get new.stages i) number
ended-past old i s deed new number there (inl m) = subst (λ (w : World). IsPast (slice_get w.stages i) number) (sym m.1)
    (subst (λ (stage : Option StageSays). IsPast stage number) (sym (set-same old.stages i (stages.Left s) (stages.Stands s) there)) tt)
ended-past old i s deed new number there (inr m) = subst (λ (w : World). IsPast (slice_get w.stages i) number) (sym m.1)
    (subst (λ (stage : Option StageSays). IsPast stage number) (sym (set-same old.stages i (stages.Left s) (stages.Stands s) there)) tt)

-- no number is between those of calls and the one after them
no-number : (n : ℕ) → nat_le n 0x80000000 ≡ true → nat_le n 0x7fffffff ≡ false → (n == 0x80000000) ≡ false → ⊥
no-number n low left last = grind (arith, nat_tests)

with-past : (old : World) (i : ℕ) (s : SessionState) (procedure : ℕ) (args : List ℕ) (deed : Deed) (new : World) (b c : Bool) → slice_get old.stages i ≡ Some (stages.Stands s) → deed.answer ≢ None → nat_le s.number 0x80000000 ≡ true
    → nat_le s.number 0x7fffffff ≡ b → (s.number == 0x80000000) ≡ c → CallsWith b c old i s procedure args deed new → IsPast (slice_get new.stages i) s.number
with-past old i s procedure args deed new true c there answered low left last did = answered-past old i s procedure args deed new there answered did
with-past old i s procedure args deed new false true there answered low left last did = ended-past old i s deed new s.number there did
with-past old i s procedure args deed new false false there answered low left last did = absurd (no-number s.number low left last)

pub now-past : (old : World) (event : WorldEvent) (deed : Deed) (new : World) (i number procedure : ℕ) (args : List ℕ) → HappensBy old event deed new → IsCall old event deed i number procedure args → IsPast (slice_get new.stages i) number
now-past old event deed new i number procedure args did c =
    let by : CallsBy old i procedure args (slice_get old.stages i) deed new = subst (λ (e : WorldEvent). HappensBy old e deed new) c.event_is did in
    subst (IsPast (slice_get new.stages i)) c.number_is
    (with-past old i c.session procedure args deed new (nat_le c.session.number 0x7fffffff) (c.session.number == 0x80000000) c.stands c.answered (subst (λ (n : ℕ). nat_le n 0x80000000 ≡ true) (sym c.number_is) c.left) refl refl
    (subst (λ (stage : Option StageSays). CallsBy old i procedure args stage deed new) c.stands by))
