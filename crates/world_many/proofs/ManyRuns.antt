-- A carried run of many meets the premises.
use Rattle.std.proofs.Common.{◌≡◌, ℕ, ◌+◌, ◌<◌, ◌≤◌, ◌^◌, true, false, refl, sym, ap, ◌∙◌, subst, arith, List, [], ◌∷◌, ◌++◌, length, length-append, map, slice_get, Option, Some, None}
use Rattle.std.specs.Prelude.{if◌then◌else◌, Bool}
use Rattle.std.specs.List.{AllByRecursion}
use Rattle.std.proofs.lemmas.Option.{none-some}
use Rattle.gss_base.specs.declared.mech.MechKind.{MechKind}
use Rattle.gss_base.specs.declared.mech.MechKind.TheVariants as kinds
use Rattle.spnego_core.specs.Ends.{PlainSetup}
use Rattle.spnego_core.specs.Choice.{is_first, is_mic_due}
use Rattle.spnego_core.specs.Exchange.{rounds_of, tokens_of}
use Rattle.spnego_core.specs.InitMech.{kinds_of}
use Rattle.spnego_core.specs.Initiating.{own_list}
use Rattle.accept_core.specs.declared.entry.Entry.{Entry}
use Rattle.accept_core.specs.History.{taken_of}
use Rattle.history_laws.proofs.Histories.{Fronts}
use Rattle.world_laws.specs.declared.event.WorldEvent.{WorldEvent}
use Rattle.world_laws.specs.declared.event.WorldEvent.TheVariants.{Start, Deliver, Lane, CallBy}
use Rattle.world_laws.specs.Below.{Below}
use Rattle.world_laws.specs.Stages as stages
use Rattle.world_laws.specs.Deeds.{Deed}
use Rattle.world_laws.specs.Events.{Run, Begins}
use Rattle.world_laws.specs.KnownList.{IsNoCall}
use Rattle.world_laws.specs.Premises.{Marking, NoForgery}
use Rattle.world_laws.specs.State.{World}
use Rattle.world_laws.proofs.Growing.{run-grows}
use Rattle.world_runs.specs.Served.{served}
use Rattle.world_runs.proofs.MetPairs.{honest, count-of}
use Rattle.world_many.specs.Lists.{AllIssued}
use Rattle.world_many.specs.Carried.{Line, CarriedBy, Plan, Carries, IsHonest, AreHonest, line_of, lines_of, NoEnds, IsCarriedRun, MetByManyLaw}
use Rattle.world_many.proofs.ByLists.{at-map, from-map, fresh-by-lists, lists-by-lists}
use Rattle.world_many.proofs.ManyEvents.{steps-on}
use Rattle.world_many.proofs.ManyLanes.{lasting-front}
use Rattle.world_many.proofs.ManyStates.{Pair, Placed, Carrying}

-- ---- event after event

front-few : (old new : List Entry) → Fronts old new → length new < 2 ^ 64 → length old < 2 ^ 64
front-few old new f few = let is : length new ≡ length (f.more ++ old) = ap length f.is in omega (arith, is, length-append f.more old, few)

front-lasting : (old new : List Entry) → Fronts old new → NoEnds new → NoEnds old
front-lasting old new f n = lasting-front f.more old (subst (λ (h : List Entry). NoEnds h) f.is n)

walk : (old : World) (now : ℕ) (plans : List Plan) (marking : Marking) (events : List WorldEvent) (w new : World) (run : Run w events new) (lines : List Line) (ids : List (Option ℕ)) → Carrying old now plans w lines ids → Carries now lines w events new run → NoEnds new.book.core.history → length new.book.core.history < 2 ^ 64
    → AllIssued marking w events new run → NoForgery marking w events new run
walk old now plans marking [] w new run lines ids k carries lasting few issued = tt
walk old now plans marking (event ∷ later) w new run lines ids k carries lasting few issued =
    let all = run-grows w (event ∷ later) new run in
    let rest = run-grows run.0.world later new run.1 in
    let s = steps-on old now plans marking w lines ids event run.0.deed run.0.world carries.0 k run.0.happens carries.1 (front-lasting run.0.world.book.core.history new.book.core.history rest.history lasting)
    (front-few w.book.core.history new.book.core.history all.history few) issued.0 in
    (s.unforged, walk old now plans marking later run.0.world new run.1 carries.0 s.ids s.carrying carries.2 lasting few issued.1)

-- ---- before the first event

-- an exchange has four tokens at most
few-tokens : (first due : Bool) (kind : MechKind) → (if first then 0 else 1) + rounds_of kind + (if due then 1 else 0) ≤ 4
few-tokens true true kinds.Kerberos = omega arith
few-tokens true false kinds.Kerberos = omega arith
few-tokens false true kinds.Kerberos = omega arith
few-tokens false false kinds.Kerberos = omega arith
few-tokens true true kinds.Scram = omega arith
few-tokens true false kinds.Scram = omega arith
few-tokens false true kinds.Scram = omega arith
few-tokens false false kinds.Scram = omega arith

pair-so : (old : World) (now : ℕ) (plans : List Plan) (i : ℕ) (own : PlainSetup) (plan : Plan) → Begins old → IsHonest old now own plan → Pair old now plans i
pair-so old now plans i own plan begins h =
    let kind : MechKind = plan.kind in
    let count : length plan.draws ≡ tokens_of old.book.setup own kind = sym (count-of now plan.draws) ∙ h.pair.counted in
    let few = few-tokens (is_first (kinds_of own.list) kind) (is_mic_due old.book.setup.offer (own_list own) kind) kind in
    record {
      own = own;
      plan = plan;
      started = h.pair.started;
      begins = h.pair.starts;
      short = h.pair.short;
      few = omega (arith, count, few);
      honest = honest old.book own kind now plan.draws (ap taken_of begins.empty) h.pair h.ready;
    }

same-ready : (a b : PlainSetup) → Some (stages.Ready a) ≡ Some (stages.Ready b) → a ≡ b
same-ready a b e = cc

-- nobody has a context
abbrev no_id : Plan → Option ℕ
no_id plan = None

begins-so : (old : World) (now : ℕ) (plans : List Plan) → Begins old → old.serves ≡ served → AreHonest old now plans → Carrying old now plans old (lines_of plans) (map no_id plans)
unfolding pair-so
begins-so old now plans begins serves all = record {
  setup = refl;
  serves = serves;
  states = λ i line there. (let r = from-map line_of plans i line there in by i line r.from r.there r.is (all i r.from r.there));
  apart = λ i j n e f. absurd (none-of i n e);
  counted = λ i n e. absurd (none-of i n e);
}
  where
    none-of : (i n : ℕ) → slice_get (map no_id plans) i ≡ Some (Some n) → ⊥
    none-of i n e = none-some n (from-map no_id plans i (Some n) e).is

    by : (i : ℕ) (line : Line) (plan : Plan) → slice_get plans i ≡ Some plan → line_of plan ≡ line → (own : PlainSetup) × (slice_get old.facts i ≡ Some own) × IsHonest old now own plan → Placed old now plans old i line (map no_id plans)
    by i line plan there is h = subst (λ (z : Line). Placed old now plans old i z (map no_id plans)) is (record {
      pair = pair-so old now plans i h.0 plan begins h.2;
      id = None;
      there = at-map no_id plans i plan there;
      stands = λ own e. (same-ready own h.0 (sym e ∙ (begins.ready i h.0 h.1).0), refl, refl);
    })

-- ---- nobody calls

no-call : (now : ℕ) (lines : List Line) (event : WorldEvent) (deed : Deed) (old new : World) (after : List Line) → CarriedBy now lines event deed old new after → IsNoCall event
no-call now lines (Start i) deed old new after c = tt
no-call now lines (Deliver i octets first) deed old new after c = tt
no-call now lines (Lane lane octets at draws) deed old new after c = tt
no-call now lines (CallBy i procedure args) deed old new after c = c

none-called : (now : ℕ) (lines : List Line) (old : World) (events : List WorldEvent) (new : World) (run : Run old events new) → Carries now lines old events new run → AllByRecursion IsNoCall events
none-called now lines old [] new run c = tt
none-called now lines old (event ∷ later) new run c = (no-call now lines event run.0.deed old run.0.world c.0 c.1, none-called now c.0 run.0.world later new run.1 c.2)

-- ---- all of it

unforged-many : (plans : List Plan) (now : ℕ) (old : World) (events : List WorldEvent) (new : World) (run : Run old events new) → IsCarriedRun plans now old events new run → (marking : Marking) → AllIssued marking old events new run → NoForgery marking old events new run
unforged-many plans now old events new run carried marking issued =
    walk old now plans marking events old new run (lines_of plans) (map no_id plans) (begins-so old now plans carried.begins carried.serves carried.honest) carried.carries carried.lasting carried.few issued

pub met-by-many : Below → MetByManyLaw
met-by-many laws plans now old events new run carried marking issued = record {
  unforged = unforged-many plans now old events new run carried marking issued;
  fresh = fresh-by-lists laws marking old events new run carried.begins issued;
  unforged_list = λ made apart done.
      lists-by-lists laws marking old events new run carried.begins issued (unforged-many plans now old events new run carried marking issued) (none-called now (lines_of plans) old events new run carried.carries) made apart done;
}
