-- Origin, over a run: each call in the log, and each end by a call, of a context that is built on a guarded key was made by the context's initiator.
use Rattle.std.proofs.Common.{◌≡◌, ◌⊎◌, inl, inr, ℕ, sym, subst, List, [], ◌∷◌, slice_get, Some}
use Rattle.world_laws.specs.declared.event.WorldEvent.{WorldEvent}
use Rattle.world_laws.specs.Deeds.{Deed}
use Rattle.rpc_program.specs.Programs.{Serving}
use Rattle.told_apart.specs.Apart.{IsApart}
use Rattle.world_laws.specs.State.{Context, World}
use Rattle.world_laws.specs.Events.{Happens, Run, Begins}
use Rattle.world_laws.specs.Premises.{Marking, GuardedBasis, Unforged, NoForgery, Fresh}
use Rattle.world_laws.specs.Setups.{Proper}
use Rattle.world_laws.specs.Agreement.{HasInitiator, Agreement}
use Rattle.world_laws.specs.Origin.{WasCalled, CameFrom, Means, Origin, OriginLaw}
use Rattle.world_laws.proofs.Invariants.{Below, Known, Held, Kept}
use Rattle.world_laws.proofs.Growing.{grows, run-grows}
use Rattle.world_laws.proofs.Known.{known-start, known-step}
use Rattle.world_laws.proofs.Held.{held-start, held-step}
use Rattle.world_laws.proofs.Holders.{proper-on}
use Rattle.world_laws.proofs.Negotiated.{agreement}
use Rattle.world_laws.proofs.Running.{kept-end}
use Rattle.world_laws.proofs.OriginCalls.{Called, Calls, and_now, calls-start}
use Rattle.world_laws.proofs.OriginCalling.{calls-step, calls-named}
use Rattle.world_laws.proofs.OriginEvidence.{Evidence, evidence-start, evidence-step}
use Rattle.world_laws.proofs.OriginWaiting.{Proofs, proofs-start, proofs-step}
use Rattle.world_laws.proofs.OriginHolder.{partner-of}
use Rattle.world_laws.proofs.OriginTraced.{Traced, Holds, call-traced, end-traced}

-- ---- what is kept of the calls so far

record Carried (marking : Marking) (called : Called) (w : World) : Type 0 where
  known : Known w
  held : Held w
  evidence : Evidence marking w
  calls : Calls called w
  proofs : Proofs w

abbrev no-call : Called
no-call i number procedure args = ⊥

carried-start : (marking : Marking) (w : World) → Begins w → Carried marking no-call w
carried-start marking w b = record { known = known-start w b; held = held-start w b; evidence = evidence-start marking w b; calls = calls-start w b; proofs = proofs-start w b }

carried-step : (laws : Below) (marking : Marking) (called : Called) (old : World) (event : WorldEvent) (deed : Deed) (new : World) → IsApart old.serves.program → Unforged marking old deed → Happens old event deed new → Carried marking called old
    → Carried marking (and_now called old event deed) new
carried-step laws marking called old event deed new apart unforged h c = record {
  known = known-step laws old event deed new c.known h;
  held = held-step laws old event deed new c.held h;
  evidence = evidence-step marking old event deed new apart c.held unforged h c.evidence;
  calls = calls-step called laws old event deed new apart c.known c.held h c.calls;
  proofs = proofs-step laws old event deed new c.known h c.proofs;
}

carried-named : (marking : Marking) (called other : Called) (w : World) → ((i number procedure : ℕ) (args : List ℕ) → called i number procedure args → other i number procedure args)
    → ((i number procedure : ℕ) (args : List ℕ) → other i number procedure args → called i number procedure args) → Carried marking called w → Carried marking other w
carried-named marking called other w to from c = record { known = c.known; held = c.held; evidence = c.evidence; calls = calls-named called other w to from c.calls; proofs = c.proofs }

-- the calls before a run, and those of the run
abbrev and_run : Called → (old : World) → (events : List WorldEvent) → (new : World) → Run old events new → Called
and_run called old events new run = λ i number procedure args. called i number procedure args ⊎ WasCalled old events new run i number procedure args

carried-run : (laws : Below) (marking : Marking) (called : Called) (old : World) (events : List WorldEvent) (new : World) (run : Run old events new) → IsApart old.serves.program → NoForgery marking old events new run → Carried marking called old
    → Carried marking (and_run called old events new run) new
carried-run laws marking called old [] new run apart forged c =
    subst (Carried marking (and_run called old [] new run)) (sym run) (carried-named marking called (and_run called old [] new run) old (λ i number procedure args x. inl x) (λ i number procedure args x. elim x [ inl y ↦ y | inr y ↦ absurd y ]) c)
carried-run laws marking called old (event ∷ later) new run apart forged c =
    carried-named marking (and_run (and_now called old event run.0.deed) run.0.world later new run.1) (and_run called old (event ∷ later) new run) new (λ i number procedure args x. to i number procedure args x) (λ i number procedure args x. from i number procedure args x)
    (carried-run laws marking (and_now called old event run.0.deed) run.0.world later new run.1
    (subst (λ (serves : Serving). IsApart serves.program) (sym (grows old event run.0.deed run.0.world run.0.happens).serves) apart) forged.1 (carried-step laws marking called old event run.0.deed run.0.world apart forged.0 run.0.happens c))
  where
    to : (i number procedure : ℕ) (args : List ℕ) → and_run (and_now called old event run.0.deed) run.0.world later new run.1 i number procedure args → and_run called old (event ∷ later) new run i number procedure args
    to i number procedure args (inl (inl x)) = inl x
    to i number procedure args (inl (inr x)) = inr (inl x)
    to i number procedure args (inr x) = inr (inr x)

    from : (i number procedure : ℕ) (args : List ℕ) → and_run called old (event ∷ later) new run i number procedure args → and_run (and_now called old event run.0.deed) run.0.world later new run.1 i number procedure args
    from i number procedure args (inl x) = inl (inl x)
    from i number procedure args (inr (inl x)) = inl (inr x)
    from i number procedure args (inr (inr x)) = inr x

-- ---- the law

came-from : (old : World) (events : List WorldEvent) (new : World) (run : Run old events new) (x : Context) (number : ℕ) (means : ℕ → List ℕ → Type 0) → Traced (and_run no-call old events new run) new x number means → CameFrom old events new run x number means
came-from old events new run x number means t = record {
  has = t.has;
  outcome = t.outcome;
  completed = t.completed;
  key_is = t.key_is;
  procedure = t.procedure;
  args = t.args;
  called = elim t.was [ inl none ↦ absurd none | inr call ↦ call ];
  meant = t.meant;
}

-- who completed with the context's key is its initiator
holds : (laws : Below) (marking : Marking) (w : World) → Proper w → Fresh marking w → Kept marking w → Proofs w → (place : ℕ) (x : Context) → slice_get w.fixed place ≡ Some x → GuardedBasis marking x.fixed.basis
    → (has : HasInitiator w x) → Holds w x.fixed.outcome.key has.initiator
holds laws marking w proper fresh kept proofs place x there guarded has j own outcome completed key =
    has.only j own completed.there (partner-of laws marking w proper fresh kept proofs place x there guarded j own outcome completed key)

origin-by : (laws : Below) (marking : Marking) (old : World) (events : List WorldEvent) (new : World) (run : Run old events new) → Carried marking (and_run no-call old events new run) new → Proper new → Fresh marking new → Kept marking new
    → Agreement marking new → Origin marking old events new run
origin-by laws marking old events new run c proper fresh kept agrees = record {
  calls = λ place id seq procedure digest x at listed id_is guarded. (let has = (agrees.contexts listed.place x listed.there guarded).has in
      came-from old events new run x seq (Means seq procedure digest)
      (call-traced (and_run no-call old events new run) laws.tokens marking new id seq procedure digest listed.place x c.held c.calls (c.evidence.calls place id seq procedure digest at) listed.there id_is guarded has
      (holds laws marking new proper fresh kept c.proofs listed.place x listed.there guarded has)));
  ends = λ place id seq x at listed id_is guarded. (let has = (agrees.contexts listed.place x listed.there guarded).has in
      came-from old events new run x seq (λ procedure args. Unit {0})
      (end-traced (and_run no-call old events new run) laws.tokens marking new id seq listed.place x c.held c.calls (c.evidence.ends place id seq at) listed.there id_is guarded has
      (holds laws marking new proper fresh kept c.proofs listed.place x listed.there guarded has)));
}

pub origin-law : Below → OriginLaw
origin-law laws marking old events new run begins forged fresh =
    let proper : Proper new = proper-on old new (run-grows old events new run) begins.proper in
    let kept : Kept marking new = kept-end laws marking old events new run begins forged fresh in
    origin-by laws marking old events new run (carried-run laws marking no-call old events new run begins.proper.program forged (carried-start marking old begins)) proper fresh kept (agreement laws marking new proper fresh kept)
