-- What is found verified where an initiator moves.
use Rattle.std.proofs.Common.{◌≡◌, inl, inr, ℕ, refl, sym, ap, subst, ◌∙◌, List, [], ◌∷◌, ◌++◌, slice_get, Option, Some, None}
use Rattle.std.specs.Prelude.{Result, Ok, Err}
use Rattle.std.proofs.lemmas.Option.{none-some, same_Some}
use Rattle.scram_mech.specs.MechMaking.{MechMaking, AmongMakings}
use Rattle.spnego_core.specs.declared.outcome.Outcome.{Outcome}
use Rattle.spnego_core.specs.declared.refusal.NegRefusal.{NegRefusal}
use Rattle.spnego_core.specs.Ends.{PlainSetup, EndSays}
use Rattle.spnego_core.specs.Ends as ends
use Rattle.spnego_core.specs.EndSteps.{StepSays}
use Rattle.spnego_core.specs.EndSteps as steps
use Rattle.spnego_core.specs.Initiating.{Started, Initiated, init_start}
use Rattle.spnego_core.specs.InitLaws.{own_of, chosen_of, finished_of, GoodInit, After, InitLaw}
use Rattle.gss_client.specs.declared.refusal.ClientRefusal.{ClientRefusal}
use Rattle.gss_client.specs.Creation.{CreatedSays}
use Rattle.gss_client.specs.Creation as created
use Rattle.gss_client.specs.Judging.{granted_in, creation_step}
use Rattle.gss_client.specs.Session.{SessionState}
use Rattle.world_laws.specs.Stages as stages
use Rattle.world_laws.specs.Deeds.{Deed}
use Rattle.world_laws.specs.State.{World}
use Rattle.world_laws.specs.Initiators.{Moved, started_by, starts, initiated, verified, window_found, created_by, takes, calls, leaves}
use Rattle.world_laws.specs.Events.{Moves}
use Rattle.world_laws.specs.Premises.{Marking, Unforged}
use Rattle.world_laws.proofs.Invariants.{Below, Known}
use Rattle.world_laws.proofs.FoundKept.{Stays, EndFound, OutcomeFound, Founds, StageFound, moved-found}
use Rattle.world_laws.proofs.FoundSteps.{Verified, Built, StepFound, step-found, going-found, done-found}
use Rattle.world_laws.proofs.FoundCreating.{Stepped, Behind, behind}
use Rattle.world_laws.proofs.Happening.{Move, Starting, Taking, Calling, Leaving}

-- ---- stages

asks-same : (x y : ℕ) (a b : EndSays) → stages.Asks x a ≡ stages.Asks y b → a ≡ b
asks-same x y a b e = cc

stands-asks : (s : SessionState) (xid : ℕ) (end : EndSays) → stages.Stands s ≡ stages.Asks xid end → ⊥
stands-asks s xid end e = cc

left-asks : (s : SessionState) (xid : ℕ) (end : EndSays) → stages.Left s ≡ stages.Asks xid end → ⊥
left-asks s xid end e = cc

over-asks : (xid : ℕ) (end : EndSays) → stages.Over ≡ stages.Asks xid end → ⊥
over-asks xid end e = cc

-- of who ended before its context stood there is nothing to be known
over-found : (marking : Marking) (old : World) (i : ℕ) → StageFound marking old i stages.Over
over-found marking old i = record {
  asks = λ xid end e. absurd (over-asks xid end e);
  stands = λ own s there e. absurd (none-some s e);
}

asks-found : (marking : Marking) (old : World) (i xid : ℕ) (end : EndSays) → EndFound marking old end → StageFound marking old i (stages.Asks xid end)
asks-found marking old i xid end f = record {
  asks = λ number other e. subst (EndFound marking old) (asks-same xid number end other e) f;
  stands = λ own s there e. absurd (none-some s e);
}

stands-found : (marking : Marking) (old : World) (i : ℕ) (session : SessionState) → ((own : PlainSetup) → slice_get old.facts i ≡ Some own → OutcomeFound marking old own session.outcome) → StageFound marking old i (stages.Stands session)
stands-found marking old i session f = record {
  asks = λ xid end e. absurd (stands-asks session xid end e);
  stands = λ own s there e. subst (λ (t : SessionState). OutcomeFound marking old own t.outcome) (same_Some session s e) (f own there);
}

left-found : (marking : Marking) (old : World) (i : ℕ) (session : SessionState) → ((own : PlainSetup) → slice_get old.facts i ≡ Some own → OutcomeFound marking old own session.outcome) → StageFound marking old i (stages.Left session)
left-found marking old i session f = record {
  asks = λ xid end e. absurd (left-asks session xid end e);
  stands = λ own s there e. subst (λ (t : SessionState). OutcomeFound marking old own t.outcome) (same_Some session s e) (f own there);
}

-- ---- it starts

unfinished : (end : EndSays) (outcome : Outcome) → chosen_of end ≡ None → finished_of end ≡ Some outcome → ⊥
unfinished (ends.Opens opening) outcome e f = none-some outcome f
unfinished (ends.Talks talking) outcome e f = none-some outcome f
unfinished (ends.Signed signed) outcome e f = none-some signed.talk.chosen (sym e)

unchosen-found : (marking : Marking) (old : World) (end : EndSays) → chosen_of end ≡ None → EndFound marking old end
unchosen-found marking old end e = record {
  signed = λ outcome f. absurd (unfinished end outcome e f);
  listed = λ outcome f l. absurd (unfinished end outcome e f);
}

starts-found : (laws : Below) (marking : Marking) (old : World) (i : ℕ) (own : PlainSetup) (r : Result Started NegRefusal) → init_start own ≡ r → StageFound marking old i (started_by old.serves r).stage
starts-found laws marking old i own (Err refusal) e = over-found marking old i
starts-found laws marking old i own (Ok started) e = asks-found marking old i 1 started.end (unchosen-found marking old started.end (laws.init.starts own started e).unchosen)

starts-lost : (marking : Marking) (old : World) (i : ℕ) (r : Result Started NegRefusal) → StageFound marking old i (started_by old.serves r).lost
starts-lost marking old i (Err refusal) = over-found marking old i
starts-lost marking old i (Ok started) = over-found marking old i

-- ---- it takes a reply

in-front : (xs ys : List MechMaking) (making : MechMaking) → AmongMakings xs making → AmongMakings (xs ++ ys) making
in-front [] ys making among = absurd among
in-front (x ∷ xs) ys making (inl same) = inl same
in-front (x ∷ xs) ys making (inr among) = inr (in-front xs ys making among)

-- what the step found is among what the reply's taking found
verified-in : (marking : Marking) (old : World) (more : List MechMaking) (o : Option Initiated) (taken : Initiated) → o ≡ Some taken → Verified marking old (verified o ++ more) → Verified marking old taken.found
verified-in marking old more o taken e f =
    let g : Verified marking old (taken.found ++ more) = subst (λ (p : Option Initiated). Verified marking old (verified p ++ more)) e f in
    λ making among guarded. g making (in-front taken.found more making among) guarded

step-of : (laws : Below) (marking : Marking) (old : World) (i xid : ℕ) (end : EndSays) (octets : List ℕ) (step : StepSays) → Built marking old → slice_get old.facts i ≡ Some (own_of end) → EndFound marking old end
    → (s : Stepped xid end octets step) → InitLaw end s.taken → Verified marking old s.taken.found → StepFound marking old (own_of end) step s.taken.listed
step-of laws marking old i xid end octets step built there f s law found = subst (λ (t : StepSays). StepFound marking old (own_of end) t s.taken.listed) s.step_is (step-found laws marking old i end s.taken built there f law found)

going : (marking : Marking) (old : World) (xid : ℕ) (end next : EndSays) (octets token : List ℕ) (s : Stepped xid end octets (steps.More next token)) → InitLaw end s.taken → StepFound marking old (own_of end) (steps.More next token) s.taken.listed → EndFound marking old next
going marking old xid end next octets token s law f =
    going-found marking old (own_of end) s.taken.chosen s.taken.listed next token (subst (After (own_of end) s.taken.chosen s.taken.listed) s.step_is law.after) f

standing : (marking : Marking) (old : World) (i xid : ℕ) (end : EndSays) (octets : List ℕ) (outcome : Outcome) (s : Stepped xid end octets (steps.Done outcome)) → InitLaw end s.taken → slice_get old.facts i ≡ Some (own_of end)
    → StepFound marking old (own_of end) (steps.Done outcome) s.taken.listed → (own : PlainSetup) → slice_get old.facts i ≡ Some own → OutcomeFound marking old own outcome
standing marking old i xid end octets outcome s law there f own other =
    subst (λ (o : PlainSetup). OutcomeFound marking old o outcome) (same_Some (own_of end) own (sym there ∙ other)) (done-found marking old (own_of end) s.taken.listed outcome f (law.covered outcome s.step_is))

append-none : (xs : List MechMaking) → xs ++ [] ≡ xs
append-none [] = refl
append-none (x ∷ xs) = ap (λ (l : List MechMaking). x ∷ l) (append-none xs)

takes-found : (laws : Below) (marking : Marking) (old : World) (i first xid : ℕ) (end : EndSays) (octets : List ℕ) (r : Result CreatedSays ClientRefusal) → Built marking old → slice_get old.facts i ≡ Some (own_of end) → GoodInit end → EndFound marking old end
    → Behind xid end octets r → Verified marking old (created_by old.serves first xid end octets r).found → StageFound marking old i (created_by old.serves first xid end octets r).stage
takes-found laws marking old i first xid end octets (Err refusal) built there good f s found = over-found marking old i
takes-found laws marking old i first xid end octets (Ok (created.Going offer)) built there good f s found =
    asks-found marking old i _ offer.end (going marking old xid end offer.end octets offer.token s (laws.init.steps end s.token s.taken good s.steps)
    (step-of laws marking old i xid end octets (steps.More offer.end offer.token) built there f s (laws.init.steps end s.token s.taken good s.steps)
    (verified-in marking old [] (initiated xid end octets) s.taken s.is (subst (Verified marking old) (sym (append-none (verified (initiated xid end octets)))) found))))
takes-found laws marking old i first xid end octets (Ok (created.Stands outcome handle)) built there good f s found =
    stands-found marking old i _ (standing marking old i xid end octets outcome s (laws.init.steps end s.token s.taken good s.steps) there
    (step-of laws marking old i xid end octets (steps.Done outcome) built there f s (laws.init.steps end s.token s.taken good s.steps)
    (verified-in marking old (window_found outcome (granted_in xid octets)) (initiated xid end octets) s.taken s.is found)))

takes-lost : (marking : Marking) (old : World) (i first xid : ℕ) (end : EndSays) (octets : List ℕ) (r : Result CreatedSays ClientRefusal) → StageFound marking old i (created_by old.serves first xid end octets r).lost
takes-lost marking old i first xid end octets (Err refusal) = over-found marking old i
takes-lost marking old i first xid end octets (Ok (created.Going offer)) = over-found marking old i
takes-lost marking old i first xid end octets (Ok (created.Stands outcome handle)) = over-found marking old i

-- ---- it moves

-- what is to be known of where it is then, where it did what it did, and where memory was wanted
pub record MoveFound (marking : Marking) (old : World) (i : ℕ) (moved : Moved) : Type 0 where
  pub did : Verified marking old moved.found → StageFound marking old i moved.stage
  pub lost : StageFound marking old i moved.lost

starting : (laws : Below) (marking : Marking) (old : World) (i : ℕ) (own : PlainSetup) → MoveFound marking old i (starts old.serves own)
starting laws marking old i own = record { did = λ found. starts-found laws marking old i own (init_start own) refl; lost = starts-lost marking old i (init_start own) }

taking : (laws : Below) (marking : Marking) (old : World) (i first xid : ℕ) (end : EndSays) (octets : List ℕ) → Built marking old → slice_get old.facts i ≡ Some (own_of end) → GoodInit end → EndFound marking old end → MoveFound marking old i (takes old.serves first xid end octets)
taking laws marking old i first xid end octets built there good f = record {
  did = λ found. takes-found laws marking old i first xid end octets (creation_step end xid octets) built there good f (behind xid end octets) found;
  lost = takes-lost marking old i first xid end octets (creation_step end xid octets);
}

calling : (marking : Marking) (old : World) (i : ℕ) (s : SessionState) (procedure : ℕ) (args : List ℕ) → ((own : PlainSetup) → slice_get old.facts i ≡ Some own → OutcomeFound marking old own s.outcome) → MoveFound marking old i (calls s procedure args)
calling marking old i s procedure args f = record { did = λ found. stands-found marking old i _ f; lost = left-found marking old i s f }

leaving : (marking : Marking) (old : World) (i : ℕ) (s : SessionState) → ((own : PlainSetup) → slice_get old.facts i ≡ Some own → OutcomeFound marking old own s.outcome) → MoveFound marking old i (leaves s)
leaving marking old i s f = record { did = λ found. left-found marking old i s f; lost = left-found marking old i s f }

pub move-found : (laws : Below) (marking : Marking) (old : World) (i : ℕ) (moved : Moved) → Known old → Founds marking old → Built marking old → Move old i moved → MoveFound marking old i moved
move-found laws marking old i moved known f built (Starting own there is) = subst (MoveFound marking old i) (sym is) (starting laws marking old i own)
move-found laws marking old i moved known f built (Taking first xid end octets there is) =
    subst (MoveFound marking old i) (sym is) (taking laws marking old i first xid end octets built (known.asks i xid end there).0 (known.asks i xid end there).1 (f.asks i xid end there))
move-found laws marking old i moved known f built (Calling s procedure args there left served proper is) =
    subst (MoveFound marking old i) (sym is) (calling marking old i s procedure args (λ own facts. f.completed i own s.outcome (record {
      there = facts;
      stage = stages.Stands s;
      stands = there;
      session = s;
      in_session = refl;
      outcome_is = refl;
    })))
move-found laws marking old i moved known f built (Leaving s procedure args there left last served proper is) =
    subst (MoveFound marking old i) (sym is) (leaving marking old i s (λ own facts. f.completed i own s.outcome (record {
      there = facts;
      stage = stages.Stands s;
      stands = there;
      session = s;
      in_session = refl;
      outcome_is = refl;
    })))

pub moves-found : (marking : Marking) (old new : World) (i : ℕ) (moved : Moved) (deed : Deed) → Stays old new → Founds marking old → MoveFound marking old i moved → Unforged marking old deed → Moves old i moved deed new → Founds marking new
moves-found marking old new i moved deed g f m unforged (inl now) =
    moved-found marking old new i moved.stage moved.makes now.1 g f (m.did (subst (λ (d : Deed). Verified marking old d.found) now.0 unforged.made))
moves-found marking old new i moved deed g f m unforged (inr lost) = moved-found marking old new i moved.lost [] lost.1 g f m.lost
