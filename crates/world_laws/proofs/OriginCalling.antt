-- What each event adds to the calls that were made.
use Rattle.std.proofs.Common.{◌≡◌, ◌≢◌, ◌⊎◌, inl, inr, ℕ, Bool, true, false, nat_le, refl, sym, ◌∙◌, ap, subst, List, [], ◌++◌, append-nil, slice_get, Option, Some, None, arith, ◌==◌}
use Rattle.std.proofs.lemmas.Bool.Decides.{nat_tests}
use Rattle.scram_mech.specs.MechMaking.{MechMaking, AmongMakings}
use Rattle.spnego_core.specs.Ends.{PlainSetup, EndSays}
use Rattle.spnego_core.specs.InitLaws.{own_of, answers_next, InitLaw}
use Rattle.spnego_core.specs.InitMech.{is_own_list}
use Rattle.spnego_core.specs.Initiating.{Initiated}
use Rattle.spnego_core.proofs.Makings.{among_split}
use Rattle.gss_client.specs.Session.{SessionState}
use Rattle.rpc_program.specs.Programs.{Serving}
use Rattle.world_laws.specs.declared.event.Happened.{Happened}
use Rattle.world_laws.specs.declared.event.WorldEvent.{WorldEvent}
use Rattle.world_laws.specs.declared.event.WorldEvent.TheVariants.{Start, Deliver, Lane, CallBy}
use Rattle.told_apart.specs.Apart.{IsApart}
use Rattle.world_laws.specs.Stages.{StageSays}
use Rattle.world_laws.specs.Stages as stages
use Rattle.world_laws.specs.Deeds.{Deed}
use Rattle.world_laws.specs.State.{InHand, World}
use Rattle.world_laws.specs.Initiators.{Moved, starts, takes, calls, leaves}
use Rattle.world_laws.specs.Lanes.{in_hand, LaneMoves}
use Rattle.world_laws.specs.Events.{Idles, Moves, StartsBy, DeliversBy, CallsWith, CallsBy, LanesBy, HappensBy, IsProper, Happens}
use Rattle.world_laws.proofs.Invariants.{Below, Known, Held}
use Rattle.world_laws.proofs.Growing.{Grows, grows, completed-stays}
use Rattle.world_laws.proofs.Happening.{Came, came}
use Rattle.world_laws.proofs.Moving.{starts-by, takes-by}
use Rattle.world_laws.proofs.Owning.{proof-made, request-made, taken-law, leave-among}
use Rattle.world_laws.proofs.OwningStep.{asks-owned}
use Rattle.world_laws.proofs.OriginCalls.{Uncalled, uncalled-request, uncalled-proof, uncalled-list, uncalled-context, Called, IsPast, CalledMaking, Fitting, Calls, and_now, now-fits, now-same, came-past, now-past}

-- ---- what an initiator hands out, and what a lane does

among-none : (makes : List MechMaking) (m : MechMaking) → makes ≡ [] → AmongMakings makes m → ⊥
among-none makes m e a = subst (λ (ms : List MechMaking). AmongMakings ms m) e a

-- no making of these is of a call
abbrev pub AllUncalled : List MechMaking → Type 0
AllUncalled makes = (m : MechMaking) → AmongMakings makes m → Uncalled m

none-uncalled : (makes : List MechMaking) → makes ≡ [] → AllUncalled makes
none-uncalled makes e = λ m a. absurd (among-none makes m e a)

starts-uncalled : (laws : Below) (serves : Serving) (own : PlainSetup) → AllUncalled (starts serves own).makes
starts-uncalled laws serves own = elim (starts-by serves own) [
  | inl e ↦ none-uncalled (starts serves own).makes (ap (λ (v : Moved). v.makes) e)
  | inr by ↦ λ m a. (let r = (laws.init.starts own by.started by.is).made m (subst (λ (ms : List MechMaking). AmongMakings ms m) by.makes a) in
      uncalled-request own m (record { credential = r.0; is_own = r.1; made = r.2 }))
]

step-uncalled : (laws : Below) (end : EndSays) (taken : Initiated) → is_own_list (own_of end).list ≡ true → InitLaw end taken → AllUncalled taken.makes
step-uncalled laws end taken sized law = λ m a. elim (law.made m a) [
  | inl r ↦ uncalled-request (own_of end) m (request-made (own_of end) taken.chosen m r)
  | inr more ↦ elim more [
    | inl p ↦ uncalled-proof laws.scram (own_of end) m (proof-made (own_of end) (answers_next end) taken.chosen m p)
    | inr l ↦ uncalled-list (own_of end) m sized (record { outcome = l.outcome; made = l.made })
  ]
]

takes-uncalled : (laws : Below) (w : World) (i first xid : ℕ) (end : EndSays) (octets : List ℕ) → Known w → slice_get w.stages i ≡ Some (stages.Asks xid end) → AllUncalled (takes w.serves first xid end octets).makes
takes-uncalled laws w i first xid end octets k there = elim (takes-by w.serves first xid end octets) [
  | inl e ↦ none-uncalled (takes w.serves first xid end octets).makes (ap (λ (v : Moved). v.makes) e)
  | inr more ↦ elim more [
    | inl by ↦ subst AllUncalled (sym by.makes) (step-uncalled laws end by.by.taken (k.sized i (own_of end) (k.asks i xid end there).0) (taken-law laws w i xid end by.by.granted.result.token by.by.taken k there by.by.step_is))
    | inr by ↦ subst AllUncalled (sym by.makes) (step-uncalled laws end by.by.taken (k.sized i (own_of end) (k.asks i xid end there).0) (taken-law laws w i xid end by.by.granted.result.token by.by.taken k there by.by.step_is))
  ]
]

-- ---- what an event handed out

-- this was handed out, of no call or of this one
record Now (called : Called) (old new : World) : Type 0 where
  makes : List MechMaking
  is : new.makings ≡ old.makings ++ makes
  of : (m : MechMaking) → AmongMakings makes m → CalledMaking called new m ⊎ Uncalled m

now-none : (called : Called) (old new : World) → new.makings ≡ old.makings → Now called old new
now-none called old new e = record { makes = []; is = e ∙ sym (append-nil old.makings); of = λ m a. absurd a }

now-idle : (called : Called) (old : World) (deed : Deed) (new : World) → Idles old deed new → Now called old new
now-idle called old deed new i = now-none called old new (ap (λ (w : World). w.makings) i.1)

now-uncalled : (called : Called) (old : World) (i : ℕ) (moved : Moved) (deed : Deed) (new : World) → AllUncalled moved.makes → Moves old i moved deed new → Now called old new
now-uncalled called old i moved deed new un (inl m) = record { makes = moved.makes; is = ap (λ (w : World). w.makings) m.1; of = λ k a. inr (un k a) }
now-uncalled called old i moved deed new un (inr m) = record { makes = []; is = ap (λ (w : World). w.makings) m.1; of = λ k a. absurd a }

now-started : (called : Called) (laws : Below) (old : World) (i : ℕ) (stage : Option StageSays) (deed : Deed) (new : World) → StartsBy old i stage deed new → Now called old new
now-started called laws old i None deed new did = now-idle called old deed new did
now-started called laws old i (Some (stages.Ready own)) deed new did = now-uncalled called old i (starts old.serves own) deed new (starts-uncalled laws old.serves own) did
now-started called laws old i (Some (stages.Asks xid end)) deed new did = now-idle called old deed new did
now-started called laws old i (Some (stages.Stands s)) deed new did = now-idle called old deed new did
now-started called laws old i (Some (stages.Left s)) deed new did = now-idle called old deed new did
now-started called laws old i (Some stages.Over) deed new did = now-idle called old deed new did

now-delivered : (called : Called) (laws : Below) (old : World) (i : ℕ) (octets : List ℕ) (first : ℕ) (stage : Option StageSays) (deed : Deed) (new : World) → Known old → slice_get old.stages i ≡ stage
    → DeliversBy old i octets first stage deed new → Now called old new
now-delivered called laws old i octets first None deed new k there did = now-idle called old deed new did
now-delivered called laws old i octets first (Some (stages.Ready own)) deed new k there did = now-idle called old deed new did
now-delivered called laws old i octets first (Some (stages.Asks xid end)) deed new k there did = now-uncalled called old i (takes old.serves first xid end octets) deed new (takes-uncalled laws old i first xid end octets k there) did
now-delivered called laws old i octets first (Some (stages.Stands s)) deed new k there did = now-idle called old deed new did
now-delivered called laws old i octets first (Some (stages.Left s)) deed new k there did = now-idle called old deed new did
now-delivered called laws old i octets first (Some stages.Over) deed new k there did = now-idle called old deed new did

now-laned : (called : Called) (laws : Below) (old : World) (lane : ℕ) (held : Option InHand) (octets : List ℕ) (now : ℕ) (draws : List ℕ) (deed : Deed) (new : World) → Held old → Grows old new → slice_get old.lanes lane ≡ Some held
    → LaneMoves old lane (in_hand held octets now draws) deed new → Now called old new
now-laned called laws old lane held octets now draws deed new h g there (inl a) = record { makes = []; is = ap (λ (w : World). w.makings) a.new_is; of = λ m among. absurd among }
now-laned called laws old lane held octets now draws deed new h g there (inr b) = record {
  makes = deed.makes;
  is = ap (λ (w : World). w.makings) b.new_is;
  of = λ m among. (let by = asks-owned laws old lane held octets now draws deed new h g there b m among in
      inr (uncalled-context laws.scram by.context m by.made));
}

now-lane : (called : Called) (laws : Below) (old : World) (lane : ℕ) (octets : List ℕ) (now : ℕ) (draws : List ℕ) (hand : Option (Option InHand)) (deed : Deed) (new : World) → Held old → Grows old new → slice_get old.lanes lane ≡ hand
    → LanesBy old lane octets now draws hand deed new → Now called old new
now-lane called laws old lane octets now draws None deed new h g there did = now-idle called old deed new did
now-lane called laws old lane octets now draws (Some hand) deed new h g there did = now-laned called laws old lane hand octets now draws deed new h g there did

answer-there : (answer : Happened) → Some answer ≢ None
answer-there answer e = cc

below-last : (n : ℕ) → nat_le n 0x7fffffff ≡ true → nat_le n 0x80000000 ≡ true
below-last n e = grind (arith, nat_tests)

at-last : (n : ℕ) → (n == 0x80000000) ≡ true → nat_le n 0x80000000 ≡ true
at-last n e = grind (arith, nat_tests)

now-call : (called : Called) (laws : Below) (old : World) (i procedure : ℕ) (args : List ℕ) (s : SessionState) (deed : Deed) (new : World) → Known old → Grows old new → slice_get old.stages i ≡ Some (stages.Stands s)
    → nat_le s.number 0x7fffffff ≡ true → Moves old i (calls s procedure args) deed new → Now (and_now called old (CallBy i procedure args) deed) old new
now-call called laws old i procedure args s deed new k g there left (inl m) =
    let p = k.placed i (stages.Stands s) there in record {
      makes = (calls s procedure args).makes;
      is = ap (λ (w : World). w.makings) m.1;
      of = λ making a. inl (record {
        i = i;
        own = p.0;
        session = s;
        procedure = procedure;
        args = args;
        was = inr (record {
          event_is = refl;
          session = s;
          stands = there;
          left = below-last s.number left;
          number_is = refl;
          answered = λ e. answer-there (calls s procedure args).answer (sym (ap (λ (d : Deed). d.answer) m.0) ∙ e);
        });
        completed = completed-stays old new i p.0 s.outcome g (record { there = p.1; stage = stages.Stands s; stands = there; session = s; in_session = refl; outcome_is = refl });
        made = a;
        spent = λ over. absurd (let e = sym left ∙ over in cc);
      });
    }
now-call called laws old i procedure args s deed new k g there left (inr m) = record { makes = []; is = ap (λ (w : World). w.makings) m.1; of = λ making a. absurd a }

-- of the end of a context after its last call
now-leave : (called : Called) (laws : Below) (old : World) (i procedure : ℕ) (args : List ℕ) (s : SessionState) (deed : Deed) (new : World) → Known old → Grows old new → slice_get old.stages i ≡ Some (stages.Stands s)
    → (s.number == 0x80000000) ≡ true → Moves old i (leaves s) deed new → Now (and_now called old (CallBy i procedure args) deed) old new
now-leave called laws old i procedure args s deed new k g there last (inl m) =
    let p = k.placed i (stages.Stands s) there in record {
      makes = (leaves s).makes;
      is = ap (λ (w : World). w.makings) m.1;
      of = λ making a. inl (record {
        i = i;
        own = p.0;
        session = s;
        procedure = procedure;
        args = args;
        was = inr (record {
          event_is = refl;
          session = s;
          stands = there;
          left = at-last s.number last;
          number_is = refl;
          answered = λ e. answer-there (leaves s).answer (sym (ap (λ (d : Deed). d.answer) m.0) ∙ e);
        });
        completed = completed-stays old new i p.0 s.outcome g (record { there = p.1; stage = stages.Stands s; stands = there; session = s; in_session = refl; outcome_is = refl });
        made = leave-among s procedure args making a;
        spent = λ over. (elim a [ inl e ↦ e | inr none ↦ absurd none ]);
      });
    }
now-leave called laws old i procedure args s deed new k g there last (inr m) = record { makes = []; is = ap (λ (w : World). w.makings) m.1; of = λ making a. absurd a }

now-standing : (called : Called) (laws : Below) (old : World) (i procedure : ℕ) (args : List ℕ) (s : SessionState) (deed : Deed) (new : World) (b c : Bool) → Known old → Grows old new → slice_get old.stages i ≡ Some (stages.Stands s)
    → nat_le s.number 0x7fffffff ≡ b → (s.number == 0x80000000) ≡ c → CallsWith b c old i s procedure args deed new → Now (and_now called old (CallBy i procedure args) deed) old new
now-standing called laws old i procedure args s deed new true c k g there left last did = now-call called laws old i procedure args s deed new k g there left did
now-standing called laws old i procedure args s deed new false true k g there left last did = now-leave called laws old i procedure args s deed new k g there last did
now-standing called laws old i procedure args s deed new false false k g there left last did = now-idle _ old deed new did

now-calls : (called : Called) (laws : Below) (old : World) (i procedure : ℕ) (args : List ℕ) (stage : Option StageSays) (deed : Deed) (new : World) → Known old → Grows old new → slice_get old.stages i ≡ stage
    → CallsBy old i procedure args stage deed new → Now (and_now called old (CallBy i procedure args) deed) old new
now-calls called laws old i procedure args None deed new k g there did = now-idle _ old deed new did
now-calls called laws old i procedure args (Some (stages.Ready own)) deed new k g there did = now-idle _ old deed new did
now-calls called laws old i procedure args (Some (stages.Asks xid end)) deed new k g there did = now-idle _ old deed new did
now-calls called laws old i procedure args (Some (stages.Stands s)) deed new k g there did = now-standing called laws old i procedure args s deed new (nat_le s.number 0x7fffffff) (s.number == 0x80000000) k g there refl refl did
now-calls called laws old i procedure args (Some (stages.Left s)) deed new k g there did = now-idle _ old deed new did
now-calls called laws old i procedure args (Some stages.Over) deed new k g there did = now-idle _ old deed new did

now-made : (called : Called) (laws : Below) (old : World) (event : WorldEvent) (deed : Deed) (new : World) → Known old → Held old → Grows old new → HappensBy old event deed new → Now (and_now called old event deed) old new
now-made called laws old (Start i) deed new k h g did = now-started _ laws old i (slice_get old.stages i) deed new did
now-made called laws old (Deliver i octets first) deed new k h g did = now-delivered _ laws old i octets first (slice_get old.stages i) deed new k refl did
now-made called laws old (Lane lane octets now draws) deed new k h g did = now-lane _ laws old lane octets now draws (slice_get old.lanes lane) deed new h g refl did
now-made called laws old (CallBy i procedure args) deed new k h g did = now-calls called laws old i procedure args (slice_get old.stages i) deed new k g refl did

-- ---- over an event

called-on : (called more : Called) (old new : World) (m : MechMaking) → ((i number procedure : ℕ) (args : List ℕ) → called i number procedure args → more i number procedure args) → Grows old new
    → CalledMaking called old m → CalledMaking more new m
called-on called more old new m on g c = record {
  i = c.i;
  own = c.own;
  session = c.session;
  procedure = c.procedure;
  args = c.args;
  was = on c.i c.session.number c.procedure c.args c.was;
  completed = completed-stays old new c.i c.own c.session.outcome g c.completed;
  made = c.made;
  spent = c.spent;
}

made-more : (called : Called) (old : World) (event : WorldEvent) (deed : Deed) (new : World) → Grows old new → Calls called old → Now (and_now called old event deed) old new
    → (m : MechMaking) → AmongMakings new.makings m → CalledMaking (and_now called old event deed) new m ⊎ Uncalled m
made-more called old event deed new g c n m a = elim (among_split old.makings n.makes m (subst (λ (ms : List MechMaking). AmongMakings ms m) n.is a)) [
  | inl before ↦ elim (c.made m before) [
    | inl by ↦ inl (called-on called (and_now called old event deed) old new m (λ i number procedure args x. inl x) g by)
    | inr un ↦ inr un
  ]
  | inr now ↦ n.of m now
]

past-more : (called : Called) (old : World) (event : WorldEvent) (deed : Deed) (new : World) → Calls called old → Came old deed new → HappensBy old event deed new
    → (i number procedure : ℕ) (args : List ℕ) → and_now called old event deed i number procedure args → IsPast (slice_get new.stages i) number
past-more called old event deed new c came did i number procedure args (inl x) = came-past old deed new came i number (c.past i number procedure args x)
past-more called old event deed new c came did i number procedure args (inr x) = now-past old event deed new i number procedure args did x

fits-more : (called : Called) (old : World) (event : WorldEvent) (deed : Deed) → IsApart old.serves.program → Calls called old → IsProper old.serves event → (i number procedure : ℕ) (args : List ℕ) → and_now called old event deed i number procedure args → Fitting number procedure args
fits-more called old event deed apart c proper i number procedure args (inl x) = c.fits i number procedure args x
fits-more called old event deed apart c proper i number procedure args (inr x) = now-fits old event deed i number procedure args apart proper x

pub calls-step : (called : Called) (laws : Below) (old : World) (event : WorldEvent) (deed : Deed) (new : World) → IsApart old.serves.program → Known old → Held old → Happens old event deed new → Calls called old → Calls (and_now called old event deed) new
calls-step called laws old event deed new apart k held h c =
    let g = grows old event deed new h in record {
      made = made-more called old event deed new g c (now-made called laws old event deed new k held g h.did);
      past = past-more called old event deed new c (came old event deed new h) h.did;
      fits = fits-more called old event deed apart c h.proper;
      same = now-same called old event deed c;
    }

-- the same calls by another name
pub calls-named : (called other : Called) (w : World) → ((i number procedure : ℕ) (args : List ℕ) → called i number procedure args → other i number procedure args)
    → ((i number procedure : ℕ) (args : List ℕ) → other i number procedure args → called i number procedure args) → Calls called w → Calls other w
calls-named called other w to from c = record {
  made = λ m a. elim (c.made m a) [
    | inl by ↦ inl (record {
      i = by.i;
      own = by.own;
      session = by.session;
      procedure = by.procedure;
      args = by.args;
      was = to by.i by.session.number by.procedure by.args by.was;
      completed = by.completed;
      made = by.made;
      spent = by.spent;
    })
    | inr un ↦ inr un
  ];
  past = λ i number procedure args x. c.past i number procedure args (from i number procedure args x);
  fits = λ i number procedure args x. c.fits i number procedure args (from i number procedure args x);
  same = λ i number p q a b x y. c.same i number p q a b (from i number p a x) (from i number q b y);
}
