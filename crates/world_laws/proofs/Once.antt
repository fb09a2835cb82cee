-- An initiator hands out one proof, and proofs and requests only by the mechanism that was chosen.
use Rattle.std.proofs.Common.{◌≡◌, inl, inr, ℕ, refl, sym, ◌∙◌, ap, subst, arith, List, [], ◌++◌, slice_get, slice_set, Option, Some, None}
use Rattle.std.proofs.lemmas.Option.{none-some, same_Some}
use Rattle.gss_base.specs.declared.mech.MechKind.{MechKind}
use Rattle.gss_base.specs.declared.mech.MechKind.TheVariants as kinds
use Rattle.scram_mech.specs.MechMaking.{MechMaking, AmongMakings}
use Rattle.spnego_core.specs.declared.outcome.Outcome.{Outcome}
use Rattle.spnego_core.specs.Ends.{PlainSetup, EndSays}
use Rattle.spnego_core.specs.EndSteps as steps
use Rattle.spnego_core.specs.Initiating.{Initiated}
use Rattle.spnego_core.specs.InitLaws.{own_of, chosen_of, finished_in, answers_next, answers_in, IsRequest, IsProof, InitLaw}
use Rattle.spnego_core.proofs.Makings.{among_split}
use Rattle.gss_client.specs.Session.{SessionState}
use Rattle.world_laws.specs.declared.event.WorldEvent.{WorldEvent}
use Rattle.world_laws.specs.Stages.{StageSays}
use Rattle.world_laws.specs.Stages as stages
use Rattle.world_laws.specs.Deeds.{Deed}
use Rattle.world_laws.specs.State.{InHand, World}
use Rattle.world_laws.specs.Initiators.{Moved, refused, starts, takes, calls, leaves}
use Rattle.world_laws.specs.Lanes.{in_hand, LaneMoves}
use Rattle.world_laws.specs.Setups.{Proper}
use Rattle.world_laws.specs.Events.{Moves, Begins, Happens}
use Rattle.world_laws.proofs.Invariants.{Below, Known, Held, MadeRequest, MadeProof, MayAsk, FreshFacts, Once}
use Rattle.world_laws.proofs.Growing.{Grows, grows}
use Rattle.world_laws.proofs.Happening.{Move, Starting, Taking, Calling, Leaving, Came, Idling, Moving, Laning, came}
use Rattle.world_laws.proofs.Known.{known-step, goes-on}
use Rattle.world_laws.proofs.Makers.{tag-request, tag-proof, tag-list_mic}
use Rattle.world_laws.proofs.Moving.{StartedBy, starts-by, Went, Stood, takes-by}
use Rattle.world_laws.proofs.OnceKept.{OnceAsking, OnceStanding, OnceAt, OneOf, OnceAll, to-all, from-all, standing-more, ones-more, all-more, all-set}
use Rattle.world_laws.proofs.OnceMakers.{OneOwner, NoneOf, none-of, proof-kind, others-none, calls-none, contexts-none}
use Rattle.world_laws.proofs.OnceOwners.{one-owner}
use Rattle.world_laws.proofs.OnceSteps.{OneProof, one-proof, start-first}
use Rattle.world_laws.proofs.Owning.{taken-law, call-made, leave-among, mover}
use Rattle.world_laws.proofs.OwningStep.{asks-owned}

pub once-start : (w : World) → Begins w → Once w
once-start w b = record {
  proofs = λ i own making other there a c p q. absurd (none making a);
  unproved = λ i own making stands a p. none making a;
  unasked = λ i own making stands a r. none making a;
  proved = λ i xid end making stands a p. absurd (none making a);
  done_proved = λ i own outcome making c a p. absurd (none making a);
  asked = λ i xid end making stands a r. absurd (none making a);
  done_asked = λ i own outcome making c a r. absurd (none making a);
}
  where
    none : (making : MechMaking) → AmongMakings w.makings making → ⊥
    none making a = subst (λ (ms : List MechMaking). AmongMakings ms making) b.unmade a

-- where an initiator comes to, over what was handed out then
record Comes (own : PlainSetup) (makes more : List MechMaking) (stage : StageSays) : Type 0 where
  ones : OneOf own (makes ++ more)
  at : OnceAt own (makes ++ more) stage

over-comes : (own : PlainSetup) (makes : List MechMaking) (stage : StageSays) → stage ≡ stages.Over → OneOf own makes → Comes own makes [] stage
over-comes own makes stage e ones = record { ones = ones-more own makes [] (none-of own) ones; at = subst (OnceAt own (makes ++ [])) (sym e) tt }

-- ---- it starts

start-requests : (laws : Below) (own : PlainSetup) (moved : Moved) (by : StartedBy own moved) (making : MechMaking) → AmongMakings moved.makes making → AmongMakings by.started.makes making
start-requests laws own moved by making a = subst (λ (ms : List MechMaking). AmongMakings ms making) by.makes a

start-unproved : (laws : Below) (own : PlainSetup) (makes : List MechMaking) (moved : Moved) → StartedBy own moved → NoneOf own makes → (making : MechMaking) → AmongMakings (makes ++ moved.makes) making → MadeProof own making → ⊥
start-unproved laws own makes moved by n making a p = elim (among_split makes moved.makes making a) [
  | inl before ↦ n.proofs making before p
  | inr now ↦
      let r = (laws.init.starts own by.started by.is).made making (start-requests laws own moved by making now) in
      omega (arith, tag-proof laws.scram own making p, tag-request own making (record { credential = r.0; is_own = r.1; made = r.2 }))
]

start-asked : (laws : Below) (own : PlainSetup) (makes : List MechMaking) (moved : Moved) (chosen : Option MechKind) → StartedBy own moved → NoneOf own makes → (making : MechMaking) → AmongMakings (makes ++ moved.makes) making → MadeRequest own making → MayAsk own chosen
start-asked laws own makes moved chosen by n making a r = elim (among_split makes moved.makes making a) [
  | inl before ↦ absurd (n.requests making before r)
  | inr now ↦ inl (start-first own by.started making by.is (start-requests laws own moved by making now))
]

start-comes : (laws : Below) (own : PlainSetup) (makes : List MechMaking) (moved : Moved) → StartedBy own moved → NoneOf own makes → Comes own makes moved.makes moved.stage
start-comes laws own makes moved by n = record {
  ones = λ making other a b p q. absurd (start-unproved laws own makes moved by n making a p);
  at = subst (OnceAt own (makes ++ moved.makes)) (sym by.stage) (record {
    proved = λ making a p. absurd (start-unproved laws own makes moved by n making a p);
    asked = λ making a r. start-asked laws own makes moved (chosen_of by.started.end) by n making a r;
  });
}

-- ---- it takes a reply

proof-now : (laws : Below) (end : EndSays) (taken : Initiated) (making : MechMaking) → InitLaw end taken → AmongMakings taken.makes making → MadeProof (own_of end) making → IsProof (own_of end) (answers_next end) taken.chosen making
proof-now laws end taken making law a p = elim (law.made making a) [
  | inl r ↦ absurd (omega (arith, tag-proof laws.scram (own_of end) making p, tag-request (own_of end) making (record { credential = r.credential; is_own = r.is_own; made = r.made })))
  | inr more ↦ elim more [ inl q ↦ q | inr m ↦ absurd (omega (arith, tag-proof laws.scram (own_of end) making p, tag-list_mic (own_of end) making (record { outcome = m.outcome; made = m.made }))) ]
]

request-now : (laws : Below) (end : EndSays) (taken : Initiated) (making : MechMaking) → InitLaw end taken → AmongMakings taken.makes making → MadeRequest (own_of end) making → IsRequest (own_of end) taken.chosen making
request-now laws end taken making law a r = elim (law.made making a) [
  | inl q ↦ q
  | inr more ↦ elim more [
    | inl p ↦ absurd (omega (
      arith,
      tag-request (own_of end) making r,
      tag-proof laws.scram (own_of end) making (record { end = p.end; first = p.first; text = p.text; answered = p.answered; answers = p.answers; made = p.made }),
    ))
    | inr m ↦ absurd (omega (arith, tag-request (own_of end) making r, tag-list_mic (own_of end) making (record { outcome = m.outcome; made = m.made })))
  ]
]

-- what holds of the step
record Steps (end : EndSays) (makes : List MechMaking) (taken : Initiated) : Type 0 where
  ones : OneOf (own_of end) (makes ++ taken.makes)
  proved : (making : MechMaking) → AmongMakings (makes ++ taken.makes) making → MadeProof (own_of end) making → (answers_in taken.step ≡ None) × (taken.chosen ≡ Some kinds.Scram)
  asked : (making : MechMaking) → AmongMakings (makes ++ taken.makes) making → MadeRequest (own_of end) making → MayAsk (own_of end) taken.chosen

-- a proof before, and one now
proof-twice : (laws : Below) (end : EndSays) (makes : List MechMaking) (taken : Initiated) (making other : MechMaking) → InitLaw end taken → OnceAsking (own_of end) makes end
    → AmongMakings makes making → MadeProof (own_of end) making → AmongMakings taken.makes other → MadeProof (own_of end) other → ⊥
proof-twice laws end makes taken making other law once a p b q =
    let now = proof-now laws end taken other law b q in
    none-some now.end (sym (once.proved making a p).0 ∙ now.was)

step-ones : (laws : Below) (end : EndSays) (makes : List MechMaking) (taken : Initiated) → InitLaw end taken → OneProof taken → OneOf (own_of end) makes → OnceAsking (own_of end) makes end → OneOf (own_of end) (makes ++ taken.makes)
step-ones laws end makes taken law one ones once making other a b p q = elim (among_split makes taken.makes making a) [
  | inl c ↦ elim (among_split makes taken.makes other b) [
    | inl d ↦ ones making other c d p q
    | inr d ↦ absurd (proof-twice laws end makes taken making other law once c p d q)
  ]
  | inr c ↦ elim (among_split makes taken.makes other b) [
    | inl d ↦ absurd (proof-twice laws end makes taken other making law once d q c p)
    | inr d ↦ one.same making other c d (proof-kind laws.scram (own_of end) making p) (proof-kind laws.scram (own_of end) other q)
  ]
]

may-turn : (own : PlainSetup) (before after : Option MechKind) → (before ≡ Some kinds.Kerberos → after ≡ Some kinds.Kerberos) → MayAsk own before → MayAsk own after
may-turn own before after f (inl e) = inl e
may-turn own before after f (inr e) = inr (f e)

step-holds : (laws : Below) (end : EndSays) (makes : List MechMaking) (taken : Initiated) → InitLaw end taken → OneProof taken → OneOf (own_of end) makes → OnceAsking (own_of end) makes end → Steps end makes taken
step-holds laws end makes taken law one ones once = record {
  ones = step-ones laws end makes taken law one ones once;
  proved = λ making a p. elim (among_split makes taken.makes making a) [
    | inl b ↦ (let was = once.proved making b p in (law.once kinds.Scram was.1 was.0, law.turns kinds.Scram was.1))
    | inr b ↦ (one.next making b (proof-kind laws.scram (own_of end) making p), (proof-now laws end taken making law b p).now)
  ];
  asked = λ making a r. elim (among_split makes taken.makes making a) [
    | inl b ↦ may-turn (own_of end) (chosen_of end) taken.chosen (law.turns kinds.Kerberos) (once.asked making b r)
    | inr b ↦ inr (request-now laws end taken making law b r).now
  ];
}

going-asks : (end next : EndSays) (makes : List MechMaking) (taken : Initiated) (token : List ℕ) → InitLaw end taken → Steps end makes taken → taken.step ≡ steps.More next token → OnceAsking (own_of end) (makes ++ taken.makes) next
going-asks end next makes taken token law s e =
    let on = goes-on end taken next token law e in
    record {
      proved = λ making a p. (let h = s.proved making a p in (sym (ap answers_in e) ∙ h.0, on.chosen_is ∙ h.1));
      asked = λ making a r. subst (MayAsk (own_of end)) (sym on.chosen_is) (s.asked making a r);
    }

done-stands : (end : EndSays) (makes : List MechMaking) (taken : Initiated) (outcome : Outcome) → InitLaw end taken → Steps end makes taken → taken.step ≡ steps.Done outcome → OnceStanding (own_of end) (makes ++ taken.makes) outcome
done-stands end makes taken outcome law s e =
    let is : taken.chosen ≡ Some outcome.mech = law.chosen outcome (ap finished_in e) in
    record {
      proved = λ making a p. same_Some outcome.mech kinds.Scram (sym is ∙ (s.proved making a p).1);
      asked = λ making a r. subst (MayAsk (own_of end)) is (s.asked making a r);
    }

-- ---- each move

-- where an initiator comes to by a move, and where memory is wanted
record MoveComes (w : World) (i : ℕ) (moved : Moved) : Type 0 where
  own : PlainSetup
  there : slice_get w.facts i ≡ Some own
  stage : Comes own w.makings moved.makes moved.stage
  lost : Comes own w.makings [] moved.lost

refused-comes : (w : World) (i : ℕ) (own : PlainSetup) (moved : Moved) → slice_get w.facts i ≡ Some own → OneOf own w.makings → moved ≡ refused → MoveComes w i moved
refused-comes w i own moved there ones e = subst (MoveComes w i) (sym e) (record {
  own = own;
  there = there;
  stage = over-comes own w.makings stages.Over refl ones;
  lost = over-comes own w.makings stages.Over refl ones;
})

went-comes : (laws : Below) (w : World) (i xid : ℕ) (end : EndSays) (octets : List ℕ) (moved : Moved) → Known w → slice_get w.stages i ≡ Some (stages.Asks xid end) → OneOf (own_of end) w.makings → OnceAsking (own_of end) w.makings end
    → Went xid end octets moved → MoveComes w i moved
went-comes laws w i xid end octets moved k there ones once by =
    let law = taken-law laws w i xid end by.by.granted.result.token by.by.taken k there by.by.step_is in
    let s = step-holds laws end w.makings by.by.taken law (one-proof laws.scram end by.by.granted.result.token by.by.taken by.by.step_is) ones once in
    record {
      own = own_of end;
      there = (k.asks i xid end there).0;
      stage = subst (λ (ms : List MechMaking). Comes (own_of end) w.makings ms moved.stage) (sym by.makes)
          (record { ones = s.ones; at = subst (OnceAt (own_of end) (w.makings ++ by.by.taken.makes)) (sym by.stage) (going-asks end by.offer.end w.makings by.by.taken by.offer.token law s by.by.leads) });
      lost = over-comes (own_of end) w.makings moved.lost by.lost ones;
    }

stood-comes : (laws : Below) (w : World) (i xid : ℕ) (end : EndSays) (octets : List ℕ) (moved : Moved) → Known w → slice_get w.stages i ≡ Some (stages.Asks xid end) → OneOf (own_of end) w.makings → OnceAsking (own_of end) w.makings end
    → Stood xid end octets moved → MoveComes w i moved
stood-comes laws w i xid end octets moved k there ones once by =
    let law = taken-law laws w i xid end by.by.granted.result.token by.by.taken k there by.by.step_is in
    let s = step-holds laws end w.makings by.by.taken law (one-proof laws.scram end by.by.granted.result.token by.by.taken by.by.step_is) ones once in
    record {
      own = own_of end;
      there = (k.asks i xid end there).0;
      stage = subst (λ (ms : List MechMaking). Comes (own_of end) w.makings ms moved.stage) (sym by.makes)
          (record { ones = s.ones; at = subst (OnceAt (own_of end) (w.makings ++ by.by.taken.makes)) (sym by.stage) (done-stands end w.makings by.by.taken by.outcome law s by.by.leads) });
      lost = over-comes (own_of end) w.makings moved.lost by.lost ones;
    }

call-comes : (laws : Below) (w : World) (i : ℕ) (own : PlainSetup) (s : SessionState) (procedure : ℕ) (args : List ℕ) → slice_get w.facts i ≡ Some own → slice_get w.stages i ≡ Some (stages.Stands s)
    → OneOf own w.makings → OnceStanding own w.makings s.outcome → MoveComes w i (calls s procedure args)
call-comes laws w i own s procedure args there stands ones once =
    let n = calls-none laws.scram w i own own (calls s procedure args).makes (λ making a. call-made w i own s procedure args making there stands a) in
    record {
      own = own;
      there = there;
      stage = record { ones = ones-more own w.makings (calls s procedure args).makes n ones; at = standing-more own w.makings (calls s procedure args).makes s.outcome n once };
      lost = record { ones = ones-more own w.makings [] (none-of own) ones; at = standing-more own w.makings [] s.outcome (none-of own) once };
    }

leave-comes : (laws : Below) (w : World) (i : ℕ) (own : PlainSetup) (s : SessionState) (procedure : ℕ) (args : List ℕ) → slice_get w.facts i ≡ Some own → slice_get w.stages i ≡ Some (stages.Stands s)
    → OneOf own w.makings → OnceStanding own w.makings s.outcome → MoveComes w i (leaves s)
leave-comes laws w i own s procedure args there stands ones once =
    let n = calls-none laws.scram w i own own (leaves s).makes (λ making a. call-made w i own s procedure args making there stands (leave-among s procedure args making a)) in
    record {
      own = own;
      there = there;
      stage = record { ones = ones-more own w.makings (leaves s).makes n ones; at = standing-more own w.makings (leaves s).makes s.outcome n once };
      lost = record { ones = ones-more own w.makings [] (none-of own) ones; at = standing-more own w.makings [] s.outcome (none-of own) once };
    }

move-comes : (laws : Below) (w : World) (i : ℕ) (moved : Moved) → Known w → OnceAll w.facts w.stages w.makings → Move w i moved → MoveComes w i moved
move-comes laws w i moved k h (Starting own there is) =
    let here = k.ready i own there in
    subst (MoveComes w i) (sym is) (elim (starts-by w.serves own) [
      | inl e ↦ refused-comes w i own (starts w.serves own) here (h.ones i own here) e
      | inr by ↦ record {
        own = own;
        there = here;
        stage = start-comes laws own w.makings (starts w.serves own) by (h.at i own (stages.Ready own) here there);
        lost = over-comes own w.makings (starts w.serves own).lost by.lost (h.ones i own here);
      }
    ])
move-comes laws w i moved k h (Taking first xid end octets there is) =
    let here = (k.asks i xid end there).0 in
    let ones = h.ones i (own_of end) here in
    let once = h.at i (own_of end) (stages.Asks xid end) here there in
    subst (MoveComes w i) (sym is) (elim (takes-by w.serves first xid end octets) [
      | inl e ↦ refused-comes w i (own_of end) (takes w.serves first xid end octets) here ones e
      | inr more ↦ elim more [
        | inl by ↦ went-comes laws w i xid end octets (takes w.serves first xid end octets) k there ones once by
        | inr by ↦ stood-comes laws w i xid end octets (takes w.serves first xid end octets) k there ones once by
      ]
    ])
move-comes laws w i moved k h (Calling s procedure args there left served proper is) =
    let p = k.placed i (stages.Stands s) there in
    subst (MoveComes w i) (sym is) (call-comes laws w i p.0 s procedure args p.1 there (h.ones i p.0 p.1) (h.at i p.0 (stages.Stands s) p.1 there))
move-comes laws w i moved k h (Leaving s procedure args there left last served proper is) =
    let p = k.placed i (stages.Stands s) there in
    subst (MoveComes w i) (sym is) (leave-comes laws w i p.0 s procedure args p.1 there (h.ones i p.0 p.1) (h.at i p.0 (stages.Stands s) p.1 there))

-- ---- each event

move-all : (laws : Below) (w : World) (i : ℕ) (moved : Moved) → Known w → OneOwner w → OnceAll w.facts w.stages w.makings → Move w i moved
    → OnceAll w.facts (slice_set w.stages i moved.stage) (w.makings ++ moved.makes) × OnceAll w.facts (slice_set w.stages i moved.lost) (w.makings ++ [])
move-all laws w i moved k one h move =
    let c = move-comes laws w i moved k h move in
    let m = mover laws w i moved k move in (
      all-set w.facts w.stages w.makings moved.makes i moved.stage c.own c.there c.stage.ones c.stage.at (λ j other ne there. others-none laws.scram w i j m.own other moved.makes one m.there there ne m.made) h,
      all-set w.facts w.stages w.makings [] i moved.lost c.own c.there c.lost.ones c.lost.at (λ j other ne there. none-of other) h,
    )

moves-all : (laws : Below) (old : World) (i : ℕ) (moved : Moved) (deed : Deed) (new : World) → Known old → OneOwner old → OnceAll old.facts old.stages old.makings → Move old i moved → Moves old i moved deed new
    → OnceAll new.facts new.stages new.makings
moves-all laws old i moved deed new k one h move (inl a) = subst (λ (w : World). OnceAll w.facts w.stages w.makings) (sym a.1) (move-all laws old i moved k one h move).0
moves-all laws old i moved deed new k one h move (inr b) = subst (λ (w : World). OnceAll w.facts w.stages w.makings) (sym b.1) (move-all laws old i moved k one h move).1

lane-all : (laws : Below) (old : World) (lane : ℕ) (held : Option InHand) (octets : List ℕ) (now : ℕ) (draws : List ℕ) (deed : Deed) (new : World) → Held old → Grows old new → slice_get old.lanes lane ≡ Some held
    → LaneMoves old lane (in_hand held octets now draws) deed new → OnceAll old.facts old.stages old.makings → OnceAll new.facts new.stages new.makings
lane-all laws old lane held octets now draws deed new h g there (inl a) o =
    subst (λ (w : World). OnceAll w.facts w.stages w.makings) (sym a.new_is) (all-more old.facts old.stages old.makings [] (λ i own e. none-of own) o)
lane-all laws old lane held octets now draws deed new h g there (inr b) o = subst (λ (w : World). OnceAll w.facts w.stages w.makings) (sym b.new_is)
    (all-more old.facts old.stages old.makings deed.makes (λ i own e. contexts-none laws.scram new own deed.makes (asks-owned laws old lane held octets now draws deed new h g there b)) o)

came-all : (laws : Below) (old : World) (deed : Deed) (new : World) → Known old → Held old → OneOwner old → Grows old new → Came old deed new → OnceAll old.facts old.stages old.makings → OnceAll new.facts new.stages new.makings
came-all laws old deed new k h one g (Idling i) o = subst (λ (w : World). OnceAll w.facts w.stages w.makings) (sym i.1) o
came-all laws old deed new k h one g (Moving i moved move m) o = moves-all laws old i moved deed new k one o move m
came-all laws old deed new k h one g (Laning lane held octets now draws there m) o = lane-all laws old lane held octets now draws deed new h g there m o

pub once-kept : (laws : Below) (old : World) (event : WorldEvent) (deed : Deed) (new : World) → Known old → Held old → OneOwner old → Happens old event deed new → Once old → Once new
once-kept laws old event deed new k h one happens o =
    from-all new (known-step laws old event deed new k happens) (came-all laws old deed new k h one (grows old event deed new happens) (came old event deed new happens) (to-all old k o))

-- by what is fresh and by what setups are
pub once-step : (laws : Below) (old : World) (event : WorldEvent) (deed : Deed) (new : World) → Known old → Held old → Proper old → FreshFacts old → Happens old event deed new → Once old → Once new
once-step laws old event deed new k h proper fresh happens o = once-kept laws old event deed new k h (one-owner laws.scram old proper fresh) happens o
