-- Whoever handed out a making stays its owner; what initiators hand out.
use Rattle.std.proofs.Common.{◌≡◌, ◌⊎◌, inl, inr, ℕ, ◌==◌, cond, refl, sym, ap, subst, List, [], ◌∷◌, ◌++◌, map, slice_get, Option, Some, Ok}
use Rattle.gss_base.specs.declared.mech.MechKind.{MechKind}
use Rattle.krb_derive.specs.Making.{Making}
use Rattle.scram_mech.specs.Initiator.{InitModel}
use Rattle.scram_mech.specs.MechMaking.{MechMaking, AmongMakings, typed}
use Rattle.spnego_core.specs.Ends.{PlainSetup, EndSays}
use Rattle.spnego_core.specs.InitLaws.{own_of, answers_next, IsRequest, IsProof, InitLaw}
use Rattle.spnego_core.specs.Initiating.{Initiated, init_step}
use Rattle.spnego_core.proofs.Makings.{among_split}
use Rattle.gss_client.specs.Session.{SessionState}
use Rattle.world_laws.specs.Stages as stages
use Rattle.world_laws.specs.Deeds.{Deed}
use Rattle.world_laws.specs.State.{World}
use Rattle.world_laws.specs.Initiators.{Moved, refused, starts, takes, header_making, call_makings, leaves}
use Rattle.world_laws.specs.Events.{Moves, Begins}
use Rattle.world_laws.proofs.Invariants.{Below, Known, MadeRequest, MadeProof, MadeCall, InitMade, ByInitiator, ByContext, Owning}
use Rattle.world_laws.proofs.Growing.{Grows, fixed-grow, completed-stays}
use Rattle.world_laws.proofs.Happening.{Move, Starting, Taking, Calling, Leaving}
use Rattle.world_laws.proofs.Moving.{StartedBy, starts-by, takes-by}

abbrev pub Owned : World → MechMaking → Type 0
Owned w making = ByInitiator w making ⊎ ByContext w making

among-none : (makes : List MechMaking) (making : MechMaking) → makes ≡ [] → AmongMakings makes making → ⊥
among-none makes making e a = subst (λ (ms : List MechMaking). AmongMakings ms making) e a

pub owning-start : (w : World) → Begins w → Owning w
owning-start w b = record { owned = λ making a. absurd (among-none w.makings making b.unmade a) }

-- ---- owners stay

init-made-grows : (old new : World) (i : ℕ) (own : PlainSetup) (making : MechMaking) → Grows old new → InitMade old i own making → InitMade new i own making
init-made-grows old new i own making g (inl a) = inl a
init-made-grows old new i own making g (inr (inl b)) = inr (inl b)
init-made-grows old new i own making g (inr (inr (inl c))) = inr (inr (inl c))
init-made-grows old new i own making g (inr (inr (inr d))) = inr (inr (inr (record {
  session = d.session;
  completed = completed-stays old new i own d.session.outcome g d.completed;
  procedure = d.procedure;
  args = d.args;
  made = d.made;
})))

pub initiator-grows : (old new : World) (making : MechMaking) → Grows old new → ByInitiator old making → ByInitiator new making
initiator-grows old new making g b = record {
  i = b.i;
  own = b.own;
  there = subst (λ (fs : List PlainSetup). slice_get fs b.i ≡ Some b.own) (sym g.facts) b.there;
  made = init-made-grows old new b.i b.own making g b.made;
}

pub context-grows : (old new : World) (making : MechMaking) → Grows old new → ByContext old making → ByContext new making
context-grows old new making g b = record { place = b.place; context = b.context; there = fixed-grow old new b.place b.context g b.there; made = b.made }

pub owned-grows : (old new : World) (making : MechMaking) → Grows old new → Owned old making → Owned new making
owned-grows old new making g (inl a) = inl (initiator-grows old new making g a)
owned-grows old new making g (inr b) = inr (context-grows old new making g b)

-- what was handed out before has its owner, and so has what is handed out now
pub owned-more : (old new : World) (makes : List MechMaking) → Grows old new → new.makings ≡ old.makings ++ makes → Owning old → ((making : MechMaking) → AmongMakings makes making → Owned new making) → Owning new
owned-more old new makes g e o more = record {
  owned = λ making a. elim (among_split old.makings makes making (subst (λ (ms : List MechMaking). AmongMakings ms making) e a)) [
    | inl before ↦ owned-grows old new making g (o.owned making before)
    | inr now ↦ more making now
  ];
}

-- ---- what initiators hand out

start-made : (laws : Below) (w : World) (i : ℕ) (own : PlainSetup) (moved : Moved) (making : MechMaking) → StartedBy own moved → AmongMakings moved.makes making → InitMade w i own making
start-made laws w i own moved making by a =
    let m = (laws.init.starts own by.started by.is).made making (subst (λ (ms : List MechMaking). AmongMakings ms making) by.makes a) in
    inl (record { credential = m.0; is_own = m.1; made = m.2 })

pub proof-made : (own : PlainSetup) (next : Option InitModel) (chosen : Option MechKind) (making : MechMaking) → IsProof own next chosen making → MadeProof own making
proof-made own next chosen making p = record { end = p.end; first = p.first; text = p.text; answered = p.answered; answers = p.answers; made = p.made }

pub request-made : (own : PlainSetup) (chosen : Option MechKind) (making : MechMaking) → IsRequest own chosen making → MadeRequest own making
request-made own chosen making r = record { credential = r.credential; is_own = r.is_own; made = r.made }

step-made : (w : World) (i : ℕ) (end : EndSays) (taken : Initiated) (making : MechMaking) → InitLaw end taken → AmongMakings taken.makes making → InitMade w i (own_of end) making
step-made w i end taken making law a = elim (law.made making a) [
  | inl r ↦ inl (request-made (own_of end) taken.chosen making r)
  | inr more ↦ elim more [
    | inl p ↦ inr (inl (proof-made (own_of end) (answers_next end) taken.chosen making p))
    | inr m ↦ inr (inr (inl (record { outcome = m.outcome; made = m.made })))
  ]
]

-- the law of the step behind an initiator's move
pub taken-law : (laws : Below) (w : World) (i xid : ℕ) (end : EndSays) (token : List ℕ) (taken : Initiated) → Known w → slice_get w.stages i ≡ Some (stages.Asks xid end) → init_step end token ≡ Ok taken → InitLaw end taken
taken-law laws w i xid end token taken k there step = laws.init.steps end token taken (k.asks i xid end there).1 step

pub call-made : (w : World) (i : ℕ) (own : PlainSetup) (s : SessionState) (procedure : ℕ) (args : List ℕ) (making : MechMaking) → slice_get w.facts i ≡ Some own → slice_get w.stages i ≡ Some (stages.Stands s)
    → AmongMakings (map typed (call_makings s procedure args)) making → MadeCall w i own making
call-made w i own s procedure args making there stands a = record {
  session = s;
  completed = record { there = there; stage = stages.Stands s; stands = stands; session = s; in_session = refl; outcome_is = refl };
  procedure = procedure;
  args = args;
  made = a;
}

-- where the move is from, what its initiator was begun with, and that it hands out no more than that initiator may
pub among-back : (front back : List Making) (m : MechMaking) → AmongMakings (map typed back) m → AmongMakings (map typed (front ++ back)) m
among-back [] back m a = a
among-back (x ∷ front) back m a = inr (among-back front back m a)

-- the header of a destruction is among what is handed out for each call
pub leave-among : (s : SessionState) (procedure : ℕ) (args : List ℕ) (m : MechMaking) → AmongMakings (leaves s).makes m → AmongMakings (map typed (call_makings s procedure args)) m
leave-among s procedure args m (inl e) = among-back (cond (procedure == 0) (header_making s 0 1 procedure ∷ []) []) _ m (inr (inr (inl e)))
leave-among s procedure args m (inr none) = absurd none

pub record Mover (w : World) (i : ℕ) (moved : Moved) : Type 0 where
  pub own : PlainSetup
  pub there : slice_get w.facts i ≡ Some own
  pub made : (making : MechMaking) → AmongMakings moved.makes making → InitMade w i own making

start-mover : (laws : Below) (w : World) (i : ℕ) (own : PlainSetup) (moved : Moved) → slice_get w.facts i ≡ Some own → StartedBy own moved → Mover w i moved
start-mover laws w i own moved there by = record { own = own; there = there; made = λ making a. start-made laws w i own moved making by a }

step-mover : (w : World) (i : ℕ) (end : EndSays) (taken : Initiated) (moved : Moved) → slice_get w.facts i ≡ Some (own_of end) → InitLaw end taken → moved.makes ≡ taken.makes → Mover w i moved
step-mover w i end taken moved there law e = record {
  own = own_of end;
  there = there;
  made = λ making a. step-made w i end taken making law (subst (λ (ms : List MechMaking). AmongMakings ms making) e a);
}

refused-mover : (w : World) (i : ℕ) (own : PlainSetup) (moved : Moved) → slice_get w.facts i ≡ Some own → moved ≡ refused → Mover w i moved
refused-mover w i own moved there e = record { own = own; there = there; made = λ making a. absurd (among-none moved.makes making (ap (λ (m : Moved). m.makes) e) a) }

pub mover : (laws : Below) (w : World) (i : ℕ) (moved : Moved) → Known w → Move w i moved → Mover w i moved
mover laws w i moved k (Starting own there is) = subst (Mover w i) (sym is) (elim (starts-by w.serves own) [
  | inl e ↦ refused-mover w i own (starts w.serves own) (k.ready i own there) e
  | inr by ↦ start-mover laws w i own (starts w.serves own) (k.ready i own there) by
])
mover laws w i moved k (Taking first xid end octets there is) = subst (Mover w i) (sym is) (elim (takes-by w.serves first xid end octets) [
  | inl e ↦ refused-mover w i (own_of end) (takes w.serves first xid end octets) (k.asks i xid end there).0 e
  | inr more ↦ elim more [
    | inl by ↦ step-mover w i end by.by.taken (takes w.serves first xid end octets) (k.asks i xid end there).0 (taken-law laws w i xid end by.by.granted.result.token by.by.taken k there by.by.step_is) by.makes
    | inr by ↦ step-mover w i end by.by.taken (takes w.serves first xid end octets) (k.asks i xid end there).0 (taken-law laws w i xid end by.by.granted.result.token by.by.taken k there by.by.step_is) by.makes
  ]
])
mover laws w i moved k (Calling s procedure args there left served proper is) =
    let p = k.placed i (stages.Stands s) there in
    subst (Mover w i) (sym is) (record { own = p.0; there = p.1; made = λ making a. inr (inr (inr (call-made w i p.0 s procedure args making p.1 there a))) })
mover laws w i moved k (Leaving s procedure args there left last served proper is) =
    let p = k.placed i (stages.Stands s) there in
    subst (Mover w i) (sym is)
    (record { own = p.0; there = p.1; made = λ making a. inr (inr (inr (call-made w i p.0 s procedure args making p.1 there (leave-among s procedure args making a)))) })

pub move-owned : (laws : Below) (w : World) (i : ℕ) (moved : Moved) → Known w → Move w i moved → (making : MechMaking) → AmongMakings moved.makes making → ByInitiator w making
move-owned laws w i moved k move making a =
    let m : Mover w i moved = mover laws w i moved k move in
    record { i = i; own = m.own; there = m.there; made = m.made making a }

pub moves-owning : (laws : Below) (old : World) (i : ℕ) (moved : Moved) (deed : Deed) (new : World) → Grows old new → Known old → Move old i moved → Moves old i moved deed new → Owning old → Owning new
moves-owning laws old i moved deed new g k move (inl a) o =
    owned-more old new moved.makes g (ap (λ (w : World). w.makings) a.1) o (λ making m. inl (initiator-grows old new making g (move-owned laws old i moved k move making m)))
moves-owning laws old i moved deed new g k move (inr b) o = owned-more old new [] g (ap (λ (w : World). w.makings) b.1) o (λ making m. absurd m)
