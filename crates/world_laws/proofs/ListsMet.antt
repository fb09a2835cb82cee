-- That runs in which nobody calls meet what the law of the list asks: what an initiator signs of its own list is no call's, and whose mechanism is done stays so.
use Rattle.std.proofs.Common.{◌≡◌, ◌⊎◌, inl, inr, ℕ, ◌+◌, ◌*◌, ◌%◌, refl, sym, ap, ◌∙◌, subst, arith, List, [], ◌∷◌, ◌++◌, map, get_or, slice_get, slice_set, Some}
use Rattle.std.specs.List.{AllByRecursion}
use Rattle.std.proofs.lemmas.Bool.{cases_eq}
use Rattle.std.proofs.lemmas.Option.{none-some, same_Some}
use Rattle.krb_tokens.specs.declared.end.Side.TheVariants.{Initiator, Acceptor}
use Rattle.krb_tokens.specs.declared.end.TokenEnd.{TokenEnd}
use Rattle.krb_tokens.specs.Laws.{Laws as TokenLaws}
use Rattle.krb_tokens.specs.Mic.{mic_header}
use Rattle.rpc_msgs.specs.Words.{word}
use Rattle.rpc_program.specs.Programs.{Serving}
use Rattle.scram_mech.specs.MechMaking.{MechMaking, AmongMakings, typed}
use Rattle.spnego_msgs.specs.Lists.{list_octets}
use Rattle.spnego_core.specs.declared.outcome.Outcome.{Outcome}
use Rattle.spnego_core.specs.Ends.{PlainSetup, EndSays}
use Rattle.spnego_core.specs.InitLaws.{finished_of, finished_in, InitLaw}
use Rattle.spnego_core.specs.Initiating.{own_list}
use Rattle.spnego_core.specs.ListMic.{mic_found}
use Rattle.spnego_core.specs.Outcome.{token_end}
use Rattle.gss_client.specs.Calling.{own_end, header_of}
use Rattle.gss_client.specs.Session.{SessionState}
use Rattle.world_laws.specs.declared.event.WorldEvent.{WorldEvent}
use Rattle.told_apart.specs.Apart.{IsApart}
use Rattle.world_laws.specs.Stages.{StageSays}
use Rattle.world_laws.specs.Stages as stages
use Rattle.world_laws.specs.Deeds.{Deed}
use Rattle.world_laws.specs.State.{World, moved_to}
use Rattle.world_laws.specs.Initiators.{Moved, takes, call_makings}
use Rattle.world_laws.specs.Events.{Happens, Run}
use Rattle.world_laws.specs.KnownList.{outcome_in, Finished, NoForgedList, IsNoCall, LeavesUntold, UnforgedListLaw}
use Rattle.world_laws.specs.Origin.{IsCall}
use Rattle.world_laws.specs.Premises.{Marking, BuiltKey, OnGuarded, Unforged, NoForgery}
use Rattle.world_laws.proofs.Invariants.{Below, Known, Held}
use Rattle.world_laws.proofs.Apart.{split-back}
use Rattle.world_laws.proofs.Growing.{grows, run-grows}
use Rattle.world_laws.proofs.Happening.{Move, Starting, Taking, Calling, Leaving, Came, Idling, Moving, Laning, came}
use Rattle.world_laws.proofs.Held.{held-start, held-step}
use Rattle.world_laws.proofs.Known.{known-start, known-step}
use Rattle.world_laws.proofs.Makers.{tag, tag-list_mic}
use Rattle.world_laws.proofs.Moving.{Went, Stood, takes-by}
use Rattle.world_laws.proofs.OriginCalling.{calls-step, calls-named}
use Rattle.world_laws.proofs.OriginCalls.{OwnListMic, Called, Calls, and_now, calls-start}
use Rattle.world_laws.proofs.OriginMatching.{of-made, no-list}
use Rattle.world_laws.proofs.OriginShown.{HeaderMaking, BodyMaking, SealedMaking, one-of}
use Rattle.world_laws.proofs.OriginWords.{header-kind}
use Rattle.world_laws.proofs.Owning.{taken-law}
use Rattle.world_laws.proofs.Slices.{set-same, set-other}

-- ---- a MIC over an own list is no call's

-- the number of a list's MIC is 0, and that of a body's is odd
odd-number : (end other : TokenEnd) (n : ℕ) → mic_header other 0 ≡ mic_header end (2 * n + 1) → ⊥
unfolding mic_header
odd-number end other n e = let last : 0 ≡ (2 * n + 1) % 256 = ap (λ (os : List ℕ). get_or os 15 0) e in omega (arith, last)

not-body : (tokens : TokenLaws) (s : SessionState) (args : List ℕ) (m : MechMaking) → OwnListMic m → BodyMaking s args m → ⊥
not-body tokens s args m l b =
    let octets : list_octets (own_list l.own) ++ mic_header (token_end l.made.outcome Initiator) 0 ≡ (word s.number ++ args) ++ mic_header (own_end s) (2 * s.number + 1) = ap (λ (z : MechMaking). z.octets) (sym l.made.made ∙ b) in
    let parts = split-back (list_octets (own_list l.own)) (mic_header (token_end l.made.outcome Initiator) 0) (word s.number ++ args) (mic_header (own_end s) (2 * s.number + 1))
    (tokens.long_mic (token_end l.made.outcome Initiator) 0 ∙ sym (tokens.long_mic (own_end s) (2 * s.number + 1))) octets in
    odd-number (own_end s) (token_end l.made.outcome Initiator) s.number parts.1

-- behind the first word of a header stands that it is a call, and behind that of a list an identifier
not-header : (tokens : TokenLaws) (s : SessionState) (procedure : ℕ) (m : MechMaking) → OwnListMic m → HeaderMaking s procedure m → ⊥
not-header tokens s procedure m l h =
    no-list tokens s.outcome.key (header_of s h.proc h.service h.named) (mic_header (own_end s) (2 * s.number)) (tokens.long_mic (own_end s) (2 * s.number))
    (λ high. absurd (let more = high.high in let zero_is = header-kind s h.proc h.service h.named in omega (arith, more, zero_is))) (subst OwnListMic h.is l)

not-sealed : (s : SessionState) (args : List ℕ) (m : MechMaking) → OwnListMic m → SealedMaking s args m → ⊥
not-sealed s args m l e = let signed = tag-list_mic l.own m l.made in let sealed = ap tag e in omega (arith, signed, sealed)

not-called : (tokens : TokenLaws) (s : SessionState) (procedure : ℕ) (args : List ℕ) (m : MechMaking) → OwnListMic m → AmongMakings (map typed (call_makings s procedure args)) m → ⊥
not-called tokens s procedure args m l a = by (one-of s procedure args m a)
  where
    by : HeaderMaking s procedure m ⊎ (BodyMaking s args m ⊎ SealedMaking s args m) → ⊥
    by (inl h) = not-header tokens s procedure m l h
    by (inr (inl b)) = not-body tokens s args m l b
    by (inr (inr e)) = not-sealed s args m l e

-- ---- nobody called

abbrev no_call : Called
no_call i number procedure args = ⊥

record Uncalled (w : World) : Type 0 where
  known : Known w
  held : Held w
  calls : Calls no_call w

no-event : (old : World) (event : WorldEvent) (deed : Deed) → IsNoCall event → (i number procedure : ℕ) (args : List ℕ) → IsCall old event deed i number procedure args → ⊥
no-event old event deed none i number procedure args c = subst IsNoCall c.event_is none

uncalled-step : (laws : Below) (old : World) (event : WorldEvent) (deed : Deed) (new : World) → IsApart old.serves.program → IsNoCall event → Happens old event deed new → Uncalled old → Uncalled new
uncalled-step laws old event deed new apart none h u = record {
  known = known-step laws old event deed new u.known h;
  held = held-step laws old event deed new u.held h;
  calls = calls-named (and_now no_call old event deed) no_call new (λ i number procedure args x. elim x [ inl c ↦ c | inr c ↦ no-event old event deed none i number procedure args c ])
      (λ i number procedure args c. absurd c) (calls-step no_call laws old event deed new apart u.known u.held h u.calls);
}

-- so what was found as the MIC over a list was made over an own list
uncalled-so : (laws : Below) (marking : Marking) (w : World) (deed : Deed) → Uncalled w → Unforged marking w deed → (s : SessionState) (procedure : ℕ) (args : List ℕ) (outcome : Outcome) (list : List (List ℕ)) (mic : List ℕ) → BuiltKey marking w.fixed outcome.key
    → AmongMakings deed.found (mic_found outcome Acceptor list mic) → AmongMakings (map typed (call_makings s procedure args)) (mic_found outcome Acceptor list mic) → ⊥
uncalled-so laws marking w deed u unforged s procedure args outcome list mic built found called =
    elim (of-made no_call w (mic_found outcome Acceptor list mic) u.calls (λ e. absurd (let f : 100 ≡ 92 = e in omega (arith, f))) (unforged.made (mic_found outcome Acceptor list mic) found (inr built))) [
      | inl by ↦ by.was
      | inr un ↦ not-called laws.tokens s procedure args (mic_found outcome Acceptor list mic) (un.signed refl) called
    ]

-- ---- whose mechanism is done stays so, or ends before its context stands

abbrev StaysIn : Outcome → StageSays → Type 0
StaysIn outcome stage = (stage ≡ stages.Over) ⊎ (outcome_in stage ≡ Some outcome)

abbrev BothStay : Outcome → Moved → Type 0
BothStay outcome moved = StaysIn outcome moved.stage × StaysIn outcome moved.lost

went-stays : (laws : Below) (w : World) (i xid : ℕ) (end : EndSays) (octets : List ℕ) (moved : Moved) (outcome : Outcome) → Known w → slice_get w.stages i ≡ Some (stages.Asks xid end) → finished_of end ≡ Some outcome
    → Went xid end octets moved → BothStay outcome moved
went-stays laws w i xid end octets moved outcome k there e by =
    let law : InitLaw end by.by.taken = taken-law laws w i xid end by.by.granted.result.token by.by.taken k there by.by.step_is in
    (inr (ap outcome_in by.stage ∙ (sym (ap finished_in by.by.leads) ∙ law.stays outcome e)), inl by.lost)

stood-stays : (laws : Below) (w : World) (i xid : ℕ) (end : EndSays) (octets : List ℕ) (moved : Moved) (outcome : Outcome) → Known w → slice_get w.stages i ≡ Some (stages.Asks xid end) → finished_of end ≡ Some outcome
    → Stood xid end octets moved → BothStay outcome moved
stood-stays laws w i xid end octets moved outcome k there e by =
    let law : InitLaw end by.by.taken = taken-law laws w i xid end by.by.granted.result.token by.by.taken k there by.by.step_is in
    (inr (ap outcome_in by.stage ∙ (sym (ap finished_in by.by.leads) ∙ law.stays outcome e)), inl by.lost)

takes-stays : (laws : Below) (w : World) (i first xid : ℕ) (end : EndSays) (octets : List ℕ) (outcome : Outcome) → Known w → slice_get w.stages i ≡ Some (stages.Asks xid end) → finished_of end ≡ Some outcome
    → BothStay outcome (takes w.serves first xid end octets)
takes-stays laws w i first xid end octets outcome k there e = elim (takes-by w.serves first xid end octets) [
  | inl r ↦ subst (BothStay outcome) (sym r) (inl refl, inl refl)
  | inr more ↦ elim more [
    | inl by ↦ went-stays laws w i xid end octets (takes w.serves first xid end octets) outcome k there e by
    | inr by ↦ stood-stays laws w i xid end octets (takes w.serves first xid end octets) outcome k there e by
  ]
]

-- it is this stage
at-stage : (w : World) (i : ℕ) (stage before : StageSays) (outcome : Outcome) → slice_get w.stages i ≡ Some stage → slice_get w.stages i ≡ Some before → outcome_in before ≡ Some outcome → outcome_in stage ≡ Some outcome
at-stage w i stage before outcome there at e = ap outcome_in (same_Some stage before (sym there ∙ at)) ∙ e

move-stays : (laws : Below) (w : World) (i : ℕ) (moved : Moved) (before : StageSays) (outcome : Outcome) → Known w → Move w i moved → slice_get w.stages i ≡ Some before → outcome_in before ≡ Some outcome → BothStay outcome moved
move-stays laws w i moved before outcome k (Starting own there is) at e = absurd (none-some outcome (at-stage w i (stages.Ready own) before outcome there at e))
move-stays laws w i moved before outcome k (Taking first xid end octets there is) at e =
    subst (BothStay outcome) (sym is) (takes-stays laws w i first xid end octets outcome k there (at-stage w i (stages.Asks xid end) before outcome there at e))
move-stays laws w i moved before outcome k (Calling s procedure args there left served proper is) at e =
    let same : outcome_in (stages.Stands s) ≡ Some outcome = at-stage w i (stages.Stands s) before outcome there at e in subst (BothStay outcome) (sym is) (inr same, inr same)
move-stays laws w i moved before outcome k (Leaving s procedure args there left last served proper is) at e =
    let same : outcome_in (stages.Stands s) ≡ Some outcome = at-stage w i (stages.Stands s) before outcome there at e in subst (BothStay outcome) (sym is) (inr same, inr same)

-- who ended moves no more
move-over : (w : World) (i : ℕ) (moved : Moved) → Move w i moved → slice_get w.stages i ≡ Some stages.Over → ⊥
move-over w i moved (Starting own there is) at = let e : stages.Ready own ≡ stages.Over = same_Some (stages.Ready own) stages.Over (sym there ∙ at) in absurd cc
move-over w i moved (Taking first xid end octets there is) at = let e : stages.Asks xid end ≡ stages.Over = same_Some (stages.Asks xid end) stages.Over (sym there ∙ at) in absurd cc
move-over w i moved (Calling s procedure args there left served proper is) at = let e : stages.Stands s ≡ stages.Over = same_Some (stages.Stands s) stages.Over (sym there ∙ at) in absurd cc
move-over w i moved (Leaving s procedure args there left last served proper is) at = let e : stages.Stands s ≡ stages.Over = same_Some (stages.Stands s) stages.Over (sym there ∙ at) in absurd cc

move-on : (laws : Below) (w : World) (i : ℕ) (moved : Moved) (outcome : Outcome) → Known w → Move w i moved → (before : StageSays) → slice_get w.stages i ≡ Some before → StaysIn outcome before → BothStay outcome moved
move-on laws w i moved outcome k move before at (inl over) = absurd (move-over w i moved move (at ∙ ap Some over))
move-on laws w i moved outcome k move before at (inr e) = move-stays laws w i moved before outcome k move at e

-- the initiator of this place is done with this outcome, or has ended
record DoneAt (w : World) (i : ℕ) (outcome : Outcome) : Type 0 where
  stage : StageSays
  there : slice_get w.stages i ≡ Some stage
  stays : StaysIn outcome stage

moved-done : (old new : World) (i : ℕ) (stage : StageSays) (makes : List MechMaking) (j : ℕ) (outcome : Outcome) → ((before : StageSays) → slice_get old.stages i ≡ Some before → StaysIn outcome before → StaysIn outcome stage)
    → new ≡ moved_to old i stage makes → DoneAt old j outcome → DoneAt new j outcome
moved-done old new i stage makes j outcome on is d = elim (cases_eq i j) [
  | inl e ↦
      (let at : slice_get old.stages i ≡ Some d.stage = subst (λ (k : ℕ). slice_get old.stages k ≡ Some d.stage) (sym e) d.there in
      record {
        stage = stage;
        there = ap (λ (w : World). slice_get w.stages j) is ∙ subst (λ (k : ℕ). slice_get (slice_set old.stages i stage) k ≡ Some stage) e (set-same old.stages i stage d.stage at);
        stays = on d.stage at d.stays;
      })
  | inr ne ↦ record { stage = d.stage; there = ap (λ (w : World). slice_get w.stages j) is ∙ (set-other old.stages i j stage ne ∙ d.there); stays = d.stays }
]

came-done : (laws : Below) (old : World) (deed : Deed) (new : World) (j : ℕ) (outcome : Outcome) → Known old → Came old deed new → DoneAt old j outcome → DoneAt new j outcome
came-done laws old deed new j outcome k (Idling i) d = subst (λ (w : World). DoneAt w j outcome) (sym i.1) d
came-done laws old deed new j outcome k (Moving i moved move (inl m)) d = moved-done old new i moved.stage moved.makes j outcome (λ before at s. (move-on laws old i moved outcome k move before at s).0) m.1 d
came-done laws old deed new j outcome k (Moving i moved move (inr m)) d = moved-done old new i moved.lost [] j outcome (λ before at s. (move-on laws old i moved outcome k move before at s).1) m.1 d
came-done laws old deed new j outcome k (Laning lane hand octets now draws there (inl a)) d = record { stage = d.stage; there = ap (λ (w : World). slice_get w.stages j) a.new_is ∙ d.there; stays = d.stays }
came-done laws old deed new j outcome k (Laning lane hand octets now draws there (inr b)) d = record { stage = d.stage; there = ap (λ (w : World). slice_get w.stages j) b.new_is ∙ d.there; stays = d.stays }

run-done : (laws : Below) (old : World) (events : List WorldEvent) (new : World) (run : Run old events new) (j : ℕ) (outcome : Outcome) → Known old → DoneAt old j outcome → DoneAt new j outcome
run-done laws old [] new run j outcome k d = subst (λ (w : World). DoneAt w j outcome) (sym run) d
run-done laws old (event ∷ later) new run j outcome k d =
    run-done laws run.0.world later new run.1 j outcome (known-step laws old event run.0.deed run.0.world k run.0.happens)
    (came-done laws old run.0.deed run.0.world j outcome k (came old event run.0.deed run.0.world run.0.happens) d)

untold-so : (laws : Below) (marking : Marking) (w : World) (later : List WorldEvent) (new : World) (run : Run w later new) → Known w → LeavesUntold marking new → (i : ℕ) (own : PlainSetup) (outcome : Outcome) → Finished w i own outcome
    → BuiltKey marking new.fixed outcome.key → OnGuarded marking own outcome.mech
untold-so laws marking w later new run k leaves i own outcome f built = by (run-done laws w later new run i outcome k (record { stage = f.stage; there = f.stands; stays = inr f.finished }))
  where
    by : DoneAt new i outcome → OnGuarded marking own outcome.mech
    by d = elim d.stays [
      | inl over ↦ absurd (leaves.lasting i (d.there ∙ ap Some over))
      | inr e ↦
          leaves.untold i own outcome (record { there = ap (λ (facts : List PlainSetup). slice_get facts i) (run-grows w later new run).facts ∙ f.there; stage = d.stage; stands = d.there; finished = e }) built
    ]

-- ---- over a run

lists-run : (laws : Below) (marking : Marking) (old : World) (events : List WorldEvent) (new : World) (run : Run old events new) → IsApart old.serves.program → Uncalled old → NoForgery marking old events new run → AllByRecursion IsNoCall events
    → LeavesUntold marking new → NoForgedList marking new old events new run
lists-run laws marking old [] new run apart u none calls leaves = leaves.apart
lists-run laws marking old (event ∷ later) new run apart u none calls leaves =
    let next : World = run.0.world in
    let after : Uncalled next = uncalled-step laws old event run.0.deed next apart calls.0 run.0.happens u in (
      record {
        uncalled = λ i own s procedure args outcome list mic done built found called. uncalled-so laws marking old run.0.deed u none.0 s procedure args outcome list mic built found called;
        untold = λ i own outcome f built. untold-so laws marking next later new run.1 after.known leaves i own outcome f built;
      },
      lists-run laws marking next later new run.1 (subst (λ (serves : Serving). IsApart serves.program) (sym (grows old event run.0.deed next run.0.happens).serves) apart) after none.1 calls.1 leaves,
    )

pub unforged-list : Below → UnforgedListLaw
unforged-list laws marking old events new run begins none calls leaves =
    lists-run laws marking old events new run begins.proper.program (record { known = known-start old begins; held = held-start old begins; calls = calls-start old begins }) none calls leaves
