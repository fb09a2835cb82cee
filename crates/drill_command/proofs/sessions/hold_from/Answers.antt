use Rattle.std.proofs.Common.{◌≡◌, ◌∙◌, subst, ℕ, zero, suc, ◌<◌, nat_lt, Bool, true, List, [], Option, Some, refl, sym, ap, arith}
use Rattle.std.proofs.Math.Logic.{∥∥₁_map}
use Rattle.std.proofs.lemmas.Bool.Decides.{nat_tests}
use Rattle.sec_base.specs.Link.{Wire}
use Rattle.accept_book.specs.RecordShown.{Asked}
use Rattle.accept_book.specs.declared.book_answer.Admitted.{Admitted}
use Rattle.rpc_program.specs.Programs.{Serving}
use Rattle.spnego_core.specs.declared.outcome.Outcome.{Outcome}
use Rattle.sec_base.specs.Answers.{Rose}
use Rattle.gss_client.specs.declared.conversation.Parting.{Parting}
use Rattle.gss_client.specs.declared.conversation.Parting.TheVariants.{Finished, Spent, Foreign, Refused}
use Rattle.gss_client.specs.declared.refusal.ClientRefusal.{ClientRefusal}
use Rattle.gss_client.specs.declared.refusal.ClientRefusal.TheVariants.{LinkFault}
use Rattle.gss_client.specs.Session.{SessionState}
use Rattle.gss_client.specs.Talk.{created_from}
use Rattle.gss_client.specs.Talking.{Talking}
use Rattle.gss_server.specs.declared.answer.Kept.{Kept}
use Rattle.gate_models.specs.Looping.{Loops}
use Rattle.gss_client.specs.Conferring.{DueCall}
use Rattle.gss_client.specs.Holding.{TalkedBehind}
use Rattle.drill_plan.specs.Generator.{octets_from}
use Rattle.drill_command.specs.Held.{early_end, ComeNext, HoldsBehind}
use Rattle.drill_command.proofs.Counted.{come-next, goes-on}
use Rattle.drill_command.proofs.sessions.hold_from.Goals as goal

held : (gained : List (Asked Admitted) → Type 0) (serves : Serving) (moment client server : ℕ) (creation : Talking SessionState) (wanted : List DueCall) (kept : List Kept) (starved : Bool) (outcome : Option Outcome) (results : List (List ℕ)) (ended : Option ClientRefusal) (wire : Wire) (parting : Parting) (given : ℕ) → TalkedBehind true [] (octets_from given client) creation wanted (record { taken = []; coming = []; written = [] }) wire outcome results parting → ended ≡ early_end parting → Loops gained serves moment wire kept starved → ComeNext server kept → HoldsBehind gained serves moment client server creation wanted kept starved outcome results ended
held gained serves moment client server creation wanted kept starved outcome results ended wire parting given t e l d = record { wire = wire; parting = parting; given = given; talked = t; ends = e; looped = l; drawn = d }

-- the talk by the generator's own value
talked-from : (before : List ℕ) (given own client : ℕ) (creation : Talking SessionState) (wanted : List DueCall) (old wire : Wire) (outcome : Option Outcome) (results : List (List ℕ)) (parting : Parting) → before ≡ [] → old ≡ (record { taken = []; coming = []; written = [] }) → client ≡ own
    → TalkedBehind true before (octets_from given own) creation wanted old wire outcome results parting → TalkedBehind true [] (octets_from given client) creation wanted (record { taken = []; coming = []; written = [] }) wire outcome results parting
talked-from before given own client creation wanted old wire outcome results parting none empty is t =
    subst (λ (x : ℕ). TalkedBehind true [] (octets_from given x) creation wanted (record { taken = []; coming = []; written = [] }) wire outcome results parting) (sym is)
    (subst (λ (w : Wire). TalkedBehind true [] (octets_from given own) creation wanted w wire outcome results parting) empty
    (subst (λ (zs : List ℕ). TalkedBehind true zs (octets_from given own) creation wanted old wire outcome results parting) none t))

pub returns-clause-held : goal.returns-clause-held
returns-clause-held g c =
    let drawn = come-next _ g.J.Beginning.given g.S.Begun.value c.args.server.value _ _ c.into_generator-server.ensures.given (c.into_parts-book.ensures.drawn refl) c.requires.given c.requires.server c.as_slice.ensures.value c.tell_sizes.ensures in
    let talked = talked-from _ c.hold_calls-talk.new.draw.count.count g.C.Begun.value c.args.client.value _ _ _ _ _ _ _ c.new-confounders.ensures c.in_ok-link.ensures.wire c.requires.client (c.hold_calls-talk.ensures.told refl) in
    ∥∥₁_map c.into_parts-book.ensures.looped (λ p. held _ _ _ _ _ _ _ _ _ _ _ _ _ _ _ talked c.early_end-ended.ensures (rw (c.requires.width, ← c.requires.moment, ← c.starved-starved.ensures) at p) drawn)

pub returns-clause-plain : goal.returns-clause-plain
returns-clause-plain g c = λ own same.
    let drawn = come-next _ g.J.Beginning.given g.S.Begun.value c.args.server.value _ _ c.into_generator-server.ensures.given (c.into_parts-book.ensures.drawn refl) c.requires.given c.requires.server c.as_slice.ensures.value c.tell_sizes.ensures in
    let talked = talked-from _ c.hold_calls-talk.new.draw.count.count g.C.Begun.value c.args.client.value (created_from own) _ _ _ _ _ _ c.new-confounders.ensures c.in_ok-link.ensures.wire c.requires.client (c.hold_calls-talk.ensures.plain own same refl) in
    ∥∥₁_map c.into_parts-book.ensures.looped (λ p. held _ _ _ _ _ (created_from own) _ _ _ _ _ _ _ _ _ talked c.early_end-ended.ensures (rw (c.requires.width, ← c.requires.moment, ← c.starved-starved.ensures) at p) drawn)

pub returns-clause-server : goal.returns-clause-server
returns-clause-server g c =
    goes-on _ g.J.Beginning.given g.S.Begun.value c.args.server.value _ _ _ c.into_generator-server.ensures.place (c.into_parts-book.ensures.drawn refl) c.requires.given c.requires.server c.as_slice.ensures.value c.tell_sizes.ensures

-- a session that a fault ended parted by it
same-refusal : (one other : ClientRefusal) → Some one ≡ Some other → one ≡ other
same-refusal one other e = cc

parted : (parting : Parting) → early_end parting ≡ Some LinkFault → parting ≡ Refused LinkFault
parted Finished e = absurd (let n : ⊥ = cc in n)
parted Spent e = absurd (let n : ⊥ = cc in n)
parted Foreign e = absurd (let n : ⊥ = cc in n)
parted (Refused refusal) e = ap Refused (same-refusal refusal LinkFault e)

below : (n m : ℕ) → n < m → nat_lt n m ≡ true
below n m h = grind (arith, nat_tests)

rose : (old new : ℕ) → old ≡ 0 → Rose old new → nat_lt 0 new ≡ true
rose old zero e r = absurd (let h : old < 0 = r (omega arith) in omega (arith, h))
rose old (suc new) e r = below 0 (suc new) (omega arith)

pub returns-clause-fault : goal.returns-clause-fault
returns-clause-fault g c = λ e.
    let parting : c.hold_calls-talk.result.parting ≡ Refused LinkFault = parted _ (sym c.early_end-ended.ensures ∙ e) in
    c.starved-starved.ensures ∙ rose _ _ c.in_ok-link.ensures.faults (c.hold_calls-talk.ensures.fault parting)
