-- What is refused forges nothing.
use Rattle.std.proofs.Common.{◌≡◌, inl, inr, ℕ, ◌==◌, Bool, true, false, nat_le, refl, sym, ◌∙◌, ap, subst, List, [], slice_get, Option, Some, None, Result, Ok, Err}
use Rattle.std.proofs.lemmas.Option.{none-some, same_Some}
use Rattle.scram_mech.specs.MechMaking.{MechMaking, AmongMakings}
use Rattle.spnego_core.specs.declared.refusal.NegRefusal.{NegRefusal}
use Rattle.spnego_core.specs.Ends.{EndSays}
use Rattle.spnego_core.specs.Initiating.{Started, init_start}
use Rattle.gss_client.specs.declared.refusal.ClientRefusal.{ClientRefusal}
use Rattle.gss_client.specs.Creation.{CreatedSays}
use Rattle.gss_client.specs.Creation as created
use Rattle.gss_client.specs.Judging.{creation_step}
use Rattle.gss_client.specs.Session.{SessionState}
use Rattle.rpc_program.specs.Programs.{Serving}
use Rattle.world_laws.specs.declared.event.Happened.TheVariants.{Refused}
use Rattle.world_laws.specs.declared.event.WorldEvent.{WorldEvent}
use Rattle.world_laws.specs.declared.event.WorldEvent.TheVariants.{Start, Deliver, Lane, CallBy}
use Rattle.world_laws.specs.Stages.{StageSays}
use Rattle.world_laws.specs.Stages as stages
use Rattle.world_laws.specs.Deeds.{Deed}
use Rattle.world_laws.specs.State.{World}
use Rattle.world_laws.specs.Initiators.{Moved, did, started_by, starts, created_by, takes, calls, leaves}
use Rattle.world_laws.specs.Events.{Idles, Moves, StartsBy, DeliversBy, CallsWith, CallsBy, Happens}
use Rattle.world_laws.specs.Premises.{Marking, Unforged}
use Rattle.world_laws.specs.Headline.{IsQuiet, QuietLaw}

-- ---- it finds nothing, and opens no ticket

pub record FindsNone (deed : Deed) : Type 0 where
  pub found : deed.found ≡ []
  pub opened : deed.opened ≡ None

pub unforged : (marking : Marking) (w : World) (deed : Deed) → FindsNone deed → Unforged marking w deed
unforged marking w deed none = record {
  made = λ making among guarded. absurd (subst (λ (ms : List MechMaking). AmongMakings ms making) none.found among);
  issued = λ opened is. absurd (none-some opened (sym none.opened ∙ is));
}

idles-none : (old : World) (deed : Deed) (new : World) → Idles old deed new → FindsNone deed
idles-none old deed new i = record { found = ap (λ (d : Deed). d.found) i.0; opened = ap (λ (d : Deed). d.opened) i.0 }

moves-none : (old : World) (i : ℕ) (moved : Moved) (deed : Deed) (new : World) → (deed ≡ did moved → moved.found ≡ []) → Moves old i moved deed new → FindsNone deed
moves-none old i moved deed new none (inl m) = record { found = ap (λ (d : Deed). d.found) m.0 ∙ none m.0; opened = ap (λ (d : Deed). d.opened) m.0 }
moves-none old i moved deed new none (inr m) = record { found = ap (λ (d : Deed). d.found) m.0; opened = ap (λ (d : Deed). d.opened) m.0 }

-- ---- a start

started-none : (serves : Serving) (r : Result Started NegRefusal) → (started_by serves r).found ≡ []
started-none serves (Err refusal) = refl
started-none serves (Ok started) = refl

start-none : (old : World) (i : ℕ) (stage : Option StageSays) (deed : Deed) (new : World) → StartsBy old i stage deed new → FindsNone deed
start-none old i None deed new d = idles-none old deed new d
start-none old i (Some (stages.Ready own)) deed new d = moves-none old i (starts old.serves own) deed new (λ e. started-none old.serves (init_start own)) d
start-none old i (Some (stages.Asks xid end)) deed new d = idles-none old deed new d
start-none old i (Some (stages.Stands s)) deed new d = idles-none old deed new d
start-none old i (Some (stages.Left s)) deed new d = idles-none old deed new d
start-none old i (Some stages.Over) deed new d = idles-none old deed new d

-- ---- a reply that is refused

created-none : (serves : Serving) (first xid : ℕ) (end : EndSays) (octets : List ℕ) (what : Result CreatedSays ClientRefusal) → (created_by serves first xid end octets what).answer ≡ Refused → (created_by serves first xid end octets what).found ≡ []
created-none serves first xid end octets (Err refusal) e = refl
created-none serves first xid end octets (Ok (created.Going offer)) e = absurd cc
created-none serves first xid end octets (Ok (created.Stands outcome handle)) e = absurd cc

reply-none : (old : World) (i : ℕ) (octets : List ℕ) (first : ℕ) (stage : Option StageSays) (deed : Deed) (new : World) → deed.answer ≡ Some Refused → DeliversBy old i octets first stage deed new → FindsNone deed
reply-none old i octets first None deed new refused d = idles-none old deed new d
reply-none old i octets first (Some (stages.Ready own)) deed new refused d = idles-none old deed new d
reply-none old i octets first (Some (stages.Asks xid end)) deed new refused d =
    moves-none old i (takes old.serves first xid end octets) deed new
    (λ e. created-none old.serves first xid end octets (creation_step end xid octets) (same_Some (takes old.serves first xid end octets).answer Refused (sym (ap (λ (x : Deed). x.answer) e) ∙ refused))) d
reply-none old i octets first (Some (stages.Stands s)) deed new refused d = idles-none old deed new d
reply-none old i octets first (Some (stages.Left s)) deed new refused d = idles-none old deed new d
reply-none old i octets first (Some stages.Over) deed new refused d = idles-none old deed new d

-- ---- a call

number-none : (left last : Bool) (old : World) (i : ℕ) (s : SessionState) (procedure : ℕ) (args : List ℕ) (deed : Deed) (new : World) → CallsWith left last old i s procedure args deed new → FindsNone deed
number-none true last old i s procedure args deed new d = moves-none old i (calls s procedure args) deed new (λ e. refl) d
number-none false true old i s procedure args deed new d = moves-none old i (leaves s) deed new (λ e. refl) d
number-none false false old i s procedure args deed new d = idles-none old deed new d

call-none : (old : World) (i procedure : ℕ) (args : List ℕ) (stage : Option StageSays) (deed : Deed) (new : World) → CallsBy old i procedure args stage deed new → FindsNone deed
call-none old i procedure args None deed new d = idles-none old deed new d
call-none old i procedure args (Some (stages.Ready own)) deed new d = idles-none old deed new d
call-none old i procedure args (Some (stages.Asks xid end)) deed new d = idles-none old deed new d
call-none old i procedure args (Some (stages.Stands s)) deed new d = number-none (nat_le s.number 0x7fffffff) (s.number == 0x80000000) old i s procedure args deed new d
call-none old i procedure args (Some (stages.Left s)) deed new d = idles-none old deed new d
call-none old i procedure args (Some stages.Over) deed new d = idles-none old deed new d

-- ---- each event

quiet-none : (old : World) (event : WorldEvent) (deed : Deed) (new : World) → Happens old event deed new → IsQuiet event deed → FindsNone deed
quiet-none old (Start i) deed new h q = start-none old i (slice_get old.stages i) deed new h.did
quiet-none old (Deliver i octets first) deed new h q = reply-none old i octets first (slice_get old.stages i) deed new q h.did
quiet-none old (Lane lane octets now draws) deed new h q = record { found = q.0; opened = q.1 }
quiet-none old (CallBy i procedure args) deed new h q = call-none old i procedure args (slice_get old.stages i) deed new h.did

pub quiet : QuietLaw
quiet marking old event deed new h q = unforged marking old deed (quiet-none old event deed new h q)
