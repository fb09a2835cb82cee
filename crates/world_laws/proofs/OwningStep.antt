-- Each making has its owner, over each event.
use Rattle.std.proofs.Common.{◌≡◌, inl, inr, ℕ, sym, ap, subst, List, [], ◌++◌, slice_get, Option, Some, option_to_list, Ok, Err}
use Rattle.scram_mech.specs.MechMaking.{MechMaking, AmongMakings}
use Rattle.accept_book.specs.declared.book_answer.Admitted.{Admitted}
use Rattle.accept_book.specs.RecordShown.{Admit, Asked, AskedStep, AskedLook, AskedAdmit, AskedEnd}
use Rattle.world_laws.specs.declared.event.Happened.{Happened}
use Rattle.world_laws.specs.declared.event.WorldEvent.{WorldEvent}
use Rattle.world_laws.specs.Deeds.{Deed}
use Rattle.world_laws.specs.State.{InHand, World}
use Rattle.world_laws.specs.Apart.{ToldApart}
use Rattle.world_laws.specs.Lanes.{in_hand, ruling_of, question_of, hand_after, makes_by, fixes_by, Follows, Asks, LaneMoves}
use Rattle.world_laws.specs.Events.{Happens}
use Rattle.world_laws.proofs.Invariants.{Below, Known, Held, ByContext, Owning}
use Rattle.world_laws.proofs.Due.{due-says}
use Rattle.world_laws.proofs.Growing.{Grows, grows}
use Rattle.world_laws.proofs.Happening.{Came, Idling, Moving, Laning, came}
use Rattle.world_laws.proofs.Owning.{owned-more, context-grows, moves-owning}
use Rattle.world_laws.proofs.OwningLane.{given, step-owned, leased, admit-owned}

-- what a question's step hands out is of a context that is fixed then
asked-owned : (laws : Below) (old new : World) (lane : ℕ) (held : Option InHand) (octets : List ℕ) (now : ℕ) (draws : List ℕ) (deed : Deed) (past : Option ℕ) (left : Option InHand) (asked : Asked Admitted) (happened : Happened) (making : MechMaking)
    → Held old → Grows old new → slice_get old.lanes lane ≡ Some held → (ruling_of old.serves (in_hand held octets now draws)).due ≡ Some (question_of asked) → ToldApart asked
    → Follows old.serves (hand_after (in_hand held octets now draws) asked) (Some happened) left → deed.fixes ≡ fixes_by old.book past asked → new.fixed ≡ old.fixed ++ option_to_list deed.fixes
    → AmongMakings (makes_by old.book past (in_hand held octets now draws) asked) making → ByContext new making
asked-owned laws old new lane held octets now draws deed past left (AskedStep id token at drawn answer) happened making h g there due told follows fixes fixed a =
    step-owned laws old new (in_hand held octets now draws) deed past left id token at drawn answer happened making h due follows fixes fixed a
asked-owned laws old new lane held octets now draws deed past left (AskedLook id at answer) happened making h g there due told follows fixes fixed a = absurd a
asked-owned laws old new lane held octets now draws deed past left (AskedAdmit lease seq service procedure args (Ok admitted)) happened making h g there due told follows fixes fixed a =
    let hand : InHand = in_hand held octets now draws in
    let d = due-says hand.octets hand.kept old.serves (Admit lease seq service procedure args) due in
    context-grows old new making g (admit-owned old hand.octets hand.kept old.serves lease seq procedure admitted.outcome args making d told (leased old lane held octets now draws lease h there d.looked) a)
asked-owned laws old new lane held octets now draws deed past left (AskedAdmit lease seq service procedure args (Err refusal)) happened making h g there due told follows fixes fixed a = absurd a
asked-owned laws old new lane held octets now draws deed past left (AskedEnd lease seq answer) happened making h g there due told follows fixes fixed a = absurd a

-- so is what a lane hands out
pub asks-owned : (laws : Below) (old : World) (lane : ℕ) (held : Option InHand) (octets : List ℕ) (now : ℕ) (draws : List ℕ) (deed : Deed) (new : World) → Held old → Grows old new → slice_get old.lanes lane ≡ Some held
    → Asks old lane (in_hand held octets now draws) deed new → (making : MechMaking) → AmongMakings deed.makes making → ByContext new making
asks-owned laws old lane held octets now draws deed new h g there b making m =
    let y = given deed.answer (makes_by old.book b.past (in_hand held octets now draws) b.asked) making (subst (λ (ms : List MechMaking). AmongMakings ms making) b.makes m) in
    asked-owned laws old new lane held octets now draws deed b.past b.left b.asked y.happened making h g there b.due b.told
    (subst (λ (answer : Option Happened). Follows old.serves (hand_after (in_hand held octets now draws) b.asked) answer b.left) y.is b.follows) b.fixes (ap (λ (w : World). w.fixed) b.new_is) y.among

lane-owning : (laws : Below) (old : World) (lane : ℕ) (held : Option InHand) (octets : List ℕ) (now : ℕ) (draws : List ℕ) (deed : Deed) (new : World) → Held old → Grows old new → slice_get old.lanes lane ≡ Some held
    → LaneMoves old lane (in_hand held octets now draws) deed new → Owning old → Owning new
lane-owning laws old lane held octets now draws deed new h g there (inl a) o = owned-more old new [] g (ap (λ (w : World). w.makings) a.new_is) o (λ making m. absurd m)
lane-owning laws old lane held octets now draws deed new h g there (inr b) o =
    owned-more old new deed.makes g (ap (λ (w : World). w.makings) b.new_is) o (λ making m. inr (asks-owned laws old lane held octets now draws deed new h g there b making m))

came-owning : (laws : Below) (old : World) (deed : Deed) (new : World) → Known old → Held old → Grows old new → Came old deed new → Owning old → Owning new
came-owning laws old deed new k h g (Idling i) o = subst Owning (sym i.1) o
came-owning laws old deed new k h g (Moving i moved move m) o = moves-owning laws old i moved deed new g k move m o
came-owning laws old deed new k h g (Laning lane held octets now draws there m) o = lane-owning laws old lane held octets now draws deed new h g there m o

pub owning-step : (laws : Below) (old : World) (event : WorldEvent) (deed : Deed) (new : World) → Known old → Held old → Happens old event deed new → Owning old → Owning new
owning-step laws old event deed new k h happens o = came-owning laws old deed new k h (grows old event deed new happens) (came old event deed new happens) o
