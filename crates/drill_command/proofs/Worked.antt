-- A drill of seed 0 and one call, worked by hand: one session, by Kerberos, whose call is NULL.
use Rattle.std.proofs.Common.{◌≡◌, ℕ, refl, List, [], ◌∷◌, codes, Some, None}
use Rattle.sha1.specs.Sha1.{sha1}
use Rattle.gss_base.specs.declared.mark.Mark.{Mark}
use Rattle.gss_base.specs.declared.mech.MechKind.TheVariants as kinds
use Rattle.spnego_core.specs.declared.outcome.Outcome.{Outcome}
use Rattle.accept_book.specs.Booking.{names_of}
use Rattle.accept_core.specs.declared.entry.EndCause.TheVariants.{Destroyed}
use Rattle.accept_core.specs.declared.entry.Entry.{Entry}
use Rattle.accept_core.specs.declared.entry.Entry.TheVariants.{Opened, Auth, Settled, Call, Ended}
use Rattle.drill_command.specs.Drilled.{calls_of, IsSession, IsDrilled}
use Rattle.drill_plan.specs.declared.session.DrillSession.{DrillSession}

-- the session wasn't refused, agreed on the names of the ticket, and was answered no octets to its one call
pub record IsWorked (one : DrillSession) (agreed : Outcome) : Type 0 where
  pub ended : one.ended ≡ None
  pub outcome : one.outcome ≡ Some agreed
  pub mech : agreed.mech ≡ kinds.Kerberos
  pub initiator : agreed.initiator ≡ codes "user@DRILL"
  pub acceptor : agreed.acceptor ≡ codes "rpc/drill@DRILL"
  pub results : one.results.items ≡ [] ∷ []

-- its log, in order, all at the second 1,000,000: the context is opened, its mark taken, and it is settled; its first call is of procedure 0 without octets, and the second number ends it
pub worked_log : Mark → List ℕ → ℕ → List Entry
worked_log mark names lasts =
    Opened 1 1000000000000 ∷ Auth 1 mark 1000000000000 ∷ Settled 1 kinds.Kerberos names lasts 1000000000000
    ∷ Call 1 1 0 (sha1 []) ∷ Ended 1 (Destroyed 2) ∷ []

one-session : (one : DrillSession) (agreed : Outcome) (mark : Mark) (lasts : ℕ) → IsWorked one agreed
    → IsSession 0 (calls_of 0 1 0) [] (Ended 1 (Destroyed 2) ∷ Call 1 1 0 (sha1 []) ∷ Settled 1 kinds.Kerberos (names_of agreed) lasts 1000000000000 ∷ Auth 1 mark 1000000000000 ∷ Opened 1 1000000000000 ∷ []) one
one-session one agreed mark lasts w = record {
  ended = w.ended;
  agreed = agreed;
  outcome = w.outcome;
  mech = w.mech;
  named = (w.initiator, w.acceptor);
  results = w.results;
  opened = Settled 1 kinds.Kerberos (names_of agreed) lasts 1000000000000 ∷ Auth 1 mark 1000000000000 ∷ Opened 1 1000000000000 ∷ [];
  enters = record { marks = Some mark ∷ []; counted = refl; marked = refl; names = names_of agreed; lasts = lasts; is = refl };
  names = refl;
  history = refl;
}

-- such a session and such a log are those of the drill
pub worked : (one : DrillSession) (agreed : Outcome) (mark : Mark) (lasts : ℕ) → IsWorked one agreed → IsDrilled 0 1 (one ∷ []) (worked_log mark (names_of agreed) lasts)
unfolding worked_log
worked one agreed mark lasts w = ([], [], one, (refl, refl), refl, ∣ one-session one agreed mark lasts w ∣₁)
