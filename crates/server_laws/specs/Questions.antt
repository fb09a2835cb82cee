-- The questions of a desk in a run's history are those of its records, in order.
use Rattle.std.specs.Prelude.{◌≡◌, ◌⊎◌, ℕ, Bool, List, [], ◌∷◌, ◌++◌}
use Rattle.sec_base.specs.declared.port.Port as ports
use Rattle.sec_base.specs.declared.link.Link as links
use Rattle.sec_base.specs.declared.clock.Clock as clocks
use Rattle.sec_base.specs.declared.draw.Draw as draws
use Rattle.accept_book.specs.RecordShown.{Asked}
use Rattle.accept_book.specs.declared.book_answer.Admitted.{Admitted}
use Rattle.rpc_program.specs.Programs.{Serving}
use Rattle.rpc_program.specs.declared.program.Speller as spellers
use Rattle.book_seats.specs.Notes.{Noted}
use Rattle.book_seats.specs.Telling.{AllTold}
use Rattle.accept_book.specs.declared.book_answer.NegAnswer.{NegAnswer}
use Rattle.gss_server.specs.declared.answer.Kept.{Kept}
use Rattle.gss_server.specs.declared.connection.Served.{Served}
use Rattle.gss_server.specs.declared.keeper.Keeper as keepers
use Rattle.journal_gate.specs.Withheld.{Withheld}
use Rattle.server_desks.specs.declared.desk.Desk.{Desk}
use Rattle.server_desks.specs.declared.desk.DeskEnd.{DeskEnd}
use Rattle.world_laws.specs.State.{InHand}
use Rattle.server_laws.specs.Served.{ruling_at}
use Rattle.server_laws.specs.ServerRun.{DeskHad}

-- a question is told as the book answered it; or, with a journal, a step whose authenticator the
-- journal refuses is told so
abbrev pub IsHeard : Asked Admitted → Asked Admitted → Type 0
IsHeard first one = (one ≡ first) ⊎ ((answer : NegAnswer) × Withheld first one answer)

-- questions as the book answered them, and as they were told
abbrev pub AreHeard : List (Asked Admitted) → List (Asked Admitted) → Type 0
AreHeard [] [] = Unit {0}
AreHeard [] (one ∷ ones) = ⊥
AreHeard (first ∷ firsts) [] = ⊥
AreHeard (first ∷ firsts) (one ∷ ones) = IsHeard first one × AreHeard firsts ones

-- what was asked is what the rules of these records ask, one record after the other, and nothing
-- else
abbrev pub AreAsked : Serving → List InHand → List (Asked Admitted) → Type 0
AreAsked serves [] asked = asked ≡ []
AreAsked serves (hand ∷ hands) asked = (firsts rest : List (Asked Admitted))
    × (asked ≡ firsts ++ rest) × AreHeard firsts (ruling_at serves hand).asked
    × AreAsked serves hands rest

-- a desk's questions as they stand in the history were told, in order, so that they are what the
-- rules of its records ask; each outcome was spelled from the ticket of its own entry
pub record ToldOf {T W : Type 0} (spelling : spellers.Ghosts W T) (serves : Serving)
    (hands : List InHand) (old : W) (noted : List (Noted T)) (new : W) : Type 0 where
  pub asked : List (Asked Admitted)
  pub told : AllTold spelling old noted asked new
  pub are : AreAsked serves hands asked

-- so it is of each desk of a run, whose records are these: so the questions of each record stand in
-- the history, in the order in which its rule asks them
abbrev pub QuestionsLaw : {P C D K M T W L Q R : Type 0} → spellers.Ghosts W T → ports.Ghosts P L
    → links.Ghosts L → clocks.Ghosts C → draws.Ghosts D → keepers.Ghosts K Kept Q
    → keepers.Ghosts M (Served L) R → Type 0
QuestionsLaw {P} {C} {D} {K} {M} {T} {W} spelling port link clock draw keeper kept =
    (journaled : Bool) (faults faults' : ℕ) (serves : Serving) (most i : ℕ)
    (old : Desk P C D K M W) (end : DeskEnd) (new : Desk P C D K M W) (noted : List (Noted T))
    (hands : List InHand)
    → DeskHad spelling journaled faults faults' serves most port link clock draw keeper kept i old
    end new noted hands → ToldOf spelling serves hands old.speller noted new.speller
