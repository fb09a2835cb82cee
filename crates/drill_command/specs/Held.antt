-- What a session of a drill came to, and what it was answered.
use Rattle.std.specs.Prelude.{◌≡◌, ℕ, ◌*◌, Bool, true, List, [], Option, Some, None, length}
use Rattle.sec_base.specs.Link.{Wire}
use Rattle.accept_book.specs.RecordShown.{Asked}
use Rattle.accept_book.specs.declared.book_answer.Admitted.{Admitted}
use Rattle.rpc_program.specs.Programs.{Serving}
use Rattle.spnego_core.specs.declared.outcome.Outcome.{Outcome}
use Rattle.gss_client.specs.declared.conversation.Parting.{Parting}
use Rattle.gss_client.specs.declared.conversation.Parting.TheVariants.{Finished, Spent, Foreign}
use Rattle.gss_client.specs.declared.conversation.Parting.TheVariants.{Refused}
use Rattle.gss_client.specs.declared.refusal.ClientRefusal.{ClientRefusal}
use Rattle.gss_client.specs.declared.refusal.ClientRefusal.TheVariants.{BadReply}
use Rattle.gss_client.specs.declared.refusal.ReplyWhy.TheVariants.{Number, Body}
use Rattle.gss_client.specs.Session.{SessionState}
use Rattle.gss_client.specs.Start.{StartSays}
use Rattle.gss_client.specs.Talk.{created_from}
use Rattle.gss_client.specs.Talking.{Talking}
use Rattle.gss_server.specs.declared.answer.Kept.{Kept}
use Rattle.gate_models.specs.Looping.{Loops, drawn_in}
use Rattle.gss_client.specs.Conferring.{DueCall}
use Rattle.gss_client.specs.Holding.{TalkedBehind}
use Rattle.drill_plan.specs.Generator.{octets_from, after_steps}

-- why a session ended early that parted so; one whose calls were all answered didn't
abbrev pub early_end : Parting → Option ClientRefusal
early_end Finished = None
early_end Spent = Some (BadReply Number)
early_end Foreign = Some (BadReply Body)
early_end (Refused refusal) = Some refusal

-- the octets that were drawn for these answers, 82 each, are those that come next of a generator
-- with this value
abbrev pub ComeNext : ℕ → List Kept → Type 0
ComeNext x kept = drawn_in kept ≡ octets_from (82 * length kept) x

-- the generator's value after them
unfoldable pub after_answers : List Kept → ℕ → ℕ
after_answers kept x = after_steps (82 * length kept) x

-- the talk of a client whose context is created so, over some octets, which are those of the link:
-- what it heard are the replies to what it wrote, each by its kept answer, by what is served and at
-- this moment; `gained` says what was asked for them, and `starved` whether memory was
-- wanted. The client's calls have the octets that come next of a generator with the value `client`,
-- and the answers those of one with the value `server`.
pub record HoldsBehind (gained : List (Asked Admitted) → Type 0) (serves : Serving) (moment : ℕ)
    (client server : ℕ) (creation : Talking SessionState) (wanted : List DueCall)
    (kept : List Kept) (starved : Bool) (outcome : Option Outcome) (results : List (List ℕ))
    (ended : Option ClientRefusal) : Type 0
  where
    pub wire : Wire
    pub parting : Parting
    pub given : ℕ
    pub talked : TalkedBehind true [] (octets_from given client) creation wanted
        (record { taken = []; coming = []; written = [] }) wire outcome results parting
    pub ends : ended ≡ early_end parting
    pub looped : Loops gained serves moment wire kept starved
    pub drawn : ComeNext server kept

-- the same of a start by plain credentials
abbrev pub Holds : (List (Asked Admitted) → Type 0) → Serving → ℕ → ℕ → ℕ → StartSays
    → List DueCall → List Kept → Bool → Option Outcome → List (List ℕ) → Option ClientRefusal
    → Type 0
Holds gained serves moment client server start wanted kept starved outcome results ended =
    HoldsBehind gained serves moment client server (created_from start) wanted kept starved outcome
    results ended
