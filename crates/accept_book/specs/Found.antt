-- What the step of a book's token hands out, finds verified and fixes: what the acceptor's machine
-- says of it, where the step was taken.
use Rattle.std.specs.Prelude.{ℕ, ◌+◌, nat_lt, nat_le, ◌&&◌, is_none, if◌then◌else◌, List, []}
use Rattle.std.specs.Prelude.{length, Option, None, Some, Result, Ok, Err}
use Rattle.scram_mech.specs.MechMaking.{MechMaking}
use Rattle.spnego_core.specs.declared.refusal.NegRefusal.{NegRefusal}
use Rattle.spnego_core.specs.declared.setup.AcceptSetup.{AcceptSetup}
use Rattle.spnego_core.specs.declared.accept_end.AcceptEnd.{AcceptEnd}
use Rattle.spnego_core.specs.declared.accept_end.AcceptEnd.TheVariants as ends
use Rattle.spnego_core.specs.Accepting.{Fixed, Accepted, accept_step}
use Rattle.context_table.specs.Places.{slot_at, live_of, state_of}
use Rattle.accept_core.specs.declared.answer.MarkRefusal.{MarkRefusal}
use Rattle.accept_core.specs.History.{Standing, Unknown, Open, Whole, Over, standing, taken_of}
use Rattle.accept_core.specs.Entering.{mark_refused}
use Rattle.accept_book.specs.Booking.{Stands, mark_of, later_step}

-- a step is taken unless the machine refuses the token or the cache the step's mark
abbrev pub unless_refused : Option MarkRefusal → Accepted → Option Accepted
unless_refused None accepted = Some accepted
unless_refused (Some refusal) accepted = None

-- the step that the acceptor made of a token, where it was taken: neither token nor mark is refused
abbrev pub took : Stands → Result Accepted NegRefusal → Option Accepted
took book (Err refusal) = None
took book (Ok accepted) =
    unless_refused (mark_refused book.capacity book.greatest (taken_of book.history)
    (mark_of accepted.step)) accepted

-- the step of a first token
abbrev pub first_took : AcceptSetup → Stands → Option ℕ → List ℕ → ℕ → List ℕ → Option Accepted
first_took setup book past token now draws =
    if nat_lt book.limit (length book.history + 4) then None
    else if nat_le book.table.limit (live_of book.table) && is_none past then None
    else took book (accept_step setup ends.New token now draws)

-- the step of a later token of a context that negotiates
abbrev pub later_took : AcceptSetup → Stands → ℕ → List ℕ → ℕ → List ℕ → Option Accepted
later_took setup book id token now draws =
    if nat_lt book.limit (length book.history + 4) then None
    else took book (later_step setup (state_of (slot_at book.table id)) token now draws)

-- that of a later token, by what the history says of its id
abbrev pub took_by : Standing → AcceptSetup → Stands → ℕ → List ℕ → ℕ → List ℕ → Option Accepted
took_by Unknown setup book id token now draws = None
took_by (Open at) setup book id token now draws = later_took setup book id token now draws
took_by (Whole mech names until) setup book id token now draws = None
took_by Over setup book id token now draws = None

-- the step of a token, where it was taken: setup, book, the token's id, the id of the next context
-- that gives its place, token, moment, draws
abbrev pub step_taken : AcceptSetup → Stands → Option ℕ → Option ℕ → List ℕ → ℕ → List ℕ
    → Option Accepted
step_taken setup book None past token now draws = first_took setup book past token now draws
step_taken setup book (Some id) past token now draws =
    took_by (standing id book.history) setup book id token now draws

-- what was handed out with the answer
abbrev pub makes_of : Option Accepted → List MechMaking
makes_of None = []
makes_of (Some accepted) = accepted.makes

-- what was found verified
abbrev pub found_of : Option Accepted → List MechMaking
found_of None = []
found_of (Some accepted) = accepted.found

-- what was fixed of the context
abbrev pub fixes_of : Option Accepted → Option Fixed
fixes_of None = None
fixes_of (Some accepted) = accepted.fixes

-- the end from which a token's step is made
abbrev pub end_before : Option AcceptEnd → AcceptEnd
end_before None = ends.New
end_before (Some end) = end

-- the end from which a token's step is made: a new one for a first token, else its context's
abbrev pub stepped_from : Stands → Option ℕ → AcceptEnd
stepped_from book None = ends.New
stepped_from book (Some id) = end_before (state_of (slot_at book.table id))
