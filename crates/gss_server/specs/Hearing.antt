-- A call that was heard, as the rules see it.
use Rattle.std.specs.Prelude.{ℕ, ◌+◌, Bool, if◌then◌else◌, is_some, List, [], Option, Some, None}
use Rattle.std.specs.Prelude.{Result}
use Rattle.rpc_msgs.specs.Calls.{call_value}
use Rattle.accept_book.specs.RecordShown.{Shown, KeptAnswers, handle_of}
use Rattle.accept_core.specs.declared.answer.AdmitRefusal.{AdmitRefusal}
use Rattle.accept_core.specs.declared.answer.LookRefusal.{LookRefusal}
use Rattle.accept_book.specs.declared.book_answer.Lease.{Lease}
use Rattle.accept_book.specs.declared.book_answer.Negotiated.{Negotiated}
use Rattle.accept_book.specs.declared.book_answer.Admitted.{Admitted}
use Rattle.rpc_program.specs.Programs.{ProgramSays, Serving}
use Rattle.accept_core.specs.declared.entry.Receipt.{Receipt}
use Rattle.gss_server.specs.declared.answer.Kept.{Kept}
use Rattle.gss_server.specs.declared.heard.Heard.{Heard}

-- what is served: a program, with windows of this width
abbrev pub serving : ProgramSays → ℕ → Serving
serving program width = record { program = program; width = width }

-- a call that was heard, in the terms of the rule of a record, with the program that is served
abbrev pub shown : ProgramSays → Heard → Shown
shown program h = record {
  record_octets = h.bytes.now;
  call = call_value h.call;
  now = h.now;
  draws =
      h.draws;
  serves = serving program h.width;
}

-- what was kept of an answer, in the terms of the rule of a record
abbrev pub kept_answers : Kept → KeptAnswers
kept_answers kept = record {
  now = kept.now;
  draws = kept.draws;
  negotiated =
      kept.negotiated;
  looked = kept.looked;
  admitted = kept.admitted;
  ended = kept.ended;
}

-- the handle of a context, or none
abbrev pub handle_or_none : Option ℕ → List ℕ
handle_or_none None = []
handle_or_none (Some id) = handle_of id

-- 1 if it holds, else 0
abbrev pub one_if : Bool → ℕ
one_if b = if b then 1 else 0

-- how many answers there are
abbrev pub count_of : Option Negotiated → Option (Result Lease LookRefusal)
    → Option (Result Admitted AdmitRefusal) → Option (Result Receipt AdmitRefusal) → ℕ
count_of negotiated looked admitted ended = one_if (is_some negotiated)
    + (one_if (is_some looked) + (one_if (is_some admitted) + one_if (is_some ended)))
