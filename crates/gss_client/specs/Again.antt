-- A call that is sent again over datagrams (own): with the same transaction number and the next
-- number, so that a reply may be to any of its numbers.
use Rattle.std.specs.Prelude.{◌≡◌, ℕ, zero, suc, ◌+◌, ◌-◌, List, Option, None, Some}
use Rattle.std.specs.Prelude.{Result, Ok, Err, if◌then◌else◌}
use Rattle.krb_tokens.specs.declared.end.Side.TheVariants.{Initiator}
use Rattle.spnego_core.specs.declared.outcome.Outcome.{Outcome}
use Rattle.spnego_core.specs.Outcome.{token_end}
use Rattle.gss_client.specs.declared.again.Judged.{Judged}
use Rattle.gss_client.specs.declared.again.Judged.TheVariants as judges
use Rattle.gss_client.specs.declared.refusal.ClientRefusal.{ClientRefusal}
use Rattle.gss_client.specs.declared.refusal.ClientRefusal.TheVariants.{Refused, BadReply}
use Rattle.gss_client.specs.Judging.{AnswerValue, ◌>>=◌, answer_in, is_verified, succeeded}
use Rattle.gss_client.specs.Judging.{body_result}
use Rattle.gss_client.specs.Session.{SessionState}

-- the session so many numbers later, with the same transaction number
abbrev pub later : ℕ → SessionState → SessionState
later count s = record {
  outcome = s.outcome;
  terms = s.terms;
  handle = s.handle;
  number = s.number + count;
  xid = s.xid;
}

-- the session whose call is sent once more
abbrev pub session_again : SessionState → SessionState
session_again s = later 1 s

-- what a record is to a call: it is passed over, answers the call, or refuses it
pub data Verdict : Type 0 where
  passes : Verdict
  takes : (result : List ℕ) → Verdict
  refuses : (why : ClientRefusal) → Verdict

-- the first of so many numbers, from this one on, over which the verifier is the acceptor's MIC
abbrev pub first_verified : Outcome → AnswerValue → ℕ → ℕ → Option ℕ
first_verified outcome answer number zero = None
first_verified outcome answer number (suc more) = if is_verified outcome answer number
    then Some number else first_verified outcome answer (number + 1) more

-- an answer that was judged
abbrev pub verdict_of : Result (List ℕ) ClientRefusal → Verdict
verdict_of (Ok result) = takes result
verdict_of (Err why) = refuses why

-- C13, C14, C15: an accepted reply whose verifier is over this number
abbrev pub judged_at : SessionState → AnswerValue → ℕ → Verdict
judged_at s answer number = verdict_of (do
  success ← succeeded answer
  body_result (token_end s.outcome Initiator) number answer.result s.terms.service)

-- C12: by the number that the verifier is over, if there is one
abbrev pub judged_by : SessionState → AnswerValue → Option ℕ → Verdict
judged_by s answer None = passes
judged_by s answer (Some number) = judged_at s answer number

-- C2, C3, C4: an accepted reply to the call's transaction number
abbrev pub judged_as : SessionState → ℕ → Result AnswerValue ClientRefusal → Verdict
judged_as s first (Err refusal) = passes
judged_as s first (Ok answer) =
    judged_by s answer (first_verified s.outcome answer first (s.number + 1 - first))

-- a record as the answer to the session's call, which was sent with the numbers from `first` up to
-- the session's own
unfoldable pub judged : SessionState → ℕ → List ℕ → Verdict
judged s first octets = judged_as s first (answer_in s.xid octets)

-- want of memory aside
abbrev pub Judges : Judged → Verdict → Type 0
Judges judges.Passes verdict = verdict ≡ passes
Judges (judges.Takes result) verdict = verdict ≡ takes result
Judges (judges.Denies denial) verdict = verdict ≡ refuses (Refused denial)
Judges (judges.Spoils why) verdict = verdict ≡ refuses (BadReply why)
Judges judges.NoMemory verdict = Unit {0}
