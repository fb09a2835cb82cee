-- An honest call: a session calls over a context that its server shows, and whose number it admits.
use Rattle.std.specs.Prelude.{◌≡◌, ℕ, ◌<◌, ◌≤◌, ◌^◌, true, List, ◌++◌, length, take, drop, Some, Ok}
use Rattle.rpc_msgs.specs.Words.{word}
use Rattle.rpc_msgs.specs.Records.{last_fragment}
use Rattle.rpcsec_bodies.specs.Service.{number_of}
use Rattle.rpc_program.specs.Programs.{ProgramSays, result_in}
use Rattle.rpc_program.specs.declared.limits.TheConstants.{MOST}
use Rattle.accept_book.specs.Honest.{IsOctets, IsId}
use Rattle.accept_book.specs.RecordShown.{KeptAnswers, handle_of}
use Rattle.accept_book.specs.RecordRule.{record_ruling}
use Rattle.accept_book.specs.declared.book_answer.Admitted.{Admitted}
use Rattle.accept_book.specs.declared.book_answer.Lease.{Lease}
use Rattle.gss_client.specs.declared.terms.Terms.{Terms}
use Rattle.gss_client.specs.Calling.{data_call}
use Rattle.gss_client.specs.Session.{SessionState, session_after}
use Rattle.gss_client.specs.Talk.{calls}
use Rattle.gss_client.specs.Talking.{said}
use Rattle.gss_server.specs.Connections.{framed}
use Rattle.pair_laws.specs.Answering.{Server}

-- what is called is the program that is served, in its version, and both numbers are words
-- (RFC 5531 section 9)
pub record IsToServer (program : ProgramSays) (terms : Terms) : Type 0 where
  pub number : terms.program ≡ program.id.number
  pub version : terms.version ≡ program.id.version
  pub fits : IsId program.id

-- a session on a context as the server shows it: with its outcome and its handle
abbrev pub session_on : Lease → Terms → ℕ → ℕ → SessionState
session_on lease terms number xid = record {
  outcome = lease.outcome;
  terms = terms;
  handle =
      handle_of lease.id;
  number = number;
  xid = xid;
}

-- a call to the program of a procedure that it has, with that procedure's arguments, by a service
-- that the procedure allows
pub record HonestCall (program : ProgramSays) (lease : Lease) (terms : Terms)
    (number xid procedure : ℕ) (args confounder : List ℕ) : Type 0 where
  pub called : IsToServer program terms
  pub id : lease.id < 2 ^ 64
  pub number_left : number ≤ 0x7fffffff
  pub xid_fits : xid < 2 ^ 32
  pub procedure_fits : procedure < 2 ^ 32
  pub served : program.has procedure ≡ true
  pub proper : program.takes procedure args ≡ true
  pub protected : number_of (program.needs procedure) ≤ number_of terms.service
  pub size : length args ≤ 65540
  pub block : length confounder ≡ 16
  pub octets : IsOctets (confounder ++ (word number ++ args))

-- the server showed the context, admitted the number, and the call came to a result that fits into
-- a reply; it drew 82 octets, 16 of which are a sealed reply's confounder
pub record IsAdmitted (lease : Lease) (number : ℕ) (args : List ℕ) (kept : KeptAnswers) : Type 0
  where
    pub looked : kept.looked ≡ Some (Ok lease)
    pub admitted : Admitted
    pub is_admitted : kept.admitted ≡ Some (Ok admitted)
    pub result : List ℕ
    pub is_result : result_in args admitted.outcome ≡ Some result
    pub short : length result ≤ MOST
    pub drawn : length kept.draws ≡ 82
    pub octets : IsOctets (take 16 (drop 66 kept.draws) ++ (word number ++ result))

-- the call's rule is 23, and where its reply comes next the session takes the result from it, goes
-- on, and leaves the rest of the stream
pub record IsAnswered (lease : Lease) (terms : Terms) (number xid procedure : ℕ)
    (args confounder : List ℕ) (kept : KeptAnswers) (serves : Server) (result rest : List ℕ)
    : Type 0 where
  pub rule : (record_ruling (data_call (session_on lease terms number xid) procedure args
      confounder) kept serves.serving).rule ≡ 23
  pub answer : calls (session_on lease terms number xid) procedure args confounder (framed
      (record_ruling (data_call (session_on lease terms number xid) procedure args confounder)
      kept serves.serving).reply ++ rest)
      ≡ said
      (last_fragment (data_call (session_on lease terms number xid) procedure args confounder))
      (Ok (session_after (session_on lease terms number xid), result)) rest

-- every honest call of a context that is shown, whose number is admitted, and which comes to a
-- result, is answered
abbrev pub CallLaw : Lease → Type 0
CallLaw lease =
    (terms : Terms) (number xid procedure : ℕ) (args confounder : List ℕ) (kept : KeptAnswers)
    (serves : Server) (rest : List ℕ)
    → HonestCall serves.serving.program lease terms number xid procedure args confounder
    → (a : IsAdmitted lease number args kept)
    → IsAnswered lease terms number xid procedure args confounder kept serves a.result rest
