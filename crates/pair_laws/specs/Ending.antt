-- The end of a session: it destroys a context that its server shows, and whose number it takes
-- (RFC 2203 section 5.4).
use Rattle.std.specs.Prelude.{◌≡◌, ℕ, ◌<◌, ◌≤◌, ◌^◌, List, [], ◌∷◌, ◌++◌, Some, Ok}
use Rattle.rpc_msgs.specs.Records.{last_fragment}
use Rattle.accept_book.specs.RecordShown.{KeptAnswers, AskedLook, AskedEnd}
use Rattle.accept_book.specs.RecordRule.{record_ruling}
use Rattle.accept_book.specs.declared.book_answer.Lease.{Lease}
use Rattle.accept_core.specs.declared.entry.Receipt.{Receipt}
use Rattle.gss_client.specs.declared.terms.Terms.{Terms}
use Rattle.gss_client.specs.Calling.{destroy_call}
use Rattle.gss_client.specs.Talk.{destroys}
use Rattle.gss_client.specs.Talking.{said}
use Rattle.gss_server.specs.Connections.{framed}
use Rattle.pair_laws.specs.Answering.{Server}
use Rattle.pair_laws.specs.HonestCalls.{IsToServer, session_on}

-- a session on a context whose number and transaction number fit
pub record HonestEnd (lease : Lease) (number xid : ℕ) : Type 0 where
  pub id : lease.id < 2 ^ 64
  pub number_fits : number ≤ 0x80000000
  pub xid_fits : xid < 2 ^ 32

-- the server showed the context, and took the number of its end
pub record IsTaken (lease : Lease) (kept : KeptAnswers) : Type 0 where
  pub looked : kept.looked ≡ Some (Ok lease)
  pub receipt : Receipt
  pub ended : kept.ended ≡ Some (Ok receipt)

-- the destruction's rule is 24, it asks for the context and for its end and for nothing else, and
-- where its reply comes next the context is destroyed, and the rest of the stream is left
pub record IsDestroyed (lease : Lease) (terms : Terms) (number xid : ℕ) (kept : KeptAnswers)
    (serves : Server) (receipt : Receipt) (rest : List ℕ) : Type 0 where
  pub rule : (record_ruling (destroy_call (session_on lease terms number xid)) kept
      serves.serving).rule
      ≡ 24
  pub asked : (record_ruling (destroy_call (session_on lease terms number xid)) kept
      serves.serving).asked
      ≡ AskedLook lease.id kept.now (Ok lease) ∷ AskedEnd lease number (Ok receipt) ∷ []
  pub result : destroys (session_on lease terms number xid) (framed (record_ruling
      (destroy_call (session_on lease terms number xid)) kept serves.serving).reply ++ rest)
      ≡ said (last_fragment (destroy_call (session_on lease terms number xid))) (Ok tt) rest

-- every end of a session whose context is shown, and whose number is taken, is answered
abbrev pub EndLaw : Type 0
EndLaw =
    (lease : Lease) (terms : Terms) (number xid : ℕ) (kept : KeptAnswers) (serves : Server)
    (rest : List ℕ) → IsToServer serves.serving.program terms → HonestEnd lease number xid →
    (t : IsTaken lease kept)
    → IsDestroyed lease terms number xid kept serves t.receipt rest
