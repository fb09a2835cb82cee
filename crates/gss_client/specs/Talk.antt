-- A client's talk: from its start, its calls and the octets that it hears to what it writes, its
-- outcome, its results and its end. A creation is by whichever machine the initiator is.
use Rattle.std.specs.Prelude.{ℕ, zero, suc, List, [], Result, Ok, Err}
use Rattle.rpcsec_msgs.specs.declared.numbers.TheConstants.{RPCSEC_GSS_INIT}
use Rattle.rpcsec_msgs.specs.declared.numbers.TheConstants.{RPCSEC_GSS_CONTINUE_INIT}
use Rattle.spnego_core.specs.declared.outcome.Outcome.{Outcome}
use Rattle.spnego_core.specs.declared.refusal.NegRefusal.{NegRefusal}
use Rattle.spnego_core.specs.Initiating.{Started, init_start}
use Rattle.init_ends.specs.Ends.{EndMeans}
use Rattle.init_ends.specs.Initiating.{end_start, end_step}
use Rattle.gss_client.specs.declared.refusal.ClientRefusal.TheVariants.{Negotiation, BadReply}
use Rattle.gss_client.specs.declared.refusal.ReplyWhy.TheVariants.{Steps}
use Rattle.gss_client.specs.Start.{StartSays, StartMeans}
use Rattle.gss_client.specs.Creation.{Machine, plain_machine, OfferOf, CreatedOf, OfferSays}
use Rattle.gss_client.specs.Creation.{CreatedSays}
use Rattle.gss_client.specs.Creation as created
use Rattle.gss_client.specs.declared.terms.Terms.{Terms}
use Rattle.gss_client.specs.Calling.{creation_call, data_call, destroy_call}
use Rattle.gss_client.specs.declared.establish.TheConstants.{MOST_REPLIES}
use Rattle.gss_client.specs.Judging.{creation_by, result_taken, destroyed_in}
use Rattle.gss_client.specs.Rank.{replies_left}
use Rattle.gss_client.specs.Session.{SessionState, xid_after}
use Rattle.gss_client.specs.Talking.{Talking, ◌>>=◌, judges, exchanges}

-- ---- creation

-- one turn: a creation call with the offer's token and handle, and what its reply leads to
unfoldable pub turns_by : {E : Type 0} → Machine E → Terms → ℕ → ℕ → OfferOf E
    → Talking (CreatedOf E)
turns_by machine terms xid proc offer = do
  reply ← exchanges (creation_call terms xid proc offer.handle offer.token)
  judges (creation_by machine offer.end xid reply)

-- the session that begins with this number
abbrev pub begun : Terms → ℕ → ℕ → Outcome → List ℕ → SessionState
begun terms first xid outcome handle =
    record { outcome = outcome; terms = terms; handle = handle; number = first; xid = xid }

-- what follows a turn: `next` with a further offer, or the session if the context stands
abbrev pub by_turn : {E : Type 0} → Terms → ℕ → ℕ → (OfferOf E → Talking SessionState)
    → CreatedOf E → Talking SessionState
by_turn terms first xid next (created.Going offer) = next offer
by_turn terms first xid next (created.Stands outcome handle) =
    judges (Ok (begun terms first (xid_after xid) outcome handle))

-- turn after turn, of which so many may still come
unfoldable pub creates_by : {E : Type 0} → Machine E → ℕ → Terms → ℕ → ℕ → ℕ → OfferOf E
    → Talking SessionState
creates_by machine zero terms first xid proc offer = judges (Err (BadReply Steps))
creates_by machine (suc left) terms first xid proc offer = do
  what ← turns_by machine terms xid proc offer
  by_turn terms first xid
      (creates_by machine left terms first (xid_after xid) RPCSEC_GSS_CONTINUE_INIT) what

-- ---- creation by objects

-- by how the negotiation began: turn after turn, or its refusal. An object needn't ever be done, so
-- that the count of turns is bounded.
abbrev pub begins_over : Terms → ℕ → Result (EndMeans × List ℕ) NegRefusal → Talking SessionState
begins_over terms first (Err refusal) = judges (Err (Negotiation refusal))
begins_over terms first (Ok started) = creates_by end_step MOST_REPLIES terms first 1
    RPCSEC_GSS_INIT (record { end = started.0; handle = []; token = started.1 })

-- the creation of a session from this start, whose first call then has the start's number
unfoldable pub created_over : StartMeans → Talking SessionState
created_over start = begins_over start.terms start.first (end_start start.setup)

-- ---- creation by plain credentials

-- one turn
abbrev pub turns : Terms → ℕ → ℕ → OfferSays → Talking CreatedSays
turns terms xid proc offer = turns_by plain_machine terms xid proc offer

-- turn after turn. It is begun with as many as the end takes replies, and is the same for any
-- greater count, so that there is always one left.
abbrev pub creates : ℕ → Terms → ℕ → ℕ → ℕ → OfferSays → Talking SessionState
creates left terms first xid proc offer =
    creates_by plain_machine left terms first xid proc offer

-- the creation by how the negotiation began: turn after turn, or its refusal
abbrev pub begins : Terms → ℕ → Result Started NegRefusal → Talking SessionState
begins terms first (Err refusal) = judges (Err (Negotiation refusal))
begins terms first (Ok started) = creates (replies_left started.end) terms first 1
    RPCSEC_GSS_INIT (record { end = started.end; handle = []; token = started.token })

-- the creation of a session from this start, whose first call then has the start's number
unfoldable pub created_from : StartSays → Talking SessionState
created_from start = begins start.terms start.first (init_start start.setup)

-- ---- calls

-- a call's result, and the session behind it
unfoldable pub calls : SessionState → ℕ → List ℕ → List ℕ → Talking (SessionState × List ℕ)
calls s procedure args confounder = do
  reply ← exchanges (data_call s procedure args confounder)
  judges (result_taken s reply)

-- the call that destroys the context, and its reply
unfoldable pub destroys : SessionState → Talking (Unit {0})
destroys s = do
  reply ← exchanges (destroy_call s)
  judges (destroyed_in s.outcome s.terms.service s.number s.xid reply)
