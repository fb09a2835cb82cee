-- What stands behind a result, how many turns a creation takes, and that a creation by the objects
-- of Kerberos and SCRAM is the one by their credentials.
use Rattle.std.specs.Prelude.{◌≡◌, ◌≤◌, ℕ, List, Result, Ok, Err}
use Rattle.krb_tokens.specs.declared.end.Side.TheVariants.{Initiator}
use Rattle.krb_tokens.specs.Mic.{checked_mic}
use Rattle.rpc_msgs.specs.declared.numbers.TheConstants.{SUCCESS, RPCSEC_GSS}
use Rattle.rpc_msgs.specs.Replies.{accepted}
use Rattle.rpc_msgs.specs.ReplyReading.{reply_at}
use Rattle.rpc_msgs.specs.Words.{word}
use Rattle.rpcsec_bodies.specs.Carried.{IsBody}
use Rattle.gss_client.specs.declared.terms.Terms.{Terms}
use Rattle.spnego_core.specs.Ends.{EndSays}
use Rattle.spnego_core.specs.Outcome.{token_end}
use Rattle.init_ends.specs.Ends.{EndMeans}
use Rattle.init_ends.specs.Initiating.{end_step}
use Rattle.init_ends.specs.Plain.{StandsAs}
use Rattle.gss_client.specs.declared.refusal.ClientRefusal.{ClientRefusal}
use Rattle.gss_client.specs.Creation.{OfferSays, CreatedSays, CreatedMeans, Going, Stands}
use Rattle.gss_client.specs.Judging.{creation_by, creation_step, result_taken}
use Rattle.gss_client.specs.Rank.{replies_left}
use Rattle.gss_client.specs.Session.{SessionState}
use Rattle.gss_client.specs.Start.{StartSays, objects_start}
use Rattle.gss_client.specs.Talk.{creates, created_over, created_from}

-- a reply with the call's transaction number and SUCCESS, whose verifier is the acceptor's MIC over
-- the call's number, with this result in its body
pub record StandsIn (s : SessionState) (octets result : List ℕ) : Type 0 where
  pub verf : List ℕ
  pub low : ℕ
  pub high : ℕ
  pub body : List ℕ
  pub reply : reply_at octets ≡ Ok (accepted s.xid RPCSEC_GSS verf SUCCESS low high body)
  pub proved : checked_mic (token_end s.outcome Initiator) verf (word s.number) ≡ Ok tt
  pub held : IsBody (token_end s.outcome Initiator) s.terms.service s.number body result

-- each result that a session takes stands in a reply to its call
abbrev pub ResultLaw : Type 0
ResultLaw = (s next : SessionState) (octets result : List ℕ)
    → result_taken s octets ≡ Ok (next, result) → StandsIn s octets result

-- a creation that is begun with as many turns as its end takes replies is the same by every greater
-- count: it never ends for want of turns
abbrev pub CountLaw : Type 0
CountLaw = (left : ℕ) (terms : Terms) (first xid proc : ℕ) (offer : OfferSays)
    (stream : List ℕ) → replies_left offer.end ≤ left
    → creates left terms first xid proc offer stream
    ≡ creates (replies_left offer.end) terms first xid proc offer stream

-- ---- objects, and plain credentials

-- both go on with the same handle and token, or both contexts stand with the same outcome and
-- handle
abbrev pub LeadsAs : CreatedMeans → CreatedSays → Type 0
LeadsAs (Going offer) (Going plain) = StandsAs offer.end plain.end
    × (offer.handle ≡ plain.handle) × (offer.token ≡ plain.token)
LeadsAs (Going offer) (Stands outcome handle) = ⊥
LeadsAs (Stands outcome handle) (Going plain) = ⊥
LeadsAs (Stands outcome handle) (Stands plain own) = (outcome ≡ plain) × (handle ≡ own)

-- the same of what may be refused: both are refused alike
abbrev pub CreatesAs : Result CreatedMeans ClientRefusal → Result CreatedSays ClientRefusal → Type 0
CreatesAs (Ok what) (Ok plain) = LeadsAs what plain
CreatesAs (Ok what) (Err refusal) = ⊥
CreatesAs (Err refusal) (Ok plain) = ⊥
CreatesAs (Err refusal) (Err plain) = refusal ≡ plain

-- a creation by the objects of Kerberos and SCRAM is the one by their credentials
pub record PlainCreation : Type 0 where
  -- what a reply leads to, at an end that stands where the plain end stands
  pub replies : (end : EndMeans) (plain : EndSays) (xid : ℕ) (octets : List ℕ)
      → StandsAs end plain
      → CreatesAs (creation_by end_step end xid octets) (creation_step plain xid octets)
  -- the whole creation, whatever is heard
  pub whole : (start : StartSays) (stream : List ℕ)
      → created_over (objects_start start) stream ≡ created_from start stream
