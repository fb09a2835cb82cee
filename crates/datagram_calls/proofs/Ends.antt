-- How the refusal of a session is the end of its run.
use Rattle.std.proofs.Common.{◌≡◌, ◌≢◌, inl, inr, ℕ, true, false, List, length, Option, refl, sym, ap, ◌∙◌}
use Rattle.spnego_core.specs.declared.outcome.Outcome.{Outcome}
use Rattle.client_options.specs.Endings as clients
use Rattle.client_options.specs.declared.ending.RunEnd.{RunEnd}
use Rattle.client_options.specs.declared.ending.RunEnd.TheVariants as ends
use Rattle.datagram_client.specs.declared.refusal.PostRefusal.{PostRefusal}
use Rattle.datagram_client.specs.declared.refusal.PostRefusal.TheVariants as refusals
use Rattle.datagram_options.specs.declared.ending.CallEnd.{CallEnd}
use Rattle.datagram_options.specs.declared.ending.CallEnd.TheVariants.{PostFault, NoReply, Flood, As}
use Rattle.datagram_calls.specs.Calls.{end_of_refusal, is_session_end}
use Rattle.datagram_calls.specs.Runs.{Reports}

session-end : (refusal : PostRefusal) → end_of_refusal refusal ≢ As ends.NoMemory → is_session_end (end_of_refusal refusal) ≡ true
session-end refusals.PostFault other = refl
session-end refusals.NoReply other = refl
session-end refusals.Flood other = refl
session-end refusals.Spent other = refl
session-end (refusals.Refused denial) other = refl
session-end (refusals.BadReply why) other = refl
session-end (refusals.Negotiation refusal) other = refl
session-end refusals.NoMemory other = absurd (other refl)

pub refused-session : {end : CallEnd} (refusal : PostRefusal) → end ≡ end_of_refusal refusal → end ≢ As ends.NoMemory → is_session_end end ≡ true
refused-session refusal is other = ap is_session_end is ∙ session-end refusal (λ e. other (is ∙ e))

not-finished : (refusal : PostRefusal) → end_of_refusal refusal ≢ As ends.Finished
not-finished refusals.PostFault e = cc
not-finished refusals.NoReply e = cc
not-finished refusals.Flood e = cc
not-finished refusals.Spent e = cc
not-finished (refusals.Refused denial) e = cc
not-finished (refusals.BadReply why) e = cc
not-finished (refusals.Negotiation refusal) e = cc
not-finished refusals.NoMemory e = cc

pub refused-unfinished : {end : CallEnd} (refusal : PostRefusal) → end ≡ end_of_refusal refusal → end ≢ As ends.Finished
refused-unfinished refusal is e = not-finished refusal (sym is ∙ e)

fault-of : (refusal : PostRefusal) → end_of_refusal refusal ≡ PostFault → refusal ≡ refusals.PostFault
fault-of refusals.PostFault e = refl
fault-of refusals.NoReply e = cc
fault-of refusals.Flood e = cc
fault-of refusals.Spent e = cc
fault-of (refusals.Refused denial) e = cc
fault-of (refusals.BadReply why) e = cc
fault-of (refusals.Negotiation refusal) e = cc
fault-of refusals.NoMemory e = cc

pub refused-fault : {end : CallEnd} (refusal : PostRefusal) → end ≡ end_of_refusal refusal → end ≡ PostFault → refusal ≡ refusals.PostFault
refused-fault refusal is e = fault-of refusal (sym is ∙ e)

-- ---- what is returned of a session

pub reported-session : {outcome outcome' : Option Outcome} {results results' : List (List ℕ)} {end end' : CallEnd} → (end ≢ As ends.NoMemory → is_session_end end ≡ true) → Reports outcome results end outcome' results' end' → end' ≢ As ends.NoMemory → is_session_end end' ≡ true
reported-session session (inl same) other = ap is_session_end same.2 ∙ session (λ e. other (same.2 ∙ e))
reported-session session (inr none) other = absurd (other none.2)

pub reported-fault : {outcome outcome' : Option Outcome} {results results' : List (List ℕ)} {end end' : CallEnd} → Reports outcome results end outcome' results' end' → end' ≡ PostFault → end ≡ PostFault
reported-fault (inl same) e = sym same.2 ∙ e
reported-fault (inr none) e = let bad : As ends.NoMemory ≡ PostFault = sym none.2 ∙ e in cc

pub reported-all : {outcome outcome' : Option Outcome} {results results' : List (List ℕ)} {end end' : CallEnd} {times : ℕ} → (end ≡ As ends.Finished → length results ≡ times) → Reports outcome results end outcome' results' end' → end' ≡ As ends.Finished → length results' ≡ times
reported-all all (inl same) e = ap length same.1 ∙ all (sym same.2 ∙ e)
reported-all all (inr none) e = let bad : As ends.NoMemory ≡ As ends.Finished = sym none.2 ∙ e in cc

-- ---- a run that spoke to nobody

pub stopped-unfinished : {P : Type 0} {end : CallEnd} (stop : RunEnd) → clients.is_begun stop ≡ false → end ≡ As stop → end ≡ As ends.Finished → P
stopped-unfinished stop unbegun is e =
    let begun : is_session_end (As stop) ≡ true = ap is_session_end (sym is ∙ e) in
    let bad : true ≡ false = sym begun ∙ unbegun in cc

pub stopped-no-fault : {P : Type 0} {end : CallEnd} (stop : RunEnd) → end ≡ As stop → end ≡ PostFault → P
stopped-no-fault stop is e = let bad : As stop ≡ PostFault = sym is ∙ e in cc
