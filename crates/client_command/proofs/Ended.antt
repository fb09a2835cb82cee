-- How the end of a session is the end of its run.
use Rattle.std.proofs.Common.{◌≡◌, ◌≢◌, inl, inr, ℕ, true, false, List, Option, Result, Ok, Err, refl, sym, ap, ◌∙◌}
use Rattle.std.proofs.lemmas.Bool.{false_from_ne_true}
use Rattle.spnego_core.specs.declared.setup.MechCred.{MechCred}
use Rattle.spnego_core.specs.declared.outcome.Outcome.{Outcome}
use Rattle.gss_client.specs.declared.conversation.Parting.{Parting}
use Rattle.gss_client.specs.declared.conversation.Parting.TheVariants as partings
use Rattle.gss_client.specs.declared.refusal.ClientRefusal.{ClientRefusal}
use Rattle.gss_client.specs.declared.refusal.ClientRefusal.TheVariants as refusals
use Rattle.client_command.specs.Credentials.{Finds, is_unloaded}
use Rattle.client_options.specs.Endings.{end_of, end_of_refusal, is_begun}
use Rattle.client_command.specs.Runs.{Reports}
use Rattle.client_options.specs.declared.ending.RunEnd.{RunEnd}
use Rattle.client_options.specs.declared.ending.RunEnd.TheVariants.{NoMemory, LinkFault}

begun-refusal : (refusal : ClientRefusal) → end_of_refusal refusal ≢ NoMemory → is_begun (end_of_refusal refusal) ≡ true
begun-refusal refusals.LinkFault other = refl
begun-refusal refusals.PeerEnded other = refl
begun-refusal (refusals.Refused denial) other = refl
begun-refusal (refusals.Negotiation refusal) other = refl
begun-refusal (refusals.BadReply why) other = refl
begun-refusal refusals.NoMemory other = absurd (other refl)

begun-parting : (parting : Parting) → end_of parting ≢ NoMemory → is_begun (end_of parting) ≡ true
begun-parting partings.Finished other = refl
begun-parting partings.Spent other = refl
begun-parting partings.Foreign other = refl
begun-parting (partings.Refused refusal) other = begun-refusal refusal other

pub reported-begun : {outcome outcome' : Option Outcome} {results results' : List (List ℕ)} (parting : Parting) {end : RunEnd} → Reports outcome results parting outcome' results' end → end ≢ NoMemory → is_begun end ≡ true
reported-begun parting (inl same) other = rw same.2 (begun-parting parting (λ e. other (same.2 ∙ e)))
reported-begun parting (inr none) other = absurd (other none.2)

fault-refusal : (refusal : ClientRefusal) → end_of_refusal refusal ≡ LinkFault → refusal ≡ refusals.LinkFault
fault-refusal refusals.LinkFault e = refl
fault-refusal refusals.PeerEnded e = cc
fault-refusal (refusals.Refused denial) e = cc
fault-refusal (refusals.Negotiation refusal) e = cc
fault-refusal (refusals.BadReply why) e = cc
fault-refusal refusals.NoMemory e = cc

fault-parting : (parting : Parting) → end_of parting ≡ LinkFault → parting ≡ partings.Refused refusals.LinkFault
fault-parting partings.Finished e = cc
fault-parting partings.Spent e = cc
fault-parting partings.Foreign e = cc
fault-parting (partings.Refused refusal) e = ap partings.Refused (fault-refusal refusal e)

pub reported-fault : {outcome outcome' : Option Outcome} {results results' : List (List ℕ)} (parting : Parting) {end : RunEnd} → Reports outcome results parting outcome' results' end → end ≡ LinkFault → parting ≡ partings.Refused refusals.LinkFault
reported-fault parting (inl same) e = fault-parting parting (sym same.2 ∙ e)
reported-fault parting (inr none) e = let bad : NoMemory ≡ LinkFault = sym none.2 ∙ e in cc

-- the end of a session is none of a run without one
pub not-stopped : {end stop : RunEnd} → (end ≢ NoMemory → is_begun end ≡ true) → end ≡ stop → is_begun stop ≡ false → stop ≢ NoMemory → ⊥
not-stopped {end} {stop} begun same stopped other =
    let yes : is_begun end ≡ true = begun (λ e. other (sym same ∙ e)) in
    let no : is_begun end ≡ false = ap is_begun same ∙ stopped in
    let bad : true ≡ false = sym yes ∙ no in cc

-- a run that stops without a fault of the shelf stops as is due
pub stops-due : {due : Result (List MechCred) RunEnd} {end stop : RunEnd} → Finds due (Err end) → due ≡ Err stop → (is_unloaded end ≡ true → ⊥) → end ≢ NoMemory → end ≡ stop
stops-due {due} {end} {stop} finds is steady other =
    let same : ◌≡◌ {A = Result (List MechCred) RunEnd} (Err stop) (Err end) = sym is ∙ finds (false_from_ne_true (is_unloaded end) steady) other in cc

pub stops-never : {due : Result (List MechCred) RunEnd} {end : RunEnd} {creds : List MechCred} → Finds due (Err end) → due ≡ Ok creds → (is_unloaded end ≡ true → ⊥) → end ≢ NoMemory → ⊥
stops-never {due} {end} {creds} finds is steady other =
    let same : ◌≡◌ {A = Result (List MechCred) RunEnd} (Ok creds) (Err end) = sym is ∙ finds (false_from_ne_true (is_unloaded end) steady) other in cc
