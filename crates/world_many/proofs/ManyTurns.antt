-- An initiator's moves in a world of many: it starts, and takes the replies to its records.
use Rattle.std.proofs.Common.{◌≡◌, ◌≢◌, inl, inr, ℕ, ◌<◌, ◌≤◌, ◌^◌, lit<, lit≤, refl, sym, ap, ◌∙◌, subst, arith, List, [], ◌∷◌, ◌++◌, length, slice_get, Option, Some, None, Result, Ok}
use Rattle.krb_tokens.specs.declared.end.Side.TheVariants.{Acceptor}
use Rattle.krb_tokens.specs.Mic.{mic_header, mic_of}
use Rattle.rpc_msgs.specs.Replies.{reply_octets}
use Rattle.rpc_msgs.specs.Words.{word}
use Rattle.rpcsec_bodies.proofs.Lengths.{mic-size}
use Rattle.rpc_program.specs.Programs.{Serving}
use Rattle.rpcsec_msgs.specs.InitRes.{IsInitRes}
use Rattle.scram_mech.specs.MechMaking.{MechMaking}
use Rattle.spnego_core.specs.declared.outcome.Outcome.{Outcome}
use Rattle.spnego_core.specs.declared.refusal.NegRefusal.{NegRefusal}
use Rattle.spnego_core.specs.Ends.{PlainSetup, EndSays}
use Rattle.spnego_core.specs.EndSteps as init_steps
use Rattle.spnego_core.specs.Initiating.{Started, Initiated, init_start, step_of}
use Rattle.spnego_core.specs.Outcome.{token_end}
use Rattle.accept_book.specs.RecordShown.{handle_of}
use Rattle.gss_client.specs.declared.refusal.ClientRefusal.{ClientRefusal}
use Rattle.gss_client.specs.Creation.{CreatedSays}
use Rattle.gss_client.specs.Creation as created
use Rattle.gss_client.specs.Judging.{granted_in}
use Rattle.gss_client.specs.Session.{xid_after}
use Rattle.gss_client.specs.Talk.{begun}
use Rattle.pair_laws.proofs.Granting.{granted_with, grants, result_with, result_on, window_mic, granting, going, creation-stands, creation-goes}
use Rattle.world_laws.specs.declared.event.Happened.TheVariants.{Sent, Completed, Nothing}
use Rattle.world_laws.specs.declared.event.WorldEvent.TheVariants.{Start, Deliver}
use Rattle.world_laws.specs.Stages.{StageSays}
use Rattle.world_laws.specs.Stages as stages
use Rattle.world_laws.specs.Deeds.{Deed}
use Rattle.world_laws.specs.State.{World, moved_to}
use Rattle.world_laws.specs.Initiators.{started_by, initiated_by, initiated_with, initiated, handed_out, verified, window_found, created_by, takes}
use Rattle.world_laws.specs.Events.{Moves, StartsBy, DeliversBy, Happens}
use Rattle.world_runs.specs.Served.{told_width, served, own_terms}
use Rattle.world_runs.proofs.MetEvents.{call_of, window_of}
use Rattle.world_runs.proofs.MetRounds.{Took}

-- ---- it starts

-- it wasn't started before
pub record WasReady (w : World) (i : ℕ) : Type 0 where
  pub own : PlainSetup
  pub there : slice_get w.stages i ≡ Some (stages.Ready own)

sent-not : {A : Type 0} (deed : Deed) (octets : List ℕ) → deed.answer ≡ Some Nothing → deed.answer ≡ Some (Sent octets) → A
sent-not deed octets e f = let n : Some Nothing ≡ Some (Sent octets) = sym e ∙ f in absurd cc

ready-by : (w : World) (i : ℕ) (stage : Option StageSays) (deed : Deed) (new : World) (octets : List ℕ) → slice_get w.stages i ≡ stage → StartsBy w i stage deed new → deed.answer ≡ Some (Sent octets) → WasReady w i
ready-by w i None deed new octets there did sent = sent-not deed octets (ap (λ (d : Deed). d.answer) did.0) sent
ready-by w i (Some (stages.Ready own)) deed new octets there did sent = record { own = own; there = there }
ready-by w i (Some (stages.Asks xid end)) deed new octets there did sent = sent-not deed octets (ap (λ (d : Deed). d.answer) did.0) sent
ready-by w i (Some (stages.Stands s)) deed new octets there did sent = sent-not deed octets (ap (λ (d : Deed). d.answer) did.0) sent
ready-by w i (Some (stages.Left s)) deed new octets there did sent = sent-not deed octets (ap (λ (d : Deed). d.answer) did.0) sent
ready-by w i (Some stages.Over) deed new octets there did sent = sent-not deed octets (ap (λ (d : Deed). d.answer) did.0) sent

pub was-ready : (w : World) (i : ℕ) (deed : Deed) (new : World) (octets : List ℕ) → Happens w (Start i) deed new → deed.answer ≡ Some (Sent octets) → WasReady w i
was-ready w i deed new octets h sent = ready-by w i (slice_get w.stages i) deed new octets refl h.did sent

pub record Begun (w : World) (i : ℕ) (started : Started) (deed : Deed) (new : World) : Type 0 where
  pub answer : deed.answer ≡ Some (Sent (call_of 1 None started.token))
  pub found : deed.found ≡ []
  pub new_is : new ≡ moved_to w i (stages.Asks 1 started.end) started.makes

pub begun-so : (w : World) (i : ℕ) (own : PlainSetup) (started : Started) (deed : Deed) (new : World) → w.serves ≡ served → slice_get w.stages i ≡ Some (stages.Ready own) → init_start own ≡ Ok started → Happens w (Start i) deed new → deed.answer ≢ None → Begun w i started deed new
begun-so w i own started deed new serves there begins h some =
    by (subst (λ (z : Serving). Moves w i (started_by z (Ok started)) deed new) serves (subst (λ (r : Result Started NegRefusal). Moves w i (started_by w.serves r) deed new) begins (subst (λ (s : Option StageSays). StartsBy w i s deed new) there h.did)))
  where
    by : Moves w i (started_by served (Ok started)) deed new → Begun w i started deed new
    by (inl m) = record { answer = ap (λ (d : Deed). d.answer) m.0; found = ap (λ (d : Deed). d.found) m.0; new_is = m.1 }
    by (inr m) = absurd (some (ap (λ (d : Deed). d.answer) m.0))

-- ---- the reply comes to the initiator

handle-length : (id : ℕ) → length (handle_of id) ≡ 8
handle-length id = refl

going-granted : (xid id : ℕ) (token : List ℕ) → xid < 2 ^ 32 → length token ≤ 65536 → granted_in xid (reply_octets (going xid id token)) ≡ Ok (granted_with xid 0 [] (result_on id token))
going-granted xid id token fits few =
    let is : IsInitRes (result_on id token) = record { context = omega (arith, handle-length id); major = lit< tt; minor = lit< tt; window = lit< tt; token = few } in
    grants xid 0 [] (result_on id token) fits (lit< tt) (lit≤ tt) is (lit≤ tt)

settled-granted : (xid id : ℕ) (outcome : Outcome) (token : List ℕ) → xid < 2 ^ 32 → length token ≤ 65536
    → granted_in xid (reply_octets (granting xid outcome id told_width token)) ≡ Ok (granted_with xid 6 (window_mic outcome told_width) (result_with id told_width token))
settled-granted xid id outcome token fits few =
    let is : IsInitRes (result_with id told_width token) = record { context = omega (arith, handle-length id); major = lit< tt; minor = lit< tt; window = lit< tt; token = few } in
    grants xid 6 (window_mic outcome told_width) (result_with id told_width token) fits (lit< tt) (omega (arith, mic-size (token_end outcome Acceptor) 1 (word told_width))) is (lit≤ tt)

-- it goes on
pub record TakesOn (w : World) (i xid id : ℕ) (taken : Initiated) (next : EndSays) (further : List ℕ) (deed : Deed) (new : World) : Type 0 where
  pub answer : deed.answer ≡ Some (Sent (call_of (xid_after xid) (Some id) further))
  pub found : deed.found ≡ taken.found
  pub opened : deed.opened ≡ None
  pub new_is : new ≡ moved_to w i (stages.Asks (xid_after xid) next) taken.makes

pub takes-on : (w : World) (i first xid id : ℕ) (initiator : EndSays) (reply : List ℕ) (made : List MechMaking) (t : Took initiator reply made) (next : EndSays) (further : List ℕ) → slice_get w.stages i ≡ Some (stages.Asks xid initiator) → t.initiated.step ≡ init_steps.More next further
    → xid < 2 ^ 32 → length reply ≤ 65536 → (deed : Deed) (new : World) → w.serves ≡ served → Happens w (Deliver i (reply_octets (going xid id reply)) first) deed new → deed.answer ≢ None → TakesOn w i xid id t.initiated next further deed new
takes-on w i first xid id initiator reply made t next further there more fits few deed new serves h some =
    by (subst (λ (r : Result CreatedSays ClientRefusal). Moves w i (created_by served first xid initiator (reply_octets (going xid id reply)) r) deed new)
    (creation-goes xid initiator next id reply further fits few (ap step_of t.initiates ∙ ap Ok more))
    (subst (λ (z : Serving). Moves w i (takes z first xid initiator (reply_octets (going xid id reply))) deed new) serves (subst (λ (s : Option StageSays). DeliversBy w i (reply_octets (going xid id reply)) first s deed new) there h.did)))
  where
    is : initiated xid initiator (reply_octets (going xid id reply)) ≡ Some t.initiated
    is = ap (initiated_with initiator) (going-granted xid id reply fits few) ∙ ap initiated_by t.initiates

    by : Moves w i (created_by served first xid initiator (reply_octets (going xid id reply)) (Ok (created.Going (record { end = next; handle = handle_of id; token = further })))) deed new → TakesOn w i xid id t.initiated next further deed new
    by (inl m) = record {
      answer = ap (λ (d : Deed). d.answer) m.0;
      found = ap (λ (d : Deed). d.found) m.0 ∙ ap verified is;
      opened = ap (λ (d : Deed). d.opened) m.0;
      new_is = m.1 ∙ ap (λ (z : Option Initiated). moved_to w i (stages.Asks (xid_after xid) next) (handed_out z)) is;
    }
    by (inr m) = absurd (some (ap (λ (d : Deed). d.answer) m.0))

-- its context stands
window-is : (xid id : ℕ) (outcome : Outcome) (token : List ℕ) → xid < 2 ^ 32 → length token ≤ 65536 → window_found outcome (granted_in xid (reply_octets (granting xid outcome id told_width token))) ≡ window_of outcome ∷ []
unfolding mic_of mic_header
window-is xid id outcome token fits few = rw (settled-granted xid id outcome token fits few) refl

pub record TakesLast (w : World) (i first xid id : ℕ) (taken : Initiated) (outcome : Outcome) (deed : Deed) (new : World) : Type 0 where
  pub answer : deed.answer ≡ Some (Completed outcome)
  pub found : deed.found ≡ taken.found ++ window_of outcome ∷ []
  pub opened : deed.opened ≡ None
  pub new_is : new ≡ moved_to w i (stages.Stands (begun own_terms first (xid_after xid) outcome (handle_of id))) taken.makes

pub takes-last : (w : World) (i first xid id : ℕ) (initiator : EndSays) (reply : List ℕ) (made : List MechMaking) (t : Took initiator reply made) (outcome : Outcome) → slice_get w.stages i ≡ Some (stages.Asks xid initiator) → t.initiated.step ≡ init_steps.Done outcome
    → xid < 2 ^ 32 → length reply ≤ 65536 → (deed : Deed) (new : World) → w.serves ≡ served → Happens w (Deliver i (reply_octets (granting xid outcome id told_width reply)) first) deed new → deed.answer ≢ None → TakesLast w i first xid id t.initiated outcome deed new
takes-last w i first xid id initiator reply made t outcome there done fits few deed new serves h some =
    by (subst (λ (r : Result CreatedSays ClientRefusal). Moves w i (created_by served first xid initiator (reply_octets (granting xid outcome id told_width reply)) r) deed new)
    (creation-stands xid initiator outcome id told_width reply fits (lit< tt) (lit< tt) few (ap step_of t.initiates ∙ ap Ok done))
    (subst (λ (z : Serving). Moves w i (takes z first xid initiator (reply_octets (granting xid outcome id told_width reply))) deed new) serves (subst (λ (s : Option StageSays). DeliversBy w i (reply_octets (granting xid outcome id told_width reply)) first s deed new) there h.did)))
  where
    is : initiated xid initiator (reply_octets (granting xid outcome id told_width reply)) ≡ Some t.initiated
    is = ap (initiated_with initiator) (settled-granted xid id outcome reply fits few) ∙ ap initiated_by t.initiates

    by : Moves w i (created_by served first xid initiator (reply_octets (granting xid outcome id told_width reply)) (Ok (created.Stands outcome (handle_of id)))) deed new → TakesLast w i first xid id t.initiated outcome deed new
    by (inl m) = record {
      answer = ap (λ (d : Deed). d.answer) m.0;
      found = ap (λ (d : Deed). d.found) m.0 ∙ (λ k. verified (is k) ++ window-is xid id outcome reply fits few k);
      opened = ap (λ (d : Deed). d.opened) m.0;
      new_is = m.1 ∙ ap (λ (z : Option Initiated). moved_to w i (stages.Stands (begun own_terms first (xid_after xid) outcome (handle_of id))) (handed_out z)) is;
    }
    by (inr m) = absurd (some (ap (λ (d : Deed). d.answer) m.0))
