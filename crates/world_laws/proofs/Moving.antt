-- What an initiator's move is: by the step of its end.
use Rattle.std.proofs.Common.{◌≡◌, ◌⊎◌, inl, inr, ℕ, Bool, true, false, refl, ◌∙◌, ap, subst, List, ◌++◌, Option, Some, Result, Ok, Err}
use Rattle.std.specs.Prelude.{◌==◌, not}
use Rattle.spnego_core.specs.declared.outcome.Outcome.{Outcome}
use Rattle.spnego_core.specs.declared.refusal.NegRefusal.{NegRefusal}
use Rattle.spnego_core.specs.Ends.{PlainSetup, EndSays}
use Rattle.spnego_core.specs.EndSteps.{StepSays}
use Rattle.spnego_core.specs.EndSteps as steps
use Rattle.spnego_core.specs.Initiating.{Started, Initiated, init_start, init_step, step_of}
use Rattle.gss_client.specs.declared.refusal.ClientRefusal.{ClientRefusal}
use Rattle.gss_client.specs.declared.refusal.ClientRefusal.TheVariants.{BadReply}
use Rattle.gss_client.specs.declared.refusal.ReplyWhy.TheVariants.{Verifier, Steps, Width}
use Rattle.gss_client.specs.Creation.{OfferSays, CreatedSays}
use Rattle.gss_client.specs.Creation as creations
use Rattle.gss_client.specs.Judging.{◌>>=◌, due, is_verified, GrantedValue, granted_in, negotiated, by_step, creation_by, creation_step}
use Rattle.gss_client.specs.Session.{xid_after}
use Rattle.gss_client.specs.Talk.{begun}
use Rattle.rpc_program.specs.Programs.{Serving}
use Rattle.world_laws.specs.Stages as stages
use Rattle.world_laws.specs.Initiators.{own_terms, Moved, refused, started_by, starts, initiated_by, initiated_with, initiated, handed_out, verified, window_found, created_by, takes}

-- ---- it starts

pub record StartedBy (own : PlainSetup) (moved : Moved) : Type 0 where
  pub started : Started
  pub is : init_start own ≡ Ok started
  pub stage : moved.stage ≡ stages.Asks 1 started.end
  pub lost : moved.lost ≡ stages.Over
  pub makes : moved.makes ≡ started.makes

start-by : (serves : Serving) (own : PlainSetup) (started : Result Started NegRefusal) → init_start own ≡ started → (started_by serves started ≡ refused) ⊎ StartedBy own (started_by serves started)
start-by serves own (Err refusal) e = inl refl
start-by serves own (Ok started) e = inr (record { started = started; is = e; stage = refl; lost = refl; makes = refl })

pub starts-by : (serves : Serving) (own : PlainSetup) → (starts serves own ≡ refused) ⊎ StartedBy own (starts serves own)
starts-by serves own = start-by serves own (init_start own) refl

-- ---- what comes of a reply to its creation call

abbrev pub LeadsTo : StepSays → CreatedSays → Type 0
LeadsTo step (creations.Going offer) = step ≡ steps.More offer.end offer.token
LeadsTo step (creations.Stands outcome handle) = step ≡ steps.Done outcome

-- the step of the end behind what a creation came to
pub record SteppedBy (end : EndSays) (xid : ℕ) (octets : List ℕ) (what : CreatedSays) : Type 0 where
  pub taken : Initiated
  pub initiated_is : initiated xid end octets ≡ Some taken
  pub granted : GrantedValue
  pub granted_is : granted_in xid octets ≡ Ok granted
  pub step_is : init_step end granted.result.token ≡ Ok taken
  pub leads : LeadsTo taken.step what

behind-due : {A : Type 0} (refusal : ClientRefusal) (b : Bool) (next : Result A ClientRefusal) (x : A) → (due refusal b >>= (λ (u : Unit {0}). next)) ≡ Ok x → next ≡ Ok x
behind-due refusal true next x e = e
behind-due refusal false next x e = absurd cc

-- one answer
same-ok : (what : Result CreatedSays ClientRefusal) (x y : CreatedSays) → what ≡ Ok x → what ≡ Ok y → x ≡ y
same-ok what x y e f = cc

step-leads : (g : GrantedValue) (step : StepSays) (what : CreatedSays) → by_step g step ≡ Ok what → LeadsTo step what
unfolding by_step
step-leads g (steps.More end token) what e =
    let offer : OfferSays = record { end = end; handle = g.result.context; token = token } in
    let is : Ok (creations.Going offer) ≡ Ok what = behind-due (BadReply Steps) (g.result.major == 1) (Ok (creations.Going offer)) what e in
    subst (LeadsTo (steps.More end token)) (same-ok (Ok (creations.Going offer)) (creations.Going offer) what refl is) refl
step-leads g (steps.Done outcome) what e =
    let last : Result CreatedSays ClientRefusal = Ok (creations.Stands outcome g.result.context) in
    let is : last ≡ Ok what =
    behind-due (BadReply Verifier) (is_verified outcome g.answer g.result.window) last what
    (behind-due (BadReply Width) (not (g.result.window == 0)) _ what (behind-due (BadReply Steps) (g.result.major == 0) _ what e)) in
    subst (LeadsTo (steps.Done outcome)) (same-ok last (creations.Stands outcome g.result.context) what refl is) refl

step-by : (end : EndSays) (xid : ℕ) (octets : List ℕ) (what : CreatedSays) (g : GrantedValue) (taken : Result Initiated NegRefusal) → granted_in xid octets ≡ Ok g → init_step end g.result.token ≡ taken
    → (negotiated (step_of taken) >>= by_step g) ≡ Ok what → SteppedBy end xid octets what
step-by end xid octets what g (Err refusal) granted step e = absurd cc
step-by end xid octets what g (Ok taken) granted step e = record {
  taken = taken;
  initiated_is = ap (initiated_with end) granted ∙ ap initiated_by step;
  granted = g;
  granted_is = granted;
  step_is = step;
  leads = step-leads g taken.step what e;
}

grant-by : (end : EndSays) (xid : ℕ) (octets : List ℕ) (what : CreatedSays) (granted : Result GrantedValue ClientRefusal) → granted_in xid octets ≡ granted
    → (granted >>= (λ (g : GrantedValue). negotiated (step_of (init_step end g.result.token)) >>= by_step g)) ≡ Ok what → SteppedBy end xid octets what
grant-by end xid octets what (Err refusal) granted e = absurd cc
grant-by end xid octets what (Ok g) granted e = step-by end xid octets what g (init_step end g.result.token) granted refl e

pub stepped-by : (end : EndSays) (xid : ℕ) (octets : List ℕ) (what : CreatedSays) → creation_step end xid octets ≡ Ok what → SteppedBy end xid octets what
unfolding creation_by
stepped-by end xid octets what e = grant-by end xid octets what (granted_in xid octets) refl e

-- it goes on
pub record Went (xid : ℕ) (end : EndSays) (octets : List ℕ) (moved : Moved) : Type 0 where
  pub offer : OfferSays
  pub by : SteppedBy end xid octets (creations.Going offer)
  pub stage : moved.stage ≡ stages.Asks (xid_after xid) offer.end
  pub lost : moved.lost ≡ stages.Over
  pub makes : moved.makes ≡ by.taken.makes
  pub found : moved.found ≡ by.taken.found

-- its context stands
pub record Stood (xid : ℕ) (end : EndSays) (octets : List ℕ) (moved : Moved) : Type 0 where
  pub serves : Serving
  pub first : ℕ
  pub outcome : Outcome
  pub handle : List ℕ
  pub by : SteppedBy end xid octets (creations.Stands outcome handle)
  pub stage : moved.stage ≡ stages.Stands (begun (own_terms serves) first (xid_after xid) outcome handle)
  pub lost : moved.lost ≡ stages.Over
  pub makes : moved.makes ≡ by.taken.makes
  pub found : moved.found ≡ by.taken.found ++ window_found outcome (granted_in xid octets)

take-by : (serves : Serving) (first xid : ℕ) (end : EndSays) (octets : List ℕ) (what : Result CreatedSays ClientRefusal) → creation_step end xid octets ≡ what
    → (created_by serves first xid end octets what ≡ refused) ⊎ (Went xid end octets (created_by serves first xid end octets what) ⊎ Stood xid end octets (created_by serves first xid end octets what))
take-by serves first xid end octets (Err refusal) e = inl refl
take-by serves first xid end octets (Ok (creations.Going offer)) e =
    let by = stepped-by end xid octets (creations.Going offer) e in
    inr (inl (record { offer = offer; by = by; stage = refl; lost = refl; makes = ap handed_out by.initiated_is; found = ap verified by.initiated_is }))
take-by serves first xid end octets (Ok (creations.Stands outcome handle)) e =
    let by = stepped-by end xid octets (creations.Stands outcome handle) e in
    inr (inr (record {
      serves = serves;
      first = first;
      outcome = outcome;
      handle = handle;
      by = by;
      stage = refl;
      lost = refl;
      makes = ap handed_out by.initiated_is;
      found = ap (λ (o : Option Initiated). verified o ++ window_found outcome (granted_in xid octets)) by.initiated_is;
    }))

pub takes-by : (serves : Serving) (first xid : ℕ) (end : EndSays) (octets : List ℕ) → (takes serves first xid end octets ≡ refused) ⊎ (Went xid end octets (takes serves first xid end octets) ⊎ Stood xid end octets (takes serves first xid end octets))
takes-by serves first xid end octets = take-by serves first xid end octets (creation_step end xid octets) refl
