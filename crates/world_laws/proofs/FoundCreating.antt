-- The step behind a reply to a creation call: where the initiator goes on or stands, its end took a step.
use Rattle.std.proofs.Common.{◌≡◌, ℕ, Bool, true, false, not, ◌==◌, refl, ap, ◌∙◌, List, Some}
use Rattle.std.specs.Prelude.{Result, Ok, Err}
use Rattle.spnego_core.specs.declared.refusal.NegRefusal.{NegRefusal}
use Rattle.spnego_core.specs.Ends.{EndSays}
use Rattle.spnego_core.specs.EndSteps.{StepSays}
use Rattle.spnego_core.specs.EndSteps as steps
use Rattle.spnego_core.specs.Initiating.{Initiated, init_step, step_of}
use Rattle.gss_client.specs.declared.refusal.ClientRefusal.{ClientRefusal}
use Rattle.gss_client.specs.declared.refusal.ClientRefusal.TheVariants.{BadReply}
use Rattle.gss_client.specs.declared.refusal.ReplyWhy.TheVariants.{Verifier, Steps, Width}
use Rattle.gss_client.specs.Creation.{CreatedSays}
use Rattle.gss_client.specs.Creation as created
use Rattle.gss_client.specs.Judging.{◌>>=◌, due, GrantedValue, granted_in, negotiated, is_verified, by_step, creation_by, creation_step}
use Rattle.world_laws.specs.Initiators.{initiated_by, initiated_with, initiated}

-- the end took this step
pub record Stepped (xid : ℕ) (end : EndSays) (octets : List ℕ) (step : StepSays) : Type 0 where
  pub token : List ℕ
  pub taken : Initiated
  pub steps : init_step end token ≡ Ok taken
  pub is : initiated xid end octets ≡ Some taken
  pub step_is : taken.step ≡ step

-- the step that what was created comes of
abbrev pub Behind : ℕ → EndSays → List ℕ → Result CreatedSays ClientRefusal → Type 0
Behind xid end octets (Err refusal) = Unit {0}
Behind xid end octets (Ok (created.Going offer)) = Stepped xid end octets (steps.More offer.end offer.token)
Behind xid end octets (Ok (created.Stands outcome handle)) = Stepped xid end octets (steps.Done outcome)

behind-due : (xid : ℕ) (end : EndSays) (octets : List ℕ) (refusal : ClientRefusal) (holds : Bool) (r : Result CreatedSays ClientRefusal) → Behind xid end octets r → Behind xid end octets (due refusal holds >>= (λ nothing. r))
behind-due xid end octets refusal true r f = f
behind-due xid end octets refusal false r f = tt

behind-step : (xid : ℕ) (end : EndSays) (octets : List ℕ) (g : GrantedValue) (step : StepSays) → Stepped xid end octets step → Behind xid end octets (by_step g step)
unfolding by_step
behind-step xid end octets g (steps.More after token) s =
    behind-due xid end octets (BadReply Steps) (g.result.major == 1) (Ok (created.Going (record { end = after; handle = g.result.context; token = token }))) s
behind-step xid end octets g (steps.Done outcome) s =
    behind-due xid end octets (BadReply Steps) (g.result.major == 0)
    (due (BadReply Width) (not (g.result.window == 0)) >>= (λ some. due (BadReply Verifier) (is_verified outcome g.answer g.result.window) >>= (λ proved. Ok (created.Stands outcome g.result.context))))
    (behind-due xid end octets (BadReply Width) (not (g.result.window == 0))
    (due (BadReply Verifier) (is_verified outcome g.answer g.result.window) >>= (λ proved. Ok (created.Stands outcome g.result.context)))
    (behind-due xid end octets (BadReply Verifier) (is_verified outcome g.answer g.result.window) (Ok (created.Stands outcome g.result.context)) s))

behind-taken : (xid : ℕ) (end : EndSays) (octets : List ℕ) (g : GrantedValue) (r : Result Initiated NegRefusal) → granted_in xid octets ≡ Ok g → init_step end g.result.token ≡ r
    → Behind xid end octets (negotiated (step_of r) >>= by_step g)
behind-taken xid end octets g (Err refusal) e f = tt
behind-taken xid end octets g (Ok taken) e f = behind-step xid end octets g taken.step (record {
  token = g.result.token;
  taken = taken;
  steps = f;
  is = ap (initiated_with end) e ∙ ap initiated_by f;
  step_is = refl;
})

behind-granted : (xid : ℕ) (end : EndSays) (octets : List ℕ) (r : Result GrantedValue ClientRefusal) → granted_in xid octets ≡ r
    → Behind xid end octets (r >>= (λ g. negotiated (step_of (init_step end g.result.token)) >>= by_step g))
behind-granted xid end octets (Err refusal) e = tt
behind-granted xid end octets (Ok g) e = behind-taken xid end octets g (init_step end g.result.token) e refl

pub behind : (xid : ℕ) (end : EndSays) (octets : List ℕ) → Behind xid end octets (creation_step end xid octets)
unfolding creation_by
behind xid end octets = behind-granted xid end octets (granted_in xid octets) refl
