-- A reply leads an end over the objects of Kerberos and SCRAM to what it leads the plain end to.
use Rattle.std.proofs.Common.{◌≡◌, refl, ap, subst, ℕ, Bool, true, false, not, ◌==◌, List, Result, Ok, Err}
use Rattle.gss_base.specs.declared.status.TheConstants.{COMPLETE, CONTINUE_NEEDED}
use Rattle.spnego_core.specs.declared.outcome.Outcome.{Outcome}
use Rattle.spnego_core.specs.declared.refusal.NegRefusal.{NegRefusal}
use Rattle.spnego_core.specs.Ends.{EndSays}
use Rattle.spnego_core.specs.EndSteps.{StepSays}
use Rattle.spnego_core.specs.EndSteps as steps
use Rattle.init_ends.specs.Ends.{EndMeans, StepMeans}
use Rattle.init_ends.specs.Initiating.{end_step}
use Rattle.init_ends.specs.Plain.{StandsAs, GoesAs, StepsAs}
use Rattle.init_ends.proofs.PlainSteps.{plain_law}
use Rattle.gss_client.specs.declared.refusal.ClientRefusal.{ClientRefusal}
use Rattle.gss_client.specs.declared.refusal.ClientRefusal.TheVariants.{Negotiation, BadReply}
use Rattle.gss_client.specs.declared.refusal.ReplyWhy.TheVariants.{Verifier, Steps, Width}
use Rattle.gss_client.specs.Creation.{plain_machine, OfferSays, OfferMeans}
use Rattle.gss_client.specs.Creation as created
use Rattle.gss_client.specs.Judging.{◌>>=◌, due, GrantedValue, granted_in, negotiated, is_verified, by_step, creation_by, creation_step}
use Rattle.gss_client.specs.Laws.{CreatesAs}

going-as : (goes : Bool) (offer : OfferMeans) (own : OfferSays) → StandsAs offer.end own.end → offer.handle ≡ own.handle → offer.token ≡ own.token
    → CreatesAs (due (BadReply Steps) goes >>= λ unfinished. Ok (created.Going offer)) (due (BadReply Steps) goes >>= λ unfinished. Ok (created.Going own))
going-as true offer own h e f = (h, e, f)
going-as false offer own h e f = refl

done-as : (outcome : Outcome) (handle : List ℕ) (finished some proved : Bool)
    → CreatesAs (due (BadReply Steps) finished >>= λ one. due (BadReply Width) some >>= λ two. due (BadReply Verifier) proved >>= λ three. Ok (created.Stands outcome handle))
    (due (BadReply Steps) finished >>= λ one. due (BadReply Width) some >>= λ two. due (BadReply Verifier) proved >>= λ three. Ok (created.Stands outcome handle))
done-as outcome handle true true true = (refl, refl)
done-as outcome handle true true false = refl
done-as outcome handle true false proved = refl
done-as outcome handle false some proved = refl

stepped-as : (g : GrantedValue) (step : StepMeans) (plain : StepSays) → GoesAs step plain → CreatesAs (by_step g step) (by_step g plain)
unfolding by_step
stepped-as g (steps.More end token) (steps.More own sent) h =
    going-as (g.result.major == CONTINUE_NEEDED) (record { end = end; handle = g.result.context; token = token }) (record { end = own; handle = g.result.context; token = sent }) h.0 refl h.1
stepped-as g (steps.More end token) (steps.Done own) h = absurd h
stepped-as g (steps.Done outcome) (steps.More own sent) h = absurd h
stepped-as g (steps.Done outcome) (steps.Done own) h =
    subst (λ (o : Outcome). CreatesAs (by_step g (steps.Done outcome)) (by_step g (steps.Done o))) h
    (done-as outcome g.result.context (g.result.major == COMPLETE) (not (g.result.window == 0)) (is_verified outcome g.answer g.result.window))

negotiated-as : (g : GrantedValue) (r : Result StepMeans NegRefusal) (s : Result StepSays NegRefusal) → StepsAs r s
    → CreatesAs (negotiated r >>= λ step. by_step g step) (negotiated s >>= λ step. by_step g step)
negotiated-as g (Ok step) (Ok plain) h = stepped-as g step plain h
negotiated-as g (Ok step) (Err refusal) h = absurd h
negotiated-as g (Err refusal) (Ok plain) h = absurd h
negotiated-as g (Err refusal) (Err other) h = ap Negotiation h

granted-as : (end : EndMeans) (plain : EndSays) → StandsAs end plain → (r : Result GrantedValue ClientRefusal)
    → CreatesAs (r >>= λ g. negotiated (end_step end g.result.token) >>= λ step. by_step g step) (r >>= λ g. negotiated (plain_machine plain g.result.token) >>= λ step. by_step g step)
granted-as end plain h (Ok g) = negotiated-as g (end_step end g.result.token) (plain_machine plain g.result.token) (plain_law.steps end plain g.result.token h)
granted-as end plain h (Err refusal) = refl

pub replied-as : (end : EndMeans) (plain : EndSays) (xid : ℕ) (octets : List ℕ) → StandsAs end plain → CreatesAs (creation_by end_step end xid octets) (creation_step plain xid octets)
unfolding creation_by
replied-as end plain xid octets h = granted-as end plain h (granted_in xid octets)
