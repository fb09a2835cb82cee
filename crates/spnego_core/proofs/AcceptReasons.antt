-- No step of an acceptor is refused for want of memory.
use Rattle.std.proofs.Common.{◌≡◌, ℕ, false, not, List, [], ◌∷◌, length, Option, Some, None, Result, Ok, Err, refl}
use Rattle.krb_tokens.specs.declared.end.Side.TheVariants.{Acceptor}
use Rattle.spnego_msgs.specs.declared.neg_init.NegInit.{NegInit}
use Rattle.spnego_msgs.specs.declared.neg_resp.NegResp.{NegResp}
use Rattle.gss_base.specs.declared.mech.MechKind.TheVariants.{Kerberos}
use Rattle.spnego_core.specs.declared.accept_mech.AcceptMech.TheVariants as mechs
use Rattle.spnego_core.specs.declared.accept_end.AcceptEnd.{AcceptEnd}
use Rattle.spnego_core.specs.declared.accept_end.AcceptEnd.TheVariants as ends
use Rattle.spnego_core.specs.declared.accept_end.Chosen.{Chosen}
use Rattle.spnego_core.specs.declared.accept_end.Owing.{Owing}
use Rattle.spnego_core.specs.declared.accept_end.Running.{Running}
use Rattle.spnego_core.specs.declared.accept_end.Turn.{Turn}
use Rattle.spnego_core.specs.declared.accept_end.Turn.TheVariants.{First, Later, Bare}
use Rattle.spnego_core.specs.declared.refusal.MechRefusal.{MechRefusal}
use Rattle.spnego_core.specs.declared.refusal.NegRefusal.{NegRefusal}
use Rattle.spnego_core.specs.declared.refusal.NegRefusal.TheVariants.{Defective, Rejected, NoCommonMech, MicMissing, MicBad}
use Rattle.spnego_core.specs.declared.setup.AcceptSetup.{AcceptSetup}
use Rattle.spnego_core.specs.AcceptMech.{MechTaken, accept_taken}
use Rattle.spnego_core.specs.Accepting.{run, begun, token_for, started, begins, first_taken, proceeds, settled, closes, accept_step}
use Rattle.spnego_core.specs.Bare.{bare_oid}
use Rattle.spnego_core.specs.Choice.{best, is_first_named}
use Rattle.spnego_core.specs.ListMic.{is_list_mic}
use Rattle.spnego_core.specs.Reasons.{neg_wants_memory}
use Rattle.spnego_core.specs.Steps.{due, or_refuse}
use Rattle.spnego_core.specs.Tokens.{init_read, resp_read, rejects}
use Rattle.spnego_core.proofs.MechReasons.{MechReasoned, accept_taken-reasoned, Reasoned, reason-of, reason-ok, reason-bind, reason-due, reason-or, reason-said}

run-reasoned : (turn : Turn) (chosen : Chosen) (r : Result MechTaken MechRefusal) → MechReasoned r → Reasoned (run turn chosen r)
unfolding MechReasoned Reasoned
run-reasoned turn chosen (Ok taken) h = tt
run-reasoned turn chosen (Err e) h = h

started-reasoned : (setup : AcceptSetup) (now : ℕ) (draws : List ℕ) (running : Running) (token : Option (List ℕ)) → Reasoned (started setup now draws running token)
started-reasoned setup now draws running None = reason-ok _
started-reasoned setup now draws running (Some token) =
    run-reasoned First running.chosen (accept_taken setup running.mech token now draws) (accept_taken-reasoned setup running.mech token now draws)

begins-reasoned : (setup : AcceptSetup) (now : ℕ) (draws : List ℕ) (init : NegInit) → Reasoned (begins setup now draws init)
unfolding begins
begins-reasoned setup now draws init =
    reason-bind (or_refuse NoCommonMech (best setup.offer init.list)) _ (reason-or NoCommonMech (best setup.offer init.list) refl)
    (λ kind. started-reasoned setup now draws (begun setup init.list kind) (token_for (is_first_named init.list kind) init.token))

proceeds-reasoned : (setup : AcceptSetup) (now : ℕ) (draws : List ℕ) (size : ℕ) (running : Running) (resp : NegResp) → Reasoned (proceeds setup now draws size running resp)
unfolding proceeds
proceeds-reasoned setup now draws size running resp =
    reason-bind (due Rejected (not (rejects resp.state))) _ (reason-due Rejected (not (rejects resp.state)) refl)
    (λ goes. reason-bind (or_refuse (Defective size) resp.token) _ (reason-or (Defective size) resp.token refl)
    (λ token. run-reasoned Later running.chosen (accept_taken setup running.mech token now draws) (accept_taken-reasoned setup running.mech token now draws)))

closes-reasoned : (owing : Owing) (resp : NegResp) → Reasoned (closes owing resp)
unfolding closes
closes-reasoned owing resp =
    reason-bind (due Rejected (not (rejects resp.state))) _ (reason-due Rejected (not (rejects resp.state)) refl)
    (λ goes. reason-bind (or_refuse MicMissing resp.mic) _ (reason-or MicMissing resp.mic refl)
    (λ mic. reason-bind (due MicBad (is_list_mic owing.outcome Acceptor owing.received mic)) _ (reason-due MicBad (is_list_mic owing.outcome Acceptor owing.received mic) refl)
    (λ right. reason-ok (settled owing resp.state mic))))

init_read-reasoned : (token : List ℕ) → Reasoned (init_read token)
unfolding init_read
init_read-reasoned token = reason-said _

pub resp_read-reasoned : (token : List ℕ) → Reasoned (resp_read token)
unfolding resp_read
resp_read-reasoned token = reason-said _

first-reasoned : (setup : AcceptSetup) (now : ℕ) (draws token : List ℕ) (oid : Option (List ℕ)) → Reasoned (first_taken setup now draws token oid)
first-reasoned setup now draws token None = reason-bind (init_read token) _ (init_read-reasoned token) (begins-reasoned setup now draws)
first-reasoned setup now draws token (Some oid) =
    run-reasoned Bare (begun setup (oid ∷ []) Kerberos).chosen (accept_taken setup mechs.Kerberos token now draws) (accept_taken-reasoned setup mechs.Kerberos token now draws)

step-reasoned : (setup : AcceptSetup) (old : AcceptEnd) (token : List ℕ) (now : ℕ) (draws : List ℕ) → Reasoned (accept_step setup old token now draws)
step-reasoned setup ends.New token now draws = first-reasoned setup now draws token (bare_oid setup token)
step-reasoned setup (ends.Runs running) token now draws = reason-bind (resp_read token) _ (resp_read-reasoned token) (proceeds-reasoned setup now draws (length token) running)
step-reasoned setup (ends.Owes owing) token now draws = reason-bind (resp_read token) _ (resp_read-reasoned token) (closes-reasoned owing)

pub accept_reasons : (setup : AcceptSetup) (old : AcceptEnd) (token : List ℕ) (now : ℕ) (draws : List ℕ) (refusal : NegRefusal) → accept_step setup old token now draws ≡ Err refusal → neg_wants_memory refusal ≡ false
accept_reasons setup old token now draws refusal = reason-of (accept_step setup old token now draws) refusal (step-reasoned setup old token now draws)
