-- The request that a context is fixed by is the one in the token: it is what the step judged.
use Rattle.std.proofs.Common.{◌≡◌, ℕ, Bool, true, false, not, if◌then◌else◌, List, [], ◌∷◌, length, map, Option, None, Some, refl, sym, subst, ◌∙◌}
use Rattle.std.specs.Prelude.{Result, Ok, Err}
use Rattle.gss_base.specs.declared.mech.MechKind.{MechKind}
use Rattle.gss_base.specs.declared.mech.MechKind.TheVariants as kinds
use Rattle.ap_exchange.specs.declared.refusal.ApRefusal.{ApRefusal}
use Rattle.ap_exchange.specs.declared.judged.Judged.{Judged}
use Rattle.ap_exchange.specs.Draws.{drawn_nonce}
use Rattle.ap_exchange.specs.Exchange.{judge_found}
use Rattle.ap_exchange.specs.Judging.{judged}
use Rattle.scram_mech.specs.declared.refusal.ScramRefusal.{ScramRefusal}
use Rattle.scram_mech.specs.MechMaking.{MechMaking, typed}
use Rattle.scram_mech.specs.Acceptor.{AcceptModel, AcceptStarted, AcceptFinished, accept_started, accept_finished}
use Rattle.spnego_msgs.specs.declared.neg_init.NegInit.{NegInit}
use Rattle.spnego_msgs.specs.declared.neg_resp.NegResp.{NegResp}
use Rattle.spnego_core.specs.declared.refusal.NegRefusal.{NegRefusal}
use Rattle.spnego_core.specs.declared.refusal.NegRefusal.TheVariants.{Defective, Rejected, NoCommonMech, MicMissing, MicBad}
use Rattle.spnego_core.specs.declared.setup.AcceptSetup.{AcceptSetup}
use Rattle.spnego_core.specs.declared.accept_mech.AcceptMech.{AcceptMech}
use Rattle.spnego_core.specs.declared.accept_mech.AcceptMech.TheVariants as mechs
use Rattle.spnego_core.specs.declared.accept_end.Turn.{Turn}
use Rattle.spnego_core.specs.declared.accept_end.Turn.TheVariants.{First, Later, Bare}
use Rattle.spnego_core.specs.declared.accept_end.Chosen.{Chosen}
use Rattle.spnego_core.specs.declared.accept_end.Running.{Running}
use Rattle.spnego_core.specs.declared.accept_end.Owing.{Owing}
use Rattle.spnego_core.specs.declared.accept_end.AcceptEnd.{AcceptEnd}
use Rattle.spnego_core.specs.declared.accept_end.AcceptEnd.TheVariants as ends
use Rattle.spnego_core.specs.Steps.{◌>>=◌, due, or_refuse}
use Rattle.spnego_core.specs.Tokens.{init_read, resp_read, rejects}
use Rattle.spnego_core.specs.ListMic.{is_list_mic}
use Rattle.krb_tokens.specs.declared.end.Side.TheVariants.{Acceptor}
use Rattle.spnego_core.specs.Bare.{bare_oid}
use Rattle.spnego_core.specs.Choice.{is_first_named, best}
use Rattle.spnego_core.specs.AcceptMech.{ByRequest, ByProof, request_taken, text_taken, proof_taken, accept_taken}
use Rattle.spnego_core.specs.Accepting.{Fixed, Accepted, run, begun, token_for, started, chose, begins, first_taken, proceeds, settled, closes, accept_step}
use Rattle.world_laws.specs.Lanes.{request_in, request_of_init, request_of_first, request_of_resp, request_of}

-- the request in a token was judged, and what was found is what was found in it
pub record Requested (setup : AcceptSetup) (now : ℕ) (token : Option (List ℕ)) (request : Judged) (found : List MechMaking) : Type 0 where
  pub inner : List ℕ
  pub is : token ≡ Some inner
  pub judges : judged setup.keytab setup.own now setup.bindings inner ≡ Ok request
  pub finds : found ≡ map typed (judge_found setup.keytab setup.own inner)

-- what a step fixes by a request is fixed by the one in this token
abbrev Of : AcceptSetup → ℕ → Option (List ℕ) → Result Accepted NegRefusal → Type 0
Of setup now token (Err refusal) = Unit {0}
Of setup now token (Ok accepted) = (fixed : Fixed) (request : Judged) → accepted.fixes ≡ Some fixed → fixed.basis ≡ ByRequest request → Requested setup now token request accepted.found

none-some : (a : Fixed) → None ≡ Some a → ⊥
none-some a e = cc

fixed-same : (a b : Fixed) → Some a ≡ Some b → a ≡ b
fixed-same a b e = cc

pub request-same : (a b : Judged) → ByRequest a ≡ ByRequest b → a ≡ b
request-same a b e = cc

pub proof-request : (end : AcceptModel) (text : List ℕ) (request : Judged) → ByProof end text ≡ ByRequest request → ⊥
proof-request end text request e = cc

of-bind : {A : Type 0} (setup : AcceptSetup) (now : ℕ) (token : Option (List ℕ)) (r : Result A NegRefusal) (next : A → Result Accepted NegRefusal) → ((x : A) → r ≡ Ok x → Of setup now token (next x)) → Of setup now token (r >>= next)
of-bind setup now token (Ok x) next f = f x refl
of-bind setup now token (Err refusal) next f = tt

of-due : (setup : AcceptSetup) (now : ℕ) (token : Option (List ℕ)) (refusal : NegRefusal) (holds : Bool) (r : Result Accepted NegRefusal) → Of setup now token r → Of setup now token (due refusal holds >>= (λ nothing. r))
of-due setup now token refusal true r f = f
of-due setup now token refusal false r f = tt

-- ---- the mechanism

basis-of : (fixed other : Fixed) (request judge : Judged) → Some fixed ≡ Some other → fixed.basis ≡ ByRequest judge → other.basis ≡ ByRequest request → judge ≡ request
basis-of fixed other request judge e b c = request-same judge request (sym b ∙ subst (λ (x : Fixed). x.basis ≡ ByRequest request) (sym (fixed-same fixed other e)) c)

of-request : (setup : AcceptSetup) (now : ℕ) (turn : Turn) (chosen : Chosen) (draws token : List ℕ) (r : Result Judged ApRefusal)
    → judged setup.keytab setup.own now setup.bindings token ≡ r → Of setup now (Some token) (run turn chosen (request_taken draws (map typed (judge_found setup.keytab setup.own token)) r))
of-request setup now turn chosen draws token (Err refusal) e = tt
of-request setup now turn chosen draws token (Ok judge) e = λ fixed request f b. record {
  inner = token;
  is = refl;
  finds = refl;
  judges = subst (λ (x : Judged). judged setup.keytab setup.own now setup.bindings token ≡ Ok x) (basis-of _ fixed request judge f refl b) e;
}

of-text : (setup : AcceptSetup) (now : ℕ) (other : Option (List ℕ)) (turn : Turn) (chosen : Chosen) (r : Result AcceptStarted ScramRefusal) → Of setup now other (run turn chosen (text_taken r))
of-text setup now other turn chosen (Err refusal) = tt
of-text setup now other turn chosen (Ok started) = λ fixed request f b. absurd (none-some fixed f)

of-proof : (setup : AcceptSetup) (now : ℕ) (other : Option (List ℕ)) (turn : Turn) (chosen : Chosen) (end : AcceptModel) (token : List ℕ) (r : Result AcceptFinished ScramRefusal)
    → Of setup now other (run turn chosen (proof_taken end token r))
of-proof setup now other turn chosen end token (Err refusal) = tt
of-proof setup now other turn chosen end token (Ok made) = λ fixed request f b.
    absurd (proof-request end token request (subst (λ (x : Fixed). x.basis ≡ ByRequest request) (sym (fixed-same _ fixed f)) b))

-- of the mechanism that takes the token, the request is the token where the mechanism is Kerberos
abbrev own_request : AcceptMech → List ℕ → Option (List ℕ)
own_request mechs.Kerberos token = Some token
own_request mechs.Scram token = None
own_request (mechs.Proof end) token = None

of-mech : (setup : AcceptSetup) (now : ℕ) (draws : List ℕ) (turn : Turn) (chosen : Chosen) (mech : AcceptMech) (token : List ℕ)
    → Of setup now (own_request mech token) (run turn chosen (accept_taken setup mech token now draws))
unfolding accept_taken
of-mech setup now draws turn chosen mechs.Kerberos token =
    of-request setup now turn chosen draws token (judged setup.keytab setup.own now setup.bindings token) refl
of-mech setup now draws turn chosen mechs.Scram token = of-text setup now None turn chosen (accept_started setup.verifiers token (drawn_nonce draws))
of-mech setup now draws turn chosen (mechs.Proof end) token = of-proof setup now None turn chosen end token (accept_finished end token setup.bindings now)

-- ---- the first token

of-none : (setup : AcceptSetup) (now : ℕ) (draws : List ℕ) (other : Option (List ℕ)) (running : Running) → Of setup now other (started setup now draws running None)
of-none setup now draws other running = λ fixed request f b. absurd (none-some fixed f)

of-scram : (setup : AcceptSetup) (now : ℕ) (draws : List ℕ) (other : Option (List ℕ)) (chosen : Chosen) (token : Option (List ℕ)) → Of setup now other (started setup now draws (record { chosen = chosen; mech = mechs.Scram }) token)
unfolding accept_taken
of-scram setup now draws other chosen None = of-none setup now draws other (record { chosen = chosen; mech = mechs.Scram })
of-scram setup now draws other chosen (Some token) = of-text setup now other First chosen (accept_started setup.verifiers token (drawn_nonce draws))

of-kerberos : (setup : AcceptSetup) (now : ℕ) (draws : List ℕ) (chosen : Chosen) (token : Option (List ℕ)) → Of setup now token (started setup now draws (record { chosen = chosen; mech = mechs.Kerberos }) token)
of-kerberos setup now draws chosen None = of-none setup now draws None (record { chosen = chosen; mech = mechs.Kerberos })
of-kerberos setup now draws chosen (Some token) = of-mech setup now draws First chosen mechs.Kerberos token

-- Kerberos's request is the first token of a list whose first it is
abbrev first_request : Bool → Option (List ℕ) → Option (List ℕ)
first_request named token = if named then token else None

of-named : (setup : AcceptSetup) (now : ℕ) (draws : List ℕ) (chosen : Chosen) (named : Bool) (token : Option (List ℕ))
    → Of setup now (first_request named token) (started setup now draws (record { chosen = chosen; mech = mechs.Kerberos }) (token_for named token))
of-named setup now draws chosen true token = of-kerberos setup now draws chosen token
of-named setup now draws chosen false token = of-none setup now draws None (record { chosen = chosen; mech = mechs.Kerberos })

of-chose : (setup : AcceptSetup) (now : ℕ) (draws : List ℕ) (list : List (List ℕ)) (token : Option (List ℕ)) (kind : MechKind)
    → Of setup now (if is_first_named list kinds.Kerberos then request_in (Some kind) token else None) (chose setup now draws list token kind)
of-chose setup now draws list token kinds.Kerberos = of-named setup now draws _ (is_first_named list kinds.Kerberos) token
of-chose setup now draws list token kinds.Scram = of-scram setup now draws _ _ (token_for (is_first_named list kinds.Scram) token)

best-is : {kind : MechKind} (choice : Option MechKind) (refusal : NegRefusal) → or_refuse refusal choice ≡ Ok kind → choice ≡ Some kind
best-is None refusal e = absurd (let f : Err refusal ≡ Ok _ = e in cc)
best-is {kind} (Some other) refusal e = let f : Ok other ≡ Ok kind = e in cc

of-begins : (setup : AcceptSetup) (now : ℕ) (draws : List ℕ) (init : NegInit) → Of setup now (request_of_init setup (Ok init)) (begins setup now draws init)
unfolding begins
of-begins setup now draws init =
    of-bind {A = MechKind} setup now (request_of_init setup (Ok init)) (or_refuse NoCommonMech (best setup.offer init.list)) (chose setup now draws init.list init.token)
    (λ kind e. subst (λ (choice : Option MechKind). Of setup now (if is_first_named init.list kinds.Kerberos then request_in choice init.token else None) (chose setup now draws init.list init.token kind))
    (sym (best-is {kind = kind} (best setup.offer init.list) NoCommonMech e)) (of-chose setup now draws init.list init.token kind))

-- ---- later tokens

of-later : (setup : AcceptSetup) (now : ℕ) (draws : List ℕ) (size : ℕ) (running : Running) (resp : NegResp) (mech : AcceptMech) (token : Option (List ℕ)) → resp.token ≡ token
    → Of setup now (request_of_resp mech (Ok resp)) (or_refuse (Defective size) token >>= (λ inner. run Later running.chosen (accept_taken setup mech inner now draws)))
of-later setup now draws size running resp mech None e = tt
of-later setup now draws size running resp mechs.Kerberos (Some token) e =
    subst (λ (o : Option (List ℕ)). Of setup now o (run Later running.chosen (accept_taken setup mechs.Kerberos token now draws))) (sym e) (of-mech setup now draws Later running.chosen mechs.Kerberos token)
of-later setup now draws size running resp mechs.Scram (Some token) e = of-mech setup now draws Later running.chosen mechs.Scram token
of-later setup now draws size running resp (mechs.Proof end) (Some token) e = of-mech setup now draws Later running.chosen (mechs.Proof end) token

of-proceeds : (setup : AcceptSetup) (now : ℕ) (draws : List ℕ) (size : ℕ) (running : Running) (resp : NegResp) → Of setup now (request_of_resp running.mech (Ok resp)) (proceeds setup now draws size running resp)
unfolding proceeds
of-proceeds setup now draws size running resp =
    of-due setup now (request_of_resp running.mech (Ok resp)) Rejected (not (rejects resp.state))
    (or_refuse (Defective size) resp.token >>= (λ token. run Later running.chosen (accept_taken setup running.mech token now draws)))
    (of-later setup now draws size running resp running.mech resp.token refl)

-- once the mechanism is done nothing is fixed
of-closes : (setup : AcceptSetup) (now : ℕ) (other : Option (List ℕ)) (owing : Owing) (resp : NegResp) → Of setup now other (closes owing resp)
unfolding closes
of-closes setup now other owing resp =
    of-due setup now other Rejected (not (rejects resp.state))
    (or_refuse MicMissing resp.mic >>= (λ mic. due MicBad (is_list_mic owing.outcome Acceptor owing.received mic) >>= (λ right. Ok (settled owing resp.state mic))))
    (of-bind {A = List ℕ} setup now other (or_refuse MicMissing resp.mic)
    (λ mic. due MicBad (is_list_mic owing.outcome Acceptor owing.received mic) >>= (λ right. Ok (settled owing resp.state mic)))
    (λ mic e. of-due setup now other MicBad (is_list_mic owing.outcome Acceptor owing.received mic) (Ok (settled owing resp.state mic)) (λ fixed request f b. absurd (none-some fixed f))))

-- ---- the machine

of-init : (setup : AcceptSetup) (now : ℕ) (draws : List ℕ) (r : Result NegInit NegRefusal) → Of setup now (request_of_init setup r) (r >>= begins setup now draws)
of-init setup now draws (Err refusal) = tt
of-init setup now draws (Ok init) = of-begins setup now draws init

of-resp : (setup : AcceptSetup) (now : ℕ) (draws : List ℕ) (size : ℕ) (running : Running) (r : Result NegResp NegRefusal) → Of setup now (request_of_resp running.mech r) (r >>= proceeds setup now draws size running)
of-resp setup now draws size running (Err refusal) = tt
of-resp setup now draws size running (Ok resp) = of-proceeds setup now draws size running resp

of-first : (setup : AcceptSetup) (now : ℕ) (draws token : List ℕ) (bare : Option (List ℕ)) → Of setup now (request_of_first setup token bare) (first_taken setup now draws token bare)
of-first setup now draws token None = of-init setup now draws (init_read token)
of-first setup now draws token (Some oid) = of-mech setup now draws Bare (begun setup (oid ∷ []) kinds.Kerberos).chosen mechs.Kerberos token

of-step : (setup : AcceptSetup) (end : AcceptEnd) (token : List ℕ) (now : ℕ) (draws : List ℕ) → Of setup now (request_of setup end token) (accept_step setup end token now draws)
of-step setup ends.New token now draws = of-first setup now draws token (bare_oid setup token)
of-step setup (ends.Runs running) token now draws = of-resp setup now draws (length token) running (resp_read token)
of-step setup (ends.Owes owing) token now draws =
    of-bind {A = NegResp} setup now None (resp_read token) (closes owing) (λ resp e. of-closes setup now None owing resp)

pub requested : (setup : AcceptSetup) (end : AcceptEnd) (token : List ℕ) (now : ℕ) (draws : List ℕ) (accepted : Accepted) (fixed : Fixed) (request : Judged)
    → accept_step setup end token now draws ≡ Ok accepted → accepted.fixes ≡ Some fixed → fixed.basis ≡ ByRequest request → Requested setup now (request_of setup end token) request accepted.found
requested setup end token now draws accepted fixed request e f b = subst (Of setup now (request_of setup end token)) e (of-step setup end token now draws) fixed request f b
