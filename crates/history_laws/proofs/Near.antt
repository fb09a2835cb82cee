-- A step that asks for a mark has one that lies at most 300 seconds from its moment.
use Rattle.std.proofs.Common.{◌≡◌, ◌⊎◌, ◌∙◌, ℕ, ◌+◌, ◌-◌, ◌<◌, ◌≤◌, max, Bool, true, false, refl, sym, subst, arith, inl, inr, List, [], ◌∷◌, map, length, Option, Some, None, Result, Ok, Err}
use Rattle.std.specs.Prelude.{not, nat_lt, nat_le}
use Rattle.std.proofs.lemmas.Bool.{and_parts, leb-true, ltb-true, or_cases}
use Rattle.gss_base.specs.declared.mark.Mark.{Mark}
use Rattle.gss_base.specs.Name.{Name}
use Rattle.gss_base.specs.declared.mech.MechKind.{MechKind}
use Rattle.krb_files.specs.declared.keytab.Entry.{Entry}
use Rattle.krb_tokens.specs.declared.end.Side.TheVariants.{Acceptor}
use Rattle.replay_cache.specs.Taking.{is_stale, skew}
use Rattle.ap_exchange.specs.declared.judged.Judged.{Judged}
use Rattle.ap_exchange.specs.declared.refusal.ApRefusal.{ApRefusal}
use Rattle.ap_exchange.specs.declared.refusal.ApRefusal.TheVariants as refusals
use Rattle.ap_exchange.specs.Steps.{◌>>=◌ as ◌then◌, due as due_in}
use Rattle.ap_exchange.specs.Exchange.{judge_found, exchange_of}
use Rattle.ap_exchange.specs.Draws.{drawn_nonce}
use Rattle.ap_exchange.specs.Judging.{is_near, stamp_of, timely, hash_claimed, judged_as, claim_judged, judged}
use Rattle.scram_mech.specs.MechMaking.{MechMaking, typed}
use Rattle.scram_mech.specs.Acceptor.{AcceptModel, AcceptStarted, AcceptFinished, accept_started, accept_finished}
use Rattle.scram_mech.specs.declared.refusal.ScramRefusal.{ScramRefusal}
use Rattle.spnego_msgs.specs.declared.neg_init.NegInit.{NegInit}
use Rattle.spnego_msgs.specs.declared.neg_resp.NegResp.{NegResp}
use Rattle.spnego_core.specs.Steps.{◌>>=◌, due, or_refuse}
use Rattle.spnego_core.specs.Tokens.{init_read, resp_read, rejects}
use Rattle.spnego_core.specs.ListMic.{is_list_mic}
use Rattle.spnego_core.specs.Bare.{bare_oid}
use Rattle.spnego_core.specs.Choice.{best, is_first_named}
use Rattle.spnego_core.specs.AcceptMech.{request_taken, text_taken, proof_taken, accept_taken}
use Rattle.spnego_core.specs.Outcome.{outcome_of}
use Rattle.spnego_core.specs.Accepting.{Accepted, gone_on, finished, run, begun, token_for, started, chose, begins, first_taken, proceeds, settled, closes, accept_step}
use Rattle.spnego_core.specs.declared.refusal.NegRefusal.{NegRefusal}
use Rattle.spnego_core.specs.declared.refusal.NegRefusal.TheVariants.{Defective, Rejected, NoCommonMech, MicMissing, MicBad}
use Rattle.spnego_core.specs.declared.setup.AcceptSetup.{AcceptSetup}
use Rattle.spnego_core.specs.declared.accept_mech.AcceptMech.{AcceptMech}
use Rattle.spnego_core.specs.declared.accept_mech.AcceptMech.TheVariants as mechs
use Rattle.spnego_core.specs.declared.accept_end.Turn.{Turn}
use Rattle.spnego_core.specs.declared.accept_end.Turn.TheVariants.{First, Later, Bare}
use Rattle.spnego_core.specs.declared.accept_end.Chosen.{Chosen}
use Rattle.spnego_core.specs.declared.accept_end.Running.{Running}
use Rattle.spnego_core.specs.declared.accept_end.Owing.{Owing}
use Rattle.spnego_core.specs.declared.accept_end.AcceptEnd.{AcceptEnd}
use Rattle.spnego_core.specs.declared.accept_end.AcceptEnd.TheVariants as ends
use Rattle.spnego_core.specs.declared.accept_end.Answered.{Answered}
use Rattle.spnego_core.specs.declared.accept_end.Answered.TheVariants as afters
use Rattle.accept_book.specs.Booking.{mark_of}
use Rattle.gss_base.specs.declared.mech.MechKind.TheVariants as kinds

-- ---- a request that was judged

ap-refused : (B : Type 0) (refusal : ApRefusal) (b : B) → ◌≡◌ {A = Result B ApRefusal} (Err refusal) (Ok b) → ⊥
ap-refused B refusal b e = cc

ap-bind : {A B : Type 0} (r : Result A ApRefusal) (next : A → Result B ApRefusal) (b : B) → (r then next) ≡ Ok b → (a : A) × (r ≡ Ok a) × (next a ≡ Ok b)
ap-bind (Ok a) next b e = (a, refl, e)
ap-bind {A} {B} (Err refusal) next b e = absurd (ap-refused B refusal b e)

judged-same : {x y : Judged} → ◌≡◌ {A = Result Judged ApRefusal} (Ok x) (Ok y) → x ≡ y
judged-same e = cc

due-holds : (refusal : ApRefusal) (b : Bool) (u : Unit {0}) → due_in refusal b ≡ Ok u → b ≡ true
due-holds refusal true u e = refl
due-holds refusal false u e = absurd (ap-refused (Unit {0}) refusal u e)

timely-near : (now : ℕ) (part : _) (said : _) (u : Unit {0}) → timely now part said ≡ Ok u → is_near now (stamp_of said) ≡ true
unfolding timely
timely-near now part said u e =
    let a = ap-bind (due_in refusals.Skew (is_near now (stamp_of said))) _ u e in due-holds refusals.Skew (is_near now (stamp_of said)) a.0 a.1

judged-near : (keytab : List Entry) (own : Name) (now : ℕ) (bindings : Option (List ℕ)) (token : List ℕ) (j : Judged) → judged keytab own now bindings token ≡ Ok j → is_near now j.stamp ≡ true
unfolding judged claim_judged
judged-near keytab own now bindings token j e =
    let a = ap-bind (exchange_of keytab own token) _ j e in
    let b = ap-bind (hash_claimed bindings a.0.part a.0.said) _ j a.2 in
    let c = ap-bind (timely now a.0.part a.0.said) _ j b.2 in
    let kept : judged_as own a.0.session a.0.part a.0.said b.0 ≡ j = judged-same c.2 in
    subst (λ (k : Judged). is_near now k.stamp ≡ true) kept (timely-near now a.0.part a.0.said c.0 c.1)

-- ---- a step of the machine

abbrev Near : ℕ → Result Accepted NegRefusal → Type 0
Near now (Ok accepted) = (mark : Mark) → mark_of accepted.step ≡ Some mark → is_near now mark.at ≡ true
Near now (Err refusal) = Unit {0}

near-bind : {A : Type 0} (now : ℕ) (r : Result A NegRefusal) (next : A → Result Accepted NegRefusal) → ((x : A) → Near now (next x)) → Near now (r >>= next)
near-bind now (Ok x) next f = f x
near-bind now (Err refusal) next f = tt

near-due : (now : ℕ) (refusal : NegRefusal) (holds : Bool) (r : Result Accepted NegRefusal) → Near now r → Near now (due refusal holds >>= (λ nothing. r))
near-due now refusal true r f = f
near-due now refusal false r f = tt

none-marked : (mark : Mark) → ◌≡◌ {A = Option Mark} None (Some mark) → ⊥
none-marked mark e = cc

mark-same : {a b : Mark} → Some a ≡ Some b → a ≡ b
mark-same e = cc

near-request : (now : ℕ) (turn : Turn) (chosen : Chosen) (draws : List ℕ) (found : List MechMaking) (r : Result Judged ApRefusal) → ((j : Judged) → r ≡ Ok j → is_near now j.stamp ≡ true)
    → Near now (run turn chosen (request_taken draws found r))
near-request now turn chosen draws found (Err refusal) near = tt
near-request now turn chosen draws found (Ok request) near = λ mark e. subst (λ (m : Mark). is_near now m.at ≡ true) (mark-same e) (near request refl)

near-text : (now : ℕ) (turn : Turn) (chosen : Chosen) (r : Result AcceptStarted ScramRefusal) → Near now (run turn chosen (text_taken r))
near-text now turn chosen (Err refusal) = tt
near-text now turn chosen (Ok started) = λ mark e. absurd (none-marked mark e)

unmarked-after : (after : Answered) → mark_of (gone_on after) ≡ None
unmarked-after (afters.More end token) = refl
unmarked-after (afters.Done outcome lasts token) = refl

near-proof : (now : ℕ) (turn : Turn) (chosen : Chosen) (end : AcceptModel) (token : List ℕ) (r : Result AcceptFinished ScramRefusal) → Near now (run turn chosen (proof_taken end token r))
near-proof now turn chosen end token (Err refusal) = tt
near-proof now turn chosen end token (Ok made) = λ mark e.
    absurd (none-marked mark (sym (unmarked-after (finished turn chosen (outcome_of kinds.Scram made.done) made.done.ends made.token)) ∙ e))

near-mech : (setup : AcceptSetup) (now : ℕ) (draws : List ℕ) (turn : Turn) (chosen : Chosen) (mech : AcceptMech) (token : List ℕ) → Near now (run turn chosen (accept_taken setup mech token now draws))
unfolding accept_taken
near-mech setup now draws turn chosen mechs.Kerberos token =
    near-request now turn chosen draws (map typed (judge_found setup.keytab setup.own token)) (judged setup.keytab setup.own now setup.bindings token)
    (judged-near setup.keytab setup.own now setup.bindings token)
near-mech setup now draws turn chosen mechs.Scram token = near-text now turn chosen (accept_started setup.verifiers token (drawn_nonce draws))
near-mech setup now draws turn chosen (mechs.Proof end) token = near-proof now turn chosen end token (accept_finished end token setup.bindings now)

near-started : (setup : AcceptSetup) (now : ℕ) (draws : List ℕ) (running : Running) (token : Option (List ℕ)) → Near now (started setup now draws running token)
near-started setup now draws running None = λ mark e. absurd (none-marked mark e)
near-started setup now draws running (Some token) = near-mech setup now draws First running.chosen running.mech token

near-begins : (setup : AcceptSetup) (now : ℕ) (draws : List ℕ) (init : NegInit) → Near now (begins setup now draws init)
unfolding begins
near-begins setup now draws init =
    near-bind {A = MechKind} now (or_refuse NoCommonMech (best setup.offer init.list)) (chose setup now draws init.list init.token)
    (λ kind. near-started setup now draws (begun setup init.list kind) (token_for (is_first_named init.list kind) init.token))

near-proceeds : (setup : AcceptSetup) (now : ℕ) (draws : List ℕ) (size : ℕ) (running : Running) (resp : NegResp) → Near now (proceeds setup now draws size running resp)
unfolding proceeds
near-proceeds setup now draws size running resp =
    near-due now Rejected (not (rejects resp.state)) (or_refuse (Defective size) resp.token >>= (λ token. run Later running.chosen (accept_taken setup running.mech token now draws)))
    (near-bind {A = List ℕ} now (or_refuse (Defective size) resp.token) (λ token. run Later running.chosen (accept_taken setup running.mech token now draws))
    (λ token. near-mech setup now draws Later running.chosen running.mech token))

near-closes : (now : ℕ) (owing : Owing) (resp : NegResp) → Near now (closes owing resp)
unfolding closes
near-closes now owing resp =
    near-due now Rejected (not (rejects resp.state))
    (or_refuse MicMissing resp.mic >>= (λ mic. due MicBad (is_list_mic owing.outcome Acceptor owing.received mic) >>= (λ right. Ok (settled owing resp.state mic))))
    (near-bind {A = List ℕ} now (or_refuse MicMissing resp.mic)
    (λ mic. due MicBad (is_list_mic owing.outcome Acceptor owing.received mic) >>= (λ right. Ok (settled owing resp.state mic)))
    (λ mic. near-due now MicBad (is_list_mic owing.outcome Acceptor owing.received mic) (Ok (settled owing resp.state mic)) (λ mark e. absurd (none-marked mark e))))

near-first : (setup : AcceptSetup) (now : ℕ) (draws token : List ℕ) (bare : Option (List ℕ)) → Near now (first_taken setup now draws token bare)
near-first setup now draws token None = near-bind {A = NegInit} now (init_read token) (begins setup now draws) (λ init. near-begins setup now draws init)
near-first setup now draws token (Some oid) = near-mech setup now draws Bare (begun setup (oid ∷ []) kinds.Kerberos).chosen mechs.Kerberos token

near-step : (setup : AcceptSetup) (end : AcceptEnd) (token : List ℕ) (now : ℕ) (draws : List ℕ) → Near now (accept_step setup end token now draws)
near-step setup ends.New token now draws = near-first setup now draws token (bare_oid setup token)
near-step setup (ends.Runs running) token now draws =
    near-bind {A = NegResp} now (resp_read token) (proceeds setup now draws (length token) running) (λ resp. near-proceeds setup now draws (length token) running resp)
near-step setup (ends.Owes owing) token now draws = near-bind {A = NegResp} now (resp_read token) (closes owing) (λ resp. near-closes now owing resp)

pub near : (setup : AcceptSetup) (end : AcceptEnd) (token : List ℕ) (now : ℕ) (draws : List ℕ) (accepted : Accepted) (mark : Mark) → accept_step setup end token now draws ≡ Ok accepted
    → mark_of accepted.step ≡ Some mark → is_near now mark.at ≡ true
near setup end token now draws accepted mark e = subst (Near now) e (near-step setup end token now draws) mark

-- ---- so a mark is stale only by a greater moment that was seen before

pub record Stales (before now at : ℕ) : Type 0 where
  pub seen : max before now ≡ before
  pub later : now < before
  pub old : at + skew < before

stale-by : (before now at : ℕ) → at ≤ now + 300000000 → now ≤ at + 300000000 → (skew < max before now - at) ⊎ (skew < at - max before now) → Stales before now at
stale-by before now at late early (inl far) = record { seen = omega (arith, late, early, far); later = omega (arith, late, early, far); old = omega (arith, late, early, far) }
stale-by before now at late early (inr far) = absurd (omega (arith, late, early, far))

stale-cases : (greatest : ℕ) (mark : Mark) → is_stale greatest mark ≡ true → (skew < greatest - mark.at) ⊎ (skew < mark.at - greatest)
stale-cases greatest mark e = by (or_cases (nat_lt skew (greatest - mark.at)) (nat_lt skew (mark.at - greatest)) e)
  where
    by : (nat_lt skew (greatest - mark.at) ≡ true) ⊎ (nat_lt skew (mark.at - greatest) ≡ true) → (skew < greatest - mark.at) ⊎ (skew < mark.at - greatest)
    by (inl a) = inl (ltb-true skew (greatest - mark.at) a)
    by (inr a) = inr (ltb-true skew (mark.at - greatest) a)

pub stale : (before now : ℕ) (mark : Mark) → is_near now mark.at ≡ true → is_stale (max before now) mark ≡ true → Stales before now mark.at
stale before now mark n e =
    let parts = and_parts (nat_le mark.at (now + 300000000)) (nat_le now (mark.at + 300000000)) n in
    stale-by before now mark.at (leb-true mark.at (now + 300000000) parts.0) (leb-true now (mark.at + 300000000) parts.1) (stale-cases (max before now) mark e)
