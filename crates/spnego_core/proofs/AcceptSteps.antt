-- What an acceptor's step shows, part by part.
use Rattle.std.proofs.Common.{◌≡◌, ◌⊎◌, ℕ, Bool, true, false, not, if◌then◌else◌, refl, sym, ap, ◌∙◌, subst, inl, inr, List, [], ◌∷◌, ◌++◌, length, map, Option, Some, None, Result, Ok, Err}
use Rattle.gss_base.specs.declared.mech.MechKind.{MechKind}
use Rattle.gss_base.specs.declared.mech.MechKind.TheVariants as kinds
use Rattle.krb_tokens.specs.declared.end.Side.TheVariants.{Acceptor}
use Rattle.spnego_msgs.specs.declared.neg_init.NegInit.{NegInit}
use Rattle.spnego_msgs.specs.declared.neg_resp.NegResp.{NegResp}
use Rattle.ap_exchange.specs.declared.refusal.ApRefusal.{ApRefusal}
use Rattle.ap_exchange.specs.declared.judged.Judged.{Judged}
use Rattle.ap_exchange.specs.Exchange.{judge_found}
use Rattle.ap_exchange.specs.Judging.{judged, judged_mark}
use Rattle.ap_exchange.specs.Answer.{answer_done, answer_token, answer_making}
use Rattle.ap_exchange.specs.Draws.{drawn_nonce}
use Rattle.scram_mech.specs.declared.verifiers.Verifier.{Verifier}
use Rattle.scram_mech.specs.declared.refusal.ScramRefusal.{ScramRefusal}
use Rattle.scram_mech.specs.MechMaking.{MechMaking, AmongMakings, typed}
use Rattle.scram_mech.specs.Acceptor.{AcceptModel, AcceptStarted, AcceptFinished, accept_started, accept_finished}
use Rattle.scram_mech.proofs.ExchangeLaws.{takes}
use Rattle.spnego_core.proofs.Makings.{among_split}
use Rattle.spnego_core.proofs.Bares.{IsBare, bare-is, best-bare}
use Rattle.spnego_core.specs.declared.outcome.Outcome.{Outcome}
use Rattle.spnego_core.specs.declared.refusal.NegRefusal.{NegRefusal}
use Rattle.spnego_core.specs.declared.refusal.NegRefusal.TheVariants.{Defective, Rejected, NoCommonMech, MicMissing, MicBad}
use Rattle.spnego_core.specs.declared.setup.AcceptSetup.{AcceptSetup}
use Rattle.spnego_core.specs.declared.accept_mech.AcceptMech.{AcceptMech}
use Rattle.spnego_core.specs.declared.accept_mech.AcceptMech.TheVariants as mechs
use Rattle.spnego_core.specs.declared.accept_end.Turn.{Turn}
use Rattle.spnego_core.specs.declared.accept_end.Turn.TheVariants.{First, Later, Bare}
use Rattle.spnego_core.specs.declared.accept_end.Chosen.{Chosen}
use Rattle.spnego_core.specs.declared.accept_end.Running.{Running}
use Rattle.spnego_core.specs.declared.accept_end.Owing.{Owing}
use Rattle.spnego_core.specs.declared.accept_end.AcceptEnd.{AcceptEnd}
use Rattle.spnego_core.specs.declared.accept_end.AcceptEnd.TheVariants as ends
use Rattle.spnego_core.specs.declared.accept_end.Answered.{Answered}
use Rattle.spnego_core.specs.declared.accept_end.Answered.TheVariants as afters
use Rattle.spnego_core.specs.Outcome.{outcome_of}
use Rattle.spnego_core.specs.Steps.{◌>>=◌, due, or_refuse}
use Rattle.spnego_core.specs.Tokens.{init_read, resp_read, rejects}
use Rattle.spnego_core.specs.ListMic.{is_list_mic, mic_making}
use Rattle.spnego_core.specs.Choice.{is_first_named, best}
use Rattle.spnego_core.specs.Bare.{bare_oid}
use Rattle.spnego_core.specs.AcceptMech.{accept_begun, request_answered, request_taken, text_taken, proof_answered, proof_taken, accept_taken}
use Rattle.spnego_core.specs.Accepting.{Fixed, Accepted, finished, gone_on, mic_made, ran_with, run, begun, token_for, started, chose, begins, first_taken, proceeds, settled, closes, accept_step}
use Rattle.spnego_core.specs.AcceptLaws.{received_of, settled_of, proof_due, waits_for_proof, kind_of_accept, IsOfLine, GoodMech, GoodChosen, GoodRunning, GoodAccept, AfterAnswered, AfterStep, outcome_after, Fixes, AcceptLaw}

-- a fact of a step that was taken
abbrev pub On : (Accepted → Type 0) → Result Accepted NegRefusal → Type 0
On P (Ok taken) = P taken
On P (Err refusal) = Unit {0}

pub on-bind : {A : Type 0} (P : Accepted → Type 0) (r : Result A NegRefusal) (next : A → Result Accepted NegRefusal) → ((x : A) → On P (next x)) → On P (r >>= next)
on-bind P (Ok x) next f = f x
on-bind P (Err refusal) next f = tt

pub on-found : {A : Type 0} (P : Accepted → Type 0) (refusal : NegRefusal) (o : Option A) (next : A → Result Accepted NegRefusal) → ((x : A) → o ≡ Some x → On P (next x)) → On P (or_refuse refusal o >>= next)
on-found P refusal None next f = tt
on-found P refusal (Some x) next f = f x refl

pub on-due : (P : Accepted → Type 0) (refusal : NegRefusal) (holds : Bool) (r : Result Accepted NegRefusal) → (holds ≡ true → On P r) → On P (due refusal holds >>= (λ nothing. r))
on-due P refusal true r f = f refl
on-due P refusal false r f = tt

pub by_test : (P : Answered → Type 0) (b : Bool) (x y : Answered) → (b ≡ true → P x) → (b ≡ false → P y) → P (if b then x else y)
by_test P true x y f g = f refl
by_test P false x y f g = g refl

-- ---- the choice

begun-kind : (kind : MechKind) → kind_of_accept (accept_begun kind) ≡ kind
begun-kind kinds.Kerberos = refl
begun-kind kinds.Scram = refl

begun-good : (setup : AcceptSetup) (kind : MechKind) → GoodMech setup (accept_begun kind)
begun-good setup kinds.Kerberos = tt
begun-good setup kinds.Scram = tt

begun-waits : (kind : MechKind) (end : AcceptModel) → proof_due (accept_begun kind) ≡ Some end → ⊥
begun-waits kinds.Kerberos end e = let f : None ≡ Some end = e in cc
begun-waits kinds.Scram end e = let f : None ≡ Some end = e in cc

-- ---- a mechanism that is done

finished-law : (setup : AcceptSetup) (old : AcceptEnd) (turn : Turn) (chosen : Chosen) (outcome : Outcome) (lasts : ℕ) (token : List ℕ) (found : List MechMaking) → GoodChosen setup chosen → outcome.mech ≡ chosen.kind → ((list : List (List ℕ)) → received_of old ≡ Some list → chosen.received ≡ list) → AfterAnswered setup old found (finished turn chosen outcome lasts token)
finished-law setup old turn chosen outcome lasts token found good mech same =
    by_test (AfterAnswered setup old found) chosen.due _ _
    (λ e. record {
      good = record { best_is = rw mech good.best_is; due_is = rw mech (sym good.due_is ∙ e) };
      same = λ list h. ap Some (same list h);
    })
    (λ e. inl (record {
      received = chosen.received;
      best_is = rw mech good.best_is;
      undue = rw mech (sym good.due_is ∙ e);
      same = same;
    }))

finished-outcome : (turn : Turn) (chosen : Chosen) (outcome : Outcome) (lasts : ℕ) (token : List ℕ) → outcome_after (finished turn chosen outcome lasts token) ≡ Some outcome
finished-outcome turn chosen outcome lasts token =
    by_test (λ (a : Answered). outcome_after a ≡ Some outcome) chosen.due _ _ (λ e. refl) (λ e. refl)

gone-law : (setup : AcceptSetup) (old : AcceptEnd) (found : List MechMaking) (after : Answered) → AfterAnswered setup old found after → AfterStep setup old found (gone_on after)
gone-law setup old found (afters.More end token) h = h
gone-law setup old found (afters.Done outcome lasts token) h = h

mic-one : (b : Bool) (making first : MechMaking) → AmongMakings (if b then first ∷ [] else []) making → making ≡ first
mic-one true making first (inl e) = e
mic-one true making first (inr h) = absurd h
mic-one false making first h = absurd h

made-is : (chosen : Chosen) (outcome : Outcome) (answer making : MechMaking) → AmongMakings ((answer ∷ []) ++ mic_made chosen outcome) making → (making ≡ answer) ⊎ (making ≡ mic_making outcome Acceptor chosen.received)
made-is chosen outcome answer making (inl e) = inl e
made-is chosen outcome answer making (inr h) = inr (mic-one chosen.due making (mic_making outcome Acceptor chosen.received) h)

proved-is : (chosen : Chosen) (outcome : Outcome) (makes : List MechMaking) (making : MechMaking) → AmongMakings (makes ++ mic_made chosen outcome) making → AmongMakings makes making ⊎ (making ≡ mic_making outcome Acceptor chosen.received)
proved-is chosen outcome makes making h =
    elim (among_split makes (mic_made chosen outcome) making h) [
      | inl a ↦ inl a
      | inr b ↦ inr (mic-one chosen.due making (mic_making outcome Acceptor chosen.received) b)
    ]

-- ---- the mechanism takes a token

fixed-same : (a b : Fixed) → Some a ≡ Some b → a ≡ b
fixed-same a b e = cc

some-none : (a : Fixed) → Some a ≡ None → ⊥
some-none a e = cc

none-some : (fixed : Fixed) → None ≡ Some fixed → ⊥
none-some fixed e = cc

request-law : (setup : AcceptSetup) (old : AcceptEnd) (now : ℕ) (draws : List ℕ) (turn : Turn) (chosen : Chosen) (token : List ℕ) (result : Result Judged ApRefusal) → GoodChosen setup chosen → kinds.Kerberos ≡ chosen.kind → settled_of old ≡ None → ((list : List (List ℕ)) → received_of old ≡ Some list → chosen.received ≡ list) → judged setup.keytab setup.own now setup.bindings token ≡ result → On (AcceptLaw setup old now draws) (run turn chosen (request_taken draws (map typed (judge_found setup.keytab setup.own token)) result))
request-law setup old now draws turn chosen token (Err refusal) good kind before same judges = tt
request-law setup old now draws turn chosen token (Ok request) good kind before same judges =
    record {
      after = finished-law setup old turn chosen (outcome_of kinds.Kerberos (answer_done request draws)) request.ends (answer_token request draws) (map typed (judge_found setup.keytab setup.own token)) good kind same;
      fixes = λ fixed e. subst (λ (x : Fixed). Fixes setup old now draws (ran_with turn chosen (request_answered draws (map typed (judge_found setup.keytab setup.own token)) request)) x) (fixed-same _ fixed e) (record {
        before = before;
        same = same;
        best_is = rw kind good.best_is;
        by = inl (record {
          request = request;
          token = token;
          judges = judges;
          basis_is = refl;
          outcome_is = refl;
          lasts_is = refl;
          verified = λ making m. m;
          pause = record { mark = judged_mark request; after = finished turn chosen (outcome_of kinds.Kerberos (answer_done request draws)) request.ends (answer_token request draws) };
          asks = refl;
          mark_is = refl;
          after_is = finished-outcome turn chosen (outcome_of kinds.Kerberos (answer_done request draws)) request.ends (answer_token request draws);
          made = λ making m. made-is chosen (outcome_of kinds.Kerberos (answer_done request draws)) (typed (answer_making request draws)) making m;
        });
      });
      unfixed = λ e. absurd (some-none _ e);
    }

line-is : (lines : List Verifier) (token draw : List ℕ) (started : AcceptStarted) → accept_started lines token draw ≡ Ok started → IsOfLine lines started.end
line-is lines token draw started e =
    let t = takes lines token draw started e in
    subst (IsOfLine lines) (sym t.end) (record {
      first = t.first;
      read = t.read;
      place = t.place;
      there = t.there;
      named = t.named;
      client = refl;
      draw = draw;
      own = refl;
    })

text-law : (setup : AcceptSetup) (old : AcceptEnd) (now : ℕ) (draws : List ℕ) (turn : Turn) (chosen : Chosen) (token : List ℕ) (result : Result AcceptStarted ScramRefusal) → GoodChosen setup chosen → kinds.Scram ≡ chosen.kind → ((list : List (List ℕ)) → received_of old ≡ Some list → chosen.received ≡ list) → accept_started setup.verifiers token (drawn_nonce draws) ≡ result → On (AcceptLaw setup old now draws) (run turn chosen (text_taken result))
text-law setup old now draws turn chosen token (Err refusal) good kind same starts = tt
text-law setup old now draws turn chosen token (Ok started) good kind same starts = record {
  after = record {
    good = record { choice = good; mech_is = kind; mech = line-is setup.verifiers token (drawn_nonce draws) started starts };
    same = λ list h. ap Some (same list h);
  };
  fixes = λ fixed e. absurd (none-some fixed e);
  unfixed = λ e. refl;
}

proof-law : (setup : AcceptSetup) (old : AcceptEnd) (now : ℕ) (draws : List ℕ) (turn : Turn) (chosen : Chosen) (end : AcceptModel) (token : List ℕ) (result : Result AcceptFinished ScramRefusal) → GoodChosen setup chosen → kinds.Scram ≡ chosen.kind → IsOfLine setup.verifiers end → waits_for_proof old ≡ Some end → settled_of old ≡ None → ((list : List (List ℕ)) → received_of old ≡ Some list → chosen.received ≡ list) → accept_finished end token setup.bindings now ≡ result → On (AcceptLaw setup old now draws) (run turn chosen (proof_taken end token result))
proof-law setup old now draws turn chosen end token (Err refusal) good kind line was before same finishes = tt
proof-law setup old now draws turn chosen end token (Ok made) good kind line was before same finishes =
    record {
      after = gone-law setup old made.found (finished turn chosen (outcome_of kinds.Scram made.done) made.done.ends made.token) (finished-law setup old turn chosen (outcome_of kinds.Scram made.done) made.done.ends made.token made.found good kind same);
      fixes = λ fixed e. subst (λ (x : Fixed). Fixes setup old now draws (ran_with turn chosen (proof_answered end token made)) x) (fixed-same _ fixed e) (record {
        before = before;
        same = same;
        best_is = rw kind good.best_is;
        by = inr (record {
          end = end;
          was = was;
          line = line;
          token = token;
          finished = made;
          finishes = finishes;
          basis_is = refl;
          outcome_is = refl;
          lasts_is = refl;
          verified = λ making m. m;
          after = finished turn chosen (outcome_of kinds.Scram made.done) made.done.ends made.token;
          goes_on = refl;
          after_is = finished-outcome turn chosen (outcome_of kinds.Scram made.done) made.done.ends made.token;
          made = λ making m. proved-is chosen (outcome_of kinds.Scram made.done) made.makes making m;
        });
      });
      unfixed = λ e. absurd (some-none _ e);
    }

mech-law : (setup : AcceptSetup) (old : AcceptEnd) (now : ℕ) (draws : List ℕ) (turn : Turn) (chosen : Chosen) (mech : AcceptMech) (token : List ℕ) → GoodChosen setup chosen → kind_of_accept mech ≡ chosen.kind → GoodMech setup mech → ((end : AcceptModel) → proof_due mech ≡ Some end → waits_for_proof old ≡ Some end) → settled_of old ≡ None → ((list : List (List ℕ)) → received_of old ≡ Some list → chosen.received ≡ list) → On (AcceptLaw setup old now draws) (run turn chosen (accept_taken setup mech token now draws))
unfolding accept_taken
mech-law setup old now draws turn chosen mechs.Kerberos token good kind mech was before same =
    request-law setup old now draws turn chosen token (judged setup.keytab setup.own now setup.bindings token) good kind before same refl
mech-law setup old now draws turn chosen mechs.Scram token good kind mech was before same =
    text-law setup old now draws turn chosen token (accept_started setup.verifiers token (drawn_nonce draws)) good kind same refl
mech-law setup old now draws turn chosen (mechs.Proof end) token good kind mech was before same =
    proof-law setup old now draws turn chosen end token (accept_finished end token setup.bindings now) good kind mech (was end refl) before same refl

-- ---- the machine

started-law : (setup : AcceptSetup) (now : ℕ) (draws : List ℕ) (running : Running) (token : Option (List ℕ)) → GoodRunning setup running → ((end : AcceptModel) → proof_due running.mech ≡ Some end → ⊥) → On (AcceptLaw setup ends.New now draws) (started setup now draws running token)
started-law setup now draws running None good fresh = record {
  after = record { good = record { choice = good.choice; mech_is = good.mech_is; mech = good.mech }; same = λ list h. absurd (let f : None ≡ Some list = h in cc) };
  fixes = λ fixed e. absurd (none-some fixed e);
  unfixed = λ e. refl;
}
started-law setup now draws running (Some token) good fresh =
    mech-law setup ends.New now draws First running.chosen running.mech token good.choice good.mech_is good.mech (λ end e. absurd (fresh end e)) refl (λ list h. absurd (let f : None ≡ Some list = h in cc))

begins-law : (setup : AcceptSetup) (now : ℕ) (draws : List ℕ) (init : NegInit) → On (AcceptLaw setup ends.New now draws) (begins setup now draws init)
unfolding begins
begins-law setup now draws init =
    on-found {A = MechKind} (AcceptLaw setup ends.New now draws) NoCommonMech (best setup.offer init.list) (chose setup now draws init.list init.token)
    (λ kind e. started-law setup now draws (begun setup init.list kind) (token_for (is_first_named init.list kind) init.token)
    (record { choice = record { best_is = e; due_is = refl }; mech_is = begun-kind kind; mech = begun-good setup kind }) (begun-waits kind))

proceeds-law : (setup : AcceptSetup) (now : ℕ) (draws : List ℕ) (size : ℕ) (running : Running) (resp : NegResp) → GoodRunning setup running → On (AcceptLaw setup (ends.Runs running) now draws) (proceeds setup now draws size running resp)
unfolding proceeds
proceeds-law setup now draws size running resp good =
    on-due (AcceptLaw setup (ends.Runs running) now draws) Rejected (not (rejects resp.state))
    (or_refuse (Defective size) resp.token >>= (λ token. run Later running.chosen (accept_taken setup running.mech token now draws)))
    (λ goes. on-bind {A = List ℕ} (AcceptLaw setup (ends.Runs running) now draws) (or_refuse (Defective size) resp.token)
    (λ token. run Later running.chosen (accept_taken setup running.mech token now draws))
    (λ token. mech-law setup (ends.Runs running) now draws Later running.chosen running.mech token good.choice good.mech_is good.mech (λ end e. e) refl (λ list h. let f : Some running.chosen.received ≡ Some list = h in cc)))

closes-law : (setup : AcceptSetup) (now : ℕ) (draws : List ℕ) (owing : Owing) (resp : NegResp) → On (AcceptLaw setup (ends.Owes owing) now draws) (closes owing resp)
unfolding closes
closes-law setup now draws owing resp =
    on-due (AcceptLaw setup (ends.Owes owing) now draws) Rejected (not (rejects resp.state))
    (or_refuse MicMissing resp.mic >>= (λ mic. due MicBad (is_list_mic owing.outcome Acceptor owing.received mic) >>= (λ right. Ok (settled owing resp.state mic))))
    (λ goes. on-bind {A = List ℕ} (AcceptLaw setup (ends.Owes owing) now draws) (or_refuse MicMissing resp.mic)
    (λ mic. due MicBad (is_list_mic owing.outcome Acceptor owing.received mic) >>= (λ right. Ok (settled owing resp.state mic)))
    (λ mic. on-due (AcceptLaw setup (ends.Owes owing) now draws) MicBad (is_list_mic owing.outcome Acceptor owing.received mic) (Ok (settled owing resp.state mic))
    (λ e. record {
      after = inr (record { owing = owing; was = refl; outcome_is = refl; mic = mic; right = e; verified = inl refl });
      fixes = λ fixed f. absurd (none-some fixed f);
      unfixed = λ f. refl;
    })))

-- a request that came without negotiation: its list is the one identifier in its frame
bare-law : (setup : AcceptSetup) (now : ℕ) (draws token oid : List ℕ) → IsBare setup oid → On (AcceptLaw setup ends.New now draws) (run Bare (begun setup (oid ∷ []) kinds.Kerberos).chosen (accept_taken setup mechs.Kerberos token now draws))
bare-law setup now draws token oid is =
    mech-law setup ends.New now draws Bare (begun setup (oid ∷ []) kinds.Kerberos).chosen mechs.Kerberos token
    (record { best_is = best-bare setup.offer oid is.first is.named; due_is = refl }) refl tt (λ end e. absurd (begun-waits kinds.Kerberos end e)) refl (λ list h. absurd (let f : None ≡ Some list = h in cc))

first-law : (setup : AcceptSetup) (now : ℕ) (draws token : List ℕ) (oid : Option (List ℕ)) → bare_oid setup token ≡ oid → On (AcceptLaw setup ends.New now draws) (first_taken setup now draws token oid)
first-law setup now draws token None e =
    on-bind {A = NegInit} (AcceptLaw setup ends.New now draws) (init_read token) (begins setup now draws) (λ init. begins-law setup now draws init)
first-law setup now draws token (Some oid) e = bare-law setup now draws token oid (bare-is setup token oid e)

step-law : (setup : AcceptSetup) (old : AcceptEnd) (token : List ℕ) (now : ℕ) (draws : List ℕ) → GoodAccept setup old → On (AcceptLaw setup old now draws) (accept_step setup old token now draws)
step-law setup ends.New token now draws good = first-law setup now draws token (bare_oid setup token) refl
step-law setup (ends.Runs running) token now draws good =
    on-bind {A = NegResp} (AcceptLaw setup (ends.Runs running) now draws) (resp_read token) (proceeds setup now draws (length token) running) (λ resp. proceeds-law setup now draws (length token) running resp good)
step-law setup (ends.Owes owing) token now draws good =
    on-bind {A = NegResp} (AcceptLaw setup (ends.Owes owing) now draws) (resp_read token) (closes owing) (λ resp. closes-law setup now draws owing resp)

pub accept_steps : (setup : AcceptSetup) (old : AcceptEnd) (token : List ℕ) (now : ℕ) (draws : List ℕ) (taken : Accepted) → GoodAccept setup old → accept_step setup old token now draws ≡ Ok taken → AcceptLaw setup old now draws taken
accept_steps setup old token now draws taken good e = subst (On (AcceptLaw setup old now draws)) e (step-law setup old token now draws good)
