-- A step of an acceptor's end that fits the marks leaves one that fits them.
use Rattle.std.proofs.Common.{◌≡◌, ℕ, Bool, true, false, if◌then◌else◌, refl, sym, subst, List, [], ◌∷◌, map, length, Option, None, Some}
use Rattle.std.specs.Prelude.{Result, Ok, Err, IfOk, not}
use Rattle.sec_base.specs.Answers.{Gives}
use Rattle.gss_base.specs.declared.mech.MechKind.{MechKind}
use Rattle.gss_base.specs.declared.mech.MechKind.TheVariants.{Kerberos}
use Rattle.spnego_msgs.specs.declared.neg_state.NegState.{NegState}
use Rattle.krb_tokens.specs.declared.end.Side.TheVariants.{Acceptor}
use Rattle.ap_exchange.specs.declared.refusal.ApRefusal.{ApRefusal}
use Rattle.ap_exchange.specs.declared.judged.Judged.{Judged}
use Rattle.ap_exchange.specs.Exchange.{judge_found}
use Rattle.ap_exchange.specs.Judging.{judged}
use Rattle.spnego_msgs.specs.declared.neg_init.NegInit.{NegInit}
use Rattle.spnego_msgs.specs.declared.neg_resp.NegResp.{NegResp}
use Rattle.ap_exchange.specs.Draws.{drawn_nonce}
use Rattle.scram_mech.specs.declared.refusal.ScramRefusal.{ScramRefusal}
use Rattle.scram_mech.specs.MechMaking.{MechMaking, typed}
use Rattle.scram_mech.specs.Acceptor.{AcceptModel, AcceptStarted, AcceptFinished, accept_started, accept_finished}
use Rattle.spnego_core.specs.declared.outcome.Outcome.{Outcome}
use Rattle.spnego_core.specs.declared.refusal.NegRefusal.{NegRefusal}
use Rattle.spnego_core.specs.declared.refusal.NegRefusal.TheVariants.{Defective, Rejected, NoCommonMech, MicMissing, MicBad}
use Rattle.spnego_core.specs.declared.refusal.NegRefusal.TheVariants as short
use Rattle.spnego_core.specs.declared.setup.AcceptSetup.{AcceptSetup}
use Rattle.spnego_core.specs.declared.accept_mech.AcceptMech.{AcceptMech}
use Rattle.spnego_core.specs.declared.accept_mech.AcceptMech.TheVariants as mechs
use Rattle.spnego_core.specs.declared.accept_end.Turn.{Turn}
use Rattle.spnego_core.specs.declared.accept_end.Turn.TheVariants.{First, Later, Bare}
use Rattle.spnego_core.specs.declared.accept_end.Chosen.{Chosen}
use Rattle.spnego_core.specs.declared.accept_end.Running.{Running}
use Rattle.spnego_core.specs.declared.accept_end.Owing.{Owing}
use Rattle.spnego_core.specs.declared.accept_end.AcceptEnd.{AcceptEnd}
use Rattle.spnego_core.specs.declared.accept_end.AcceptEnd.TheVariants as ends
use Rattle.spnego_core.specs.declared.accept_end.Answered.{Answered}
use Rattle.spnego_core.specs.Steps.{◌>>=◌, due, or_refuse}
use Rattle.spnego_core.specs.Tokens.{init_read, resp_read, rejects}
use Rattle.spnego_core.specs.ListMic.{is_list_mic}
use Rattle.spnego_core.specs.Choice.{best, is_first_named}
use Rattle.spnego_core.specs.Bare.{bare_oid}
use Rattle.spnego_core.specs.AcceptMech.{accept_taken, request_taken, text_taken, proof_taken}
use Rattle.spnego_core.specs.Accepting.{Accepted, step_of, accept_step, begins, first_taken, proceeds, closes, chose, started, run, gone_on, begun, token_for, settled}
use Rattle.std.proofs.Common.{◌∙◌, ◌≢◌, inl, inr}
use Rattle.std.proofs.lemmas.Bool.{cases_eq}
use Rattle.spnego_core.specs.declared.accept_end.Answered.TheVariants as afters
use Rattle.context_table.specs.declared.slot.Slot.{Slot}
use Rattle.context_table.specs.declared.slot.SlotState.{SlotState}
use Rattle.context_table.specs.declared.slot.SlotState.TheVariants.{Negotiating, Held, Complete}
use Rattle.context_table.specs.Slots.{is_whole, HasState}
use Rattle.context_table.specs.Places.{slot_at, is_complete, Marks}
use Rattle.krb_derive.specs.declared.key.Key.{Key}
use Rattle.accept_core.specs.Naming.{IsValueAt}
use Rattle.accept_core.specs.declared.entry.Entry.{Entry}
use Rattle.accept_core.specs.History.{has_auth}
use Rattle.accept_core.specs.Entering.{id_of}
use Rattle.accept_core.specs.Replays.{Accepting}
use Rattle.accept_core.specs.Stepping.{Context, context_of, Stays}
use Rattle.accept_book.specs.Booking.{Fits, FitsState, FitsSlot, AllFit, OthersFit, AnsweredFits, StepFits, Stands, mark_of, settled_of, by_step, same_key, state_key, has_key, taken as taken_with}
use Rattle.spnego_core.specs.declared.accept_end.AcceptStep.{AcceptStep}
use Rattle.std.proofs.Common.{ap}

refused : (B : Type 0) (refusal : NegRefusal) (b : B) → ◌≡◌ {A = Result B NegRefusal} (Err refusal) (Ok b) → ⊥
refused B refusal b e = cc

bind_ok : {A B : Type 0} (r : Result A NegRefusal) (next : A → Result B NegRefusal) (b : B) → (r >>= next) ≡ Ok b
    → (a : A) × (r ≡ Ok a) × (next a ≡ Ok b)
bind_ok (Ok a) next b e = (a, refl, e)
bind_ok {A} {B} (Err refusal) next b e = absurd (refused B refusal b e)

ok_same : {A : Type 0} {x y : A} → ◌≡◌ {A = Result A NegRefusal} (Ok x) (Ok y) → x ≡ y
ok_same e = cc

either : (b : Bool) (owes done : Answered) (auth : Bool) → AnsweredFits owes auth → AnsweredFits done auth → AnsweredFits (if b then owes else done) auth
either true owes done auth o d = o
either false owes done auth o d = d

pub fits_after : (after : Answered) (auth : Bool) → AnsweredFits after auth → StepFits (gone_on after) auth
fits_after (afters.More end token) auth fits = fits
fits_after (afters.Done outcome lasts token) auth fits = fits

taken_fits : (turn : Turn) (chosen : Chosen) (draws : List ℕ) (found : List MechMaking) (answer : Result Judged ApRefusal) (a : Accepted) (auth : Bool) → auth ≡ false
    → run turn chosen (request_taken draws found answer) ≡ Ok a → StepFits a.step auth
taken_fits turn chosen draws found (Err refusal) a auth none e = absurd (refused Accepted _ a e)
taken_fits turn chosen draws found (Ok request) a auth none e =
    subst (λ (x : Accepted). StepFits x.step auth) (ok_same e) (none, either chosen.due _ _ true refl refl)

text_fits : (turn : Turn) (chosen : Chosen) (answer : Result AcceptStarted ScramRefusal) (a : Accepted) (auth : Bool) → auth ≡ false
    → run turn chosen (text_taken answer) ≡ Ok a → StepFits a.step auth
text_fits turn chosen (Err refusal) a auth none e = absurd (refused Accepted _ a e)
text_fits turn chosen (Ok started) a auth none e = subst (λ (x : Accepted). StepFits x.step auth) (ok_same e) none

proof_fits : (turn : Turn) (chosen : Chosen) (end : AcceptModel) (token : List ℕ) (answer : Result AcceptFinished ScramRefusal) (a : Accepted) (auth : Bool) → auth ≡ false
    → run turn chosen (proof_taken end token answer) ≡ Ok a → StepFits a.step auth
proof_fits turn chosen end token (Err refusal) a auth none e = absurd (refused Accepted _ a e)
proof_fits turn chosen end token (Ok finished) a auth none e =
    subst (λ (x : Accepted). StepFits x.step auth) (ok_same e) (fits_after _ auth (either chosen.due _ _ auth none none))

run_fits : (turn : Turn) (chosen : Chosen) (setup : AcceptSetup) (mech : AcceptMech) (token : List ℕ) (now : ℕ) (draws : List ℕ) (a : Accepted) (auth : Bool)
    → auth ≡ false → run turn chosen (accept_taken setup mech token now draws) ≡ Ok a → StepFits a.step auth
unfolding accept_taken
run_fits turn chosen setup mechs.Kerberos token now draws a auth none e =
    taken_fits turn chosen draws (map typed (judge_found setup.keytab setup.own token)) (judged setup.keytab setup.own now setup.bindings token) a auth none e
run_fits turn chosen setup mechs.Scram token now draws a auth none e =
    text_fits turn chosen (accept_started setup.verifiers token (drawn_nonce draws)) a auth none e
run_fits turn chosen setup (mechs.Proof end) token now draws a auth none e =
    proof_fits turn chosen end token (accept_finished end token setup.bindings now) a auth none e

started_fits : (setup : AcceptSetup) (now : ℕ) (draws : List ℕ) (running : Running) (token : Option (List ℕ)) (a : Accepted) (auth : Bool) → auth ≡ false
    → started setup now draws running token ≡ Ok a → StepFits a.step auth
started_fits setup now draws running None a auth none e = subst (λ (x : Accepted). StepFits x.step auth) (ok_same e) none
started_fits setup now draws running (Some token) a auth none e = run_fits First running.chosen setup running.mech token now draws a auth none e

begins_fits : (setup : AcceptSetup) (now : ℕ) (draws : List ℕ) (init : NegInit) (a : Accepted) (auth : Bool) → auth ≡ false
    → begins setup now draws init ≡ Ok a → StepFits a.step auth
unfolding begins
begins_fits setup now draws init a auth none e =
    let p = bind_ok (or_refuse NoCommonMech (best setup.offer init.list)) (λ (kind : MechKind). chose setup now draws init.list init.token kind) a e in
    started_fits setup now draws (begun setup init.list p.0) (token_for (is_first_named init.list p.0) init.token) a auth none p.2

proceeds_fits : (setup : AcceptSetup) (now : ℕ) (draws : List ℕ) (size : ℕ) (running : Running) (resp : NegResp) (a : Accepted) (auth : Bool) → auth ≡ false
    → proceeds setup now draws size running resp ≡ Ok a → StepFits a.step auth
unfolding proceeds
proceeds_fits setup now draws size running resp a auth none e =
    let p = bind_ok (due Rejected (not (rejects resp.state))) (λ (goes : Unit {0}). or_refuse (Defective size) resp.token >>= (λ (token : List ℕ). run Later running.chosen (accept_taken setup running.mech token now draws))) a e in
    let q = bind_ok (or_refuse (Defective size) resp.token) (λ (token : List ℕ). run Later running.chosen (accept_taken setup running.mech token now draws)) a p.2 in
    run_fits Later running.chosen setup running.mech q.0 now draws a auth none q.2

abbrev taken : Owing → Option NegState → List ℕ → Result Accepted NegRefusal
taken owing state mic = Ok (settled owing state mic)

closes_fits : (owing : Owing) (resp : NegResp) (a : Accepted) (auth : Bool) → Fits (ends.Owes owing) auth → closes owing resp ≡ Ok a → StepFits a.step auth
unfolding closes
closes_fits owing resp a auth fits e =
    let p = bind_ok (due Rejected (not (rejects resp.state))) (λ (goes : Unit {0}). or_refuse MicMissing resp.mic >>= (λ (mic : List ℕ). due MicBad (is_list_mic owing.outcome Acceptor owing.received mic) >>= (λ (right : Unit {0}). taken owing resp.state mic))) a e in
    let q = bind_ok (or_refuse MicMissing resp.mic) (λ (mic : List ℕ). due MicBad (is_list_mic owing.outcome Acceptor owing.received mic) >>= (λ (right : Unit {0}). taken owing resp.state mic)) a p.2 in
    let r = bind_ok (due MicBad (is_list_mic owing.outcome Acceptor owing.received q.0)) (λ (right : Unit {0}). taken owing resp.state q.0) a q.2 in
    subst (λ (x : Accepted). StepFits x.step auth) (ok_same r.2) fits

-- a first token: one that negotiates, or a request alone
first_fits : (setup : AcceptSetup) (now : ℕ) (draws token : List ℕ) (oid : Option (List ℕ)) (a : Accepted) (auth : Bool) → auth ≡ false
    → first_taken setup now draws token oid ≡ Ok a → StepFits a.step auth
first_fits setup now draws token None a auth none e =
    let p = bind_ok (init_read token) (begins setup now draws) a e in begins_fits setup now draws p.0 a auth none p.2
first_fits setup now draws token (Some oid) a auth none e = run_fits Bare (begun setup (oid ∷ []) Kerberos).chosen setup mechs.Kerberos token now draws a auth none e

pub step_fits : (setup : AcceptSetup) (end : AcceptEnd) (token : List ℕ) (now : ℕ) (draws : List ℕ) (a : Accepted) (auth : Bool) → Fits end auth
    → accept_step setup end token now draws ≡ Ok a → StepFits a.step auth
step_fits setup ends.New token now draws a auth fits e = first_fits setup now draws token (bare_oid setup token) a auth fits e
step_fits setup (ends.Runs running) token now draws a auth fits e =
    let p = bind_ok (resp_read token) (proceeds setup now draws (length token) running) a e in
    proceeds_fits setup now draws (length token) running p.0 a auth fits p.2
step_fits setup (ends.Owes owing) token now draws a auth fits e =
    let p = bind_ok (resp_read token) (closes owing) a e in closes_fits owing p.0 a auth fits p.2

-- ---- a book after a step

none_context : (x : Context AcceptEnd Outcome) → ◌≡◌ {A = Option (Context AcceptEnd Outcome)} None (Some x) → ⊥
none_context x e = cc

some_context : {x y : Context AcceptEnd Outcome} → ◌≡◌ {A = Option (Context AcceptEnd Outcome)} (Some x) (Some y) → x.state ≡ y.state
some_context e = cc

pub slot_fits : (o : Option (Slot AcceptEnd Outcome)) (end : AcceptEnd) (until : ℕ) (auth : Bool)
    → context_of o ≡ Some (record { state = Negotiating end; ends = until }) → Fits end auth → FitsSlot o auth
slot_fits None end until auth e fits = absurd (none_context _ e)
slot_fits (Some slot) end until auth e fits = subst (λ (x : SlotState AcceptEnd Outcome). FitsState x auth) (sym (some_context e)) fits

no_other : (id : Option ℕ) (h : List Entry) (at other : ℕ) → at ≡ id_of id h → at ≢ other → id ≢ Some other
no_other None h at other e ne same = let z : None ≡ Some other = same in cc
no_other (Some id) h at other e ne same = ne (e ∙ some_id same)
  where
    some_id : {a b : ℕ} → Some a ≡ Some b → a ≡ b
    some_id q = cc

pub all_fit : (old new : Accepting AcceptEnd Outcome) (id : Option ℕ) (at : ℕ) → at ≡ id_of id old.history → OthersFit id old
    → FitsSlot (slot_at new.table at) (has_auth at new.history)
    → ((other : ℕ) → at ≢ other → Stays (slot_at old.table other) (slot_at new.table other))
    → ((other : ℕ) → at ≢ other → has_auth other new.history ≡ has_auth other old.history) → AllFit new
all_fit old new id at at_is fit own stays auths k =
    elim (cases_eq at k) [
      | inl e ↦ subst (λ (i : ℕ). FitsSlot (slot_at new.table i) (has_auth i new.history)) e own
      | inr ne ↦
          let was : FitsSlot (slot_at old.table k) (has_auth k old.history) = fit k (no_other id old.history at k at_is ne) in
          elim (stays k ne) [
            | inl same ↦ rw (same, auths k ne) was
            | inr gone ↦ rw gone tt
          ]
    ]

-- ---- what a step comes to

pub step_of_fits : (setup : AcceptSetup) (end : AcceptEnd) (token : List ℕ) (now : ℕ) (draws : List ℕ) (step : AcceptStep) (auth : Bool) → Fits end auth
    → step_of (accept_step setup end token now draws) ≡ Ok step → StepFits step auth
step_of_fits setup end token now draws step auth fits e = go (accept_step setup end token now draws) refl e
  where
    go : (r : Result Accepted NegRefusal) → accept_step setup end token now draws ≡ r → step_of r ≡ Ok step → StepFits step auth
    go (Ok a) is e = subst (λ (x : AcceptStep). StepFits x auth) (ok_same e) (step_fits setup end token now draws a auth fits is)
    go (Err refusal) is e = absurd (refused AcceptStep refusal step e)

pub stepped_fits : (setup : AcceptSetup) (end : AcceptEnd) (token : List ℕ) (now : ℕ) (draws : List ℕ) (stepped : Result AcceptStep NegRefusal) (auth : Bool) → Fits end auth
    → Gives short.NoMemory (λ (s : AcceptStep). s) stepped (step_of (accept_step setup end token now draws)) → IfOk stepped (λ step. StepFits step auth)
stepped_fits setup end token now draws (Ok step) auth fits gives = step_of_fits setup end token now draws step auth fits gives
stepped_fits setup end token now draws (Err refusal) auth fits gives = tt

pub by_ok : (book : Stands) (id past : Option ℕ) (r : Result Accepted NegRefusal) (step : AcceptStep) → step_of r ≡ Ok step
    → by_step book id past r ≡ taken_with book id past (mark_of step) (settled_of step)
by_ok book id past (Ok a) step e = ap (λ (x : AcceptStep). taken_with book id past (mark_of x) (settled_of x)) (ok_same e)
by_ok book id past (Err refusal) step e = absurd (refused AcceptStep refusal step e)

-- ---- admissions

pub same_state : (state : SlotState AcceptEnd Outcome) (outcome : Outcome) (key : Key) → HasState state outcome → state_key state key ≡ same_key outcome.key key
same_state (Negotiating end) outcome key h = absurd h
same_state Held outcome key h = absurd h
same_state (Complete held) outcome key h = ap (λ (o : Outcome). same_key o.key key) h

pub key_of_value : (o : Option (Slot AcceptEnd Outcome)) (outcome : Outcome) (key : Key) → IsValueAt o outcome → has_key o key ≡ same_key outcome.key key
key_of_value None outcome key h = absurd h
key_of_value (Some slot) outcome key h = same_state slot.state outcome key h

not_whole : (state : SlotState AcceptEnd Outcome) (key : Key) → is_whole state ≡ false → state_key state key ≡ false
not_whole (Negotiating end) key e = refl
not_whole Held key e = refl
not_whole (Complete held) key e = let z : true ≡ false = e in absurd (cc)

pub no_value : (o : Option (Slot AcceptEnd Outcome)) (key : Key) → is_complete o ≡ false → has_key o key ≡ false
no_value None key e = refl
no_value (Some slot) key e = not_whole slot.state key e

-- a slot in which a number was marked fits as before
pub marked_fits : (a b : Option (Slot AcceptEnd Outcome)) (n : ℕ) (auth : Bool) → Marks a b n → FitsSlot a auth → FitsSlot b auth
marked_fits (Some before) (Some after) n auth m fits = subst (λ (s : SlotState AcceptEnd Outcome). FitsState s auth) (sym m.state) fits
marked_fits (Some before) None n auth m fits = absurd m
marked_fits None b n auth m fits = absurd m
