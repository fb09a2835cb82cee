-- A context whose list's MIC is owed was fixed with that list.
use Rattle.std.proofs.Common.{◌≡◌, ◌≢◌, ◌⊎◌, ◌∙◌, ℕ, Bool, true, false, not, if◌then◌else◌, List, [], ◌∷◌, ◌++◌, length, map, slice_get, Option, None, Some, option_map, option_to_list, append-nil, refl, sym, ap, subst, inl, inr, max}
use Rattle.std.specs.Prelude.{Result, Ok, Err}
use Rattle.std.proofs.lemmas.Bool.{cases_eq}
use Rattle.std.proofs.lemmas.Option.{none-some, same_Some}
use Rattle.gss_base.specs.declared.mech.MechKind.{MechKind}
use Rattle.gss_base.specs.declared.mech.MechKind.TheVariants as kinds
use Rattle.krb_tokens.specs.declared.end.Side.TheVariants.{Acceptor}
use Rattle.ap_exchange.specs.declared.refusal.ApRefusal.{ApRefusal}
use Rattle.ap_exchange.specs.declared.judged.Judged.{Judged}
use Rattle.ap_exchange.specs.Answer.{answer_done, answer_token}
use Rattle.ap_exchange.specs.Draws.{drawn_nonce}
use Rattle.ap_exchange.specs.Exchange.{judge_found}
use Rattle.ap_exchange.specs.Judging.{judged}
use Rattle.scram_mech.specs.declared.refusal.ScramRefusal.{ScramRefusal}
use Rattle.scram_mech.specs.MechMaking.{MechMaking, typed}
use Rattle.scram_mech.specs.Acceptor.{AcceptModel, AcceptStarted, AcceptFinished, accept_started, accept_finished}
use Rattle.spnego_msgs.specs.declared.neg_init.NegInit.{NegInit}
use Rattle.spnego_msgs.specs.declared.neg_resp.NegResp.{NegResp}
use Rattle.spnego_core.specs.declared.outcome.Outcome.{Outcome}
use Rattle.spnego_core.specs.Outcome.{outcome_of}
use Rattle.spnego_core.specs.declared.refusal.NegRefusal.{NegRefusal}
use Rattle.spnego_core.specs.declared.refusal.NegRefusal.TheVariants.{Defective, Rejected, NoCommonMech, MicMissing, MicBad}
use Rattle.spnego_core.specs.declared.setup.AcceptSetup.{AcceptSetup}
use Rattle.spnego_core.specs.declared.accept_mech.AcceptMech.{AcceptMech}
use Rattle.spnego_core.specs.declared.accept_mech.AcceptMech.TheVariants as mechs
use Rattle.spnego_core.specs.declared.accept_end.Turn.{Turn}
use Rattle.spnego_core.specs.declared.accept_end.Turn.TheVariants.{First, Later, Bare}
use Rattle.spnego_core.specs.declared.accept_end.Chosen.{Chosen}
use Rattle.spnego_core.specs.declared.accept_end.Running.{Running}
use Rattle.spnego_core.specs.declared.accept_end.Owing.{Owing}
use Rattle.spnego_core.specs.declared.accept_end.AcceptEnd.{AcceptEnd}
use Rattle.spnego_core.specs.declared.accept_end.AcceptEnd.TheVariants as ends
use Rattle.spnego_core.specs.declared.accept_end.Answered.{Answered}
use Rattle.spnego_core.specs.declared.accept_end.Answered.TheVariants as afters
use Rattle.spnego_core.specs.declared.accept_end.AcceptStep.{AcceptStep}
use Rattle.spnego_core.specs.declared.accept_end.AcceptStep.TheVariants as steps
use Rattle.spnego_core.specs.Steps.{◌>>=◌, due, or_refuse}
use Rattle.spnego_core.specs.Tokens.{init_read, resp_read, rejects}
use Rattle.spnego_core.specs.ListMic.{list_mic, is_list_mic}
use Rattle.spnego_core.specs.Bare.{bare_oid}
use Rattle.spnego_core.specs.Choice.{is_first_named, best}
use Rattle.spnego_core.specs.AcceptMech.{request_taken, text_taken, proof_taken, accept_taken}
use Rattle.spnego_core.specs.Accepting.{Fixed, Accepted, reply, oid_chosen, finished, gone_on, run, begun, token_for, started, chose, begins, first_taken, proceeds, settled, closes, accept_step}
use Rattle.context_table.specs.declared.slot.SlotState.{SlotState}
use Rattle.context_table.specs.declared.slot.SlotState.TheVariants as states
use Rattle.context_table.specs.declared.slot.SlotState.TheVariants.{Negotiating, Complete}
use Rattle.context_table.specs.Places.{Places}
use Rattle.accept_core.specs.declared.entry.Entry.{Entry}
use Rattle.accept_book.specs.declared.book_answer.Admitted.{Admitted}
use Rattle.accept_book.specs.declared.book_answer.NegAnswer.{NegAnswer}
use Rattle.accept_book.specs.declared.book_answer.NegAnswer.TheVariants as answers
use Rattle.accept_book.specs.declared.book_answer.Negotiated.{Negotiated}
use Rattle.accept_book.specs.BookAnswers.{BookStepped}
use Rattle.accept_book.specs.Booking.{BookOf, Stands, Change, changed, next_of, raised, settled_of, negotiated, Outcomes}
use Rattle.accept_book.specs.BookLaws.{AllGood, BookLaws}
use Rattle.accept_core.specs.Entering.{id_of}
use Rattle.accept_book.specs.Found.{step_taken, fixes_of, stepped_from}
use Rattle.accept_book.specs.RecordShown.{booked, Asked, AskedStep, AskedLook, AskedAdmit, AskedEnd}
use Rattle.accept_core.specs.Stepping.{Context as Slot, context_after, until_of, IsNext, goes_by}
use Rattle.accept_book.proofs.Founds.{taken_is, own_is}
use Rattle.gss_server.specs.Asking.{BookAnswers}
use Rattle.world_laws.specs.declared.event.WorldEvent.{WorldEvent}
use Rattle.world_laws.specs.Deeds.{Deed}
use Rattle.world_laws.specs.State.{InHand, Context, World}
use Rattle.world_laws.specs.Lanes.{in_hand, ruling_of, question_of, accepted_in, context_with, unless_short, fixes_by}
use Rattle.world_laws.specs.Events.{Happens, Begins}
use Rattle.world_laws.proofs.Invariants.{Held}
use Rattle.world_laws.proofs.Happening.{Came, Idling, Moving, Laning, came}
use Rattle.world_laws.proofs.HeldBooks.{marked-stay, gone-stay, refused-stay, comes-in}
use Rattle.world_laws.proofs.HeldDue.{due-moment}
use Rattle.world_laws.proofs.HeldFacts.{Contexts, contexts_of, Facts, facts-of}
use Rattle.world_laws.proofs.HeldLists.{get-cases}
use Rattle.world_laws.proofs.HeldSteps.{AllSame, Comes, own-absent}

-- ---- what is owed after a step

abbrev pub owing_end : AcceptEnd → Option Owing
owing_end ends.New = None
owing_end (ends.Runs running) = None
owing_end (ends.Owes owing) = Some owing

abbrev owing_answered : Answered → Option Owing
owing_answered (afters.More end token) = owing_end end
owing_answered (afters.Done outcome lasts token) = None

abbrev owing_step : AcceptStep → Option Owing
owing_step (steps.More end token) = owing_end end
owing_step (steps.Done outcome lasts token) = None
owing_step (steps.WantsAuth pause) = owing_answered pause.after

-- what is owed of a context
abbrev owing_state : SlotState AcceptEnd Outcome → Option Owing
owing_state (Negotiating end) = owing_end end
owing_state states.Held = None
owing_state (Complete outcome) = None

abbrev pub owing_in : Option (Slot AcceptEnd Outcome) → Option Owing
owing_in None = None
owing_in (Some context) = owing_state context.state

-- ---- a step owes the MIC over the list that it fixes

pub record FixesList (fixes : Option Fixed) (owing : Owing) : Type 0 where
  pub fixed : Fixed
  pub is : fixes ≡ Some fixed
  pub same : fixed.received ≡ owing.received

record Owes (a : Accepted) : Type 0 where
  owes : (owing : Owing) → owing_step a.step ≡ Some owing → FixesList a.fixes owing

abbrev On : Result Accepted NegRefusal → Type 0
On (Ok accepted) = Owes accepted
On (Err refusal) = Unit {0}

on-bind : {A : Type 0} (r : Result A NegRefusal) (next : A → Result Accepted NegRefusal) → ((x : A) → On (next x)) → On (r >>= next)
on-bind (Ok x) next f = f x
on-bind (Err refusal) next f = tt

on-due : (refusal : NegRefusal) (holds : Bool) (r : Result Accepted NegRefusal) → On r → On (due refusal holds >>= (λ nothing. r))
on-due refusal true r f = f
on-due refusal false r f = tt

owed-if : (b : Bool) (received : List (List ℕ)) (outcome : Outcome) (lasts : ℕ) (token last : List ℕ) (owing : Owing)
    → owing_answered (if b then afters.More (ends.Owes (record { received = received; outcome = outcome; lasts = lasts })) token else afters.Done outcome lasts last) ≡ Some owing → received ≡ owing.received
owed-if true received outcome lasts token last owing e = ap (λ (o : Owing). o.received) (same_Some (record { received = received; outcome = outcome; lasts = lasts }) owing e)
owed-if false received outcome lasts token last owing e = absurd (none-some owing e)

finished-owes : (turn : Turn) (chosen : Chosen) (outcome : Outcome) (lasts : ℕ) (token : List ℕ) (owing : Owing) → owing_answered (finished turn chosen outcome lasts token) ≡ Some owing → chosen.received ≡ owing.received
finished-owes turn chosen outcome lasts token owing e =
    owed-if chosen.due chosen.received outcome lasts (reply turn (oid_chosen chosen) true true (Some token) (Some (list_mic outcome Acceptor chosen.received))) (reply turn (oid_chosen chosen) false true (Some token) None) owing e

owing-gone : (after : Answered) → owing_step (gone_on after) ≡ owing_answered after
owing-gone (afters.More end token) = refl
owing-gone (afters.Done outcome lasts token) = refl

on-request : (turn : Turn) (chosen : Chosen) (draws : List ℕ) (found : List MechMaking) (r : Result Judged ApRefusal) → On (run turn chosen (request_taken draws found r))
on-request turn chosen draws found (Err refusal) = tt
on-request turn chosen draws found (Ok request) = record { owes = λ owing e. record { fixed = _; is = refl; same = finished-owes turn chosen (outcome_of kinds.Kerberos (answer_done request draws)) request.ends (answer_token request draws) owing e } }

on-text : (turn : Turn) (chosen : Chosen) (r : Result AcceptStarted ScramRefusal) → On (run turn chosen (text_taken r))
on-text turn chosen (Err refusal) = tt
on-text turn chosen (Ok started) = record { owes = λ owing e. absurd (none-some owing e) }

on-proof : (turn : Turn) (chosen : Chosen) (end : AcceptModel) (token : List ℕ) (r : Result AcceptFinished ScramRefusal) → On (run turn chosen (proof_taken end token r))
on-proof turn chosen end token (Err refusal) = tt
on-proof turn chosen end token (Ok made) = record {
  owes = λ owing e. record {
    fixed = _;
    is = refl;
    same = finished-owes turn chosen (outcome_of kinds.Scram made.done) made.done.ends made.token owing
        (sym (owing-gone (finished turn chosen (outcome_of kinds.Scram made.done) made.done.ends made.token)) ∙ e);
  };
}

on-mech : (setup : AcceptSetup) (now : ℕ) (draws : List ℕ) (turn : Turn) (chosen : Chosen) (mech : AcceptMech) (token : List ℕ) → On (run turn chosen (accept_taken setup mech token now draws))
unfolding accept_taken
on-mech setup now draws turn chosen mechs.Kerberos token =
    on-request turn chosen draws (map typed (judge_found setup.keytab setup.own token)) (judged setup.keytab setup.own now setup.bindings token)
on-mech setup now draws turn chosen mechs.Scram token = on-text turn chosen (accept_started setup.verifiers token (drawn_nonce draws))
on-mech setup now draws turn chosen (mechs.Proof end) token = on-proof turn chosen end token (accept_finished end token setup.bindings now)

on-started : (setup : AcceptSetup) (now : ℕ) (draws : List ℕ) (running : Running) (token : Option (List ℕ)) → On (started setup now draws running token)
on-started setup now draws running None = record { owes = λ owing e. absurd (none-some owing e) }
on-started setup now draws running (Some token) = on-mech setup now draws First running.chosen running.mech token

on-begins : (setup : AcceptSetup) (now : ℕ) (draws : List ℕ) (init : NegInit) → On (begins setup now draws init)
unfolding begins
on-begins setup now draws init =
    on-bind {A = MechKind} (or_refuse NoCommonMech (best setup.offer init.list)) (chose setup now draws init.list init.token)
    (λ kind. on-started setup now draws (begun setup init.list kind) (token_for (is_first_named init.list kind) init.token))

on-proceeds : (setup : AcceptSetup) (now : ℕ) (draws : List ℕ) (size : ℕ) (running : Running) (resp : NegResp) → On (proceeds setup now draws size running resp)
unfolding proceeds
on-proceeds setup now draws size running resp =
    on-due Rejected (not (rejects resp.state)) (or_refuse (Defective size) resp.token >>= (λ token. run Later running.chosen (accept_taken setup running.mech token now draws)))
    (on-bind {A = List ℕ} (or_refuse (Defective size) resp.token) (λ token. run Later running.chosen (accept_taken setup running.mech token now draws))
    (λ token. on-mech setup now draws Later running.chosen running.mech token))

on-closes : (owing : Owing) (resp : NegResp) → On (closes owing resp)
unfolding closes
on-closes owing resp =
    on-due Rejected (not (rejects resp.state))
    (or_refuse MicMissing resp.mic >>= (λ mic. due MicBad (is_list_mic owing.outcome Acceptor owing.received mic) >>= (λ right. Ok (settled owing resp.state mic))))
    (on-bind {A = List ℕ} (or_refuse MicMissing resp.mic)
    (λ mic. due MicBad (is_list_mic owing.outcome Acceptor owing.received mic) >>= (λ right. Ok (settled owing resp.state mic)))
    (λ mic. on-due MicBad (is_list_mic owing.outcome Acceptor owing.received mic) (Ok (settled owing resp.state mic)) (record { owes = λ other e. absurd (none-some other e) })))

on-first : (setup : AcceptSetup) (now : ℕ) (draws token : List ℕ) (bare : Option (List ℕ)) → On (first_taken setup now draws token bare)
on-first setup now draws token None = on-bind {A = NegInit} (init_read token) (begins setup now draws) (λ init. on-begins setup now draws init)
on-first setup now draws token (Some oid) = on-mech setup now draws Bare (begun setup (oid ∷ []) kinds.Kerberos).chosen mechs.Kerberos token

on-step : (setup : AcceptSetup) (old : AcceptEnd) (token : List ℕ) (now : ℕ) (draws : List ℕ) → On (accept_step setup old token now draws)
on-step setup ends.New token now draws = on-first setup now draws token (bare_oid setup token)
on-step setup (ends.Runs running) token now draws =
    on-bind {A = NegResp} (resp_read token) (proceeds setup now draws (length token) running) (λ resp. on-proceeds setup now draws (length token) running resp)
on-step setup (ends.Owes owing) token now draws = on-bind {A = NegResp} (resp_read token) (closes owing) (λ resp. on-closes owing resp)

owes-list : (setup : AcceptSetup) (old : AcceptEnd) (token : List ℕ) (now : ℕ) (draws : List ℕ) (a : Accepted) → accept_step setup old token now draws ≡ Ok a → Owes a
owes-list setup old token now draws a e = subst On e (on-step setup old token now draws)

owing-next : (until : ℕ) (step : AcceptStep) → owing_in (Some (context_after until (next_of (settled_of step)))) ≡ owing_step step
owing-next until (steps.More end token) = refl
owing-next until (steps.Done outcome lasts token) = refl
owing-next until (steps.WantsAuth pause) = go pause.after
  where
    go : (after : Answered) → owing_in (Some (context_after until (next_of (settled_of (steps.WantsAuth (record pause { after = after })))))) ≡ owing_answered after
    go (afters.More end token) = refl
    go (afters.Done outcome lasts token) = refl

-- ---- the contexts of a book

abbrev pub OwedLists : Contexts → List Context → Type 0
OwedLists c fixed = (place : ℕ) (x : Context) (owing : Owing) → slice_get fixed place ≡ Some x → owing_in (c x.id) ≡ Some owing → x.fixed.received ≡ owing.received

-- each is as it was, or gone
abbrev pub StaysOrGoes : Contexts → Contexts → Type 0
StaysOrGoes c d = (id : ℕ) → (d id ≡ c id) ⊎ (d id ≡ None)

stayed : (fixed : List Context) (c d : Contexts) (place : ℕ) (x : Context) (owing : Owing) → OwedLists c fixed → (d x.id ≡ c x.id) ⊎ (d x.id ≡ None) → slice_get fixed place ≡ Some x → owing_in (d x.id) ≡ Some owing → x.fixed.received ≡ owing.received
stayed fixed c d place x owing lists (inl same) there e = lists place x owing there (sym (ap owing_in same) ∙ e)
stayed fixed c d place x owing lists (inr gone) there e = absurd (none-some owing (sym (ap owing_in gone) ∙ e))

pub lists-stay : (fixed : List Context) (c d : Contexts) → OwedLists c fixed → StaysOrGoes c d → OwedLists d fixed
lists-stay fixed c d lists stay = λ place x owing there e. stayed fixed c d place x owing lists (stay x.id) there e

-- what a step that was taken owes of its own context
own-owes : (setup : AcceptSetup) (book : Stands) (id past : Option ℕ) (token : List ℕ) (now : ℕ) (draws : List ℕ) (accepted : Accepted) (before : Option (Slot AcceptEnd Outcome)) (owing : Owing)
    → step_taken setup book id past token now draws ≡ Some accepted → owing_in (changed (negotiated setup book id past token now draws).change (id_of id book.history) before) ≡ Some owing → FixesList accepted.fixes owing
own-owes setup book id past token now draws accepted before owing taken e =
    let t = taken_is setup book id past token now draws accepted taken in
    let o : Owes accepted = owes-list setup (stepped_from book id) token now draws accepted t.step in
    let after : Slot AcceptEnd Outcome = context_after (until_of id book.greatest book.table) (next_of (settled_of accepted.step)) in
    let is : owing_in (changed (negotiated setup book id past token now draws).change (id_of id book.history) before) ≡ owing_step accepted.step =
    ap (λ (z : Outcomes). owing_in (changed z.change (id_of id book.history) before)) t.is
    ∙ (ap owing_in (own_is (goes_by id (next_of (settled_of accepted.step)) past book.history book.table) (id_of id book.history) after before) ∙ owing-next (until_of id book.greatest book.table) accepted.step) in
    o.owes owing (sym is ∙ e)

own-fixed : (setup : AcceptSetup) (book : Stands) (id past : Option ℕ) (token : List ℕ) (now : ℕ) (draws : List ℕ) (h : List Entry) (table : Places AcceptEnd Outcome) (accepted : Accepted) (x : ℕ) (owing : Owing)
    → step_taken setup book id past token now draws ≡ Some accepted → Comes setup book id past token now draws h table → id_of id book.history ≡ x → owing_in (contexts_of table x) ≡ Some owing → FixesList accepted.fixes owing
own-fixed setup book id past token now draws h table accepted x owing taken comes same e =
    own-owes setup book id past token now draws accepted (contexts_of book.table (id_of id book.history)) owing taken
    (sym (ap owing_in (comes.contexts (id_of id book.history))) ∙ (ap (λ (k : ℕ). owing_in (contexts_of table k)) same ∙ e))

other-stays : (laws : BookLaws) (setup : AcceptSetup) (book : Stands) (id past : Option ℕ) (token : List ℕ) (now : ℕ) (draws : List ℕ) (h : List Entry) (table : Places AcceptEnd Outcome) (accepted : Accepted) (x : ℕ)
    → step_taken setup book id past token now draws ≡ Some accepted → Comes setup book id past token now draws h table → id_of id book.history ≢ x
    → (contexts_of table x ≡ contexts_of book.table x) ⊎ (contexts_of table x ≡ None)
other-stays laws setup book id past token now draws h table accepted x taken comes ne = go ((laws.takes setup book id past token now draws accepted taken).others x (contexts_of book.table x) ne)
  where
    go : (changed (negotiated setup book id past token now draws).change x (contexts_of book.table x) ≡ contexts_of book.table x) ⊎ (changed (negotiated setup book id past token now draws).change x (contexts_of book.table x) ≡ None)
        → (contexts_of table x ≡ contexts_of book.table x) ⊎ (contexts_of table x ≡ None)
    go (inl same) = inl (comes.contexts x ∙ same)
    go (inr gone) = inr (comes.contexts x ∙ gone)

-- a step that fixes nothing
unfixed-lists : (laws : BookLaws) (setup : AcceptSetup) (book : Stands) (id past : Option ℕ) (token : List ℕ) (now : ℕ) (draws : List ℕ) (h : List Entry) (table : Places AcceptEnd Outcome) (accepted : Accepted) (fixed : List Context)
    → step_taken setup book id past token now draws ≡ Some accepted → Comes setup book id past token now draws h table → accepted.fixes ≡ None → OwedLists (contexts_of book.table) fixed → OwedLists (contexts_of table) fixed
unfixed-lists laws setup book id past token now draws h table accepted fixed taken comes none lists = λ place x owing there e. elim (cases_eq (id_of id book.history) x.id) [
  | inl own ↦
      let f : FixesList accepted.fixes owing = own-fixed setup book id past token now draws h table accepted x.id owing taken comes own e in
      absurd (none-some f.fixed (sym none ∙ f.is))
  | inr other ↦ stayed fixed (contexts_of book.table) (contexts_of table) place x owing lists (other-stays laws setup book id past token now draws h table accepted x.id taken comes other) there e
]

-- a step that fixes a context
new-list : (id : ℕ) (f : Fixed) (fixes : Option Fixed) (x : Context) (owing : Owing) → fixes ≡ Some f → x ≡ context_with id f → FixesList fixes owing → x.fixed.received ≡ owing.received
new-list id f fixes x owing is same owes =
    ap (λ (z : Context). z.fixed.received) same ∙ (ap (λ (z : Fixed). z.received) (same_Some f owes.fixed (sym is ∙ owes.is)) ∙ owes.same)

fixed-lists : (laws : BookLaws) (wide : ℕ) (setup : AcceptSetup) (book : Stands) (id past : Option ℕ) (token : List ℕ) (now : ℕ) (draws : List ℕ) (h : List Entry) (table : Places AcceptEnd Outcome) (accepted : Accepted) (f : Fixed) (fixed : List Context)
    → AllSame wide book → AllGood setup book.table → step_taken setup book id past token now draws ≡ Some accepted → Comes setup book id past token now draws h table → accepted.fixes ≡ Some f
    → Facts setup book.history (contexts_of book.table) fixed → OwedLists (contexts_of book.table) fixed → OwedLists (contexts_of table) (fixed ++ context_with (id_of id book.history) f ∷ [])
fixed-lists laws wide setup book id past token now draws h table accepted f fixed same good taken comes is facts lists = λ place x owing there e. elim (get-cases fixed (context_with (id_of id book.history) f) place x there) [
  | inl old ↦ before place x owing old e
  | inr last ↦
      new-list (id_of id book.history) f accepted.fixes x owing is last.1
      (own-fixed setup book id past token now draws h table accepted x.id owing taken comes (sym (ap (λ (z : Context). z.id) last.1)) e)
]
  where
    before : (place : ℕ) (x : Context) (owing : Owing) → slice_get fixed place ≡ Some x → owing_in (contexts_of table x.id) ≡ Some owing → x.fixed.received ≡ owing.received
    before place x owing there e =
        let c = laws.fixes setup book id past token now draws f good (ap fixes_of taken ∙ is) in
        let t = laws.takes setup book id past token now draws accepted taken in
        let ne : x.id ≢ id_of id book.history = own-absent wide setup book id fixed same t.negotiates c.unfixed facts place x there in
        stayed fixed (contexts_of book.table) (contexts_of table) place x owing lists
        (other-stays laws setup book id past token now draws h table accepted x.id taken comes (λ own. ne (sym own))) there e

abbrev added : ℕ → Option Fixed → List Context
added id fixes = option_to_list (option_map (context_with id) fixes)

pub none-more : (c : Contexts) (fixed : List Context) → OwedLists c fixed → OwedLists c (fixed ++ [])
none-more c fixed lists = subst (OwedLists c) (sym (append-nil fixed)) lists

by-fixes : (laws : BookLaws) (wide : ℕ) (setup : AcceptSetup) (book : Stands) (id past : Option ℕ) (token : List ℕ) (now : ℕ) (draws : List ℕ) (h : List Entry) (table : Places AcceptEnd Outcome) (accepted : Accepted) (fixes : Option Fixed) (fixed : List Context)
    → AllSame wide book → AllGood setup book.table → step_taken setup book id past token now draws ≡ Some accepted → Comes setup book id past token now draws h table → accepted.fixes ≡ fixes
    → Facts setup book.history (contexts_of book.table) fixed → OwedLists (contexts_of book.table) fixed → OwedLists (contexts_of table) (fixed ++ added (id_of id book.history) fixes)
by-fixes laws wide setup book id past token now draws h table accepted None fixed same good taken comes is facts lists =
    none-more (contexts_of table) fixed (unfixed-lists laws setup book id past token now draws h table accepted fixed taken comes is lists)
by-fixes laws wide setup book id past token now draws h table accepted (Some f) fixed same good taken comes is facts lists =
    fixed-lists laws wide setup book id past token now draws h table accepted f fixed same good taken comes is facts lists

-- a token that is refused ends its context at most
refused-lists : (laws : BookLaws) (setup : AcceptSetup) (book : Stands) (id past : Option ℕ) (token : List ℕ) (now : ℕ) (draws : List ℕ) (h : List Entry) (table : Places AcceptEnd Outcome) (fixed : List Context)
    → step_taken setup book id past token now draws ≡ None → Comes setup book id past token now draws h table → OwedLists (contexts_of book.table) fixed → OwedLists (contexts_of table) fixed
refused-lists laws setup book id past token now draws h table fixed untaken comes lists =
    let r = laws.refuses setup book id past token now draws untaken in
    lists-stay fixed (contexts_of book.table) (contexts_of table) lists
    (λ k. refused-stay r.ended k (contexts_of book.table k) (contexts_of table k)
    (comes.contexts k ∙ ap (λ (change : Change). changed change k (contexts_of book.table k)) r.change))

by-taken : (laws : BookLaws) (wide : ℕ) (setup : AcceptSetup) (book : Stands) (id past : Option ℕ) (token : List ℕ) (now : ℕ) (draws : List ℕ) (h : List Entry) (table : Places AcceptEnd Outcome) (taken : Option Accepted) (fixed : List Context)
    → AllSame wide book → AllGood setup book.table → step_taken setup book id past token now draws ≡ taken → Comes setup book id past token now draws h table
    → Facts setup book.history (contexts_of book.table) fixed → OwedLists (contexts_of book.table) fixed → OwedLists (contexts_of table) (fixed ++ added (id_of id book.history) (fixes_of taken))
by-taken laws wide setup book id past token now draws h table None fixed same good taken comes facts lists =
    none-more (contexts_of table) fixed (refused-lists laws setup book id past token now draws h table fixed taken comes lists)
by-taken laws wide setup book id past token now draws h table (Some accepted) fixed same good taken comes facts lists =
    by-fixes laws wide setup book id past token now draws h table accepted accepted.fixes fixed same good taken comes refl facts lists

-- ---- a question to the book

step-lists : (laws : BookLaws) (old : World) (id past : Option ℕ) (token : List ℕ) (now : ℕ) (draws : List ℕ) (result : Negotiated) (book : BookOf) → Held old → IsNext old.book.core.table (max old.book.core.cache.greatest now) past
    → BookStepped old.book book id token now draws result → OwedLists (contexts_of old.book.core.table) old.fixed
    → OwedLists (contexts_of book.core.table) (old.fixed ++ option_to_list (fixes_by old.book past (AskedStep id token now draws result)))
step-lists laws old id past token now draws result book held late stepped lists = go result.answer refl
  where
    taken : result.answer ≢ answers.NoMemory
        → OwedLists (contexts_of book.core.table) (old.fixed ++ option_to_list (option_map (context_with (id_of id old.book.core.history)) (fixes_of (accepted_in old.book past id token now draws))))
    taken memory =
        by-taken laws old.book.core.width old.book.setup (raised old.book.core now) id past token now draws book.core.history book.core.table (accepted_in old.book past id token now draws) old.fixed held.book.slots held.good refl
        (comes-in old id past token now draws result book late stepped memory) (facts-of old held) lists

    go : (answer : NegAnswer) → result.answer ≡ answer
        → OwedLists (contexts_of book.core.table) (old.fixed ++ option_to_list (option_map (context_with (id_of id old.book.core.history)) (unless_short answer (fixes_of (accepted_in old.book past id token now draws)))))
    go (answers.Going number last) e = taken (λ f. let z : answers.Going number last ≡ answers.NoMemory = sym e ∙ f in absurd cc)
    go (answers.Settled lease last) e = taken (λ f. let z : answers.Settled lease last ≡ answers.NoMemory = sym e ∙ f in absurd cc)
    go (answers.Refused refusal) e = taken (λ f. let z : answers.Refused refusal ≡ answers.NoMemory = sym e ∙ f in absurd cc)
    go answers.NoMemory e = none-more (contexts_of book.core.table) old.fixed
        (lists-stay old.fixed (contexts_of old.book.core.table) (contexts_of book.core.table) lists
        (λ k. refused-stay id k (contexts_of old.book.core.table k) (contexts_of book.core.table k) ((stepped.comes.memory e).contexts k)))

same-lists : (old : World) (book : BookOf) → book ≡ old.book → OwedLists (contexts_of old.book.core.table) old.fixed → OwedLists (contexts_of book.core.table) (old.fixed ++ [])
same-lists old book same lists = subst (λ (b : BookOf). OwedLists (contexts_of b.core.table) (old.fixed ++ [])) (sym same) (none-more (contexts_of old.book.core.table) old.fixed lists)

question-lists : (laws : BookLaws) (old : World) (past : Option ℕ) (hand : InHand) (asked : Asked Admitted) (book : BookOf) → Held old → IsNext old.book.core.table (max old.book.core.cache.greatest hand.kept.now) past
    → (ruling_of old.serves hand).due ≡ Some (question_of asked) → BookAnswers old.book (booked asked) book → OwedLists (contexts_of old.book.core.table) old.fixed
    → OwedLists (contexts_of book.core.table) (old.fixed ++ option_to_list (fixes_by old.book past asked))
question-lists laws old past hand (AskedStep id token now draws result) book held late due said lists =
    step-lists laws old id past token now draws result book held
    (subst (λ (n : ℕ). IsNext old.book.core.table (max old.book.core.cache.greatest n) past) (sym (due-moment hand.octets hand.kept old.serves id token now draws due)) late) said lists
question-lists laws old past hand (AskedLook id now answer) book held late due said lists =
    none-more (contexts_of book.core.table) old.fixed
    (lists-stay old.fixed (contexts_of old.book.core.table) (contexts_of book.core.table) lists (λ k. inl (ap (λ (t : Places AcceptEnd Outcome). contexts_of t k) said.looked.table)))
question-lists laws old past hand (AskedAdmit lease seq service procedure args (Ok admitted)) book held late due said lists =
    none-more (contexts_of book.core.table) old.fixed
    (lists-stay old.fixed (contexts_of old.book.core.table) (contexts_of book.core.table) lists (marked-stay old.book.core.table book.core.table lease.id seq (said.slot refl) said.others))
question-lists laws old past hand (AskedAdmit lease seq service procedure args (Err refusal)) book held late due said lists = same-lists old book said.unchanged lists
question-lists laws old past hand (AskedEnd lease seq (Ok receipt)) book held late due said lists =
    none-more (contexts_of book.core.table) old.fixed
    (lists-stay old.fixed (contexts_of old.book.core.table) (contexts_of book.core.table) lists (gone-stay old.book.core.table book.core.table lease.id (said.gone refl) said.others))
question-lists laws old past hand (AskedEnd lease seq (Err refusal)) book held late due said lists = same-lists old book said.unchanged lists

-- ---- an event

-- each context of the world whose list's MIC is owed was fixed with that list
pub record Lists (w : World) : Type 0 where
  pub owed : OwedLists (contexts_of w.book.core.table) w.fixed

pub lists-start : (w : World) → Begins w → Lists w
lists-start w begins = record { owed = λ place x owing there e. absurd (none-some x (sym (ap (λ (l : List Context). slice_get l place) begins.unfixed) ∙ there)) }

came-lists : (laws : BookLaws) (old : World) (deed : Deed) (new : World) → Held old → Lists old → Came old deed new → Lists new
came-lists laws old deed new held lists (Idling i) = subst Lists (sym i.1) lists
came-lists laws old deed new held lists (Moving i moved move (inl did)) = subst Lists (sym did.1) (record { owed = lists.owed })
came-lists laws old deed new held lists (Moving i moved move (inr lost)) = subst Lists (sym lost.1) (record { owed = lists.owed })
came-lists laws old deed new held lists (Laning lane hand octets now draws there (inl a)) =
    subst Lists (sym a.new_is) (record { owed = none-more (contexts_of old.book.core.table) old.fixed lists.owed })
came-lists laws old deed new held lists (Laning lane hand octets now draws there (inr b)) = subst Lists (sym b.new_is) (record {
  owed = subst (λ (f : Option Context). OwedLists (contexts_of new.book.core.table) (old.fixed ++ option_to_list f)) (sym b.fixes)
      (question-lists laws old b.past (in_hand hand octets now draws) b.asked new.book held b.is_past b.due b.answers lists.owed);
})

pub lists-step : (laws : BookLaws) (old : World) (event : WorldEvent) (deed : Deed) (new : World) → Held old → Lists old → Happens old event deed new → Lists new
lists-step laws old event deed new held lists happens = came-lists laws old deed new held lists (came old event deed new happens)
