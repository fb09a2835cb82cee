-- What a step of a book fixes, and where that stands afterwards.
use Rattle.std.proofs.Common.{◌≡◌, ◌⊎◌, ◌∙◌, ℕ, ◌≤◌, Bool, true, false, not, ◌==◌, if◌then◌else◌, List, [], ◌∷◌, length, map, Option, None, Some, refl, sym, ap, subst, inl, inr, arith}
use Rattle.std.specs.Prelude.{Result, Ok, Err, is_none}
use Rattle.std.proofs.lemmas.Bool.{cases_Bool, eq-eqb, ne_eqb}
use Rattle.gss_base.specs.declared.mark.Mark.{Mark}
use Rattle.gss_base.specs.declared.mech.MechKind.{MechKind}
use Rattle.gss_base.specs.declared.mech.MechKind.TheVariants as kinds
use Rattle.krb_tokens.specs.declared.end.Side.TheVariants.{Acceptor}
use Rattle.ap_exchange.specs.declared.refusal.ApRefusal.{ApRefusal}
use Rattle.ap_exchange.specs.declared.judged.Judged.{Judged}
use Rattle.ap_exchange.specs.Exchange.{judge_found}
use Rattle.ap_exchange.specs.Judging.{judged, judged_mark}
use Rattle.spnego_msgs.specs.declared.neg_init.NegInit.{NegInit}
use Rattle.spnego_msgs.specs.declared.neg_resp.NegResp.{NegResp}
use Rattle.ap_exchange.specs.Draws.{drawn_nonce}
use Rattle.scram_mech.specs.declared.refusal.ScramRefusal.{ScramRefusal}
use Rattle.scram_mech.specs.MechMaking.{MechMaking, typed}
use Rattle.scram_mech.specs.Acceptor.{AcceptModel, AcceptStarted, AcceptFinished, accept_started, accept_finished}
use Rattle.spnego_core.specs.declared.outcome.Outcome.{Outcome}
use Rattle.spnego_core.specs.Outcome.{outcome_of}
use Rattle.spnego_core.specs.declared.refusal.NegRefusal.{NegRefusal}
use Rattle.spnego_core.specs.declared.refusal.NegRefusal.TheVariants.{Defective, Rejected, NoCommonMech, MicMissing, MicBad}
use Rattle.spnego_core.specs.declared.setup.AcceptSetup.{AcceptSetup}
use Rattle.spnego_core.specs.declared.accept_mech.AcceptMech.{AcceptMech}
use Rattle.spnego_core.specs.declared.accept_mech.AcceptMech.TheVariants as mechs
use Rattle.spnego_core.specs.declared.accept_end.Turn.{Turn}
use Rattle.spnego_core.specs.declared.accept_end.Turn.TheVariants.{First, Later, Bare}
use Rattle.spnego_core.specs.declared.accept_end.Chosen.{Chosen}
use Rattle.spnego_core.specs.declared.accept_end.Running.{Running}
use Rattle.spnego_core.specs.declared.accept_end.Owing.{Owing}
use Rattle.spnego_core.specs.declared.accept_end.AcceptEnd.{AcceptEnd}
use Rattle.spnego_core.specs.declared.accept_end.AcceptEnd.TheVariants as ends
use Rattle.spnego_core.specs.declared.accept_end.Answered.{Answered}
use Rattle.spnego_core.specs.declared.accept_end.Answered.TheVariants as afters
use Rattle.spnego_core.specs.declared.accept_end.AcceptStep.{AcceptStep}
use Rattle.spnego_core.specs.declared.accept_end.AcceptStep.TheVariants as steps
use Rattle.spnego_core.specs.Steps.{◌>>=◌, due, or_refuse}
use Rattle.spnego_core.specs.Tokens.{init_read, resp_read, rejects}
use Rattle.spnego_core.specs.ListMic.{is_list_mic}
use Rattle.spnego_core.specs.Choice.{is_first_named, best}
use Rattle.spnego_core.specs.Bare.{bare_oid}
use Rattle.spnego_core.specs.AcceptMech.{request_taken, text_taken, proof_taken, accept_taken}
use Rattle.spnego_core.specs.Accepting.{Fixed, Accepted, finished, gone_on, run, begun as mech_begun, token_for, started as mech_started, chose, begins, first_taken, proceeds, settled, closes, accept_step}
use Rattle.spnego_core.specs.AcceptLaws.{AcceptLaws, ByKerberos, ByScram, AfterStep, AfterAnswered, Stands as StandsBy, settled_of as owed_by}
use Rattle.context_table.specs.Places.{Places, slot_at}
use Rattle.accept_core.specs.declared.entry.Entry.{Entry}
use Rattle.accept_core.specs.declared.entry.Entry.TheVariants.{Auth, Settled}
use Rattle.accept_core.specs.declared.answer.Next.{Next}
use Rattle.accept_core.specs.declared.answer.Next.TheVariants as nexts
use Rattle.accept_book.specs.declared.book_answer.Lease.{Lease}
use Rattle.accept_book.specs.declared.book_answer.BookRefusal.{BookRefusal}
use Rattle.accept_book.specs.declared.book_answer.NegAnswer.TheVariants as answers
use Rattle.accept_core.specs.History.{taken_of, entry_at, standing, Unknown}
use Rattle.accept_core.specs.Legal.{Legal}
use Rattle.accept_core.specs.Entering.{id_of, lapsed, started, noted, finished as history_finished, entered}
use Rattle.accept_core.specs.Stepping.{goes_by, Context, context_of, context_after, until_of}
use Rattle.accept_book.specs.Booking.{Stands, Change, Becomes, changed, without, Changed, change_refused, Outcomes, mark_of, next_of, settled_of, answer_with, names_of, negotiated}
use Rattle.accept_book.specs.Found.{step_taken, found_of, fixes_of, stepped_from}
use Rattle.accept_book.specs.BookLaws.{GoodContext, AllGood, Lasting, fixed_end, fixed_in, fixed_after, Takes, AddsAuth, AddsBy, FixesContext, FixesNone, Completes}
use Rattle.accept_core.proofs.Appended.{silent}
use Rattle.accept_book.proofs.Founds.{TakenIs, taken_is, refused_is, without_is, others_are, own_is, good_from}

-- ---- what a step of the machine leads to

abbrev lasting_answered : Answered → Option Lasting
lasting_answered (afters.More end token) = fixed_end end
lasting_answered (afters.Done outcome lasts token) = Some (record { outcome = outcome; ends = lasts })

abbrev lasting_after : AcceptStep → Option Lasting
lasting_after (steps.More end token) = fixed_end end
lasting_after (steps.Done outcome lasts token) = Some (record { outcome = outcome; ends = lasts })
lasting_after (steps.WantsAuth pause) = lasting_answered pause.after

record Leads (old : AcceptEnd) (accepted : Accepted) : Type 0 where
  pub lasting : lasting_after accepted.step ≡ fixed_after accepted.fixes (fixed_end old)
  pub unmarked : accepted.fixes ≡ None → mark_of accepted.step ≡ None

abbrev On : AcceptEnd → Result Accepted NegRefusal → Type 0
On old (Ok accepted) = Leads old accepted
On old (Err refusal) = Unit {0}

on_bind : {A : Type 0} (old : AcceptEnd) (r : Result A NegRefusal) (next : A → Result Accepted NegRefusal) → ((x : A) → On old (next x)) → On old (r >>= next)
on_bind old (Ok x) next f = f x
on_bind old (Err refusal) next f = tt

on_due : (old : AcceptEnd) (refusal : NegRefusal) (holds : Bool) (r : Result Accepted NegRefusal) → On old r → On old (due refusal holds >>= (λ nothing. r))
on_due old refusal true r f = f
on_due old refusal false r f = tt

if_both : (b : Bool) (x y : Answered) (o : Option Lasting) → lasting_answered x ≡ o → lasting_answered y ≡ o → lasting_answered (if b then x else y) ≡ o
if_both true x y o f g = f
if_both false x y o f g = g

some_none : (a : Fixed) → Some a ≡ None → ⊥
some_none a e = cc

on_request : (old : AcceptEnd) (turn : Turn) (chosen : Chosen) (draws : List ℕ) (found : List MechMaking) (r : Result Judged ApRefusal) → On old (run turn chosen (request_taken draws found r))
on_request old turn chosen draws found (Err refusal) = tt
on_request old turn chosen draws found (Ok request) = record {
  lasting = if_both chosen.due _ _ _ refl refl;
  unmarked = λ e. absurd (some_none _ e);
}

on_text : (old : AcceptEnd) (turn : Turn) (chosen : Chosen) (r : Result AcceptStarted ScramRefusal) → fixed_end old ≡ None → On old (run turn chosen (text_taken r))
on_text old turn chosen (Err refusal) e = tt
on_text old turn chosen (Ok started) e = record { lasting = sym e; unmarked = λ f. refl }

lasting_gone : (after : Answered) → lasting_after (gone_on after) ≡ lasting_answered after
lasting_gone (afters.More end token) = refl
lasting_gone (afters.Done outcome lasts token) = refl

on_proof : (old : AcceptEnd) (turn : Turn) (chosen : Chosen) (end : AcceptModel) (token : List ℕ) (r : Result AcceptFinished ScramRefusal) → On old (run turn chosen (proof_taken end token r))
on_proof old turn chosen end token (Err refusal) = tt
on_proof old turn chosen end token (Ok made) = record {
  lasting = lasting_gone (finished turn chosen (outcome_of kinds.Scram made.done) made.done.ends made.token) ∙ if_both chosen.due _ _ _ refl refl;
  unmarked = λ e. absurd (some_none _ e);
}

on_mech : (setup : AcceptSetup) (old : AcceptEnd) (now : ℕ) (draws : List ℕ) (turn : Turn) (chosen : Chosen) (mech : AcceptMech) (token : List ℕ) → fixed_end old ≡ None
    → On old (run turn chosen (accept_taken setup mech token now draws))
unfolding accept_taken
on_mech setup old now draws turn chosen mechs.Kerberos token e =
    on_request old turn chosen draws (map typed (judge_found setup.keytab setup.own token)) (judged setup.keytab setup.own now setup.bindings token)
on_mech setup old now draws turn chosen mechs.Scram token e = on_text old turn chosen (accept_started setup.verifiers token (drawn_nonce draws)) e
on_mech setup old now draws turn chosen (mechs.Proof end) token e = on_proof old turn chosen end token (accept_finished end token setup.bindings now)

on_started : (setup : AcceptSetup) (now : ℕ) (draws : List ℕ) (running : Running) (token : Option (List ℕ)) → On ends.New (mech_started setup now draws running token)
on_started setup now draws running None = record { lasting = refl; unmarked = λ e. refl }
on_started setup now draws running (Some token) = on_mech setup ends.New now draws First running.chosen running.mech token refl

on_begins : (setup : AcceptSetup) (now : ℕ) (draws : List ℕ) (init : NegInit) → On ends.New (begins setup now draws init)
unfolding begins
on_begins setup now draws init =
    on_bind {A = MechKind} ends.New (or_refuse NoCommonMech (best setup.offer init.list)) (chose setup now draws init.list init.token)
    (λ kind. on_started setup now draws (mech_begun setup init.list kind) (token_for (is_first_named init.list kind) init.token))

on_proceeds : (setup : AcceptSetup) (now : ℕ) (draws : List ℕ) (size : ℕ) (running : Running) (resp : NegResp) → On (ends.Runs running) (proceeds setup now draws size running resp)
unfolding proceeds
on_proceeds setup now draws size running resp =
    on_due (ends.Runs running) Rejected (not (rejects resp.state)) (or_refuse (Defective size) resp.token >>= (λ token. run Later running.chosen (accept_taken setup running.mech token now draws)))
    (on_bind {A = List ℕ} (ends.Runs running) (or_refuse (Defective size) resp.token) (λ token. run Later running.chosen (accept_taken setup running.mech token now draws))
    (λ token. on_mech setup (ends.Runs running) now draws Later running.chosen running.mech token refl))

on_closes : (owing : Owing) (resp : NegResp) → On (ends.Owes owing) (closes owing resp)
unfolding closes
on_closes owing resp =
    on_due (ends.Owes owing) Rejected (not (rejects resp.state))
    (or_refuse MicMissing resp.mic >>= (λ mic. due MicBad (is_list_mic owing.outcome Acceptor owing.received mic) >>= (λ right. Ok (settled owing resp.state mic))))
    (on_bind {A = List ℕ} (ends.Owes owing) (or_refuse MicMissing resp.mic)
    (λ mic. due MicBad (is_list_mic owing.outcome Acceptor owing.received mic) >>= (λ right. Ok (settled owing resp.state mic)))
    (λ mic. on_due (ends.Owes owing) MicBad (is_list_mic owing.outcome Acceptor owing.received mic) (Ok (settled owing resp.state mic)) (record { lasting = refl; unmarked = λ e. refl })))

-- a first token: one that negotiates, or a request alone
on_first : (setup : AcceptSetup) (now : ℕ) (draws token : List ℕ) (oid : Option (List ℕ)) → On ends.New (first_taken setup now draws token oid)
on_first setup now draws token None = on_bind {A = NegInit} ends.New (init_read token) (begins setup now draws) (λ init. on_begins setup now draws init)
on_first setup now draws token (Some oid) = on_mech setup ends.New now draws Bare (mech_begun setup (oid ∷ []) kinds.Kerberos).chosen mechs.Kerberos token refl

on_step : (setup : AcceptSetup) (old : AcceptEnd) (token : List ℕ) (now : ℕ) (draws : List ℕ) → On old (accept_step setup old token now draws)
on_step setup ends.New token now draws = on_first setup now draws token (bare_oid setup token)
on_step setup (ends.Runs running) token now draws =
    on_bind {A = NegResp} (ends.Runs running) (resp_read token) (proceeds setup now draws (length token) running) (λ resp. on_proceeds setup now draws (length token) running resp)
on_step setup (ends.Owes owing) token now draws = on_bind {A = NegResp} (ends.Owes owing) (resp_read token) (closes owing) (λ resp. on_closes owing resp)

leads : (setup : AcceptSetup) (old : AcceptEnd) (token : List ℕ) (now : ℕ) (draws : List ℕ) (accepted : Accepted) → accept_step setup old token now draws ≡ Ok accepted → Leads old accepted
leads setup old token now draws accepted e = subst (On old) e (on_step setup old token now draws)

-- ---- the context of a step

lasting_next : (until : ℕ) (step : AcceptStep) → fixed_in (Some (context_after until (next_of (settled_of step)))) ≡ lasting_after step
lasting_next until (steps.More end token) = refl
lasting_next until (steps.Done outcome lasts token) = refl
lasting_next until (steps.WantsAuth pause) = go pause.after
  where
    go : (after : Answered) → fixed_in (Some (context_after until (next_of (settled_of (steps.WantsAuth (record pause { after = after })))))) ≡ lasting_answered after
    go (afters.More end token) = refl
    go (afters.Done outcome lasts token) = refl

pub takes : (setup : AcceptSetup) (book : Stands) (id past : Option ℕ) (token : List ℕ) (now : ℕ) (draws : List ℕ) (accepted : Accepted)
    → step_taken setup book id past token now draws ≡ Some accepted → Takes setup book id past token now draws accepted
takes setup book id past token now draws accepted e =
    let t = taken_is setup book id past token now draws accepted e in
    record {
      step = t.step;
      negotiates = t.negotiates;
      answer = ap (λ (o : Outcomes). o.answer) t.is;
      fixed = λ before.
          ap (λ (o : Outcomes). fixed_in (changed o.change (id_of id book.history) before)) t.is
          ∙ ap fixed_in (own_is (goes_by id (next_of (settled_of accepted.step)) past book.history book.table) (id_of id book.history) (context_after (until_of id book.greatest book.table) (next_of (settled_of accepted.step))) before)
          ∙ lasting_next (until_of id book.greatest book.table) accepted.step
          ∙ (leads setup (stepped_from book id) token now draws accepted t.step).lasting;
      others = λ other before ne.
          subst (λ (o : Outcomes). (changed o.change other before ≡ before) ⊎ (changed o.change other before ≡ None)) (sym t.is)
          (others_are (goes_by id (next_of (settled_of accepted.step)) past book.history book.table) (id_of id book.history) other (context_after (until_of id book.greatest book.table) (next_of (settled_of accepted.step))) before ne);
    }

-- ---- the entries of a step

at_head : (entry : Entry) (h : List Entry) → entry_at (length h) (entry ∷ h) ≡ Some entry
at_head entry h = rw (eq-eqb (length h) (length h) refl) refl

below : (entry later : Entry) (h : List Entry) → entry_at (length h) (later ∷ entry ∷ h) ≡ Some entry
below entry later h = rw (ne_eqb (length h) (length (entry ∷ h)) (λ e. omega (arith, e))) (at_head entry h)

noted_at : (first : Bool) (next : Next AcceptEnd Outcome) (id now : ℕ) (entry : Entry) (h : List Entry) → entry_at (length h) (history_finished first next id now (entry ∷ h)) ≡ Some entry
noted_at true (nexts.Going state) id now entry h = at_head entry h
noted_at false (nexts.Going state) id now entry h = below entry _ h
noted_at first (nexts.Settled mech names value lasts) id now entry h = below entry _ h

started_longer : (id gone : Option ℕ) (now : ℕ) (h : List Entry) → length h ≤ length (started id gone now h)
started_longer None None now h = omega arith
started_longer None (Some gone) now h = omega arith
started_longer (Some id) None now h = omega arith
started_longer (Some id) (Some gone) now h = omega arith

unmarked_same : (id gone : Option ℕ) (next : Next AcceptEnd Outcome) (now : ℕ) (h : List Entry) → taken_of (entered id gone None next now h) ≡ taken_of h
unmarked_same None None (nexts.Going state) now h = refl
unmarked_same None None (nexts.Settled mech names value lasts) now h = refl
unmarked_same None (Some gone) (nexts.Going state) now h = refl
unmarked_same None (Some gone) (nexts.Settled mech names value lasts) now h = refl
unmarked_same (Some id) None (nexts.Going state) now h = refl
unmarked_same (Some id) None (nexts.Settled mech names value lasts) now h = refl
unmarked_same (Some id) (Some gone) (nexts.Going state) now h = refl
unmarked_same (Some id) (Some gone) (nexts.Settled mech names value lasts) now h = refl

-- ---- what is fixed

unowed : (old : AcceptEnd) → owed_by old ≡ None → fixed_end old ≡ None
unowed ends.New e = refl
unowed (ends.Runs running) e = refl
unowed (ends.Owes owing) e = absurd (let f : Some owing.outcome ≡ None = e in cc)

unmarked_gone : (after : Answered) → mark_of (gone_on after) ≡ None
unmarked_gone (afters.More end token) = refl
unmarked_gone (afters.Done outcome lasts token) = refl

-- the entries of a step that was taken
entries_are : (setup : AcceptSetup) (book : Stands) (id past : Option ℕ) (token : List ℕ) (now : ℕ) (draws : List ℕ) (accepted : Accepted) (mark : Option Mark)
    → TakenIs setup book id past token now draws (negotiated setup book id past token now draws) accepted → mark_of accepted.step ≡ mark
    → (negotiated setup book id past token now draws).history ≡ entered id (goes_by id (next_of (settled_of accepted.step)) past book.history book.table) mark (next_of (settled_of accepted.step)) book.greatest book.history
entries_are setup book id past token now draws accepted mark t e =
    ap (λ (o : Outcomes). o.history) t.is
    ∙ ap (λ (m : Option Mark). entered id (goes_by id (next_of (settled_of accepted.step)) past book.history book.table) m (next_of (settled_of accepted.step)) book.greatest book.history) e

adds_auth : (id gone : Option ℕ) (mark : Mark) (next : Next AcceptEnd Outcome) (now : ℕ) (h new : List Entry)
    → new ≡ entered id gone (Some mark) next now h → AddsAuth h new (id_of id h) mark now
adds_auth id gone mark next now h new e = record {
  place = length (started id gone now h);
  entry = ap (entry_at (length (started id gone now h))) e ∙ noted_at (is_none id) next (id_of id h) now (Auth (id_of id h) mark now) (started id gone now h);
  added = started_longer id gone now h;
}

adds : (setup : AcceptSetup) (book : Stands) (id past : Option ℕ) (token : List ℕ) (now : ℕ) (draws : List ℕ) (accepted : Accepted) (fixed : Fixed)
    → TakenIs setup book id past token now draws (negotiated setup book id past token now draws) accepted
    → (by : ByKerberos setup now draws accepted fixed ⊎ ByScram setup (stepped_from book id) now accepted fixed)
    → AddsBy setup (stepped_from book id) now draws accepted fixed book.history (negotiated setup book id past token now draws).history (id_of id book.history) book.greatest by
adds setup book id past token now draws accepted fixed t (inl by) =
    let mark : mark_of accepted.step ≡ Some (judged_mark by.request) = ap mark_of by.asks ∙ ap Some by.mark_is in
    adds_auth id (goes_by id (next_of (settled_of accepted.step)) past book.history book.table) (judged_mark by.request) (next_of (settled_of accepted.step)) book.greatest book.history _
    (entries_are setup book id past token now draws accepted (Some (judged_mark by.request)) t mark)
adds setup book id past token now draws accepted fixed t (inr by) =
    let mark : mark_of accepted.step ≡ None = ap mark_of by.goes_on ∙ unmarked_gone by.after in
    ap taken_of (entries_are setup book id past token now draws accepted None t mark)
    ∙ unmarked_same id (goes_by id (next_of (settled_of accepted.step)) past book.history book.table) (next_of (settled_of accepted.step)) book.greatest book.history

pub fixes : (laws : AcceptLaws) (setup : AcceptSetup) (book : Stands) (id past : Option ℕ) (token : List ℕ) (now : ℕ) (draws : List ℕ) (fixed : Fixed)
    → AllGood setup book.table → fixes_of (step_taken setup book id past token now draws) ≡ Some fixed → FixesContext setup book id past token now draws fixed
fixes laws setup book id past token now draws fixed good e = go (step_taken setup book id past token now draws) refl e
  where
    go : (o : Option Accepted) → step_taken setup book id past token now draws ≡ o → fixes_of o ≡ Some fixed → FixesContext setup book id past token now draws fixed
    go None is e = absurd (let f : None ≡ Some fixed = e in cc)
    go (Some accepted) is e =
        let t = taken_is setup book id past token now draws accepted is in
        let law = laws.steps setup (stepped_from book id) token now draws accepted (good_from setup book id good) t.step in
        let f = law.fixes fixed e in
        record {
          accepted = accepted;
          taken = is;
          fixes = f;
          unfixed = unowed (stepped_from book id) f.before;
          adds = adds setup book id past token now draws accepted fixed t f.by;
        }

pub fixes_none : (laws : AcceptLaws) (setup : AcceptSetup) (book : Stands) (id past : Option ℕ) (token : List ℕ) (now : ℕ) (draws : List ℕ) (accepted : Accepted)
    → AllGood setup book.table → step_taken setup book id past token now draws ≡ Some accepted → accepted.fixes ≡ None → FixesNone setup book id past token now draws accepted
fixes_none laws setup book id past token now draws accepted good is e =
    let t = taken_is setup book id past token now draws accepted is in
    let law = laws.steps setup (stepped_from book id) token now draws accepted (good_from setup book id good) t.step in
    let mark = (leads setup (stepped_from book id) token now draws accepted t.step).unmarked e in
    record {
      makes = law.unfixed e;
      marks =
          ap (λ (o : Outcomes). taken_of o.history) t.is
          ∙ ap (λ (m : Option Mark). taken_of (entered id (goes_by id (next_of (settled_of accepted.step)) past book.history book.table) m (next_of (settled_of accepted.step)) book.greatest book.history)) mark
          ∙ unmarked_same id (goes_by id (next_of (settled_of accepted.step)) past book.history book.table) (next_of (settled_of accepted.step)) book.greatest book.history;
    }

-- ---- a context that a token completes

record DoneAs (own : ℕ) (step : AcceptStep) (lease : Lease) : Type 0 where
  pub id_is : lease.id ≡ own
  pub lasting : lasting_after step ≡ Some (record { outcome = lease.outcome; ends = lease.ends })
  pub next : next_of (settled_of step) ≡ nexts.Settled lease.outcome.mech (names_of lease.outcome) lease.outcome lease.ends

going_settled : (id : ℕ) (token : List ℕ) (lease : Lease) (last : List ℕ) → answers.Going id token ≡ answers.Settled lease last → ⊥
going_settled id token lease last e = cc

refused_settled : (refusal : BookRefusal) (lease : Lease) (last : List ℕ) → answers.Refused refusal ≡ answers.Settled lease last → ⊥
refused_settled refusal lease last e = cc

settled_same : {a b : Lease} {s t : List ℕ} → answers.Settled a s ≡ answers.Settled b t → a ≡ b
settled_same e = cc

done_as : (own : ℕ) (step : AcceptStep) (lease : Lease) (last : List ℕ) → answer_with own (settled_of step) ≡ answers.Settled lease last → DoneAs own step lease
done_as own (steps.More end token) lease last e = absurd (going_settled own token lease last e)
done_as own (steps.Done outcome lasts token) lease last e =
    subst (DoneAs own (steps.Done outcome lasts token)) (settled_same e) (record { id_is = refl; lasting = refl; next = refl })
done_as own (steps.WantsAuth pause) lease last e = go pause.after e
  where
    go : (after : Answered) → answer_with own (settled_of (steps.WantsAuth (record pause { after = after }))) ≡ answers.Settled lease last → DoneAs own (steps.WantsAuth (record pause { after = after })) lease
    go (afters.More end token) e = absurd (going_settled own token lease last e)
    go (afters.Done outcome lasts token) e =
        subst (DoneAs own (steps.WantsAuth (record pause { after = afters.Done outcome lasts token }))) (settled_same e) (record { id_is = refl; lasting = refl; next = refl })

lasting_same : {a b : Lasting} → Some a ≡ Some b → a ≡ b
lasting_same e = cc

stands_answered : (setup : AcceptSetup) (old : AcceptEnd) (found : List MechMaking) (after : Answered) (own : ℕ) (lease : Lease) (last : List ℕ)
    → AfterAnswered setup old found after → answer_with own (settled_of (steps.WantsAuth (record { mark = record { who = []; at = 0 }; after = after }))) ≡ answers.Settled lease last → StandsBy setup old found lease.outcome
stands_answered setup old found (afters.More end token) own lease last h e = absurd (going_settled own token lease last e)
stands_answered setup old found (afters.Done outcome lasts token) own lease last h e =
    subst (λ (o : Outcome). StandsBy setup old found o) (ap (λ (l : Lease). l.outcome) (settled_same e)) h

stands_step : (setup : AcceptSetup) (old : AcceptEnd) (found : List MechMaking) (step : AcceptStep) (own : ℕ) (lease : Lease) (last : List ℕ)
    → AfterStep setup old found step → answer_with own (settled_of step) ≡ answers.Settled lease last → StandsBy setup old found lease.outcome
stands_step setup old found (steps.More end token) own lease last h e = absurd (going_settled own token lease last e)
stands_step setup old found (steps.Done outcome lasts token) own lease last h e =
    subst (λ (o : Outcome). StandsBy setup old found o) (ap (λ (l : Lease). l.outcome) (settled_same e)) h
stands_step setup old found (steps.WantsAuth pause) own lease last h e = stands_answered setup old found pause.after own lease last h e

pub completes : (laws : AcceptLaws) (setup : AcceptSetup) (book : Stands) (id past : Option ℕ) (token : List ℕ) (now : ℕ) (draws : List ℕ) (lease : Lease) (last : List ℕ)
    → AllGood setup book.table → (negotiated setup book id past token now draws).answer ≡ answers.Settled lease last → Completes setup book id past token now draws lease
completes laws setup book id past token now draws lease last good e = go (step_taken setup book id past token now draws) refl
  where
    go : (o : Option Accepted) → step_taken setup book id past token now draws ≡ o → Completes setup book id past token now draws lease
    go None is = let r = refused_is setup book id past token now draws is in absurd (refused_settled r.refusal lease last (sym r.answer ∙ e))
    go (Some accepted) is =
        let t = taken_is setup book id past token now draws accepted is in
        let law = laws.steps setup (stepped_from book id) token now draws accepted (good_from setup book id good) t.step in
        let answer : answer_with (id_of id book.history) (settled_of accepted.step) ≡ answers.Settled lease last = sym (ap (λ (o : Outcomes). o.answer) t.is) ∙ e in
        let d = done_as (id_of id book.history) accepted.step lease last answer in
        record {
          stands = subst (λ (o : Option Accepted). StandsBy setup (stepped_from book id) (found_of o) lease.outcome) (sym is) (stands_step setup (stepped_from book id) accepted.found accepted.step (id_of id book.history) lease last law.after answer);
          id_is = d.id_is;
          fixed = ap (λ (o : Option Accepted). fixed_after (fixes_of o) (fixed_end (stepped_from book id))) is ∙ sym (leads setup (stepped_from book id) token now draws accepted t.step).lasting ∙ d.lasting;
          earlier = noted (mark_of accepted.step) (id_of id book.history) book.greatest (started id (goes_by id (nexts.Settled lease.outcome.mech (names_of lease.outcome) lease.outcome lease.ends) past book.history book.table) book.greatest book.history);
          entry =
              ap (λ (o : Outcomes). o.history) t.is
              ∙ ap (λ (n : Next AcceptEnd Outcome). entered id (goes_by id n past book.history book.table) (mark_of accepted.step) n book.greatest book.history) d.next
              ∙ ap (λ (k : ℕ). Settled k lease.outcome.mech (names_of lease.outcome) lease.ends book.greatest ∷ noted (mark_of accepted.step) (id_of id book.history) book.greatest (started id (goes_by id (nexts.Settled lease.outcome.mech (names_of lease.outcome) lease.outcome lease.ends) past book.history book.table) book.greatest book.history)) (sym d.id_is);
          context = λ before.
              ap (λ (o : Outcomes). changed o.change lease.id before) t.is
              ∙ ap (λ (k : ℕ). changed (Becomes (goes_by id (next_of (settled_of accepted.step)) past book.history book.table) (id_of id book.history) (context_after (until_of id book.greatest book.table) (next_of (settled_of accepted.step)))) k before) d.id_is
              ∙ own_is (goes_by id (next_of (settled_of accepted.step)) past book.history book.table) (id_of id book.history) (context_after (until_of id book.greatest book.table) (next_of (settled_of accepted.step))) before
              ∙ ap (λ (n : Next AcceptEnd Outcome). Some (context_after (until_of id book.greatest book.table) n)) d.next;
        }

-- ---- refusals

refused_with : (id : ℕ) (step : AcceptStep) (refusal : BookRefusal) → answer_with id (settled_of step) ≡ answers.Refused refusal → ⊥
refused_with id (steps.More end token) refusal e = let f : answers.Going id token ≡ answers.Refused refusal = e in cc
refused_with id (steps.Done outcome lasts token) refusal e = let f : answers.Settled (record { id = id; outcome = outcome; ends = lasts }) token ≡ answers.Refused refusal = e in cc
refused_with id (steps.WantsAuth pause) refusal e = go pause.after e
  where
    go : (after : Answered) → answer_with id (settled_of (steps.WantsAuth (record pause { after = after }))) ≡ answers.Refused refusal → ⊥
    go (afters.More end token) e = let f : answers.Going id token ≡ answers.Refused refusal = e in cc
    go (afters.Done outcome lasts token) e = let f : answers.Settled (record { id = id; outcome = outcome; ends = lasts }) token ≡ answers.Refused refusal = e in cc

pub untaken : (setup : AcceptSetup) (book : Stands) (id past : Option ℕ) (token : List ℕ) (now : ℕ) (draws : List ℕ) (refusal : BookRefusal)
    → (negotiated setup book id past token now draws).answer ≡ answers.Refused refusal → step_taken setup book id past token now draws ≡ None
untaken setup book id past token now draws refusal e = go (step_taken setup book id past token now draws) refl
  where
    go : (o : Option Accepted) → step_taken setup book id past token now draws ≡ o → step_taken setup book id past token now draws ≡ None
    go None is = is
    go (Some accepted) is =
        let t = taken_is setup book id past token now draws accepted is in
        absurd (refused_with (id_of id book.history) accepted.step refusal (sym (ap (λ (o : Outcomes). o.answer) t.is) ∙ e))

-- ---- good contexts

good_gone : (setup : AcceptSetup) (b : Bool) (before : Option (Context AcceptEnd Outcome)) → GoodContext setup before → GoodContext setup (if b then None else before)
good_gone setup true before good = tt
good_gone setup false before good = good

good_refused : (setup : AcceptSetup) (ended : Option ℕ) (id : ℕ) (before : Option (Context AcceptEnd Outcome)) → GoodContext setup before → GoodContext setup (changed (change_refused ended) id before)
good_refused setup None id before good = good
good_refused setup (Some gone) id before good = good_gone setup (gone == id) before good

pub good_without : (setup : AcceptSetup) (old new : Places AcceptEnd Outcome) (id : Option ℕ) → AllGood setup old → Changed old (change_refused id) new → AllGood setup new
good_without setup old new id good is = λ other. subst (GoodContext setup) (sym (is other)) (good_refused setup id other (context_of (slot_at old other)) (good other))

good_next : (setup : AcceptSetup) (old : AcceptEnd) (found : List MechMaking) (until : ℕ) (step : AcceptStep) → AfterStep setup old found step → GoodContext setup (Some (context_after until (next_of (settled_of step))))
good_next setup old found until (steps.More end token) h = h.good
good_next setup old found until (steps.Done outcome lasts token) h = tt
good_next setup old found until (steps.WantsAuth pause) h = go pause.after h
  where
    go : (after : Answered) → AfterAnswered setup old found after → GoodContext setup (Some (context_after until (next_of (settled_of (steps.WantsAuth (record pause { after = after }))))))
    go (afters.More end token) h = h.good
    go (afters.Done outcome lasts token) h = tt

good_other : (setup : AcceptSetup) (change before : Option (Context AcceptEnd Outcome)) → GoodContext setup before → (change ≡ before) ⊎ (change ≡ None) → GoodContext setup change
good_other setup change before good (inl e) = subst (GoodContext setup) (sym e) good
good_other setup change before good (inr e) = subst (GoodContext setup) (sym e) tt

good_becomes : (setup : AcceptSetup) (lapsed : Option ℕ) (own id : ℕ) (after : Context AcceptEnd Outcome) (before : Option (Context AcceptEnd Outcome))
    → GoodContext setup (Some after) → GoodContext setup before → GoodContext setup (changed (Becomes lapsed own after) id before)
good_becomes setup lapsed own id after before good old =
    elim (cases_Bool (own == id)) [
      | inl e ↦ rw e good
      | inr e ↦ rw e (good_other setup (without lapsed id before) before old (without_is lapsed id before))
    ]

pub good_steps : (laws : AcceptLaws) (setup : AcceptSetup) (book : Stands) (id past : Option ℕ) (token : List ℕ) (now : ℕ) (draws : List ℕ) (new : Places AcceptEnd Outcome)
    → AllGood setup book.table → Changed book.table (negotiated setup book id past token now draws).change new → AllGood setup new
good_steps laws setup book id past token now draws new good is = go (step_taken setup book id past token now draws) refl
  where
    go : (o : Option Accepted) → step_taken setup book id past token now draws ≡ o → AllGood setup new
    go None none =
        let r = refused_is setup book id past token now draws none in
        good_without setup book.table new r.ended good (subst (λ (c : Change). Changed book.table c new) r.change is)
    go (Some accepted) some =
        let t = taken_is setup book id past token now draws accepted some in
        let law = laws.steps setup (stepped_from book id) token now draws accepted (good_from setup book id good) t.step in
        let change = subst (λ (o : Outcomes). Changed book.table o.change new) t.is is in
        λ other. subst (GoodContext setup) (sym (change other))
        (good_becomes setup (goes_by id (next_of (settled_of accepted.step)) past book.history book.table) (id_of id book.history) other (context_after (until_of id book.greatest book.table) (next_of (settled_of accepted.step))) (context_of (slot_at book.table other))
        (good_next setup (stepped_from book id) accepted.found (until_of id book.greatest book.table) accepted.step law.after) (good other))

-- ---- ids

pub first_unknown : (width : ℕ) (h : List Entry) → Legal width h → standing (id_of None h) h ≡ Unknown
first_unknown width h legal = (silent width h (id_of None h) legal (omega arith)).stands
