-- A call whose transaction number is kept doesn't act.
use Rattle.std.proofs.Common.{◌≡◌, ℕ, zero, suc, Bool, true, false, not, ◌&&◌, ◌==◌, List, [], ◌∷◌, ◌++◌, length, replicate, Option, None, Some, Result, Ok, Err, ap, sym, ◌∙◌, arith, refl, inl, inr, subst, append_assoc, append-nil}
use Rattle.std.proofs.lemmas.Bool.{cases_eq, cases_Bool, eq-eqb, ne_eqb, eqb-true, true≢false}
use Rattle.std.proofs.lemmas.List.{map_push}
use Rattle.again_calls.specs.declared.place.Act.{Act}
use Rattle.again_calls.specs.Kept.{PlaceOf, no_place, newest, with_act, added_to, acts_of, act_with, act_of}
use Rattle.accept_core.specs.declared.answer.AdmitRefusal.{AdmitRefusal}
use Rattle.accept_core.specs.declared.entry.Entry.{Entry}
use Rattle.accept_core.specs.declared.entry.Entry.TheVariants.{Call}
use Rattle.accept_book.specs.declared.book_answer.Lease.{Lease}
use Rattle.accept_core.specs.declared.entry.Receipt.{Receipt}
use Rattle.accept_core.specs.Entering.{given as given_receipts}
use Rattle.accept_book.specs.declared.book_answer.Admitted.{Admitted}
use Rattle.rpcsec_bodies.specs.declared.service.Service.{Service}
use Rattle.rpc_program.specs.Programs.{NONE}
use Rattle.sha1.specs.Sha1.{sha1}
use Rattle.accept_book.specs.RecordShown.{Asked, AskedStep, AskedLook, AskedAdmit, AskedEnd}
use Rattle.gss_server.specs.Asking.{Asking}
use Rattle.accept_core.specs.History.{standing, IsLive}
use Rattle.accept_core.specs.Legal.{Legal}
use Rattle.again_gate.specs.Again.{AgainOf, with_xid, AgainAnswers, placed, placed_all, AdmitsSame, AdmitsBy, Admits, Acts as ActsNew, is_told, told_with, act_as, ended_after, opened_gate}
use Rattle.seq_window.specs.Marks.{is_in}
use Rattle.gss_server.specs.Receipts.{of_call, of_end}
use Rattle.gss_server.specs.Programs.{passed}
use Rattle.rpc_program.specs.declared.outcome.Outcome.{Outcome}
use Rattle.again_calls.specs.declared.outcome.KeptOutcome.{KeptOutcome}
use Rattle.again_gate.specs.Turns.{Turned, Turning}
use Rattle.again_laws.specs.Acting.{is_acting, NoneAgain, acting, xids as xids_of}
use Rattle.again_laws.specs.Sole.{onto, IsCall, IsEnd, IsSole, Within}
use Rattle.again_laws.proofs.Rows.{was_acting, acts, one-xid, xids-in, xids-all, xids-is}
use Rattle.again_laws.proofs.Places.{count, keeps, AreWide, keeps-own, wide-changed, long-changed}
use Rattle.again_laws.proofs.Acts.{newest-more, newest-map, Sound, sound-onto, whole-live, xids, Has, ByStanding, Inv, live-has, has-by, by-same, entries-more}

-- a transaction number that isn't kept
pub not-kept : (xid : ℕ) (kept : List Act) → act_with xid kept ≡ None → is_in xid (xids kept) ≡ false
not-kept xid [] e = refl
not-kept xid (act ∷ kept) e =
    elim (cases_eq act.xid xid) [
      | inl same ↦ let f : Some act ≡ None = rw (eq-eqb act.xid xid same) at e in cc
      | inr ne ↦ rw (ne_eqb xid act.xid (λ x. ne (sym x))) (not-kept xid kept (rw (ne_eqb act.xid xid ne) at e))
    ]

-- what a question left: what is kept are the last acting calls still, and an acting call's transaction
-- number wasn't among them
pub record Step {S : Type 0} (width contexts : ℕ) (history : S → List Entry) (old : AgainOf S) (one : Asked Admitted) (new : AgainOf S) (all : ℕ → List ℕ) : Type 0 where
  pub inv : Inv width contexts (history new.gate) new.places (λ id. one-xid id old.xid one (all id))
  pub fresh : (id : ℕ) → acts id one ≡ true → is_in old.xid (newest width (all id)) ≡ false
  pub xid : new.xid ≡ old.xid

-- the history and the places are these
inv-at : (width contexts : ℕ) (h h' : List Entry) (ps ps' : List PlaceOf) (all : ℕ → List ℕ) → h' ≡ h → ps' ≡ ps → Inv width contexts h ps all → Inv width contexts h' ps' all
inv-at width contexts h h' ps ps' all eh ep inv =
    subst (λ (l : List Entry). Inv width contexts l ps' all) (sym eh) (subst (λ (q : List PlaceOf). Inv width contexts h q all) (sym ep) inv)

-- a question that no call acts by
quiet : {S : Type 0} (wide width contexts : ℕ) (history : S → List Entry) (old : AgainOf S) (one : Asked Admitted) (new : AgainOf S) (all : ℕ → List ℕ) (receipts : List Receipt)
    → ((id : ℕ) → acts id one ≡ false) → history new.gate ≡ onto receipts (history old.gate) → new.places ≡ placed_all receipts old.places → new.xid ≡ old.xid
    → Sound wide contexts (history new.gate) → Inv width contexts (history old.gate) old.places all → Step width contexts history old one new all
quiet wide width contexts history old one new all receipts none grows places xid sound inv =
    let more = entries-more wide width contexts receipts (history old.gate) old.places all (subst (λ (h : List Entry). Sound wide contexts h) grows sound) inv in
    let there : Inv width contexts (history new.gate) new.places all = inv-at width contexts (onto receipts (history old.gate)) (history new.gate) (placed_all receipts old.places) new.places all grows places more in
    record {
      inv = record { each = λ id. rw (none id) (there.each id); free = there.free; long = there.long; wide = there.wide };
      fresh = λ id e. absurd (true≢false (sym e ∙ none id));
      xid = xid;
    }

-- the call of an entry acts where its procedure says so
acting-call : (id : ℕ) (entry : Entry) (own seq procedure : ℕ) (args : List ℕ) → entry ≡ Call own seq procedure args → is_acting id entry ≡ (own == id && not (procedure == NONE))
acting-call id entry own seq procedure args e = ap (is_acting id) e

no-call : (id : ℕ) (entry : Entry) (own seq : ℕ) (args : List ℕ) → entry ≡ Call own seq NONE args → is_acting id entry ≡ false
no-call id entry own seq args e = acting-call id entry own seq NONE args e ∙ elim (cases_Bool (own == id)) [ inl y ↦ rw y refl | inr n ↦ rw n refl ]

-- an admitted call of a transaction number that isn't kept
admitted-more : {S : Type 0} (wide width contexts : ℕ) (history : S → List Entry) (old : AgainOf S) (lease : Lease) (seq : ℕ) (service : Service) (procedure : ℕ) (args : List ℕ) (a : Admitted) (outcome : KeptOutcome) (new : AgainOf S) (all : ℕ → List ℕ)
    → (procedure == NONE) ≡ false → act_of lease.id old.xid old.places ≡ None → a.receipt.entry ≡ Call lease.id seq procedure (sha1 args) → history new.gate ≡ a.receipt.entry ∷ history old.gate
    → new.places ≡ added_to lease.id (act_as old.xid procedure (sha1 args) outcome) old.places → new.xid ≡ old.xid
    → Sound wide contexts (history new.gate) → Inv width contexts (history old.gate) old.places all → Step width contexts history old (AskedAdmit lease seq service procedure args (Ok a)) new all
admitted-more wide width contexts history old lease seq service procedure args a outcome new all acts_ none entry grows kept xid sound inv =
    let one : Asked Admitted = AskedAdmit lease seq service procedure args (Ok a) in
    let act : Act = act_as old.xid procedure (sha1 args) outcome in
    let grown : history new.gate ≡ Call lease.id seq procedure (sha1 args) ∷ history old.gate = grows ∙ ap (λ (e : Entry). e ∷ history old.gate) entry in
    let sound' : Sound wide contexts (Call lease.id seq procedure (sha1 args) ∷ history old.gate) = subst (λ (h : List Entry). Sound wide contexts h) grown sound in
    let live : IsLive (standing lease.id (history old.gate)) = whole-live (standing lease.id (history old.gate)) sound'.0.0.whole in
    let own : Has width lease.id old.places (all lease.id) = live-has width (standing lease.id (history old.gate)) lease.id old.places (all lease.id) live (inv.each lease.id) in
    let loud : (id : ℕ) → acts id one ≡ (lease.id == id) = λ id. acting-call id a.receipt.entry lease.id seq procedure (sha1 args) entry ∙ elim (cases_Bool (lease.id == id)) [ inl y ↦ rw (y, acts_) refl | inr n ↦ rw n refl ] in
    let fresh' : is_in old.xid (newest width (all lease.id)) ≡ false = subst (λ (l : List ℕ). is_in old.xid l ≡ false) own.kept (not-kept old.xid (acts_of lease.id old.places) none) in
    let has : Has width lease.id (added_to lease.id act old.places) (all lease.id ++ old.xid ∷ []) = record {
      count = (keeps lease.id act (Some lease.id) old.places).count ∙ own.count;
      kept = ap xids (keeps-own width lease.id act old.places inv.wide (omega (arith, own.count)))
          ∙ (newest-map (λ (x : Act). x.xid) width (acts_of lease.id old.places ++ act ∷ [])
          ∙ (ap (newest width) (map_push (λ (x : Act). x.xid) (acts_of lease.id old.places) act)
          ∙ (ap (λ (l : List ℕ). newest width (l ++ old.xid ∷ [])) own.kept ∙ newest-more width (all lease.id) old.xid)));
    } in
    let there : Inv width contexts (Call lease.id seq procedure (sha1 args) ∷ history old.gate) (added_to lease.id act old.places) (λ id. one-xid id old.xid one (all id)) = record {
      each = λ id. elim (cases_eq lease.id id) [
        | inl e ↦ rw (loud id, eq-eqb lease.id id e)
            (subst (λ (n : ℕ). ByStanding width (standing n (history old.gate)) n (added_to lease.id act old.places) (all n ++ old.xid ∷ [])) e
            (has-by width (standing lease.id (history old.gate)) lease.id (added_to lease.id act old.places) (all lease.id ++ old.xid ∷ []) live has))
        | inr ne ↦ rw (loud id, ne_eqb lease.id id ne)
            (by-same width (standing id (history old.gate)) id old.places (added_to lease.id act old.places) (all id)
            (keeps lease.id act (Some id) old.places).count ((keeps lease.id act (Some id) old.places).acts (ne_eqb lease.id id ne)) (inv.each id))
      ];
      free = omega (arith, inv.free, (keeps lease.id act None old.places).count);
      long = long-changed (with_act act) (Some lease.id) old.places ∙ inv.long;
      wide = wide-changed width (with_act act) (Some lease.id) (λ p. refl) old.places inv.wide;
    } in
    record {
      inv = inv-at width contexts (Call lease.id seq procedure (sha1 args) ∷ history old.gate) (history new.gate) (added_to lease.id act old.places) new.places (λ id. one-xid id old.xid one (all id)) grown kept there;
      fresh = λ id e. subst (λ (n : ℕ). is_in old.xid (newest width (all n)) ≡ false) (eqb-true lease.id id (sym (loud id) ∙ e)) fresh';
      xid = xid;
    }

-- ---- each kind of question

placed-call : (lease : Lease) (seq procedure : ℕ) (args : List ℕ) (answer : Result Admitted AdmitRefusal) (ps : List PlaceOf) → IsCall lease seq procedure args answer → placed_all (of_call (Some answer)) ps ≡ ps
placed-call lease seq procedure args (Ok a) ps is = ap (λ (e : Entry). placed e ps) is
placed-call lease seq procedure args (Err refusal) ps is = refl

placed-end : (lease : Lease) (seq : ℕ) (answer : Result Receipt AdmitRefusal) (ps : List PlaceOf) → IsEnd lease seq answer → placed_all (of_end (Some answer)) ps ≡ ended_after lease.id answer ps
placed-end lease seq (Ok receipt) ps is = ap (λ (e : Entry). placed e ps) is
placed-end lease seq (Err refusal) ps is = refl

-- a call that was answered as one that acted before
repeated : (id : ℕ) (outcome : Outcome) (lease : Lease) (seq : ℕ) (args : List ℕ) (inner : Result Receipt AdmitRefusal) → IsCall lease seq NONE args (passed inner) → was_acting id (told_with outcome inner) ≡ false
repeated id outcome lease seq args (Ok receipt) is = no-call id receipt.entry lease.id seq (sha1 args) is
repeated id outcome lease seq args (Err refusal) is = refl

admits-new : {S : Type 0} (Answers : S → Asked Admitted → S → Type 0) (history : S → List Entry) → IsSole Answers history → (wide width contexts : ℕ) (old : AgainOf S) (lease : Lease) (seq : ℕ) (service : Service) (procedure : ℕ) (args : List ℕ) (answer : Result Admitted AdmitRefusal) (new : AgainOf S) (all : ℕ → List ℕ)
    → (procedure == NONE) ≡ false → act_of lease.id old.xid old.places ≡ None → ActsNew Answers old lease seq service procedure args answer new
    → Sound wide contexts (history new.gate) → Inv width contexts (history old.gate) old.places all → Step width contexts history old (AskedAdmit lease seq service procedure args answer) new all
admits-new Answers history sole wide width contexts old lease seq service procedure args (Ok a) new all acts_ none p sound inv =
    admitted-more wide width contexts history old lease seq service procedure args a p.keeps.outcome new all acts_ none
    (sole.own old.gate (AskedAdmit lease seq service procedure args (Ok a)) new.gate p.answers)
    (sole.grows old.gate (AskedAdmit lease seq service procedure args (Ok a)) new.gate p.answers) p.keeps.added p.xid sound inv
admits-new Answers history sole wide width contexts old lease seq service procedure args (Err refusal) new all acts_ none p sound inv =
    quiet wide width contexts history old (AskedAdmit lease seq service procedure args (Err refusal)) new all [] (λ id. refl)
    (sole.grows old.gate (AskedAdmit lease seq service procedure args (Err refusal)) new.gate p.answers) p.keeps p.xid sound inv

admits-same : {S : Type 0} (Answers : S → Asked Admitted → S → Type 0) (history : S → List Entry) → IsSole Answers history → (same : Bool) (wide width contexts : ℕ) (old : AgainOf S) (act : Act) (lease : Lease) (seq : ℕ) (service : Service) (procedure : ℕ) (args : List ℕ) (answer : Result Admitted AdmitRefusal) (new : AgainOf S) (all : ℕ → List ℕ)
    → AdmitsSame Answers same act old lease seq service args answer new
    → Sound wide contexts (history new.gate) → Inv width contexts (history old.gate) old.places all → Step width contexts history old (AskedAdmit lease seq service procedure args answer) new all
admits-same Answers history sole true wide width contexts old act lease seq service procedure args answer new all r sound inv =
    let one : Asked Admitted = AskedAdmit lease seq service NONE args (passed r.inner) in
    let is = sole.own old.gate one new.gate r.passes.answers in
    quiet wide width contexts history old (AskedAdmit lease seq service procedure args answer) new all (of_call (Some (passed r.inner)))
    (λ id. ap (was_acting id) r.is ∙ repeated id r.outcome lease seq args r.inner is)
    (sole.grows old.gate one new.gate r.passes.answers)
    (r.passes.places ∙ sym (placed-call lease seq NONE args (passed r.inner) old.places is)) r.passes.xid sound inv
admits-same {S} Answers history sole false wide width contexts old act lease seq service procedure args answer new all r sound inv =
    quiet wide width contexts history old (AskedAdmit lease seq service procedure args answer) new all []
    (λ id. ap (was_acting id) r.0) (ap (λ (a : AgainOf S). history a.gate) r.1) (ap (λ (a : AgainOf S). a.places) r.1) (ap (λ (a : AgainOf S). a.xid) r.1) sound inv

admits-by : {S : Type 0} (Answers : S → Asked Admitted → S → Type 0) (history : S → List Entry) → IsSole Answers history → (found : Option Act) (wide width contexts : ℕ) (old : AgainOf S) (lease : Lease) (seq : ℕ) (service : Service) (procedure : ℕ) (args : List ℕ) (answer : Result Admitted AdmitRefusal) (new : AgainOf S) (all : ℕ → List ℕ)
    → (procedure == NONE) ≡ false → act_of lease.id old.xid old.places ≡ found → AdmitsBy Answers found old lease seq service procedure args answer new
    → Sound wide contexts (history new.gate) → Inv width contexts (history old.gate) old.places all → Step width contexts history old (AskedAdmit lease seq service procedure args answer) new all
admits-by Answers history sole None wide width contexts old lease seq service procedure args answer new all acts_ e by sound inv =
    admits-new Answers history sole wide width contexts old lease seq service procedure args answer new all acts_ e by sound inv
admits-by Answers history sole (Some act) wide width contexts old lease seq service procedure args answer new all acts_ e by sound inv =
    admits-same Answers history sole (is_told act procedure (sha1 args)) wide width contexts old act lease seq service procedure args answer new all by sound inv

-- a call of no procedure doesn't act
was-none : (id : ℕ) (lease : Lease) (seq procedure : ℕ) (args : List ℕ) (answer : Result Admitted AdmitRefusal) → (procedure == NONE) ≡ true → IsCall lease seq procedure args answer → was_acting id answer ≡ false
was-none id lease seq procedure args (Ok a) none is = acting-call id a.receipt.entry lease.id seq procedure (sha1 args) is ∙ elim (cases_Bool (lease.id == id)) [ inl y ↦ rw (y, none) refl | inr n ↦ rw n refl ]
was-none id lease seq procedure args (Err refusal) none is = refl

admits-if : {S : Type 0} (Answers : S → Asked Admitted → S → Type 0) (history : S → List Entry) → IsSole Answers history → (none : Bool) (wide width contexts : ℕ) (old : AgainOf S) (lease : Lease) (seq : ℕ) (service : Service) (procedure : ℕ) (args : List ℕ) (answer : Result Admitted AdmitRefusal) (new : AgainOf S) (all : ℕ → List ℕ)
    → (procedure == NONE) ≡ none → Admits Answers none old lease seq service procedure args answer new
    → Sound wide contexts (history new.gate) → Inv width contexts (history old.gate) old.places all → Step width contexts history old (AskedAdmit lease seq service procedure args answer) new all
admits-if Answers history sole true wide width contexts old lease seq service procedure args answer new all e p sound inv =
    let one : Asked Admitted = AskedAdmit lease seq service procedure args answer in
    let is = sole.own old.gate one new.gate p.answers in
    quiet wide width contexts history old one new all (of_call (Some answer)) (λ id. was-none id lease seq procedure args answer e is)
    (sole.grows old.gate one new.gate p.answers) (p.places ∙ sym (placed-call lease seq procedure args answer old.places is)) p.xid sound inv
admits-if Answers history sole false wide width contexts old lease seq service procedure args answer new all e by sound inv =
    admits-by Answers history sole (act_of lease.id old.xid old.places) wide width contexts old lease seq service procedure args answer new all e refl by sound inv

pub step : {S : Type 0} (Answers : S → Asked Admitted → S → Type 0) (history : S → List Entry) → IsSole Answers history → (wide width contexts : ℕ) (old : AgainOf S) (one : Asked Admitted) (new : AgainOf S) (all : ℕ → List ℕ)
    → AgainAnswers Answers old one new → Sound wide contexts (history new.gate) → Inv width contexts (history old.gate) old.places all → Step width contexts history old one new all
step Answers history sole wide width contexts old (AskedStep id token now draws answer) new all p sound inv =
    quiet wide width contexts history old (AskedStep id token now draws answer) new all (given_receipts answer.receipts) (λ other. refl)
    (sole.grows old.gate (AskedStep id token now draws answer) new.gate p.answers) p.places p.xid sound inv
step Answers history sole wide width contexts old (AskedLook id now answer) new all p sound inv =
    quiet wide width contexts history old (AskedLook id now answer) new all [] (λ other. refl)
    (sole.grows old.gate (AskedLook id now answer) new.gate p.answers) p.places p.xid sound inv
step Answers history sole wide width contexts old (AskedAdmit lease seq service procedure args answer) new all by sound inv =
    admits-if Answers history sole (procedure == NONE) wide width contexts old lease seq service procedure args answer new all refl by sound inv
step Answers history sole wide width contexts old (AskedEnd lease seq answer) new all p sound inv =
    quiet wide width contexts history old (AskedEnd lease seq answer) new all (of_end (Some answer)) (λ other. refl)
    (sole.grows old.gate (AskedEnd lease seq answer) new.gate p.answers)
    (p.places ∙ sym (placed-end lease seq answer old.places (sole.own old.gate (AskedEnd lease seq answer) new.gate p.answers))) p.xid sound inv

-- ---- questions in a row

none-more : (width : ℕ) (before xs : List ℕ) (x : ℕ) → NoneAgain width before xs → is_in x (newest width (before ++ xs)) ≡ false → NoneAgain width before (xs ++ x ∷ [])
none-more width before [] x none new = (subst (λ (l : List ℕ). is_in x (newest width l) ≡ false) (append-nil before) new, tt)
none-more width before (y ∷ ys) x none new =
    (none.0, none-more width (before ++ y ∷ []) ys x none.1 (subst (λ (l : List ℕ). is_in x (newest width l) ≡ false) (sym (append_assoc before (y ∷ []) ys)) new))

pub record Good {S : Type 0} (width contexts : ℕ) (history : S → List Entry) (a : AgainOf S) (all : ℕ → List ℕ) : Type 0 where
  pub inv : Inv width contexts (history a.gate) a.places all
  pub none : (id : ℕ) → NoneAgain width [] (all id)

good-step : {S : Type 0} (width contexts : ℕ) (history : S → List Entry) (old : AgainOf S) (one : Asked Admitted) (new : AgainOf S) (all : ℕ → List ℕ) → Step width contexts history old one new all
    → Good width contexts history old all → Good width contexts history new (λ id. one-xid id old.xid one (all id))
good-step width contexts history old one new all s good = record {
  inv = s.inv;
  none = λ id. elim (cases_Bool (acts id one)) [
    | inl y ↦ rw y (none-more width [] (all id) old.xid (good.none id) (s.fresh id y))
    | inr n ↦ rw n (good.none id)
  ];
}

-- a question made the history longer by the entries of some receipts
abbrev Grown : {S : Type 0} → (S → List Entry) → AgainOf S → AgainOf S → Type 0
Grown history old new = (receipts : List Receipt) × (history new.gate ≡ onto receipts (history old.gate))

grown-same : {S : Type 0} (Answers : S → Asked Admitted → S → Type 0) (history : S → List Entry) → IsSole Answers history → (same : Bool) (act : Act) (old : AgainOf S) (lease : Lease) (seq : ℕ) (service : Service) (args : List ℕ) (answer : Result Admitted AdmitRefusal) (new : AgainOf S)
    → AdmitsSame Answers same act old lease seq service args answer new → Grown history old new
grown-same Answers history sole true act old lease seq service args answer new r = (of_call (Some (passed r.inner)), sole.grows old.gate (AskedAdmit lease seq service NONE args (passed r.inner)) new.gate r.passes.answers)
grown-same {S} Answers history sole false act old lease seq service args answer new r = ([], ap (λ (a : AgainOf S). history a.gate) r.1)

grown-by : {S : Type 0} (Answers : S → Asked Admitted → S → Type 0) (history : S → List Entry) → IsSole Answers history → (found : Option Act) (old : AgainOf S) (lease : Lease) (seq : ℕ) (service : Service) (procedure : ℕ) (args : List ℕ) (answer : Result Admitted AdmitRefusal) (new : AgainOf S)
    → AdmitsBy Answers found old lease seq service procedure args answer new → Grown history old new
grown-by Answers history sole None old lease seq service procedure args answer new p = (of_call (Some answer), sole.grows old.gate (AskedAdmit lease seq service procedure args answer) new.gate p.answers)
grown-by Answers history sole (Some act) old lease seq service procedure args answer new r = grown-same Answers history sole (is_told act procedure (sha1 args)) act old lease seq service args answer new r

grown-if : {S : Type 0} (Answers : S → Asked Admitted → S → Type 0) (history : S → List Entry) → IsSole Answers history → (none : Bool) (old : AgainOf S) (lease : Lease) (seq : ℕ) (service : Service) (procedure : ℕ) (args : List ℕ) (answer : Result Admitted AdmitRefusal) (new : AgainOf S)
    → Admits Answers none old lease seq service procedure args answer new → Grown history old new
grown-if Answers history sole true old lease seq service procedure args answer new p = (of_call (Some answer), sole.grows old.gate (AskedAdmit lease seq service procedure args answer) new.gate p.answers)
grown-if Answers history sole false old lease seq service procedure args answer new by = grown-by Answers history sole (act_of lease.id old.xid old.places) old lease seq service procedure args answer new by

grown : {S : Type 0} (Answers : S → Asked Admitted → S → Type 0) (history : S → List Entry) → IsSole Answers history → (old : AgainOf S) (one : Asked Admitted) (new : AgainOf S) → AgainAnswers Answers old one new → Grown history old new
grown Answers history sole old (AskedStep id token now draws answer) new p = (given_receipts answer.receipts, sole.grows old.gate (AskedStep id token now draws answer) new.gate p.answers)
grown Answers history sole old (AskedLook id now answer) new p = ([], sole.grows old.gate (AskedLook id now answer) new.gate p.answers)
grown Answers history sole old (AskedAdmit lease seq service procedure args answer) new by = grown-if Answers history sole (procedure == NONE) old lease seq service procedure args answer new by
grown Answers history sole old (AskedEnd lease seq answer) new p = (of_end (Some answer), sole.grows old.gate (AskedEnd lease seq answer) new.gate p.answers)

pub sound-one : {S : Type 0} (Answers : S → Asked Admitted → S → Type 0) (history : S → List Entry) → IsSole Answers history → (wide contexts : ℕ) (old : AgainOf S) (one : Asked Admitted) (new : AgainOf S) → AgainAnswers Answers old one new → Sound wide contexts (history new.gate) → Sound wide contexts (history old.gate)
sound-one Answers history sole wide contexts old one new h sound =
    let g = grown Answers history sole old one new h in
    sound-onto wide contexts g.0 (history old.gate) (subst (λ (l : List Entry). Sound wide contexts l) g.1 sound)

pub sound-all : {S : Type 0} (Answers : S → Asked Admitted → S → Type 0) (history : S → List Entry) → IsSole Answers history → (wide contexts : ℕ) (asked : List (Asked Admitted)) (old new : AgainOf S) → Asking (AgainAnswers Answers) old asked new → Sound wide contexts (history new.gate) → Sound wide contexts (history old.gate)
sound-all {S} Answers history sole wide contexts [] old new h sound = subst (λ (a : AgainOf S). Sound wide contexts (history a.gate)) h sound
sound-all Answers history sole wide contexts (one ∷ more) old new h sound =
    sound-one Answers history sole wide contexts old one h.0 h.1 (sound-all Answers history sole wide contexts more h.0 new h.2 sound)

good-all : {S : Type 0} (Answers : S → Asked Admitted → S → Type 0) (history : S → List Entry) → IsSole Answers history → (wide width contexts : ℕ) (asked : List (Asked Admitted)) (old new : AgainOf S) (all : ℕ → List ℕ) → Asking (AgainAnswers Answers) old asked new → Sound wide contexts (history new.gate)
    → Good width contexts history old all → Good width contexts history new (λ id. xids-in id old.xid asked (all id))
good-all {S} Answers history sole wide width contexts [] old new all h sound good = subst (λ (a : AgainOf S). Good width contexts history a all) (sym h) good
good-all {S} Answers history sole wide width contexts (one ∷ more) old new all h sound good =
    let middle = sound-all Answers history sole wide contexts more h.0 new h.2 sound in
    let s = step Answers history sole wide width contexts old one h.0 all h.1 middle good.inv in
    let g = good-step width contexts history old one h.0 all s good in
    subst (λ (x : ℕ). Good width contexts history new (λ id. xids-in id x more (one-xid id old.xid one (all id)))) s.xid
    (good-all Answers history sole wide width contexts more h.0 new (λ id. one-xid id old.xid one (all id)) h.2 sound g)

pub sound-turns : {S : Type 0} (Answers : S → Asked Admitted → S → Type 0) (history : S → List Entry) → IsSole Answers history → (wide contexts : ℕ) (turns : List Turned) (old new : AgainOf S) → Turning Answers old turns new → Sound wide contexts (history new.gate) → Sound wide contexts (history old.gate)
sound-turns {S} Answers history sole wide contexts [] old new h sound = subst (λ (a : AgainOf S). Sound wide contexts (history a.gate)) h sound
sound-turns Answers history sole wide contexts (turn ∷ turns) old new h sound =
    sound-all Answers history sole wide contexts turn.asked (with_xid turn.xid old) h.0 h.1 (sound-turns Answers history sole wide contexts turns h.0 new h.2 sound)

good-turns : {S : Type 0} (Answers : S → Asked Admitted → S → Type 0) (history : S → List Entry) → IsSole Answers history → (wide width contexts : ℕ) (turns : List Turned) (old new : AgainOf S) (all : ℕ → List ℕ) → Turning Answers old turns new → Sound wide contexts (history new.gate)
    → Good width contexts history old all → Good width contexts history new (λ id. xids-all id turns (all id))
good-turns {S} Answers history sole wide width contexts [] old new all h sound good = subst (λ (a : AgainOf S). Good width contexts history a all) (sym h) good
good-turns Answers history sole wide width contexts (turn ∷ turns) old new all h sound good =
    good-turns Answers history sole wide width contexts turns h.0 new (λ id. xids-in id turn.xid turn.asked (all id)) h.2 sound
    (good-all Answers history sole wide width contexts turn.asked (with_xid turn.xid old) h.0 all h.1 (sound-turns Answers history sole wide contexts turns h.0 new h.2 sound) (record { inv = good.inv; none = good.none }))

-- ---- from the opening on

free-count : (contexts width : ℕ) → count None (replicate contexts (no_place width)) ≡ contexts
free-count zero width = refl
free-count (suc n) width = omega (arith, free-count n width)

none-count : (contexts width id : ℕ) → count (Some id) (replicate contexts (no_place width)) ≡ 0
none-count zero width id = refl
none-count (suc n) width id = omega (arith, none-count n width id)

wide-all : (contexts width : ℕ) → AreWide width (replicate contexts (no_place width))
wide-all zero width = tt
wide-all (suc n) width = (refl, wide-all n width)

long-all : (contexts width : ℕ) → length (replicate contexts (no_place width)) ≡ contexts
long-all zero width = refl
long-all (suc n) width = ap suc (long-all n width)

good-opened : {S : Type 0} (history : S → List Entry) (contexts width most : ℕ) (gate : S) → history gate ≡ [] → Good width contexts history (opened_gate gate contexts width most) (λ id. [])
good-opened history contexts width most gate e = record {
  inv = inv-at width contexts [] (history gate) (replicate contexts (no_place width)) (replicate contexts (no_place width)) (λ id. []) e refl (record {
    each = λ id. (none-count contexts width id, refl);
    free = omega (arith, free-count contexts width);
    long = long-all contexts width;
    wide = wide-all contexts width;
  });
  none = λ id. tt;
}

-- no acting call of a context has a transaction number that stands among its last acting calls
pub acts-once : {S : Type 0} (Answers : S → Asked Admitted → S → Type 0) (history : S → List Entry) → IsSole Answers history → (wide width contexts most : ℕ) (gate : S) (turns : List Turned) (new : AgainOf S)
    → history gate ≡ [] → Turning Answers (opened_gate gate contexts width most) turns new → Legal wide (history new.gate) → Within contexts (history new.gate)
    → (id : ℕ) → NoneAgain width [] (xids_of (acting id turns))
acts-once Answers history sole wide width contexts most gate turns new e h legal within id =
    subst (λ (l : List ℕ). NoneAgain width [] l) (xids-is id turns)
    ((good-turns Answers history sole wide width contexts turns (opened_gate gate contexts width most) new (λ other. []) h (legal, within) (good-opened history contexts width most gate e)).none id)
