-- The numbers of a context's acting calls, by the windows of a legal log.
use Rattle.std.proofs.Common.{◌≡◌, ◌≢◌, ℕ, ◌+◌, ◌<◌, ◌≤◌, ◌==◌, ◌&&◌, not, Bool, true, false, List, [], ◌∷◌, ◌++◌, flat_map, Option, None, Some, Result, Ok, Err, ap, sym, ◌∙◌, arith, refl, inl, inr, subst, append-nil, append_assoc}
use Rattle.std.specs.List.{AllByRecursion}
use Rattle.std.proofs.lemmas.Bool.{cases_eq, cases_Bool, eq-eqb, ne_eqb, eqb-true, true≢false, or_right}
use Rattle.seq_window.specs.Marks.{is_in, greatest}
use Rattle.accept_core.specs.declared.answer.AdmitRefusal.{AdmitRefusal}
use Rattle.accept_core.specs.declared.entry.Entry.{Entry}
use Rattle.accept_core.specs.declared.entry.Entry.TheVariants.{Opened, Auth, Went, Settled, Call, Ended}
use Rattle.accept_core.specs.declared.entry.Receipt.{Receipt}
use Rattle.accept_core.specs.Entering.{given as given_receipts}
use Rattle.accept_core.specs.History.{numbers}
use Rattle.accept_core.specs.Legal.{Legal, MayCall}
use Rattle.accept_book.specs.declared.book_answer.Lease.{Lease}
use Rattle.accept_book.specs.declared.book_answer.Admitted.{Admitted}
use Rattle.rpcsec_bodies.specs.declared.service.Service.{Service}
use Rattle.rpc_program.specs.Programs.{NONE}
use Rattle.sha1.specs.Sha1.{sha1}
use Rattle.accept_book.specs.RecordShown.{Asked, AskedStep, AskedLook, AskedAdmit, AskedEnd}
use Rattle.gss_server.specs.Asking.{Asking}
use Rattle.gss_server.specs.Receipts.{of_call, of_end}
use Rattle.gss_server.specs.Programs.{passed}
use Rattle.rpc_program.specs.declared.outcome.Outcome.{Outcome}
use Rattle.again_calls.specs.declared.place.Act.{Act}
use Rattle.again_calls.specs.Kept.{act_of}
use Rattle.again_gate.specs.Again.{AgainOf, AgainAnswers, with_xid, AdmitsSame, AdmitsBy, Admits, is_told, told_with}
use Rattle.again_gate.specs.Turns.{Turned, Turning}
use Rattle.again_laws.specs.Acting.{Acted, acted, acted_by, acting, is_acting}
use Rattle.again_laws.specs.Sole.{onto, IsCall, IsSole}
use Rattle.again_laws.proofs.Acts.{Sound}
use Rattle.again_laws.proofs.Apart.{Windowed}
use Rattle.again_laws.proofs.Steps.{sound-all, sound-turns}

-- ---- numbers of a history

-- an entry more
in-more : (id n : ℕ) (entry : Entry) (h : List Entry) → is_in n (numbers id h) ≡ true → is_in n (numbers id (entry ∷ h)) ≡ true
in-more id n (Opened i at) h e = e
in-more id n (Auth i mark at) h e = e
in-more id n (Went i at) h e = e
in-more id n (Settled i mech names ends at) h e = e
in-more id n (Call i seq procedure args) h e = elim (cases_Bool (i == id)) [ inl y ↦ rw y (or_right (n == seq) (is_in n (numbers id h)) e) | inr o ↦ rw o e ]
in-more id n (Ended i cause) h e = e

in-onto : (id n : ℕ) (receipts : List Receipt) (h : List Entry) → is_in n (numbers id h) ≡ true → is_in n (numbers id (onto receipts h)) ≡ true
in-onto id n [] h e = e
in-onto id n (receipt ∷ receipts) h e = in-onto id n receipts (receipt.entry ∷ h) (in-more id n receipt.entry h e)

up-to : (n : ℕ) (ns : List ℕ) → is_in n ns ≡ true → n ≤ greatest ns
up-to n [] e = absurd (true≢false (sym e))
up-to n (m ∷ ns) e =
    elim (cases_eq n m) [
      | inl same ↦ omega (arith, same)
      | inr ne ↦ omega (arith, up-to n ns (rw (ne_eqb n m ne) at e))
    ]

-- ---- what is kept of the calls

all-map : {A : Type 0} (Q R : A → Type 0) → ((a : A) → Q a → R a) → (xs : List A) → AllByRecursion Q xs → AllByRecursion R xs
all-map Q R f [] all = tt
all-map Q R f (x ∷ xs) all = (f x all.0, all-map Q R f xs all.1)

all-push : {A : Type 0} (Q : A → Type 0) (xs : List A) (x : A) → AllByRecursion Q xs → Q x → AllByRecursion Q (xs ++ x ∷ [])
all-push Q [] x all p = (p, tt)
all-push Q (y ∷ xs) x all p = (all.0, all-push Q xs x all.1 p)

windowed-push : (wide : ℕ) (calls : List Acted) (one : Acted) → Windowed wide calls → AllByRecursion (λ (call : Acted). (one.number ≢ call.number) × (call.number < one.number + wide)) calls → Windowed wide (calls ++ one ∷ [])
windowed-push wide [] one w all = (tt, tt)
windowed-push wide (call ∷ calls) one w all = (all-push (λ (x : Acted). (x.number ≢ call.number) × (call.number < x.number + wide)) calls one w.0 all.0, windowed-push wide calls one w.1 all.1)

-- the numbers of a context's acting calls stand in the history, and lie in its windows
pub record Numbered (wide id : ℕ) (h : List Entry) (calls : List Acted) : Type 0 where
  pub named : AllByRecursion (λ (call : Acted). is_in call.number (numbers id h) ≡ true) calls
  pub windowed : Windowed wide calls

none-more : (wide id : ℕ) (receipts : List Receipt) (h h' : List Entry) (calls : List Acted) → h' ≡ onto receipts h → Numbered wide id h calls → Numbered wide id h' (calls ++ [])
none-more wide id receipts h h' calls e n =
    subst (λ (l : List Acted). Numbered wide id h' l) (sym (append-nil calls))
    (subst (λ (x : List Entry). Numbered wide id x calls) (sym e) (record {
      named = all-map (λ (call : Acted). is_in call.number (numbers id h) ≡ true) (λ (call : Acted). is_in call.number (numbers id (onto receipts h)) ≡ true) (λ call i. in-onto id call.number receipts h i) calls n.named;
      windowed = n.windowed;
    }))

call-more : (wide id xid seq : ℕ) (outcome : Outcome) (procedure : ℕ) (args : List ℕ) (h : List Entry) (calls : List Acted) → MayCall wide h id seq → Numbered wide id h calls
    → Numbered wide id (Call id seq procedure args ∷ h) (calls ++ (record { xid = xid; number = seq; outcome = outcome }) ∷ [])
call-more wide id xid seq outcome procedure args h calls may n =
    let one : Acted = record { xid = xid; number = seq; outcome = outcome } in
    let newest : is_in seq (numbers id (Call id seq procedure args ∷ h)) ≡ true = rw (eq-eqb id id refl, eq-eqb seq seq refl) refl in record {
      named = all-push (λ (call : Acted). is_in call.number (numbers id (Call id seq procedure args ∷ h)) ≡ true) calls one
          (all-map (λ (call : Acted). is_in call.number (numbers id h) ≡ true) (λ (call : Acted). is_in call.number (numbers id (Call id seq procedure args ∷ h)) ≡ true) (λ call i. in-more id call.number (Call id seq procedure args) h i) calls n.named) newest;
      windowed = windowed-push wide calls one n.windowed
          (all-map (λ (call : Acted). is_in call.number (numbers id h) ≡ true) (λ (call : Acted). (seq ≢ call.number) × (call.number < seq + wide))
          (λ call i. (λ same. true≢false (sym (subst (λ (k : ℕ). is_in k (numbers id h) ≡ true) (sym same) i) ∙ may.new), omega (arith, up-to call.number (numbers id h) i, may.above))) calls n.named);
    }

-- ---- one question

-- a call is acting only of its own context
own-id : (id i procedure : ℕ) → (i == id && not (procedure == NONE)) ≡ true → i ≡ id
own-id id i procedure e = elim (cases_Bool (i == id)) [ inl y ↦ eqb-true i id y | inr n ↦ absurd (true≢false (sym (rw n at e))) ]

no-again : (id i : ℕ) → (i == id && not (NONE == NONE)) ≡ false
no-again id i = elim (cases_Bool (i == id)) [ inl y ↦ rw y refl | inr n ↦ rw n refl ]

module _ {S : Type 0} (Answers : S → Asked Admitted → S → Type 0) (history : S → List Entry) (sole : IsSole Answers history) (wide id : ℕ) where
  admitted : (old : AgainOf S) (lease : Lease) (seq : ℕ) (service : Service) (procedure : ℕ) (args : List ℕ) (answer : Result Admitted AdmitRefusal) (new : AgainOf S) (calls : List Acted) → Answers old.gate (AskedAdmit lease seq service procedure args answer) new.gate → Legal wide (history new.gate)
      → Numbered wide id (history old.gate) calls → Numbered wide id (history new.gate) (calls ++ acted_by id old.xid seq answer)
  admitted old lease seq service procedure args (Ok a) new calls h legal n =
      let one : Asked Admitted = AskedAdmit lease seq service procedure args (Ok a) in
      let entry : a.receipt.entry ≡ Call lease.id seq procedure (sha1 args) = sole.own old.gate one new.gate h in
      let grows : history new.gate ≡ a.receipt.entry ∷ history old.gate = sole.grows old.gate one new.gate h in
      let grown : history new.gate ≡ Call lease.id seq procedure (sha1 args) ∷ history old.gate = grows ∙ ap (λ (e : Entry). e ∷ history old.gate) entry in
      elim (cases_Bool (is_acting id a.receipt.entry)) [
        | inl y ↦
            let same : lease.id ≡ id = own-id id lease.id procedure (subst (λ (e : Entry). is_acting id e ≡ true) entry y) in
            let legal' : Legal wide (Call lease.id seq procedure (sha1 args) ∷ history old.gate) = subst (λ (x : List Entry). Legal wide x) grown legal in
            let may : MayCall wide (history old.gate) id seq = subst (λ (k : ℕ). MayCall wide (history old.gate) k seq) same legal'.0 in
            rw y (subst (λ (x : List Entry). Numbered wide id x (calls ++ (record { xid = old.xid; number = seq; outcome = a.outcome }) ∷ []))
            (sym (grown ∙ ap (λ (k : ℕ). Call k seq procedure (sha1 args) ∷ history old.gate) same)) (call-more wide id old.xid seq a.outcome procedure (sha1 args) (history old.gate) calls may n))
        | inr o ↦ rw o (none-more wide id (a.receipt ∷ []) (history old.gate) (history new.gate) calls grows n)
      ]
  admitted old lease seq service procedure args (Err refusal) new calls h legal n =
      none-more wide id [] (history old.gate) (history new.gate) calls (sole.grows old.gate (AskedAdmit lease seq service procedure args (Err refusal)) new.gate h) n

  -- a call that is sent again acts no more
  quiet : (xid seq : ℕ) (outcome : Outcome) (lease : Lease) (args : List ℕ) (inner : Result Receipt AdmitRefusal) → IsCall lease seq NONE args (passed inner) → acted_by id xid seq (told_with outcome inner) ≡ []
  quiet xid seq outcome lease args (Ok receipt) is =
      let off : is_acting id receipt.entry ≡ false = ap (is_acting id) is ∙ no-again id lease.id in rw off refl
  quiet xid seq outcome lease args (Err refusal) is = refl

  repeated : (same : Bool) (old : AgainOf S) (act : Act) (lease : Lease) (seq : ℕ) (service : Service) (args : List ℕ) (answer : Result Admitted AdmitRefusal) (new : AgainOf S) (calls : List Acted) → AdmitsSame Answers same act old lease seq service args answer new
      → Numbered wide id (history old.gate) calls → Numbered wide id (history new.gate) (calls ++ acted_by id old.xid seq answer)
  repeated true old act lease seq service args answer new calls r n =
      let one : Asked Admitted = AskedAdmit lease seq service NONE args (passed r.inner) in
      let none : acted_by id old.xid seq answer ≡ [] = ap (acted_by id old.xid seq) r.is ∙ quiet old.xid seq r.outcome lease args r.inner (sole.own old.gate one new.gate r.passes.answers) in
      subst (λ (l : List Acted). Numbered wide id (history new.gate) (calls ++ l)) (sym none)
      (none-more wide id (of_call (Some (passed r.inner))) (history old.gate) (history new.gate) calls (sole.grows old.gate one new.gate r.passes.answers) n)
  repeated false old act lease seq service args answer new calls r n =
      subst (λ (l : List Acted). Numbered wide id (history new.gate) (calls ++ l)) (sym (ap (acted_by id old.xid seq) r.0))
      (none-more wide id [] (history old.gate) (history new.gate) calls (ap (λ (a : AgainOf S). history a.gate) r.1) n)

  admits : (found : Option Act) (old : AgainOf S) (lease : Lease) (seq : ℕ) (service : Service) (procedure : ℕ) (args : List ℕ) (answer : Result Admitted AdmitRefusal) (new : AgainOf S) (calls : List Acted) → AdmitsBy Answers found old lease seq service procedure args answer new → Legal wide (history new.gate)
      → Numbered wide id (history old.gate) calls → Numbered wide id (history new.gate) (calls ++ acted_by id old.xid seq answer)
  admits None old lease seq service procedure args answer new calls p legal n = admitted old lease seq service procedure args answer new calls p.answers legal n
  admits (Some act) old lease seq service procedure args answer new calls r legal n = repeated (is_told act procedure (sha1 args)) old act lease seq service args answer new calls r n

  admits-if : (none : Bool) (old : AgainOf S) (lease : Lease) (seq : ℕ) (service : Service) (procedure : ℕ) (args : List ℕ) (answer : Result Admitted AdmitRefusal) (new : AgainOf S) (calls : List Acted) → Admits Answers none old lease seq service procedure args answer new → Legal wide (history new.gate)
      → Numbered wide id (history old.gate) calls → Numbered wide id (history new.gate) (calls ++ acted_by id old.xid seq answer)
  admits-if true old lease seq service procedure args answer new calls p legal n = admitted old lease seq service procedure args answer new calls p.answers legal n
  admits-if false old lease seq service procedure args answer new calls by legal n = admits (act_of lease.id old.xid old.places) old lease seq service procedure args answer new calls by legal n

  one-more : (old : AgainOf S) (one : Asked Admitted) (new : AgainOf S) (calls : List Acted) → AgainAnswers Answers old one new → Legal wide (history new.gate)
      → Numbered wide id (history old.gate) calls → Numbered wide id (history new.gate) (calls ++ acted id old.xid one)
  one-more old (AskedStep own token now draws answer) new calls p legal n =
      none-more wide id (given_receipts answer.receipts) (history old.gate) (history new.gate) calls (sole.grows old.gate (AskedStep own token now draws answer) new.gate p.answers) n
  one-more old (AskedLook own now answer) new calls p legal n =
      none-more wide id [] (history old.gate) (history new.gate) calls (sole.grows old.gate (AskedLook own now answer) new.gate p.answers) n
  one-more old (AskedAdmit lease seq service procedure args answer) new calls by legal n =
      admits-if (procedure == NONE) old lease seq service procedure args answer new calls by legal n
  one-more old (AskedEnd lease seq answer) new calls p legal n =
      none-more wide id (of_end (Some answer)) (history old.gate) (history new.gate) calls (sole.grows old.gate (AskedEnd lease seq answer) new.gate p.answers) n

  -- ---- in a row

  -- no question names another transaction number
  same-xid : (old : AgainOf S) (one : Asked Admitted) (new : AgainOf S) → AgainAnswers Answers old one new → new.xid ≡ old.xid
  same-xid old (AskedStep own token now draws answer) new p = p.xid
  same-xid old (AskedLook own now answer) new p = p.xid
  same-xid old (AskedAdmit lease seq service procedure args answer) new by = by-if (procedure == NONE) by
    where
      by-same : (same : Bool) (act : Act) → AdmitsSame Answers same act old lease seq service args answer new → new.xid ≡ old.xid
      by-same true act r = r.passes.xid
      by-same false act r = ap (λ (a : AgainOf S). a.xid) r.1

      by-found : (found : Option Act) → AdmitsBy Answers found old lease seq service procedure args answer new → new.xid ≡ old.xid
      by-found None p = p.xid
      by-found (Some act) r = by-same (is_told act procedure (sha1 args)) act r

      by-if : (none : Bool) → Admits Answers none old lease seq service procedure args answer new → new.xid ≡ old.xid
      by-if true p = p.xid
      by-if false r = by-found (act_of lease.id old.xid old.places) r
  same-xid old (AskedEnd lease seq answer) new p = p.xid

  in-a-row : (contexts : ℕ) (asked : List (Asked Admitted)) (old new : AgainOf S) (calls : List Acted) → Asking (AgainAnswers Answers) old asked new → Sound wide contexts (history new.gate)
      → Numbered wide id (history old.gate) calls → Numbered wide id (history new.gate) (calls ++ flat_map (acted id old.xid) asked)
  in-a-row contexts [] old new calls h sound n =
      none-more wide id [] (history old.gate) (history new.gate) calls (ap (λ (a : AgainOf S). history a.gate) h) n
  in-a-row contexts (one ∷ more) old new calls h sound n =
      let middle = sound-all Answers history sole wide contexts more h.0 new h.2 sound in
      let first = one-more old one h.0 calls h.1 middle.0 n in
      let rest = in-a-row contexts more h.0 new (calls ++ acted id old.xid one) h.2 sound first in
      subst (λ (l : List Acted). Numbered wide id (history new.gate) l)
      (ap (λ (x : ℕ). (calls ++ acted id old.xid one) ++ flat_map (acted id x) more) (same-xid old one h.0 h.1) ∙ append_assoc calls (acted id old.xid one) (flat_map (acted id old.xid) more)) rest

  pub all-numbered : (contexts : ℕ) (turns : List Turned) (old new : AgainOf S) (calls : List Acted) → Turning Answers old turns new → Sound wide contexts (history new.gate)
      → Numbered wide id (history old.gate) calls → Numbered wide id (history new.gate) (calls ++ acting id turns)
  all-numbered contexts [] old new calls h sound n =
      none-more wide id [] (history old.gate) (history new.gate) calls (ap (λ (a : AgainOf S). history a.gate) h) n
  all-numbered contexts (turn ∷ turns) old new calls h sound n =
      let first = in-a-row contexts turn.asked (with_xid turn.xid old) h.0 calls h.1 (sound-turns Answers history sole wide contexts turns h.0 new h.2 sound) n in
      subst (λ (l : List Acted). Numbered wide id (history new.gate) l) (append_assoc calls (flat_map (acted id turn.xid) turn.asked) (acting id turns))
      (all-numbered contexts turns h.0 new (calls ++ flat_map (acted id turn.xid) turn.asked) h.2 sound first)
