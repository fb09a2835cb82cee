-- What is kept of a context has the outcomes of its acting calls.
use Rattle.std.proofs.Common.{◌≡◌, ℕ, zero, suc, ◌-◌, Bool, true, false, ◌==◌, List, [], ◌∷◌, ◌++◌, length, drop, replicate, Option, None, Some, Result, Ok, Err, ap, sym, ◌∙◌, refl, inl, inr, subst}
use Rattle.std.specs.List.{AllByRecursion}
use Rattle.std.proofs.lemmas.Bool.{cases_eq, cases_Bool, eq-eqb, ne_eqb, eqb-true}
use Rattle.again_calls.specs.declared.outcome.KeptOutcome.{KeptOutcome}
use Rattle.again_calls.specs.declared.outcome.KeptOutcome.TheVariants as kepts
use Rattle.again_calls.specs.Outcomes.{KeepsResult, IsKept, IsResult, IsAgain}
use Rattle.rpc_program.specs.declared.outcome.Outcome.{Outcome}
use Rattle.rpc_program.specs.declared.outcome.Outcome.TheVariants as outcomes
use Rattle.again_calls.specs.declared.place.Act.{Act}
use Rattle.again_calls.specs.Kept.{PlaceOf, no_place, newest, same_id, given_to, added_to, acts_of, act_with, act_of}
use Rattle.accept_core.specs.declared.answer.AdmitRefusal.{AdmitRefusal}
use Rattle.accept_core.specs.declared.entry.Entry.{Entry}
use Rattle.accept_core.specs.declared.entry.Entry.TheVariants.{Opened, Auth, Went, Settled, Call, Ended}
use Rattle.accept_book.specs.declared.book_answer.Lease.{Lease}
use Rattle.accept_core.specs.declared.entry.Receipt.{Receipt}
use Rattle.accept_core.specs.Entering.{given as given_receipts}
use Rattle.accept_book.specs.declared.book_answer.Admitted.{Admitted}
use Rattle.rpcsec_bodies.specs.declared.service.Service.{Service}
use Rattle.rpc_program.specs.Programs.{NONE}
use Rattle.sha1.specs.Sha1.{sha1}
use Rattle.accept_book.specs.RecordShown.{Asked, AskedStep, AskedLook, AskedAdmit, AskedEnd}
use Rattle.gss_server.specs.Asking.{Asking}
use Rattle.again_gate.specs.Again.{AgainOf, with_xid, AgainAnswers, placed, placed_all, AdmitsSame, AdmitsBy, Admits, Acts as ActsNew, is_told, told_with, act_as, ended_after, opened_gate}
use Rattle.again_gate.specs.Turns.{Turned, Turning}
use Rattle.again_laws.specs.Acting.{Acted, IsAsBefore, SuchAmong, IsAmong, HasOutcome, IsAnswered, AllAnswered, acting, is_acting}
use Rattle.again_laws.specs.Sole.{IsSole}
use Rattle.again_laws.proofs.Rows.{was_acting, acts, outcome_in, number_in, one-act, acts-in, acts-all, acting-is}
use Rattle.again_laws.proofs.Places.{same-is}

-- a kept outcome is that of a call, of a result so many octets at most
abbrev CameOf : KeptOutcome → Outcome → Type 0
CameOf kept first = (most : ℕ) × IsKept most first kept

-- the kept calls are acting calls with their outcomes
abbrev AreMade : List Acted → List Act → Type 0
AreMade calls kept = AllByRecursion (λ (act : Act). SuchAmong (CameOf act.outcome) act.xid calls) kept

abbrev IsMade : (ℕ → List Acted) → Option ℕ → List Act → Type 0
IsMade all None kept = Unit {0}
IsMade all (Some id) kept = AreMade (all id) kept

abbrev pub AllMade : (ℕ → List Acted) → List PlaceOf → Type 0
AllMade all ps = AllByRecursion (λ (p : PlaceOf). IsMade all p.id p.acts) ps

no-acts : (all : ℕ → List Acted) (id : Option ℕ) → IsMade all id []
no-acts all None = tt
no-acts all (Some id) = tt

among-more : (Q : Outcome → Type 0) (xid : ℕ) (calls : List Acted) (one : Acted) → SuchAmong Q xid calls → SuchAmong Q xid (calls ++ one ∷ [])
among-more Q xid [] one i = absurd i
among-more Q xid (c ∷ calls) one (inl h) = inl h
among-more Q xid (c ∷ calls) one (inr h) = inr (among-more Q xid calls one h)

among-last : (Q : Outcome → Type 0) (calls : List Acted) (one : Acted) → Q one.outcome → SuchAmong Q one.xid (calls ++ one ∷ [])
among-last Q [] one q = inl (refl, q)
among-last Q (c ∷ calls) one q = inr (among-last Q calls one q)

among-map : (Q R : Outcome → Type 0) → ((o : Outcome) → Q o → R o) → (xid : ℕ) (calls : List Acted) → SuchAmong Q xid calls → SuchAmong R xid calls
among-map Q R f xid [] i = absurd i
among-map Q R f xid (c ∷ calls) (inl h) = inl (h.0, f c.outcome h.1)
among-map Q R f xid (c ∷ calls) (inr h) = inr (among-map Q R f xid calls h)

-- ---- what is told again

result-again : (octets result : List ℕ) (outcome : Outcome) → result ≡ octets → IsResult result outcome → IsAsBefore (outcomes.Done octets) outcome
result-again octets result outcomes.Args e is = absurd is
result-again octets result (outcomes.Done told) e is = inl (ap outcomes.Done (is ∙ e))
result-again octets result (outcomes.Refused why) e is = absurd is
result-again octets result (outcomes.Mismatch low high) e is = absurd is
result-again octets result outcomes.Gone e is = absurd is
result-again octets result outcomes.NoMemory e is = inr refl

again-done : (most : ℕ) (octets : List ℕ) (kept : KeptOutcome) (outcome : Outcome) → KeepsResult most octets kept → IsAgain kept (Some outcome) → IsAsBefore (outcomes.Done octets) outcome
again-done most octets kepts.Args outcome k is = absurd k
again-done most octets (kepts.Done kept) outcome k is = result-again octets kept.octets outcome k.0 is
again-done most octets (kepts.Refused why) outcome k is = absurd k
again-done most octets (kepts.Mismatch low high) outcome k is = absurd k
again-done most octets kepts.Gone outcome k is = absurd k
again-done most octets kepts.NoMemory outcome k is = inr cc
again-done most octets kepts.Long outcome k is = absurd cc

some-same : (a b : Outcome) → Some a ≡ Some b → a ≡ b
some-same a b e = cc

told-as : (kept told : KeptOutcome) (outcome : Outcome) → kept ≡ told → IsAgain kept (Some outcome) → IsAgain told (Some outcome)
told-as kept told outcome e is = subst (λ (k : KeptOutcome). IsAgain k (Some outcome)) e is

again-told : (most : ℕ) (first : Outcome) (kept : KeptOutcome) (outcome : Outcome) → IsKept most first kept → IsAgain kept (Some outcome) → IsAsBefore first outcome
again-told most outcomes.Args kept outcome k is = inl (some-same outcome outcomes.Args (told-as kept kepts.Args outcome k is))
again-told most (outcomes.Done octets) kept outcome k is = again-done most octets kept outcome k is
again-told most (outcomes.Refused why) kept outcome k is = inl (some-same outcome (outcomes.Refused why) (told-as kept (kepts.Refused why) outcome k is))
again-told most (outcomes.Mismatch low high) kept outcome k is = inl (some-same outcome (outcomes.Mismatch low high) (told-as kept (kepts.Mismatch low high) outcome k is))
again-told most outcomes.Gone kept outcome k is = inl (some-same outcome outcomes.Gone (told-as kept kepts.Gone outcome k is))
again-told most outcomes.NoMemory kept outcome k is = inl (some-same outcome outcomes.NoMemory (told-as kept kepts.NoMemory outcome k is))

-- ---- the kept calls

drop-made : (calls : List Acted) (n : ℕ) (kept : List Act) → AreMade calls kept → AreMade calls (drop n kept)
drop-made calls zero kept m = m
drop-made calls (suc n) [] m = tt
drop-made calls (suc n) (act ∷ kept) m = drop-made calls n kept m.1

push-made : (calls : List Acted) (kept : List Act) (act : Act) → AreMade calls kept → SuchAmong (CameOf act.outcome) act.xid calls → AreMade calls (kept ++ act ∷ [])
push-made calls [] act m i = (i, tt)
push-made calls (k ∷ kept) act m i = (m.0, push-made calls kept act m.1 i)

-- a place that is given has no calls
given-made : (all : ℕ → List Acted) (from to : Option ℕ) (ps : List PlaceOf) → AllMade all ps → AllMade all (given_to from to ps)
given-made all from to [] m = tt
given-made all from to (p ∷ ps) m = elim (cases_Bool (same_id p.id from)) [ inl y ↦ rw y (no-acts all to, m.1) | inr n ↦ rw n (m.0, given-made all from to ps m.1) ]

placed-made : (all : ℕ → List Acted) (entry : Entry) (ps : List PlaceOf) → AllMade all ps → AllMade all (placed entry ps)
placed-made all (Opened id at) ps m = given-made all None (Some id) ps m
placed-made all (Auth id mark at) ps m = m
placed-made all (Went id at) ps m = m
placed-made all (Settled id mech names ends at) ps m = m
placed-made all (Call id seq procedure args) ps m = m
placed-made all (Ended id cause) ps m = given-made all (Some id) None ps m

all-placed : (all : ℕ → List Acted) (receipts : List Receipt) (ps : List PlaceOf) → AllMade all ps → AllMade all (placed_all receipts ps)
all-placed all [] ps m = m
all-placed all (receipt ∷ receipts) ps m = all-placed all receipts (placed receipt.entry ps) (placed-made all receipt.entry ps m)

ended-made : (all : ℕ → List Acted) (id : ℕ) (answer : Result Receipt AdmitRefusal) (ps : List PlaceOf) → AllMade all ps → AllMade all (ended_after id answer ps)
ended-made all id (Ok receipt) ps m = given-made all (Some id) None ps m
ended-made all id (Err refusal) ps m = m

-- more acting calls
abbrev More : List Acted → List Acted → Type 1
More calls calls' = (Q : Outcome → Type 0) (xid : ℕ) → SuchAmong Q xid calls → SuchAmong Q xid calls'

grows-kept : (calls calls' : List Acted) → More calls calls' → (kept : List Act) → AreMade calls kept → AreMade calls' kept
grows-kept calls calls' f [] m = tt
grows-kept calls calls' f (act ∷ kept) m = (f (CameOf act.outcome) act.xid m.0, grows-kept calls calls' f kept m.1)

grows-place : (all all' : ℕ → List Acted) → ((id : ℕ) → More (all id) (all' id)) → (id : Option ℕ) (kept : List Act) → IsMade all id kept → IsMade all' id kept
grows-place all all' f None kept m = tt
grows-place all all' f (Some id) kept m = grows-kept (all id) (all' id) (f id) kept m

grows-all : (all all' : ℕ → List Acted) → ((id : ℕ) → More (all id) (all' id)) → (ps : List PlaceOf) → AllMade all ps → AllMade all' ps
grows-all all all' f [] m = tt
grows-all all all' f (p ∷ ps) m = (grows-place all all' f p.id p.acts m.0, grows-all all all' f ps m.1)

more-made : (id xid : ℕ) (one : Asked Admitted) (before : List Acted) → More before (one-act id xid one before)
more-made id xid one before Q x i =
    elim (cases_Bool (acts id one)) [ inl y ↦ rw y (among-more Q x before (record { xid = xid; number = number_in one; outcome = outcome_in one }) i) | inr n ↦ rw n i ]

-- a call that is kept
added-made : (all : ℕ → List Acted) (id : ℕ) (act : Act) (ps : List PlaceOf) → AllMade all ps → SuchAmong (CameOf act.outcome) act.xid (all id) → AllMade all (added_to id act ps)
added-made all id act [] m i = tt
added-made all id act (p ∷ ps) m i =
    elim (cases_Bool (same_id p.id (Some id))) [
      | inl y ↦
          let e : p.id ≡ Some id = same-is p.id (Some id) y in
          let own : AreMade (all id) p.acts = subst (λ (o : Option ℕ). IsMade all o p.acts) e m.0 in
          rw y (subst (λ (o : Option ℕ). IsMade all o (newest p.width (p.acts ++ act ∷ []))) (sym e) (drop-made (all id) (length (p.acts ++ act ∷ []) - p.width) (p.acts ++ act ∷ []) (push-made (all id) p.acts act own i)), m.1)
      | inr n ↦ rw n (m.0, added-made all id act ps m.1 i)
    ]

-- what is found is kept
kept-made : (all : ℕ → List Acted) (id : ℕ) (ps : List PlaceOf) → AllMade all ps → AreMade (all id) (acts_of id ps)
kept-made all id [] m = tt
kept-made all id (p ∷ ps) m =
    elim (cases_Bool (same_id p.id (Some id))) [
      | inl y ↦ rw y (subst (λ (o : Option ℕ). IsMade all o p.acts) (same-is p.id (Some id) y) m.0)
      | inr n ↦ rw n (kept-made all id ps m.1)
    ]

found-made : (calls : List Acted) (xid : ℕ) (kept : List Act) (act : Act) → AreMade calls kept → act_with xid kept ≡ Some act → SuchAmong (CameOf act.outcome) xid calls
found-made calls xid [] act m e = cc
found-made calls xid (k ∷ kept) act m e =
    elim (cases_eq k.xid xid) [
      | inl same ↦
          let f : Some k ≡ Some act = rw (eq-eqb k.xid xid same) at e in
          let g : k ≡ act = cc in
          subst (λ (a : Act). SuchAmong (CameOf a.outcome) xid calls) g (subst (λ (x : ℕ). SuchAmong (CameOf k.outcome) x calls) same m.0)
      | inr ne ↦ found-made calls xid kept act m.1 (rw (ne_eqb k.xid xid ne) at e)
    ]

-- ---- one question

-- an admission that was answered Ok has the posts of an acting call so far
abbrev AnsweredSo : ℕ → ℕ → Asked Admitted → List Acted → Type 0
AnsweredSo id xid one calls = IsAnswered id xid calls one

abbrev AreAnswered : ℕ → ℕ → List (Asked Admitted) → List Acted → Type 0
AreAnswered id xid [] before = Unit {0}
AreAnswered id xid (one ∷ more) before = AnsweredSo id xid one (one-act id xid one before) × AreAnswered id xid more (one-act id xid one before)

abbrev AllSo : ℕ → List Turned → List Acted → Type 0
AllSo id [] before = Unit {0}
AllSo id (turn ∷ turns) before = AreAnswered id turn.xid turn.asked before × AllSo id turns (acts-in id turn.xid turn.asked before)

pub record Told {S : Type 0} (old : AgainOf S) (one : Asked Admitted) (new : AgainOf S) (all : ℕ → List Acted) : Type 0 where
  pub keeps : AllMade (λ id. one-act id old.xid one (all id)) new.places
  pub answered : (id : ℕ) → AnsweredSo id old.xid one (one-act id old.xid one (all id))
  pub xid : new.xid ≡ old.xid

same-places : (all : ℕ → List Acted) (ps ps' : List PlaceOf) → ps' ≡ ps → AllMade all ps → AllMade all ps'
same-places all ps ps' e m = subst (λ (q : List PlaceOf). AllMade all q) (sym e) m

acting-own : (id : ℕ) (lease : Lease) (seq procedure : ℕ) (args : List ℕ) (a : Admitted) → a.receipt.entry ≡ Call lease.id seq procedure (sha1 args) → lease.id ≡ id → (procedure == NONE) ≡ false → was_acting id (Ok a) ≡ true
acting-own id lease seq procedure args a entry own n = ap (is_acting id) entry ∙ rw (eq-eqb lease.id id own, n) refl

told-new : {S : Type 0} (Answers : S → Asked Admitted → S → Type 0) (history : S → List Entry) → IsSole Answers history → (old : AgainOf S) (lease : Lease) (seq : ℕ) (service : Service) (procedure : ℕ) (args : List ℕ) (answer : Result Admitted AdmitRefusal) (new : AgainOf S) (all : ℕ → List Acted)
    → (procedure == NONE) ≡ false → ActsNew Answers old lease seq service procedure args answer new → AllMade all old.places → Told old (AskedAdmit lease seq service procedure args answer) new all
told-new {S} Answers history sole old lease seq service procedure args (Ok a) new all acts_ p m =
    let one : Asked Admitted = AskedAdmit lease seq service procedure args (Ok a) in
    let entry = sole.own old.gate one new.gate p.answers in
    let all' : ℕ → List Acted = λ id. one-act id old.xid one (all id) in
    let m' : AllMade all' old.places = grows-all all all' (λ id. more-made id old.xid one (all id)) old.places m in
    let act : Act = act_as old.xid procedure (sha1 args) p.keeps.outcome in
    let call : Acted = record { xid = old.xid; number = seq; outcome = a.outcome } in
    let last : (Q : Outcome → Type 0) (id : ℕ) → lease.id ≡ id → Q a.outcome → SuchAmong Q old.xid (all' id) = λ Q id own q. rw (acting-own id lease seq procedure args a entry own acts_) (among-last Q (all id) call q) in
    record {
      keeps = same-places all' (added_to lease.id act old.places) new.places p.keeps.added (added-made all' lease.id act old.places m' (last (CameOf p.keeps.outcome) lease.id refl (old.most, p.keeps.kept)));
      answered = λ id own ne. last (λ first. IsAsBefore first a.outcome) id own (inl refl);
      xid = p.xid;
    }
told-new {S} Answers history sole old lease seq service procedure args (Err refusal) new all acts_ p m = record {
  keeps = same-places all old.places new.places p.keeps m;
  answered = λ id own ne. tt;
  xid = p.xid;
}

told-repeat : {S : Type 0} (old : AgainOf S) (act : Act) (lease : Lease) (seq : ℕ) (service : Service) (procedure : ℕ) (args : List ℕ) (outcome : Outcome) (inner : Result Receipt AdmitRefusal) (answer : Result Admitted AdmitRefusal) (new : AgainOf S) (all : ℕ → List Acted)
    → answer ≡ told_with outcome inner → IsAgain act.outcome (Some outcome) → SuchAmong (CameOf act.outcome) old.xid (all lease.id) → new.places ≡ old.places → new.xid ≡ old.xid → AllMade all old.places → Told old (AskedAdmit lease seq service procedure args answer) new all
told-repeat {S} old act lease seq service procedure args outcome inner answer new all is again found places xid m =
    let one : Asked Admitted = AskedAdmit lease seq service procedure args answer in
    let all' : ℕ → List Acted = λ id. one-act id old.xid one (all id) in
    let told : IsAmong old.xid outcome (all lease.id) = among-map (CameOf act.outcome) (λ first. IsAsBefore first outcome) (λ first k. again-told k.0 first act.outcome outcome k.1 again) old.xid (all lease.id) found in record {
      keeps = same-places all' old.places new.places places (grows-all all all' (λ id. more-made id old.xid one (all id)) old.places m);
      answered = λ id own ne. subst (λ (r : Result Admitted AdmitRefusal). HasOutcome old.xid r (all' id)) (sym is)
          (has (all' id) old.xid inner (more-made id old.xid one (all id) (λ first. IsAsBefore first outcome) old.xid (subst (λ (n : ℕ). IsAmong old.xid outcome (all n)) own told)));
      xid = xid;
    }
  where
    has : (calls : List Acted) (x : ℕ) (inner : Result Receipt AdmitRefusal) → IsAmong x outcome calls → HasOutcome x (told_with outcome inner) calls
    has calls x (Ok receipt) i = i
    has calls x (Err refusal) i = tt

told-quiet : {S : Type 0} (old : AgainOf S) (one : Asked Admitted) (new : AgainOf S) (all : ℕ → List Acted) → ((id : ℕ) → acts id one ≡ false) → ((id : ℕ) (calls : List Acted) → AnsweredSo id old.xid one calls) → AllMade all new.places → new.xid ≡ old.xid → Told old one new all
told-quiet old one new all none free m xid = record {
  keeps = grows-all all (λ id. one-act id old.xid one (all id)) (λ id. more-made id old.xid one (all id)) new.places m;
  answered = λ id. free id (one-act id old.xid one (all id));
  xid = xid;
}

told-same : {S : Type 0} (Answers : S → Asked Admitted → S → Type 0) (same : Bool) (old : AgainOf S) (act : Act) (lease : Lease) (seq : ℕ) (service : Service) (procedure : ℕ) (args : List ℕ) (answer : Result Admitted AdmitRefusal) (new : AgainOf S) (all : ℕ → List Acted)
    → AdmitsSame Answers same act old lease seq service args answer new → SuchAmong (CameOf act.outcome) old.xid (all lease.id) → AllMade all old.places → Told old (AskedAdmit lease seq service procedure args answer) new all
told-same Answers true old act lease seq service procedure args answer new all r found m =
    told-repeat old act lease seq service procedure args r.outcome r.inner answer new all r.is r.again found r.passes.places r.passes.xid m
told-same {S} Answers false old act lease seq service procedure args answer new all r found m =
    told-quiet old (AskedAdmit lease seq service procedure args answer) new all (λ id. ap (was_acting id) r.0)
    (λ id calls own ne. subst (λ (x : Result Admitted AdmitRefusal). HasOutcome old.xid x calls) (sym r.0) tt)
    (same-places all old.places new.places (ap (λ (a : AgainOf S). a.places) r.1) m) (ap (λ (a : AgainOf S). a.xid) r.1)

told-by : {S : Type 0} (Answers : S → Asked Admitted → S → Type 0) (history : S → List Entry) → IsSole Answers history → (found : Option Act) (old : AgainOf S) (lease : Lease) (seq : ℕ) (service : Service) (procedure : ℕ) (args : List ℕ) (answer : Result Admitted AdmitRefusal) (new : AgainOf S) (all : ℕ → List Acted)
    → (procedure == NONE) ≡ false → act_of lease.id old.xid old.places ≡ found → AdmitsBy Answers found old lease seq service procedure args answer new → AllMade all old.places → Told old (AskedAdmit lease seq service procedure args answer) new all
told-by Answers history sole None old lease seq service procedure args answer new all acts_ e p m = told-new Answers history sole old lease seq service procedure args answer new all acts_ p m
told-by Answers history sole (Some act) old lease seq service procedure args answer new all acts_ e r m =
    told-same Answers (is_told act procedure (sha1 args)) old act lease seq service procedure args answer new all r
    (found-made (all lease.id) old.xid (acts_of lease.id old.places) act (kept-made all lease.id old.places m) e) m

told-if : {S : Type 0} (Answers : S → Asked Admitted → S → Type 0) (history : S → List Entry) → IsSole Answers history → (none : Bool) (old : AgainOf S) (lease : Lease) (seq : ℕ) (service : Service) (procedure : ℕ) (args : List ℕ) (answer : Result Admitted AdmitRefusal) (new : AgainOf S) (all : ℕ → List Acted)
    → (procedure == NONE) ≡ none → Admits Answers none old lease seq service procedure args answer new → AllMade all old.places → Told old (AskedAdmit lease seq service procedure args answer) new all
told-if Answers history sole true old lease seq service procedure args answer new all e p m =
    let one : Asked Admitted = AskedAdmit lease seq service procedure args answer in
    let all' : ℕ → List Acted = λ id. one-act id old.xid one (all id) in record {
      keeps = same-places all' old.places new.places p.places (grows-all all all' (λ id. more-made id old.xid one (all id)) old.places m);
      answered = λ id own ne. absurd (ne (eqb-true procedure NONE e));
      xid = p.xid;
    }
told-if Answers history sole false old lease seq service procedure args answer new all e by m =
    told-by Answers history sole (act_of lease.id old.xid old.places) old lease seq service procedure args answer new all e refl by m

told-one : {S : Type 0} (Answers : S → Asked Admitted → S → Type 0) (history : S → List Entry) → IsSole Answers history → (old : AgainOf S) (one : Asked Admitted) (new : AgainOf S) (all : ℕ → List Acted) → AgainAnswers Answers old one new → AllMade all old.places → Told old one new all
told-one Answers history sole old (AskedStep id token now draws answer) new all p m =
    told-quiet old (AskedStep id token now draws answer) new all (λ other. refl) (λ other calls. tt) (same-places all (placed_all (given_receipts answer.receipts) old.places) new.places p.places (all-placed all (given_receipts answer.receipts) old.places m)) p.xid
told-one Answers history sole old (AskedLook id now answer) new all p m =
    told-quiet old (AskedLook id now answer) new all (λ other. refl) (λ other calls. tt) (same-places all old.places new.places p.places m) p.xid
told-one Answers history sole old (AskedAdmit lease seq service procedure args answer) new all by m =
    told-if Answers history sole (procedure == NONE) old lease seq service procedure args answer new all refl by m
told-one Answers history sole old (AskedEnd lease seq answer) new all p m =
    told-quiet old (AskedEnd lease seq answer) new all (λ other. refl) (λ other calls. tt) (same-places all (ended_after lease.id answer old.places) new.places p.places (ended-made all lease.id answer old.places m)) p.xid

-- ---- questions in a row

record ToldAll {S : Type 0} (old : AgainOf S) (asked : List (Asked Admitted)) (new : AgainOf S) (all : ℕ → List Acted) : Type 0 where
  keeps : AllMade (λ id. acts-in id old.xid asked (all id)) new.places
  answered : (id : ℕ) → AreAnswered id old.xid asked (all id)

told-all : {S : Type 0} (Answers : S → Asked Admitted → S → Type 0) (history : S → List Entry) → IsSole Answers history → (asked : List (Asked Admitted)) (old new : AgainOf S) (all : ℕ → List Acted) → Asking (AgainAnswers Answers) old asked new → AllMade all old.places → ToldAll old asked new all
told-all {S} Answers history sole [] old new all h m = record { keeps = same-places all old.places new.places (ap (λ (a : AgainOf S). a.places) h) m; answered = λ id. tt }
told-all {S} Answers history sole (one ∷ more) old new all h m =
    let t = told-one Answers history sole old one h.0 all h.1 m in
    let r = told-all Answers history sole more h.0 new (λ id. one-act id old.xid one (all id)) h.2 t.keeps in
    record {
      keeps = subst (λ (x : ℕ). AllMade (λ id. acts-in id x more (one-act id old.xid one (all id))) new.places) t.xid r.keeps;
      answered = λ id. (t.answered id, subst (λ (x : ℕ). AreAnswered id x more (one-act id old.xid one (all id))) t.xid (r.answered id));
    }

told-turns : {S : Type 0} (Answers : S → Asked Admitted → S → Type 0) (history : S → List Entry) → IsSole Answers history → (turns : List Turned) (old new : AgainOf S) (all : ℕ → List Acted) → Turning Answers old turns new → AllMade all old.places → (id : ℕ) → AllSo id turns (all id)
told-turns Answers history sole [] old new all h m id = tt
told-turns Answers history sole (turn ∷ turns) old new all h m id =
    let t = told-all Answers history sole turn.asked (with_xid turn.xid old) h.0 all h.1 m in
    (t.answered id, told-turns Answers history sole turns h.0 new (λ other. acts-in other turn.xid turn.asked (all other)) h.2 t.keeps id)

opened-made : (contexts width : ℕ) (all : ℕ → List Acted) → AllMade all (replicate contexts (no_place width))
opened-made zero width all = tt
opened-made (suc n) width all = (tt, opened-made n width all)

-- ---- among all acting calls

among-in : (id xid : ℕ) (asked : List (Asked Admitted)) (before : List Acted) → More before (acts-in id xid asked before)
among-in id xid [] before Q x i = i
among-in id xid (one ∷ more) before Q x i = among-in id xid more (one-act id xid one before) Q x (more-made id xid one before Q x i)

among-all : (id : ℕ) (turns : List Turned) (before : List Acted) → More before (acts-all id turns before)
among-all id [] before Q x i = i
among-all id (turn ∷ turns) before Q x i = among-all id turns (acts-in id turn.xid turn.asked before) Q x (among-in id turn.xid turn.asked before Q x i)

has-more : (x : ℕ) (answer : Result Admitted AdmitRefusal) (calls final : List Acted) → More calls final → HasOutcome x answer calls → HasOutcome x answer final
has-more x (Ok a) calls final f h = f (λ first. IsAsBefore first a.outcome) x h
has-more x (Err refusal) calls final f h = tt

answered-more : (id xid : ℕ) (one : Asked Admitted) (calls final : List Acted) → More calls final → AnsweredSo id xid one calls → AnsweredSo id xid one final
answered-more id xid (AskedStep own token now draws answer) calls final f h = tt
answered-more id xid (AskedLook own now answer) calls final f h = tt
answered-more id xid (AskedAdmit lease seq service procedure args answer) calls final f h = λ own ne. has-more xid answer calls final f (h own ne)
answered-more id xid (AskedEnd lease seq answer) calls final f h = tt

whole-in : (id xid : ℕ) (asked : List (Asked Admitted)) (before final : List Acted) → AreAnswered id xid asked before → More (acts-in id xid asked before) final → AllByRecursion (IsAnswered id xid final) asked
whole-in id xid [] before final h f = tt
whole-in id xid (one ∷ more) before final h f = (
  answered-more id xid one (one-act id xid one before) final (λ Q x i. f Q x (among-in id xid more (one-act id xid one before) Q x i)) h.0,
  whole-in id xid more (one-act id xid one before) final h.1 f,
)

whole-all : (id : ℕ) (turns : List Turned) (before final : List Acted) → AllSo id turns before → More (acts-all id turns before) final → AllAnswered id final turns
whole-all id [] before final h f = tt
whole-all id (turn ∷ turns) before final h f = (
  whole-in id turn.xid turn.asked before final h.0 (λ Q x i. f Q x (among-all id turns (acts-in id turn.xid turn.asked before) Q x i)),
  whole-all id turns (acts-in id turn.xid turn.asked before) final h.1 f,
)

-- every admission that is answered Ok has the outcome of an acting call with its transaction number
pub answered-once : {S : Type 0} (Answers : S → Asked Admitted → S → Type 0) (history : S → List Entry) → IsSole Answers history → (width contexts most : ℕ) (gate : S) (turns : List Turned) (new : AgainOf S) → Turning Answers (opened_gate gate contexts width most) turns new → (id : ℕ) → AllAnswered id (acting id turns) turns
answered-once Answers history sole width contexts most gate turns new h id =
    whole-all id turns [] (acting id turns) (told-turns Answers history sole turns (opened_gate gate contexts width most) new (λ other. []) h (opened-made contexts width (λ other. [])) id)
    (λ Q x i. subst (λ (l : List Acted). SuchAmong Q x l) (acting-is id turns) i)
