-- Of calls with different transaction numbers one alone has its own.
use Rattle.std.proofs.Common.{◌≡◌, ◌≢◌, ℕ, true, false, List, [], ◌∷◌, map, refl, sym, ap, ◌∙◌, subst, inl, inr}
use Rattle.std.specs.List.{AllByRecursion}
use Rattle.std.proofs.lemmas.Bool.{cases_eq, eq-eqb, ne_eqb, true≢false}
use Rattle.rpc_msgs.specs.Calls.{CallValue}
use Rattle.accept_book.specs.Booking.{BookOf}
use Rattle.accept_book.specs.RecordShown.{Asked}
use Rattle.accept_book.specs.declared.book_answer.Admitted.{Admitted}
use Rattle.gss_server.specs.Hearing.{kept_answers}
use Rattle.again_gate.specs.Again.{AgainOf}
use Rattle.rpc_program.specs.Programs.{Serving, NONE}
use Rattle.rpc_program.specs.declared.outcome.Outcome.{Outcome}
use Rattle.rpc_program.specs.declared.outcome.Outcome.TheVariants.{NoMemory}
use Rattle.again_gate.specs.Turns.{Turned}
use Rattle.again_laws.specs.Acting.{Acted, acting, IsAsBefore, SuchAmong, IsAmong, OneEach, IsAnswered, AllAnswered}
use Rattle.again_laws.specs.Laws.{Through, AnsweredOnce, EachOnce}
use Rattle.rpc_datagram.specs.Served.{Datagram, record_of, xid_of, ruling_of, turn_of}
use Rattle.datagram_laws.specs.Done.{IsDone, IsCalled, shown_as}
use Rattle.datagram_laws.specs.Replies.{with_number, IsOnly, IsReplied, RepliesLaw}
use Rattle.datagram_laws.proofs.Numbered.{call-xid}
use Rattle.datagram_laws.proofs.Ruled.{done-law}

none-with : (xid : ℕ) (calls : List Acted) → AllByRecursion (λ (one : Acted). one.xid ≢ xid) calls → with_number xid calls ≡ []
none-with xid [] all = refl
none-with xid (call ∷ calls) all = rw (ne_eqb call.xid xid all.0) (none-with xid calls all.1)

-- this became of a call with this transaction number
abbrev Came : ℕ → Outcome → List Acted → Type 0
Came xid outcome calls = SuchAmong (λ first. first ≡ outcome) xid calls

not-among : (xid : ℕ) (outcome : Outcome) (calls : List Acted) → AllByRecursion (λ (one : Acted). one.xid ≢ xid) calls → Came xid outcome calls → ⊥
not-among xid outcome [] all among = among
not-among xid outcome (call ∷ calls) all (inl here) = all.0 here.0
not-among xid outcome (call ∷ calls) all (inr more) = not-among xid outcome calls all.1 more

first-only : (xid : ℕ) (outcome : Outcome) (call : Acted) (calls : List Acted) → call.xid ≡ xid → call.outcome ≡ outcome → AllByRecursion (λ (one : Acted). one.xid ≢ call.xid) calls → IsOnly xid outcome (call ∷ calls)
first-only xid outcome call calls same is others = record {
  call = call;
  alone = rw (eq-eqb call.xid xid same) (ap (λ l. call ∷ l) (none-with xid calls (subst (λ (x : ℕ). AllByRecursion (λ (one : Acted). one.xid ≢ x) calls) same others)));
  is = is;
}

pub only : (xid : ℕ) (outcome : Outcome) (calls : List Acted) → OneEach calls → Came xid outcome calls → IsOnly xid outcome calls
only xid outcome [] each among = absurd among
only xid outcome (call ∷ calls) each (inl here) = first-only xid outcome call calls here.0 here.1 each.0
only xid outcome (call ∷ calls) each (inr more) =
    elim (cases_eq call.xid xid) [
      | inl same ↦ absurd (not-among xid outcome calls (subst (λ (x : ℕ). AllByRecursion (λ (one : Acted). one.xid ≢ x) calls) same each.0) more)
      | inr ne ↦ let rest = only xid outcome calls each.1 more in record { call = rest.call; alone = rw (ne_eqb call.xid xid ne) rest.alone; is = rest.is }
    ]

-- an outcome that doesn't want memory is the same
came-by : (first outcome : Outcome) → outcome ≢ NoMemory → IsAsBefore first outcome → first ≡ outcome
came-by first outcome known (inl same) = sym same
came-by first outcome known (inr wants) = absurd (known wants)

came : (xid : ℕ) (outcome : Outcome) (calls : List Acted) → outcome ≢ NoMemory → IsAmong xid outcome calls → Came xid outcome calls
came xid outcome [] known among = absurd among
came xid outcome (call ∷ calls) known (inl here) = inl (here.0, came-by call.outcome outcome known here.1)
came xid outcome (call ∷ calls) known (inr more) = inr (came xid outcome calls known more)

is-some : (serves : Serving) (procedure : ℕ) → serves.program.has NONE ≡ false → serves.program.has procedure ≡ true → procedure ≢ NONE
is-some serves procedure none has e = true≢false (sym has ∙ (ap serves.program.has e ∙ none))

-- a done call's outcome is among those of the calls that acted
among : (serves : Serving) (turns : List Turned) (one : Datagram) (call : CallValue) → serves.program.has NONE ≡ false → (d : IsDone (shown_as (record_of one.octets) (kept_answers one.kept) serves call) (ruling_of serves one))
    → AllByRecursion (IsAnswered d.lease.id (xid_of (record_of one.octets)) (acting d.lease.id turns)) (ruling_of serves one).asked
    → IsAmong (xid_of (record_of one.octets)) d.admitted.outcome (acting d.lease.id turns)
among serves turns one call none d all =
    let known = subst (λ (l : List (Asked Admitted)). AllByRecursion (IsAnswered d.lease.id (xid_of (record_of one.octets)) (acting d.lease.id turns)) l) d.asked all in
    known.1.0 refl (is-some serves call.procedure none d.procedure)

module _ (kept contexts most : ℕ) (serves : Serving) (book : BookOf) (turns : List Turned) (new : AgainOf BookOf) (none : serves.program.has NONE ≡ false) (t : Through kept contexts most book turns new) (answered : AnsweredOnce) (each : EachOnce) where
  replied : (one : Datagram) (call : CallValue) → ((id : ℕ) → AllByRecursion (IsAnswered id (xid_of (record_of one.octets)) (acting id turns)) (ruling_of serves one).asked)
      → IsCalled (record_of one.octets) call (ruling_of serves one) → IsReplied book.core.width kept serves turns one call
  replied one call all called =
      let d = done-law (record_of one.octets) (kept_answers one.kept) serves call called in
      let same : call.xid ≡ xid_of (record_of one.octets) = call-xid (record_of one.octets) call called.read in
      let a : Came call.xid d.admitted.outcome (acting d.lease.id turns) = came call.xid d.admitted.outcome (acting d.lease.id turns) d.known (subst (λ (x : ℕ). IsAmong x d.admitted.outcome (acting d.lease.id turns)) (sym same) (among serves turns one call none d (all d.lease.id))) in
      record {
        done = d;
        acted = a;
        once = λ enough sent sending from. only call.xid d.admitted.outcome (acting d.lease.id turns) (each kept contexts most book turns new t enough.some enough.twice d.lease.id sent sending from) a;
      }

  all-replied : (all : List Datagram) → ((id : ℕ) → AllAnswered id (acting id turns) (map (turn_of serves) all))
      → AllByRecursion (λ one. (call : CallValue) → IsCalled (record_of one.octets) call (ruling_of serves one) → IsReplied book.core.width kept serves turns one call) all
  all-replied [] f = tt
  all-replied (one ∷ all) f = ((λ call called. replied one call (λ id. (f id).0) called), all-replied all (λ id. (f id).1))

pub replies-law : AnsweredOnce → EachOnce → RepliesLaw
replies-law answered each kept contexts most serves book all new none t =
    all-replied kept contexts most serves book (map (turn_of serves) all) new none t answered each all (answered kept contexts most book (map (turn_of serves) all) new t)
