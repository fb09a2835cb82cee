-- A book that nobody else asks: its log grows by the receipts of its answers, and no more contexts live than may.
use Rattle.std.proofs.Common.{◌≡◌, ◌⊎◌, ℕ, ◌+◌, ◌<◌, ◌≤◌, ◌&&◌, max, Bool, true, false, nat_lt, nat_le, List, [], ◌∷◌, ◌++◌, length, map, Option, None, Some, IsSomeAnd, Result, Ok, Err, refl, sym, ap, ◌∙◌, arith, length-append, append-nil, inl, inr, subst}
use Rattle.std.specs.Prelude.{if◌then◌else◌, is_none}
use Rattle.std.proofs.lemmas.Bool.{cases_lt, le-leb, true≢false}
use Rattle.gss_base.specs.declared.mark.Mark.{Mark}
use Rattle.spnego_core.specs.declared.outcome.Outcome.{Outcome}
use Rattle.spnego_core.specs.declared.refusal.NegRefusal.{NegRefusal}
use Rattle.spnego_core.specs.declared.setup.AcceptSetup.{AcceptSetup}
use Rattle.spnego_core.specs.declared.accept_end.AcceptEnd.{AcceptEnd}
use Rattle.spnego_core.specs.declared.accept_end.AcceptEnd.TheVariants as ends
use Rattle.spnego_core.specs.declared.accept_end.AcceptStep.{AcceptStep}
use Rattle.spnego_core.specs.Accepting.{Accepted, accept_step}
use Rattle.context_table.specs.declared.slot.Slot.{Slot}
use Rattle.context_table.specs.Places.{Places, slot_in, slot_at, live_of, state_of, is_waiting}
use Rattle.accept_core.specs.Stepping.{goes_by, Goes, IsNext, IsNoRoom, settles}
use Rattle.accept_core.proofs.Goings.{goes-by-next, none-place, next-same}
use Rattle.accept_core.specs.declared.answer.AdmitRefusal.{AdmitRefusal}
use Rattle.accept_core.specs.declared.answer.MarkRefusal.{MarkRefusal}
use Rattle.accept_core.specs.declared.answer.Next.{Next}
use Rattle.accept_core.specs.declared.answer.Next.TheVariants as nexts
use Rattle.accept_core.specs.declared.entry.EndCause.{EndCause}
use Rattle.accept_core.specs.declared.entry.EndCause.TheVariants.{Destroyed, Refused}
use Rattle.accept_core.specs.declared.entry.Entry.{Entry}
use Rattle.accept_core.specs.declared.entry.Entry.TheVariants.{Call, Ended}
use Rattle.accept_core.specs.declared.entry.Receipt.{Receipt}
use Rattle.accept_core.specs.Answers.{or_refused, after, receipt_of}
use Rattle.accept_core.specs.Entering.{gained, id_of, started, noted, finished, entered, mark_refused}
use Rattle.accept_core.specs.History.{Standing, Unknown, Open, Whole, Over, standing, living, taken_of}
use Rattle.accept_core.proofs.Steps.{gained-none, gained-more}
use Rattle.accept_book.specs.Booking.{BookOf, Stands, Outcomes, raised, mark_of, next_of, settled_of, after_refusal, by_mark, by_step, later_step, begun, opened_by, gone_on_by, negotiated}
use Rattle.accept_book.specs.BookAnswers.{BookStepped}
use Rattle.accept_book.specs.declared.book_answer.Lease.{Lease}
use Rattle.accept_book.specs.declared.book_answer.Negotiated.{Negotiated}
use Rattle.accept_book.specs.declared.book_answer.Admitted.{Admitted}
use Rattle.accept_book.specs.RecordShown.{Asked, AskedStep, AskedLook, AskedAdmit, AskedEnd, booked, with_ok}
use Rattle.sha1.specs.Sha1.{sha1}
use Rattle.gss_server.specs.Asking.{Asking, BookAnswers}
use Rattle.history_laws.specs.Receipts.{receipts_in as receipts_of_book}
use Rattle.history_laws.proofs.Answering.{memory-cases, answers-live}
use Rattle.history_laws.proofs.Growth.{fronts-one, answers-width}
use Rattle.history_laws.proofs.InPlace.{in-place}
use Rattle.accept_core.proofs.Nexts.{next-of}
use Rattle.again_laws.specs.Laws.{log_of, GateAnswers, WithinLaw}
use Rattle.again_laws.specs.Sole.{receipts_in, onto, IsCall, IsEnd, IsOwn, IsSole, Within}

-- ---- the log grows by the receipts

onto-last : (rs : List Receipt) (r : Receipt) (h : List Entry) → onto (rs ++ r ∷ []) h ≡ r.entry ∷ onto rs h
onto-last [] r h = refl
onto-last (x ∷ rs) r h = onto-last rs r (x.entry ∷ h)

onto-gained : (more h : List Entry) → onto (gained (length h) (more ++ h)) h ≡ more ++ h
onto-gained [] h = ap (λ (rs : List Receipt). onto rs h) (gained-none (length h) h (omega arith))
onto-gained (entry ∷ more) h =
    ap (λ (rs : List Receipt). onto rs h) (gained-more (length h) (more ++ h) entry (omega (arith, length-append more h)))
    ∙ (onto-last (gained (length h) (more ++ h)) (record { place = length (more ++ h); entry = entry }) h ∙ ap (λ (l : List Entry). entry ∷ l) (onto-gained more h))

one-gained : (old new : BookOf) (one : Asked Receipt) → BookAnswers old one new → receipts_of_book one ≡ gained (length old.core.history) new.core.history
one-gained old new one b = sym (append-nil (receipts_of_book one)) ∙ in-place (one ∷ []) old new (new, b, refl)

book-grows : (old : BookOf) (one : Asked Receipt) (new : BookOf) → BookAnswers old one new → log_of new ≡ onto (receipts_of_book one) (log_of old)
book-grows old one new b =
    let f = fronts-one old new one b in
    f.is ∙ (sym (onto-gained f.more (log_of old))
    ∙ (ap (λ (h : List Entry). onto (gained (length (log_of old)) h) (log_of old)) (sym f.is) ∙ ap (λ (rs : List Receipt). onto rs (log_of old)) (sym (one-gained old new one b))))

-- what a gate answers has the receipts of the book's answer
pub same-receipts : (one : Asked Admitted) → receipts_of_book (booked one) ≡ receipts_in one
same-receipts (AskedStep id token now draws answer) = refl
same-receipts (AskedLook id now answer) = refl
same-receipts (AskedAdmit lease seq service procedure args (Ok admitted)) = refl
same-receipts (AskedAdmit lease seq service procedure args (Err refusal)) = refl
same-receipts (AskedEnd lease seq answer) = refl

gate-grows : (old : BookOf) (one : Asked Admitted) (new : BookOf) → GateAnswers old one new → log_of new ≡ onto (receipts_in one) (log_of old)
gate-grows old one new b = book-grows old (booked one) new b ∙ ap (λ (rs : List Receipt). onto rs (log_of old)) (same-receipts one)

-- an answer has this entry
abbrev HasEntry : Entry → Result Receipt AdmitRefusal → Type 0
HasEntry entry (Ok receipt) = receipt.entry ≡ entry
HasEntry entry (Err refusal) = Unit {0}

own-entry : (refusal : Option AdmitRefusal) (h : List Entry) (entry : Entry) (answer : Result Receipt AdmitRefusal) → answer ≡ or_refused refusal (receipt_of h entry) → HasEntry entry answer
own-entry None h entry answer is = subst (λ (a : Result Receipt AdmitRefusal). HasEntry entry a) (sym is) refl
own-entry (Some refusal) h entry answer is = subst (λ (a : Result Receipt AdmitRefusal). HasEntry entry a) (sym is) tt

own-call : (lease : Lease) (seq procedure : ℕ) (args : List ℕ) (answer : Result Admitted AdmitRefusal) → HasEntry (Call lease.id seq procedure (sha1 args)) (with_ok (λ (admitted : Admitted). admitted.receipt) answer) → IsCall lease seq procedure args answer
own-call lease seq procedure args (Ok admitted) is = is
own-call lease seq procedure args (Err refusal) is = tt

own-end : (lease : Lease) (seq : ℕ) (answer : Result Receipt AdmitRefusal) → HasEntry (Ended lease.id (Destroyed seq)) answer → IsEnd lease seq answer
own-end lease seq (Ok receipt) is = is
own-end lease seq (Err refusal) is = tt

pub book-sole : IsSole GateAnswers log_of
book-sole = record { grows = gate-grows; own = own }
  where
    own : (old : BookOf) (one : Asked Admitted) (new : BookOf) → GateAnswers old one new → IsOwn one
    own old (AskedStep id token now draws answer) new b = tt
    own old (AskedLook id now answer) new b = tt
    own old (AskedAdmit lease seq service procedure args answer) new b = own-call lease seq procedure args answer (own-entry _ old.core.history (Call lease.id seq procedure (sha1 args)) (with_ok (λ (admitted : Admitted). admitted.receipt) answer) b.answer)
    own old (AskedEnd lease seq answer) new b = own-end lease seq answer (own-entry _ old.core.history (Ended lease.id (Destroyed seq)) answer b.answer)

-- ---- no more contexts live than may

pub within-living : (contexts : ℕ) (h : List Entry) → Within contexts h → living h ≤ contexts
within-living contexts [] w = omega arith
within-living contexts (entry ∷ h) w = w.0

within-ended : (contexts id : ℕ) (cause : EndCause) (h : List Entry) → Within contexts h → Within contexts (Ended id cause ∷ h)
within-ended contexts id cause h w = (omega (arith, within-living contexts h w), w)

-- a first token's context has a place, or another gives it up
abbrev IsPlaced : ℕ → Option ℕ → Option ℕ → List Entry → Type 0
IsPlaced contexts None None h = living h < contexts
IsPlaced contexts None (Some other) h = 0 < contexts
IsPlaced contexts (Some id) gone h = Unit {0}

within-started : (contexts : ℕ) (id gone : Option ℕ) (now : ℕ) (h : List Entry) → IsPlaced contexts id gone h → Within contexts h → Within contexts (started id gone now h)
within-started contexts None None now h is w = (omega (arith, is), w)
within-started contexts None (Some other) now h is w = (omega (arith, is, within-living contexts h w), (omega (arith, within-living contexts h w), w))
within-started contexts (Some id) None now h is w = w
within-started contexts (Some id) (Some other) now h is w = (omega (arith, within-living contexts h w), w)

within-noted : (contexts : ℕ) (mark : Option Mark) (id now : ℕ) (h : List Entry) → Within contexts h → Within contexts (noted mark id now h)
within-noted contexts None id now h w = w
within-noted contexts (Some mark) id now h w = (within-living contexts h w, w)

within-finished : (contexts : ℕ) (first : Bool) (step : Next AcceptEnd Outcome) (id now : ℕ) (h : List Entry) → Within contexts h → Within contexts (finished first step id now h)
within-finished contexts true (nexts.Going state) id now h w = w
within-finished contexts false (nexts.Going state) id now h w = (within-living contexts h w, w)
within-finished contexts true (nexts.Settled mech names value until) id now h w = (within-living contexts h w, w)
within-finished contexts false (nexts.Settled mech names value until) id now h w = (within-living contexts h w, w)

within-entered : (contexts : ℕ) (id gone : Option ℕ) (mark : Option Mark) (step : Next AcceptEnd Outcome) (now : ℕ) (h : List Entry) → IsPlaced contexts id gone h → Within contexts h → Within contexts (entered id gone mark step now h)
within-entered contexts id gone mark step now h is w =
    within-finished contexts (is_none id) step (id_of id h) now (noted mark (id_of id h) now (started id gone now h))
    (within-noted contexts mark (id_of id h) now (started id gone now h) (within-started contexts id gone now h is w))

within-refusal : (contexts : ℕ) (id : Option ℕ) (h : List Entry) → Within contexts h → Within contexts (after_refusal id h)
within-refusal contexts None h w = w
within-refusal contexts (Some id) h w = within-ended contexts id Refused h w

-- whatever step it is
abbrev ArePlaced : ℕ → Stands → Option ℕ → Option ℕ → Type 0
ArePlaced contexts book id past = (step : Next AcceptEnd Outcome) → IsPlaced contexts id (goes_by id step past book.history book.table) book.history

within-mark : (contexts : ℕ) (book : Stands) (id past : Option ℕ) (mark : Option Mark) (step : AcceptStep) (refusal : Option MarkRefusal) → ArePlaced contexts book id past → Within contexts book.history
    → Within contexts (by_mark book id past mark step refusal).history
within-mark contexts book id past mark step None is w = within-entered contexts id (goes_by id (next_of step) past book.history book.table) mark (next_of step) book.greatest book.history (is (next_of step)) w
within-mark contexts book id past mark step (Some refusal) is w = within-refusal contexts id book.history w

within-step : (contexts : ℕ) (book : Stands) (id past : Option ℕ) (taken : Result Accepted NegRefusal) → ArePlaced contexts book id past → Within contexts book.history
    → Within contexts (by_step book id past taken).history
within-step contexts book id past (Err refusal) is w = within-refusal contexts id book.history w
within-step contexts book id past (Ok accepted) is w =
    within-mark contexts book id past (mark_of accepted.step) (settled_of accepted.step) (mark_refused book.capacity book.greatest (taken_of book.history) (mark_of accepted.step)) is w

within-either : (contexts : ℕ) (b : Bool) (x y : Outcomes) → (b ≡ true → Within contexts x.history) → (b ≡ false → Within contexts y.history) → Within contexts (if b then x else y).history
within-either contexts true x y p q = p refl
within-either contexts false x y p q = q refl

some-live : {N S : Type 0} (slots : List (Slot N S)) (id now : ℕ) → IsSomeAnd (slot_in slots id) (λ slot. slot.ends < now) → 0 < length slots
some-live [] id now is = absurd is
some-live (slot ∷ slots) id now is = omega arith

some-waits : {N S : Type 0} (slots : List (Slot N S)) (id : ℕ) → is_waiting (slot_in slots id) ≡ true → 0 < length slots
some-waits [] id is = absurd (true≢false (sym is))
some-waits (slot ∷ slots) id is = omega arith

next-live : {N S : Type 0} (table : Places N S) (now id : ℕ) → IsNext table now (Some id) → 0 < live_of table
next-live table now id (inl past) = some-live table.slots id now past.0
next-live table now id (inr waits) = some-waits table.slots id (waits.2).0

test-false : (a b : Bool) → a ≡ true → (a && b) ≡ false → b ≡ false
test-false true b t f = f
test-false false b t f = absurd (true≢false (sym t))

off : true ≡ false → ⊥
off e = true≢false e

-- there is room in the table, or the next gives its place
roomy : (book : Stands) (past : Option ℕ) (now : ℕ) → IsNext book.table now past → (nat_le book.table.limit (live_of book.table) && is_none past) ≡ false → IsNoRoom book.table now → ⊥
roomy book past now is full none =
    let same : past ≡ None = next-same book.table now past None is none.next in
    off (sym (ap is_none same) ∙ test-false (nat_le book.table.limit (live_of book.table)) (is_none past) (le-leb book.table.limit (live_of book.table) none.full) full)

some-place : (book : Stands) (past : Option ℕ) (now : ℕ) → IsNext book.table now past → (nat_le book.table.limit (live_of book.table) && is_none past) ≡ false → (0 < book.table.limit) ⊎ (0 < live_of book.table)
some-place book None now is full =
    elim (cases_lt (live_of book.table) book.table.limit) [
      | inl less ↦ inl (omega (arith, less))
      | inr most ↦ absurd (off (test-false (nat_le book.table.limit (live_of book.table)) true (le-leb book.table.limit (live_of book.table) most) full))
    ]
some-place book (Some id) now is full = inr (next-live book.table now id is)

placed-by : (contexts now : ℕ) (book : Stands) (past : Option ℕ) (step : Next AcceptEnd Outcome) (gone : Option ℕ) → goes_by None step past book.history book.table ≡ gone → book.table.limit ≡ contexts → live_of book.table ≡ living book.history
    → IsNext book.table now past → (nat_le book.table.limit (live_of book.table) && is_none past) ≡ false → Within contexts book.history → IsPlaced contexts None gone book.history
placed-by contexts now book past step None e limit live is_past full w =
    let goes : Goes (settles step) true book.history book.table now None =
    subst (λ (o : Option ℕ). Goes (settles step) true book.history book.table now o) e (goes-by-next None step past book.history book.table now (λ first. is_past)) in
    omega (arith, none-place (settles step) true book.history book.table now goes refl (roomy book past now is_past full), limit, live)
placed-by contexts now book past step (Some other) e limit live is_past full w =
    elim (some-place book past now is_past full) [
      | inl some ↦ omega (arith, some, limit)
      | inr lives ↦ omega (arith, lives, live, within-living contexts book.history w)
    ]

within-begun : (contexts now' : ℕ) (setup : AcceptSetup) (book : Stands) (past : Option ℕ) (token : List ℕ) (now : ℕ) (draws : List ℕ) → book.table.limit ≡ contexts → live_of book.table ≡ living book.history → IsNext book.table now' past → Within contexts book.history
    → Within contexts (begun setup book past token now draws).history
within-begun contexts now' setup book past token now draws limit live is_past w =
    within-either contexts (nat_lt book.limit (length book.history + 4)) _ _ (λ e. w) (λ e.
    within-either contexts (nat_le book.table.limit (live_of book.table) && is_none past) _ _ (λ f. w) (λ f.
    within-step contexts book None past (accept_step setup ends.New token now draws) (λ step. placed-by contexts now' book past step _ refl limit live is_past f w) w))

within-opened : (contexts : ℕ) (setup : AcceptSetup) (book : Stands) (id : ℕ) (past : Option ℕ) (token : List ℕ) (now : ℕ) (draws : List ℕ) → Within contexts book.history → Within contexts (opened_by setup book id past token now draws).history
within-opened contexts setup book id past token now draws w =
    within-either contexts (nat_lt book.limit (length book.history + 4)) _ _ (λ e. w) (λ e.
    within-step contexts book (Some id) past (later_step setup (state_of (slot_at book.table id)) token now draws) (λ step. tt) w)

within-gone : (contexts : ℕ) (stands : Standing) (setup : AcceptSetup) (book : Stands) (id : ℕ) (past : Option ℕ) (token : List ℕ) (now : ℕ) (draws : List ℕ) → Within contexts book.history → Within contexts (gone_on_by stands setup book id past token now draws).history
within-gone contexts Unknown setup book id past token now draws w = w
within-gone contexts (Open at) setup book id past token now draws w = within-opened contexts setup book id past token now draws w
within-gone contexts (Whole mech names until) setup book id past token now draws w = w
within-gone contexts Over setup book id past token now draws w = w

within-negotiated : (contexts now' : ℕ) (setup : AcceptSetup) (book : Stands) (id past : Option ℕ) (token : List ℕ) (now : ℕ) (draws : List ℕ) → book.table.limit ≡ contexts → live_of book.table ≡ living book.history → IsNext book.table now' past → Within contexts book.history
    → Within contexts (negotiated setup book id past token now draws).history
within-negotiated contexts now' setup book None past token now draws limit live is_past w = within-begun contexts now' setup book past token now draws limit live is_past w
within-negotiated contexts now' setup book (Some id) past token now draws limit live is_past w = within-gone contexts (standing id book.history) setup book id past token now draws w

-- ---- along a chain

record Roomy (contexts : ℕ) (book : BookOf) : Type 0 where
  limit : book.core.table.limit ≡ contexts
  live : live_of book.core.table ≡ living book.core.history
  within : Within contexts book.core.history

after-call : (contexts : ℕ) (refusal : Option AdmitRefusal) (id seq procedure : ℕ) (args : List ℕ) (h : List Entry) → Within contexts h → Within contexts (after refusal (Call id seq procedure args) h)
after-call contexts None id seq procedure args h w = (within-living contexts h w, w)
after-call contexts (Some refusal) id seq procedure args h w = w

after-end : (contexts : ℕ) (refusal : Option AdmitRefusal) (id : ℕ) (cause : EndCause) (h : List Entry) → Within contexts h → Within contexts (after refusal (Ended id cause) h)
after-end contexts None id cause h w = within-ended contexts id cause h w
after-end contexts (Some refusal) id cause h w = w

stepped-within : (contexts : ℕ) (old new : BookOf) (id : Option ℕ) (token : List ℕ) (now : ℕ) (draws : List ℕ) (answer : Negotiated) → Roomy contexts old → BookStepped old new id token now draws answer → Within contexts new.core.history
stepped-within contexts old new id token now draws answer r b =
    let past = next-of old.core.table (max old.core.cache.greatest now) in
    elim (memory-cases answer.answer) [
      | inl short ↦ subst (λ (h : List Entry). Within contexts h) (sym (b.comes.memory short).history) (within-refusal contexts id old.core.history r.within)
      | inr enough ↦ subst (λ (h : List Entry). Within contexts h) (sym (b.comes.outcome past.0 (λ first. past.1) enough).history)
          (within-negotiated contexts (max old.core.cache.greatest now) old.setup (raised old.core now) id past.0 token now draws r.limit r.live past.1 r.within)
    ]

answers-within : (contexts : ℕ) (old new : BookOf) (one : Asked Receipt) → Roomy contexts old → BookAnswers old one new → Within contexts new.core.history
answers-within contexts old new (AskedStep id token now draws answer) r b = stepped-within contexts old new id token now draws answer r b
answers-within contexts old new (AskedLook id now answer) r b = subst (λ (h : List Entry). Within contexts h) (sym b.looked.history) r.within
answers-within contexts old new (AskedAdmit lease seq service procedure args answer) r b = subst (λ (h : List Entry). Within contexts h) (sym b.history) (after-call contexts _ lease.id seq procedure (sha1 args) old.core.history r.within)
answers-within contexts old new (AskedEnd lease seq answer) r b = subst (λ (h : List Entry). Within contexts h) (sym b.history) (after-end contexts _ lease.id (Destroyed seq) old.core.history r.within)

answers-limit : (old new : BookOf) (one : Asked Receipt) → BookAnswers old one new → new.core.table.limit ≡ old.core.table.limit
answers-limit old new (AskedStep id token now draws answer) b = b.notes.contexts
answers-limit old new (AskedLook id now answer) b = ap (λ (t : Places AcceptEnd Outcome). t.limit) b.looked.table
answers-limit old new (AskedAdmit lease seq service procedure args answer) b = b.keeps.contexts
answers-limit old new (AskedEnd lease seq answer) b = b.keeps.contexts

roomy-all : (contexts : ℕ) (first last : BookOf) (asked : List (Asked Receipt)) → Roomy contexts first → Asking BookAnswers first asked last → Within contexts last.core.history
roomy-all contexts first last [] r h = subst (λ (b : BookOf). Within contexts b.core.history) (sym h) r.within
roomy-all contexts first last (one ∷ more) r h =
    roomy-all contexts h.0 last more (record {
      limit = answers-limit first h.0 one h.1 ∙ r.limit;
      live = answers-live first h.0 one r.live h.1;
      within = answers-within contexts first h.0 one r h.1;
    }) h.2

pub within-book : WithinLaw
within-book first last asked empty h =
    roomy-all first.core.table.limit first last asked (record {
      limit = refl;
      live = ap (length {A = Slot AcceptEnd Outcome}) empty.slots ∙ sym (ap living empty.history);
      within = subst (λ (x : List Entry). Within first.core.table.limit x) (sym empty.history) tt;
    }) h

pub same-width : (first last : BookOf) (asked : List (Asked Receipt)) → Asking BookAnswers first asked last → last.core.width ≡ first.core.width
same-width first last [] h = ap (λ (b : BookOf). b.core.width) h
same-width first last (one ∷ more) h = same-width h.0 last more h.2 ∙ answers-width first h.0 one h.1

pub wider : (few contexts : ℕ) (h : List Entry) → few ≤ contexts → Within few h → Within contexts h
wider few contexts [] le w = tt
wider few contexts (entry ∷ h) le w = (omega (arith, le, w.0), wider few contexts h le w.1)

-- a gate's questions of a book are the book's own
pub booked-all : (first last : BookOf) (asked : List (Asked Admitted)) → Asking GateAnswers first asked last → Asking BookAnswers first (map booked asked) last
booked-all first last [] h = h
booked-all first last (one ∷ more) h = (h.0, h.1, booked-all h.0 last more h.2)
