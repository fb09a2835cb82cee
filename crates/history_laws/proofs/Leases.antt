-- Looks, and what takes a number, are answered by what stands before them.
use Rattle.std.proofs.Common.{◌≡◌, ◌≢◌, ◌∙◌, ℕ, Bool, true, false, refl, ap, sym, subst, inl, inr, List, length, Option, Some, None, Result, Ok, IfOk}
use Rattle.std.specs.Prelude.{if◌then◌else◌, nat_lt}
use Rattle.std.proofs.lemmas.Bool.{cases_Bool}
use Rattle.krb_derive.specs.declared.key.Key.{Key}
use Rattle.krb_derive.specs.Key.{key_octets}
use Rattle.krb_derive.proofs.Tags.{same_tag}
use Rattle.seq_window.specs.Marks.{verdict_of}
use Rattle.seq_window.specs.declared.window.Verdict.{Verdict}
use Rattle.seq_window.specs.declared.window.Verdict.TheVariants as verdicts
use Rattle.spnego_core.specs.declared.accept_end.AcceptEnd.{AcceptEnd}
use Rattle.spnego_core.specs.declared.outcome.Outcome.{Outcome}
use Rattle.context_table.specs.declared.slot.Slot.{Slot}
use Rattle.context_table.specs.declared.slot.SlotState.{SlotState}
use Rattle.context_table.specs.declared.slot.SlotState.TheVariants.{Negotiating, Held, Complete}
use Rattle.context_table.specs.Slots.{HasState}
use Rattle.context_table.specs.Places.{slot_at, HasValue}
use Rattle.accept_core.specs.declared.answer.AdmitRefusal.{AdmitRefusal}
use Rattle.accept_core.specs.declared.answer.AdmitRefusal.TheVariants as admits
use Rattle.accept_core.specs.declared.answer.LookRefusal.{LookRefusal}
use Rattle.accept_core.specs.declared.entry.Entry.{Entry}
use Rattle.accept_core.specs.Answers.{refusal_by, refused}
use Rattle.accept_core.specs.History.{Standing, Unknown, Open, Whole, Over, standing, numbers, is_whole, IsGone}
use Rattle.accept_core.specs.Stepping.{context_of}
use Rattle.accept_book.specs.declared.book_answer.Lease.{Lease}
use Rattle.accept_book.specs.Booking.{BookOf, names_of, same_key, state_key, has_key, lease_refused}
use Rattle.accept_book.specs.BookAnswers.{BookLooked}
use Rattle.accept_book.specs.RecordShown.{Asked}
use Rattle.history_laws.specs.Before.{Made, Negotiates, Settles, made_in}
use Rattle.history_laws.specs.Seen.{LookSeen, is_key, number_refused, LeaseSeen}
use Rattle.history_laws.proofs.Contexts.{MatchesState, Matches}
use Rattle.history_laws.proofs.Views.{before_in}
use Rattle.accept_core.specs.declared.entry.Receipt.{Receipt}

-- ---- a look

state-value : (made : Option Made) (stands : Standing) (state : SlotState AcceptEnd Outcome) (until : ℕ) (value : Outcome) (ends : ℕ) → MatchesState made stands state until → HasState state value → until ≡ ends
    → made ≡ Some (Settles value ends)
state-value made stands (Negotiating end) until value ends m has e = absurd has
state-value made stands Held until value ends m has e = absurd has
state-value made stands (Complete outcome) until value ends m has e = m.1 ∙ (λ i. Some (Settles (has i) (e i)))

slot-value : (made : Option Made) (stands : Standing) (slot : Option (Slot AcceptEnd Outcome)) (value : Outcome) (ends : ℕ) → Matches made stands (context_of slot) → HasValue slot value ends → made ≡ Some (Settles value ends)
slot-value made stands None value ends m has = absurd has
slot-value made stands (Some slot) value ends m has = state-value made stands slot.state slot.ends value ends m has.0 has.1

leased : (made : Option Made) (stands : Standing) (slot : Option (Slot AcceptEnd Outcome)) (result : Result Lease LookRefusal) (lease : Lease) → Matches made stands (context_of slot)
    → IfOk result (λ given. HasValue slot given.outcome given.ends) → result ≡ Ok lease → made ≡ Some (Settles lease.outcome lease.ends)
leased made stands slot result lease m value is =
    slot-value made stands slot lease.outcome lease.ends m (subst (λ (r : Result Lease LookRefusal). IfOk r (λ given. HasValue slot given.outcome given.ends)) is value)

pub look-seen : (old new : BookOf) (asked : List (Asked Receipt)) (id now : ℕ) (result : Result Lease LookRefusal)
    → Matches (made_in old.setup id asked) (standing id old.core.history) (context_of (slot_at old.core.table id))
    → BookLooked old new id now result → LookSeen (before_in old asked) id now result
look-seen old new asked id now result m b = record {
  by_log = b.answer;
  by_steps = λ lease is. leased (made_in old.setup id asked) (standing id old.core.history) (slot_at old.core.table id) result lease m b.value is;
}

-- ---- why a number isn't taken

-- an id that isn't settled, or is ended, has no number
not-whole : (limit width : ℕ) (h : List Entry) (id seq : ℕ) → is_whole (standing id h) ≡ false → refused limit width h id seq ≡ Some admits.Gone
not-whole limit width h id seq e = rw e refl

either-gone : (b : Bool) (x : Option AdmitRefusal) → x ≡ Some admits.Gone → Some admits.Gone ≡ (if b then x else Some admits.Gone)
either-gone true x e = sym e
either-gone false x e = refl

gone-whole : (stands : Standing) → IsGone stands → is_whole stands ≡ false
gone-whole Unknown g = refl
gone-whole (Open at) g = refl
gone-whole (Whole mech names ends) g = absurd g
gone-whole Over g = refl

state-refused : (made : Option Made) (stands : Standing) (state : SlotState AcceptEnd Outcome) (until : ℕ) (key : Key) (x : Option AdmitRefusal) → MatchesState made stands state until
    → (is_whole stands ≡ false → x ≡ Some admits.Gone) → (if state_key state key then x else Some admits.Gone) ≡ (if is_key made key then x else Some admits.Gone)
state-refused made stands (Negotiating end) until key x m gone = either-gone (is_key made key) x (gone (ap is_whole m.1))
state-refused made stands Held until key x m gone = absurd m
state-refused made stands (Complete outcome) until key x m gone = ap (λ (o : Option Made). if is_key o key then x else Some admits.Gone) (sym m.1)

slot-refused : (made : Option Made) (stands : Standing) (slot : Option (Slot AcceptEnd Outcome)) (key : Key) (x : Option AdmitRefusal) → Matches made stands (context_of slot)
    → (is_whole stands ≡ false → x ≡ Some admits.Gone) → (if has_key slot key then x else Some admits.Gone) ≡ (if is_key made key then x else Some admits.Gone)
slot-refused made stands None key x m gone = either-gone (is_key made key) x (gone (gone-whole stands m))
slot-refused made stands (Some slot) key x m gone = state-refused made stands slot.state slot.ends key x m gone

pub number-refused : (book : BookOf) (asked : List (Asked Receipt)) (lease : Lease) (seq : ℕ)
    → Matches (made_in book.setup lease.id asked) (standing lease.id book.core.history) (context_of (slot_at book.core.table lease.id))
    → lease_refused book.core lease seq ≡ number_refused (before_in book asked) lease seq
number-refused book asked lease seq m =
    slot-refused (made_in book.setup lease.id asked) (standing lease.id book.core.history) (slot_at book.core.table lease.id) lease.outcome.key
    (refused book.core.limit book.core.width book.core.history lease.id seq) m (not-whole book.core.limit book.core.width book.core.history lease.id seq)

-- ---- a lease that was given

same-itself : (key : Key) → same_key key key ≡ true
same-itself key = same_tag (key_octets key) (key_octets key) refl

some-gone : {r : AdmitRefusal} → Some r ≡ Some admits.Gone → r ≡ admits.Gone
some-gone e = cc

-- a number of a settled id isn't refused as gone
fresh-gone : (b : Bool) → (if b then None else Some admits.LogFull) ≡ Some admits.Gone → ⊥
fresh-gone true e = let f : None ≡ Some admits.Gone = e in absurd cc
fresh-gone false e = let f : Some admits.LogFull ≡ Some admits.Gone = e in absurd cc

verdict-gone : (verdict : Verdict) (b : Bool) → refusal_by verdict (if b then None else Some admits.LogFull) ≡ Some admits.Gone → ⊥
verdict-gone verdicts.AboveMax b e = let f : Some admits.AboveMax ≡ Some admits.Gone = e in absurd cc
verdict-gone (verdicts.Below last) b e = let f : Some (admits.Below last) ≡ Some admits.Gone = e in absurd cc
verdict-gone verdicts.Repeat b e = let f : Some admits.Repeat ≡ Some admits.Gone = e in absurd cc
verdict-gone verdicts.Fresh b e = fresh-gone b e

whole-gone : (limit width : ℕ) (h : List Entry) (id seq : ℕ) → is_whole (standing id h) ≡ true → refused limit width h id seq ≡ Some admits.Gone → ⊥
whole-gone limit width h id seq whole e = verdict-gone (verdict_of width (numbers id h) seq) (nat_lt (length h) limit) (rw whole at e)

-- a settled id is whole by the log, or over
settled-open : (made : Option Made) (at : ℕ) (slot : Option (Slot AcceptEnd Outcome)) (outcome : Outcome) (ends : ℕ) → Matches made (Open at) (context_of slot) → made ≡ Some (Settles outcome ends) → ⊥
settled-open made at None outcome ends m is = m
settled-open made at (Some slot) outcome ends m is = by slot.state m
  where
    by : (state : SlotState AcceptEnd Outcome) → MatchesState made (Open at) state slot.ends → ⊥
    by (Negotiating end) m = let f : Some (Negotiates end) ≡ Some (Settles outcome ends) = sym m.3 ∙ is in absurd cc
    by Held m = m
    by (Complete value) m = let f : Open at ≡ Whole value.mech (names_of value) slot.ends = m.0 in absurd cc

settled-over : (made : Option Made) (stands : Standing) (slot : Option (Slot AcceptEnd Outcome)) (outcome : Outcome) (ends : ℕ) → Matches made stands (context_of slot) → made ≡ Some (Settles outcome ends)
    → stands ≢ Unknown → is_whole stands ≡ false → stands ≡ Over
settled-over made Unknown slot outcome until m is known e = absurd (known refl)
settled-over made (Open at) slot outcome until m is known e = absurd (settled-open made at slot outcome until m is)
settled-over made (Whole mech names lasts) slot outcome until m is known e = cc
settled-over made Over slot outcome until m is known e = refl

pub lease-seen : (book : BookOf) (asked : List (Asked Receipt)) (lease : Lease) (seq : ℕ)
    → Matches (made_in book.setup lease.id asked) (standing lease.id book.core.history) (context_of (slot_at book.core.table lease.id))
    → made_in book.setup lease.id asked ≡ Some (Settles lease.outcome lease.ends) → standing lease.id book.core.history ≢ Unknown
    → LeaseSeen (before_in book asked) lease seq (number_refused (before_in book asked) lease seq)
lease-seen book asked lease seq m is known =
    let key : is_key (made_in book.setup lease.id asked) lease.outcome.key ≡ true = ap (λ (o : Option Made). is_key o lease.outcome.key) is ∙ same-itself lease.outcome.key in
    let log : number_refused (before_in book asked) lease seq ≡ refused book.core.limit book.core.width book.core.history lease.id seq = rw key refl in
    record {
      by_log = log;
      gone = λ e. settled-over (made_in book.setup lease.id asked) (standing lease.id book.core.history) (slot_at book.core.table lease.id) lease.outcome lease.ends m is known
          (elim (cases_Bool (is_whole (standing lease.id book.core.history))) [
            | inl whole ↦ absurd (whole-gone book.core.limit book.core.width book.core.history lease.id seq whole (sym log ∙ e))
            | inr not ↦ not
          ]);
      ended = λ over. log ∙ not-whole book.core.limit book.core.width book.core.history lease.id seq (ap is_whole over);
    }
