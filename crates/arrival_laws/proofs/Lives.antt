-- What the book has of a context that was fixed and isn't ended.
use Rattle.std.proofs.Common.{◌≡◌, ℕ, true, refl, sym, ap, ◌∙◌, subst, List, [], ◌∷◌, Option, Some, None}
use Rattle.std.specs.Prelude.{nat_eq}
use Rattle.std.specs.Cmp.Lexicographic.{pointwise}
use Rattle.std.proofs.lemmas.Bool.{true≢false, eq-eqb, and_from}
use Rattle.gss_base.specs.declared.mech.MechKind.{MechKind}
use Rattle.krb_derive.specs.Key.{key_octets}
use Rattle.spnego_core.specs.declared.accept_end.AcceptEnd.{AcceptEnd}
use Rattle.spnego_core.specs.declared.outcome.Outcome.{Outcome}
use Rattle.context_table.specs.declared.slot.Slot.{Slot}
use Rattle.context_table.specs.declared.slot.SlotState.{SlotState}
use Rattle.context_table.specs.declared.slot.SlotState.TheVariants as states
use Rattle.context_table.specs.Slots.{HasState}
use Rattle.context_table.specs.Places.{slot_at, HasValue}
use Rattle.accept_core.specs.History.{Standing, Unknown, Open, Whole, Over, standing, numbers, is_whole, IsGone}
use Rattle.accept_core.specs.Replays.{SameState, SameSlot}
use Rattle.accept_core.specs.Stepping.{context_of}
use Rattle.accept_book.specs.Booking.{by_outcome, has_key}
use Rattle.accept_book.specs.BookLaws.{Lasting, fixed_state, fixed_in}
use Rattle.world_laws.specs.Agreement.{FixedAs}
use Rattle.world_laws.specs.State.{World}
use Rattle.world_laws.proofs.Invariants.{Held}

abbrev Known : Type 0
Known = Slot AcceptEnd Outcome

-- the log says that it is settled, and its slot is complete, with what was fixed
pub record Lives (w : World) (id : ℕ) (outcome : Outcome) (ends : ℕ) : Type 0 where
  pub mech : MechKind
  pub names : List ℕ
  pub whole : standing id w.book.core.history ≡ Whole mech names ends
  pub value : HasValue (slot_at w.book.core.table id) outcome ends

-- the same of a slot and a standing
record Complete (stands : Standing) (slot : Option Known) (outcome : Outcome) (ends : ℕ) : Type 0 where
  mech : MechKind
  names : List ℕ
  whole : stands ≡ Whole mech names ends
  value : HasValue slot outcome ends

same-lasting : (a b : Lasting) → Some a ≡ Some b → a ≡ b
same-lasting a b e = cc

by-state : (stands : Standing) (slot : Known) (state : SlotState AcceptEnd Outcome) (outcome : Outcome) (ends : ℕ) → slot.state ≡ state → is_whole stands ≡ true → SameState by_outcome stands state slot.ends
    → fixed_state state slot.ends ≡ Some (record { outcome = outcome; ends = ends }) → Complete stands (Some slot) outcome ends
by-state Unknown slot state outcome ends is whole same fixed = absurd (true≢false (sym whole))
by-state (Open at) slot state outcome ends is whole same fixed = absurd (true≢false (sym whole))
by-state Over slot state outcome ends is whole same fixed = absurd (true≢false (sym whole))
by-state (Whole mech names until) slot (states.Negotiating end) outcome ends is whole same fixed = absurd same
by-state (Whole mech names until) slot states.Held outcome ends is whole same fixed = absurd same
by-state (Whole mech names until) slot (states.Complete value) outcome ends is whole same fixed =
    let l : record { outcome = value; ends = slot.ends } ≡ record { outcome = outcome; ends = ends } = same-lasting (record { outcome = value; ends = slot.ends }) (record { outcome = outcome; ends = ends }) fixed in
    let held : value ≡ outcome = ap (λ (x : Lasting). x.outcome) l in
    let lasts : slot.ends ≡ ends = ap (λ (x : Lasting). x.ends) l in record {
      mech = mech;
      names = names;
      whole = ap (λ (n : ℕ). Whole mech names n) (sym same.2 ∙ lasts);
      value = (subst (λ (s : SlotState AcceptEnd Outcome). HasState s outcome) (sym is) held, lasts);
    }

none-whole : (stands : Standing) → IsGone stands → is_whole stands ≡ true → ⊥
none-whole Unknown gone whole = true≢false (sym whole)
none-whole (Open at) gone whole = gone
none-whole (Whole mech names ends) gone whole = gone
none-whole Over gone whole = true≢false (sym whole)

by-slot : (stands : Standing) (width : ℕ) (called : List ℕ) (slot : Option Known) (outcome : Outcome) (ends : ℕ) → is_whole stands ≡ true → SameSlot by_outcome width slot stands called
    → ((known : Known) → slot ≡ Some known → fixed_in (context_of slot) ≡ Some (record { outcome = outcome; ends = ends })) → Complete stands slot outcome ends
by-slot stands width called None outcome ends whole same fixed = absurd (none-whole stands same whole)
by-slot stands width called (Some slot) outcome ends whole same fixed = by-state stands slot slot.state outcome ends refl whole same.state (fixed slot refl)

pub lives : (w : World) (id : ℕ) (outcome : Outcome) (ends : ℕ) → Held w → FixedAs w id outcome ends → is_whole (standing id w.book.core.history) ≡ true → Lives w id outcome ends
lives w id outcome ends held f whole =
    let slot : Option Known = slot_at w.book.core.table id in
    let c = by-slot (standing id w.book.core.history) w.book.core.width (numbers id w.book.core.history) slot outcome ends whole (held.book.slots id)
    (λ known is.
    let there : slot_at w.book.core.table f.context.id ≡ Some known = ap (slot_at w.book.core.table) f.id_is ∙ is in
    let live = held.live f.place f.context (record { state = known.state; ends = known.ends }) f.there (ap context_of there) in
    ap (λ (s : Option Known). fixed_in (context_of s)) is ∙ live ∙ (λ i. Some (record { outcome = f.outcome_is i; ends = f.ends_is i }))) in
    record { mech = c.mech; names = c.names; whole = c.whole; value = c.value }

-- a slot with a value has its key
same-octets : (xs : List ℕ) → pointwise nat_eq xs xs ≡ true
same-octets [] = refl
same-octets (x ∷ xs) = and_from (nat_eq x x) (pointwise nat_eq xs xs) (eq-eqb x x refl) (same-octets xs)

keyed-state : (slot : Known) (state : SlotState AcceptEnd Outcome) (outcome : Outcome) → slot.state ≡ state → HasState state outcome → has_key (Some slot) outcome.key ≡ true
keyed-state slot (states.Negotiating end) outcome e h = absurd h
keyed-state slot states.Held outcome e h = absurd h
keyed-state slot (states.Complete held) outcome e h = rw (e, h) (same-octets (key_octets outcome.key))

pub keyed : (slot : Option Known) (outcome : Outcome) (ends : ℕ) → HasValue slot outcome ends → has_key slot outcome.key ≡ true
keyed None outcome ends v = absurd v
keyed (Some slot) outcome ends v = keyed-state slot slot.state outcome refl v.0

-- a slot has one value
one-state : (state : SlotState AcceptEnd Outcome) (a b : Outcome) → HasState state a → HasState state b → a ≡ b
one-state (states.Negotiating end) a b p q = absurd p
one-state states.Held a b p q = absurd p
one-state (states.Complete held) a b p q = sym p ∙ q

pub one-value : (slot : Option Known) (a b : Outcome) (x y : ℕ) → HasValue slot a x → HasValue slot b y → a ≡ b
one-value None a b x y p q = absurd p
one-value (Some slot) a b x y p q = one-state slot.state a b p.0 q.0
