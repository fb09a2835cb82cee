-- What a step makes of the contexts and their windows.
use Rattle.std.proofs.Common.{◌≡◌, ◌≢◌, ◌∙◌, ℕ, [], Option, None, Some, IfSome, IsSomeAnd, refl, sym, ap, subst, inl, inr}
use Rattle.std.proofs.lemmas.Bool.{cases_eq}
use Rattle.seq_window.specs.Marks.{Shows}
use Rattle.context_table.specs.declared.slot.Slot.{Slot}
use Rattle.context_table.specs.declared.slot.SlotState.{SlotState}
use Rattle.context_table.specs.declared.slot.SlotState.TheVariants.{Negotiating, Held, Complete}
use Rattle.context_table.specs.Slots.{IsOpened, IsHeldState}
use Rattle.context_table.specs.Places.{Places, slot_at, KeepsOthers, IsHeld, held_after}
use Rattle.accept_core.specs.declared.answer.Next.{Next}
use Rattle.accept_core.specs.declared.answer.Next.TheVariants as nexts
use Rattle.accept_core.specs.Stepping.{Context, context_of, context_after, slot_after, ends_at, SameWindow, SameWindows, Stays}

-- ---- one slot

pub opened_context : {N S : Type 0} (slot : Option (Slot N S)) (id until wide : ℕ) → IsSomeAnd slot (λ s. IsOpened s id Held until wide)
    → context_of slot ≡ Some (record { state = Held; ends = until })
opened_context None id until wide some = absurd some
opened_context (Some s) id until wide some = λ i. Some (record { state = some.state i; ends = some.ends i })

pub opened_window : {N S : Type 0} (slot : Option (Slot N S)) (id until wide : ℕ) → IsSomeAnd slot (λ s. IsOpened s id Held until wide)
    → IfSome slot (λ s. Shows s.window [])
opened_window None id until wide some = absurd some
opened_window (Some s) id until wide some = some.window

held_state : {N S : Type 0} (state : SlotState N S) (until : ℕ) → IsHeldState state
    → ◌≡◌ {A = Option (Context N S)} (Some (record { state = state; ends = until })) (Some (record { state = Held; ends = until }))
held_state (Negotiating state) until h = absurd h
held_state Held until h = refl
held_state (Complete value) until h = absurd h

pub held_context : {N S : Type 0} (slot : Option (Slot N S)) → IsHeld slot → context_of slot ≡ Some (record { state = Held; ends = ends_at slot })
held_context None h = absurd h
held_context (Some s) h = held_state s.state s.ends h

none_context : {N S : Type 0} (x : Context N S) → ◌≡◌ {A = Option (Context N S)} None (Some x) → ⊥
none_context x e = cc

some_context : {N S : Type 0} {x y : Context N S} → ◌≡◌ {A = Option (Context N S)} (Some x) (Some y) → x.ends ≡ y.ends
some_context e = cc

pub stepped_context : {N S : Type 0} (before after : Option (Slot N S)) (step : Next N S) (until : ℕ) → context_of before ≡ Some (record { state = Held; ends = until })
    → after ≡ slot_after step before → context_of after ≡ Some (context_after until step)
stepped_context None after step until e is = absurd (none_context _ e)
stepped_context (Some s) after (nexts.Going state) until e is = ap context_of is ∙ (λ i. Some (record { state = Negotiating state; ends = some_context e i }))
stepped_context (Some s) after (nexts.Settled mech names value ends) until e is = ap context_of is

same_after : {N S : Type 0} (slot : Option (Slot N S)) (step : Next N S) (P : Slot N S → Type 0) → ((a b : Slot N S) → a.window ≡ b.window → P a → P b)
    → IfSome slot P → IfSome (slot_after step slot) P
same_after None (nexts.Going state) P keeps h = tt
same_after None (nexts.Settled mech names value ends) P keeps h = tt
same_after (Some s) (nexts.Going state) P keeps h = keeps s _ refl h
same_after (Some s) (nexts.Settled mech names value ends) P keeps h = keeps s _ refl h

stepped_same : {N S : Type 0} (old before : Option (Slot N S)) (step : Next N S) → SameWindow old before → SameWindow old (slot_after step before)
stepped_same None before step h = same_after before step (λ s. Shows s.window []) (λ a b e p. subst (λ w. Shows w []) e p) h
stepped_same (Some s) before step h = same_after before step (λ b. b.window ≡ s.window) (λ a b e p. sym e ∙ p) h

pub stepped_window : {N S : Type 0} (old before after : Option (Slot N S)) (step : Next N S) → SameWindow old before → after ≡ slot_after step before
    → SameWindow old after
stepped_window old before after step same is = subst (λ (x : Option (Slot _ _)). SameWindow old x) (sym is) (stepped_same old before step same)

pub same_window : {N S : Type 0} (slot : Option (Slot N S)) → SameWindow slot slot
same_window None = tt
same_window (Some s) = refl

pub new_window : {N S : Type 0} (old new : Option (Slot N S)) → old ≡ None → IfSome new (λ s. Shows s.window []) → SameWindow old new
new_window old new none h = subst (λ (x : Option (Slot _ _)). SameWindow x new) (sym none) h

gone_window : {N S : Type 0} (slot : Option (Slot N S)) → SameWindow slot None
gone_window None = tt
gone_window (Some s) = tt

stay_window : {N S : Type 0} (old new : Option (Slot N S)) → Stays old new → SameWindow old new
stay_window old new stays = elim stays [
  | inl same ↦ subst (λ (x : Option (Slot _ _)). SameWindow old x) (sym same) (same_window old)
  | inr gone ↦ subst (λ (x : Option (Slot _ _)). SameWindow old x) (sym gone) (gone_window old)
]

held_window : {N S : Type 0} (old new : Option (Slot N S)) → SameWindow (held_after old) new → SameWindow old new
held_window None new h = h
held_window (Some s) new h = h

-- ---- all slots

pub same_windows : {N S : Type 0} (table : Places N S) → SameWindows table table
same_windows table = λ id. same_window (slot_at table id)

pub windows_gone : {N S : Type 0} (old new : Places N S) (id : ℕ) → slot_at new id ≡ None → KeepsOthers old new id → SameWindows old new
windows_gone old new id gone others = λ other. elim (cases_eq id other) [
  | inl e ↦ subst (λ (k : ℕ). SameWindow (slot_at old k) (slot_at new k)) e (rw gone (gone_window (slot_at old id)))
  | inr ne ↦ rw (others.others other ne) (same_window (slot_at old other))
]

pub windows_entered : {N S : Type 0} (old new : Places N S) (own : ℕ) → SameWindow (slot_at old own) (slot_at new own)
    → ((other : ℕ) → own ≢ other → Stays (slot_at old other) (slot_at new other)) → SameWindows old new
windows_entered old new own same stays = λ other. elim (cases_eq own other) [
  | inl e ↦ subst (λ (k : ℕ). SameWindow (slot_at old k) (slot_at new k)) e same
  | inr ne ↦ stay_window (slot_at old other) (slot_at new other) (stays other ne)
]

pub windows_held : {N S : Type 0} (old held new : Places N S) (id : ℕ) → slot_at held id ≡ held_after (slot_at old id) → KeepsOthers old held id
    → SameWindows held new → SameWindows old new
windows_held old held new id is others same = λ other. elim (cases_eq id other) [
  | inl e ↦ subst (λ (k : ℕ). SameWindow (slot_at old k) (slot_at new k)) e (held_window (slot_at old id) (slot_at new id) (subst (λ (x : Option (Slot _ _)). SameWindow x (slot_at new id)) is (same id)))
  | inr ne ↦ subst (λ (x : Option (Slot _ _)). SameWindow x (slot_at new other)) (others.others other ne) (same other)
]

-- what was held ends when it did
pub same_ends : {N S : Type 0} (slot : Option (Slot N S)) → ends_at (held_after slot) ≡ ends_at slot
same_ends None = refl
same_ends (Some s) = refl
