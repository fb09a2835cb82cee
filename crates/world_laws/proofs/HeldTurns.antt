-- What a change of the contexts keeps of what is held of them.
use Rattle.std.proofs.Common.{◌≡◌, ◌≢◌, ◌⊎◌, ◌∙◌, ℕ, ◌<◌, ◌≤◌, Bool, true, false, if◌then◌else◌, List, [], ◌∷◌, ◌++◌, length, slice_get, Option, Some, None, refl, sym, ap, subst, inl, inr, arith}
use Rattle.std.proofs.lemmas.Bool.{cases_eq}
use Rattle.std.proofs.lemmas.Option.{none-some, same_Some}
use Rattle.ap_exchange.specs.declared.judged.Judged.{Judged}
use Rattle.ap_exchange.specs.Judging.{judged_mark}
use Rattle.spnego_core.specs.declared.accept_end.AcceptEnd.{AcceptEnd}
use Rattle.spnego_core.specs.declared.outcome.Outcome.{Outcome}
use Rattle.spnego_core.specs.declared.setup.AcceptSetup.{AcceptSetup}
use Rattle.spnego_core.specs.AcceptMech.{ByRequest}
use Rattle.spnego_core.specs.Choice.{best}
use Rattle.accept_core.specs.declared.entry.Entry.{Entry}
use Rattle.accept_core.specs.declared.entry.Entry.TheVariants.{Opened, Auth}
use Rattle.accept_book.specs.BookLaws.{Lasting, fixed_in}
use Rattle.accept_core.specs.History.{opened}
use Rattle.accept_core.specs.Stepping.{Context as Slot}
use Rattle.world_laws.specs.State.{Context}
use Rattle.world_laws.proofs.Invariants.{WasOpened}
use Rattle.world_laws.proofs.HeldLists.{get-last, get-cases}
use Rattle.world_laws.proofs.HeldHistory.{Grows}
use Rattle.world_laws.proofs.HeldFacts.{FixedIn, AuthIn, more-fixed, Contexts, Slots, Live, AllSettled, Facts}

-- ---- one context

-- it has the same fixed, and was there before
pub record KeptSlot (before after : Option (Slot AcceptEnd Outcome)) : Type 0 where
  pub context : Slot AcceptEnd Outcome
  pub was : before ≡ Some context
  pub same : fixed_in after ≡ fixed_in before

-- its id is new, and nothing is fixed of it
pub record NewSlot (h : List Entry) (id : ℕ) (after : Option (Slot AcceptEnd Outcome)) : Type 0 where
  pub above : opened h < id
  pub unfixed : fixed_in after ≡ None

abbrev pub Turned : List Entry → ℕ → Option (Slot AcceptEnd Outcome) → Option (Slot AcceptEnd Outcome) → Type 0
Turned h id before after = (after ≡ None) ⊎ (KeptSlot before after ⊎ NewSlot h id after)

pub turned-same : (h : List Entry) (id : ℕ) (before after : Option (Slot AcceptEnd Outcome)) → after ≡ before → Turned h id before after
turned-same h id None after e = inl e
turned-same h id (Some context) after e = inr (inl (record { context = context; was = refl; same = ap fixed_in e }))

pub turned-either : (h : List Entry) (id : ℕ) (before after : Option (Slot AcceptEnd Outcome)) → (after ≡ before) ⊎ (after ≡ None) → Turned h id before after
turned-either h id before after (inl same) = turned-same h id before after same
turned-either h id before after (inr gone) = inl gone

pub turned-if : (b : Bool) (h : List Entry) (id : ℕ) (before after : Option (Slot AcceptEnd Outcome)) → after ≡ (if b then None else before) → Turned h id before after
turned-if true h id before after e = inl e
turned-if false h id before after e = turned-same h id before after e

none-fixed : (L : Lasting) → ◌≡◌ {A = Option Lasting} None (Some L) → ⊥
none-fixed L e = none-some L e

-- ---- what is fixed of live contexts

slot-turned : (h : List Entry) (c d : Contexts) (fixed : List Context) (id : ℕ) (context : Slot AcceptEnd Outcome) (lasting : Lasting) → Slots c fixed → Turned h id (c id) (d id)
    → d id ≡ Some context → fixed_in (Some context) ≡ Some lasting → FixedIn fixed id lasting.outcome lasting.ends
slot-turned h c d fixed id context lasting slots (inl gone) e f = absurd (none-some context (sym gone ∙ e))
slot-turned h c d fixed id context lasting slots (inr (inl kept)) e f =
    slots id kept.context lasting kept.was (sym (ap fixed_in kept.was) ∙ sym kept.same ∙ ap fixed_in e ∙ f)
slot-turned h c d fixed id context lasting slots (inr (inr new)) e f = absurd (none-fixed lasting (sym new.unfixed ∙ ap fixed_in e ∙ f))

live-turned : (h : List Entry) (c d : Contexts) (fixed : List Context) (place : ℕ) (x : Context) (context : Slot AcceptEnd Outcome) → Live c fixed → x.id ≤ opened h → Turned h x.id (c x.id) (d x.id)
    → slice_get fixed place ≡ Some x → d x.id ≡ Some context → fixed_in (Some context) ≡ Some (record { outcome = x.fixed.outcome; ends = x.fixed.lasts })
live-turned h c d fixed place x context live below (inl gone) there e = absurd (none-some context (sym gone ∙ e))
live-turned h c d fixed place x context live below (inr (inl kept)) there e =
    sym (ap fixed_in e) ∙ kept.same ∙ ap fixed_in kept.was ∙ live place x kept.context there kept.was
live-turned h c d fixed place x context live below (inr (inr new)) there e = let above = new.above in absurd (omega (arith, above, below))

pub slots-turned : (h : List Entry) (c d : Contexts) (fixed : List Context) → Slots c fixed → ((id : ℕ) → Turned h id (c id) (d id)) → Slots d fixed
slots-turned h c d fixed slots turned = λ id context lasting e f. slot-turned h c d fixed id context lasting slots (turned id) e f

auth-grown : (h new : List Entry) (x : Context) (request : Judged) → Grows h new → AuthIn h x request → AuthIn new x request
auth-grown h new x request grows a = record { place = a.place; at = a.at; entry = grows.kept a.place (Auth x.id (judged_mark request) a.at) a.entry }

pub opened-grown : (h new : List Entry) (id : ℕ) → Grows h new → WasOpened h id → WasOpened new id
opened-grown h new id grows o = record { place = o.place; at = o.at; entry = grows.kept o.place (Opened id o.at) o.entry }

-- nothing is fixed
pub facts-turned : (setup : AcceptSetup) (h new : List Entry) (c d : Contexts) (fixed : List Context) → Facts setup h c fixed → Grows h new → ((id : ℕ) → Turned h id (c id) (d id))
    → AllSettled new fixed → Facts setup new d fixed
facts-turned setup h new c d fixed facts grows turned settled = record {
  slots = slots-turned h c d fixed facts.slots turned;
  live = λ place x context there e. live-turned h c d fixed place x context facts.live (facts.opened_id place x there) (turned x.id) there e;
  opened_id = λ place x there. let below = facts.opened_id place x there in let more = grows.more in omega (arith, below, more);
  opened_at = λ place x there. opened-grown h new x.id grows (facts.opened_at place x there);
  ids = facts.ids;
  auths = λ place x request there basis. auth-grown h new x request grows (facts.auths place x request there basis);
  settled = settled;
  best_is = facts.best_is;
}

-- ---- a context is fixed

-- nothing was fixed of its id before, and now this is
pub record Adds (setup : AcceptSetup) (h new : List Entry) (c d : Contexts) (fixed : List Context) (x : Context) : Type 0 where
  pub others : (id : ℕ) → x.id ≢ id → Turned h id (c id) (d id)
  pub own : fixed_in (d x.id) ≡ Some (record { outcome = x.fixed.outcome; ends = x.fixed.lasts })
  pub absent : (place : ℕ) (y : Context) → slice_get fixed place ≡ Some y → y.id ≢ x.id
  pub within : x.id ≤ opened new
  pub opens : WasOpened new x.id
  pub grows : Grows h new
  pub auth : (request : Judged) → x.fixed.basis ≡ ByRequest request → AuthIn new x request
  pub best_is : best setup.offer x.fixed.received ≡ Some x.fixed.outcome.mech

added : (fixed : List Context) (x : Context) (id : ℕ) (lasting : Lasting) → x.id ≡ id → ◌≡◌ {A = Lasting} (record { outcome = x.fixed.outcome; ends = x.fixed.lasts }) lasting
    → FixedIn (fixed ++ x ∷ []) id lasting.outcome lasting.ends
added fixed x id lasting same is = record {
  place = length fixed;
  context = x;
  there = get-last fixed x;
  id_is = same;
  outcome_is = ap (λ (l : Lasting). l.outcome) is;
  ends_is = ap (λ (l : Lasting). l.ends) is;
}

pub slots-added : (setup : AcceptSetup) (h new : List Entry) (c d : Contexts) (fixed : List Context) (x : Context) → Slots c fixed → Adds setup h new c d fixed x → Slots d (fixed ++ x ∷ [])
slots-added setup h new c d fixed x slots adds = λ id context lasting e f. elim (cases_eq x.id id) [
  | inl same ↦ added fixed x id lasting same (same_Some _ lasting (sym adds.own ∙ ap (λ (k : ℕ). fixed_in (d k)) same ∙ ap fixed_in e ∙ f))
  | inr other ↦ more-fixed fixed (x ∷ []) id lasting.outcome lasting.ends (slot-turned h c d fixed id context lasting slots (adds.others id other) e f)
]

live-new : (d : Contexts) (x y : Context) (context : Slot AcceptEnd Outcome) → fixed_in (d x.id) ≡ Some (record { outcome = x.fixed.outcome; ends = x.fixed.lasts }) → y ≡ x → d y.id ≡ Some context
    → fixed_in (Some context) ≡ Some (record { outcome = y.fixed.outcome; ends = y.fixed.lasts })
live-new d x y context own same e =
    subst (λ (z : Context). d z.id ≡ Some context → fixed_in (Some context) ≡ Some (record { outcome = z.fixed.outcome; ends = z.fixed.lasts })) (sym same)
    (λ f. sym (ap fixed_in f) ∙ own) e

live-added : (setup : AcceptSetup) (h new : List Entry) (c d : Contexts) (fixed : List Context) (x : Context) → Facts setup h c fixed → Adds setup h new c d fixed x → Live d (fixed ++ x ∷ [])
live-added setup h new c d fixed x facts adds = λ place y context there e. elim (get-cases fixed x place y there) [
  | inl old ↦ live-turned h c d fixed place y context facts.live (facts.opened_id place y old) (adds.others y.id (λ same. adds.absent place y old (sym same))) old e
  | inr last ↦ live-new d x y context adds.own last.1 e
]

within-added : (setup : AcceptSetup) (h new : List Entry) (c d : Contexts) (fixed : List Context) (x : Context) → Facts setup h c fixed → Adds setup h new c d fixed x
    → (place : ℕ) (y : Context) → slice_get (fixed ++ x ∷ []) place ≡ Some y → y.id ≤ opened new
within-added setup h new c d fixed x facts adds place y there = elim (get-cases fixed x place y there) [
  | inl old ↦ let below = facts.opened_id place y old in let more = adds.grows.more in omega (arith, below, more)
  | inr last ↦ subst (λ (z : Context). z.id ≤ opened new) (sym last.1) adds.within
]

opened-added : (setup : AcceptSetup) (h new : List Entry) (c d : Contexts) (fixed : List Context) (x : Context) → Facts setup h c fixed → Adds setup h new c d fixed x
    → (place : ℕ) (y : Context) → slice_get (fixed ++ x ∷ []) place ≡ Some y → WasOpened new y.id
opened-added setup h new c d fixed x facts adds place y there = elim (get-cases fixed x place y there) [
  | inl old ↦ opened-grown h new y.id adds.grows (facts.opened_at place y old)
  | inr last ↦ subst (λ (z : Context). WasOpened new z.id) (sym last.1) adds.opens
]

ids-added : (setup : AcceptSetup) (h new : List Entry) (c d : Contexts) (fixed : List Context) (x : Context) → Facts setup h c fixed → Adds setup h new c d fixed x
    → (i j : ℕ) (y z : Context) → slice_get (fixed ++ x ∷ []) i ≡ Some y → slice_get (fixed ++ x ∷ []) j ≡ Some z → y.id ≡ z.id → i ≡ j
ids-added setup h new c d fixed x facts adds i j y z a b same = go (get-cases fixed x i y a) (get-cases fixed x j z b)
  where
    go : (slice_get fixed i ≡ Some y) ⊎ ((i ≡ length fixed) × (y ≡ x)) → (slice_get fixed j ≡ Some z) ⊎ ((j ≡ length fixed) × (z ≡ x)) → i ≡ j
    go (inl first) (inl second) = facts.ids i j y z first second same
    go (inl first) (inr second) = absurd (adds.absent i y first (same ∙ ap (λ (w : Context). w.id) second.1))
    go (inr first) (inl second) = absurd (adds.absent j z second (sym same ∙ ap (λ (w : Context). w.id) first.1))
    go (inr first) (inr second) = first.0 ∙ sym second.0

auths-added : (setup : AcceptSetup) (h new : List Entry) (c d : Contexts) (fixed : List Context) (x : Context) → Facts setup h c fixed → Adds setup h new c d fixed x
    → (place : ℕ) (y : Context) (request : Judged) → slice_get (fixed ++ x ∷ []) place ≡ Some y → y.fixed.basis ≡ ByRequest request → AuthIn new y request
auths-added setup h new c d fixed x facts adds place y request there = elim (get-cases fixed x place y there) [
  | inl old ↦ λ basis. auth-grown h new y request adds.grows (facts.auths place y request old basis)
  | inr last ↦ subst (λ (z : Context). z.fixed.basis ≡ ByRequest request → AuthIn new z request) (sym last.1) (adds.auth request)
]

best-added : (setup : AcceptSetup) (h new : List Entry) (c d : Contexts) (fixed : List Context) (x : Context) → Facts setup h c fixed → Adds setup h new c d fixed x
    → (place : ℕ) (y : Context) → slice_get (fixed ++ x ∷ []) place ≡ Some y → best setup.offer y.fixed.received ≡ Some y.fixed.outcome.mech
best-added setup h new c d fixed x facts adds place y there = elim (get-cases fixed x place y there) [
  | inl old ↦ facts.best_is place y old
  | inr last ↦ subst (λ (z : Context). best setup.offer z.fixed.received ≡ Some z.fixed.outcome.mech) (sym last.1) adds.best_is
]

pub facts-added : (setup : AcceptSetup) (h new : List Entry) (c d : Contexts) (fixed : List Context) (x : Context) → Facts setup h c fixed → Adds setup h new c d fixed x
    → AllSettled new (fixed ++ x ∷ []) → Facts setup new d (fixed ++ x ∷ [])
facts-added setup h new c d fixed x facts adds settled = record {
  slots = slots-added setup h new c d fixed x facts.slots adds;
  live = live-added setup h new c d fixed x facts adds;
  opened_id = within-added setup h new c d fixed x facts adds;
  opened_at = opened-added setup h new c d fixed x facts adds;
  ids = ids-added setup h new c d fixed x facts adds;
  auths = auths-added setup h new c d fixed x facts adds;
  settled = settled;
  best_is = best-added setup h new c d fixed x facts adds;
}
