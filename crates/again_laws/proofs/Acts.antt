-- What is kept of each context are its last acting calls.
use Rattle.std.proofs.Common.{◌≡◌, ℕ, ◌+◌, ◌-◌, ◌<◌, ◌≤◌, true, List, [], ◌∷◌, ◌++◌, length, map, drop, None, Some, ap, sym, ◌∙◌, arith, refl, inl, inr, subst}
use Rattle.std.proofs.lemmas.Bool.{cases_eq, eq-eqb, ne_eqb}
use Rattle.std.proofs.lemmas.List.{same_lists, places, drop-map, length-map}
use Rattle.again_calls.specs.declared.place.Act.{Act}
use Rattle.again_calls.specs.Kept.{PlaceOf, newest, given, given_to, acts_in, acts_of}
use Rattle.gss_base.specs.declared.mech.MechKind.{MechKind}
use Rattle.accept_core.specs.declared.entry.EndCause.{EndCause}
use Rattle.accept_core.specs.declared.entry.EndCause.TheVariants.{Destroyed, Refused, Lapsed}
use Rattle.accept_core.specs.declared.entry.Entry.{Entry}
use Rattle.accept_core.specs.declared.entry.Entry.TheVariants.{Opened, Auth, Went, Settled, Call, Ended}
use Rattle.accept_core.specs.declared.entry.Receipt.{Receipt}
use Rattle.accept_core.specs.History.{Standing, Unknown, Open, Whole, Over, standing, opened, living, IsOpen, IsLive, is_whole}
use Rattle.accept_core.specs.Legal.{MayEnd, Legal}
use Rattle.again_gate.specs.Again.{placed, placed_all}
use Rattle.again_laws.specs.Sole.{onto, Within}
use Rattle.again_laws.proofs.Places.{count, Others, others-stay, Moved, moves, AreWide, wide-changed, long-changed, count-both}

-- ---- the last so many of a list

abbrev nil : (A : Type 0) → List A
nil A = []

pub newest-nil : {A : Type 0} (width : ℕ) → newest width (nil A) ≡ nil A
newest-nil {A} width = same_lists _ _ (grind (arith, places)) (λ k d h. grind (arith, places))

pub newest-more : {A : Type 0} (width : ℕ) (xs : List A) (x : A) → newest width (newest width xs ++ x ∷ []) ≡ newest width (xs ++ x ∷ [])
newest-more width xs x = same_lists _ _ (grind (arith, places)) (λ k d h. grind (arith, places))

pub newest-map : {A B : Type 0} (f : A → B) (width : ℕ) (xs : List A) → map f (newest width xs) ≡ newest width (map f xs)
newest-map f width xs = sym (ap (λ (n : ℕ). drop (n - width) (map f xs)) (length-map xs f) ∙ drop-map f (length xs - width) xs)

-- ---- histories

abbrev pub Sound : ℕ → ℕ → List Entry → Type 0
Sound width contexts h = Legal width h × Within contexts h

sound-before : (width contexts : ℕ) (entry : Entry) (h : List Entry) → Sound width contexts (entry ∷ h) → Sound width contexts h
sound-before width contexts entry h s = (s.0.1, s.1.1)

pub sound-onto : (width contexts : ℕ) (receipts : List Receipt) (h : List Entry) → Sound width contexts (onto receipts h) → Sound width contexts h
sound-onto width contexts [] h s = s
sound-onto width contexts (receipt ∷ receipts) h s =
    sound-before width contexts receipt.entry h (sound-onto width contexts receipts (receipt.entry ∷ h) s)

open-live : (s : Standing) → IsOpen s → IsLive s
open-live Unknown o = o
open-live (Open at) o = tt
open-live (Whole mech names ends) o = tt
open-live Over o = o

pub whole-live : (s : Standing) → is_whole s ≡ true → IsLive s
whole-live Unknown e = cc
whole-live (Open at) e = tt
whole-live (Whole mech names ends) e = tt
whole-live Over e = cc

ends-live : (width : ℕ) (h : List Entry) (id : ℕ) (cause : EndCause) → MayEnd width h id cause → IsLive (standing id h)
ends-live width h id (Destroyed seq) may = whole-live (standing id h) may.whole
ends-live width h id Refused may = open-live (standing id h) may
ends-live width h id Lapsed may = may

none-unknown : (s : Standing) → s ≡ Unknown → IsLive s → ⊥
none-unknown s e live = subst (λ (x : Standing). IsLive x) e live

-- an id that wasn't given yet is in no entry
pub unopened : (width : ℕ) (h : List Entry) (id : ℕ) → Legal width h → opened h < id → standing id h ≡ Unknown
unopened width [] id legal lt = refl
unopened width (Opened i at ∷ h) id legal lt = rw (ne_eqb i id (λ e. absurd (omega (arith, e, legal.0.0, lt)))) (unopened width h id legal.1 (omega (arith, lt)))
unopened width (Auth i mark at ∷ h) id legal lt = unopened width h id legal.1 lt
unopened width (Went i at ∷ h) id legal lt = unopened width h id legal.1 lt
unopened width (Settled i mech names ends at ∷ h) id legal lt =
    let before : standing id h ≡ Unknown = unopened width h id legal.1 lt in
    rw (ne_eqb i id (λ e. none-unknown (standing id h) before (open-live (standing id h) (subst (λ (n : ℕ). IsOpen (standing n h)) e legal.0.0)))) before
unopened width (Call i seq procedure args ∷ h) id legal lt = unopened width h id legal.1 lt
unopened width (Ended i cause ∷ h) id legal lt =
    let before : standing id h ≡ Unknown = unopened width h id legal.1 lt in
    rw (ne_eqb i id (λ e. none-unknown (standing id h) before (subst (λ (n : ℕ). IsLive (standing n h)) e (ends-live width h i cause legal.0)))) before

-- ---- what is kept

abbrev pub xids : List Act → List ℕ
xids kept = map (λ (act : Act). act.xid) kept

-- a context that lives has a place, with its last acting calls
pub record Has (width id : ℕ) (ps : List PlaceOf) (before : List ℕ) : Type 0 where
  pub count : count (Some id) ps ≡ 1
  pub kept : xids (acts_of id ps) ≡ newest width before

abbrev pub ByStanding : ℕ → Standing → ℕ → List PlaceOf → List ℕ → Type 0
ByStanding width Unknown id ps before = (count (Some id) ps ≡ 0) × (before ≡ [])
ByStanding width (Open at) id ps before = Has width id ps before
ByStanding width (Whole mech names ends) id ps before = Has width id ps before
ByStanding width Over id ps before = count (Some id) ps ≡ 0

pub has-by : (width : ℕ) (s : Standing) (id : ℕ) (ps : List PlaceOf) (before : List ℕ) → IsLive s → Has width id ps before → ByStanding width s id ps before
has-by width Unknown id ps before live has = absurd live
has-by width (Open at) id ps before live has = has
has-by width (Whole mech names ends) id ps before live has = has
has-by width Over id ps before live has = absurd live

pub record Inv (width contexts : ℕ) (h : List Entry) (ps : List PlaceOf) (all : ℕ → List ℕ) : Type 0 where
  pub each : (id : ℕ) → ByStanding width (standing id h) id ps (all id)
  pub free : count None ps + living h ≡ contexts
  pub long : length ps ≡ contexts
  pub wide : AreWide width ps

pub live-has : (width : ℕ) (s : Standing) (id : ℕ) (ps : List PlaceOf) (before : List ℕ) → IsLive s → ByStanding width s id ps before → Has width id ps before
live-has width Unknown id ps before live by = absurd live
live-has width (Open at) id ps before live by = by
live-has width (Whole mech names ends) id ps before live by = by
live-has width Over id ps before live by = absurd live

unknown-none : (width : ℕ) (s : Standing) (id : ℕ) (ps : List PlaceOf) (before : List ℕ) → s ≡ Unknown → ByStanding width s id ps before → (count (Some id) ps ≡ 0) × (before ≡ [])
unknown-none width s id ps before e by = subst (λ (x : Standing). ByStanding width x id ps before) e by

pub by-same : (width : ℕ) (s : Standing) (id : ℕ) (ps ps' : List PlaceOf) (before : List ℕ) → count (Some id) ps' ≡ count (Some id) ps → acts_in (Some id) ps' ≡ acts_in (Some id) ps → ByStanding width s id ps before → ByStanding width s id ps' before
by-same width Unknown id ps ps' before c a by = (c ∙ by.0, by.1)
by-same width (Open at) id ps ps' before c a by = record { count = c ∙ by.count; kept = ap xids a ∙ by.kept }
by-same width (Whole mech names ends) id ps ps' before c a by = record { count = c ∙ by.count; kept = ap xids a ∙ by.kept }
by-same width Over id ps ps' before c a by = c ∙ by

-- ---- one entry more

opened-more : (wide width contexts i at : ℕ) (h : List Entry) (ps : List PlaceOf) (all : ℕ → List ℕ) → standing i h ≡ Unknown → living h + 1 ≤ contexts
    → Inv width contexts h ps all → Inv width contexts (Opened i at ∷ h) (given_to None (Some i) ps) all
opened-more wide width contexts i at h ps all unknown few inv =
    let some : 0 < count None ps = omega (arith, inv.free, few) in
    let moved : Moved None (Some i) ps = moves None (Some i) refl refl ps some in
    let own = unknown-none width (standing i h) i ps (all i) unknown (inv.each i) in
    let has : Has width i (given_to None (Some i) ps) (all i) = record {
      count = omega (arith, moved.more, own.0);
      kept = ap xids (moved.none own.0) ∙ (sym (newest-nil width) ∙ ap (newest width) (sym own.1));
    } in record {
      each = λ id. elim (cases_eq i id) [
        | inl e ↦ rw (eq-eqb i id e) (subst (λ (n : ℕ). Has width n (given_to None (Some i) ps) (all n)) e has)
        | inr ne ↦
            let o : Others None (Some i) (Some id) ps = others-stay None (Some i) (Some id) refl (ne_eqb i id ne) ps in
            rw (ne_eqb i id ne) (by-same width (standing id h) id ps (given_to None (Some i) ps) (all id) o.count o.acts (inv.each id))
      ];
      free = omega (arith, moved.fewer, inv.free);
      long = long-changed (given (Some i)) None ps ∙ inv.long;
      wide = wide-changed width (given (Some i)) None (λ p. refl) ps inv.wide;
    }

ended-more : (width contexts i : ℕ) (cause : EndCause) (h : List Entry) (ps : List PlaceOf) (all : ℕ → List ℕ) → IsLive (standing i h)
    → Inv width contexts h ps all → Inv width contexts (Ended i cause ∷ h) (given_to (Some i) None ps) all
ended-more width contexts i cause h ps all live inv =
    let own : Has width i ps (all i) = live-has width (standing i h) i ps (all i) live (inv.each i) in
    let some : 0 < count (Some i) ps = omega (arith, own.count) in
    let moved : Moved (Some i) None ps = moves (Some i) None refl refl ps some in record {
      each = λ id. elim (cases_eq i id) [
        | inl e ↦ rw (eq-eqb i id e) (subst (λ (n : ℕ). count (Some n) (given_to (Some i) None ps) ≡ 0) e (omega (arith, moved.fewer, own.count)))
        | inr ne ↦
            let o : Others (Some i) None (Some id) ps = others-stay (Some i) None (Some id) (ne_eqb i id ne) refl ps in
            rw (ne_eqb i id ne) (by-same width (standing id h) id ps (given_to (Some i) None ps) (all id) o.count o.acts (inv.each id))
      ];
      free = omega (arith, moved.more, inv.free, inv.long, own.count, count-both i ps);
      long = long-changed (given None) (Some i) ps ∙ inv.long;
      wide = wide-changed width (given None) (Some i) (λ p. refl) ps inv.wide;
    }

settled-more : (width contexts i : ℕ) (mech : MechKind) (names : List ℕ) (ends at : ℕ) (h : List Entry) (ps : List PlaceOf) (all : ℕ → List ℕ) → IsOpen (standing i h)
    → Inv width contexts h ps all → Inv width contexts (Settled i mech names ends at ∷ h) ps all
settled-more width contexts i mech names ends at h ps all opens inv = record {
  each = λ id. elim (cases_eq i id) [
    | inl e ↦ rw (eq-eqb i id e) (subst (λ (n : ℕ). Has width n ps (all n)) e (live-has width (standing i h) i ps (all i) (open-live (standing i h) opens) (inv.each i)))
    | inr ne ↦ rw (ne_eqb i id ne) (inv.each id)
  ];
  free = inv.free;
  long = inv.long;
  wide = inv.wide;
}

pub entry-more : (wide width contexts : ℕ) (entry : Entry) (h : List Entry) (ps : List PlaceOf) (all : ℕ → List ℕ) → Sound wide contexts (entry ∷ h)
    → Inv width contexts h ps all → Inv width contexts (entry ∷ h) (placed entry ps) all
entry-more wide width contexts (Opened i at) h ps all sound inv = opened-more wide width contexts i at h ps all (unopened wide h i sound.0.1 (omega (arith, sound.0.0.0))) sound.1.0 inv
entry-more wide width contexts (Auth i mark at) h ps all sound inv = record { each = inv.each; free = inv.free; long = inv.long; wide = inv.wide }
entry-more wide width contexts (Went i at) h ps all sound inv = record { each = inv.each; free = inv.free; long = inv.long; wide = inv.wide }
entry-more wide width contexts (Settled i mech names ends at) h ps all sound inv = settled-more width contexts i mech names ends at h ps all sound.0.0.0 inv
entry-more wide width contexts (Call i seq procedure args) h ps all sound inv = record { each = inv.each; free = inv.free; long = inv.long; wide = inv.wide }
entry-more wide width contexts (Ended i cause) h ps all sound inv = ended-more width contexts i cause h ps all (ends-live wide h i cause sound.0.0) inv

pub entries-more : (wide width contexts : ℕ) (receipts : List Receipt) (h : List Entry) (ps : List PlaceOf) (all : ℕ → List ℕ) → Sound wide contexts (onto receipts h)
    → Inv width contexts h ps all → Inv width contexts (onto receipts h) (placed_all receipts ps) all
entries-more wide width contexts [] h ps all sound inv = inv
entries-more wide width contexts (receipt ∷ receipts) h ps all sound inv =
    entries-more wide width contexts receipts (receipt.entry ∷ h) (placed receipt.entry ps) all sound
    (entry-more wide width contexts receipt.entry h ps all (sound-onto wide contexts receipts (receipt.entry ∷ h) sound) inv)
