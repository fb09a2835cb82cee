-- Why a mark is refused, by the log.
use Rattle.std.proofs.Common.{◌≡◌, ℕ, ◌≤◌, Bool, true, false, ◌==◌, refl, sym, subst, List, [], ◌∷◌, ◌++◌, length, Option, Some, None}
use Rattle.std.specs.Prelude.{if◌then◌else◌, nat_eq, nat_lt}
use Rattle.std.specs.Cmp.Lexicographic.{pointwise, same_text}
use Rattle.std.proofs.lemmas.Bool.{ltb-false, and_parts, eqb-true, eq-eqb}
use Rattle.gss_base.specs.declared.mark.Mark.{Mark}
use Rattle.replay_cache.specs.Taking.{same_mark, place_of, kept_of, is_recent, is_stale, or_repeat}
use Rattle.replay_cache.specs.declared.cache.CacheVerdict.TheVariants as verdicts
use Rattle.replay_cache.specs.declared.cache.TakenMark.{TakenMark}
use Rattle.accept_core.specs.Answers.{mark_refusal}
use Rattle.accept_core.specs.Entering.{mark_refused}
use Rattle.accept_core.specs.History.{entry_at, taken_of}
use Rattle.accept_core.specs.declared.answer.MarkRefusal.{MarkRefusal}
use Rattle.accept_core.specs.declared.answer.MarkRefusal.TheVariants as marks
use Rattle.accept_core.specs.declared.entry.Entry.{Entry}
use Rattle.accept_core.specs.declared.entry.Entry.TheVariants.{Opened, Auth, Went, Settled, Call, Ended}
use Rattle.history_laws.specs.Seen.{StandsAt}
use Rattle.history_laws.proofs.Histories.{one-front, no-front, entry-stays}

-- ---- marks that were taken stand in the log

abbrev Placed : List Entry → List TakenMark → Type 0
Placed h [] = Unit {0}
Placed h (t ∷ ts) = StandsAt h t.place t.mark × Placed h ts

stands-grows : (entry : Entry) (h : List Entry) (place : ℕ) (mark : Mark) → StandsAt h place mark → StandsAt (entry ∷ h) place mark
stands-grows entry h place mark s = record { holder = s.holder; at = s.at; entry = entry-stays h (entry ∷ h) place (Auth s.holder mark s.at) (one-front entry h h (no-front h)) s.entry }

placed-grows : (entry : Entry) (h : List Entry) (ts : List TakenMark) → Placed h ts → Placed (entry ∷ h) ts
placed-grows entry h [] p = tt
placed-grows entry h (t ∷ ts) p = (stands-grows entry h t.place t.mark p.0, placed-grows entry h ts p.1)

placed-append : (h : List Entry) (ts us : List TakenMark) → Placed h ts → Placed h us → Placed h (ts ++ us)
placed-append h [] us p q = q
placed-append h (t ∷ ts) us p q = (p.0, placed-append h ts us p.1 q)

at-head : (entry : Entry) (h : List Entry) → entry_at (length h) (entry ∷ h) ≡ Some entry
at-head entry h = rw (eq-eqb (length h) (length h) refl) refl

placed-of : (h : List Entry) → Placed h (taken_of h)
placed-of [] = tt
placed-of (Opened i at ∷ h) = placed-grows (Opened i at) h (taken_of h) (placed-of h)
placed-of (Auth i mark at ∷ h) =
    placed-append (Auth i mark at ∷ h) (taken_of h) _ (placed-grows (Auth i mark at) h (taken_of h) (placed-of h))
    (record { holder = i; at = at; entry = at-head (Auth i mark at) h }, tt)
placed-of (Went i at ∷ h) = placed-grows (Went i at) h (taken_of h) (placed-of h)
placed-of (Settled i mech names ends at ∷ h) = placed-grows (Settled i mech names ends at) h (taken_of h) (placed-of h)
placed-of (Call i seq procedure args ∷ h) = placed-grows (Call i seq procedure args) h (taken_of h) (placed-of h)
placed-of (Ended i cause ∷ h) = placed-grows (Ended i cause) h (taken_of h) (placed-of h)

placed-if : (h : List Entry) (b : Bool) (t : TakenMark) (ts : List TakenMark) → StandsAt h t.place t.mark → Placed h ts → Placed h (if b then t ∷ ts else ts)
placed-if h true t ts s p = (s, p)
placed-if h false t ts s p = p

placed-kept : (h : List Entry) (greatest : ℕ) (ts : List TakenMark) → Placed h ts → Placed h (kept_of greatest ts)
placed-kept h greatest [] p = tt
placed-kept h greatest (t ∷ ts) p = placed-if h (is_recent greatest t) t (kept_of greatest ts) p.0 (placed-kept h greatest ts p.1)

marks-equal : (a b : Mark) → same_mark a b ≡ true → a ≡ b
marks-equal a b e =
    let parts = and_parts (pointwise nat_eq a.who b.who) (a.at == b.at) e in
    let who = same_text a.who b.who (sym parts.0) in
    let at = eqb-true a.at b.at parts.1 in
    λ i. record { who = who i; at = at i }

same-place : {a b : ℕ} → Some a ≡ Some b → a ≡ b
same-place e = cc

found-if : (h : List Entry) (b : Bool) (t : TakenMark) (rest : Option ℕ) (mark : Mark) (place : ℕ) → StandsAt h t.place t.mark → (b ≡ true → t.mark ≡ mark) → (rest ≡ Some place → StandsAt h place mark)
    → (if b then Some t.place else rest) ≡ Some place → StandsAt h place mark
found-if h true t rest mark place s same later e = subst (λ (m : Mark). StandsAt h place m) (same refl) (subst (λ (k : ℕ). StandsAt h k t.mark) (same-place e) s)
found-if h false t rest mark place s same later e = later e

placed-found : (h : List Entry) (ts : List TakenMark) (mark : Mark) (place : ℕ) → Placed h ts → place_of mark ts ≡ Some place → StandsAt h place mark
placed-found h [] mark place p e = cc
placed-found h (t ∷ ts) mark place p e =
    found-if h (same_mark t.mark mark) t (place_of mark ts) mark place p.0 (marks-equal t.mark mark) (placed-found h ts mark place p.1) e

-- a mark that is held stands in the log, at its place
pub held-stands : (h : List Entry) (greatest : ℕ) (mark : Mark) (place : ℕ) → place_of mark (kept_of greatest (taken_of h)) ≡ Some place → StandsAt h place mark
held-stands h greatest mark place e = placed-found h (kept_of greatest (taken_of h)) mark place (placed-kept h greatest (taken_of h) (placed-of h)) e

-- ---- why a mark is refused

-- by whether it is stale, its place among those that are held, how many are held and may be, and the greatest moment
abbrev WhyBy : Bool → Option ℕ → ℕ → ℕ → ℕ → MarkRefusal → Type 0
WhyBy stale place held capacity greatest (marks.Stale seen) = (seen ≡ greatest) × (stale ≡ true)
WhyBy stale place held capacity greatest (marks.Repeat at) = place ≡ Some at
WhyBy stale place held capacity greatest marks.CacheFull = (place ≡ None) × (capacity ≤ held)

same-refusal : {a b : MarkRefusal} → Some a ≡ Some b → a ≡ b
same-refusal e = cc

why-room : (b : Bool) (held capacity greatest : ℕ) (refusal : MarkRefusal) → nat_lt held capacity ≡ b → mark_refusal (if b then verdicts.Taken else verdicts.Full) ≡ Some refusal
    → WhyBy false None held capacity greatest refusal
why-room true held capacity greatest refusal room e = let f : None ≡ Some refusal = e in absurd cc
why-room false held capacity greatest refusal room e = subst (λ (r : MarkRefusal). WhyBy false None held capacity greatest r) (same-refusal e) (refl, ltb-false held capacity room)

why-place : (place : Option ℕ) (held capacity greatest : ℕ) (refusal : MarkRefusal) → mark_refusal (or_repeat place held capacity) ≡ Some refusal → WhyBy false place held capacity greatest refusal
why-place (Some at) held capacity greatest refusal e = subst (λ (r : MarkRefusal). WhyBy false (Some at) held capacity greatest r) (same-refusal e) refl
why-place None held capacity greatest refusal e = why-room (nat_lt held capacity) held capacity greatest refusal refl e

why-stale : (b : Bool) (place : Option ℕ) (held capacity greatest : ℕ) (refusal : MarkRefusal) → mark_refusal (if b then verdicts.Stale greatest else or_repeat place held capacity) ≡ Some refusal
    → WhyBy b place held capacity greatest refusal
why-stale true place held capacity greatest refusal e = subst (λ (r : MarkRefusal). WhyBy true place held capacity greatest r) (same-refusal e) (refl, refl)
why-stale false place held capacity greatest refusal e = why-place place held capacity greatest refusal e

abbrev pub Why : ℕ → ℕ → List TakenMark → Mark → MarkRefusal → Type 0
Why capacity greatest taken mark refusal = WhyBy (is_stale greatest mark) (place_of mark (kept_of greatest taken)) (length (kept_of greatest taken)) capacity greatest refusal

-- a step's mark that is refused: there is one, and this is why
pub record RefusedMark (capacity greatest : ℕ) (taken : List TakenMark) (asked : Option Mark) (refusal : MarkRefusal) : Type 0 where
  pub mark : Mark
  pub is : asked ≡ Some mark
  pub why : Why capacity greatest taken mark refusal

pub why-refused : (capacity greatest : ℕ) (taken : List TakenMark) (asked : Option Mark) (refusal : MarkRefusal) → mark_refused capacity greatest taken asked ≡ Some refusal → RefusedMark capacity greatest taken asked refusal
why-refused capacity greatest taken None refusal e = let f : None ≡ Some refusal = e in absurd cc
why-refused capacity greatest taken (Some mark) refusal e =
    record { mark = mark; is = refl; why = why-stale (is_stale greatest mark) (place_of mark (kept_of greatest taken)) (length (kept_of greatest taken)) capacity greatest refusal e }
