-- What stays of a history that grew.
use Rattle.std.proofs.Common.{◌≡◌, ◌≢◌, ◌∙◌, ℕ, ◌+◌, ◌<◌, ◌≤◌, List, [], ◌∷◌, length, Option, Some, None, refl, sym, subst, inl, inr, arith}
use Rattle.std.proofs.lemmas.Bool.{cases_eq, eq-eqb, ne_eqb}
use Rattle.std.proofs.lemmas.Option.{none-some, same_Some}
use Rattle.gss_base.specs.declared.mark.Mark.{Mark}
use Rattle.gss_base.specs.declared.mech.MechKind.{MechKind}
use Rattle.accept_core.specs.declared.entry.Entry.{Entry}
use Rattle.accept_core.specs.declared.entry.Entry.TheVariants.{Opened, Auth, Went, Settled, Call, Ended}
use Rattle.accept_core.specs.declared.entry.EndCause.TheVariants.{Refused, Lapsed}
use Rattle.accept_core.specs.History.{opened, entry_at}
use Rattle.accept_core.specs.Answers.{after}
use Rattle.accept_book.specs.Booking.{after_refusal}
use Rattle.accept_core.specs.Entering.{lapsed, started, noted}

pub at-head : (place : ℕ) (entry : Entry) (h : List Entry) → place ≡ length h → entry_at place (entry ∷ h) ≡ Some entry
at-head place entry h e = rw (eq-eqb place (length h) e) refl

pub at-tail : (place : ℕ) (entry : Entry) (h : List Entry) → place ≢ length h → entry_at place (entry ∷ h) ≡ entry_at place h
at-tail place entry h ne = rw (ne_eqb place (length h) ne) refl

within : (place : ℕ) (h : List Entry) (entry : Entry) → entry_at place h ≡ Some entry → place < length h
within place [] entry e = absurd (none-some entry e)
within place (first ∷ h) entry e = elim (cases_eq place (length h)) [
  | inl here ↦ omega (arith, here)
  | inr later ↦ let lt : place < length h = within place h entry (sym (at-tail place first h later) ∙ e) in omega (arith, lt)
]

pub record Grows (h new : List Entry) : Type 0 where
  pub kept : (place : ℕ) (entry : Entry) → entry_at place h ≡ Some entry → entry_at place new ≡ Some entry
  pub more : opened h ≤ opened new

kept-one : (first : Entry) (h : List Entry) (place : ℕ) (entry : Entry) → entry_at place h ≡ Some entry → entry_at place (first ∷ h) ≡ Some entry
kept-one first h place entry e =
    let lt : place < length h = within place h entry e in
    at-tail place first h (λ same. omega (arith, lt, same)) ∙ e

opened-one : (first : Entry) (h : List Entry) → opened h ≤ opened (first ∷ h)
opened-one (Opened i at) h = omega arith
opened-one (Auth i mark at) h = omega arith
opened-one (Went i at) h = omega arith
opened-one (Settled i mech names ends at) h = omega arith
opened-one (Call i seq procedure args) h = omega arith
opened-one (Ended i cause) h = omega arith

pub grows-one : (first : Entry) (h : List Entry) → Grows h (first ∷ h)
grows-one first h = record { kept = kept-one first h; more = opened-one first h }

pub grows-then : (a b c : List Entry) → Grows a b → Grows b c → Grows a c
grows-then a b c first second = record {
  kept = λ place entry e. second.kept place entry (first.kept place entry e);
  more = let x = first.more in let y = second.more in omega (arith, x, y);
}

-- ---- no entry more says that a context was settled

abbrev pub Unsettling : Entry → Type 0
Unsettling (Opened i at) = Unit {0}
Unsettling (Auth i mark at) = Unit {0}
Unsettling (Went i at) = Unit {0}
Unsettling (Settled i mech names ends at) = ⊥
Unsettling (Call i seq procedure args) = Unit {0}
Unsettling (Ended i cause) = Unit {0}

pub record Quiet (h new : List Entry) : Type 0 where
  pub grows : Grows h new
  pub settled : (place id : ℕ) (mech : MechKind) (names : List ℕ) (ends at : ℕ) → entry_at place new ≡ Some (Settled id mech names ends at)
      → entry_at place h ≡ Some (Settled id mech names ends at)

pub quiet-same : (h : List Entry) → Quiet h h
quiet-same h = record { grows = record { kept = λ place entry e. e; more = omega arith }; settled = λ place id mech names ends at e. e }

pub quiet-one : (first : Entry) (h : List Entry) → Unsettling first → Quiet h (first ∷ h)
quiet-one first h un = record {
  grows = grows-one first h;
  settled = λ place id mech names ends at e. elim (cases_eq place (length h)) [
    | inl here ↦
        let same : first ≡ Settled id mech names ends at = same_Some first (Settled id mech names ends at) (sym (at-head place first h here) ∙ e) in
        absurd (subst Unsettling same un)
    | inr later ↦ sym (at-tail place first h later) ∙ e
  ];
}

pub quiet-then : (a b c : List Entry) → Quiet a b → Quiet b c → Quiet a c
quiet-then a b c first second = record {
  grows = grows-then a b c first.grows second.grows;
  settled = λ place id mech names ends at e. first.settled place id mech names ends at (second.settled place id mech names ends at e);
}

pub quiet-refusal : (id : Option ℕ) (h : List Entry) → Quiet h (after_refusal id h)
quiet-refusal None h = quiet-same h
quiet-refusal (Some id) h = quiet-one (Ended id Refused) h tt

pub quiet-after : {R : Type 0} (refusal : Option R) (entry : Entry) (h : List Entry) → Unsettling entry → Quiet h (after refusal entry h)
quiet-after None entry h un = quiet-one entry h un
quiet-after (Some refusal) entry h un = quiet-same h

quiet-lapsed : (gone : Option ℕ) (h : List Entry) → Quiet h (lapsed gone h)
quiet-lapsed None h = quiet-same h
quiet-lapsed (Some id) h = quiet-one (Ended id Lapsed) h tt

pub quiet-started : (id gone : Option ℕ) (now : ℕ) (h : List Entry) → Quiet h (started id gone now h)
quiet-started None gone now h =
    quiet-then h (lapsed gone h) _ (quiet-lapsed gone h) (quiet-one (Opened (opened h + 1) now) (lapsed gone h) tt)
quiet-started (Some id) gone now h = quiet-lapsed gone h

pub quiet-noted : (mark : Option Mark) (id now : ℕ) (h : List Entry) → Quiet h (noted mark id now h)
quiet-noted None id now h = quiet-same h
quiet-noted (Some mark) id now h = quiet-one (Auth id mark now) h tt
