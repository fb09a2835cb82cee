-- What a legal log says of an id is what its entries are.
use Rattle.std.proofs.Common.{◌≡◌, ◌≢◌, ◌⊎◌, ℕ, ◌==◌, refl, sym, subst, arith, inl, inr, List, [], ◌∷◌}
use Rattle.std.specs.Prelude.{if◌then◌else◌}
use Rattle.std.proofs.lemmas.Bool.{cases_eq, eq-eqb, ne_eqb}
use Rattle.gss_base.specs.declared.mech.MechKind.{MechKind}
use Rattle.accept_core.specs.History.{Standing, Unknown, Open, Whole, Over, standing, IsOpen}
use Rattle.accept_core.specs.declared.entry.EndCause.{EndCause}
use Rattle.accept_core.specs.declared.entry.Entry.{Entry}
use Rattle.accept_core.specs.declared.entry.Entry.TheVariants.{Opened, Auth, Went, Settled, Call, Ended}
use Rattle.accept_core.proofs.Appended.{silent}
use Rattle.history_laws.specs.Says.{NeverOpened, NeverSettled, NeverEnded, SaysBy, SaysLaw}

-- an entry that neither opens the id nor settles nor ends it
record Else (id : ℕ) (entry : Entry) : Type 0 where
  opens : (at : ℕ) → entry ≡ Opened id at → ⊥
  settles : (mech : MechKind) (names : List ℕ) (ends at : ℕ) → entry ≡ Settled id mech names ends at → ⊥
  ends : (cause : EndCause) → entry ≡ Ended id cause → ⊥

never : {P Q : Type 0} → (P → ⊥) → (Q → ⊥) → P ⊎ Q → ⊥
never p q (inl a) = p a
never p q (inr b) = q b

unopened : (id : ℕ) (entry : Entry) (h : List Entry) → Else id entry → NeverOpened id h → NeverOpened id (entry ∷ h)
unopened id entry h e n = λ at. never (e.opens at) (n at)

unsettled : (id : ℕ) (entry : Entry) (h : List Entry) → ((mech : MechKind) (names : List ℕ) (ends at : ℕ) → entry ≡ Settled id mech names ends at → ⊥) → NeverSettled id h → NeverSettled id (entry ∷ h)
unsettled id entry h e n = λ mech names ends at. never (e mech names ends at) (n mech names ends at)

unended : (id : ℕ) (entry : Entry) (h : List Entry) → ((cause : EndCause) → entry ≡ Ended id cause → ⊥) → NeverEnded id h → NeverEnded id (entry ∷ h)
unended id entry h e n = λ cause. never (e cause) (n cause)

says-else : (stands : Standing) (id : ℕ) (entry : Entry) (h : List Entry) → Else id entry → SaysBy stands id h → SaysBy stands id (entry ∷ h)
says-else Unknown id entry h e s = (unopened id entry h e s.0, unsettled id entry h e.settles s.1, unended id entry h e.ends s.2)
says-else (Open at) id entry h e s = (inr s.0, unsettled id entry h e.settles s.1, unended id entry h e.ends s.2)
says-else (Whole mech names ends) id entry h e s = ((s.0.0, inr s.0.1), unended id entry h e.ends s.1)
says-else Over id entry h e s = (s.0, inr s.1)

-- ---- each kind of entry

opened-else : (i at id : ℕ) → i ≢ id → Else id (Opened i at)
opened-else i at id ne = record {
  opens = λ at' e. ne (let f : Opened i at ≡ Opened id at' = e in cc);
  settles = λ mech names ends at' e. let f : Opened i at ≡ Settled id mech names ends at' = e in cc;
  ends = λ cause e. let f : Opened i at ≡ Ended id cause = e in cc;
}

settled-else : (i : ℕ) (mech : MechKind) (names : List ℕ) (ends at id : ℕ) → i ≢ id → Else id (Settled i mech names ends at)
settled-else i mech names ends at id ne = record {
  opens = λ at' e. let f : Settled i mech names ends at ≡ Opened id at' = e in cc;
  settles = λ mech' names' ends' at' e. ne (let f : Settled i mech names ends at ≡ Settled id mech' names' ends' at' = e in cc);
  ends = λ cause e. let f : Settled i mech names ends at ≡ Ended id cause = e in cc;
}

ended-else : (i : ℕ) (cause : EndCause) (id : ℕ) → i ≢ id → Else id (Ended i cause)
ended-else i cause id ne = record {
  opens = λ at e. let f : Ended i cause ≡ Opened id at = e in cc;
  settles = λ mech names ends at e. let f : Ended i cause ≡ Settled id mech names ends at = e in cc;
  ends = λ cause' e. ne (let f : Ended i cause ≡ Ended id cause' = e in cc);
}

auth-else : (i : ℕ) (mark : _) (at id : ℕ) → Else id (Auth i mark at)
auth-else i mark at id = record {
  opens = λ at' e. let f : Auth i mark at ≡ Opened id at' = e in cc;
  settles = λ mech names ends at' e. let f : Auth i mark at ≡ Settled id mech names ends at' = e in cc;
  ends = λ cause e. let f : Auth i mark at ≡ Ended id cause = e in cc;
}

went-else : (i at id : ℕ) → Else id (Went i at)
went-else i at id = record {
  opens = λ at' e. let f : Went i at ≡ Opened id at' = e in cc;
  settles = λ mech names ends at' e. let f : Went i at ≡ Settled id mech names ends at' = e in cc;
  ends = λ cause e. let f : Went i at ≡ Ended id cause = e in cc;
}

call-else : (i seq procedure : ℕ) (args : List ℕ) (id : ℕ) → Else id (Call i seq procedure args)
call-else i seq procedure args id = record {
  opens = λ at e. let f : Call i seq procedure args ≡ Opened id at = e in cc;
  settles = λ mech names ends at e. let f : Call i seq procedure args ≡ Settled id mech names ends at = e in cc;
  ends = λ cause e. let f : Call i seq procedure args ≡ Ended id cause = e in cc;
}

-- ---- the entry of the id itself

own-opened : (id at : ℕ) (h : List Entry) (stands : Standing) → stands ≡ Unknown → SaysBy stands id h → SaysBy (Open at) id (Opened id at ∷ h)
own-opened id at h stands is s =
    let u : SaysBy Unknown id h = subst (λ (x : Standing). SaysBy x id h) is s in (
      inl refl,
      unsettled id (Opened id at) h (λ mech names ends at' e. let f : Opened id at ≡ Settled id mech names ends at' = e in cc) u.1,
      unended id (Opened id at) h (λ cause e. let f : Opened id at ≡ Ended id cause = e in cc) u.2,
    )

own-settled : (id : ℕ) (mech : MechKind) (names : List ℕ) (ends at : ℕ) (h : List Entry) (stands : Standing) → IsOpen stands → SaysBy stands id h → SaysBy (Whole mech names ends) id (Settled id mech names ends at ∷ h)
own-settled id mech names ends at h Unknown o s = absurd o
own-settled id mech names ends at h (Open was) o s =
    ((at, inl refl), unended id (Settled id mech names ends at) h (λ cause e. let f : Settled id mech names ends at ≡ Ended id cause = e in cc) s.2)
own-settled id mech names ends at h (Whole m n u) o s = absurd o
own-settled id mech names ends at h Over o s = absurd o

-- the same where a test tells whether the entry is of the id
by-id : (i id : ℕ) (entry : Entry) (h : List Entry) (own : Standing) → (i ≡ id → SaysBy own id (entry ∷ h)) → (i ≢ id → SaysBy (standing id h) id (entry ∷ h))
    → SaysBy (if i == id then own else standing id h) id (entry ∷ h)
by-id i id entry h own f g = elim (cases_eq i id) [
  | inl e ↦ rw (eq-eqb i id e) (f e)
  | inr ne ↦ rw (ne_eqb i id ne) (g ne)
]

pub says : SaysLaw
says width [] id legal = (λ at none. none, λ mech names ends at none. none, λ cause none. none)
says width (Opened i at ∷ h) id legal =
    by-id i id (Opened i at) h (Open at)
    (λ e. subst (λ (k : ℕ). SaysBy (Open at) id (Opened k at ∷ h)) (sym e)
    (own-opened id at h (standing id h) (silent width h id legal.1 (omega (arith, e, legal.0.0))).stands (says width h id legal.1)))
    (λ ne. says-else (standing id h) id (Opened i at) h (opened-else i at id ne) (says width h id legal.1))
says width (Auth i mark at ∷ h) id legal = says-else (standing id h) id (Auth i mark at) h (auth-else i mark at id) (says width h id legal.1)
says width (Went i at ∷ h) id legal = says-else (standing id h) id (Went i at) h (went-else i at id) (says width h id legal.1)
says width (Settled i mech names ends at ∷ h) id legal =
    by-id i id (Settled i mech names ends at) h (Whole mech names ends)
    (λ e. subst (λ (k : ℕ). SaysBy (Whole mech names ends) id (Settled k mech names ends at ∷ h)) (sym e)
    (own-settled id mech names ends at h (standing id h) (subst (λ (k : ℕ). IsOpen (standing k h)) e legal.0.0) (says width h id legal.1)))
    (λ ne. says-else (standing id h) id (Settled i mech names ends at) h (settled-else i mech names ends at id ne) (says width h id legal.1))
says width (Call i seq procedure args ∷ h) id legal = says-else (standing id h) id (Call i seq procedure args) h (call-else i seq procedure args id) (says width h id legal.1)
says width (Ended i cause ∷ h) id legal =
    by-id i id (Ended i cause) h Over
    (λ e. subst (λ (k : ℕ). SaysBy Over id (Ended k cause ∷ h)) (sym e) (cause, inl refl))
    (λ ne. says-else (standing id h) id (Ended i cause) h (ended-else i cause id ne) (says width h id legal.1))
