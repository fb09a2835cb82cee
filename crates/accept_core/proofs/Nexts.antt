-- The context of a table that gives its place to a new one, or there is none.
use Rattle.std.proofs.Common.{◌≡◌, ◌⊎◌, inl, inr, ℕ, zero, suc, ◌<◌, ◌≤◌, max, Bool, true, false, refl, arith, List, [], ◌∷◌, Option, Some, None, IfSome, IsSomeAnd}
use Rattle.std.specs.Prelude.{◌==◌, nat_lt}
use Rattle.std.proofs.lemmas.Bool.{cases_eq, cases_lt}
use Rattle.std.proofs.lemmas.Bool.Decides.{nat_tests}
use Rattle.context_table.specs.declared.slot.Slot.{Slot}
use Rattle.context_table.specs.Places.{Places, slot_in, slot_at, IsPast, IsWaiting, is_waiting}
use Rattle.accept_core.specs.Stepping.{IsNext}

-- ---- the first number of which a test holds

abbrev First : (ℕ → Bool) → ℕ → Type 0
First p k = (p k ≡ true) × ((j : ℕ) → j < k → p j ≡ false)

first-next : (p : ℕ → Bool) (n : ℕ) → ((k : ℕ) × First p k) ⊎ ((j : ℕ) → j < n → p j ≡ false) → ((k : ℕ) × First p k) ⊎ ((j : ℕ) → j < suc n → p j ≡ false)
first-next p n (inl found) = inl found
first-next p n (inr none) = go (p n) refl
  where
    go : (b : Bool) → p n ≡ b → ((k : ℕ) × First p k) ⊎ ((j : ℕ) → j < suc n → p j ≡ false)
    go true e = inl (n, (e, none))
    go false e = inr (λ j lt. elim (cases_eq j n) [ inl same ↦ rw same e | inr other ↦ none j (omega arith) ])

first : (p : ℕ → Bool) (n : ℕ) → ((k : ℕ) × First p k) ⊎ ((j : ℕ) → j < n → p j ≡ false)
first p zero = inr (λ j lt. absurd (omega arith))
first p (suc n) = first-next p n (first p n)

-- ---- the contexts of a table

-- whether a context is past its end
abbrev is_over : {N S : Type 0} → ℕ → Option (Slot N S) → Bool
is_over now None = false
is_over now (Some slot) = nat_lt slot.ends now

over : {N S : Type 0} (now : ℕ) (slot : Option (Slot N S)) → is_over now slot ≡ true → IsSomeAnd slot (λ s. s.ends < now)
over now None e = absurd cc
over now (Some slot) e = grind (arith, nat_tests)

lasts : {N S : Type 0} (now : ℕ) (slot : Option (Slot N S)) → is_over now slot ≡ false → IfSome slot (λ s. now ≤ s.ends)
lasts now None e = tt
lasts now (Some slot) e = grind (arith, nat_tests)

-- no context has an id from some number on
abbrev Bounds : {N S : Type 0} → List (Slot N S) → ℕ → Type 0
Bounds slots n = (id : ℕ) → n ≤ id → slot_in slots id ≡ None

bound-next : {N S : Type 0} (slot : Slot N S) (slots : List (Slot N S)) (n : ℕ) → Bounds slots n → Bounds (slot ∷ slots) (max (suc slot.id) n)
bound-next slot slots n none = λ id le. let e : (slot.id == id) ≡ false = grind (arith, nat_tests) in rw e (none id (omega arith))

bound : {N S : Type 0} (slots : List (Slot N S)) → (n : ℕ) × Bounds slots n
bound [] = (0, λ id le. refl)
bound (slot ∷ slots) = let b = bound slots in (max (suc slot.id) b.0, bound-next slot slots b.0 b.1)

-- the first context of which a test holds, or of none does it
abbrev FirstOf : {N S : Type 0} → (Option (Slot N S) → Bool) → Places N S → Type 0
FirstOf p table = ((k : ℕ) × First (λ id. p (slot_at table id)) k) ⊎ ((id : ℕ) → p (slot_at table id) ≡ false)

first-of : {N S : Type 0} (p : Option (Slot N S) → Bool) (table : Places N S) → p None ≡ false → FirstOf p table
first-of p table none = go (bound table.slots).0 (bound table.slots).1 (first (λ id. p (slot_at table id)) (bound table.slots).0)
  where
    go : (n : ℕ) → Bounds table.slots n → ((k : ℕ) × First (λ id. p (slot_at table id)) k) ⊎ ((j : ℕ) → j < n → p (slot_at table j) ≡ false) → FirstOf p table
    go n bounds (inl found) = inl found
    go n bounds (inr less) = inr (λ id. elim (cases_lt id n) [ inl lt ↦ less id lt | inr le ↦ rw (bounds id le) none ])

pub past-of : {N S : Type 0} (table : Places N S) (now : ℕ) → (past : Option ℕ) × IsPast table now past
past-of table now = go (first-of (is_over now) table refl)
  where
    go : FirstOf (is_over now) table → (past : Option ℕ) × IsPast table now past
    go (inl found) = (Some found.0, (over now (slot_at table found.0) found.1.0, λ other lt. lasts now (slot_at table other) (found.1.1 other lt)))
    go (inr none) = (None, λ id. lasts now (slot_at table id) (none id))

waiting-of : {N S : Type 0} (table : Places N S) → (waiting : Option ℕ) × IsWaiting table waiting
waiting-of table = go (first-of is_waiting table refl)
  where
    go : FirstOf is_waiting table → (waiting : Option ℕ) × IsWaiting table waiting
    go (inl found) = (Some found.0, (found.1.0, found.1.1))
    go (inr none) = (None, none)

-- the context that gives its place to a new one, or there is none
pub next-of : {N S : Type 0} (table : Places N S) (now : ℕ) → (next : Option ℕ) × IsNext table now next
next-of table now = go (past-of table now).0 (past-of table now).1
  where
    waits : (waiting : Option ℕ) → IsWaiting table waiting → IsPast table now None → 1 < table.limit → (next : Option ℕ) × IsNext table now next
    waits None none over many = (None, (over, λ more. none))
    waits (Some id) is over many = (Some id, inr (over, many, is))

    go : (past : Option ℕ) → IsPast table now past → (next : Option ℕ) × IsNext table now next
    go (Some id) is = (Some id, inl is)
    go None none = elim (cases_lt 1 table.limit) [
      | inl many ↦ waits (waiting-of table).0 (waiting-of table).1 none many
      | inr few ↦ (None, (none, λ many. absurd (omega (arith, many, few))))
    ]
