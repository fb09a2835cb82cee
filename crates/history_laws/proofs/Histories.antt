-- A log only grows by a token.
use Rattle.std.proofs.Common.{◌≡◌, ℕ, ◌<◌, Bool, true, false, refl, sym, ap, subst, arith, suc, List, [], ◌∷◌, ◌++◌, length, length-append, Option, Some}
use Rattle.std.specs.Prelude.{◌==◌, if◌then◌else◌}
use Rattle.std.proofs.lemmas.Bool.{ne_eqb, eqb-true}
use Rattle.std.proofs.lemmas.Option.{none-some}
use Rattle.spnego_core.specs.declared.setup.AcceptSetup.{AcceptSetup}
use Rattle.accept_core.specs.declared.entry.Entry.{Entry}
use Rattle.accept_core.specs.History.{entry_at}
use Rattle.accept_book.specs.Booking.{Stands, after_refusal, negotiated}
use Rattle.accept_book.proofs.LogWalk.{Walk, refusal-walk, negotiated-walk}

-- the new history is the old one with entries in front
pub record Fronts (old new : List Entry) : Type 0 where
  pub more : List Entry
  pub is : new ≡ more ++ old

pub no-front : (h : List Entry) → Fronts h h
no-front h = record { more = []; is = refl }

pub one-front : (entry : Entry) (old new : List Entry) → Fronts old new → Fronts old (entry ∷ new)
one-front entry old new f = record { more = entry ∷ f.more; is = ap (λ (h : List Entry). entry ∷ h) f.is }

pub same-front : (old new : List Entry) → new ≡ old → Fronts old new
same-front old new e = record { more = []; is = e }

-- what stands in the log stays at its place
within-by : (h : List Entry) (first : Entry) (place : ℕ) (entry : Entry) (b : Bool) → (place == length h) ≡ b → (entry_at place h ≡ Some entry → place < length h)
    → (if b then Some first else entry_at place h) ≡ Some entry → place < suc (length h)
within-by h first place entry true t later e = omega (arith, eqb-true place (length h) t)
within-by h first place entry false t later e = omega (arith, later e)

entry-within : (h : List Entry) (place : ℕ) (entry : Entry) → entry_at place h ≡ Some entry → place < length h
entry-within [] place entry e = absurd (none-some entry e)
entry-within (first ∷ h) place entry e = within-by h first place entry (place == length h) refl (λ later. entry-within h place entry later) e

entry-behind : (more h : List Entry) (place : ℕ) (entry : Entry) → place < length h → entry_at place h ≡ Some entry → entry_at place (more ++ h) ≡ Some entry
entry-behind [] h place entry lt e = e
entry-behind (first ∷ more) h place entry lt e =
    rw (ne_eqb place (length (more ++ h)) (λ q. omega (arith, lt, q, length-append more h))) (entry-behind more h place entry lt e)

pub entry-stays : (old new : List Entry) (place : ℕ) (entry : Entry) → Fronts old new → entry_at place old ≡ Some entry → entry_at place new ≡ Some entry
entry-stays old new place entry f e = subst (λ (h : List Entry). entry_at place h ≡ Some entry) (sym f.is) (entry-behind f.more old place entry (entry-within old place entry e) e)

-- ---- what a token makes of it

front-walk : Walk Fronts
front-walk = record { none = no-front; one = λ entry old new un f. one-front entry old new f }

pub refusal-front : (id : Option ℕ) (h : List Entry) → Fronts h (after_refusal id h)
refusal-front id h = refusal-walk front-walk id h

pub negotiated-front : (setup : AcceptSetup) (book : Stands) (id past : Option ℕ) (token : List ℕ) (now : ℕ) (draws : List ℕ) → Fronts book.history (negotiated setup book id past token now draws).history
negotiated-front setup book id past token now draws = negotiated-walk front-walk setup book id past token now draws
