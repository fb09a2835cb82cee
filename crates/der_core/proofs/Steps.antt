-- What follows from a step of a reading that was not refused.
use Rattle.std.proofs.Common.{◌≡◌, ℕ, ◌+◌, ◌<◌, Bool, true, false, cond, ◌&&◌, ◌⊎◌, inl, inr, List, ◌∷◌, take, drop, Result, Ok, Err, refl, arith}
use Rattle.std.proofs.lemmas.Bool.{cases_lt}
use Rattle.std.proofs.lemmas.List.{get_or-drop, get_or-take, get_or_past, length-take}
use Rattle.der_core.specs.declared.refusal.DerRefusal.{DerRefusal}
use Rattle.der_core.specs.Format.{◌>>=◌, AreOctets}

-- the value of a step that was not refused
pub bind_ok : {A B : Type 0} (r : Result A DerRefusal) (f : A → Result B DerRefusal) (y : B) → (r >>= f) ≡ Ok y → (x : A) × (r ≡ Ok x) × (f x ≡ Ok y)
bind_ok (Ok x) f y e = (x, refl, e)
bind_ok (Err d) f y e = absurd cc

-- a test that did not refuse
pub refused_not : {A : Type 0} (b : Bool) (d : DerRefusal) (r : Result A DerRefusal) (y : A) → cond b (Err d) r ≡ Ok y → (b ≡ false) × (r ≡ Ok y)
refused_not true d r y e = absurd cc
refused_not false d r y e = (refl, e)

-- a test that did not refuse, the other way round
pub passed : {A : Type 0} (b : Bool) (d : DerRefusal) (r : Result A DerRefusal) (y : A) → cond b r (Err d) ≡ Ok y → (b ≡ true) × (r ≡ Ok y)
passed true d r y e = (refl, e)
passed false d r y e = absurd cc

-- which way a choice went
pub chosen : {A : Type 0} (b : Bool) (x y z : A) → cond b x y ≡ z → ((b ≡ true) × (x ≡ z)) ⊎ ((b ≡ false) × (y ≡ z))
chosen true x y z e = inl (refl, e)
chosen false x y z e = inr (refl, e)

abbrev done : {A : Type 0} → A → Result A DerRefusal
done x = Ok x

pub ok_is : {A : Type 0} (x y : A) → done x ≡ done y → x ≡ y
ok_is x y e = cc

pub refused_is : {A : Type 0} (d : DerRefusal) (y : A) → Err d ≡ done y → ⊥
refused_is d y e = cc

pub both : (a b : Bool) → (a && b) ≡ true → (a ≡ true) × (b ≡ true)
both true b e = (refl, e)
both false b e = absurd cc

pub octets-drop : (n : ℕ) (os : List ℕ) → AreOctets os → AreOctets (drop n os)
octets-drop n os h = record { each = λ i. rw get_or-drop (h.each (n + i)) }

pub octets-take : (n : ℕ) (os : List ℕ) → AreOctets os → AreOctets (take n os)
octets-take n os h = record {
  each = λ i.
      elim (cases_lt i n) [
        | inl lt ↦ rw (get_or-take n os i 0 lt) (h.each i)
        | inr le ↦ rw (get_or_past (take n os) i 0 (omega (arith, length-take n os))) (omega arith)
      ];
}

pub octets-first : (o : ℕ) (os : List ℕ) → AreOctets (o ∷ os) → o < 256
octets-first o os h = h.each 0

pub octets-rest : (o : ℕ) (os : List ℕ) → AreOctets (o ∷ os) → AreOctets os
octets-rest o os h = octets-drop 1 (o ∷ os) h
