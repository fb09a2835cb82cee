-- Makings in lists that are appended.
use Rattle.std.proofs.Common.{◌⊎◌, inl, inr, [], ◌∷◌, ◌++◌, List}
use Rattle.scram_mech.specs.MechMaking.{MechMaking, AmongMakings}

pub among_front : (front back : List MechMaking) (making : MechMaking) → AmongMakings front making → AmongMakings (front ++ back) making
among_front [] back making h = absurd h
among_front (first ∷ front) back making (inl e) = inl e
among_front (first ∷ front) back making (inr h) = inr (among_front front back making h)

pub among_back : (front back : List MechMaking) (making : MechMaking) → AmongMakings back making → AmongMakings (front ++ back) making
among_back [] back making h = h
among_back (first ∷ front) back making h = inr (among_back front back making h)

pub among_split : (front back : List MechMaking) (making : MechMaking) → AmongMakings (front ++ back) making → AmongMakings front making ⊎ AmongMakings back making
among_split [] back making h = inr h
among_split (first ∷ front) back making (inl e) = inl (inl e)
among_split (first ∷ front) back making (inr h) = elim (among_split front back making h) [ inl a ↦ inl (inr a) | inr b ↦ inr b ]
