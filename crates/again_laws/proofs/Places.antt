-- Places that are given, taken back and filled.
use Rattle.std.proofs.Common.{◌≡◌, ℕ, suc, ◌+◌, ◌<◌, ◌≤◌, true, false, List, [], ◌∷◌, ◌++◌, length, Option, None, Some, ap, ◌∙◌, arith, refl, inl, inr}
use Rattle.std.specs.Prelude.{if◌then◌else◌}
use Rattle.std.proofs.lemmas.Bool.{cases_Bool, eq-eqb, eqb-true}
use Rattle.again_calls.specs.declared.place.Act.{Act}
use Rattle.again_calls.specs.Kept.{PlaceOf, newest, same_id, changed, given_to, added_to, acts_in, acts_of}

-- how many places are this context's, or free
abbrev pub count : Option ℕ → List PlaceOf → ℕ
count id [] = 0
count id (p ∷ ps) = (if same_id p.id id then 1 else 0) + count id ps

pub same-is : (a b : Option ℕ) → same_id a b ≡ true → a ≡ b
same-is None None e = refl
same-is None (Some b) e = cc
same-is (Some a) None e = cc
same-is (Some a) (Some b) e = ap Some (eqb-true a b e)

pub same-itself : (a : Option ℕ) → same_id a a ≡ true
same-itself None = refl
same-itself (Some a) = eq-eqb a a refl

-- ---- a place is given from one to another

-- other contexts' places and calls stay
pub record Others (from to other : Option ℕ) (ps : List PlaceOf) : Type 0 where
  pub count : count other (given_to from to ps) ≡ count other ps
  pub acts : acts_in other (given_to from to ps) ≡ acts_in other ps

pub others-stay : (from to other : Option ℕ) → same_id from other ≡ false → same_id to other ≡ false → (ps : List PlaceOf) → Others from to other ps
others-stay from to other nf nt [] = record { count = refl; acts = refl }
others-stay from to other nf nt (p ∷ ps) =
    elim (cases_Bool (same_id p.id from)) [
      | inl same ↦
          let e : same_id p.id other ≡ false = ap (λ (o : Option ℕ). same_id o other) (same-is p.id from same) ∙ nf in
          record { count = rw (same, e, nt) refl; acts = rw (same, e, nt) refl }
      | inr not ↦
          let later : Others from to other ps = others-stay from to other nf nt ps in
          record {
            count = rw not (ap (λ (n : ℕ). (if same_id p.id other then 1 else 0) + n) later.count);
            acts = rw not (ap (λ (l : List Act). if same_id p.id other then p.acts else l) later.acts);
          }
    ]

-- one place fewer is the one's, and one more the other's
pub record Moved (from to : Option ℕ) (ps : List PlaceOf) : Type 0 where
  pub fewer : count from (given_to from to ps) + 1 ≡ count from ps
  pub more : count to (given_to from to ps) ≡ count to ps + 1
  pub none : count to ps ≡ 0 → acts_in to (given_to from to ps) ≡ []

pub moves : (from to : Option ℕ) → same_id from to ≡ false → same_id to from ≡ false → (ps : List PlaceOf) → 0 < count from ps → Moved from to ps
moves from to ne en [] some = absurd (omega (arith, some))
moves from to ne en (p ∷ ps) some =
    elim (cases_Bool (same_id p.id from)) [
      | inl same ↦
          let e : same_id p.id to ≡ false = ap (λ (o : Option ℕ). same_id o to) (same-is p.id from same) ∙ ne in
          record { fewer = rw (same, en) (omega arith); more = rw (same, e, same-itself to) (omega arith); none = λ z. rw (same, same-itself to) refl }
      | inr not ↦
          let later : Moved from to ps = moves from to ne en ps (omega (arith, (rw not at some))) in
          record {
            fewer = rw (not, not) (omega (arith, later.fewer));
            more = rw not (omega (arith, later.more));
            none = λ z. rw (not, off to p ps z) (later.none (rest to p ps z));
          }
    ]
  where
    off : (to : Option ℕ) (p : PlaceOf) (ps : List PlaceOf) → (if same_id p.id to then 1 else 0) + count to ps ≡ 0 → same_id p.id to ≡ false
    off to p ps z = elim (cases_Bool (same_id p.id to)) [ inl y ↦ absurd (omega (arith, (rw y at z))) | inr n ↦ n ]

    rest : (to : Option ℕ) (p : PlaceOf) (ps : List PlaceOf) → (if same_id p.id to then 1 else 0) + count to ps ≡ 0 → count to ps ≡ 0
    rest to p ps z = omega (arith, z)

-- ---- a call is kept

pub record Kept (id : ℕ) (act : Act) (other : Option ℕ) (ps : List PlaceOf) : Type 0 where
  pub count : count other (added_to id act ps) ≡ count other ps
  pub acts : same_id (Some id) other ≡ false → acts_in other (added_to id act ps) ≡ acts_in other ps

pub keeps : (id : ℕ) (act : Act) (other : Option ℕ) (ps : List PlaceOf) → Kept id act other ps
keeps id act other [] = record { count = refl; acts = λ ne. refl }
keeps id act other (p ∷ ps) =
    elim (cases_Bool (same_id p.id (Some id))) [
      | inl same ↦ record {
        count = rw same refl;
        acts = λ ne. let e : same_id p.id other ≡ false = ap (λ (o : Option ℕ). same_id o other) (same-is p.id (Some id) same) ∙ ne in rw (same, e) refl;
      }
      | inr not ↦
          let later : Kept id act other ps = keeps id act other ps in
          record {
            count = rw not (ap (λ (n : ℕ). (if same_id p.id other then 1 else 0) + n) later.count);
            acts = λ ne. rw not (ap (λ (l : List Act). if same_id p.id other then p.acts else l) (later.acts ne));
          }
    ]

-- all places have room for so many calls
abbrev pub AreWide : ℕ → List PlaceOf → Type 0
AreWide width [] = Unit {0}
AreWide width (p ∷ ps) = (p.width ≡ width) × AreWide width ps

pub keeps-own : (width id : ℕ) (act : Act) (ps : List PlaceOf) → AreWide width ps → 0 < count (Some id) ps → acts_of id (added_to id act ps) ≡ newest width (acts_of id ps ++ act ∷ [])
keeps-own width id act [] wide some = absurd (omega (arith, some))
keeps-own width id act (p ∷ ps) wide some =
    elim (cases_Bool (same_id p.id (Some id))) [
      | inl same ↦ rw (same, same, wide.0) refl
      | inr not ↦ rw (not, not) (keeps-own width id act ps wide.1 (omega (arith, (rw not at some))))
    ]

pub wide-changed : (width : ℕ) (to : PlaceOf → PlaceOf) (id : Option ℕ) → ((p : PlaceOf) → (to p).width ≡ p.width) → (ps : List PlaceOf) → AreWide width ps → AreWide width (changed to id ps)
wide-changed width to id same [] wide = tt
wide-changed width to id same (p ∷ ps) wide =
    elim (cases_Bool (same_id p.id id)) [
      | inl y ↦ rw y (same p ∙ wide.0, wide.1)
      | inr n ↦ rw n (wide.0, wide-changed width to id same ps wide.1)
    ]

pub long-changed : (to : PlaceOf → PlaceOf) (id : Option ℕ) (ps : List PlaceOf) → length (changed to id ps) ≡ length ps
long-changed to id [] = refl
long-changed to id (p ∷ ps) = elim (cases_Bool (same_id p.id id)) [ inl y ↦ rw y refl | inr n ↦ rw n (ap suc (long-changed to id ps)) ]

-- a place is free or a context's, and not both
pub count-both : (id : ℕ) (ps : List PlaceOf) → count None ps + count (Some id) ps ≤ length ps
count-both id [] = omega arith
count-both id (p ∷ ps) =
    elim (cases_Bool (same_id p.id None)) [
      | inl y ↦ let e : same_id p.id (Some id) ≡ false = ap (λ (o : Option ℕ). same_id o (Some id)) (same-is p.id None y) in rw (y, e) (omega (arith, count-both id ps))
      | inr n ↦ elim (cases_Bool (same_id p.id (Some id))) [ inl y ↦ rw (n, y) (omega (arith, count-both id ps)) | inr m ↦ rw (n, m) (omega (arith, count-both id ps)) ]
    ]
