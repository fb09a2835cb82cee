-- The first place of a context, by its number.
use Rattle.std.proofs.Common.{◌≡◌, ℕ, suc, ◌+◌, ◌<◌, Bool, true, false, List, [], ◌∷◌, length, Option, None, Some, ap, sym, ◌∙◌, arith, slice_index_or, slice_set, unwrap_or, if◌then◌else◌, subst, refl}
use Rattle.std.proofs.lemmas.Grind.{common_steps}
use Rattle.again_calls.specs.Kept.{PlaceOf, same_id, index_from, changed, acts_in}

-- a number that was found: the place there is the first of the context, and a change is made there
pub record Found (at : ℕ) (id : Option ℕ) (ps : List PlaceOf) (found : ℕ) : Type 0 where
  pub k : ℕ
  pub is : found ≡ at + k
  pub within : k < length ps
  pub makes : (to : PlaceOf → PlaceOf) (d : PlaceOf) → slice_set ps k (to (slice_index_or ps k d)) ≡ changed to id ps
  pub acts : (d : PlaceOf) → (slice_index_or ps k d).acts ≡ acts_in id ps

found-by : (b : Bool) (at : ℕ) (id : Option ℕ) (p : PlaceOf) (ps : List PlaceOf) (found : ℕ) → same_id p.id id ≡ b → (if b then Some at else index_from (at + 1) id ps) ≡ Some found
    → (index_from (at + 1) id ps ≡ Some found → Found (at + 1) id ps found) → Found at id (p ∷ ps) found
found-by true at id p ps found same e later = record {
  k = 0;
  is = omega (arith, ap (λ o. unwrap_or o 0) e);
  within = omega arith;
  makes = λ to d. rw same refl;
  acts = λ d. rw same refl;
}
found-by false at id p ps found same e later =
    let f : Found (at + 1) id ps found = later e in record {
      k = suc f.k;
      is = omega (arith, f.is);
      within = omega (arith, f.within);
      makes = λ to d. rw same (ap (λ (l : List PlaceOf). p ∷ l) (f.makes to d));
      acts = λ d. rw same (f.acts d);
    }

pub found : (at : ℕ) (id : Option ℕ) (ps : List PlaceOf) (number : ℕ) → index_from at id ps ≡ Some number → Found at id ps number
found at id [] number e = grind (arith, common_steps)
found at id (p ∷ ps) number e = found-by (same_id p.id id) at id p ps number refl e (found (at + 1) id ps number)

-- no place is the context's: a change changes nothing
pub record Missed (id : Option ℕ) (ps : List PlaceOf) : Type 0 where
  pub makes : (to : PlaceOf → PlaceOf) → changed to id ps ≡ ps
  pub acts : acts_in id ps ≡ []

missed-by : (b : Bool) (at : ℕ) (id : Option ℕ) (p : PlaceOf) (ps : List PlaceOf) → same_id p.id id ≡ b → (if b then Some at else index_from (at + 1) id ps) ≡ None
    → (index_from (at + 1) id ps ≡ None → Missed id ps) → Missed id (p ∷ ps)
missed-by true at id p ps same e later = grind (arith, common_steps)
missed-by false at id p ps same e later =
    let m : Missed id ps = later e in record {
      makes = λ to. rw same (ap (λ (l : List PlaceOf). p ∷ l) (m.makes to));
      acts = rw same m.acts;
    }

pub missed : (at : ℕ) (id : Option ℕ) (ps : List PlaceOf) → index_from at id ps ≡ None → Missed id ps
missed at id [] e = record { makes = λ to. refl; acts = refl }
missed at id (p ∷ ps) e = missed-by (same_id p.id id) at id p ps refl e (missed (at + 1) id ps)

-- the same from 0 on, with the number itself
pub record FoundAt (id : Option ℕ) (ps : List PlaceOf) (number : ℕ) : Type 0 where
  pub within : number < length ps
  pub makes : (to : PlaceOf → PlaceOf) (d : PlaceOf) → slice_set ps number (to (slice_index_or ps number d)) ≡ changed to id ps
  pub acts : (d : PlaceOf) → (slice_index_or ps number d).acts ≡ acts_in id ps

found-from : (id : Option ℕ) (ps : List PlaceOf) (number : ℕ) (f : Found 0 id ps number) → f.k ≡ number → FoundAt id ps number
found-from id ps number f is = subst (λ (n : ℕ). FoundAt id ps n) is (record { within = f.within; makes = f.makes; acts = f.acts })

pub found-at : (id : Option ℕ) (ps : List PlaceOf) (number : ℕ) → index_from 0 id ps ≡ Some number → FoundAt id ps number
found-at id ps number e =
    let f : Found 0 id ps number = found 0 id ps number e in
    found-from id ps number f (omega (arith, f.is))

-- as a search answers it
pub answered-at : (id : Option ℕ) (ps now : List PlaceOf) (result : Option ℕ) (number : ℕ) → ps ≡ now → result ≡ index_from 0 id now → result ≡ Some number → FoundAt id ps number
answered-at id ps now result number same e is = found-at id ps number (ap (index_from 0 id) same ∙ (sym e ∙ is))

pub answered-none : (id : Option ℕ) (now : List PlaceOf) (result : Option ℕ) → result ≡ index_from 0 id now → result ≡ None → Missed id now
answered-none id now result e is = missed 0 id now (sym e ∙ is)
