-- How blank objects are taken out of a list, one for each credential.
use Rattle.std.proofs.Common.{◌≡◌, ℕ, ◌+◌, suc, ◌<◌, Bool, true, false, not, ◌&&◌, ◌||◌, refl, sym, ap, ◌∙◌, subst, arith, List, [], ◌∷◌, ◌++◌, map, length, Some}
use Rattle.std.specs.Prelude.{slice_index_or}
use Rattle.std.specs.List.{remove}
use lib.Pointwise.{bytes_decides}
use Rattle.gss_base.specs.declared.mech.MechKind.{MechKind}
use Rattle.gss_base.specs.declared.mech.MechName.{MechName}
use Rattle.gss_base.specs.Mech.{oid_named, kind_named, mech_of}
use Rattle.spnego_core.specs.declared.setup.MechCred.{MechCred}
use Rattle.spnego_core.specs.Choice.{is_same_oid}
use Rattle.spnego_core.specs.InitMech.{kind_of, name_of, oid_listed}
use Rattle.spnego_core.specs.InitMech as plain_lists
use Rattle.mech_objects.specs.Meaning.{MechSays, blank}
use Rattle.mech_objects.specs.Standard.{blank_of, standard}
use Rattle.init_ends.specs.Arming.{IsBlank, AreBlank, has_oid, place_of, without}
use Rattle.init_ends.specs.Plain.{fresh_of}
use Rattle.init_ends.proofs.PlainNames.{mech-listed, kind-named}

-- the mechanism of a credential's name is its own
pub named_kind : (cred : MechCred) → kind_of cred ≡ kind_named (name_of cred)
named_kind cred = sym (kind-named cred)

or-later : (b rest : Bool) → b ≡ false → (b || rest) ≡ true → rest ≡ true
or-later false rest e h = h
or-later true rest e h = cc

or-more : (b rest : Bool) → (b ≡ false → rest ≡ true) → (b || rest) ≡ true
or-more true rest h = refl
or-more false rest h = h refl

one-more : (n : ℕ) → 1 + n ≡ suc n
one-more n = omega arith

-- ---- one object

-- a blank object under a credential's identifier is the one of its name
blank-is : (m : MechSays) (cred : MechCred) → IsBlank m → is_same_oid m.oid (oid_listed cred) ≡ true → m ≡ blank_of (name_of cred)
blank-is m cred h e =
    let oid : m.oid ≡ oid_listed cred = (bytes_decides m.oid (oid_listed cred)).0 e in
    let found : Some m.kind ≡ Some (kind_of cred) = sym h.1 ∙ (ap mech_of oid ∙ mech-listed cred) in
    let kind : m.kind ≡ kind_of cred = cc in
    h.0 ∙ (ap (λ (k : MechKind). blank k m.oid standard) (kind ∙ named_kind cred) ∙ ap (λ (o : List ℕ). blank (kind_named (name_of cred)) o standard) oid)

module _ {X : Type 0} (f : X → MechSays) where
  at-by : (x : X) (rest : List X) (cred : MechCred) (d : X) → IsBlank (f x) → (has_oid (map f rest) (oid_listed cred) ≡ true → f (slice_index_or rest (place_of (map f rest) (oid_listed cred)) d) ≡ blank_of (name_of cred))
      → (b : Bool) → is_same_oid (f x).oid (oid_listed cred) ≡ b → has_oid (f x ∷ map f rest) (oid_listed cred) ≡ true
      → f (slice_index_or (x ∷ rest) (place_of (f x ∷ map f rest) (oid_listed cred)) d) ≡ blank_of (name_of cred)
  at-by x rest cred d h more true e there = rw e (blank-is (f x) cred h e)
  at-by x rest cred d h more false e there = rw (e, one-more (place_of (map f rest) (oid_listed cred))) (more (or-later _ _ e there))

  -- the object that is taken is the one of the credential's name
  pub taken_at : (xs : List X) (cred : MechCred) (d : X) → AreBlank (map f xs) → has_oid (map f xs) (oid_listed cred) ≡ true
      → f (slice_index_or xs (place_of (map f xs) (oid_listed cred)) d) ≡ blank_of (name_of cred)
  taken_at [] cred d h there = cc
  taken_at (x ∷ rest) cred d h there = at-by x rest cred d h.0 (taken_at rest cred d h.1) (is_same_oid (f x).oid (oid_listed cred)) refl there

  in-by : (x : X) (rest : List X) (oid : List ℕ) → (has_oid (map f rest) oid ≡ true → place_of (map f rest) oid < length rest)
      → (b : Bool) → is_same_oid (f x).oid oid ≡ b → has_oid (f x ∷ map f rest) oid ≡ true → place_of (f x ∷ map f rest) oid < length (x ∷ rest)
  in-by x rest oid more true e there = rw e (omega arith)
  in-by x rest oid more false e there = let lower : place_of (map f rest) oid < length rest = more (or-later _ _ e there) in rw e (omega arith)

  -- there is one
  pub taken_in : (xs : List X) (oid : List ℕ) → has_oid (map f xs) oid ≡ true → place_of (map f xs) oid < length xs
  taken_in [] oid there = cc
  taken_in (x ∷ rest) oid there = in-by x rest oid (taken_in rest oid) (is_same_oid (f x).oid oid) refl there

  others-by : (x : X) (rest : List X) (oid : List ℕ) → (has_oid (map f rest) oid ≡ true → map f (remove rest (place_of (map f rest) oid)) ≡ without (map f rest) oid)
      → (b : Bool) → is_same_oid (f x).oid oid ≡ b → has_oid (f x ∷ map f rest) oid ≡ true → map f (remove (x ∷ rest) (place_of (f x ∷ map f rest) oid)) ≡ without (f x ∷ map f rest) oid
  others-by x rest oid more true e there = rw e refl
  others-by x rest oid more false e there = rw (e, one-more (place_of (map f rest) oid)) (ap (λ (ms : List MechSays). f x ∷ ms) (more (or-later _ _ e there)))

  -- the others are left
  pub taken_others : (xs : List X) (oid : List ℕ) → has_oid (map f xs) oid ≡ true → map f (remove xs (place_of (map f xs) oid)) ≡ without (map f xs) oid
  taken_others [] oid there = cc
  taken_others (x ∷ rest) oid there = others-by x rest oid (taken_others rest oid) (is_same_oid (f x).oid oid) refl there

-- ---- the others

blank-by : (m : MechSays) (rest : List MechSays) (oid : List ℕ) → IsBlank m → AreBlank rest → AreBlank (without rest oid) → (b : Bool) → is_same_oid m.oid oid ≡ b → AreBlank (without (m ∷ rest) oid)
blank-by m rest oid h all more true e = rw e all
blank-by m rest oid h all more false e = rw e (h, more)

-- they are blank
pub blank_without : (list : List MechSays) (oid : List ℕ) → AreBlank list → AreBlank (without list oid)
blank_without [] oid h = tt
blank_without (m ∷ rest) oid h = blank-by m rest oid h.0 h.1 (blank_without rest oid h.1) (is_same_oid m.oid oid) refl

stays-by : (m : MechSays) (rest : List MechSays) (a b : List ℕ) → is_same_oid a b ≡ false → (has_oid rest b ≡ true → has_oid (without rest a) b ≡ true)
    → (t : Bool) → is_same_oid m.oid a ≡ t → has_oid (m ∷ rest) b ≡ true → has_oid (without (m ∷ rest) a) b ≡ true
stays-by m rest a b e more true f there =
    let apart : is_same_oid m.oid b ≡ false = subst (λ (x : List ℕ). is_same_oid x b ≡ false) (sym ((bytes_decides m.oid a).0 f)) e in
    rw f (or-later _ _ apart there)
stays-by m rest a b e more false f there = rw f (or-more _ _ (λ apart. more (or-later _ _ apart there)))

-- one under another identifier is still there
stays : (list : List MechSays) (a b : List ℕ) → is_same_oid a b ≡ false → has_oid list b ≡ true → has_oid (without list a) b ≡ true
stays [] a b e there = there
stays (m ∷ rest) a b e there = stays-by m rest a b e (stays rest a b e) (is_same_oid m.oid a) refl there

-- ---- a credential after the other

-- there is an object for each of these credentials
abbrev pub Armable : List MechSays → List MechCred → Type 0
Armable mechs [] = Unit {0}
Armable mechs (cred ∷ rest) = (has_oid mechs (oid_listed cred) ≡ true) × Armable (without mechs (oid_listed cred)) rest

unsame : (b : Bool) → not b ≡ true → b ≡ false
unsame false e = refl
unsame true e = cc

first-and : (a b : Bool) → (a && b) ≡ true → a ≡ true
first-and true b e = refl
first-and false b e = e

last-and : (a b : Bool) → (a && b) ≡ true → b ≡ true
last-and true b e = e
last-and false b e = cc

pub armable : (mechs : List MechSays) (creds : List MechCred) → ((name : MechName) → has_oid mechs (oid_named name) ≡ true) → plain_lists.is_own_list creds ≡ true → Armable mechs creds
armable mechs [] h e = tt
armable mechs (a ∷ []) h e = (h (name_of a), tt)
armable mechs (a ∷ b ∷ []) h e = (h (name_of a), (stays mechs (oid_listed a) (oid_listed b) (unsame _ e) (h (name_of b)), tt))
armable mechs (a ∷ b ∷ c ∷ []) h e =
    let later : (not (is_same_oid (oid_listed a) (oid_listed c)) && not (is_same_oid (oid_listed b) (oid_listed c))) ≡ true = last-and _ _ e in
    let has_c : has_oid (without mechs (oid_listed a)) (oid_listed c) ≡ true = stays mechs (oid_listed a) (oid_listed c) (unsame _ (first-and _ _ later)) (h (name_of c)) in (
      h (name_of a),
      (
        stays mechs (oid_listed a) (oid_listed b) (unsame _ (first-and _ _ e)) (h (name_of b)),
        (stays (without mechs (oid_listed a)) (oid_listed b) (oid_listed c) (unsame _ (last-and _ _ later)) has_c, tt),
      ),
    )
armable mechs (a ∷ b ∷ c ∷ d ∷ rest) h e = cc

-- once one is taken for the first of them, there is one for each of the others
pub armable_more : (mechs : List MechSays) (cred : MechCred) (creds : List MechCred) → Armable mechs creds → (rest : List MechCred) → creds ≡ cred ∷ rest → (others : List MechSays) → others ≡ without mechs (oid_listed cred) → Armable others rest
armable_more mechs cred creds h rest e others f =
    let both : Armable mechs (cred ∷ rest) = subst (Armable mechs) e h in
    subst (λ (x : List MechSays). Armable x rest) (sym f) both.1

pub blank_more : (mechs : List MechSays) (cred : MechCred) → AreBlank mechs → (others : List MechSays) → others ≡ without mechs (oid_listed cred) → AreBlank others
blank_more mechs cred h others f = subst AreBlank (sym f) (blank_without mechs (oid_listed cred) h)

module _ {X : Type 0} (f : X → MechSays) where
  shifted : (xs : List X) (x : X) (cred : MechCred) (rest : List MechCred) → f x ≡ fresh_of cred → map f (xs ++ x ∷ []) ++ map fresh_of rest ≡ map f xs ++ fresh_of cred ∷ map fresh_of rest
  shifted [] x cred rest e = ap (λ (m : MechSays). m ∷ map fresh_of rest) e
  shifted (first ∷ xs) x cred rest e = ap (λ (ms : List MechSays). f first ∷ ms) (shifted xs x cred rest e)

  -- the armed objects and those that are still to come are those of all credentials
  pub armed_more : (xs : List X) (x : X) (cred : MechCred) (creds : List MechCred) (all : List MechSays) → map f xs ++ map fresh_of creds ≡ all → f x ≡ fresh_of cred
      → (rest : List MechCred) → creds ≡ cred ∷ rest → (ys : List X) → ys ≡ xs ++ x ∷ [] → map f ys ++ map fresh_of rest ≡ all
  armed_more xs x cred creds all h e rest g ys k =
      ap (λ (zs : List X). map f zs ++ map fresh_of rest) k ∙ (shifted xs x cred rest e ∙ (ap (λ (cs : List MechCred). map f xs ++ map fresh_of cs) (sym g) ∙ h))
