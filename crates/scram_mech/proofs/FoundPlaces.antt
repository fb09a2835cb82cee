-- The places of lines, found by their names.
use Rattle.std.proofs.Common.{◌≡◌, ◌∙◌, ℕ, zero, suc, ◌+◌, ◌-◌, ◌<◌, ◌≤◌, Bool, true, false, cond, List, [], ◌∷◌, ◌++◌, length, take, drop, get_or, length-take-le, Option, Err, Some, None, is_some, refl, sym, ap, subst, arith}
use Rattle.std.specs.Prelude.{slice_get}
use Rattle.std.proofs.lemmas.List.{take_more}
use Rattle.scram_mech.specs.declared.verifiers.Verifier.{Verifier}
use Rattle.scram_mech.specs.declared.user_places.Places.{Places}
use Rattle.scram_mech.specs.Judging.{same}
use Rattle.scram_mech.specs.declared.refusal.VerifierRefusal.TheVariants.{Twice}
use Rattle.scram_mech.specs.Verifiers.{line_for, is_there, once}
use Rattle.scram_mech.specs.UserPlaces.{place_of, place_from, AreFound}
use Rattle.scram_mech.proofs.FileLaws.{same_is}

same_place : (a b : ℕ) → ◌≡◌ {A = Option ℕ} (Some a) (Some b) → a ≡ b
same_place a b e = cc

no_place : (a : ℕ) → ◌≡◌ {A = Option ℕ} (Some a) None → ⊥
no_place a e = cc

none_of : (o : Option ℕ) → is_some o ≡ false → o ≡ None
none_of None e = refl
none_of (Some place) e = absurd (let bad : true ≡ false = e in cc)

-- ---- a name has a place where it has a line

there_by : (n : ℕ) (line : Verifier) (lines : List Verifier) (name : List ℕ) (b : Bool) → is_some (place_from (n + 1) lines name) ≡ is_there (line_for lines name)
    → is_some (cond b (Some n) (place_from (n + 1) lines name)) ≡ is_there (cond b (Some line) (line_for lines name))
there_by n line lines name true e = refl
there_by n line lines name false e = e

pub there : (n : ℕ) (lines : List Verifier) (name : List ℕ) → is_some (place_from n lines name) ≡ is_there (line_for lines name)
there n [] name = refl
there n (line ∷ lines) name = there_by n line lines name (same line.name name) (there (n + 1) lines name)

none_by : (n : ℕ) (line : Verifier) (lines : List Verifier) (name : List ℕ) (b : Bool) → (place_from (n + 1) lines name ≡ None → line_for lines name ≡ None)
    → cond b (Some n) (place_from (n + 1) lines name) ≡ None → cond b (Some line) (line_for lines name) ≡ None
none_by n line lines name true others e = absurd (no_place n e)
none_by n line lines name false others e = others e

pub none : (n : ℕ) (lines : List Verifier) (name : List ℕ) → place_from n lines name ≡ None → line_for lines name ≡ None
none n [] name e = refl
none n (line ∷ lines) name e = none_by n line lines name (same line.name name) (λ f. none (n + 1) lines name f) e

-- the line of a name stands at its place
at_by : (n p : ℕ) (line : Verifier) (lines : List Verifier) (name : List ℕ) (b : Bool) → (place_from (n + 1) lines name ≡ Some p → (n + 1 ≤ p) × (slice_get lines (p - (n + 1)) ≡ line_for lines name))
    → cond b (Some n) (place_from (n + 1) lines name) ≡ Some p → (n ≤ p) × (slice_get (line ∷ lines) (p - n) ≡ cond b (Some line) (line_for lines name))
at_by n p line lines name true others e =
    let is : n ≡ p = same_place n p e in
    let first : p - n ≡ 0 = omega (arith, is) in (omega (arith, is), rw first refl)
at_by n p line lines name false others e =
    let rest = others e in
    let later : p - n ≡ suc (p - (n + 1)) = omega (arith, rest.0) in (omega (arith, rest.0), rw later rest.1)

found_at : (n p : ℕ) (lines : List Verifier) (name : List ℕ) → place_from n lines name ≡ Some p → (n ≤ p) × (slice_get lines (p - n) ≡ line_for lines name)
found_at n p [] name e = absurd (no_place p (sym e))
found_at n p (line ∷ lines) name e = at_by n p line lines name (same line.name name) (λ f. found_at (n + 1) p lines name f) e

pub at_place : (p : ℕ) (lines : List Verifier) (name : List ℕ) → place_from 0 lines name ≡ Some p → slice_get lines p ≡ line_for lines name
at_place p lines name e = let same : p - 0 ≡ p = omega arith in subst (λ (k : ℕ). slice_get lines k ≡ line_for lines name) same (found_at 0 p lines name e).1

-- ---- one more line

first_or : Option ℕ → Option ℕ → Option ℕ
first_or None other = other
first_or (Some place) other = Some place

more_by : (n : ℕ) (b : Bool) (rest all other : Option ℕ) → all ≡ first_or rest other → cond b (Some n) all ≡ first_or (cond b (Some n) rest) other
unfolding first_or
more_by n true rest all other e = refl
more_by n false rest all other e = e

more : (n : ℕ) (lines : List Verifier) (line : Verifier) (name : List ℕ) → place_from n (lines ++ line ∷ []) name ≡ first_or (place_from n lines name) (cond (same line.name name) (Some (n + length lines)) None)
unfolding first_or
more n [] line name = let none : n + 0 ≡ n = omega arith in rw none refl
more n (l ∷ lines) line name =
    let moved : n + 1 + length lines ≡ n + length (l ∷ lines) = omega arith in
    more_by n (same l.name name) (place_from (n + 1) lines name) (place_from (n + 1) (lines ++ line ∷ []) name) (cond (same line.name name) (Some (n + length (l ∷ lines))) None)
    (subst (λ (k : ℕ). place_from (n + 1) (lines ++ line ∷ []) name ≡ first_or (place_from (n + 1) lines name) (cond (same line.name name) (Some k) None)) moved (more (n + 1) lines line name))

none_else : (o : Option ℕ) → o ≡ first_or o None
unfolding first_or
none_else None = refl
none_else (Some place) = refl

next_by : (lines : List Verifier) (line : Verifier) (name : List ℕ) (b : Bool) → same line.name name ≡ b → place_from 0 lines line.name ≡ None
    → cond b (Some (length lines)) (place_from 0 lines name) ≡ first_or (place_from 0 lines name) (cond b (Some (length lines)) None)
unfolding first_or
next_by lines line name true e free =
    let is : line.name ≡ name = same_is line.name name e in
    let gone : place_from 0 lines name ≡ None = subst (λ (x : List ℕ). place_from 0 lines x ≡ None) is free in rw gone refl
next_by lines line name false e free = none_else (place_from 0 lines name)

-- a line whose name has no place is found behind the others, once its name has the place
pub next : (old new : Places) (lines : List Verifier) (line : Verifier) → AreFound old lines → place_of old line.name ≡ None
    → ((other : List ℕ) → place_of new other ≡ cond (same line.name other) (Some (length lines)) (place_of old other)) → AreFound new (lines ++ line ∷ [])
next old new lines line found free put = λ name.
    let whole : 0 + length lines ≡ length lines = omega arith in
    let behind : place_from 0 (lines ++ line ∷ []) name ≡ first_or (place_from 0 lines name) (cond (same line.name name) (Some (length lines)) None) =
    subst (λ (k : ℕ). place_from 0 (lines ++ line ∷ []) name ≡ first_or (place_from 0 lines name) (cond (same line.name name) (Some k) None)) whole (more 0 lines line name) in
    put name ∙ (ap (λ o. cond (same line.name name) (Some (length lines)) o) (found name)
    ∙ (next_by lines line name (same line.name name) refl (sym (found line.name) ∙ free) ∙ sym behind))

-- ---- the lines of a file, one after the other

cut : (lines : List Verifier) (count : ℕ) (line : Verifier) → count < length lines → get_or lines count line ≡ line → drop count lines ≡ line ∷ drop (count + 1) lines
cut [] count line few is = absurd (omega (arith, few))
cut (l ∷ lines) zero line few is = rw is refl
cut (l ∷ lines) (suc count) line few is = let next : suc count + 1 ≡ suc (count + 1) = omega arith in rw next (cut lines count line (omega (arith, few)) is)

-- `once` goes on behind a line whose name has no place, and refuses one whose name has one
once_by : (before : List Verifier) (number : ℕ) (line : Verifier) (lines : List Verifier) (b : Bool) → is_there (line_for before line.name) ≡ b
    → once before number (line ∷ lines) ≡ cond b (Err (Twice number)) (once (before ++ line ∷ []) (number + 1) lines)
unfolding once
once_by before number line lines b e = rw e refl

module _ (lines : List Verifier) (count : ℕ) (line : Verifier) (few : count < length lines) (is : get_or lines count line ≡ line) where
  here : (b : Bool) → is_some (place_from 0 (take count lines) line.name) ≡ b
      → once (take count lines) (count + 1) (drop count lines) ≡ cond b (Err (Twice (count + 1))) (once (take (count + 1) lines) (count + 1 + 1) (drop (count + 1) lines))
  here b e =
      let more : take (count + 1) lines ≡ take count lines ++ line ∷ [] = subst (λ (v : Verifier). take (count + 1) lines ≡ take count lines ++ v ∷ []) is (take_more lines count line few) in
      rw (cut lines count line few is, more) (once_by (take count lines) (count + 1) line (drop (count + 1) lines) b (sym (there 0 (take count lines) line.name) ∙ e))

  -- the name stood in a line before
  pub is_twice : (places : Places) → AreFound places (take count lines) → is_some (place_of places line.name) ≡ true → once (take count lines) (count + 1) (drop count lines) ≡ once [] 1 lines
      → once [] 1 lines ≡ Err (Twice (count + 1))
  is_twice places found e before = sym before ∙ here true (sym (ap (λ o. is_some o) (found line.name)) ∙ e)

  -- it didn't
  pub is_once : (places : Places) → AreFound places (take count lines) → is_some (place_of places line.name) ≡ false → once (take count lines) (count + 1) (drop count lines) ≡ once [] 1 lines
      → once (take (count + 1) lines) (count + 1 + 1) (drop (count + 1) lines) ≡ once [] 1 lines
  is_once places found e before = sym (here false (sym (ap (λ o. is_some o) (found line.name)) ∙ e)) ∙ before

  -- one line more is found
  pub is_found : (old new : Places) → AreFound old (take count lines) → is_some (place_of old line.name) ≡ false
      → ((other : List ℕ) → place_of new other ≡ cond (same line.name other) (Some count) (place_of old other)) → AreFound new (take (count + 1) lines)
  is_found old new found e put =
      let more : take (count + 1) lines ≡ take count lines ++ line ∷ [] = subst (λ (v : Verifier). take (count + 1) lines ≡ take count lines ++ v ∷ []) is (take_more lines count line few) in
      let long : length (take count lines) ≡ count = length-take-le count lines (omega (arith, few)) in
      subst (λ (ls : List Verifier). AreFound new ls) (sym more)
      (next old new (take count lines) line found (none_of (place_of old line.name) e) (λ other. subst (λ (n : ℕ). place_of new other ≡ cond (same line.name other) (Some n) (place_of old other)) (sym long) (put other)))
