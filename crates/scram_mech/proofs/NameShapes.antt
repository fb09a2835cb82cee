-- A name in a text is the escape of what it stands for.
use Rattle.std.proofs.Common.{◌≡◌, ℕ, ◌-◌, ◌≤◌, Bool, true, false, not, cond, ◌==◌, List, [], ◌∷◌, ◌++◌, length, Option, Some, None, refl, sym, ap, ◌∙◌, arith, subst}
use Rattle.std.specs.List.{list_all}
use Rattle.std.proofs.lemmas.Bool.Decides.{nat_tests}
use Rattle.scram_mech.specs.declared.name.Escape.{Escape}
use Rattle.scram_mech.specs.declared.name.Escape.TheVariants.{Outside, Begun, Comma, Equals}
use Rattle.scram_mech.specs.declared.name.Name.{Name}
use Rattle.scram_mech.specs.declared.state.State.{State}
use Rattle.scram_mech.specs.Signs.{is_printable, is_value}
use Rattle.scram_mech.specs.State.{a_name, ends}
use Rattle.scram_mech.specs.Name.{escaped, unescaped, longer, within, name_step, name_ends}
use Rattle.scram_mech.specs.Grammar.{IsName}
use Rattle.scram_mech.proofs.Walks.{walk, walk-cons, walk-nil}
use Rattle.scram_mech.proofs.Sextets.{and_true, eq_of}
use Rattle.scram_mech.proofs.SymbolSteps.{some_is}
use Rattle.scram_mech.proofs.Pieces.{Takes}
use Rattle.scram_mech.proofs.OneCut.{name_walk}

abbrev at : Escape → ℕ → ℕ → Name
at escape need left = record { escape = escape; need = need; left = left }

-- so much of an escape was read
abbrev front : Escape → List ℕ
front Outside = []
front Begun = 61 ∷ []
front Comma = 61 ∷ 50 ∷ []
front Equals = 61 ∷ 51 ∷ []

pub record Named (escape : Escape) (need left : ℕ) (octets : List ℕ) : Type 0 where
  pub same : escaped (unescaped escape octets) ≡ front escape ++ octets
  pub each : list_all is_printable (unescaped escape octets) ≡ true
  pub enough : need ≤ length (unescaped escape octets)
  pub few : length (unescaped escape octets) ≤ left

abbrev no_name : Option Name
no_name = None

none_name : (y : Name) → no_name ≡ Some y → ⊥
none_name y e = cc

clash : (b : Bool) → b ≡ false → b ≡ true → ⊥
clash b e f = cc

not_ended : (s end : Name) → name_ends s ≡ false → s ≡ end → name_ends end ≡ true → ⊥
not_ended s end f same t = clash (name_ends s) f (subst (λ (y : Name). name_ends y ≡ true) (sym same) t)

-- where there is room
longer_at : (escape : Escape) (need left : ℕ) (m : Name) (b : Bool) → (left == 0) ≡ b → cond b no_name (Some (at Outside (need - 1) (left - 1))) ≡ Some m → (1 ≤ left) × (at Outside (need - 1) (left - 1) ≡ m)
longer_at escape need left m true e f = absurd (none_name m f)
longer_at escape need left m false e f = (grind (arith, nat_tests), some_is (at Outside (need - 1) (left - 1)) m f)

within_at : (next : Escape) (need left : ℕ) (m : Name) (b : Bool) → (left == 0) ≡ b → cond b no_name (Some (at next need left)) ≡ Some m → at next need left ≡ m
within_at next need left m true e f = absurd (none_name m f)
within_at next need left m false e f = some_is (at next need left) m f

abbrev Others : Name → List ℕ → Type 0
Others m xs = (escape : Escape) (need left : ℕ) → at escape need left ≡ m → Named escape need left xs

true_of : (b : Bool) → not b ≡ true → b ≡ false
true_of true e = cc
true_of false e = refl

all_more : (p : ℕ → Bool) (x : ℕ) (xs : List ℕ) → p x ≡ true → list_all p xs ≡ true → list_all p (x ∷ xs) ≡ true
all_more p x xs a b = rw (a, b) refl

plain : (x : ℕ) (xs : List ℕ) → (x == 44) ≡ false → (x == 61) ≡ false → escaped (x ∷ xs) ≡ x ∷ escaped xs
unfolding escaped
plain x xs a b = rw (a, b) refl

outside_by : (need left x : ℕ) (xs : List ℕ) (m : Name) (b c : Bool) → (x == 61) ≡ b → is_value x ≡ c
    → cond b (within Begun (at Outside need left)) (cond c (longer (at Outside need left)) no_name) ≡ Some m → Others m xs → Named Outside need left (x ∷ xs)
unfolding unescaped
outside_by need left x xs m true c equals fits e others =
    let r = others Begun need left (within_at Begun need left m (left == 0) refl e) in
    let first : x ≡ 61 = eq_of x 61 equals in
    record {
      same = rw equals (r.same ∙ ap (λ (y : ℕ). y ∷ xs) (sym first));
      each = rw equals r.each;
      enough = rw equals r.enough;
      few = rw equals r.few;
    }
outside_by need left x xs m false true equals fits e others =
    let room = longer_at Outside need left m (left == 0) refl e in
    let r = others Outside (need - 1) (left - 1) room.1 in
    let t = and_true (is_printable x) (not (x == 44)) fits in
    record {
      same = rw equals (plain x (unescaped Outside xs) (true_of (x == 44) t.1) equals ∙ ap (λ (os : List ℕ). x ∷ os) r.same);
      each = rw equals (all_more is_printable x (unescaped Outside xs) t.0 r.each);
      enough = rw equals (omega (arith, r.enough));
      few = rw equals (omega (arith, r.few, room.0));
    }
outside_by need left x xs m false false equals fits e others = absurd (none_name m e)

begun_by : (need left x : ℕ) (xs : List ℕ) (m : Name) (b c : Bool) → (x == 50) ≡ b → (x == 51) ≡ c
    → cond b (within Comma (at Begun need left)) (cond c (within Equals (at Begun need left)) no_name) ≡ Some m → Others m xs → Named Begun need left (x ∷ xs)
unfolding unescaped
begun_by need left x xs m true c two three e others =
    let r = others Comma need left (within_at Comma need left m (left == 0) refl e) in
    let first : x ≡ 50 = eq_of x 50 two in
    record {
      same = rw two (r.same ∙ ap (λ (y : ℕ). 61 ∷ y ∷ xs) (sym first));
      each = rw two r.each;
      enough = rw two r.enough;
      few = rw two r.few;
    }
begun_by need left x xs m false true two three e others =
    let r = others Equals need left (within_at Equals need left m (left == 0) refl e) in
    let first : x ≡ 51 = eq_of x 51 three in
    record {
      same = rw two (r.same ∙ ap (λ (y : ℕ). 61 ∷ y ∷ xs) (sym first));
      each = rw two r.each;
      enough = rw two r.enough;
      few = rw two r.few;
    }
begun_by need left x xs m false false two three e others = absurd (none_name m e)

comma_by : (need left x : ℕ) (xs : List ℕ) (m : Name) (b : Bool) → (x == 67) ≡ b → cond b (longer (at Comma need left)) no_name ≡ Some m → Others m xs → Named Comma need left (x ∷ xs)
unfolding unescaped escaped
comma_by need left x xs m true same e others =
    let room = longer_at Comma need left m (left == 0) refl e in
    let r = others Outside (need - 1) (left - 1) room.1 in
    let first : x ≡ 67 = eq_of x 67 same in
    record {
      same = ap (λ (os : List ℕ). 61 ∷ 50 ∷ 67 ∷ os) r.same ∙ ap (λ (y : ℕ). 61 ∷ 50 ∷ y ∷ xs) (sym first);
      each = r.each;
      enough = omega (arith, r.enough);
      few = omega (arith, r.few, room.0);
    }
comma_by need left x xs m false same e others = absurd (none_name m e)

equals_by : (need left x : ℕ) (xs : List ℕ) (m : Name) (b : Bool) → (x == 68) ≡ b → cond b (longer (at Equals need left)) no_name ≡ Some m → Others m xs → Named Equals need left (x ∷ xs)
unfolding unescaped escaped
equals_by need left x xs m true same e others =
    let room = longer_at Equals need left m (left == 0) refl e in
    let r = others Outside (need - 1) (left - 1) room.1 in
    let first : x ≡ 68 = eq_of x 68 same in
    record {
      same = ap (λ (os : List ℕ). 61 ∷ 51 ∷ 68 ∷ os) r.same ∙ ap (λ (y : ℕ). 61 ∷ 51 ∷ y ∷ xs) (sym first);
      each = r.each;
      enough = omega (arith, r.enough);
      few = omega (arith, r.few, room.0);
    }
equals_by need left x xs m false same e others = absurd (none_name m e)

none_needed : (need left : ℕ) (end : Name) → at Outside need left ≡ end → name_ends end ≡ true → need ≡ 0
none_needed need left end e t = eq_of need 0 (subst (λ (y : Name). name_ends y ≡ true) (sym e) t)

named : (escape : Escape) (need left : ℕ) (octets : List ℕ) (end : Name) → walk name_step (at escape need left) octets ≡ Some end → name_ends end ≡ true → Named escape need left octets
unfolding unescaped escaped
named Outside need left [] end w t =
    let none = none_needed need left end (walk-nil name_step (at Outside need left) end w) t in
    record { same = refl; each = refl; enough = omega arith; few = omega arith }
named Begun need left [] end w t = absurd (not_ended (at Begun need left) end refl (walk-nil name_step (at Begun need left) end w) t)
named Comma need left [] end w t = absurd (not_ended (at Comma need left) end refl (walk-nil name_step (at Comma need left) end w) t)
named Equals need left [] end w t = absurd (not_ended (at Equals need left) end refl (walk-nil name_step (at Equals need left) end w) t)
named Outside need left (x ∷ xs) end w t =
    let m = walk-cons name_step (at Outside need left) x xs end w in
    outside_by need left x xs m.0 (x == 61) (is_value x) refl refl m.1 (λ e a b same. named e a b xs end (rw same m.2) t)
named Begun need left (x ∷ xs) end w t =
    let m = walk-cons name_step (at Begun need left) x xs end w in
    begun_by need left x xs m.0 (x == 50) (x == 51) refl refl m.1 (λ e a b same. named e a b xs end (rw same m.2) t)
named Comma need left (x ∷ xs) end w t =
    let m = walk-cons name_step (at Comma need left) x xs end w in
    comma_by need left x xs m.0 (x == 67) refl m.1 (λ e a b same. named e a b xs end (rw same m.2) t)
named Equals need left (x ∷ xs) end w t =
    let m = walk-cons name_step (at Equals need left) x xs end w in
    equals_by need left x xs m.0 (x == 68) refl m.1 (λ e a b same. named e a b xs end (rw same m.2) t)

pub name-found : (value rest : List ℕ) → Takes a_name value rest → IsName (unescaped Outside value) × (escaped (unescaped Outside value) ≡ value)
name-found value rest t =
    let w = name_walk (at Outside 1 255) value t.last t.passed in
    let n = named Outside 1 255 value w.0 w.1 (subst (λ (s : State). ends s ≡ true) (sym w.2) t.ended) in
    (record { each = n.each; some = n.enough; few = n.few }, n.same)
