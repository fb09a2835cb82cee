-- Further parts are read by their letters and values.
use Rattle.std.proofs.Common.{◌≡◌, ℕ, Bool, true, false, not, cond, ◌==◌, List, [], ◌∷◌, ◌++◌, Option, Some, None, refl, sym, ap, ◌∙◌, subst}
use Rattle.std.specs.List.{list_all}
use Rattle.scram_mech.specs.declared.further.Due.{Due}
use Rattle.scram_mech.specs.declared.further.Due.TheVariants as dues
use Rattle.scram_mech.specs.declared.further.Further.{Further}
use Rattle.scram_mech.specs.declared.state.State.{State}
use Rattle.scram_mech.specs.declared.state.State.TheVariants as states
use Rattle.scram_mech.specs.Signs.{is_printable, is_value, is_free}
use Rattle.scram_mech.specs.Further.{go, further_step, further_ends}
use Rattle.scram_mech.specs.State.{further_parts, value_and_further, step, ends}
use Rattle.scram_mech.specs.Grammar.{Extra, AreExtras, extras_text}
use Rattle.scram_mech.proofs.Walks.{walk, walk-cons, walk-nil, walk-step, walk-map}
use Rattle.scram_mech.proofs.Sextets.{and_true, eq_of}
use Rattle.scram_mech.proofs.SymbolSteps.{some_is}
use Rattle.scram_mech.proofs.Pieces.{Takes}
use Rattle.scram_mech.proofs.FurtherWalks.{unclosed}
use Rattle.scram_mech.proofs.OneCut.{further_walk}
use Rattle.scram_mech.proofs.Written.{AtComma}

-- ---- what is read

pub record Parted (octets : List ℕ) : Type 0 where
  pub extras : List Extra
  pub free : AreExtras extras
  pub same : octets ≡ extras_text extras

pub record Valued (octets : List ℕ) : Type 0 where
  pub value : List ℕ
  pub extras : List Extra
  pub each : list_all is_value value ≡ true
  pub free : AreExtras extras
  pub same : octets ≡ value ++ extras_text extras

-- what octets are by what is due at their front
abbrev Shape : Due → List ℕ → Type 0
Shape dues.Part octets = Parted octets
Shape dues.Letter octets = Parted (44 ∷ octets)
Shape dues.Equals octets = (rest : List ℕ) × (octets ≡ 61 ∷ rest) × Valued rest
Shape dues.Value octets = Valued octets
Shape dues.Nothing octets = octets ≡ []

abbrev no_further : Option Further
no_further = None

none_further : (y : Further) → no_further ≡ Some y → ⊥
none_further y e = cc

clash : (b : Bool) → b ≡ false → b ≡ true → ⊥
clash b e f = cc

not_ended : (due : Due) (end : Further) → further_ends (unclosed due) ≡ false → unclosed due ≡ end → further_ends end ≡ true → ⊥
not_ended due end f same t = clash (further_ends (unclosed due)) f (subst (λ (y : Further). further_ends y ≡ true) (sym same) t)

all_more : (p : ℕ → Bool) (x : ℕ) (xs : List ℕ) → p x ≡ true → list_all p xs ≡ true → list_all p (x ∷ xs) ≡ true
all_more p x xs a b = rw (a, b) refl

part_by : (x : ℕ) (xs : List ℕ) (m : Further) (b : Bool) → (x == 44) ≡ b → cond b (go (unclosed dues.Part) dues.Letter) no_further ≡ Some m → ((n : Due) → unclosed n ≡ m → Shape n xs) → Parted (x ∷ xs)
part_by x xs m true comma e others =
    let p : Parted (44 ∷ xs) = others dues.Letter (some_is (unclosed dues.Letter) m e) in
    record { extras = p.extras; free = p.free; same = ap (λ (y : ℕ). y ∷ xs) (eq_of x 44 comma) ∙ p.same }
part_by x xs m false comma e others = absurd (none_further m e)

letter_by : (x : ℕ) (xs : List ℕ) (m : Further) (b : Bool) → is_free x ≡ b → cond b (go (unclosed dues.Letter) dues.Equals) no_further ≡ Some m → ((n : Due) → unclosed n ≡ m → Shape n xs) → Parted (44 ∷ x ∷ xs)
letter_by x xs m true free e others =
    let q : (rest : List ℕ) × (xs ≡ 61 ∷ rest) × Valued rest = others dues.Equals (some_is (unclosed dues.Equals) m e) in
    let v : Valued q.0 = q.2 in
    record {
      extras = record { letter = x; value = v.value } ∷ v.extras;
      free = (record { free = free; each = v.each }, v.free);
      same = ap (λ (os : List ℕ). 44 ∷ x ∷ os) (q.1 ∙ ap (λ (os : List ℕ). 61 ∷ os) v.same);
    }
letter_by x xs m false free e others = absurd (none_further m e)

equals_by : (x : ℕ) (xs : List ℕ) (m : Further) (b : Bool) → (x == 61) ≡ b → cond b (go (unclosed dues.Equals) dues.Value) no_further ≡ Some m → ((n : Due) → unclosed n ≡ m → Shape n xs) → Shape dues.Equals (x ∷ xs)
equals_by x xs m true equals e others = (xs, ap (λ (y : ℕ). y ∷ xs) (eq_of x 61 equals), others dues.Value (some_is (unclosed dues.Value) m e))
equals_by x xs m false equals e others = absurd (none_further m e)

value_by : (x : ℕ) (xs : List ℕ) (m : Further) (b c : Bool) → (x == 44) ≡ b → is_value x ≡ c → cond b (go (unclosed dues.Value) dues.Letter) (cond c (go (unclosed dues.Value) dues.Value) no_further) ≡ Some m → ((n : Due) → unclosed n ≡ m → Shape n xs) → Valued (x ∷ xs)
value_by x xs m true c comma fits e others =
    let p : Parted (44 ∷ xs) = others dues.Letter (some_is (unclosed dues.Letter) m e) in
    record { value = []; extras = p.extras; each = refl; free = p.free; same = ap (λ (y : ℕ). y ∷ xs) (eq_of x 44 comma) ∙ p.same }
value_by x xs m false true comma fits e others =
    let v : Valued xs = others dues.Value (some_is (unclosed dues.Value) m e) in
    record { value = x ∷ v.value; extras = v.extras; each = all_more is_value x v.value fits v.each; free = v.free; same = ap (λ (os : List ℕ). x ∷ os) v.same }
value_by x xs m false false comma fits e others = absurd (none_further m e)

shape : (due : Due) (octets : List ℕ) (end : Further) → walk further_step (unclosed due) octets ≡ Some end → further_ends end ≡ true → Shape due octets
shape dues.Part [] end w t = record { extras = []; free = tt; same = refl }
shape dues.Letter [] end w t = absurd (not_ended dues.Letter end refl (walk-nil further_step (unclosed dues.Letter) end w) t)
shape dues.Equals [] end w t = absurd (not_ended dues.Equals end refl (walk-nil further_step (unclosed dues.Equals) end w) t)
shape dues.Value [] end w t = record { value = []; extras = []; each = refl; free = tt; same = refl }
shape dues.Nothing [] end w t = refl
shape dues.Part (x ∷ xs) end w t =
    let m = walk-cons further_step (unclosed dues.Part) x xs end w in
    part_by x xs m.0 (x == 44) refl m.1 (λ n same. shape n xs end (rw same m.2) t)
shape dues.Letter (x ∷ xs) end w t =
    let m = walk-cons further_step (unclosed dues.Letter) x xs end w in
    letter_by x xs m.0 (is_free x) refl m.1 (λ n same. shape n xs end (rw same m.2) t)
shape dues.Equals (x ∷ xs) end w t =
    let m = walk-cons further_step (unclosed dues.Equals) x xs end w in
    equals_by x xs m.0 (x == 61) refl m.1 (λ n same. shape n xs end (rw same m.2) t)
shape dues.Value (x ∷ xs) end w t =
    let m = walk-cons further_step (unclosed dues.Value) x xs end w in
    value_by x xs m.0 (x == 44) (is_value x) refl refl m.1 (λ n same. shape n xs end (rw same m.2) t)
shape dues.Nothing (x ∷ xs) end w t = let m = walk-cons further_step (unclosed dues.Nothing) x xs end w in absurd (none_further m.0 m.1)

pub extras-found : (value rest : List ℕ) → Takes (further_parts None) value rest → Parted value
extras-found value rest t =
    let w = further_walk (unclosed dues.Part) value t.last t.passed in
    shape dues.Part value w.0 w.1 (subst (λ (s : State). ends s ≡ true) (sym w.2) t.ended)

pub valued-found : (value rest : List ℕ) → Takes value_and_further value rest → Valued value
valued-found value rest t =
    let w = further_walk (unclosed dues.Value) value t.last t.passed in
    shape dues.Value value w.0 w.1 (subst (λ (s : State). ends s ≡ true) (sym w.2) t.ended)

-- ---- what is spelled

true_of : (b : Bool) → not b ≡ true → b ≡ false
true_of true e = cc
true_of false e = refl

not_comma : (x : ℕ) → is_value x ≡ true → (x == 44) ≡ false
not_comma x e = true_of (x == 44) (and_true (is_printable x) (not (x == 44)) e).1

value_step : (x : ℕ) → is_value x ≡ true → further_step (unclosed dues.Value) x ≡ Some (unclosed dues.Value)
value_step x fits = rw (fits, not_comma x fits) refl

value_on : (value rest : List ℕ) → list_all is_value value ≡ true → walk further_step (unclosed dues.Value) (value ++ rest) ≡ walk further_step (unclosed dues.Value) rest
value_on [] rest e = refl
value_on (x ∷ xs) rest e =
    let t = and_true (is_value x) (list_all is_value xs) e in
    walk-step further_step (unclosed dues.Value) (unclosed dues.Value) x (xs ++ rest) (value_step x t.0) ∙ value_on xs rest t.1

letter_step : (x : ℕ) → is_free x ≡ true → further_step (unclosed dues.Letter) x ≡ Some (unclosed dues.Equals)
letter_step x free = rw free refl

abbrev Opens : Due → Type 0
Opens due = (further_step (unclosed due) 44 ≡ Some (unclosed dues.Letter)) × (further_ends (unclosed due) ≡ true)

extra_on : (due : Due) (x : ℕ) (value rest : List ℕ) → Opens due → is_free x ≡ true → list_all is_value value ≡ true → walk further_step (unclosed due) (44 ∷ x ∷ 61 ∷ (value ++ rest)) ≡ walk further_step (unclosed dues.Value) rest
extra_on due x value rest opens free each =
    walk-step further_step (unclosed due) (unclosed dues.Letter) 44 (x ∷ 61 ∷ (value ++ rest)) opens.0
    ∙ (walk-step further_step (unclosed dues.Letter) (unclosed dues.Equals) x (61 ∷ (value ++ rest)) (letter_step x free)
    ∙ (walk-step further_step (unclosed dues.Equals) (unclosed dues.Value) 61 (value ++ rest) refl
    ∙ value_on value rest each))

extras_on : (due : Due) (extras : List Extra) → Opens due → AreExtras extras → (end : Due) × (walk further_step (unclosed due) (extras_text extras) ≡ Some (unclosed end)) × (further_ends (unclosed end) ≡ true)
unfolding walk
extras_on due [] opens free = (due, refl, opens.1)
extras_on due (x ∷ xs) opens free =
    let r = extras_on dues.Value xs (refl, refl) free.1 in
    (r.0, extra_on due x.letter x.value (extras_text xs) opens free.0.free free.0.each ∙ r.1, r.2)

takes_by : (due : Due) (octets : List ℕ) → (end : Due) × (walk further_step (unclosed due) octets ≡ Some (unclosed end)) × (further_ends (unclosed end) ≡ true) → Takes (states.Further (unclosed due)) octets []
takes_by due octets r = record {
  last = states.Further (unclosed r.0);
  passed = walk-map states.Further further_step step (λ s x. refl) (unclosed due) octets ∙ rw r.1 refl;
  ended = r.2;
  stops = tt;
}

pub takes-extras : (extras : List Extra) → AreExtras extras → Takes (further_parts None) (extras_text extras) []
takes-extras extras free = takes_by dues.Part (extras_text extras) (extras_on dues.Part extras (refl, refl) free)

pub takes-valued : (value : List ℕ) (extras : List Extra) → list_all is_value value ≡ true → AreExtras extras → Takes value_and_further (value ++ extras_text extras) []
takes-valued value extras each free =
    let r = extras_on dues.Value extras (refl, refl) free in
    takes_by dues.Value (value ++ extras_text extras) (r.0, value_on value (extras_text extras) each ∙ r.1, r.2)

pub extras-at : (extras : List Extra) → AtComma (extras_text extras)
extras-at [] = tt
extras-at (x ∷ xs) = refl
