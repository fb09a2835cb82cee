-- Further parts up to a letter, and up to the end.
use Rattle.std.proofs.Common.{◌≡◌, ℕ, ◌⊎◌, inl, inr, Bool, true, false, cond, ◌==◌, List, [], ◌∷◌, ◌++◌, Option, Some, None, refl, sym, ap, ◌∙◌, arith, subst}
use Rattle.std.proofs.lemmas.Bool.Decides.{nat_tests}
use Rattle.scram_mech.specs.declared.further.Due.{Due}
use Rattle.scram_mech.specs.declared.further.Due.TheVariants.{Part, Letter, Equals, Value, Nothing}
use Rattle.scram_mech.specs.declared.further.Further.{Further}
use Rattle.scram_mech.specs.Signs.{is_value, is_free}
use Rattle.scram_mech.specs.Further.{go, further_step, further_ends}
use Rattle.scram_mech.proofs.Walks.{walk, walk-cons, walk-nil, walk-step, walk-append}
use Rattle.scram_mech.proofs.Sextets.{eq_of}
use Rattle.scram_mech.proofs.SymbolSteps.{some_is}

-- up to the end, and up to a letter
abbrev pub unclosed : Due → Further
unclosed due = record { due = due; last = None }

abbrev pub up_to : ℕ → Due → Further
up_to last due = record { due = due; last = Some last }

abbrev no_further : Option Further
no_further = None

none_further : (y : Further) → no_further ≡ Some y → ⊥
none_further y e = cc

-- ---- parts up to the end are parts up to a letter that no further part has

clash : (b : Bool) → b ≡ false → b ≡ true → ⊥
clash b e f = cc

not_last : (last x : ℕ) → is_free last ≡ false → is_free x ≡ true → (x == last) ≡ false
not_last last x named free = elim (x == last) as (λ b. (x == last) ≡ b → (x == last) ≡ false) [
  | true ↦ λ e. absurd (clash (is_free last) named (subst (λ (y : ℕ). is_free y ≡ true) (eq_of x last e) free))
  | false ↦ λ e. e
] refl

abbrev is_nothing : Due → Bool
is_nothing Part = false
is_nothing Letter = false
is_nothing Equals = false
is_nothing Value = false
is_nothing Nothing = true

abbrev Moves : ℕ → Due → ℕ → Further → Type 0
Moves last due x m = (next : Due) × (unclosed next ≡ m) × (further_step (up_to last due) x ≡ Some (up_to last next)) × (is_nothing next ≡ false)

move_if : (last x : ℕ) (due : Due) (next : Due) (m : Further) (b : Bool) → (c : Bool) → c ≡ b → cond b (go (unclosed due) next) no_further ≡ Some m → cond c (go (up_to last due) next) no_further ≡ Some (up_to last next) × (unclosed next ≡ m)
move_if last x due next m true c same e = (rw same refl, some_is (unclosed next) m e)
move_if last x due next m false c same e = absurd (none_further m e)

letter_moves : (last x : ℕ) (m : Further) (b : Bool) → is_free last ≡ false → is_free x ≡ b → cond b (go (unclosed Letter) Equals) no_further ≡ Some m → Moves last Letter x m
letter_moves last x m true named free e = (Equals, some_is (unclosed Equals) m e, rw (not_last last x named free, free) refl, refl)
letter_moves last x m false named free e = absurd (none_further m e)

value_moves : (last x : ℕ) (m : Further) (b c : Bool) → (x == 44) ≡ b → is_value x ≡ c → cond b (go (unclosed Value) Letter) (cond c (go (unclosed Value) Value) no_further) ≡ Some m → Moves last Value x m
value_moves last x m true c comma fits e = (Letter, some_is (unclosed Letter) m e, rw comma refl, refl)
value_moves last x m false true comma fits e = (Value, some_is (unclosed Value) m e, rw (fits, comma) refl, refl)
value_moves last x m false false comma fits e = absurd (none_further m e)

moves : (last : ℕ) (due : Due) (x : ℕ) (m : Further) → is_free last ≡ false → further_step (unclosed due) x ≡ Some m → Moves last due x m
moves last Part x m named e = let r = move_if last x Part Letter m (x == 44) (x == 44) refl e in (Letter, r.1, r.0, refl)
moves last Letter x m named e = letter_moves last x m (is_free x) named refl e
moves last Equals x m named e = let r = move_if last x Equals Value m (x == 61) (x == 61) refl e in (Value, r.1, r.0, refl)
moves last Value x m named e = value_moves last x m (x == 44) (is_value x) refl refl e
moves last Nothing x m named e = absurd (none_further m e)

-- where an unclosed walk ends
pub up-to : (last : ℕ) (due : Due) (octets : List ℕ) (end : Further) → is_free last ≡ false → is_nothing due ≡ false → walk further_step (unclosed due) octets ≡ Some end → (at : Due) × (unclosed at ≡ end) × (walk further_step (up_to last due) octets ≡ Some (up_to last at)) × (is_nothing at ≡ false)
unfolding walk
up-to last due [] end named some w = (due, walk-nil further_step (unclosed due) end w, refl, some)
up-to last due (x ∷ xs) end named some w =
    let m = walk-cons further_step (unclosed due) x xs end w in
    let s = moves last due x m.0 named m.1 in
    let r = up-to last s.0 xs end named s.3 (rw s.1 m.2) in
    (r.0, r.1, walk-step further_step (up_to last due) (up_to last s.0) x xs s.2 ∙ r.2, r.3)

same_sign : (c : ℕ) → (c == c) ≡ true
same_sign c = grind (arith, nat_tests)

may_close : (last : ℕ) (due : Due) → is_nothing due ≡ false → further_ends (unclosed due) ≡ true → walk further_step (up_to last due) (44 ∷ last ∷ []) ≡ Some (up_to last Nothing)
unfolding walk
may_close last Part some e = rw same_sign refl
may_close last Letter some e = absurd (clash false refl e)
may_close last Equals some e = absurd (clash false refl e)
may_close last Value some e = rw same_sign refl
may_close last Nothing some e = absurd (clash true some refl)

-- further parts, and the letter behind them
pub closes : (last : ℕ) (octets : List ℕ) (end : Further) → is_free last ≡ false → walk further_step (unclosed Part) octets ≡ Some end → further_ends end ≡ true → walk further_step (up_to last Part) (octets ++ 44 ∷ last ∷ []) ≡ Some (up_to last Nothing)
closes last octets end named w ended =
    let r = up-to last Part octets end named refl w in
    walk-append further_step (up_to last Part) octets (44 ∷ last ∷ []) ∙ rw r.2 (may_close last r.0 r.3 (subst (λ (f : Further). further_ends f ≡ true) (sym r.1) ended))

-- ---- parts up to a letter are parts up to the end in front of it

pub record Parted (last : ℕ) (due : Due) (octets : List ℕ) : Type 0 where
  pub front : List ℕ
  pub end : Further
  pub same : octets ≡ front ++ 44 ∷ last ∷ []
  pub passed : walk further_step (unclosed due) front ≡ Some end
  pub ended : further_ends end ≡ true

-- behind a comma: the letter alone, or a further part
abbrev Behind : ℕ → Due → List ℕ → Type 0
Behind last Part octets = Parted last Part octets
Behind last Letter octets = (octets ≡ last ∷ []) ⊎ Parted last Letter octets
Behind last Equals octets = Parted last Equals octets
Behind last Value octets = Parted last Value octets
Behind last Nothing octets = octets ≡ []

longer : (last : ℕ) (due next : Due) (x : ℕ) (xs : List ℕ) → further_step (unclosed due) x ≡ Some (unclosed next) → Parted last next xs → Parted last due (x ∷ xs)
longer last due next x xs e p = record { front = x ∷ p.front; end = p.end; same = ap (λ (os : List ℕ). x ∷ os) p.same; passed = walk-step further_step (unclosed due) (unclosed next) x p.front e ∙ p.passed; ended = p.ended }

from_comma : (last : ℕ) (due : Due) (x : ℕ) (xs : List ℕ) → further_step (unclosed due) 44 ≡ Some (unclosed Letter) → further_ends (unclosed due) ≡ true → x ≡ 44 → Behind last Letter xs → Parted last due (x ∷ xs)
unfolding walk
from_comma last due x xs e ends same (inl a) = record { front = []; end = unclosed due; same = rw (same, a) refl; passed = refl; ended = ends }
from_comma last due x xs e ends same (inr p) = longer last due Letter x xs (rw same e) p

part_behind : (last x : ℕ) (xs : List ℕ) (m : Further) (b : Bool) → (x == 44) ≡ b → cond b (go (up_to last Part) Letter) no_further ≡ Some m → ((n : Due) → up_to last n ≡ m → Behind last n xs) → Parted last Part (x ∷ xs)
part_behind last x xs m true comma e others = from_comma last Part x xs refl refl (eq_of x 44 comma) (others Letter (some_is (up_to last Letter) m e))
part_behind last x xs m false comma e others = absurd (none_further m e)

equals_behind : (last x : ℕ) (xs : List ℕ) (m : Further) (b : Bool) → (x == 61) ≡ b → cond b (go (up_to last Equals) Value) no_further ≡ Some m → ((n : Due) → up_to last n ≡ m → Behind last n xs) → Parted last Equals (x ∷ xs)
equals_behind last x xs m true equals e others = longer last Equals Value x xs (rw equals refl) (others Value (some_is (up_to last Value) m e))
equals_behind last x xs m false equals e others = absurd (none_further m e)

value_behind : (last x : ℕ) (xs : List ℕ) (m : Further) (b c : Bool) → (x == 44) ≡ b → is_value x ≡ c → cond b (go (up_to last Value) Letter) (cond c (go (up_to last Value) Value) no_further) ≡ Some m → ((n : Due) → up_to last n ≡ m → Behind last n xs) → Parted last Value (x ∷ xs)
value_behind last x xs m true c comma fits e others = from_comma last Value x xs refl refl (eq_of x 44 comma) (others Letter (some_is (up_to last Letter) m e))
value_behind last x xs m false true comma fits e others = longer last Value Value x xs (rw (fits, comma) refl) (others Value (some_is (up_to last Value) m e))
value_behind last x xs m false false comma fits e others = absurd (none_further m e)

letter_behind : (last x : ℕ) (xs : List ℕ) (m : Further) (b c : Bool) → (x == last) ≡ b → is_free x ≡ c → cond b (go (up_to last Letter) Nothing) (cond c (go (up_to last Letter) Equals) no_further) ≡ Some m → ((n : Due) → up_to last n ≡ m → Behind last n xs) → Behind last Letter (x ∷ xs)
letter_behind last x xs m true c same free e others = inl (rw (eq_of x last same, others Nothing (some_is (up_to last Nothing) m e)) refl)
letter_behind last x xs m false true same free e others = inr (longer last Letter Equals x xs (rw free refl) (others Equals (some_is (up_to last Equals) m e)))
letter_behind last x xs m false false same free e others = absurd (none_further m e)

not_ended : (last : ℕ) (due : Due) (end : Further) → further_ends (up_to last due) ≡ false → up_to last due ≡ end → further_ends end ≡ true → ⊥
not_ended last due end f same t = clash (further_ends (up_to last due)) f (subst (λ (y : Further). further_ends y ≡ true) (sym same) t)

pub behind : (last : ℕ) (due : Due) (octets : List ℕ) (end : Further) → walk further_step (up_to last due) octets ≡ Some end → further_ends end ≡ true → Behind last due octets
behind last Part [] end w t = absurd (not_ended last Part end refl (walk-nil further_step (up_to last Part) end w) t)
behind last Letter [] end w t = absurd (not_ended last Letter end refl (walk-nil further_step (up_to last Letter) end w) t)
behind last Equals [] end w t = absurd (not_ended last Equals end refl (walk-nil further_step (up_to last Equals) end w) t)
behind last Value [] end w t = absurd (not_ended last Value end refl (walk-nil further_step (up_to last Value) end w) t)
behind last Nothing [] end w t = refl
behind last Part (x ∷ xs) end w t =
    let m = walk-cons further_step (up_to last Part) x xs end w in
    part_behind last x xs m.0 (x == 44) refl m.1 (λ n same. behind last n xs end (rw same m.2) t)
behind last Letter (x ∷ xs) end w t =
    let m = walk-cons further_step (up_to last Letter) x xs end w in
    letter_behind last x xs m.0 (x == last) (is_free x) refl refl m.1 (λ n same. behind last n xs end (rw same m.2) t)
behind last Equals (x ∷ xs) end w t =
    let m = walk-cons further_step (up_to last Equals) x xs end w in
    equals_behind last x xs m.0 (x == 61) refl m.1 (λ n same. behind last n xs end (rw same m.2) t)
behind last Value (x ∷ xs) end w t =
    let m = walk-cons further_step (up_to last Value) x xs end w in
    value_behind last x xs m.0 (x == 44) (is_value x) refl refl m.1 (λ n same. behind last n xs end (rw same m.2) t)
behind last Nothing (x ∷ xs) end w t = let m = walk-cons further_step (up_to last Nothing) x xs end w in absurd (none_further m.0 m.1)
