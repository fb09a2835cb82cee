-- The formats of the texts: every front of a value goes on, and values end where the next word begins.
use Rattle.std.proofs.Common.{◌≡◌, ℕ, ◌-◌, ◌≤◌, ◌⊎◌, inl, inr, Bool, true, false, cond, ◌==◌, List, [], ◌∷◌, ◌++◌, length, Option, Some, None, refl, sym, ap, ◌∙◌, arith, subst, codes}
use Rattle.std.proofs.lemmas.Bool.{cases_lt}
use Rattle.std.proofs.lemmas.Bool.Decides.{nat_tests}
use Rattle.scram_mech.specs.declared.run.Class.TheVariants.{Nonce}
use Rattle.scram_mech.specs.declared.name.Escape.{Escape}
use Rattle.scram_mech.specs.declared.name.Escape.TheVariants.{Outside, Begun, Comma, Equals}
use Rattle.scram_mech.specs.declared.name.Name.{Name}
use Rattle.scram_mech.specs.declared.digits.Digits.{Digits}
use Rattle.scram_mech.specs.declared.digits.Digits.TheVariants as digits
use Rattle.scram_mech.specs.declared.symbols.Spot.TheVariants as spots
use Rattle.scram_mech.specs.declared.further.Due.{Due}
use Rattle.scram_mech.specs.declared.further.Due.TheVariants as dues
use Rattle.scram_mech.specs.declared.further.Further.{Further}
use Rattle.scram_mech.specs.declared.state.State.{State}
use Rattle.scram_mech.specs.declared.state.State.TheVariants as states
use Rattle.scram_mech.specs.Signs.{is_value, is_free}
use Rattle.scram_mech.specs.State.{some, a_name, rounds_number, base64, further_parts, value_and_further, step, ends}
use Rattle.scram_mech.specs.Name.{longer, within, name_step}
use Rattle.scram_mech.specs.Symbols.{symbols_step}
use Rattle.scram_mech.specs.Further.{go, is_last, further_step, further_ends}
use Rattle.scram_mech.specs.Formats.{Segment, Word, Value, End}
use Rattle.scram_mech.specs.FirstText.{first_format}
use Rattle.scram_mech.specs.SecondText.{second_format}
use Rattle.scram_mech.specs.ThirdText.{third_format}
use Rattle.scram_mech.specs.FinalText.{signature_format, error_format}
use Rattle.scram_mech.proofs.Walks.{walk, walk-cons, walk-nil, walk-map, Stops}
use Rattle.scram_mech.proofs.SymbolSteps.{st, some_is}
use Rattle.scram_mech.proofs.RunWalks.{run_of, run-taken}
use Rattle.scram_mech.proofs.ValueFacts.{symbols_walk, run_walk, digits_walk}
use Rattle.scram_mech.proofs.Pieces.{Takes}
use Rattle.scram_mech.proofs.Written.{AtComma}
use Rattle.scram_mech.proofs.FurtherWalks.{unclosed, up_to}
use Rattle.scram_mech.proofs.OneCut.{nonce-again, name-again, base64-again, rounds-again, further-comma, name_walk, further_walk}
use Rattle.scram_mech.proofs.Completions.{symbols-complete}
use Rattle.scram_mech.proofs.Places.{Completable, Parting, Sound}

-- a completion inside one kind of state
abbrev Done : State → Type 0
Done m = (more : List ℕ) × (last : State) × (walk step m more ≡ Some last) × (ends last ≡ true)

at_state : (a b : State) → a ≡ b → Done a → Done b
at_state a b e d = subst Done e d

-- ---- base64

pub base64-complete : (least most : ℕ) → least ≤ most → Completable (base64 least most)
base64-complete least most range front m w =
    let s = symbols_walk (st spots.First least most) front m w in
    let e = symbols-complete least most front s.0 range s.1 in
    at_state (states.Symbols s.0) m s.2 (e.more, states.Symbols e.last, walk-map states.Symbols symbols_step step (λ t x. refl) s.0 e.more ∙ rw e.passed refl, e.ended)

-- ---- nonces

nonce_done : (need left : ℕ) → need ≤ 1 → need ≤ left → Done (states.Run (run_of Nonce need left))
unfolding walk
nonce_done need left a b =
    elim (cases_lt need 1) [
      | inl none ↦ let e : (need == 0) ≡ true = grind (arith, nat_tests) in ([], states.Run (run_of Nonce need left), refl, e)
      | inr one ↦
          let room : (left == 0) ≡ false = grind (arith, nat_tests) in
          let e : ((need - 1) == 0) ≡ true = grind (arith, nat_tests) in
          (97 ∷ [], states.Run (run_of Nonce (need - 1) (left - 1)), rw room refl, e)
    ]

pub nonce-complete : (most : ℕ) → 1 ≤ most → Completable (some Nonce most)
nonce-complete most room front m w =
    let r = run_walk (run_of Nonce 1 most) front m w in
    let t = run-taken Nonce 1 most front r.0 r.1 in
    at_state (states.Run (run_of Nonce (1 - length front) (most - length front))) m (ap states.Run t.next ∙ r.2) (nonce_done (1 - length front) (most - length front) (omega arith) (omega arith))

-- ---- numbers

digits_done : (d : Digits) → Done (states.Digits d)
unfolding walk
digits_done digits.First = (49 ∷ [], states.Digits (digits.More 9), refl, refl)
digits_done digits.Zero = ([], states.Digits digits.Zero, refl, refl)
digits_done (digits.More left) = ([], states.Digits (digits.More left), refl, refl)

pub rounds-complete : Completable rounds_number
rounds-complete front m w = let d = digits_walk digits.First front m w in at_state (states.Digits d.0) m d.2 (digits_done d.0)

-- ---- names

abbrev named_at : Escape → ℕ → ℕ → Name
named_at escape need left = record { escape = escape; need = need; left = left }

abbrev Room : Escape → ℕ → Type 0
Room Outside left = Unit {0}
Room Begun left = 1 ≤ left
Room Comma left = 1 ≤ left
Room Equals left = 1 ≤ left

abbrev NameReached : Name → Type 0
NameReached n = (n.need ≤ 1) × (n.need ≤ n.left) × Room n.escape n.left

abbrev none_name : Option Name
none_name = None

no_name : (y : Name) → none_name ≡ Some y → ⊥
no_name y e = cc

name_goes : (s y : Name) → s ≡ y → NameReached s → NameReached y
name_goes s y e r = subst NameReached e r

longer_by : (n y : Name) (b : Bool) → (n.left == 0) ≡ b → NameReached n → cond b none_name (Some (named_at Outside (n.need - 1) (n.left - 1))) ≡ Some y → NameReached y
longer_by n y true same r e = absurd (no_name y e)
longer_by n y false same r e = name_goes (named_at Outside (n.need - 1) (n.left - 1)) y (some_is (named_at Outside (n.need - 1) (n.left - 1)) y e) (omega (arith, r.0), omega (arith, r.1), tt)

room_for : (escape : Escape) (left : ℕ) → 1 ≤ left → Room escape left
room_for Outside left h = tt
room_for Begun left h = h
room_for Comma left h = h
room_for Equals left h = h

some_left : (left : ℕ) → (left == 0) ≡ false → 1 ≤ left
some_left left e = grind (arith, nat_tests)

within_by : (n y : Name) (escape : Escape) (b : Bool) → (n.left == 0) ≡ b → NameReached n → cond b none_name (Some (named_at escape n.need n.left)) ≡ Some y → NameReached y
within_by n y escape true same r e = absurd (no_name y e)
within_by n y escape false same r e = name_goes (named_at escape n.need n.left) y (some_is (named_at escape n.need n.left) y e) (r.0, r.1, room_for escape n.left (some_left n.left same))

choose : (b : Bool) (p q : Option Name) (y : Name) → cond b p q ≡ Some y → (p ≡ Some y) ⊎ (q ≡ Some y)
choose true p q y e = inl e
choose false p q y e = inr e

name_keeps : (escape : Escape) (need left x : ℕ) (y : Name) → NameReached (named_at escape need left) → name_step (named_at escape need left) x ≡ Some y → NameReached y
name_keeps Outside need left x y r e =
    elim (choose (x == 61) (within Begun (named_at Outside need left)) (cond (is_value x) (longer (named_at Outside need left)) none_name) y e) [
      | inl a ↦ within_by (named_at Outside need left) y Begun (left == 0) refl r a
      | inr b ↦ elim (choose (is_value x) (longer (named_at Outside need left)) none_name y b) [
        | inl a ↦ longer_by (named_at Outside need left) y (left == 0) refl r a
        | inr c ↦ absurd (no_name y c)
      ]
    ]
name_keeps Begun need left x y r e =
    elim (choose (x == 50) (within Comma (named_at Begun need left)) (cond (x == 51) (within Equals (named_at Begun need left)) none_name) y e) [
      | inl a ↦ within_by (named_at Begun need left) y Comma (left == 0) refl r a
      | inr b ↦ elim (choose (x == 51) (within Equals (named_at Begun need left)) none_name y b) [
        | inl a ↦ within_by (named_at Begun need left) y Equals (left == 0) refl r a
        | inr c ↦ absurd (no_name y c)
      ]
    ]
name_keeps Comma need left x y r e =
    elim (choose (x == 67) (longer (named_at Comma need left)) none_name y e) [
      | inl a ↦ longer_by (named_at Comma need left) y (left == 0) refl r a
      | inr c ↦ absurd (no_name y c)
    ]
name_keeps Equals need left x y r e =
    elim (choose (x == 68) (longer (named_at Equals need left)) none_name y e) [
      | inl a ↦ longer_by (named_at Equals need left) y (left == 0) refl r a
      | inr c ↦ absurd (no_name y c)
    ]

name_reaches : (s : Name) (octets : List ℕ) (end : Name) → NameReached s → walk name_step s octets ≡ Some end → NameReached end
name_reaches s [] end r w = name_goes s end (walk-nil name_step s end w) r
name_reaches s (x ∷ xs) end r w =
    let m = walk-cons name_step s x xs end w in
    name_reaches m.0 xs end (name_keeps s.escape s.need s.left x m.0 r m.1) m.2

zero_not : (n : ℕ) → 1 ≤ n → (n == 0) ≡ false
zero_not n h = grind (arith, nat_tests)

need_zero : (need : ℕ) → need ≤ 1 → ((need - 1) == 0) ≡ true
need_zero need h = grind (arith, nat_tests)

after_longer : (escape : Escape) (need left x : ℕ) → need ≤ 1 → name_step (named_at escape need left) x ≡ Some (named_at Outside (need - 1) (left - 1)) → Done (states.Name (named_at escape need left))
unfolding walk
after_longer escape need left x a e =
    let none : ((need - 1) == 0) ≡ true = grind (arith, nat_tests) in
    (x ∷ [], states.Name (named_at Outside (need - 1) (left - 1)), rw e refl, none)

name_done : (escape : Escape) (need left : ℕ) → NameReached (named_at escape need left) → Done (states.Name (named_at escape need left))
unfolding walk
name_done Outside need left r =
    elim (cases_lt need 1) [
      | inl none ↦ let e : (need == 0) ≡ true = grind (arith, nat_tests) in ([], states.Name (named_at Outside need left), refl, e)
      | inr one ↦ let room : (left == 0) ≡ false = zero_not left (omega (arith, r.1)) in after_longer Outside need left 97 r.0 (rw room refl)
    ]
name_done Begun need left r =
    let room : (left == 0) ≡ false = zero_not left r.2 in
    let none : ((need - 1) == 0) ≡ true = need_zero need r.0 in
    (50 ∷ 67 ∷ [], states.Name (named_at Outside (need - 1) (left - 1)), rw room (rw room refl), none)
name_done Comma need left r = let room : (left == 0) ≡ false = zero_not left r.2 in after_longer Comma need left 67 r.0 (rw room refl)
name_done Equals need left r = let room : (left == 0) ≡ false = zero_not left r.2 in after_longer Equals need left 68 r.0 (rw room refl)

pub name-complete : Completable a_name
name-complete front m w =
    let n = name_walk (named_at Outside 1 255) front m w in
    let r = name_reaches (named_at Outside 1 255) front n.0 (omega arith, omega arith, tt) n.1 in
    at_state (states.Name n.0) m n.2 (name_done n.0.escape n.0.need n.0.left r)

-- ---- further parts

further_done : (due : Due) → Done (states.Further (unclosed due))
unfolding walk
further_done dues.Part = ([], states.Further (unclosed dues.Part), refl, refl)
further_done dues.Letter = (97 ∷ 61 ∷ [], states.Further (unclosed dues.Value), refl, refl)
further_done dues.Equals = (61 ∷ [], states.Further (unclosed dues.Value), refl, refl)
further_done dues.Value = ([], states.Further (unclosed dues.Value), refl, refl)
further_done dues.Nothing = ([], states.Further (unclosed dues.Nothing), refl, refl)

further_proof : (due : Due) → Done (states.Further (up_to 112 due))
unfolding walk
further_proof dues.Part = (44 ∷ 112 ∷ [], states.Further (up_to 112 dues.Nothing), refl, refl)
further_proof dues.Letter = (112 ∷ [], states.Further (up_to 112 dues.Nothing), refl, refl)
further_proof dues.Equals = (61 ∷ 44 ∷ 112 ∷ [], states.Further (up_to 112 dues.Nothing), refl, refl)
further_proof dues.Value = (44 ∷ 112 ∷ [], states.Further (up_to 112 dues.Nothing), refl, refl)
further_proof dues.Nothing = ([], states.Further (up_to 112 dues.Nothing), refl, refl)

abbrev none_further : Option Further
none_further = None

no_further : (y : Further) → none_further ≡ Some y → ⊥
no_further y e = cc

same_last : (f y : Further) (due : Due) → go f due ≡ Some y → y.last ≡ f.last
same_last f y due e = sym (ap (λ (g : Further). g.last) (some_is (record { due = due; last = f.last }) y e))

pick : (b : Bool) (p q : Option Further) (y : Further) → cond b p q ≡ Some y → (p ≡ Some y) ⊎ (q ≡ Some y)
pick true p q y e = inl e
pick false p q y e = inr e

abbrev record_of : Due → Option ℕ → Further
record_of due last = record { due = due; last = last }

keeps_last : (due : Due) (last : Option ℕ) (x : ℕ) (y : Further) → further_step (record { due = due; last = last }) x ≡ Some y → y.last ≡ last
keeps_last dues.Part last x y e = let f = record_of dues.Part last in elim (pick (x == 44) (go f dues.Letter) none_further y e) [ inl a ↦ same_last f y dues.Letter a | inr b ↦ absurd (no_further y b) ]
keeps_last dues.Letter last x y e =
    let f = record_of dues.Letter last in
    elim (pick (is_last last x) (go f dues.Nothing) (cond (is_free x) (go f dues.Equals) none_further) y e) [
      | inl a ↦ same_last f y dues.Nothing a
      | inr b ↦ elim (pick (is_free x) (go f dues.Equals) none_further y b) [ inl a ↦ same_last f y dues.Equals a | inr c ↦ absurd (no_further y c) ]
    ]
keeps_last dues.Equals last x y e = let f = record_of dues.Equals last in elim (pick (x == 61) (go f dues.Value) none_further y e) [ inl a ↦ same_last f y dues.Value a | inr b ↦ absurd (no_further y b) ]
keeps_last dues.Value last x y e =
    let f = record_of dues.Value last in
    elim (pick (x == 44) (go f dues.Letter) (cond (is_value x) (go f dues.Value) none_further) y e) [
      | inl a ↦ same_last f y dues.Letter a
      | inr b ↦ elim (pick (is_value x) (go f dues.Value) none_further y b) [ inl a ↦ same_last f y dues.Value a | inr c ↦ absurd (no_further y c) ]
    ]
keeps_last dues.Nothing last x y e = absurd (no_further y e)

walk_last : (f : Further) (octets : List ℕ) (end : Further) → walk further_step f octets ≡ Some end → end.last ≡ f.last
walk_last f [] end w = sym (ap (λ (g : Further). g.last) (walk-nil further_step f end w))
walk_last f (x ∷ xs) end w = let m = walk-cons further_step f x xs end w in walk_last m.0 xs end m.2 ∙ keeps_last f.due f.last x m.0 m.1

same_further : (f : Further) (last : Option ℕ) → f.last ≡ last → record_of f.due last ≡ f
same_further f last e = λ i. record { due = f.due; last = sym e i }

pub further-complete : (due : Due) → Completable (states.Further (unclosed due))
further-complete due front m w =
    let f = further_walk (unclosed due) front m w in
    at_state (states.Further (unclosed f.0.due)) m (ap states.Further (same_further f.0 None (walk_last (unclosed due) front f.0 f.1)) ∙ f.2) (further_done f.0.due)

pub proof-complete : Completable (further_parts (Some 112))
proof-complete front m w =
    let f = further_walk (up_to 112 dues.Part) front m w in
    at_state (states.Further (up_to 112 f.0.due)) m (ap states.Further (same_further f.0 (Some 112) (walk_last (up_to 112 dues.Part) front f.0 f.1)) ∙ f.2) (further_proof f.0.due)

-- ---- where values part

parting_by : (start : State) → ((value rest other : List ℕ) → Takes start value rest → AtComma other → Takes start value other) → (last : State) (value text : List ℕ) → walk step start value ≡ Some last → ends last ≡ true → AtComma text → Stops step last text
parting_by start again last value text w ended at =
    let t : Takes start value [] = record { last = last; passed = w; ended = ended; stops = tt } in
    let u = again value [] text t at in
    let same : u.last ≡ last = some_is u.last last (sym u.passed ∙ w) in
    subst (λ (s : State). Stops step s text) same u.stops

-- in front of a word that begins with a comma
before_word : (start : State) (word : List ℕ) (format : List Segment) → ((value rest other : List ℕ) → Takes start value rest → AtComma other → Takes start value other) → Parting start (Word (44 ∷ word) ∷ format)
before_word start word format again last value w ended values text s =
    parting_by start again last value text w ended (subst AtComma (sym s.1) refl)

-- in front of further parts up to the end
before_further : (start : State) → ((value rest other : List ℕ) → Takes start value rest → AtComma other → Takes start value other) → Parting start (Value (further_parts None) ∷ End ∷ [])
before_further start again last value w ended [] text s = absurd s
before_further start again last value w ended (v ∷ vs) text s =
    parting_by start again last value text w ended (subst AtComma (sym s.1) (further-comma None v s.0 s.0 s.2 (subst AtComma (sym s.3.0) tt)))

no_end : false ≡ true → ⊥
no_end e = cc

proof_begins : (v rest other : List ℕ) → Takes (further_parts (Some 112)) v rest → AtComma (v ++ other)
proof_begins [] rest other t = absurd (no_end (subst (λ (s : State). ends s ≡ true) (sym (walk-nil step (further_parts (Some 112)) t.last t.passed)) t.ended))
proof_begins (x ∷ xs) rest other t = further-comma (Some 112) (x ∷ xs) rest [] t tt

-- in front of further parts up to the proof
before_proof : (start : State) (format : List Segment) → ((value rest other : List ℕ) → Takes start value rest → AtComma other → Takes start value other) → Parting start (Value (further_parts (Some 112)) ∷ format)
before_proof start format again last value w ended [] text s = absurd s
before_proof start format again last value w ended (v ∷ vs) text s =
    parting_by start again last value text w ended (subst AtComma (sym s.1) (proof_begins v s.0 s.0 s.2))

before_end : (start : State) → Parting start (End ∷ [])
before_end start last value w ended values text s = subst (λ (os : List ℕ). Stops step last os) (sym s.0) tt

closed_stops : (due : Due) → further_ends (up_to 112 due) ≡ true → step (states.Further (up_to 112 due)) 61 ≡ None
closed_stops dues.Part e = absurd (no_end e)
closed_stops dues.Letter e = absurd (no_end e)
closed_stops dues.Equals e = absurd (no_end e)
closed_stops dues.Value e = absurd (no_end e)
closed_stops dues.Nothing e = refl

before_equals : (format : List Segment) → Parting (further_parts (Some 112)) (Word (codes "=") ∷ format)
before_equals format last value w ended values text s =
    let f = further_walk (up_to 112 dues.Part) value last w in
    let is : states.Further (up_to 112 f.0.due) ≡ last = ap states.Further (same_further f.0 (Some 112) (walk_last (up_to 112 dues.Part) value f.0 f.1)) ∙ f.2 in
    let stops = closed_stops f.0.due (subst (λ (t : State). ends t ≡ true) (sym is) ended) in
    subst (λ (os : List ℕ). Stops step last os) (sym s.1) (subst (λ (t : State). step t 61 ≡ None) is stops)

-- ---- the formats

pub first-sound : Sound first_format
unfolding first_format
first-sound = (
  name-complete,
  before_word a_name (114 ∷ 61 ∷ []) (Value (some Nonce 232) ∷ Value (further_parts None) ∷ End ∷ []) name-again,
  (
    nonce-complete 232 (omega arith),
    before_further (some Nonce 232) (nonce-again 232),
    (further-complete dues.Part, before_end (further_parts None), tt),
  ),
)

pub second-sound : Sound second_format
unfolding second_format
second-sound = (
  nonce-complete 256 (omega arith),
  before_word (some Nonce 256) (115 ∷ 61 ∷ []) (Value (base64 1 64) ∷ Word (codes ",i=") ∷ Value rounds_number ∷ Value (further_parts None) ∷ End ∷ []) (nonce-again 256),
  (
    base64-complete 1 64 (omega arith),
    before_word (base64 1 64) (105 ∷ 61 ∷ []) (Value rounds_number ∷ Value (further_parts None) ∷ End ∷ []) (base64-again 1 64),
    (
      rounds-complete,
      before_further rounds_number rounds-again,
      (further-complete dues.Part, before_end (further_parts None), tt),
    ),
  ),
)

pub third-sound : Sound third_format
unfolding third_format
third-sound = (
  base64-complete 0 32768 (omega arith),
  before_word (base64 0 32768) (114 ∷ 61 ∷ []) (Value (some Nonce 256) ∷ Value (further_parts (Some 112)) ∷ Word (codes "=") ∷ Value (base64 20 20) ∷ End ∷ []) (base64-again 0 32768),
  (
    nonce-complete 256 (omega arith),
    before_proof (some Nonce 256) (Word (codes "=") ∷ Value (base64 20 20) ∷ End ∷ []) (nonce-again 256),
    (
      proof-complete,
      before_equals (Value (base64 20 20) ∷ End ∷ []),
      (base64-complete 20 20 (omega arith), before_end (base64 20 20), tt),
    ),
  ),
)

pub signature-sound : Sound signature_format
unfolding signature_format
signature-sound = (
  base64-complete 20 20 (omega arith),
  before_further (base64 20 20) (base64-again 20 20),
  (further-complete dues.Part, before_end (further_parts None), tt),
)

pub error-sound : Sound error_format
unfolding error_format
error-sound = (further-complete dues.Value, before_end value_and_further, tt)
