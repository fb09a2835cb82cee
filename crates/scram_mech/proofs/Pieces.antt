-- Texts of a format: what is read is spelled so, and what is spelled so is read.
use Rattle.std.proofs.Common.{◌≡◌, ℕ, Bool, true, false, cond, ◌==◌, List, [], ◌∷◌, ◌++◌, Some, Result, Ok, Err, refl, sym, ap, arith, subst}
use Rattle.std.proofs.lemmas.Bool.Decides.{nat_tests}
use Rattle.scram_mech.specs.declared.refusal.Stuck.{Stuck}
use Rattle.scram_mech.specs.declared.state.State.{State}
use Rattle.scram_mech.specs.State.{step, ends}
use Rattle.scram_mech.specs.Reading.{◌>>=◌, stuck_at, word_at, end_at}
use Rattle.scram_mech.specs.Values.{value_at}
use Rattle.scram_mech.specs.Formats.{Segment, Word, Value, End, pieces, pieces_of}
use Rattle.scram_mech.proofs.Walks.{walk, Stops, value-found, value-only, ok_is}
use Rattle.scram_mech.proofs.Sextets.{eq_of}

-- a value of a state, behind which no octet of it can stand
pub record Takes (start : State) (value rest : List ℕ) : Type 0 where
  pub last : State
  pub passed : walk step start value ≡ Some last
  pub ended : ends last ≡ true
  pub stops : Stops step last rest

-- the octets are words and these values in a row, and what is left
abbrev pub Spelled : List Segment → List (List ℕ) → List ℕ → List ℕ → Type 0
Spelled [] [] octets rest = octets ≡ rest
Spelled [] (v ∷ vs) octets rest = ⊥
Spelled (Word word ∷ format) values octets rest = (back : List ℕ) × (octets ≡ word ++ back) × Spelled format values back rest
Spelled (Value start ∷ format) [] octets rest = ⊥
Spelled (Value start ∷ format) (v ∷ vs) octets rest = (back : List ℕ) × (octets ≡ v ++ back) × Takes start v back × Spelled format vs back rest
Spelled (End ∷ format) values octets rest = (octets ≡ []) × Spelled format values [] rest

same_sign : (c : ℕ) → (c == c) ≡ true
same_sign c = grind (arith, nat_tests)

pub word-only : (word back : List ℕ) → word_at word (word ++ back) ≡ Ok (tt, back)
unfolding word_at
word-only [] back = refl
word-only (c ∷ cs) back = rw (same_sign c) (word-only cs back)

-- what is spelled so is read
pub pieces-only : (format : List Segment) (values : List (List ℕ)) (octets rest : List ℕ) → Spelled format values octets rest → pieces format octets ≡ Ok (values, rest)
unfolding pieces
pieces-only [] [] octets rest s = rw s refl
pieces-only [] (v ∷ vs) octets rest s = absurd s
pieces-only (Word word ∷ format) values octets rest s = rw (s.1, word-only word s.0) (pieces-only format values s.0 rest s.2)
pieces-only (Value start ∷ format) [] octets rest s = absurd s
pieces-only (Value start ∷ format) (v ∷ vs) octets rest s =
    let t = s.2 in
    rw (s.1, value-only start v s.0 t.last t.passed t.ended t.stops, pieces-only format vs s.0 rest s.3) refl
pieces-only (End ∷ format) values octets rest s = rw s.0 (pieces-only format values [] rest s.1)

pub pieces_of-only : (format : List Segment) (values : List (List ℕ)) (octets rest : List ℕ) → Spelled format values octets rest → pieces_of format octets ≡ Ok values
unfolding pieces_of
pieces_of-only format values octets rest s = rw (pieces-only format values octets rest s) refl

-- ---- what is read is spelled so

pub bind_ok : {A B E : Type 0} (r : Result A E) (f : A → Result B E) (y : B) → (r >>= f) ≡ Ok y → (x : A) × (r ≡ Ok x) × (f x ≡ Ok y)
bind_ok (Ok x) f y e = (x, refl, e)
bind_ok (Err d) f y e = absurd cc

abbrev pub read_as : List (List ℕ) → List ℕ → Result (List (List ℕ) × List ℕ) Stuck
read_as values rest = Ok (values, rest)

abbrev pub word_read : Unit {0} → List ℕ → Result (Unit {0} × List ℕ) Stuck
word_read u back = Ok (u, back)

abbrev pub value_read : List ℕ → List ℕ → Result (List ℕ × List ℕ) Stuck
value_read value back = Ok (value, back)

no_values : (v : List ℕ) (vs : List (List ℕ)) → [] ≡ v ∷ vs → ⊥
no_values v vs e = cc

read_same : (vs ws : List (List ℕ)) (a b : List ℕ) → read_as vs a ≡ read_as ws b → (vs ≡ ws) × (a ≡ b)
read_same vs ws a b e =
    let p : List (List ℕ) × List ℕ = (vs, a) in
    let q : List (List ℕ) × List ℕ = (ws, b) in
    let same : p ≡ q = ok_is p q e in
    (ap (λ (x : List (List ℕ) × List ℕ). x.0) same, ap (λ (x : List (List ℕ) × List ℕ). x.1) same)

word_by : (c : ℕ) (cs : List ℕ) (x : ℕ) (xs back : List ℕ) (u : Unit {0}) (b : Bool) → (x == c) ≡ b → ((ys : List ℕ) → word_at cs xs ≡ word_read u ys → xs ≡ cs ++ ys) → cond b (word_at cs xs) (stuck_at (x ∷ xs)) ≡ word_read u back → x ∷ xs ≡ c ∷ (cs ++ back)
word_by c cs x xs back u true same others e =
    let first : x ≡ c = eq_of x c same in
    let rest : xs ≡ cs ++ back = others back e in
    rw (first, rest) refl
word_by c cs x xs back u false same others e = absurd cc

word_at_end : (word back : List ℕ) (u : Unit {0}) (octets : List ℕ) → word_read tt octets ≡ word_read u back → octets ≡ back
word_at_end word back u octets e =
    let p : Unit {0} × List ℕ = (tt, octets) in
    let q : Unit {0} × List ℕ = (u, back) in
    let same : p ≡ q = ok_is p q e in
    ap (λ (x : Unit {0} × List ℕ). x.1) same

pub word-found : (word octets back : List ℕ) (u : Unit {0}) → word_at word octets ≡ word_read u back → octets ≡ word ++ back
unfolding word_at
word-found [] octets back u e = word_at_end [] back u octets e
word-found (c ∷ cs) [] back u e = absurd cc
word-found (c ∷ cs) (x ∷ xs) back u e = word_by c cs x xs back u (x == c) refl (λ ys f. word-found cs xs ys u f) e

pub end-found : (octets back : List ℕ) (u : Unit {0}) → end_at octets ≡ word_read u back → (octets ≡ []) × (back ≡ [])
end-found [] back u e = (refl, sym (word_at_end [] back u [] e))
end-found (x ∷ xs) back u e = absurd cc

pub value_taken : (start : State) (octets value back : List ℕ) → value_at start octets ≡ value_read value back → (octets ≡ value ++ back) × Takes start value back
value_taken start octets value back e =
    let f = value-found start octets value back e in
    (f.same, record { last = f.last; passed = f.passed; ended = f.ended; stops = f.stops })

pub pieces-found : (format : List Segment) (values : List (List ℕ)) (octets rest : List ℕ) → pieces format octets ≡ read_as values rest → Spelled format values octets rest
unfolding pieces
pieces-found [] [] octets rest e = (read_same [] [] octets rest e).1
pieces-found [] (v ∷ vs) octets rest e = let n = (read_same [] (v ∷ vs) octets rest e).0 in absurd (no_values v vs n)
pieces-found (Word word ∷ format) values octets rest e =
    let b = bind_ok (word_at word octets) (λ x. pieces format x.1) (values, rest) e in
    (b.0.1, word-found word octets b.0.1 b.0.0 b.1, pieces-found format values b.0.1 rest b.2)
pieces-found (Value start ∷ format) values octets rest e =
    let b = bind_ok (value_at start octets) (λ x. pieces format x.1 >>= (λ y. Ok (x.0 ∷ y.0, y.1))) (values, rest) e in
    let d = bind_ok (pieces format b.0.1) (λ y. Ok (b.0.0 ∷ y.0, y.1)) (values, rest) b.2 in
    let t = value_taken start octets b.0.0 b.0.1 b.1 in
    let s = read_same (b.0.0 ∷ d.0.0) values d.0.1 rest d.2 in
    let others : Spelled format d.0.0 b.0.1 d.0.1 = pieces-found format d.0.0 b.0.1 d.0.1 d.1 in
    subst (λ (vs : List (List ℕ)). Spelled (Value start ∷ format) vs octets rest) s.0 (subst (λ (r : List ℕ). Spelled (Value start ∷ format) (b.0.0 ∷ d.0.0) octets r) s.1 (b.0.1, t.0, t.1, others))
pieces-found (End ∷ format) values octets rest e =
    let b = bind_ok (end_at octets) (λ x. pieces format x.1) (values, rest) e in
    let f = end-found octets b.0.1 b.0.0 b.1 in
    (f.0, subst (λ (os : List ℕ). Spelled format values os rest) f.1 (pieces-found format values b.0.1 rest b.2))

abbrev pub all_read : List (List ℕ) → Result (List (List ℕ)) Stuck
all_read values = Ok values

pub pieces_of-found : (format : List Segment) (values : List (List ℕ)) (text : List ℕ) → pieces_of format text ≡ all_read values → (rest : List ℕ) × Spelled format values text rest
unfolding pieces_of
pieces_of-found format values text e =
    let b = bind_ok (pieces format text) (λ x. Ok x.0) values e in
    let same : b.0.0 ≡ values = ok_is b.0.0 values b.2 in
    (b.0.1, subst (λ (vs : List (List ℕ)). Spelled format vs text b.0.1) same (pieces-found format b.0.0 text b.0.1 b.1))
