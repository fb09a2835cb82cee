-- Octets that a state takes one by one, and the values that are read by it.
use Rattle.std.proofs.Common.{◌≡◌, ℕ, ◌≤◌, Bool, true, false, List, [], ◌∷◌, ◌++◌, length, take, drop, Option, Some, None, Result, Ok, refl, sym, ap, ◌∙◌, arith, add-one}
use Rattle.std.proofs.lemmas.Grind.{common_steps}
use Rattle.std.specs.Option.{option_map, option_and_then}
use Rattle.scram_mech.specs.declared.refusal.Stuck.{Stuck}
use Rattle.scram_mech.specs.declared.state.State.{State}
use Rattle.scram_mech.specs.State.{step, ends}
use Rattle.scram_mech.specs.Reading.{stuck_at}
use Rattle.scram_mech.specs.Values.{Progress, later, go_on, progress, value_at}

-- the state behind some octets, if each can stand there
unfoldable pub walk : {S : Type 0} → (S → ℕ → Option S) → S → List ℕ → Option S
walk next s [] = Some s
walk next s (x ∷ xs) = option_and_then (λ m. walk next m xs) (next s x)

-- the next octet can't stand behind a state
abbrev pub Stops : {S : Type 0} → (S → ℕ → Option S) → S → List ℕ → Type 0
Stops next s [] = Unit {0}
Stops next s (x ∷ xs) = next s x ≡ None

pub and_then_some : {A B : Type 0} (f : A → Option B) (o : Option A) (y : B) → option_and_then f o ≡ Some y → (x : A) × (o ≡ Some x) × (f x ≡ Some y)
and_then_some f None y e = absurd cc
and_then_some f (Some x) y e = (x, refl, e)

-- a first step and the others
pub walk-cons : {S : Type 0} (next : S → ℕ → Option S) (s : S) (x : ℕ) (xs : List ℕ) (e : S) → walk next s (x ∷ xs) ≡ Some e → (m : S) × (next s x ≡ Some m) × (walk next m xs ≡ Some e)
unfolding walk
walk-cons next s x xs e w = and_then_some (λ m. walk next m xs) (next s x) e w

pub walk-step : {S : Type 0} (next : S → ℕ → Option S) (s m : S) (x : ℕ) (xs : List ℕ) → next s x ≡ Some m → walk next s (x ∷ xs) ≡ walk next m xs
unfolding walk
walk-step next s m x xs e = rw e refl

pub walk-nil : {S : Type 0} (next : S → ℕ → Option S) (s e : S) → walk next s [] ≡ Some e → s ≡ e
unfolding walk
walk-nil next s e w = cc

pub walk-append : {S : Type 0} (next : S → ℕ → Option S) (s : S) (xs ys : List ℕ) → walk next s (xs ++ ys) ≡ option_and_then (λ m. walk next m ys) (walk next s xs)
unfolding walk
walk-append next s [] ys = refl
walk-append next s (x ∷ xs) ys =
    elim (next s x) as (λ o. option_and_then (λ m. walk next m (xs ++ ys)) o ≡ option_and_then (λ m. walk next m ys) (option_and_then (λ m. walk next m xs) o)) [
      | None ↦ refl
      | Some m ↦ walk-append next m xs ys
    ]

-- a walk inside one kind of state
pub walk-map : {S T : Type 0} (f : S → T) (inner : S → ℕ → Option S) (outer : T → ℕ → Option T) → ((s : S) (x : ℕ) → outer (f s) x ≡ option_map f (inner s x)) → (s : S) (xs : List ℕ) → walk outer (f s) xs ≡ option_map f (walk inner s xs)
unfolding walk
walk-map f inner outer same s [] = refl
walk-map f inner outer same s (x ∷ xs) =
    rw (same s x) (elim (inner s x) as (λ o. option_and_then (λ m. walk outer m xs) (option_map f o) ≡ option_map f (option_and_then (λ m. walk inner m xs) o)) [
      | None ↦ refl
      | Some m ↦ walk-map f inner outer same m xs
    ])

pub map_some : {A B : Type 0} (f : A → B) (o : Option A) (y : B) → option_map f o ≡ Some y → (x : A) × (o ≡ Some x) × (f x ≡ y)
map_some f None y e = absurd cc
map_some f (Some x) y e = (x, refl, cc)

take_drop : (n : ℕ) (xs : List ℕ) → take n xs ++ drop n xs ≡ xs
take_drop n xs = grind (arith, common_steps)

take_front : (xs ys : List ℕ) → take (length xs) (xs ++ ys) ≡ xs
take_front xs ys = grind (arith, common_steps)

drop_front : (xs ys : List ℕ) → drop (length xs) (xs ++ ys) ≡ ys
drop_front xs ys = grind (arith, common_steps)

-- ---- as far as can be

-- what was passed, and that no octet more can stand there
pub record Reached (s : State) (octets : List ℕ) (p : Progress) : Type 0 where
  pub passed : walk step s (take p.count octets) ≡ Some p.state
  pub stops : Stops step p.state (drop p.count octets)
  pub within : p.count ≤ length octets

reached-later : (s m : State) (x : ℕ) (xs : List ℕ) (p : Progress) → step s x ≡ Some m → Reached m xs p → Reached s (x ∷ xs) (later p)
reached-later s m x xs p e r = record {
  passed = rw (add-one) (walk-step step s m x (take p.count xs) e ∙ r.passed);
  stops = rw (add-one) r.stops;
  within = omega (arith, r.within);
}

reached_by : (s : State) (x : ℕ) (xs : List ℕ) → ((m : State) → Reached m xs (progress m xs)) → (o : Option State) → step s x ≡ o → Reached s (x ∷ xs) (go_on s o (λ next. progress next xs))
unfolding walk
reached_by s x xs others None e = record { passed = refl; stops = e; within = omega arith }
reached_by s x xs others (Some m) e = reached-later s m x xs (progress m xs) e (others m)

pub reached : (s : State) (octets : List ℕ) → Reached s octets (progress s octets)
unfolding progress walk
reached s [] = record { passed = refl; stops = tt; within = omega arith }
reached s (x ∷ xs) = reached_by s x xs (λ m. reached m xs) (step s x) refl

-- a value that is read, with what stands behind it
pub record Found (start : State) (octets value rest : List ℕ) : Type 0 where
  pub last : State
  pub same : octets ≡ value ++ rest
  pub passed : walk step start value ≡ Some last
  pub ended : ends last ≡ true
  pub stops : Stops step last rest

abbrev pub done : {A : Type 0} → A → Result A Stuck
done x = Ok x

abbrev pub answer_by : Bool → Progress → List ℕ → Result (List ℕ × List ℕ) Stuck
answer_by true p octets = Ok (take p.count octets, drop p.count octets)
answer_by false p octets = stuck_at (drop p.count octets)

pub ok_is : {A : Type 0} (x y : A) → done x ≡ done y → x ≡ y
ok_is x y e = cc

value_found : (start : State) (octets : List ℕ) (p : Progress) (value rest : List ℕ) (b : Bool) → ends p.state ≡ b → Reached start octets p → answer_by b p octets ≡ Ok (value, rest) → Found start octets value rest
value_found start octets p value rest true t r e =
    let pair : List ℕ × List ℕ = (take p.count octets, drop p.count octets) in
    let given : List ℕ × List ℕ = (value, rest) in
    let both : pair ≡ given = ok_is pair given e in
    let a : take p.count octets ≡ value = ap (λ (q : List ℕ × List ℕ). q.0) both in
    let b : drop p.count octets ≡ rest = ap (λ (q : List ℕ × List ℕ). q.1) both in
    record {
      last = p.state;
      same = sym (take_drop p.count octets) ∙ (ap (λ (v : List ℕ). v ++ drop p.count octets) a ∙ ap (λ (v : List ℕ). value ++ v) b);
      passed = rw (← a) r.passed;
      ended = t;
      stops = rw (← b) r.stops;
    }
value_found start octets p value rest false t r e = absurd cc

pub value_answer : (start : State) (octets : List ℕ) (b : Bool) → ends (progress start octets).state ≡ b → value_at start octets ≡ answer_by b (progress start octets) octets
unfolding value_at
value_answer start octets true e = rw e refl
value_answer start octets false e = rw e refl

pub value-found : (start : State) (octets value rest : List ℕ) → value_at start octets ≡ Ok (value, rest) → Found start octets value rest
value-found start octets value rest e =
    let p = progress start octets in
    value_found start octets p value rest (ends p.state) refl (reached start octets) (sym (value_answer start octets (ends p.state) refl) ∙ e)

-- a walk that ends where no octet more can stand is how far octets can stand
pub passes : (s : State) (value rest : List ℕ) (last : State) → walk step s value ≡ Some last → Stops step last rest → progress s (value ++ rest) ≡ record { state = last; count = length value }
unfolding progress walk
passes s [] [] last w stops = rw (walk-nil step s last w) refl
passes s [] (x ∷ xs) last w stops = let e : s ≡ last = walk-nil step s last w in rw (e, stops) refl
passes s (x ∷ xs) rest last w stops =
    let m = walk-cons step s x xs last w in
    rw (m.1, passes m.0 xs rest last m.2 stops) (rw (add-one) refl)

pub value-only : (start : State) (value rest : List ℕ) (last : State) → walk step start value ≡ Some last → ends last ≡ true → Stops step last rest → value_at start (value ++ rest) ≡ Ok (value, rest)
unfolding value_at
value-only start value rest last w ended stops =
    rw (passes start value rest last w stops, ended) (rw (take_front value rest, drop_front value rest) refl)
