-- A reading is stuck at the end of the longest front with which some text of the format begins.
use Rattle.std.proofs.Common.{◌≡◌, ℕ, ◌⊎◌, inl, inr, Bool, true, false, cond, ◌==◌, List, [], ◌∷◌, ◌++◌, length, take, drop, Some, None, Result, Ok, Err, refl, sym, ap, ◌∙◌, arith, subst, append_assoc}
use Rattle.std.proofs.lemmas.Bool.Decides.{nat_tests}
use Rattle.std.proofs.lemmas.Grind.{common_steps}
use Rattle.scram_mech.specs.declared.refusal.Stuck.{Stuck}
use Rattle.scram_mech.specs.declared.state.State.{State}
use Rattle.scram_mech.specs.State.{step, ends}
use Rattle.scram_mech.specs.Reading.{◌>>=◌, stuck_at, word_at}
use Rattle.scram_mech.specs.Values.{Progress, progress, value_at}
use Rattle.scram_mech.specs.Formats.{Segment, Word, Value, End, pieces}
use Rattle.scram_mech.proofs.Walks.{walk, walk-append, Stops, Reached, reached, passes, value-only, answer_by, value_answer}
use Rattle.scram_mech.proofs.Sextets.{eq_of}
use Rattle.scram_mech.proofs.Pieces.{Spelled, Takes, word-only, word-found, value_taken}

-- every front of a value goes on to a whole one
abbrev pub Completable : State → Type 0
Completable start = (front : List ℕ) (m : State) → walk step start front ≡ Some m → (more : List ℕ) × (last : State) × (walk step m more ≡ Some last) × (ends last ≡ true)

-- behind a whole value, no octet of it can stand where a text of the rest begins
abbrev pub Parting : State → List Segment → Type 0
Parting start format = (last : State) (value : List ℕ) → walk step start value ≡ Some last → ends last ≡ true → (values : List (List ℕ)) (text : List ℕ) → Spelled format values text [] → Stops step last text

abbrev pub Sound : List Segment → Type 0
Sound [] = Unit {0}
Sound (Word word ∷ format) = Sound format
Sound (Value start ∷ format) = Completable start × Parting start format × Sound format
Sound (End ∷ []) = Unit {0}
Sound (End ∷ segment ∷ format) = ⊥

pub record Sample (format : List Segment) : Type 0 where
  pub values : List (List ℕ)
  pub text : List ℕ
  pub spelled : Spelled format values text []

-- some text of a format
pub sample : (format : List Segment) → Sound format → Sample format
unfolding walk
sample [] s = record { values = []; text = []; spelled = refl }
sample (Word word ∷ format) s = let r = sample format s in record { values = r.values; text = word ++ r.text; spelled = (r.text, refl, r.spelled) }
sample (Value start ∷ format) s =
    let r = sample format s.2 in
    let c = s.0 [] start refl in
    record { values = c.0 ∷ r.values; text = c.0 ++ r.text; spelled = (r.text, refl, record { last = c.1; passed = c.2; ended = c.3; stops = s.1 c.1 c.0 c.2 c.3 r.values r.text r.spelled }, r.spelled) }
sample (End ∷ []) s = record { values = []; text = []; spelled = (refl, refl) }
sample (End ∷ segment ∷ format) s = absurd s

pub record StuckAt (format : List Segment) (octets : List ℕ) (stuck : Stuck) : Type 0 where
  pub front : List ℕ
  pub back : List ℕ
  pub same : octets ≡ front ++ back
  pub place : length back ≡ stuck.left
  pub more : List ℕ
  pub values : List (List ℕ)
  pub reaches : Spelled format values (front ++ more) []
  pub stays : (x : ℕ) (others : List ℕ) → back ≡ x ∷ others → (rest : List ℕ) → pieces format (front ++ x ∷ rest) ≡ stuck_at (x ∷ rest)

abbrev pub failed : {A E : Type 0} → E → Result A E
failed e = Err e

failed_is : {A E : Type 0} (c d : E) → failed {A = A} c ≡ failed d → c ≡ d
failed_is c d e = cc

pub bind_err : {A B E : Type 0} (r : Result A E) (f : A → Result B E) (d : E) → (r >>= f) ≡ Err d → (r ≡ Err d) ⊎ ((x : A) × (r ≡ Ok x) × (f x ≡ Err d))
bind_err {A} {B} {E} (Ok x) f d e = inr (x, refl, e)
bind_err {A} {B} {E} (Err c) f d e = inl (ap (λ (x : E). failed {A = A} x) (failed_is {A = B} c d e))

bind_stuck : {A B : Type 0} (r : Result A Stuck) (f : A → Result B Stuck) (rest : List ℕ) → r ≡ stuck_at rest → (r >>= f) ≡ stuck_at rest
bind_stuck r f rest e = rw e refl

-- ---- words

record WordStuck (word octets : List ℕ) (stuck : Stuck) : Type 0 where
  front : List ℕ
  back : List ℕ
  rest : List ℕ
  same : octets ≡ front ++ back
  place : length back ≡ stuck.left
  word_is : word ≡ front ++ rest
  stays : (x : ℕ) (others : List ℕ) → back ≡ x ∷ others → (more : List ℕ) → word_at word (front ++ x ∷ more) ≡ stuck_at (x ∷ more)

abbrev word_refused : Stuck → Result (Unit {0} × List ℕ) Stuck
word_refused stuck = Err stuck

err_is : (a b : Stuck) → word_refused a ≡ word_refused b → a ≡ b
err_is a b e = cc

left_is : (xs : List ℕ) (stuck : Stuck) → word_refused (record { left = length xs }) ≡ word_refused stuck → length xs ≡ stuck.left
left_is xs stuck e = ap (λ (s : Stuck). s.left) (err_is (record { left = length xs }) stuck e)

same_sign : (c : ℕ) → (c == c) ≡ true
same_sign c = grind (arith, nat_tests)

head_is : (x : ℕ) (xs : List ℕ) (y : ℕ) (ys : List ℕ) → x ∷ xs ≡ y ∷ ys → x ≡ y
head_is x xs y ys e = cc

no_head : (y : ℕ) (ys : List ℕ) → [] ≡ y ∷ ys → ⊥
no_head y ys e = cc

word_by : (c : ℕ) (cs : List ℕ) (x : ℕ) (xs : List ℕ) (stuck : Stuck) (b : Bool) → (x == c) ≡ b → (word_at cs xs ≡ word_refused stuck → WordStuck cs xs stuck) → cond b (word_at cs xs) (stuck_at (x ∷ xs)) ≡ word_refused stuck → WordStuck (c ∷ cs) (x ∷ xs) stuck
unfolding word_at
word_by c cs x xs stuck true same others e =
    let r = others e in
    let first : x ≡ c = eq_of x c same in
    record {
      front = c ∷ r.front;
      back = r.back;
      rest = r.rest;
      same = rw (first, r.same) refl;
      place = r.place;
      word_is = ap (λ (os : List ℕ). c ∷ os) r.word_is;
      stays = λ y more is rest. rw (same_sign c) (r.stays y more is rest);
    }
word_by c cs x xs stuck false same others e = record {
  front = [];
  back = x ∷ xs;
  rest = c ∷ cs;
  same = refl;
  place = left_is (x ∷ xs) stuck e;
  word_is = refl;
  stays = λ y more is rest. let first : x ≡ y = head_is x xs y more is in let other : (y == c) ≡ false = rw (← first) same in rw other refl;
}

word-stuck : (word octets : List ℕ) (stuck : Stuck) → word_at word octets ≡ word_refused stuck → WordStuck word octets stuck
unfolding word_at
word-stuck [] octets stuck e = absurd cc
word-stuck (c ∷ cs) [] stuck e = record { front = []; back = []; rest = c ∷ cs; same = refl; place = left_is [] stuck e; word_is = refl; stays = λ y more is rest. absurd (no_head y more is) }
word-stuck (c ∷ cs) (x ∷ xs) stuck e = word_by c cs x xs stuck (x == c) refl (λ f. word-stuck cs xs stuck f) e

-- ---- values

record ValueStuck (start : State) (octets : List ℕ) (stuck : Stuck) : Type 0 where
  front : List ℕ
  back : List ℕ
  state : State
  same : octets ≡ front ++ back
  place : length back ≡ stuck.left
  passed : walk step start front ≡ Some state
  stays : (x : ℕ) (others : List ℕ) → back ≡ x ∷ others → (more : List ℕ) → value_at start (front ++ x ∷ more) ≡ stuck_at (x ∷ more)

take_drop : (n : ℕ) (xs : List ℕ) → xs ≡ take n xs ++ drop n xs
take_drop n xs = grind (arith, common_steps)

drop_front : (xs ys : List ℕ) → drop (length xs) (xs ++ ys) ≡ ys
drop_front xs ys = grind (arith, common_steps)

abbrev refused_value : Stuck → Result (List ℕ × List ℕ) Stuck
refused_value stuck = Err stuck

value_err_is : (a b : Stuck) → refused_value a ≡ refused_value b → a ≡ b
value_err_is a b e = cc

stays_there : (start state : State) (front : List ℕ) (x : ℕ) (more : List ℕ) → walk step start front ≡ Some state → ends state ≡ false → step state x ≡ None → value_at start (front ++ x ∷ more) ≡ stuck_at (x ∷ more)
unfolding value_at
stays_there start state front x more w ended stops = rw (passes start front (x ∷ more) state w stops, ended) (rw (drop_front front (x ∷ more)) refl)

value_by : (start : State) (octets : List ℕ) (stuck : Stuck) (p : Progress) (b : Bool) → ends p.state ≡ b → Reached start octets p → answer_by b p octets ≡ refused_value stuck → ValueStuck start octets stuck
value_by start octets stuck p true t r e = absurd cc
value_by start octets stuck p false t r e = record {
  front = take p.count octets;
  back = drop p.count octets;
  state = p.state;
  same = take_drop p.count octets;
  place = ap (λ (s : Stuck). s.left) (value_err_is (record { left = length (drop p.count octets) }) stuck e);
  passed = r.passed;
  stays = λ x others is more. stays_there start p.state (take p.count octets) x more r.passed t (subst (λ (os : List ℕ). Stops step p.state os) is r.stops);
}

value-stuck : (start : State) (octets : List ℕ) (stuck : Stuck) → value_at start octets ≡ refused_value stuck → ValueStuck start octets stuck
value-stuck start octets stuck e =
    let p = progress start octets in
    value_by start octets stuck p (ends p.state) refl (reached start octets) (sym (value_answer start octets (ends p.state) refl) ∙ e)

-- ---- formats

-- what stops at the head of some octets stops there whatever follows
stops_same : (last : State) (front : List ℕ) (x : ℕ) (a b : List ℕ) → Stops step last (front ++ x ∷ a) → Stops step last (front ++ x ∷ b)
stops_same last [] x a b s = s
stops_same last (y ∷ ys) x a b s = s

abbrev pub refused_pieces : Stuck → Result (List (List ℕ) × List ℕ) Stuck
refused_pieces stuck = Err stuck

pieces_err_is : (a b : Stuck) → refused_pieces a ≡ refused_pieces b → a ≡ b
pieces_err_is a b e = cc

word_case : (word : List ℕ) (format : List Segment) (octets : List ℕ) (stuck : Stuck) (w : WordStuck word octets stuck) → Sample format → StuckAt (Word word ∷ format) octets stuck
unfolding pieces
word_case word format octets stuck w r =
    let whole : word ++ r.text ≡ w.front ++ (w.rest ++ r.text) = ap (λ (os : List ℕ). os ++ r.text) w.word_is ∙ append_assoc w.front w.rest r.text in
    record {
      front = w.front;
      back = w.back;
      same = w.same;
      place = w.place;
      more = w.rest ++ r.text;
      values = r.values;
      reaches = (r.text, sym whole, r.spelled);
      stays = λ x others is rest. bind_stuck (word_at word (w.front ++ x ∷ rest)) (λ y. pieces format y.1) (x ∷ rest) (w.stays x others is rest);
    }

after_word : (word : List ℕ) (format : List Segment) (octets back : List ℕ) (stuck : Stuck) → octets ≡ word ++ back → StuckAt format back stuck → StuckAt (Word word ∷ format) octets stuck
unfolding pieces
after_word word format octets back stuck e r = record {
  front = word ++ r.front;
  back = r.back;
  same = e ∙ (ap (λ (os : List ℕ). word ++ os) r.same ∙ sym (append_assoc word r.front r.back));
  place = r.place;
  more = r.more;
  values = r.values;
  reaches = (r.front ++ r.more, append_assoc word r.front r.more, r.reaches);
  stays = λ x others is rest. rw (append_assoc word r.front (x ∷ rest), word-only word (r.front ++ x ∷ rest)) (r.stays x others is rest);
}

value_case : (start : State) (format : List Segment) (octets : List ℕ) (stuck : Stuck) → Completable start → Parting start format → ValueStuck start octets stuck → Sample format → StuckAt (Value start ∷ format) octets stuck
unfolding pieces
value_case start format octets stuck complete parting v r =
    let c = complete v.front v.state v.passed in
    let passed : walk step start (v.front ++ c.0) ≡ Some c.1 = walk-append step start v.front c.0 ∙ rw v.passed c.2 in
    record {
      front = v.front;
      back = v.back;
      same = v.same;
      place = v.place;
      more = c.0 ++ r.text;
      values = (v.front ++ c.0) ∷ r.values;
      reaches = (r.text, sym (append_assoc v.front c.0 r.text), record { last = c.1; passed = passed; ended = c.3; stops = parting c.1 (v.front ++ c.0) passed c.3 r.values r.text r.spelled }, r.spelled);
      stays = λ x others is rest. bind_stuck (value_at start (v.front ++ x ∷ rest)) (λ y. pieces format y.1 >>= (λ z. Ok (y.0 ∷ z.0, z.1))) (x ∷ rest) (v.stays x others is rest);
    }

after_value : (start : State) (format : List Segment) (octets value back : List ℕ) (stuck : Stuck) → Parting start format → octets ≡ value ++ back → Takes start value back → StuckAt format back stuck → StuckAt (Value start ∷ format) octets stuck
unfolding pieces
after_value start format octets value back stuck parting e t r = record {
  front = value ++ r.front;
  back = r.back;
  same = e ∙ (ap (λ (os : List ℕ). value ++ os) r.same ∙ sym (append_assoc value r.front r.back));
  place = r.place;
  more = r.more;
  values = value ∷ r.values;
  reaches = (r.front ++ r.more, append_assoc value r.front r.more, record { last = t.last; passed = t.passed; ended = t.ended; stops = parting t.last value t.passed t.ended r.values (r.front ++ r.more) r.reaches }, r.reaches);
  stays = λ x others is rest.
      let here : Stops step t.last (r.front ++ x ∷ others) = subst (λ (os : List ℕ). Stops step t.last os) (r.same ∙ ap (λ (os : List ℕ). r.front ++ os) is) t.stops in
      let there : Stops step t.last (r.front ++ x ∷ rest) = stops_same t.last r.front x others rest here in
      rw (append_assoc value r.front (x ∷ rest), value-only start value (r.front ++ x ∷ rest) t.last t.passed t.ended there, r.stays x others is rest) refl;
}

end_left : (xs : List ℕ) (stuck : Stuck) → refused_pieces (record { left = length xs }) ≡ refused_pieces stuck → length xs ≡ stuck.left
end_left xs stuck e = ap (λ (s : Stuck). s.left) (failed_is (record { left = length xs }) stuck e)

-- where a reading is stuck
pub pieces-stuck : (format : List Segment) → Sound format → (octets : List ℕ) (stuck : Stuck) → pieces format octets ≡ refused_pieces stuck → StuckAt format octets stuck
unfolding pieces
pieces-stuck [] sound octets stuck e = absurd cc
pieces-stuck (Word word ∷ format) sound octets stuck e =
    elim (bind_err (word_at word octets) (λ x. pieces format x.1) stuck e) [
      | inl a ↦ word_case word format octets stuck (word-stuck word octets stuck a) (sample format sound)
      | inr b ↦ after_word word format octets b.0.1 stuck (word-found word octets b.0.1 b.0.0 b.1) (pieces-stuck format sound b.0.1 stuck b.2)
    ]
pieces-stuck (Value start ∷ format) sound octets stuck e =
    elim (bind_err (value_at start octets) (λ x. pieces format x.1 >>= (λ y. Ok (x.0 ∷ y.0, y.1))) stuck e) [
      | inl a ↦ value_case start format octets stuck sound.0 sound.1 (value-stuck start octets stuck a) (sample format sound.2)
      | inr b ↦
          let t = value_taken start octets b.0.0 b.0.1 b.1 in
          elim (bind_err (pieces format b.0.1) (λ y. Ok (b.0.0 ∷ y.0, y.1)) stuck b.2) [
            | inl c ↦ after_value start format octets b.0.0 b.0.1 stuck sound.1 t.0 t.1 (pieces-stuck format sound.2 b.0.1 stuck c)
            | inr c ↦ absurd cc
          ]
    ]
pieces-stuck (End ∷ []) sound [] stuck e = absurd cc
pieces-stuck (End ∷ []) sound (x ∷ xs) stuck e =
    record { front = []; back = x ∷ xs; same = refl; place = end_left (x ∷ xs) stuck e; more = []; values = []; reaches = (refl, refl); stays = λ y others is rest. refl }
pieces-stuck (End ∷ segment ∷ format) sound octets stuck e = absurd sound
