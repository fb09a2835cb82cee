-- What a reading function gives is what its grammar spells.
use Rattle.std.proofs.Common.{◌≡◌, ℕ, ◌≤◌, Bool, true, false, cond, List, [], ◌++◌, length, take, drop, Result, Ok, Err, nat_lt, refl, sym, ap, ◌∙◌, arith, append_assoc, length-append}
use Rattle.std.proofs.lemmas.List.{length-take}
use Rattle.std.proofs.lemmas.Grind.{common_steps}
use Rattle.krb_files.specs.declared.refusal.FileRefusal.{FileRefusal}
use Rattle.krb_files.specs.Fields.{Input, ◌>>=◌, cut, behind, number_of, octets_at, number_at, counted_at, passed_at}
use Rattle.krb_files.specs.Grammar.{Then, Gives, Plain, Number, Counted, Passed}

-- the same input with these octets left
abbrev pub stands : List ℕ → Input → Input
stands back i = record { end = i.end; octets = back; bounds = i.bounds }

pub record Taken {A : Type 0} (grammar : A → List ℕ → Type 0) (v : A) (i j : Input) : Type 0 where
  pub front : List ℕ
  pub back : List ℕ
  pub spells : grammar v front
  pub same : i.octets ≡ front ++ back
  pub left : j ≡ stands back i

pub record Law {A : Type 0} (read : Input → Result (A × Input) FileRefusal) (grammar : A → List ℕ → Type 0) : Type 0 where
  pub found : (i j : Input) (v : A) → read i ≡ Ok (v, j) → Taken grammar v i j
  pub only : (v : A) (front back : List ℕ) (i : Input) → grammar v front → i.octets ≡ front ++ back → read i ≡ Ok (v, stands back i)

-- the value of a step that was not refused
pub bind_ok : {A B : Type 0} (r : Result A FileRefusal) (f : A → Result B FileRefusal) (y : B) → (r >>= f) ≡ Ok y → (x : A) × (r ≡ Ok x) × (f x ≡ Ok y)
bind_ok (Ok x) f y e = (x, refl, e)
bind_ok (Err d) f y e = absurd cc

pub refused_not : {A : Type 0} (b : Bool) (d : FileRefusal) (r : Result A FileRefusal) (y : A) → cond b (Err d) r ≡ Ok y → (b ≡ false) × (r ≡ Ok y)
refused_not true d r y e = absurd cc
refused_not false d r y e = (refl, e)

abbrev done : {A : Type 0} → A → Result A FileRefusal
done x = Ok x

pub ok_is : {A : Type 0} (x y : A) → done x ≡ done y → x ≡ y
ok_is x y e = cc

back_of : (octets front back : List ℕ) (other : Input) (i : Input) (rest : List ℕ) → i.octets ≡ front ++ rest → other ≡ stands rest i → other.octets ≡ octets ++ back → i.octets ≡ (front ++ octets) ++ back
back_of octets front back other i rest same left more =
    let e : rest ≡ octets ++ back = sym (ap (λ (k : Input). k.octets) left) ∙ more in
    rw (append_assoc, same, e) refl

pub then_law : {A B : Type 0} (r : Input → Result (A × Input) FileRefusal) (g : A → List ℕ → Type 0) (s : Input → A → Input → Result (B × Input) FileRefusal) (h : A → B → List ℕ → Type 0) → Law r g → ((i : Input) (x : A) → Law (s i x) (h x)) → Law (λ i. r i >>= (λ x. s i x.0 x.1)) (Then g h)
then_law r g s h one two = record {
  found = λ i j v e.
      let b = bind_ok (r i) (λ x. s i x.0 x.1) (v, j) e in
      let t = one.found i b.0.1 b.0.0 b.1 in
      let u = (two i b.0.0).found b.0.1 j v b.2 in
      record {
        front = t.front ++ u.front;
        back = u.back;
        spells = record { value = b.0.0; front = t.front; back = u.front; begins = t.spells; goes_on = u.spells; same = refl };
        same = back_of u.front t.front u.back b.0.1 i t.back t.same t.left u.same;
        left = u.left ∙ ap (λ (k : Input). stands u.back k) t.left;
      };
  only = λ v front back i spelled same.
      let all : i.octets ≡ spelled.front ++ (spelled.back ++ back) = same ∙ (ap (λ (os : List ℕ). os ++ back) spelled.same ∙ append_assoc spelled.front spelled.back back) in
      let first = one.only spelled.value spelled.front (spelled.back ++ back) i spelled.begins all in
      rw first ((two i spelled.value).only v spelled.back back (stands (spelled.back ++ back) i) spelled.goes_on refl);
}

pub gives_law : {A : Type 0} (v : A) → Law (λ i. Ok (v, i)) (Gives v)
gives_law v = record {
  found = λ i j w e.
      let same = ok_is (v, i) (w, j) e in
      record { front = []; back = i.octets; spells = record { value = sym (ap (λ p. p.0) same); none = refl }; same = refl; left = sym (ap (λ p. p.1) same) };
  only = λ w front back i spelled same.
      let all : i.octets ≡ back = same ∙ ap (λ (os : List ℕ). os ++ back) spelled.none in
      rw (spelled.value, ← all) refl;
}

pub take_front : (front back : List ℕ) (size : ℕ) → length front ≡ size → (take size (front ++ back) ≡ front) × (drop size (front ++ back) ≡ back)
take_front front back size sized = (grind (arith, common_steps), grind (arith, common_steps))

is_room : (os : List ℕ) (size : ℕ) → nat_lt (length os) size ≡ false → size ≤ length os
is_room os size e = grind arith

no_cut : (front back : List ℕ) (size : ℕ) → length front ≡ size → nat_lt (length (front ++ back)) size ≡ false
no_cut front back size sized = grind (arith, length-append front back)

pub octets_law : (field : Input) (size : ℕ) → Law (octets_at field size) (Plain size)
unfolding octets_at
octets_law field size = record {
  found = λ i j v e.
      let b = refused_not (nat_lt (length i.octets) size) (cut field) (Ok (take size i.octets, behind size i)) (v, j) e in
      let same = ok_is (take size i.octets, behind size i) (v, j) b.1 in
      record {
        front = take size i.octets;
        back = drop size i.octets;
        spells = record { sized = omega (arith, length-take size i.octets, is_room i.octets size b.0); same = sym (ap (λ p. p.0) same) };
        same = grind (arith, common_steps);
        left = sym (ap (λ p. p.1) same);
      };
  only = λ v front back i spelled same.
      let t = take_front front back size spelled.sized in
      rw (same, no_cut front back size spelled.sized, t.0, t.1, spelled.same) refl;
}

pub number_law : (size : ℕ) → Law (number_at size) (Number size)
unfolding number_at
number_law size = record {
  found = λ i j v e.
      let b = bind_ok (octets_at i size i) (λ x. Ok (number_of x.0, x.1)) (v, j) e in
      let t = (octets_law i size).found i b.0.1 b.0.0 b.1 in
      let same = ok_is (number_of b.0.0, b.0.1) (v, j) b.2 in
      record {
        front = t.front;
        back = t.back;
        spells = record { sized = t.spells.sized; same = sym (ap (λ p. p.0) same) ∙ ap number_of t.spells.same };
        same = t.same;
        left = sym (ap (λ p. p.1) same) ∙ t.left;
      };
  only = λ v front back i spelled same.
      let first = (octets_law i size).only front front back i (record { sized = spelled.sized; same = refl }) same in
      rw (first, spelled.same) refl;
}

pub counted_law : (size : ℕ) → Law (counted_at size) (Counted size)
unfolding counted_at
counted_law size = then_law (number_at size) (Number size) (λ i count j. octets_at i count j) Plain (number_law size) (λ i count. octets_law i count)

pub passed_law : (size : ℕ) → Law (passed_at size) (Passed size)
unfolding passed_at
passed_law size = record {
  found = λ i j v e.
      let b = bind_ok (octets_at i size i) (λ x. Ok (tt, x.1)) (v, j) e in
      let t = (octets_law i size).found i b.0.1 b.0.0 b.1 in
      let same = ok_is (tt, b.0.1) (v, j) b.2 in
      record { front = t.front; back = t.back; spells = record { sized = t.spells.sized }; same = t.same; left = sym (ap (λ p. p.1) same) ∙ t.left };
  only = λ v front back i spelled same.
      let first = (octets_law i size).only front front back i (record { sized = spelled.sized; same = refl }) same in
      rw first refl;
}
