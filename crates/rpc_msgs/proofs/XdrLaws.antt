-- What a reading function gives is what is spelled in front, and what is spelled in front is read.
use Rattle.std.proofs.Common.{◌≡◌, inl, inr, ℕ, zero, suc, ◌+◌, ◌-◌, ◌<◌, ◌≤◌, ◌^◌, Bool, true, false, cond, List, [], ◌∷◌, ◌++◌, length, take, drop, get_or, Result, Ok, Err, nat_lt, refl, sym, ap, ◌∙◌, arith, append_assoc, eqb, replicate}
use Rattle.std.specs.Int.{w32, from_be_bytes}
use Rattle.std.proofs.lemmas.Bool.{eqb-true, cases_lt}
use Rattle.std.proofs.lemmas.Nat.{be_bytes_4, from_be_bytes-to_be_bytes_4}
use Rattle.std.proofs.lemmas.List.{length-append, get_or-append-add}
use Rattle.std.proofs.lemmas.Grind.{common_steps}
use Rattle.rpc_msgs.specs.Words.{word, opaque, padding_length}
use Rattle.rpc_msgs.specs.Xdr.{Input, ◌>>=◌, refusal, behind, place, octets_at, word_at, zeros_in, opaque_at, Reads, IsRead}
use Rattle.rpc_msgs.specs.declared.xdr_reader.XdrRefusal.{XdrRefusal}
use Rattle.rpc_msgs.specs.declared.xdr_reader.XdrWhy.TheVariants.{Short, TooLong, Padding}
use Rattle.rpc_msgs.proofs.WordLengths.{length-word}

-- each is an octet
abbrev pub AreOctets : List ℕ → Type 0
AreOctets xs = (k : ℕ) → get_or xs k 0 < 256

-- a value was read: it has a spelling, which stands in front of what is left
pub record Found {A : Type 0} (spell : A → List ℕ) (Has : A → Type 0) (v : A) (i j : Input) : Type 0 where
  pub has : Has v
  pub same : i.octets ≡ spell v ++ j.octets
  pub end : j.end ≡ i.end
  pub left : AreOctets j.octets

pub record Law {A E : Type 0} (read : Input → Result (A × Input) E) (spell : A → List ℕ) (Has : A → Type 0) : Type 0 where
  pub found : (i j : Input) (v : A) → AreOctets i.octets → read i ≡ Ok (v, j) → Found spell Has v i j
  pub only : (v : A) (back : List ℕ) (end : ℕ) → Has v → read (record { octets = spell v ++ back; end = end }) ≡ Ok (v, record { octets = back; end = end })

-- the value of a step that was not refused
pub bind_ok : {A B E : Type 0} (r : Result A E) (f : A → Result B E) (y : B) → (r >>= f) ≡ Ok y → (x : A) × (r ≡ Ok x) × (f x ≡ Ok y)
bind_ok (Ok x) f y e = (x, refl, e)
bind_ok (Err d) f y e = absurd cc

pub refused_not : {A E : Type 0} (b : Bool) (d : E) (r : Result A E) (y : A) → cond b (Err d) r ≡ Ok y → (b ≡ false) × (r ≡ Ok y)
refused_not true d r y e = absurd cc
refused_not false d r y e = (refl, e)

pub refused_else : {A E : Type 0} (b : Bool) (d : E) (r : Result A E) (y : A) → cond b r (Err d) ≡ Ok y → (b ≡ true) × (r ≡ Ok y)
refused_else true d r y e = (refl, e)
refused_else false d r y e = absurd cc

abbrev done : {A E : Type 0} → A → Result A E
done x = Ok x

pub ok_is : {A E : Type 0} (x y : A) → done {E = E} x ≡ done y → x ≡ y
ok_is x y e = cc

pub octets-behind : (front back octets : List ℕ) → octets ≡ front ++ back → AreOctets octets → AreOctets back
octets-behind front back octets e all = λ k. let f : get_or octets (length front + k) 0 ≡ get_or back k 0 = ap (λ (zs : List ℕ). get_or zs (length front + k) 0) e ∙ get_or-append-add front back k 0 in omega (arith, all (length front + k))

octets-front : (front back octets : List ℕ) → octets ≡ front ++ back → AreOctets octets → (k : ℕ) → k < length front → get_or front k 0 < 256
octets-front front back octets e all k h = let f : get_or octets k 0 ≡ get_or front k 0 = ap (λ (zs : List ℕ). get_or zs k 0) e ∙ grind (arith, common_steps) in omega (arith, all k)

-- so many octets
pub octets_law : (size : ℕ) → Law (octets_at size) (λ octets. octets) (λ octets. length octets ≡ size)
unfolding octets_at
octets_law size = record {
  found = λ i j v all e.
      let r = refused_not (nat_lt (length i.octets) size) (refusal Short i.end) (Ok (take size i.octets, behind size i)) (v, j) e in
      let enough : nat_lt (length i.octets) size ≡ false = r.0 in
      let is = ok_is {E = XdrRefusal} (take size i.octets, behind size i) (v, j) r.1 in
      let front : take size i.octets ≡ v = ap (λ p. p.0) is in
      let back : behind size i ≡ j = ap (λ p. p.1) is in
      let same : i.octets ≡ take size i.octets ++ drop size i.octets = grind (arith, common_steps) in
      let all_of : i.octets ≡ v ++ j.octets = same ∙ (ap (λ (zs : List ℕ). zs ++ drop size i.octets) front ∙ ap (λ (k : Input). v ++ k.octets) back) in
      record {
        has = sym (ap length front) ∙ grind (arith, common_steps);
        same = all_of;
        end = sym (ap (λ (k : Input). k.end) back);
        left = octets-behind v j.octets i.octets all_of all;
      };
  only = λ v back end has.
      let enough : nat_lt (length (v ++ back)) size ≡ false = grind (arith, length-append v back) in
      let front : take size (v ++ back) ≡ v = grind (arith, common_steps) in
      let rest : drop size (v ++ back) ≡ back = grind (arith, common_steps) in
      rw (enough, front, rest) refl;
}

word-found : (front : List ℕ) (v : ℕ) → length front ≡ 4 → ((k : ℕ) → get_or front k 0 < 256) → v ≡ from_be_bytes w32 front → (v < 2 ^ 32) × (word v ≡ front)
unfolding word
word-found front v size all is = (omega (arith, all 0, all 1, all 2, all 3), be_bytes_4 front v size all is)

all-octets : (front : List ℕ) (size : ℕ) → length front ≡ size → ((k : ℕ) → k < size → get_or front k 0 < 256) → (k : ℕ) → get_or front k 0 < 256
all-octets front size e all k =
    elim (cases_lt k size) [
      | inl inside ↦ all k inside
      | inr past ↦ let none : get_or front k 0 ≡ 0 = grind (arith, common_steps) in omega arith
    ]

from-word : (v : ℕ) → v < 2 ^ 32 → from_be_bytes w32 (word v) ≡ v
unfolding word
from-word v h = from_be_bytes-to_be_bytes_4 v h

pub word_law : Law word_at word (λ v. v < 2 ^ 32)
unfolding word_at
word_law = record {
  found = λ i j v all e.
      let b = bind_ok (octets_at 4 i) (λ octets. Ok (from_be_bytes w32 octets.0, octets.1)) (v, j) e in
      let t = (octets_law 4).found i b.0.1 b.0.0 all b.1 in
      let is = ok_is {E = XdrRefusal} (from_be_bytes w32 b.0.0, b.0.1) (v, j) b.2 in
      let rest : b.0.1 ≡ j = ap (λ p. p.1) is in
      let size : length b.0.0 ≡ 4 = t.has in
      let small = all-octets b.0.0 4 size (λ k h. octets-front b.0.0 b.0.1.octets i.octets t.same all k (omega arith)) in
      let w = word-found b.0.0 v size small (sym (ap (λ p. p.0) is)) in
      record {
        has = w.0;
        same = t.same ∙ (ap (λ (zs : List ℕ). zs ++ b.0.1.octets) (sym w.1) ∙ ap (λ (k : Input). word v ++ k.octets) rest);
        end = sym (ap (λ (k : Input). k.end) rest) ∙ t.end;
        left = let f : b.0.1.octets ≡ j.octets = ap (λ (k : Input). k.octets) rest in λ k. omega (arith, t.left k, ap (λ (zs : List ℕ). get_or zs k 0) f);
      };
  only = λ v back end has. rw ((octets_law 4).only (word v) back end (length-word v), from-word v has) refl;
}

zeros-found : (count : ℕ) (octets : List ℕ) (end : ℕ) (j : Input) → zeros_in count octets end ≡ Ok j → (octets ≡ replicate count 0 ++ j.octets) × (j.end ≡ end)
unfolding zeros_in
zeros-found zero octets end j e = let is = ok_is {E = XdrRefusal} (record { octets = octets; end = end }) j e in (ap (λ (k : Input). k.octets) is, sym (ap (λ (k : Input). k.end) is))
zeros-found (suc count) [] end j e = absurd cc
zeros-found (suc count) (octet ∷ octets) end j e =
    let r = refused_else (eqb octet 0) (refusal Padding (end - length (octet ∷ octets))) (zeros_in count octets end) j e in
    let none : octet ≡ 0 = eqb-true octet 0 r.0 in
    let more = zeros-found count octets end j r.1 in
    (ap (λ (x : ℕ). x ∷ octets) none ∙ ap (λ (zs : List ℕ). 0 ∷ zs) more.0, more.1)

zeros-only : (count : ℕ) (back : List ℕ) (end : ℕ) → zeros_in count (replicate count 0 ++ back) end ≡ Ok (record { octets = back; end = end })
unfolding zeros_in
zeros-only zero back end = refl
zeros-only (suc count) back end = zeros-only count back end

three-in-a-row : (octets w one v two p three : List ℕ) → octets ≡ w ++ one → one ≡ v ++ two → two ≡ p ++ three → octets ≡ (w ++ (v ++ p)) ++ three
three-in-a-row octets w one v two p three e f g = rw (e, f, g) (simp append_assoc)

pub opaque_law : (limit : ℕ) → limit < 2 ^ 32 → Law (opaque_at limit) opaque (λ octets. length octets ≤ limit)
unfolding opaque_at opaque
opaque_law limit fits = record {
  found = λ i j v all e.
      let b = bind_ok (word_at i) _ (v, j) e in
      let n : ℕ = b.0.0 in
      let t = word_law.found i b.0.1 n all b.1 in
      let r = refused_not (nat_lt limit n) (refusal TooLong (place i)) _ (v, j) b.2 in
      let within : nat_lt limit n ≡ false = r.0 in
      let c = bind_ok (octets_at n b.0.1) _ (v, j) r.1 in
      let u = (octets_law n).found b.0.1 c.0.1 c.0.0 t.left c.1 in
      let d = bind_ok (zeros_in (padding_length n) c.0.1.octets c.0.1.end) _ (v, j) c.2 in
      let z = zeros-found (padding_length n) c.0.1.octets c.0.1.end d.0 d.1 in
      let is = ok_is {E = XdrRefusal} (c.0.0, d.0) (v, j) d.2 in
      let value : c.0.0 ≡ v = ap (λ p. p.0) is in
      let rest : d.0 ≡ j = ap (λ p. p.1) is in
      let size : length v ≡ n = sym (ap length value) ∙ u.has in
      let one : i.octets ≡ word n ++ b.0.1.octets = t.same in
      let two : b.0.1.octets ≡ v ++ c.0.1.octets = u.same ∙ ap (λ (zs : List ℕ). zs ++ c.0.1.octets) value in
      let three : c.0.1.octets ≡ replicate (padding_length n) 0 ++ j.octets = z.0 ∙ ap (λ (k : Input). replicate (padding_length n) 0 ++ k.octets) rest in
      let whole_of : i.octets ≡ (word n ++ (v ++ replicate (padding_length n) 0)) ++ j.octets = three-in-a-row i.octets (word n) b.0.1.octets v c.0.1.octets (replicate (padding_length n) 0) j.octets one two three in
      let same : i.octets ≡ (word (length v) ++ (v ++ replicate (padding_length (length v)) 0)) ++ j.octets = whole_of ∙ ap (λ (m : ℕ). (word m ++ (v ++ replicate (padding_length m) 0)) ++ j.octets) (sym size) in
      record {
        has = grind (arith, size, within);
        same = same;
        end = sym (ap (λ (k : Input). k.end) rest) ∙ (z.1 ∙ (u.end ∙ t.end));
        left = octets-behind (word (length v) ++ (v ++ replicate (padding_length (length v)) 0)) j.octets i.octets same all;
      };
  only = λ v back end has.
      let n : ℕ = length v in
      let flat : (word n ++ (v ++ replicate (padding_length n) 0)) ++ back ≡ word n ++ (v ++ (replicate (padding_length n) 0 ++ back)) = simp append_assoc in
      let within : nat_lt limit n ≡ false = grind arith in
      rw (flat, word_law.only n (v ++ (replicate (padding_length n) 0 ++ back)) end (omega arith), within, (octets_law n).only v (replicate (padding_length n) 0 ++ back) end refl, zeros-only (padding_length n) back end) refl;
}

pub word-spelled : (octets front back : List ℕ) (end n : ℕ) → AreOctets octets → octets_at 4 (record { octets = octets; end = end }) ≡ Ok (front, record { octets = back; end = end }) → word n ≡ front → octets ≡ word n ++ back
word-spelled octets front back end n all e is =
    ((octets_law 4).found (record { octets = octets; end = end }) (record { octets = back; end = end }) front all e).same ∙ ap (λ (zs : List ℕ). zs ++ back) (sym is)

pub opaque-spelled : (limit n end : ℕ) (octets v one two three : List ℕ) → AreOctets octets → n ≤ limit → octets ≡ word n ++ one → octets_at n (record { octets = one; end = end }) ≡ Ok (v, record { octets = two; end = end }) → zeros_in (padding_length n) two end ≡ Ok (record { octets = three; end = end }) → (length v ≤ limit) × (octets ≡ opaque v ++ three)
unfolding opaque
opaque-spelled limit n end octets v one two three all h e f g =
    let t = (octets_law n).found (record { octets = one; end = end }) (record { octets = two; end = end }) v (octets-behind (word n) one octets e all) f in
    let z = zeros-found (padding_length n) two end (record { octets = three; end = end }) g in
    let size : length v ≡ n = t.has in
    let a : one ≡ v ++ two = t.same in
    let b : two ≡ replicate (padding_length n) 0 ++ three = z.0 in
    let whole_of : octets ≡ (word n ++ (v ++ replicate (padding_length n) 0)) ++ three = three-in-a-row octets (word n) one v two (replicate (padding_length n) 0) three e a b in
    (omega arith, whole_of ∙ ap (λ (m : ℕ). (word m ++ (v ++ replicate (padding_length m) 0)) ++ three) (sym size))

-- a reading whose answer is this value and what stands behind it took them
pub is_read : {A B E : Type 0} (view : A → B) (old new : Input) (result : Result A E) (answer : Result (B × Input) E) (value : B) (back : List ℕ) → Reads view new result answer → answer ≡ Ok (value, record { octets = back; end = old.end }) → IsRead view old new result value back
is_read {A} {B} {E} view old new (Ok x) answer value back read is =
    let was : B × Input = (view x, new) in
    let due : B × Input = (value, record { octets = back; end = old.end }) in
    let same : was ≡ due = ok_is {E = E} was due (sym read ∙ is) in
    (ap (λ p. p.0) same, ap (λ p. p.1) same)
is_read view old new (Err e) answer value back read is = absurd cc

pub word-read : {A : Type 0} (view : A → ℕ) (old new : Input) (result : Result A XdrRefusal) → Reads view new result (word_at old) → (number : ℕ) (back : List ℕ) → number < 2 ^ 32 → old.octets ≡ word number ++ back → IsRead view old new result number back
word-read view old new result read number back small e =
    let is : word_at old ≡ Ok (number, record { octets = back; end = old.end }) = ap (λ (octets : List ℕ). word_at (record { octets = octets; end = old.end })) e ∙ word_law.only number back old.end small in
    is_read view old new result (word_at old) number back read is

pub opaque-read : {A : Type 0} (view : A → List ℕ) (limit : ℕ) → limit < 2 ^ 32 → (old new : Input) (result : Result A XdrRefusal) → Reads view new result (opaque_at limit old) → (octets back : List ℕ) → length octets ≤ limit → old.octets ≡ opaque octets ++ back → IsRead view old new result octets back
opaque-read view limit fits old new result read octets back within e =
    let is : opaque_at limit old ≡ Ok (octets, record { octets = back; end = old.end }) = ap (λ (all : List ℕ). opaque_at limit (record { octets = all; end = old.end })) e ∙ (opaque_law limit fits).only octets back old.end within in
    is_read view old new result (opaque_at limit old) octets back read is
