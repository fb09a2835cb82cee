-- What an acceptor signs of a list of the own mechanisms is nothing that it signs of a result or a word, and says the list.
use Rattle.std.proofs.Common.{◌≡◌, ℕ, ◌-◌, ◌<◌, true, refl, sym, ap, subst, ◌∙◌, arith, List, [], ◌∷◌, ◌++◌, length, take, drop, length-append}
use Rattle.std.proofs.lemmas.List.{length-take-le, length-drop, take-append-drop}
use Rattle.gss_base.specs.declared.mech.MechName.{MechName}
use Rattle.rpc_msgs.specs.Words.{word}
use Rattle.spnego_msgs.specs.Lists.{list_octets}
use Rattle.spnego_core.specs.Ends.{PlainSetup}
use Rattle.spnego_core.specs.InitMech.{is_own_list}
use Rattle.spnego_core.specs.Initiating.{own_list}
use Rattle.told_apart.specs.Apart.{first_word, oid_word, NoList}
use Rattle.world_laws.proofs.ListOctets.{IsHigh, high-list}

-- ---- two fronts, and two backs, of one length

same-tail : (x y : ℕ) (xs ys : List ℕ) → x ∷ xs ≡ y ∷ ys → (x ≡ y) × (xs ≡ ys)
same-tail x y xs ys e = (cc, cc)

pub split-front : (a b c d : List ℕ) → length a ≡ length c → a ++ b ≡ c ++ d → (a ≡ c) × (b ≡ d)
split-front [] b [] d n e = (refl, e)
split-front [] b (y ∷ c) d n e = absurd (omega arith)
split-front (x ∷ a) b [] d n e = absurd (omega arith)
split-front (x ∷ a) b (y ∷ c) d n e =
    let h = same-tail x y (a ++ b) (c ++ d) e in
    let t = split-front a b c d (omega arith) h.1 in
    (ap (λ (z : ℕ). z ∷ a) h.0 ∙ ap (λ (zs : List ℕ). y ∷ zs) t.0, t.1)

pub split-back : (a b c d : List ℕ) → length b ≡ length d → a ++ b ≡ c ++ d → (a ≡ c) × (b ≡ d)
split-back a b c d n e =
    let whole : length (a ++ b) ≡ length (c ++ d) = ap length e in
    let front : length a ≡ length c = omega (arith, length-append a b, length-append c d, whole) in
    split-front a b c d front e

-- ---- bodies of results

length-word : (n : ℕ) → length (word n) ≡ 4
unfolding word
length-word n = refl

-- octets that go on as a list does
pub record GoesOn (octets : List ℕ) : Type 0 where
  pub long : 4 < length octets
  pub few : length octets < 96
  pub name : MechName
  pub is : first_word octets ≡ oid_word name

-- a list's octets are four, and what goes on so
pub record OfList (octets : List ℕ) : Type 0 where
  pub front : List ℕ
  pub back : List ℕ
  pub four : length front ≡ 4
  pub parts : octets ≡ front ++ back
  pub goes_on : GoesOn back
  pub short : length octets < 100

pub list-result : (octets result : List ℕ) (seq : ℕ) → OfList octets → NoList result → octets ≡ word seq ++ result → ⊥
list-result octets result seq o apart e =
    let s = split-front o.front o.back (word seq) result (o.four ∙ sym (length-word seq)) (sym o.parts ∙ e) in
    apart.other o.goes_on.name (subst (λ (l : List ℕ). 4 < length l) s.1 o.goes_on.long) (subst (λ (l : List ℕ). length l < 96) s.1 o.goes_on.few) (sym (ap first_word s.1) ∙ o.goes_on.is)

pub list-word : (octets said : List ℕ) → OfList octets → length said ≡ 4 → octets ≡ said → ⊥
list-word octets said o four e =
    let size : length (o.front ++ o.back) ≡ 4 = ap length (sym o.parts ∙ e) ∙ four in
    omega (arith, size, length-append o.front o.back, o.four, o.goes_on.long)

-- ---- the own lists

list-of : (octets : List ℕ) → IsHigh octets → OfList octets
list-of octets h =
    let four : length (take 4 octets) ≡ 4 = length-take-le 4 octets (omega (arith, h.long)) in
    let back : length (drop 4 octets) ≡ length octets - 4 = length-drop 4 octets in record {
      front = take 4 octets;
      back = drop 4 octets;
      four = four;
      parts = sym (take-append-drop 4 octets);
      goes_on = record { long = omega (arith, back, h.long); few = omega (arith, back, h.short); name = h.name; is = h.is };
      short = h.short;
    }

pub own-list : (own : PlainSetup) → is_own_list own.list ≡ true → OfList (list_octets (own_list own))
own-list own e = list-of (list_octets (own_list own)) (high-list own.list e)
