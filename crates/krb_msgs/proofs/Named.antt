-- The realm and the parts of a principal have a spelling in messages.
use Rattle.std.proofs.Common.{◌≡◌, ℕ, ◌+◌, Bool, true, false, cond, ◌||◌, eqb, List, [], ◌∷◌, ◌++◌, Option, Some, None, Err, All, refl}
use Rattle.std.proofs.lemmas.List.Elements.{All-nil, All-cons}
use Rattle.gss_base.specs.declared.principal.NameRefusal.TheVariants.{PartCount}
use Rattle.gss_base.specs.Principal.{is_mark, quoted, further, joined, text_form, zero_from, is_count, is_named, is_found, name_unless_zero}
use Rattle.der_core.specs.Values.{has_zero}
use Rattle.krb_msgs.specs.declared.principal_name.PrincipalName.{PrincipalName}
use Rattle.krb_msgs.specs.PrincipalName.{IsName}

or_false : (x y : Bool) → (x || y) ≡ false → (x ≡ false) × (y ≡ false)
or_false true y e = absurd cc
or_false false y e = (refl, e)

or_from : (x y : Bool) → x ≡ false → y ≡ false → (x || y) ≡ false
or_from true y e f = absurd cc
or_from false y e f = f

zero_step : (b : Bool) (at : ℕ) (r : Option ℕ) (h : Bool) → cond b (Some at) r ≡ None → (r ≡ None → h ≡ false) → (b || h) ≡ false
zero_step true at r h e next = absurd cc
zero_step false at r h e next = next e

zero_free : (at : ℕ) (os : List ℕ) → zero_from at os ≡ None → has_zero os ≡ false
zero_free at [] e = refl
zero_free at (o ∷ os) e = zero_step (eqb o 0) at (zero_from (at + 1) os) (has_zero os) e (λ f. zero_free (at + 1) os f)

both_free : (a b : List ℕ) → has_zero (a ++ b) ≡ false → (has_zero a ≡ false) × (has_zero b ≡ false)
both_free [] b e = (refl, e)
both_free (o ∷ os) b e =
    let t = or_false (eqb o 0) (has_zero (os ++ b)) e in
    let u = both_free os b t.1 in
    (or_from (eqb o 0) (has_zero os) t.0 u.0, u.1)

quoted_step : (b : Bool) (o : ℕ) (q : List ℕ) → has_zero (cond b (92 ∷ o ∷ q) (o ∷ q)) ≡ false → has_zero (o ∷ q) ≡ false
quoted_step true o q e = e
quoted_step false o q e = e

quoted_free : (t : List ℕ) → has_zero (quoted t) ≡ false → has_zero t ≡ false
quoted_free [] e = refl
quoted_free (o ∷ os) e =
    let t = or_false (eqb o 0) (has_zero (quoted os)) (quoted_step (is_mark o) o (quoted os) e) in
    or_from (eqb o 0) (has_zero os) t.0 (quoted_free os t.1)

abbrev IsFree : List ℕ → Type 0
IsFree t = has_zero t ≡ false

further_free : (parts : List (List ℕ)) → has_zero (further parts) ≡ false → All IsFree parts
further_free [] e = All-nil IsFree
further_free (part ∷ parts) e =
    let t = both_free (quoted part) (further parts) e in
    All-cons IsFree part parts (quoted_free part t.0) (further_free parts t.1)

joined_free : (parts : List (List ℕ)) → has_zero (joined parts) ≡ false → All IsFree parts
joined_free [] e = All-nil IsFree
joined_free (part ∷ parts) e =
    let t = both_free (quoted part) (further parts) e in
    All-cons IsFree part parts (quoted_free part t.0) (further_free parts t.1)

found_by : (realm : List ℕ) (parts : List (List ℕ)) (c : Bool) (z : Option ℕ) → is_found (cond c (name_unless_zero z realm parts) (Err PartCount)) ≡ true → (c ≡ true) × (z ≡ None)
found_by realm parts true (Some at) e = absurd cc
found_by realm parts true None e = (refl, refl)
found_by realm parts false z e = absurd cc

pub realm_free : (realm : List ℕ) (parts : List (List ℕ)) → is_named realm parts ≡ true → has_zero realm ≡ false
realm_free realm parts e =
    let f = found_by realm parts (is_count parts) (zero_from 0 (text_form realm parts)) e in
    quoted_free realm (both_free (joined parts) (64 ∷ quoted realm) (zero_free 0 (text_form realm parts) f.1)).1

pub is_name : (realm : List ℕ) (n : PrincipalName) → is_named realm n.name_string ≡ true → IsName realm n
is_name realm n e =
    let f = found_by realm n.name_string (is_count n.name_string) (zero_from 0 (text_form realm n.name_string)) e in
    record {
      named = e;
      count = f.0;
      texts = joined_free n.name_string (both_free (joined n.name_string) (64 ∷ quoted realm) (zero_free 0 (text_form realm n.name_string) f.1)).0;
    }
