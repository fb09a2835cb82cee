-- Equality of names.
use Rattle.std.specs.Prelude.{◌≡◌, Bool, true, false, ◌&&◌, nat_eq}
use Rattle.std.proofs.Common.{refl}
use Rattle.std.specs.Cmp.{IsPartialEquivalence, partial_equiv_from_equiv, nat_eq_equiv}
use Rattle.std.specs.Cmp.Lexicographic.{pointwise, lists_per}
use Rattle.gss_base.specs.Name.{Name}

-- the same realm and the same parts
abbrev pub same_name : Name → Name → Bool
same_name a b = pointwise nat_eq a.realm b.realm && pointwise (pointwise nat_eq) a.parts b.parts

texts_per : IsPartialEquivalence (pointwise nat_eq)
texts_per = lists_per (partial_equiv_from_equiv nat_eq_equiv)

rows_per : IsPartialEquivalence (pointwise (pointwise nat_eq))
rows_per = lists_per texts_per

first_of : (a b : Bool) → (a && b) ≡ true → a ≡ true
first_of true b e = refl
first_of false b e = cc

second_of : (a b : Bool) → (a && b) ≡ true → b ≡ true
second_of true b e = e
second_of false b e = cc

both_of : (a b : Bool) → a ≡ true → b ≡ true → (a && b) ≡ true
both_of a b e f = rw (e, f) refl

-- being the same name is symmetric and transitive
pub same_name_per : IsPartialEquivalence same_name
same_name_per = record {
  symm = λ a b. rw (texts_per.symm a.realm b.realm, rows_per.symm a.parts b.parts) refl;
  trans = λ a b c e f. both_of (pointwise nat_eq a.realm c.realm)
      (pointwise (pointwise nat_eq) a.parts c.parts)
      (texts_per.trans a.realm b.realm c.realm (first_of (pointwise nat_eq a.realm b.realm) _ e)
      (first_of (pointwise nat_eq b.realm c.realm) _ f))
      (rows_per.trans a.parts b.parts c.parts (second_of (pointwise nat_eq a.realm b.realm) _ e)
      (second_of (pointwise nat_eq b.realm c.realm) _ f));
}
