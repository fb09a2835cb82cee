-- Equality of names without their realms: the type isn't compared (RFC 4120 section 6.2).
use Rattle.std.specs.Prelude.{Bool, nat_eq}
use Rattle.std.specs.Cmp.{IsPartialEquivalence, partial_equiv_from_equiv, nat_eq_equiv}
use Rattle.std.specs.Cmp.Lexicographic.{pointwise, lists_per}
use Rattle.krb_msgs.specs.declared.principal_name.PrincipalName.{PrincipalName}

-- the same parts
abbrev pub same_parts : PrincipalName → PrincipalName → Bool
same_parts a b = pointwise (pointwise nat_eq) a.name_string b.name_string

texts_per : IsPartialEquivalence (pointwise nat_eq)
texts_per = lists_per (partial_equiv_from_equiv nat_eq_equiv)

rows_per : IsPartialEquivalence (pointwise (pointwise nat_eq))
rows_per = lists_per texts_per

-- having the same parts is symmetric and transitive
pub same_parts_per : IsPartialEquivalence same_parts
same_parts_per = record {
  symm = λ a b. rows_per.symm a.name_string b.name_string;
  trans = λ a b c. rows_per.trans a.name_string b.name_string c.name_string;
}
