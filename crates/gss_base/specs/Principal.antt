-- Principals and their text form, RFC 1964 section 2.1.1: the parts with `/` between them, then `@`
-- and the realm, where a `\` stands before each `/`, `@` and `\` inside a part or the realm.
use Rattle.std.specs.Prelude.{◌≡◌, ℕ, ◌+◌, Bool, true, false, ◌&&◌, ◌||◌, nat_eq, nat_le, List, []}
use Rattle.std.specs.Prelude.{◌∷◌, ◌++◌, length, Option, Some, None, Result, Ok, Err, if◌then◌else◌}
use Rattle.gss_base.specs.Name.{Name}
use Rattle.gss_base.specs.declared.principal.NameRefusal.{NameRefusal}
use Rattle.gss_base.specs.declared.principal.NameRefusal.TheVariants.{PartCount, Zero, TooLong}

-- `/`, `@` and `\`
abbrev pub is_mark : ℕ → Bool
is_mark octet = nat_eq octet 47 || (nat_eq octet 64 || nat_eq octet 92)

-- `\` before each mark
abbrev pub quoted : List ℕ → List ℕ
quoted [] = []
quoted (octet ∷ octets) =
    if is_mark octet then 92 ∷ octet ∷ quoted octets else octet ∷ quoted octets

-- each part behind a `/`
abbrev pub further : List (List ℕ) → List ℕ
further [] = []
further (part ∷ parts) = 47 ∷ (quoted part ++ further parts)

-- the parts with `/` between them
abbrev pub joined : List (List ℕ) → List ℕ
joined [] = []
joined (part ∷ parts) = quoted part ++ further parts

-- the text form: the quoted parts with `/` between them, `@`, the quoted realm
abbrev pub text_form : List ℕ → List (List ℕ) → List ℕ
text_form realm parts = joined parts ++ 64 ∷ quoted realm

-- the place of the first octet 00, where the first octet stands at `at`
abbrev pub zero_from : ℕ → List ℕ → Option ℕ
zero_from at [] = None
zero_from at (octet ∷ octets) = if nat_eq octet 0 then Some at else zero_from (at + 1) octets

-- 1 to 8 parts
abbrev pub is_count : List (List ℕ) → Bool
is_count parts = nat_le 1 (length parts) && nat_le (length parts) 8

-- the principal, unless its text form is longer than 255 octets
abbrev pub name_within : List ℕ → List (List ℕ) → Result Name NameRefusal
name_within realm parts =
    if nat_le (length (text_form realm parts)) 255 then Ok (record { realm = realm; parts = parts })
    else Err TooLong

-- the same, refused at the place of an octet 00 in the text that names it, if there is one
abbrev pub name_unless_zero : Option ℕ → List ℕ → List (List ℕ) → Result Name NameRefusal
name_unless_zero (Some at) realm parts = Err (Zero at)
name_unless_zero None realm parts = name_within realm parts

-- the principal of this realm and these parts within the limits of this project: 1 to 8 parts, no
-- octet 00 in the text that names it, a text form of at most 255 octets; else the first limit that
-- is passed
abbrev pub name_judged : List ℕ → List ℕ → List (List ℕ) → Result Name NameRefusal
name_judged text realm parts =
    if is_count parts then name_unless_zero (zero_from 0 text) realm parts else Err PartCount

-- the same, named by its own text form
abbrev pub name_of : List ℕ → List (List ℕ) → Result Name NameRefusal
name_of realm parts = name_judged (text_form realm parts) realm parts

-- a principal is answered
abbrev pub is_found : Result Name NameRefusal → Bool
is_found (Ok name) = true
is_found (Err refusal) = false

-- whether a principal of this project has this realm and these parts
abbrev pub is_named : List ℕ → List (List ℕ) → Bool
is_named realm parts = is_found (name_of realm parts)

-- what a principal keeps beside its realm and parts
pub record IsPrincipal (realm : List ℕ) (parts : List (List ℕ)) (label : List ℕ) : Type 0 where
  pub named : is_named realm parts ≡ true
  pub label_is : label ≡ text_form realm parts
