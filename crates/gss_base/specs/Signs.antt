-- How a text names a principal: it is a row of signs.
use Rattle.std.specs.Prelude.{◌≡◌, ℕ, ◌+◌, ◌-◌, Bool, true, false, ◌&&◌, not, nat_eq, List, [], ◌∷◌}
use Rattle.std.specs.Prelude.{◌++◌, Option, Some, None, Result, Ok, Err, Vec, if◌then◌else◌}
use Rattle.gss_base.specs.Name.{Name}
use Rattle.gss_base.specs.Principal.{is_mark, name_judged}
use Rattle.gss_base.specs.declared.principal.NameRefusal.{NameRefusal}
use Rattle.gss_base.specs.declared.principal.NameRefusal.TheVariants.{Form, PartCount, Zero}
use Rattle.gss_base.specs.declared.principal.NameRefusal.TheVariants.{TooLong, NoMemory}
use Rattle.gss_base.specs.declared.principal.Sign.{Sign}
use Rattle.gss_base.specs.declared.principal.Sign.TheVariants.{Octet, Slash, At}
use Rattle.gss_base.specs.declared.principal.Turn.{Turn}
use Rattle.gss_base.specs.declared.principal.Turn.TheVariants.{Stands, Quotes, Faulty}

-- this sign before those that follow, unless the text is refused behind it
abbrev pub with_sign : Sign → Result (List Sign) ℕ → Result (List Sign) ℕ
with_sign sign (Ok signs) = Ok (sign ∷ signs)
with_sign sign (Err at) = Err at

-- the signs from the place `at` on, where `quotes` says that the octet before it is a `\` that
-- isn't quoted itself, and `realm` that the bare `@` was there; else the first place that no text
-- of a name has so: of a `\` that stands before no mark, of a second bare `@`, or the end where no
-- bare `@` was there. Behind the bare `@` a bare `/` is an octet of the realm.
abbrev pub signs_of : Bool → Bool → ℕ → List ℕ → Result (List Sign) ℕ
signs_of true realm at [] = Err (at - 1)
signs_of false realm at [] = if realm then Ok [] else Err at
signs_of true realm at (octet ∷ octets) =
    if is_mark octet then with_sign (Octet octet) (signs_of false realm (at + 1) octets)
    else Err (at - 1)
signs_of false realm at (octet ∷ octets) =
    if nat_eq octet 92 then signs_of true realm (at + 1) octets
    else if nat_eq octet 64
    then (if realm then Err at else with_sign At (signs_of false true (at + 1) octets))
    else with_sign (if nat_eq octet 47 && not realm then Slash else Octet octet)
    (signs_of false realm (at + 1) octets)

-- what one octet does; arguments as in `signs_of`
abbrev pub turn_of : Bool → Bool → ℕ → ℕ → Turn
turn_of true realm at octet = if is_mark octet then Stands (Octet octet) else Faulty (at - 1)
turn_of false realm at octet =
    if nat_eq octet 92 then Quotes
    else if nat_eq octet 64 then (if realm then Faulty at else Stands At)
    else Stands (if nat_eq octet 47 && not realm then Slash else Octet octet)

-- whether the bare `@` was there, once this sign was read
abbrev pub realm_behind : Bool → Sign → Bool
realm_behind realm (Octet octet) = realm
realm_behind realm Slash = realm
realm_behind realm At = true

-- the place that is refused where a text ends at the place `at`; arguments as in `signs_of`
abbrev pub fault_at : Bool → Bool → ℕ → Option ℕ
fault_at true realm at = Some (at - 1)
fault_at false true at = None
fault_at false false at = Some at

-- what a function that reads the signs answers
abbrev pub AreSigns : {A : Type 0} → Result (Vec Sign A) NameRefusal → Result (List Sign) ℕ → Type 0
AreSigns (Ok signs) answer = answer ≡ Ok signs.items
AreSigns (Err (Form at)) answer = answer ≡ Err at
AreSigns (Err NoMemory) answer = Unit {0}
AreSigns (Err PartCount) answer = ⊥
AreSigns (Err (Zero at)) answer = ⊥
AreSigns (Err TooLong) answer = ⊥

-- the parts, where `part` are the octets of the first of them that stand before
abbrev pub parts_from : List ℕ → List Sign → List (List ℕ)
parts_from part [] = part ∷ []
parts_from part (Octet octet ∷ signs) = parts_from (part ++ octet ∷ []) signs
parts_from part (Slash ∷ signs) = part ∷ parts_from [] signs
parts_from part (At ∷ signs) = part ∷ []

-- the octets among signs
abbrev pub octets_in : List Sign → List ℕ
octets_in [] = []
octets_in (Octet octet ∷ signs) = octet ∷ octets_in signs
octets_in (Slash ∷ signs) = octets_in signs
octets_in (At ∷ signs) = octets_in signs

-- what stands behind the `@`
abbrev pub realm_of : List Sign → List ℕ
realm_of [] = []
realm_of (Octet octet ∷ signs) = realm_of signs
realm_of (Slash ∷ signs) = realm_of signs
realm_of (At ∷ signs) = octets_in signs

-- the principal by the signs of a text; a text of another form is refused at its place
abbrev pub name_by : List ℕ → Result (List Sign) ℕ → Result Name NameRefusal
name_by text (Ok signs) = name_judged text (realm_of signs) (parts_from [] signs)
name_by text (Err at) = Err (Form at)

-- the principal that a text names, or what is wrong with the text
abbrev pub parsed : List ℕ → Result Name NameRefusal
parsed text = name_by text (signs_of false false 0 text)
