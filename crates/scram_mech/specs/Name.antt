-- A user's name as a text has it, RFC 5802 section 5.1.
use Rattle.std.specs.Prelude.{ℕ, ◌-◌, Bool, false, ◌==◌, List, [], ◌∷◌, ◌++◌, Option, Some, None}
use Rattle.std.specs.Prelude.{if◌then◌else◌}
use Rattle.scram_mech.specs.declared.name.Escape.{Escape}
use Rattle.scram_mech.specs.declared.name.Escape.TheVariants.{Outside, Begun, Comma, Equals}
use Rattle.scram_mech.specs.declared.name.Name.{Name}
use Rattle.scram_mech.specs.Signs.{is_value}

-- an octet as a text has it: `=2C` for a comma, `=3D` for `=`
abbrev pub escape_of : ℕ → List ℕ
escape_of octet =
    if octet == 44 then 61 ∷ 50 ∷ 67 ∷ [] else if octet == 61 then 61 ∷ 51 ∷ 68 ∷ [] else octet ∷ []

-- a name as a text has it
unfoldable pub escaped : List ℕ → List ℕ
escaped [] = []
escaped (octet ∷ name) = escape_of octet ++ escaped name

-- ---- octet by octet

-- one octet of the name more, where there is room for it
abbrev pub longer : Name → Option Name
longer n = if n.left == 0 then None
    else Some (record { escape = Outside; need = n.need - 1; left = n.left - 1 })

-- so much of an escape
abbrev pub within : Escape → Name → Option Name
within escape n =
    if n.left == 0 then None else Some (record { escape = escape; need = n.need; left = n.left })

-- what is due behind an octet and this much of an escape, none if it can't stand here
abbrev pub name_step_in : Escape → Name → ℕ → Option Name
name_step_in Outside n octet =
    if octet == 61 then within Begun n else if is_value octet then longer n else None
name_step_in Begun n octet =
    if octet == 50 then within Comma n else if octet == 51 then within Equals n else None
name_step_in Comma n octet = if octet == 67 then longer n else None
name_step_in Equals n octet = if octet == 68 then longer n else None

-- what is due behind an octet of a name, none if it can't stand here
abbrev pub name_step : Name → ℕ → Option Name
name_step n octet = name_step_in n.escape n octet

-- the name may end behind this much of an escape: none is open, and enough octets were there
abbrev pub name_ends_in : Escape → Name → Bool
name_ends_in Outside n = n.need == 0
name_ends_in Begun n = false
name_ends_in Comma n = false
name_ends_in Equals n = false

-- the name may end here
abbrev pub name_ends : Name → Bool
name_ends n = name_ends_in n.escape n

-- the octet of a name that an octet of a text gives behind this much of an escape, if any
abbrev pub given : Escape → ℕ → List ℕ
given Outside octet = if octet == 61 then [] else octet ∷ []
given Begun octet = []
given Comma octet = 44 ∷ []
given Equals octet = 61 ∷ []

-- how much of an escape is open behind it
abbrev pub behind : Escape → ℕ → Escape
behind Outside octet = if octet == 61 then Begun else Outside
behind Begun octet = if octet == 50 then Comma else Equals
behind Comma octet = Outside
behind Equals octet = Outside

-- the name for which octets of a text stand, behind this much of an escape
unfoldable pub unescaped : Escape → List ℕ → List ℕ
unescaped escape [] = []
unescaped Outside (octet ∷ octets) =
    if octet == 61 then unescaped Begun octets else octet ∷ unescaped Outside octets
unescaped Begun (octet ∷ octets) = unescaped (if octet == 50 then Comma else Equals) octets
unescaped Comma (octet ∷ octets) = 44 ∷ unescaped Outside octets
unescaped Equals (octet ∷ octets) = 61 ∷ unescaped Outside octets
