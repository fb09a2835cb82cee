-- Datagrams without bytes: any list of them is made of nothing. Assumes `Logic`.
use Rattle.std.proofs.Common.{ℕ, List, [], ◌∷◌, Option, refl}
use seplogic.Ra.Ura.{Ura}
use mir.Val.{Val, vstruct, vnil}
use types.Logic.{Logic}
use types.Kit.{Goal, Step, step, Item, ‵, ◌$◌, fjoin}
use denote.Steps.{nothing, owned}
use denote.Struct.Struct.{Shape, Struct, Struct-Makes}
use Rattle.udp_post.specs.contracts.noted.Noted.{the_row as Row}

-- the machine's value of a struct without bytes
abbrev pub no_bytes : Val
no_bytes = vstruct vnil

abbrev no_fields : Shape
no_fields = record { name = []; args = []; types = []; fields = [] }

-- datagrams as a value of `Noted`
abbrev pub noted : List (Option (List ℕ)) → Row.Denot
noted datagrams = record { datagrams = datagrams }

-- it is owned, whatever its datagrams are
pub leaves : {M : Type 1} {𝓤 : Ura M} {𝓛 : Logic 𝓤} {K : Type 0} {Γ : List (Item 𝓤)} {G : Goal 𝓤 𝓛.H} → K → (datagrams : List (Option (List ℕ))) → Step K 𝓛 (‵ (Row.own_val (noted datagrams) (no_bytes ∷ [])) ∷ Γ) G Γ G
leaves {𝓛 = 𝓛} t datagrams = step (λ after.
    nothing t $ owned t (Struct no_fields) _ (Struct-Makes 𝓛 no_fields tt) tt (no_bytes ∷ []) (tt, (refl, tt)) $ fjoin t $ after)
