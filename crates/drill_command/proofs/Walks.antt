-- A count that is erased has no bytes: any is made of nothing. Assumes `Logic`.
use Rattle.std.proofs.Common.{ℕ, List, [], ◌∷◌, refl}
use seplogic.Ra.Ura.{Ura}
use mir.Val.{Val, vstruct, vnil}
use types.Logic.{Logic}
use types.Kit.{Goal, Step, step, Item, ‵, ◌$◌, fjoin}
use denote.Steps.{nothing, owned}
use denote.Struct.Struct.{Shape, Struct, Struct-Makes}
use Rattle.drill_command.specs.contracts.draws.Count.{the_row as Row}

-- the machine's value of a struct without bytes
abbrev pub no_bytes : Val
no_bytes = vstruct vnil

abbrev no_fields : Shape
no_fields = record { name = []; args = []; types = []; fields = [] }

-- a count as a value of `Count`
abbrev pub erased : ℕ → Row.Denot
erased count = record { count = count }

-- it is owned, whatever it is
pub erases : {M : Type 1} {𝓤 : Ura M} {𝓛 : Logic 𝓤} {K : Type 0} {Γ : List (Item 𝓤)} {G : Goal 𝓤 𝓛.H} → K → (count : ℕ) → Step K 𝓛 (‵ (Row.own_val (erased count) (no_bytes ∷ [])) ∷ Γ) G Γ G
erases {𝓛 = 𝓛} t count = step (λ after.
    nothing t $ owned t (Struct no_fields) _ (Struct-Makes 𝓛 no_fields tt) tt (no_bytes ∷ []) (tt, (refl, tt)) $ fjoin t $ after)
