-- The MIC of the mechanism list, RFC 4178 section 5: a MIC token with number 0 over the octets of
-- the list, under the key of the mechanism that was chosen.
use Rattle.std.specs.Prelude.{ℕ, Bool, List, ◌++◌, take, is_ok}
use Rattle.krb_derive.specs.Making.{check_making}
use Rattle.krb_tokens.specs.declared.end.Side.{Side}
use Rattle.krb_tokens.specs.End.{other_side, sign_usage}
use Rattle.krb_tokens.specs.Mic.{mic_header, mic_of, checked_mic}
use Rattle.spnego_msgs.specs.Lists.{list_octets}
use Rattle.scram_mech.specs.MechMaking.{MechMaking, typed}
use Rattle.spnego_core.specs.declared.outcome.Outcome.{Outcome}
use Rattle.spnego_core.specs.Outcome.{token_end}

-- the MIC that this side makes
unfoldable pub list_mic : Outcome → Side → List (List ℕ) → List ℕ
list_mic outcome side list = mic_of (token_end outcome side) 0 (list_octets list)

-- whether this side takes a token as the other side's MIC
unfoldable pub is_list_mic : Outcome → Side → List (List ℕ) → List ℕ → Bool
is_list_mic outcome side list mic =
    is_ok (checked_mic (token_end outcome side) mic (list_octets list))

-- what is handed out with the MIC
abbrev pub mic_making : Outcome → Side → List (List ℕ) → MechMaking
mic_making outcome side list =
    typed (check_making outcome.key (sign_usage side)
    (list_octets list ++ mic_header (token_end outcome side) 0))

-- what is found verified where a MIC is taken, whatever its number
abbrev pub mic_found : Outcome → Side → List (List ℕ) → List ℕ → MechMaking
mic_found outcome side list mic = typed
    (check_making outcome.key (sign_usage (other_side side)) (list_octets list ++ take 16 mic))
