use Rattle.std.proofs.Common.{◌≡◌, ◌∙◌, refl, sym, List, ℕ, Result, Ok}
use Rattle.base64.specs.declared.decode.DecodeError.{DecodeError}
use Rattle.scram_mech.specs.Base64.{encoded, decoded}
use Rattle.scram_mech.proofs.encoding.Encoded.decode.Goals as goal

abbrev done : List ℕ → Result (List ℕ) DecodeError
done octets = Ok octets

same_octets : (a b : List ℕ) → done a ≡ done b → a ≡ b
same_octets a b e = cc

pub returns-in-Ok : goal.returns-in-Ok
unfolding encoded
returns-in-Ok c =
    let spelled = c.args.self.now.spelled in
    let value = decoded c.args.self.now.signs.now in
    c.from_vec.ensures ∙ same_octets c.in-Ok.octets.items value (sym c.in-Ok.ensures.ok ∙ (c.in-Ok.ensures.strict (refl, refl) value spelled.octets).1 spelled.same)
