use Rattle.std.proofs.Common.{◌∙◌, sym}
use Rattle.krb_tokens.specs.Wrap.{unwrapped_sealed}
use Rattle.krb_tokens.specs.declared.end.TokenRefusal.TheVariants.{NoMemory}
use Rattle.krb_tokens.proofs.Parts.{gives_same, sealed-opened, sealed-refused}
use Rattle.krb_tokens.proofs.end.TokenEnd.unwrap_sealed.Goals as goal

pub returns-in-Ok-open_in : goal.returns-in-Ok-open_in
returns-in-Ok-open_in c =
    let plain = rw c.in-Ok.ensures.value at (sym c.in-Ok-open_in.ensures) in
    gives_same NoMemory c.plain_content.result (unwrapped_sealed c.args.self.now c.args.token.now)
    (sealed-opened c.args.self.now c.args.token.now _ plain ∙ sym c.plain_content.ensures)

pub returns-in-Err-open_in : goal.returns-in-Err-open_in
returns-in-Err-open_in c = λ ne.
    let refused = rw c.in-Ok.ensures.value at (sym c.in-Err-open_in.ensures) in
    sealed-refused c.args.self.now c.args.token.now _ refused
