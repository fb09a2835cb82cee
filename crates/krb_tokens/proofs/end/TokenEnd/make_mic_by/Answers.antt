use Rattle.std.proofs.Common.{◌≡◌, ◌∙◌, ℕ, List, refl, ap}
use Rattle.krb_tokens.specs.End.{facing}
use Rattle.krb_tokens.specs.Mic.{mic_of, checked_mic}
use Rattle.krb_tokens.proofs.Taken.{mic-taken}
use Rattle.krb_tokens.proofs.end.TokenEnd.make_mic_by.Goals as goal

pub returns-clause-value : goal.returns-clause-value
unfolding mic_of
returns-clause-value c = c.joined.ensures ∙ rw (c.own_checksum.ensures, c.mic_header-header.ensures) refl

pub returns-clause-taken : goal.returns-clause-taken
returns-clause-taken c =
    let value : c.joined.result ≡ mic_of c.args.self.now c.args.number c.args.bytes.now = returns-clause-value c in
    ap (λ (token : List ℕ). checked_mic (facing c.args.self.now) token c.args.bytes.now) value ∙ mic-taken c.args.self.now c.args.number c.args.bytes.now
