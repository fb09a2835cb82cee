use Rattle.std.proofs.Common.{ℕ, List, ap, ◌∙◌, refl}
use Rattle.std.proofs.lemmas.List.{append-nil}
use Rattle.krb_tokens.specs.Wrap.{unwrapped, rotated}
use Rattle.krb_tokens.specs.End.{facing}
use Rattle.krb_tokens.proofs.end.TokenEnd.wrap_sealed.Goals as goal

pub returns-clause-value : goal.returns-clause-value
returns-clause-value c =
    c.from_vec.ensures ∙ c.in_ok-token.ensures.value ∙ rw (c.in_ok-list.ensures.items, append-nil c.args.bytes.now) refl

pub returns-clause-unwraps : goal.returns-clause-unwraps
returns-clause-unwraps c = λ rotation small.
    ap (λ (token : List ℕ). unwrapped (facing c.args.self.now) (rotated rotation token)) (returns-clause-value c)
    ∙ rw (append-nil c.args.bytes.now) at (c.in_ok-token.ensures.unwraps rotation small)
