use Rattle.std.proofs.Common.{◌∙◌, sym, refl, length}
use Rattle.std.proofs.lemmas.Bool.{le-ltb, ltb-false}
use Rattle.krb_tokens.proofs.Parts.{short_anyway, true_not_false}
use Rattle.krb_tokens.proofs.wrap.is_too_short.Goals as goal

pub returns-then-token-lt28-clause-value : goal.returns-then-token-lt28-clause-value
returns-then-token-lt28-clause-value c = sym (short_anyway _ (length c.args.token.now) c.if-token-lt28.true)

pub returns-then-token-lt28-clause-enough : goal.returns-then-token-lt28-clause-enough
returns-then-token-lt28-clause-enough c = λ e. absurd (true_not_false e)

pub returns-then-token-lt28-clause-enough_sealed : goal.returns-then-token-lt28-clause-enough_sealed
returns-then-token-lt28-clause-enough_sealed c = λ e s. absurd (true_not_false e)

pub returns-then-is_sealed-clause-value : goal.returns-then-is_sealed-clause-value
returns-then-is_sealed-clause-value c = rw (sym c.is_sealed.ensures ∙ c.if-is_sealed.true) refl

pub returns-then-is_sealed-clause-enough : goal.returns-then-is_sealed-clause-enough
returns-then-is_sealed-clause-enough c = λ e. c.if-token-lt28.false

pub returns-then-is_sealed-clause-enough_sealed : goal.returns-then-is_sealed-clause-enough_sealed
returns-then-is_sealed-clause-enough_sealed c = λ e s. ltb-false (length c.args.token.now) 60 e

pub returns-else-is_sealed-clause-value : goal.returns-else-is_sealed-clause-value
returns-else-is_sealed-clause-value c =
    rw (sym c.is_sealed.ensures ∙ c.if-is_sealed.false) (sym (le-ltb (length c.args.token.now) 28 c.if-token-lt28.false))

pub returns-else-is_sealed-clause-enough : goal.returns-else-is_sealed-clause-enough
returns-else-is_sealed-clause-enough c = λ e. c.if-token-lt28.false

pub returns-else-is_sealed-clause-enough_sealed : goal.returns-else-is_sealed-clause-enough_sealed
returns-else-is_sealed-clause-enough_sealed c = λ e s. absurd (true_not_false (sym s ∙ sym c.is_sealed.ensures ∙ c.if-is_sealed.false))
