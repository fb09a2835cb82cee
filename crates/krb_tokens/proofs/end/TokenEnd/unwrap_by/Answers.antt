use Rattle.std.proofs.Common.{◌≡◌, ◌∙◌, sym, refl, get_or}
use Rattle.std.proofs.lemmas.Bool.{eq-eqb, ne_eqb}
use Rattle.krb_tokens.specs.Wrap.{unwrapped, unwrapped_sealed, unwrapped_signed}
use Rattle.krb_tokens.specs.declared.end.TokenRefusal.TheVariants.{NoMemory}
use Rattle.krb_tokens.proofs.Parts.{gives_along}
use Rattle.krb_tokens.proofs.end.TokenEnd.unwrap_by.Goals as goal

pub returns-then-is_other_kind : goal.returns-then-is_other_kind
unfolding unwrapped
returns-then-is_other_kind c = λ ne. rw (sym c.is_other_kind.ensures ∙ c.if-is_other_kind.true) refl

pub returns-then-is_too_short : goal.returns-then-is_too_short
unfolding unwrapped
returns-then-is_too_short c = λ ne. rw (sym c.is_other_kind.ensures ∙ c.if-is_other_kind.false, sym c.is_too_short.ensures.value ∙ c.if-is_too_short.true) refl

pub returns-then-not-is_from_other : goal.returns-then-not-is_from_other
unfolding unwrapped
returns-then-not-is_from_other c = λ ne. rw (sym c.is_other_kind.ensures ∙ c.if-is_other_kind.false, sym c.is_too_short.ensures.value ∙ c.if-is_too_short.false, sym c.is_from_other.ensures ∙ c.if-not-is_from_other.true) refl

pub returns-then-not-has_subkey : goal.returns-then-not-has_subkey
unfolding unwrapped
returns-then-not-has_subkey c = λ ne. rw (sym c.is_other_kind.ensures ∙ c.if-is_other_kind.false, sym c.is_too_short.ensures.value ∙ c.if-is_too_short.false, sym c.is_from_other.ensures ∙ c.if-not-is_from_other.false, sym c.has_subkey.ensures ∙ c.if-not-has_subkey.true) refl

pub returns-then-token : goal.returns-then-token
unfolding unwrapped
returns-then-token c = λ ne. rw (sym c.is_other_kind.ensures ∙ c.if-is_other_kind.false, sym c.is_too_short.ensures.value ∙ c.if-is_too_short.false, sym c.is_from_other.ensures ∙ c.if-not-is_from_other.false, sym c.has_subkey.ensures ∙ c.if-not-has_subkey.false, ne_eqb (get_or c.args.token.now 3 0) 255 c.if-token.true) refl

pub unwrap_sealed-requires : goal.unwrap_sealed-requires
unwrap_sealed-requires c = c.is_too_short.ensures.enough c.if-is_too_short.false

pub unwrap_signed-requires : goal.unwrap_signed-requires
unwrap_signed-requires c = c.is_too_short.ensures.enough c.if-is_too_short.false

pub returns-then-is_sealed : goal.returns-then-is_sealed
unfolding unwrapped
returns-then-is_sealed c =
    let same : unwrapped c.args.self.now c.args.token.now ≡ unwrapped_sealed c.args.self.now c.args.token.now =
    rw (sym c.is_other_kind.ensures ∙ c.if-is_other_kind.false, sym c.is_too_short.ensures.value ∙ c.if-is_too_short.false, sym c.is_from_other.ensures ∙ c.if-not-is_from_other.false, sym c.has_subkey.ensures ∙ c.if-not-has_subkey.false, eq-eqb (get_or c.args.token.now 3 0) 255 c.if-token.false, sym c.is_sealed.ensures ∙ c.if-is_sealed.true) refl in
    gives_along NoMemory c.unwrap_sealed.result (unwrapped_sealed c.args.self.now c.args.token.now) (unwrapped c.args.self.now c.args.token.now) same c.unwrap_sealed.ensures

pub returns-else-is_sealed : goal.returns-else-is_sealed
unfolding unwrapped
returns-else-is_sealed c =
    let same : unwrapped c.args.self.now c.args.token.now ≡ unwrapped_signed c.args.self.now c.args.token.now =
    rw (sym c.is_other_kind.ensures ∙ c.if-is_other_kind.false, sym c.is_too_short.ensures.value ∙ c.if-is_too_short.false, sym c.is_from_other.ensures ∙ c.if-not-is_from_other.false, sym c.has_subkey.ensures ∙ c.if-not-has_subkey.false, eq-eqb (get_or c.args.token.now 3 0) 255 c.if-token.false, sym c.is_sealed.ensures ∙ c.if-is_sealed.false) refl in
    gives_along NoMemory c.unwrap_signed.result (unwrapped_signed c.args.self.now c.args.token.now) (unwrapped c.args.self.now c.args.token.now) same c.unwrap_signed.ensures
