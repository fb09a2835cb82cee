use Rattle.std.proofs.Common.{◌∙◌, sym, refl, length}
use Rattle.std.proofs.lemmas.Bool.{eq-eqb, ne_eqb}
use Rattle.std.proofs.lemmas.List.{take_rest}
use Rattle.krb_tokens.specs.Mic.{checked_mic}
use Rattle.krb_tokens.proofs.end.TokenEnd.check_mic_by.Goals as goal

pub returns-then-is_other_kind : goal.returns-then-is_other_kind
unfolding checked_mic
returns-then-is_other_kind c = rw (sym c.is_other_kind.ensures ∙ c.if-is_other_kind.true) refl

pub returns-then-token-ne28 : goal.returns-then-token-ne28
unfolding checked_mic
returns-then-token-ne28 c =
    rw (sym c.is_other_kind.ensures ∙ c.if-is_other_kind.false, ne_eqb (length c.args.token.now) 28 c.if-token-ne28.true) refl

pub returns-then-not-is_from_other : goal.returns-then-not-is_from_other
unfolding checked_mic
returns-then-not-is_from_other c =
    rw (
      sym c.is_other_kind.ensures ∙ c.if-is_other_kind.false,
      eq-eqb (length c.args.token.now) 28 c.if-token-ne28.false,
      sym c.is_from_other.ensures ∙ c.if-not-is_from_other.true,
    ) refl

pub returns-then-not-has_subkey : goal.returns-then-not-has_subkey
unfolding checked_mic
returns-then-not-has_subkey c =
    rw (
      sym c.is_other_kind.ensures ∙ c.if-is_other_kind.false,
      eq-eqb (length c.args.token.now) 28 c.if-token-ne28.false,
      sym c.is_from_other.ensures ∙ c.if-not-is_from_other.false,
      sym c.has_subkey.ensures ∙ c.if-not-has_subkey.true,
    ) refl

pub returns-then-not-all_filler : goal.returns-then-not-all_filler
unfolding checked_mic
returns-then-not-all_filler c =
    rw (
      sym c.is_other_kind.ensures ∙ c.if-is_other_kind.false,
      eq-eqb (length c.args.token.now) 28 c.if-token-ne28.false,
      sym c.is_from_other.ensures ∙ c.if-not-is_from_other.false,
      sym c.has_subkey.ensures ∙ c.if-not-has_subkey.false,
      sym c.all_filler.ensures ∙ c.if-not-all_filler.true,
    ) refl

pub returns-then-is_others_checksum : goal.returns-then-is_others_checksum
unfolding checked_mic
returns-then-is_others_checksum c =
    let same = rw (take_rest c.args.token.now 16) at c.is_others_checksum.ensures in
    rw (
      sym c.is_other_kind.ensures ∙ c.if-is_other_kind.false,
      eq-eqb (length c.args.token.now) 28 c.if-token-ne28.false,
      sym c.is_from_other.ensures ∙ c.if-not-is_from_other.false,
      sym c.has_subkey.ensures ∙ c.if-not-has_subkey.false,
      sym c.all_filler.ensures ∙ c.if-not-all_filler.false,
      sym same ∙ c.if-is_others_checksum.true,
    ) refl

pub returns-else-is_others_checksum : goal.returns-else-is_others_checksum
unfolding checked_mic
returns-else-is_others_checksum c =
    let same = rw (take_rest c.args.token.now 16) at c.is_others_checksum.ensures in
    rw (
      sym c.is_other_kind.ensures ∙ c.if-is_other_kind.false,
      eq-eqb (length c.args.token.now) 28 c.if-token-ne28.false,
      sym c.is_from_other.ensures ∙ c.if-not-is_from_other.false,
      sym c.has_subkey.ensures ∙ c.if-not-has_subkey.false,
      sym c.all_filler.ensures ∙ c.if-not-all_filler.false,
      sym same ∙ c.if-is_others_checksum.false,
    ) refl
