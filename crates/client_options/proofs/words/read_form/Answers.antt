use Rattle.std.proofs.Common.{◌≡◌, ◌∙◌, true, ℕ, List, ap, sym, subst}
use Rattle.cli_base.specs.Words.{texts}
use Rattle.cli_words.specs.Line.{IsLine, client_names}
use Rattle.client_options.specs.Words.{is_command}
use Rattle.client_options.proofs.Refused.{form-of}
use Rattle.client_options.proofs.words.read_form.Goals as goal

pub client_line-requires : goal.client_line-requires
client_line-requires c =
    let lent : texts c.as_slice.result.now ≡ c.args.words.now = ap texts c.as_slice.ensures.value ∙ c.in_ok-texts.ensures in
    subst (λ (words : List (List ℕ)). IsLine client_names 6 words) (sym lent) (form-of c.args.words.now c.requires).line

pub read_line-requires : goal.read_line-requires
read_line-requires c =
    let lent : texts c.as_slice.result.now ≡ c.args.words.now = ap texts c.as_slice.ensures.value ∙ c.in_ok-texts.ensures in
    subst (λ (words : List (List ℕ)). is_command words ≡ true) (sym (c.in_ok-line.ensures ∙ lent)) (form-of c.args.words.now c.requires).command
