use Rattle.std.proofs.Common.{ap, ◌∙◌}
use Rattle.aes_cts.specs.State.{Column, column_of, inverse_mix_column, inverse_sub_column}
use Rattle.aes_cts.proofs.Shapes.{column_of-IsColumn}
use Rattle.aes_cts.proofs.Octets.{add_column-zero}
use Rattle.aes_cts.proofs.Inversion.{inverse_sub_column-sub_column}
use Rattle.aes_cts.proofs.columns.unmixed.Goals as goal

pub returns : goal.returns
returns c =
    c.unmix.ensures ∙ add_column-zero (inverse_mix_column (inverse_sub_column (column_of c.substitute-put.result)))
    ∙ ap (λ (k : Column). inverse_mix_column (inverse_sub_column k)) c.substitute-put.ensures
    ∙ ap inverse_mix_column (inverse_sub_column-sub_column (column_of c.args.word) (column_of-IsColumn c.args.word))
