use Rattle.std.proofs.Math.Logic.{∥∥₁_elim}
use Rattle.std.proofs.Props.{props}
use Rattle.krb_tokens.proofs.mic_keys.MicKeys.checksum.Goals as goal

pub returns : goal.returns
returns c = ∥∥₁_elim c.args.self.now.own_usage (search props) (λ kept. c.checksum.ensures _ _ kept)
