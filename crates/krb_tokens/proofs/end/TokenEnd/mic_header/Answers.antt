use Rattle.std.proofs.Common.{refl}
use Rattle.krb_tokens.specs.Mic.{mic_header}
use Rattle.krb_tokens.proofs.end.TokenEnd.mic_header.Goals as goal

pub returns : goal.returns
unfolding mic_header
returns c = rw (c.to_be_bytes.ensures, c.flags.ensures) refl
