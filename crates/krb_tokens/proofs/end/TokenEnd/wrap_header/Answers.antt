use Rattle.std.proofs.Common.{refl}
use Rattle.krb_tokens.specs.Wrap.{wrap_header}
use Rattle.krb_tokens.proofs.end.TokenEnd.wrap_header.Goals as goal

pub returns : goal.returns
unfolding wrap_header
returns c = rw (c.to_be_bytes.ensures, c.to_be_bytes-2.ensures, c.flags.ensures) refl
