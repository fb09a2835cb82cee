use Rattle.krb_tokens.proofs.Shown.{long_mic, long_wrap, mic_shows, signed_shows, sealed_shows}
use Rattle.krb_tokens.proofs.laws.prove_laws.Goals as goal

pub returns : goal.returns
returns c = record { long_mic = long_mic; long_wrap = long_wrap; mic = mic_shows; signed = signed_shows; sealed = sealed_shows }
