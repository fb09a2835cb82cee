use Rattle.std.proofs.Common.{◌≡◌, drop}
use Rattle.datagram_calls.specs.Credentials.{are_short}
use Rattle.datagram_calls.proofs.credentials.are_short.Given as goal

abbrev pub invariant-loop-cred : goal.invariant-loop-cred
invariant-loop-cred l = are_short (drop l.cred-index l.creds) ≡ are_short l.creds
