use Rattle.std.proofs.Common.{◌≡◌, ◌*◌, ◌++◌, drop, length}
use Rattle.aes_cts.specs.AesKey.{cipher_key}
use Rattle.aes_cts.specs.State.{state_octets}
use Rattle.aes_cts.specs.Words.{state_of}
use Rattle.aes_cts.specs.Stealing.{before, unchained}
use Rattle.aes_cts.proofs.key.AesKey.decrypt_blocks.Given as goal

abbrev pub invariant-each : goal.invariant-each
invariant-each l =
    (length l.bytes ≡ length l.fn.bytes)
    × (l.bytes ≡ unchained (cipher_key l.self) l.fn.bytes l.i ++ drop (16 * l.i) l.fn.bytes)
    × (state_octets (state_of l.before) ≡ before l.fn.bytes l.i)
