use Rattle.std.proofs.Common.{◌≡◌, ◌-◌}
use Rattle.aes_cts.specs.Words.{state_of}
use Rattle.aes_cts.specs.Schedule.{key_schedule}
use Rattle.aes_cts.specs.Cipher.{after_rounds}
use Rattle.aes_cts.specs.AesKey.{forward_key}
use Rattle.aes_cts.proofs.forward.ForwardKey.encrypt.Given as goal

abbrev pub invariant-rounds : goal.invariant-rounds
invariant-rounds l = state_of l.state ≡ after_rounds (key_schedule (forward_key l.self)) (state_of l.fn.block) (l.number - 1)
