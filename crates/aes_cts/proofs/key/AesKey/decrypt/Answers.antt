use Rattle.std.proofs.Common.{◌+◌, ◌-◌, ◌*◌, refl, arith}
use Rattle.aes_cts.specs.Words.{state_of, state_at}
use Rattle.aes_cts.specs.AesKey.{cipher_key}
use Rattle.aes_cts.specs.Schedule.{key_schedule}
use Rattle.aes_cts.proofs.Rounds.{key_at, inverse_cipher_state-last}
use Rattle.aes_cts.proofs.key.AesKey.decrypt.Goals as goal

pub returns : goal.returns
unfolding cipher_key
returns c =
    let k = c.args.self.now in
    let s = state_of c.args.block in
    let one = c.before-one.ensures s (k.rounds - 10 + 1 + 1 + 1 + 1 + 1 + 1 + 1 + 1) (omega arith)
    (c.before-two.ensures s (k.rounds - 10 + 1 + 1 + 1 + 1 + 1 + 1 + 1) (omega arith)
    (c.before-three.ensures s (k.rounds - 10 + 1 + 1 + 1 + 1 + 1 + 1) (omega arith)
    (c.before-four.ensures s (k.rounds - 10 + 1 + 1 + 1 + 1 + 1) (omega arith)
    (c.before-five.ensures s (k.rounds - 10 + 1 + 1 + 1 + 1) (omega arith)
    (c.before-six.ensures s (k.rounds - 10 + 1 + 1 + 1) (omega arith)
    (c.before-seven.ensures s (k.rounds - 10 + 1 + 1) (omega arith)
    (c.before-eight.ensures s (k.rounds - 10 + 1) (omega arith)
    (c.before-nine.ensures s (k.rounds - 10) (omega arith) c.begun-begun.ensures)))))))) in
    inverse_cipher_state-last (key_schedule (cipher_key k)) s (state_of c.before-one.result) (state_of c.inverse_last_round.result)
    (state_at k.forward 0) k.rounds (k.rounds - 10 + 1 + 1 + 1 + 1 + 1 + 1 + 1 + 1 + 1) one (omega arith)
    (key_at k.forward (key_schedule (cipher_key k)) (4 * k.rounds + 4) 0 0 k.scheduled refl (omega arith))
    c.inverse_last_round.ensures
