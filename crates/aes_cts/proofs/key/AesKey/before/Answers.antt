use Rattle.std.proofs.Common.{◌+◌, ◌-◌, ◌*◌, arith}
use Rattle.aes_cts.specs.Words.{state_of, state_at}
use Rattle.aes_cts.specs.AesKey.{cipher_key}
use Rattle.aes_cts.specs.Schedule.{key_schedule}
use Rattle.aes_cts.proofs.Rounds.{mixed_key_at, after_inverse_rounds-more}
use Rattle.aes_cts.proofs.key.AesKey.before.Goals as goal

pub returns : goal.returns
unfolding cipher_key
returns c = λ s done place before.
    let k = c.args.self.now in
    let at = 4 * c.args.number in
    after_inverse_rounds-more (key_schedule (cipher_key k)) k.rounds s (state_of c.args.state) (state_of c.inverse_round.result)
    (state_at k.backward at) done before
    (mixed_key_at k.forward k.backward (key_schedule (cipher_key k)) (4 * k.rounds + 4) (4 * k.rounds) at (k.rounds - (done + 1))
    k.scheduled k.mixed (omega arith) (omega arith) (omega arith) (omega arith))
    c.inverse_round.ensures
