use Rattle.std.proofs.Common.{◌≡◌, ◌+◌, ◌-◌, ◌*◌, arith}
use Rattle.aes_cts.specs.Words.{state_of, state_at}
use Rattle.aes_cts.specs.AesKey.{cipher_key}
use Rattle.aes_cts.specs.Schedule.{key_schedule}
use Rattle.aes_cts.proofs.Rounds.{key_at, after_rounds-more}
use Rattle.aes_cts.proofs.key.AesKey.after.Goals as goal

pub returns : goal.returns
unfolding cipher_key
returns c = λ s before.
    let k = c.args.self.now in
    let number : c.args.number - 1 + 1 ≡ c.args.number = omega arith in
    rw number at (after_rounds-more (key_schedule (cipher_key k)) s (state_of c.args.state) (state_of c.round.result)
    (state_at k.forward (4 * c.args.number)) (c.args.number - 1) before
    (key_at k.forward (key_schedule (cipher_key k)) (4 * k.rounds + 4) (4 * c.args.number) (c.args.number - 1 + 1) k.scheduled (omega arith) (omega arith))
    c.round.ensures)
