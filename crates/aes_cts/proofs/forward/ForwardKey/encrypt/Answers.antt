use Rattle.std.proofs.Common.{◌≡◌, ◌+◌, ◌-◌, ◌*◌, ◌∙◌, refl, ap, arith}
use Rattle.aes_cts.specs.State.{State, add_state}
use Rattle.aes_cts.specs.Words.{state_of, state_at}
use Rattle.aes_cts.specs.AesKey.{forward_key}
use Rattle.aes_cts.specs.Schedule.{key_schedule}
use Rattle.aes_cts.specs.Cipher.{after_rounds}
use Rattle.aes_cts.proofs.Rounds.{key_at, after_rounds-more, cipher_state-last}
use Rattle.aes_cts.proofs.forward.ForwardKey.encrypt.Goals as goal

pub rounds-init : goal.rounds-init
unfolding forward_key after_rounds
rounds-init c =
    let k = c.args.self.now in
    c.add-state.ensures ∙ ap (λ (key : State). add_state (state_of c.args.block) key) (key_at k.words (key_schedule (forward_key k)) (4 * k.rounds + 4) 0 0 k.scheduled refl (omega arith))

pub rounds-preserved : goal.rounds-preserved
unfolding forward_key
rounds-preserved c =
    let k = c.args.self.now in
    let n = c.rounds.number in
    let more : n - 1 + 1 ≡ n = omega arith in
    let next : n + 1 - 1 ≡ n = omega arith in
    rw next (rw more at (after_rounds-more (key_schedule (forward_key k)) (state_of c.args.block) (state_of c.rounds.state) (state_of c.round-state.result)
    (state_at k.words (4 * n)) (n - 1) c.rounds.invariant
    (key_at k.words (key_schedule (forward_key k)) (4 * k.rounds + 4) (4 * n) (n - 1 + 1) k.scheduled (omega arith) (omega arith))
    c.round-state.ensures))

pub returns : goal.returns
unfolding forward_key
returns c =
    let k = c.args.self.now in
    cipher_state-last (key_schedule (forward_key k)) (state_of c.args.block) (state_of c.rounds.state) (state_of c.last_round.result)
    (state_at k.words (4 * k.rounds)) k.rounds (c.rounds.number - 1) c.rounds.invariant (omega arith)
    (key_at k.words (key_schedule (forward_key k)) (4 * k.rounds + 4) (4 * k.rounds) k.rounds k.scheduled refl (omega arith))
    c.last_round.ensures
