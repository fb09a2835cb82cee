use Rattle.std.proofs.Common.{◌≡◌, ◌+◌, ◌-◌, ◌*◌, ◌∙◌, refl, ap, arith, sym}
use Rattle.aes_cts.specs.State.{State, add_state}
use Rattle.aes_cts.specs.Words.{state_of}
use Rattle.aes_cts.specs.AesKey.{cipher_key}
use Rattle.aes_cts.specs.Schedule.{key_schedule}
use Rattle.aes_cts.specs.Cipher.{after_inverse_rounds}
use Rattle.aes_cts.proofs.Rounds.{key_at}
use Rattle.aes_cts.proofs.key.AesKey.begun.Goals as goal

pub returns-then-self-eq10 : goal.returns-then-self-eq10
unfolding cipher_key after_inverse_rounds
returns-then-self-eq10 c =
    let k = c.args.self.now in
    let none : k.rounds - 10 ≡ 0 = omega arith in
    rw none (c.add-whole.ensures
    ∙ ap (λ (key : State). add_state (state_of c.args.block) key)
    (key_at k.forward (key_schedule (cipher_key k)) (4 * k.rounds + 4) (4 * k.rounds) k.rounds k.scheduled refl (omega arith)))

pub returns : goal.returns
unfolding cipher_key after_inverse_rounds
returns c =
    let k = c.args.self.now in
    let s = state_of c.args.block in
    let fourteen : k.rounds ≡ 14 = k.sized c.if-self-eq10.false in
    let four : k.rounds - 10 ≡ 4 = omega arith in
    let whole = c.add-whole.ensures
    ∙ ap (λ (key : State). add_state s key)
    (key_at k.forward (key_schedule (cipher_key k)) (4 * k.rounds + 4) (4 * k.rounds) k.rounds k.scheduled refl (omega arith)) in
    rw four (c.before-2.ensures s 3 (sym fourteen) (c.before-eleven.ensures s 2 (sym fourteen) (c.before-twelve.ensures s 1 (sym fourteen) (c.before-thirteen.ensures s 0 (sym fourteen) whole))))
