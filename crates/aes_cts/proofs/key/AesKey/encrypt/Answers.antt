use Rattle.std.proofs.Common.{◌≡◌, ◌+◌, ◌*◌, ◌∙◌, refl, ap, arith}
use Rattle.aes_cts.specs.State.{State, add_state}
use Rattle.aes_cts.specs.Words.{state_of, state_at}
use Rattle.aes_cts.specs.AesKey.{cipher_key}
use Rattle.aes_cts.specs.Schedule.{key_schedule}
use Rattle.aes_cts.specs.Cipher.{after_rounds}
use Rattle.aes_cts.proofs.Rounds.{key_at, cipher_state-last}
use Rattle.aes_cts.proofs.key.AesKey.encrypt.Goals as goal

pub returns-then-self-eq10 : goal.returns-then-self-eq10
unfolding cipher_key after_rounds
returns-then-self-eq10 c =
    let k = c.args.self.now in
    let s = state_of c.args.block in
    let ten : k.rounds ≡ 10 = omega arith in
    let begun = c.add-begun.ensures ∙ ap (λ (key : State). add_state s key) (key_at k.forward (key_schedule (cipher_key k)) (4 * k.rounds + 4) 0 0 k.scheduled refl (omega arith)) in
    let nine : state_of c.after-nine.result ≡ after_rounds (key_schedule (cipher_key k)) s 9 =
    c.after-nine.ensures s (c.after-eight.ensures s (c.after-seven.ensures s (c.after-six.ensures s (c.after-five.ensures s (c.after-four.ensures s (c.after-three.ensures s (c.after-two.ensures s (c.after-one.ensures s begun)))))))) in
    cipher_state-last (key_schedule (cipher_key k)) s (state_of c.after-nine.result) (state_of c.last_round.result)
    (state_at k.forward 40) k.rounds 9 nine (omega arith)
    (key_at k.forward (key_schedule (cipher_key k)) (4 * k.rounds + 4) 40 k.rounds k.scheduled (omega arith) (omega arith))
    c.last_round.ensures

pub returns : goal.returns
unfolding cipher_key after_rounds
returns c =
    let k = c.args.self.now in
    let s = state_of c.args.block in
    let fourteen : k.rounds ≡ 14 = k.sized c.if-self-eq10.false in
    let begun = c.add-begun.ensures ∙ ap (λ (key : State). add_state s key) (key_at k.forward (key_schedule (cipher_key k)) (4 * k.rounds + 4) 0 0 k.scheduled refl (omega arith)) in
    let thirteen : state_of c.after-thirteen.result ≡ after_rounds (key_schedule (cipher_key k)) s 13 =
    c.after-thirteen.ensures s (c.after-twelve.ensures s (c.after-eleven.ensures s (c.after-ten.ensures s (c.after-nine.ensures s (c.after-eight.ensures s (c.after-seven.ensures s (c.after-six.ensures s (c.after-five.ensures s (c.after-four.ensures s (c.after-three.ensures s (c.after-two.ensures s (c.after-one.ensures s begun)))))))))))) in
    cipher_state-last (key_schedule (cipher_key k)) s (state_of c.after-thirteen.result) (state_of c.last_round-2.result)
    (state_at k.forward 56) k.rounds 13 thirteen (omega arith)
    (key_at k.forward (key_schedule (cipher_key k)) (4 * k.rounds + 4) 56 k.rounds k.scheduled (omega arith) (omega arith))
    c.last_round-2.ensures
