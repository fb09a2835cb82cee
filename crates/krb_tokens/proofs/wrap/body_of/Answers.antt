use Rattle.std.proofs.Common.{ℕ, List, ◌-◌, ◌%◌, ◌<◌, ◌∙◌, ap, refl, arith, length, take, drop}
use Rattle.std.proofs.lemmas.Nat.{mod_below}
use Rattle.std.proofs.lemmas.List.{take_rest, length-drop}
use Rattle.krb_tokens.proofs.Parts.{length-turned}
use Rattle.krb_tokens.proofs.wrap.body_of.Goals as goal

pub turned-requires : goal.turned-requires
turned-requires c =
    let n : ℕ = length c.args.token.now - 16 in
    let below : c.word_of.result % n < n = mod_below c.word_of.result n (omega arith) in
    rw (take_rest c.args.token.now 16, length-drop 16 c.args.token.now) (omega arith)

pub returns-clause-value : goal.returns-clause-value
returns-clause-value c =
    c.in_ok-list.ensures ∙ rw (take_rest c.args.token.now 16, c.word_of.ensures.value, length-drop 16 c.args.token.now) refl

pub returns-clause-long : goal.returns-clause-long
returns-clause-long c =
    let n : ℕ = length c.args.token.now - 16 in
    let body : List ℕ = take n (drop 16 c.args.token.now) in
    let e = ap length c.in_ok-list.ensures ∙ length-turned (c.word_of.result % n) body ∙ ap length (take_rest c.args.token.now 16) ∙ length-drop 16 c.args.token.now in
    omega (arith, e)
