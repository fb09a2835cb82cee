use Rattle.accept_book.specs.RecordRule.{creation_ruling}
use Rattle.std.proofs.Common.{◌≡◌, true, false, eqb, arith}
use Rattle.std.proofs.lemmas.Bool.Decides.{nat_tests}
use Rattle.gss_server.proofs.Unasked.{unasked-ruled}
use Rattle.gss_server.proofs.creating.say_creating.Goals as goal

pub returns-then-call-id : goal.returns-then-call-id
unfolding creation_ruling
returns-then-call-id g c =
    let told = rw c.id-id.ensures at c.if-call-id.true in
    let other : eqb c.args.heard.now.call.program g.G.Gate.program.id.number ≡ false = grind (arith, nat_tests, told) in
    record { ruled = rw other (unasked-ruled g.G.Gate 1 c.args.gate.now c.args.asks.now c.say_plain.result _ c.requires.unasked c.say_plain.ensures.says) }

pub returns-then-call-id-2 : goal.returns-then-call-id-2
unfolding creation_ruling
returns-then-call-id-2 g c =
    let told = rw c.id-id.ensures at c.if-call-id-2.true in
    let told_program = rw c.id-id.ensures at c.if-call-id.false in
    let program : eqb c.args.heard.now.call.program g.G.Gate.program.id.number ≡ true = grind (arith, nat_tests, told_program) in
    let other : eqb c.args.heard.now.call.version g.G.Gate.program.id.version ≡ false = grind (arith, nat_tests, told) in
    record { ruled = rw (program, other) (unasked-ruled g.G.Gate 1 c.args.gate.now c.args.asks.now c.say_plain-then-call-id-2.result _ c.requires.unasked (rw c.id-id.ensures at c.say_plain-then-call-id-2.ensures.says)) }

pub returns-in-Ok : goal.returns-in-Ok
unfolding creation_ruling
returns-in-Ok g c =
    let told_program = rw c.id-id.ensures at c.if-call-id.false in
    let program : eqb c.args.heard.now.call.program g.G.Gate.program.id.number ≡ true = grind (arith, nat_tests, told_program) in
    let told_version = rw c.id-id.ensures at c.if-call-id-2.false in
    let version : eqb c.args.heard.now.call.version g.G.Gate.program.id.version ≡ true = grind (arith, nat_tests, told_version) in
    record { ruled = rw (program, version, c.in-Ok.ensures) c.say_token.ensures.ruled }

pub returns-in-Err : goal.returns-in-Err
unfolding creation_ruling
returns-in-Err g c =
    let told_program = rw c.id-id.ensures at c.if-call-id.false in
    let program : eqb c.args.heard.now.call.program g.G.Gate.program.id.number ≡ true = grind (arith, nat_tests, told_program) in
    let told_version = rw c.id-id.ensures at c.if-call-id-2.false in
    let version : eqb c.args.heard.now.call.version g.G.Gate.program.id.version ≡ true = grind (arith, nat_tests, told_version) in
    record { ruled = rw (program, version, c.in-Err.ensures) (unasked-ruled g.G.Gate 1 c.args.gate.now c.args.asks.now c.say_plain-in-Err.result _ c.requires.unasked c.say_plain-in-Err.ensures.says) }
