use Rattle.std.proofs.Common.{ap, arith, length, ℕ}
use Rattle.std.proofs.lemmas.List.{length-append}
use Rattle.posts_program.specs.Posts.{result_of}
use Rattle.posts_program.proofs.BodyLengths.{result-fits}
use Rattle.posts_program.proofs.words.result_octets.Goals as goal

pub returns-clause-size : goal.returns-clause-size
returns-clause-size c =
    omega (arith, ap (length {A = ℕ}) c.finish.ensures, ap (length {A = ℕ}) c.in_ok-put_result.ensures, length-append c.new-out.result (result_of c.args.procedure c.args.args.now c.args.name.now c.args.posts), ap (length {A = ℕ}) c.new-out.ensures, result-fits c.args.procedure c.args.args.now c.args.name.now c.args.posts c.requires.few c.requires.name)
