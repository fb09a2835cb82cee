-- How long results are.
use Rattle.std.proofs.Common.{ℕ, ◌≤◌, Bool, true, false, cond, List, [], length, arith, eqb, lit≤}
use Rattle.rpc_msgs.specs.Words.{word, opaque}
use Rattle.rpc_msgs.proofs.WordLengths.{length-word, length-opaque}
use Rattle.rpc_program.specs.declared.limits.TheConstants.{MOST}
use Rattle.posts_program.specs.Posts.{result_of}

result-cases : (a b c : Bool) (args name : List ℕ) (posts : ℕ) → length args ≤ MOST → length name ≤ 255 → length (cond a [] (cond b args (cond c (opaque name) (word posts)))) ≤ MOST
result-cases true b c args name posts few short = lit≤ tt
result-cases false true c args name posts few short = few
result-cases false false true args name posts few short = omega (arith, length-opaque name)
result-cases false false false args name posts few short = omega (arith, length-word posts)

pub result-fits : (procedure : ℕ) (args name : List ℕ) (posts : ℕ) → length args ≤ MOST → length name ≤ 255 → length (result_of procedure args name posts) ≤ MOST
result-fits procedure args name posts few short = result-cases (eqb procedure 0) (eqb procedure 1) (eqb procedure 2) args name posts few short
