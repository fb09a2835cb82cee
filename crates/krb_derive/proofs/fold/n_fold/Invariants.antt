use Rattle.std.proofs.Common.{◌≡◌, ◌^◌, ◌<◌, ℕ, length, get_or}
use Rattle.krb_derive.specs.Fold.{number_of, sum_of_pieces}
use Rattle.krb_derive.proofs.fold.n_fold.Given as goal

abbrev pub invariant-pieces : goal.invariant-pieces
invariant-pieces l =
    (length l.out ≡ length l.fn.out) × (number_of l.out < 256 ^ length l.fn.out) × (number_of l.out ≡ sum_of_pieces l.bytes (length l.fn.out) l.piece)
    × ((k : ℕ) → get_or l.out k 0 < 256)
