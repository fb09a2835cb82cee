use Rattle.std.proofs.Common.{map}
use Rattle.accept_book.specs.RecordShown.{booked}
use Rattle.history_laws.proofs.Chain.{seen-law}
use Rattle.gate_laws.proofs.Seats.{own-books}
use Rattle.gate_laws.proofs.laws.prove_own_seen.Goals as goal

pub returns : goal.returns
returns g c = λ first asked empty chain. seen-law first.book c.args.gate.now.seat (map booked asked) empty (own-books g.P.Program g.S.Speller asked first _ chain) c.log.ensures.legal
