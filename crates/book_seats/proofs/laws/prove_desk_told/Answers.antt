use Rattle.book_seats.proofs.DeskTold.{desk-told}
use Rattle.book_seats.proofs.laws.prove_desk_told.Goals as goal

pub returns : goal.returns
returns g c = λ old new asked. desk-told g.P.Program g.S.Speller g.J.Begins.begins old new asked
