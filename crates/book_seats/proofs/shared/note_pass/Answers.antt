use Rattle.std.proofs.Common.{subst}
use Rattle.book_seats.specs.Histories.{NotesOne}
use Rattle.book_seats.specs.Notes.{Noted}
use Rattle.book_seats.proofs.shared.note_pass.Goals as goal

pub returns : goal.returns
returns g c =
    subst (λ (one : Noted g.row.T.Denot). NotesOne c.args.writer.now c.args.clerk.now one c.note.new.self c.note.new.clerk) c.requires
    (record {
      writer = c.note.ensures.writer;
      clerk = c.note.ensures.clerk;
      prefix = c.note.ensures.prefix;
      others = c.note.ensures.others;
    })
