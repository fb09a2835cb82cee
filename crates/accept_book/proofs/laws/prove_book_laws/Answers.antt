use Rattle.accept_book.proofs.Founds.{refused_is}
use Rattle.accept_book.proofs.Fixings.{good_steps, good_without, takes, untaken, fixes, fixes_none, completes, first_unknown}
use Rattle.accept_book.proofs.Reasons.{reasons, unjournaled}
use Rattle.accept_book.proofs.laws.prove_book_laws.Goals as goal

pub returns : goal.returns
returns c = record {
  good = good_steps c.prove_accept_laws.ensures;
  good_without = good_without;
  takes = takes;
  refuses = refused_is;
  untaken = untaken;
  fixes = fixes c.prove_accept_laws.ensures;
  fixes_none = fixes_none c.prove_accept_laws.ensures;
  completes = completes c.prove_accept_laws.ensures;
  first = first_unknown;
  reasons = reasons c.prove_accept_laws.ensures;
  unjournaled = unjournaled c.prove_accept_laws.ensures;
}
