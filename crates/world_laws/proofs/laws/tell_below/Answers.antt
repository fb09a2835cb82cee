use Rattle.world_laws.proofs.laws.tell_below.Goals as goal

pub returns : goal.returns
returns c = record {
  making = c.prove_laws.ensures;
  tokens = c.prove_laws-2.ensures;
  exchange = c.prove_laws-3.ensures;
  scram = c.prove_laws-4.ensures;
  init = c.prove_init_laws.ensures;
  accept = c.prove_accept_laws.ensures;
  book = c.prove_book_laws.ensures;
}
