use Rattle.datagram_serving.proofs.serving.open_gate.Goals as goal

pub returns-in-Ok-new : goal.returns-in-Ok-new
returns-in-Ok-new g c = record {
  first = c.new-own.result;
  handed = c.new-own.ensures.program;
  begins = c.new-own.ensures.speller;
  opened = rw c.new-own.ensures.seat c.in-Ok.ensures.opened;
  over = c.in-Ok-new.ensures;
}
