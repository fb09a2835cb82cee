use Rattle.std.proofs.Common.{ap, ◌∙◌, subst, Some}
use Rattle.accept_book.specs.Booking.{BookOf}
use Rattle.accept_core.specs.Legal.{Legal}
use Rattle.accept_core.specs.declared.entry.Limits.{Limits}
use Rattle.datagram_serving.proofs.Once.{counted}
use Rattle.datagram_serving.proofs.serving.serve_by.Goals as goal

pub returns-clause-told : goal.returns-clause-told
returns-clause-told g c =
    let made = c.serve-end.ensures.served in
    let book = ap (λ parts. parts.0) c.into_parts-seat.ensures ∙ ap (λ own. own.seat) c.into_gate.ensures in
    let limits = c.serve-end.ensures.gate_kept.limits in
    let log = c.into_log.ensures in
    record {
      kept = made.kept;
      count = counted c.serve-end.new.keeper.count c.new-keeper.result.count made.kept c.new-keeper.ensures made.given;
      gate_new = c.serve-end.new.gate;
      stop = c.serve-end.result;
      served = made.holds;
      ends = c.end_of.ensures;
      timed = made.timed;
      drawn = made.drawn;
      entries = log.entries ∙ ap (λ (b : BookOf). b.core.history) book;
      legal = subst (λ (b : BookOf). Legal b.core.width b.core.history) book log.legal;
      book_width = log.width ∙ ap (λ (b : BookOf). b.core.width) book;
      under = record {
        width = log.width ∙ (ap (λ (b : BookOf). b.core.width) book ∙ ap (λ (l : Limits). l.width) limits);
        limit = log.limit ∙ (ap (λ (b : BookOf). b.core.limit) book ∙ ap (λ (l : Limits). l.log) limits);
        contexts = log.contexts ∙ (ap (λ (b : BookOf). b.core.table.limit) book ∙ ap (λ (l : Limits). l.contexts) limits);
        marks = log.marks ∙ (ap (λ (b : BookOf). b.core.cache.capacity) book ∙ ap (λ (l : Limits). l.marks) limits);
        keeping = log.keeping ∙ (ap (λ (b : BookOf). b.core.keeping) book ∙ ap (λ (l : Limits). l.keeping) limits);
      };
      back = ap Some (ap (λ parts. parts.1) c.into_parts-seat.ensures ∙ ap (λ own. own.program) c.into_gate.ensures);
    }
