use Rattle.std.proofs.Common.{rules, refl, arith}
use Rattle.accept_book.proofs.Comings.{comes_turned, comes_begun, begun_full}
use Rattle.accept_book.proofs.book.begin.Goals as goal

pub returns-in-Err-LogFull-clause-took : goal.returns-in-Err-LogFull-clause-took
returns-in-Err-LogFull-clause-took c =
    let turned = c.turn_away.ensures in record {
      size = omega (arith, turned.size);
      comes = comes_turned c.args.core.now _ _ c.turn_away.result turned.answer turned.receipts (λ past is_past. search rules);
      keeps = record { limit = refl; width = refl; keeping = refl; contexts = refl; capacity = refl; greatest = refl };
      fits = c.requires.fits;
    }

pub returns-in-Err-TableFull-clause-took : goal.returns-in-Err-TableFull-clause-took
returns-in-Err-TableFull-clause-took c =
    let full = c.in-Err-TableFull.ensures.table_full.0 (search rules) in
    let turned = c.turn_away-in-Err-TableFull.ensures in record {
      size = omega (arith, turned.size);
      comes = comes_turned c.args.core.now _ _ c.turn_away-in-Err-TableFull.result turned.answer turned.receipts (λ past is_past. begun_full c.args.core.now c.args.stepped past full.0 full.2 is_past);
      keeps = record { limit = refl; width = refl; keeping = refl; contexts = refl; capacity = refl; greatest = refl };
      fits = c.requires.fits;
    }

pub returns-in-Ok-clause-took : goal.returns-in-Ok-clause-took
returns-in-Ok-clause-took c =
    let took = c.take_stepped.ensures.took in record {
      size = took.size;
      comes = comes_begun c.args.core.now c.take_stepped.new.core c.args.stepped c.take_stepped.result (c.in-Ok.ensures.places refl) (c.in-Ok.ensures.place refl refl) took.comes;
      keeps = took.keeps;
      fits = took.fits;
    }
