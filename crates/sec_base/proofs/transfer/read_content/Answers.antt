use Rattle.std.proofs.Math.Nat.{le_trans}
use Rattle.std.proofs.Common.{◌<◌, ◌≤◌, ◌≡◌, ◌∙◌, arith}
use Rattle.sec_base.proofs.ContentSteps.{piece-whole, piece-cut, piece-refused}
use Rattle.sec_base.proofs.transfer.read_content.Goals as goal

pub returns-in-Ok-clause-told : goal.returns-in-Ok-clause-told
returns-in-Ok-clause-told g c =
    let read = c.loop-left.invariant.told in
    let fits : c.min-part.result ≤ c.loop-left.left = omega arith in
    let less : c.in-Ok.count < c.min-part.result = omega arith in
    piece-cut (g.L.Link.wire c.read_piece.new.link) c.read_piece.new.octets.items read.0 c.loop-left.left c.args.length c.min-part.result c.in-Ok.count read.1 fits less c.loop-left.invariant.tells read.2 c.in-Ok.ensures.told

pub loop-left-preserved : goal.loop-left-preserved
loop-left-preserved g c = record {
  size = omega (arith, c.in-Ok.ensures.size.0, c.in-Ok.ensures.size.1);
  told =
      let read = c.loop-left.invariant.told in
      let fits : c.min-part.result ≤ c.loop-left.left = omega arith in
      let full : c.min-part.result ≡ c.in-Ok.count = omega (arith, c.in-Ok.ensures.size.0) in
      piece-whole (g.L.Link.wire c.read_piece.new.link) c.read_piece.new.octets.items read.0 c.loop-left.left c.args.length c.min-part.result c.in-Ok.count read.1 fits full c.loop-left.invariant.tells read.2 c.in-Ok.ensures.told;
  tells = c.in-Ok.ensures.tells ∙ c.loop-left.invariant.tells;
  unclosed = c.in-Ok.ensures.unclosed;
  faults = omega (arith, c.in-Ok.ensures.faults);
  steady = c.in-Ok.ensures.steady (λ e. cc) ∙ c.loop-left.invariant.steady;
}

pub returns-in-Err-clause-told : goal.returns-in-Err-clause-told
returns-in-Err-clause-told g c =
    let read = c.loop-left.invariant.told in
    let fits : c.min-part.result ≤ c.loop-left.left = omega arith in
    piece-refused (g.L.Link.wire c.read_piece.new.link) c.read_piece.new.octets.items read.0 c.loop-left.left c.args.length c.min-part.result read.1 fits c.loop-left.invariant.tells read.2 c.in-Err.refusal c.in-Err.ensures.told

pub returns-clause-told : goal.returns-clause-told
returns-clause-told g c =
    let read = c.loop-left.invariant.told in (read.0, omega (arith, read.1), read.2)

-- what the link keeps, by what was called last
pub returns-in-Ok-clause-tells : goal.returns-in-Ok-clause-tells
returns-in-Ok-clause-tells g c = c.in-Ok.ensures.tells ∙ c.loop-left.invariant.tells

pub returns-in-Ok-clause-unclosed : goal.returns-in-Ok-clause-unclosed
returns-in-Ok-clause-unclosed g c = c.in-Ok.ensures.unclosed

pub returns-in-Ok-clause-faults : goal.returns-in-Ok-clause-faults
returns-in-Ok-clause-faults g c = le_trans c.loop-left.invariant.faults c.in-Ok.ensures.faults

pub returns-in-Err-clause-tells : goal.returns-in-Err-clause-tells
returns-in-Err-clause-tells g c = c.in-Err.ensures.tells ∙ c.loop-left.invariant.tells

pub returns-in-Err-clause-unclosed : goal.returns-in-Err-clause-unclosed
returns-in-Err-clause-unclosed g c = c.in-Err.ensures.unclosed

pub returns-in-Err-clause-faults : goal.returns-in-Err-clause-faults
returns-in-Err-clause-faults g c = le_trans c.loop-left.invariant.faults c.in-Err.ensures.faults

pub returns-clause-tells : goal.returns-clause-tells
returns-clause-tells g c = c.loop-left.invariant.tells

pub returns-clause-unclosed : goal.returns-clause-unclosed
returns-clause-unclosed g c = c.loop-left.invariant.unclosed

pub returns-clause-faults : goal.returns-clause-faults
returns-clause-faults g c = c.loop-left.invariant.faults
