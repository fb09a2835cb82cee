use Rattle.std.proofs.Math.Nat.{le_trans}
use Rattle.std.proofs.Common.{◌∙◌, arith, ap, Ok}
use Rattle.rpc_msgs.proofs.FragmentSteps.{begins-more, takes-last, takes-end, takes-refusal, is-more, is-last}
use Rattle.rpc_msgs.proofs.record.read_record.Goals as goal

pub returns-in-Ok-Last-clause-told : goal.returns-in-Ok-Last-clause-told
returns-in-Ok-Last-clause-told g c =
    let p = is-last _ _ _ _ _ _ _ c.in-Ok-Last.field-0-is c.in-Ok-Last.ensures.told in
    let r = takes-last (g.L.Link.wire c.read_fragment.new.link) c.loop-number.number c.loop-number.octets.items c.read_fragment.new.octets.items p.0 c.loop-number.invariant.tells c.loop-number.invariant.told (c.in-Ok-Last.ensures.last (ap Ok c.in-Ok-Last.field-0-is)) (omega (arith, c.in-Ok-Last.ensures.size, c.read_fragment.new.octets.ok.0)) p.1 in
    (r.0, r.1, c.from_vec.ensures ∙ r.2, r.3)

pub returns-in-Ok-End-clause-told : goal.returns-in-Ok-End-clause-told
returns-in-Ok-End-clause-told g c =
    takes-end (g.L.Link.wire c.read_fragment.new.link) c.loop-number.number c.loop-number.octets.items c.read_fragment.new.octets.items c.in-Ok-End.field-0 c.in-Ok-End.field-0-is c.loop-number.invariant.tells c.loop-number.invariant.told c.in-Ok-End.ensures.told

pub returns-in-Err-clause-told : goal.returns-in-Err-clause-told
returns-in-Err-clause-told g c =
    takes-refusal (g.L.Link.wire c.read_fragment.new.link) c.loop-number.number c.loop-number.octets.items c.read_fragment.new.octets.items c.loop-number.invariant.tells c.loop-number.invariant.told c.loop-number.invariant.most (omega (arith, c.loop-number.invariant.size, c.loop-number.octets.ok.0)) c.in-Err.refusal c.in-Err.ensures.told

pub loop-number-preserved : goal.loop-number-preserved
loop-number-preserved g c = record {
  most = omega (arith, c.in-Ok-More.ensures.more (ap Ok c.in-Ok-More.field-0-is));
  size = c.in-Ok-More.ensures.size;
  told =
      let p = is-more _ _ _ _ _ _ _ c.in-Ok-More.field-0-is c.in-Ok-More.ensures.told in
      begins-more (g.L.Link.wire c.read_fragment.new.link) c.loop-number.number c.loop-number.octets.items c.read_fragment.new.octets.items p.0 c.loop-number.invariant.tells c.loop-number.invariant.told p.1;
  tells = c.in-Ok-More.ensures.tells ∙ c.loop-number.invariant.tells;
  unclosed = c.in-Ok-More.ensures.unclosed;
  faults = omega (arith, c.in-Ok-More.ensures.faults);
  steady = c.in-Ok-More.ensures.steady (λ e. cc) ∙ c.loop-number.invariant.steady;
}

-- what the link keeps, by what was called last
pub returns-in-Ok-Last-clause-tells : goal.returns-in-Ok-Last-clause-tells
returns-in-Ok-Last-clause-tells g c = c.in-Ok-Last.ensures.tells ∙ c.loop-number.invariant.tells

pub returns-in-Ok-Last-clause-unclosed : goal.returns-in-Ok-Last-clause-unclosed
returns-in-Ok-Last-clause-unclosed g c = c.in-Ok-Last.ensures.unclosed

pub returns-in-Ok-Last-clause-faults : goal.returns-in-Ok-Last-clause-faults
returns-in-Ok-Last-clause-faults g c = le_trans c.loop-number.invariant.faults c.in-Ok-Last.ensures.faults

pub returns-in-Ok-End-clause-tells : goal.returns-in-Ok-End-clause-tells
returns-in-Ok-End-clause-tells g c = c.in-Ok-End.ensures.tells ∙ c.loop-number.invariant.tells

pub returns-in-Ok-End-clause-unclosed : goal.returns-in-Ok-End-clause-unclosed
returns-in-Ok-End-clause-unclosed g c = c.in-Ok-End.ensures.unclosed

pub returns-in-Ok-End-clause-faults : goal.returns-in-Ok-End-clause-faults
returns-in-Ok-End-clause-faults g c = le_trans c.loop-number.invariant.faults c.in-Ok-End.ensures.faults

pub returns-in-Err-clause-tells : goal.returns-in-Err-clause-tells
returns-in-Err-clause-tells g c = c.in-Err.ensures.tells ∙ c.loop-number.invariant.tells

pub returns-in-Err-clause-unclosed : goal.returns-in-Err-clause-unclosed
returns-in-Err-clause-unclosed g c = c.in-Err.ensures.unclosed

pub returns-in-Err-clause-faults : goal.returns-in-Err-clause-faults
returns-in-Err-clause-faults g c = le_trans c.loop-number.invariant.faults c.in-Err.ensures.faults
