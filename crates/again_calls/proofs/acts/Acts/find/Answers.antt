use Rattle.std.proofs.Common.{◌∙◌, sym, ap, Some, arith}
use Rattle.again_calls.specs.Kept.{acts_in, PlaceOf, act_with}
use Rattle.again_calls.proofs.Placing.{answered-at, answered-none}
use Rattle.again_calls.proofs.acts.Acts.find.Goals as goal

pub index-requires : goal.index-requires
index-requires c =
    let f = answered-at (Some c.args.id) c.self.inside.places.items c.args.self.now c.index_of.result c.in-Some.at c.self.view_is c.index_of.ensures c.in-Some.is in
    omega (arith, f.within, c.self.inside.places.ok)

pub returns-in-Some : goal.returns-in-Some
returns-in-Some c =
    let f = answered-at (Some c.args.id) c.self.inside.places.items c.args.self.now c.index_of.result c.in-Some.at c.self.view_is c.index_of.ensures c.in-Some.is in
    c.find.ensures ∙ ap (act_with c.args.xid) (ap (λ (p : PlaceOf). p.acts) c.index.ensures ∙ (f.acts c.index.result.now ∙ ap (acts_in (Some c.args.id)) c.self.view_is))

pub returns-in-None : goal.returns-in-None
returns-in-None c = sym (ap (act_with c.args.xid) (answered-none (Some c.args.id) c.args.self.now c.index_of.result c.index_of.ensures c.in-None.is).acts)
