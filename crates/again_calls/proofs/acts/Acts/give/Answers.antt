use Rattle.std.proofs.Common.{slice_set, ◌∙◌, sym, ap, arith}
use Rattle.again_calls.specs.Kept.{given, PlaceOf, changed}
use Rattle.again_calls.proofs.Placing.{answered-at, answered-none}
use Rattle.again_calls.proofs.acts.Acts.give.Goals as goal

pub index_mut-requires : goal.index_mut-requires
index_mut-requires c =
    let f = answered-at c.args.from c.self.inside.places.items c.args.self.now c.index_of.result c.in-Some.at c.self.view_is c.index_of.ensures c.in-Some.is in
    omega (arith, f.within, c.self.inside.places.ok)

pub returns-in-Some : goal.returns-in-Some
returns-in-Some c =
    let f = answered-at c.args.from c.self.inside.places.items c.args.self.now c.index_of.result c.in-Some.at c.self.view_is c.index_of.ensures c.in-Some.is in
    let e = c.give.ensures ∙ ap (given c.args.to) c.index_mut.ensures.value in
    ap (λ (p : PlaceOf). slice_set c.self.inside.places.items c.in-Some.at p) e ∙ (f.makes (given c.args.to) c.index_mut.result.now ∙ ap (changed (given c.args.to) c.args.from) c.self.view_is)

pub returns-in-None : goal.returns-in-None
returns-in-None c = sym ((answered-none c.args.from c.args.self.now c.index_of.result c.index_of.ensures c.in-None.is).makes (given c.args.to))
