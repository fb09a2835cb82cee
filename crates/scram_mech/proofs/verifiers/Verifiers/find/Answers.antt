use Rattle.std.proofs.Common.{List, ◌≡◌, sym, subst, ◌∙◌, rules, arith}
use Rattle.std.specs.Prelude.{slice_get, option_copied}
use Rattle.scram_mech.specs.declared.verifiers.Verifier.{Verifier}
use Rattle.scram_mech.proofs.FoundPlaces.{at_place, none}
use Rattle.scram_mech.proofs.LentLines.{copied}
use Rattle.scram_mech.proofs.verifiers.Verifiers.find.Goals as goal

pub returns-in-Some : goal.returns-in-Some
returns-in-Some c =
    let found = at_place c.in-Some.place c.self.inside.lines.items c.args.name.now (sym (c.self.invariant.found c.args.name.now) ∙ (sym c.find.ensures ∙ c.in-Some.is)) in
    let lent = copied c.get.result c.deref.result.now c.in-Some.place c.get.ensures.lookup.0 (λ d. c.get.ensures.lookup.4 (omega arith) d) in
    let stands = subst (λ (lines : List Verifier). option_copied c.get.result ≡ slice_get lines c.in-Some.place) c.deref.ensures.value lent in
    rw (sym c.self.view_is) (stands ∙ found)

pub returns-in-None : goal.returns-in-None
returns-in-None c =
    let gone = none 0 c.self.inside.lines.items c.args.name.now (sym (c.self.invariant.found c.args.name.now) ∙ (sym c.find.ensures ∙ c.in-None.is)) in
    search (rules, gone, c.self.view_is)
