use Rattle.std.proofs.Common.{◌≡◌, ◌∙◌, ℕ, true, false, cond, List, Some, is_some, sym, ap, subst}
use Rattle.scram_mech.specs.Judging.{same}
use Rattle.scram_mech.specs.UserPlaces.{place_of}
use Rattle.scram_mech.proofs.FoundPlaces.{is_twice, is_once, is_found}
use Rattle.scram_mech.proofs.verifiers.places_of.Goals as goal

pub returns-then-is_some-clause-once : goal.returns-then-is_some-clause-once
returns-then-is_some-clause-once c = λ _.
    let was = c.loop-count in
    let line = c.index-lines-count.result in
    let name = c.as_bytes-name.ensures.value ∙ c.text.ensures.value in
    let known : is_some (place_of was.places line.name) ≡ true =
    subst (λ (n : List ℕ). is_some (place_of was.places n) ≡ true) name (sym (ap (λ o. is_some o) c.find.ensures) ∙ (sym c.is_some.ensures ∙ c.if-is_some.true)) in
    is_twice c.args.lines.now was.count line c.loop-count-test.true (sym c.index-lines-count.is) was.places was.invariant.found known was.invariant.once

pub loop-count-preserved : goal.loop-count-preserved
loop-count-preserved c =
    let was = c.loop-count in
    let line = c.index-lines-count.result in
    let name = c.as_bytes-name.ensures.value ∙ c.text.ensures.value in
    let unknown : is_some (place_of was.places line.name) ≡ false =
    subst (λ (n : List ℕ). is_some (place_of was.places n) ≡ false) name (sym (ap (λ o. is_some o) c.find.ensures) ∙ (sym c.is_some.ensures ∙ c.if-is_some.false)) in
    let put : (other : List ℕ) → place_of c.put.new.self other ≡ cond (same line.name other) (Some was.count) (place_of was.places other) =
    subst (λ (n : List ℕ). (other : List ℕ) → place_of c.put.new.self other ≡ cond (same n other) (Some was.count) (place_of was.places other)) name c.in_ok-put.ensures in record {
      once = is_once c.args.lines.now was.count line c.loop-count-test.true (sym c.index-lines-count.is) was.places was.invariant.found unknown was.invariant.once;
      found = is_found c.args.lines.now was.count line c.loop-count-test.true (sym c.index-lines-count.is) was.places c.put.new.self was.invariant.found unknown put;
    }
