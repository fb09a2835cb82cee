use Rattle.std.proofs.Common.{◌≡◌, sym, arith, ◌∙◌, ap, refl, List, drop, ◌-◌, ◌++◌, ◌∷◌, [], ℕ}
use Rattle.std.specs.Prelude.{get_or}
use Rattle.std.proofs.lemmas.List.{take_more_set, length-set}
use Rattle.accept_core.specs.declared.entry.Receipt.{Receipt}
use Rattle.accept_core.specs.Entering.{gained}
use Rattle.accept_core.proofs.Steps.{gained-none}
use Rattle.accept_core.proofs.Recents.{gained-first, gained-next}
use Rattle.accept_core.proofs.log.receipts_of.Goals as goal

pub loop-place-init : goal.loop-place-init
loop-place-init c = record {
  list = λ history begins count. sym (gained-none c.args.«from» (drop (c.args.end - c.args.«from») history) (let k = gained-first c.args.«from» c.args.end history count c.requires.«from» in omega (arith, k)));
  long = refl;
  count = omega arith;
}

pub loop-place-preserved : goal.loop-place-preserved
loop-place-preserved c =
    let inside = c.loop-place.invariant.long in
    let few = c.requires.few in
    let counts = c.loop-place.invariant.count in
    let less = c.loop-place-test.true in
    let one : Receipt = record { place = c.loop-place.place; entry = get_or c.args.last.now (c.args.end - 1 - c.loop-place.place) c.index-last-end.result } in
    record {
      list = λ history begins count.
          take_more_set c.loop-place.list c.loop-place.count one (omega (arith, inside, few, counts, less))
          ∙ (ap (λ (xs : List Receipt). xs ++ one ∷ []) (c.loop-place.invariant.list history begins count)
          ∙ sym (gained-next c.args.«from» c.args.end c.loop-place.place _ _ _ history c.args.last.now c.index-last-end.result begins count c.loop-place.auto.place less few refl refl refl));
      long = length-set c.loop-place.list c.loop-place.count _ ∙ inside;
      count = omega (arith, counts);
    }

pub returns : goal.returns
returns c = λ history begins count.
    let out = c.loop-place-test.false in
    let none : c.args.end - c.loop-place.place ≡ 0 = omega (arith, out) in
    c.loop-place.invariant.list history begins count ∙ ap (λ (n : ℕ). gained c.args.«from» (drop n history)) none
