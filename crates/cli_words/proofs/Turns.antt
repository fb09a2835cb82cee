-- A turn of a loop that goes over a list, and the rule of an option that it adds.
use Rattle.std.specs.Borrow.{Bor}
use Rattle.std.proofs.Common.{◌≡◌, ◌∙◌, ◌<◌, ◌+◌, ℕ, suc, List, length, drop, fold, get_or, Some, sym, ap, arith}
use Rattle.std.proofs.Math.Seq.{drop-cons}
use Rattle.clap.specs.Walk.{Rule, rule_of}
use Rattle.clap.specs.Simple.{new_rule}
use Rattle.clap.specs.declared.builder.arg.Arg.{Arg}
use Rattle.cli_words.specs.Commands.{option_rule}

pub folded : {A B : Type 0} (f : B → A → B) (before behind all : B) (xs : List A) (i : ℕ) (x : A) → i < length xs → behind ≡ f before (get_or xs i x) → fold f before (drop i xs) ≡ all → fold f behind (drop (i + 1) xs) ≡ all
folded {A} {B} f before behind all xs i x inside turn held =
    let next : i + 1 ≡ suc i = omega arith in
    rw next (ap (λ (b : B). fold f b (drop (suc i) xs)) turn ∙ (sym (ap (fold f before) (drop-cons xs i x inside)) ∙ held))

pub named : (plain option : Arg) (id : List ℕ) (name : Bor (List ℕ)) → rule_of plain ≡ new_rule id → option ≡ record plain { long = Some name } → rule_of option ≡ option_rule id name.now
named plain option id name is e = ap rule_of e ∙ ap (λ (r : Rule). record r { long = Some name.now }) is
