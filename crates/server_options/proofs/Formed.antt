-- Words of the form of the command are a line that `clap` reads.
use Rattle.std.proofs.Common.{◌≡◌, ◌≤◌, ℕ, Bool, true, false, ◌&&◌, List, length, Option, Some, None, Result, Ok, Err, is_some, nat_eq, refl, arith}
use Rattle.std.proofs.lemmas.Bool.{and_parts}
use Rattle.std.proofs.lemmas.Bool.Decides.{nat_tests}
use Rattle.cli_base.specs.Given.{demanded}
use Rattle.cli_base.specs.Words.{are_words, first_word, plain_of}
use Rattle.cli_base.specs.declared.given.WordsRefusal.{WordsRefusal}
use Rattle.cli_base.specs.declared.given.WordsRefusal.TheVariants.{Usage}
use Rattle.cli_words.specs.Line.{server_names, IsLine}
use Rattle.server_options.specs.Options.{names, is_address, is_command, formed}

held : (holds : Bool) → demanded holds ≡ Ok tt → holds ≡ true
held true e = refl
held false e = absurd (let bad : ◌≡◌ {A = Result (Unit {0}) WordsRefusal} (Err Usage) (Ok tt) = e in cc)

named : (word : Option (List ℕ)) → is_address word ≡ true → is_some word ≡ true
named None e = absurd (let bad : false ≡ true = e in cc)
named (Some word) e = refl

at-most : (n : ℕ) → nat_eq n 1 ≡ true → n ≤ 1
at-most n e = grind (arith, nat_tests)

pub is-line : (words : List (List ℕ)) → formed words ≡ Ok tt → IsLine server_names 1 words
is-line words e =
    let all = and_parts (is_address (first_word words)) (nat_eq (length (plain_of words)) 1 && are_words names words) (held (is_command words) e) in
    let rest = and_parts (nat_eq (length (plain_of words)) 1) (are_words names words) all.1 in
    record { first = named (first_word words) all.0; few = at-most (length (plain_of words)) rest.0; known = rest.1 }
