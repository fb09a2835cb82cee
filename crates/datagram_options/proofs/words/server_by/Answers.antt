use Rattle.std.proofs.Common.{◌≡◌, ◌<◌, ◌∙◌, ℕ, List, Result, ap, sym, subst, codes, length, arith}
use Rattle.sec_base.specs.Answers.{Gives}
use Rattle.cli_base.specs.declared.given.WordsRefusal.{WordsRefusal}
use Rattle.cli_base.specs.declared.given.WordsRefusal.TheVariants.{NoMemory}
use Rattle.server_options.specs.Options.{options_of}
use Rattle.server_options.specs.declared.options.Options.{Options}
use Rattle.datagram_options.specs.Words.{place_of, with_name}
use Rattle.datagram_options.proofs.Renaming.{server-renamed}
use Rattle.datagram_options.proofs.words.server_by.Goals as goal

pub returns-in_ok-renamed-clause-value : goal.returns-in_ok-renamed-clause-value
returns-in_ok-renamed-clause-value c =
    let words : List (List ℕ) = c.args.words.now in
    let at : c.place_of-at.result ≡ place_of (codes "--datagrams") words = c.place_of-at.ensures.value in
    let there : place_of (codes "--datagrams") words < length words = omega (arith, c.if-at-words.true, at) in
    let renamed : c.as_slice.result.now ≡ with_name (codes "--connections") (place_of (codes "--datagrams") words) words =
    c.as_slice.ensures.value ∙ (c.in_ok-renamed.ensures ∙ ap (λ (n : ℕ). with_name (codes "--connections") n words) at) in
    subst (λ (x : Result Options WordsRefusal). Gives NoMemory (λ (o : Options). o) c.read_options.result x) (ap options_of renamed ∙ sym (server-renamed words there)) c.read_options.ensures.value
