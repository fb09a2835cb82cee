-- How a run ends whose words were refused.
use Rattle.std.proofs.Common.{◌≡◌, ◌≢◌, ℕ, true, false, List, Result, Ok, Err, refl, sym, ap, ◌∙◌}
use Rattle.std.proofs.lemmas.List.{append-nil}
use Rattle.cli_base.specs.declared.given.WordsRefusal.{WordsRefusal}
use Rattle.cli_base.specs.declared.given.WordsRefusal.TheVariants as refusals
use Rattle.client_command.specs.Credentials.{Asks, is_unloaded}
use Rattle.client_options.specs.Endings.{Named, end_of_words, is_begun, line_of}
use Rattle.client_options.specs.declared.ending.RunEnd.{RunEnd}
use Rattle.client_options.specs.declared.ending.RunEnd.TheVariants.{Usage, NoMemory}
use Rattle.client_options.specs.declared.words.ClientWords.{ClientWords}
use Rattle.client_options.specs.declared.words.Sources.{Sources}

line-of : (refusal : WordsRefusal) (names others : Named) → line_of names (end_of_words refusal) ≡ line_of others (end_of_words refusal)
line-of refusals.Usage names others = refl
line-of refusals.NoMemory names others = refl

-- its line names nothing
pub same-line : {end stop : RunEnd} (refusal : WordsRefusal) (names others : Named) → end ≡ end_of_words refusal → stop ≡ end → line_of names end ≡ line_of others stop
same-line refusal names others is same = ap (line_of names) is ∙ (line-of refusal names others ∙ sym (ap (line_of others) (same ∙ is)))

usage : (refusal : WordsRefusal) → end_of_words refusal ≡ Usage → refusal ≡ refusals.Usage
usage refusals.Usage e = refl
usage refusals.NoMemory e = cc

unbegun : (refusal : WordsRefusal) → is_begun (end_of_words refusal) ≡ false
unbegun refusals.Usage = refl
unbegun refusals.NoMemory = refl

not-loading : (refusal : WordsRefusal) → is_unloaded (end_of_words refusal) ≡ false
not-loading refusals.Usage = refl
not-loading refusals.NoMemory = refl

-- ---- by the end

pub usage-of : {end : RunEnd} (refusal : WordsRefusal) (read : Result ClientWords WordsRefusal) → end ≡ end_of_words refusal
    → (refusal ≢ refusals.NoMemory → read ≡ Err refusal) → end ≡ Usage → read ≡ Err refusals.Usage
usage-of refusal read is given e =
    let same : refusal ≡ refusals.Usage = usage refusal (sym is ∙ e) in
    given (λ m. let bad : refusals.Usage ≡ refusals.NoMemory = sym same ∙ m in cc) ∙ ap Err same

pub usage-always : {end : RunEnd} (refusal : WordsRefusal) → end ≡ end_of_words refusal → end ≢ NoMemory → end ≡ Usage
usage-always refusals.Usage is other = is
usage-always refusals.NoMemory is other = absurd (other is)

-- words that are in the command aren't refused, want of memory aside
pub wanting : {end : RunEnd} (refusal : WordsRefusal) (read : Result ClientWords WordsRefusal) (asked : ClientWords) → end ≡ end_of_words refusal
    → (refusal ≢ refusals.NoMemory → read ≡ Err refusal) → read ≡ Ok asked → end ≡ NoMemory
wanting refusals.Usage read asked is given words =
    let bad : ◌≡◌ {A = Result ClientWords WordsRefusal} (Err refusals.Usage) (Ok asked) = sym (given (λ m. cc)) ∙ words in cc
wanting refusals.NoMemory read asked is given words = is

pub never-begun : {end : RunEnd} {P : Type 0} (refusal : WordsRefusal) → end ≡ end_of_words refusal → is_begun end ≡ true → P
never-begun refusal is begun = let bad : true ≡ false = sym begun ∙ (ap is_begun is ∙ unbegun refusal) in cc

pub never-unloaded : {end : RunEnd} {P : Type 0} (refusal : WordsRefusal) → end ≡ end_of_words refusal → is_unloaded end ≡ true → P
never-unloaded refusal is missing = let bad : true ≡ false = sym missing ∙ (ap is_unloaded is ∙ not-loading refusal) in cc

-- no file was asked for
pub unasked : (old : List (List ℕ)) (sources : Sources) {end : RunEnd} → end ≡ NoMemory → Asks old old sources end
unasked old sources is = record { front = (0, sym (append-nil old)); whole = λ other. absurd (other is) }
