-- The commands of both programs, as `clap` has them.
use Rattle.std.specs.Prelude.{◌≡◌, ℕ, true, List, [], ◌∷◌, Some, drop, codes}
use Rattle.clap.specs.Walk.{Rule}
use Rattle.clap.specs.Simple.{App, on_top, new_app, new_rule, with_rule, matches_of}
use Rattle.clap.specs.Takes.{takes}
use Rattle.cli_words.specs.Line.{server_names, client_names, IsRead}

-- an option with one value: its word is its id, and its name is the word without `--`
abbrev pub option_rule : List ℕ → List ℕ → Rule
option_rule word name = record (new_rule word) { long = Some name }

-- a command of this name, whose words have no program's name before them
abbrev pub bare_app : List ℕ → App
bare_app name = on_top (λ s. record s { no_binary_name = true }) (new_app name)

-- the command with these options too
abbrev pub with_options : App → List (List ℕ) → App
with_options command [] = command
with_options command (word ∷ words) =
    with_options (with_rule command (option_rule word (drop 2 word))) words

-- the server's command: an address and options
abbrev pub server_app : App
server_app = with_options (with_rule (bare_app (codes "gssrpcd")) (new_rule (codes "address")))
    server_names

-- the client's command: an address, a command, its arguments, and options
abbrev pub client_app : App
client_app = with_options (with_rule (with_rule (with_rule (with_rule (with_rule (with_rule
    (bare_app (codes "gssrpc")) (new_rule (codes "address"))) (new_rule (codes "command")))
    (new_rule (codes "argument"))) (new_rule (codes "second"))) (new_rule (codes "third")))
    (new_rule (codes "fourth"))) client_names

-- a parse by the command fails for want of memory alone, and what it finds is what the words say
pub record IsTaken (command : App) (words : List (List ℕ)) : Type 0 where
  pub taken : takes command words ≡ true
  pub found : IsRead (matches_of command words) words
