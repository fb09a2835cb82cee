-- The command of the program that speaks SASL, as `clap` has it.
use Rattle.std.specs.Prelude.{ℕ, List, [], ◌∷◌, codes}
use Rattle.clap.specs.Simple.{App, new_rule, with_rule}
use Rattle.cli_words.specs.Commands.{bare_app, with_options}

-- the names of the options
abbrev pub sasl_names : List (List ℕ)
sasl_names = codes "--keytab" ∷ codes "--name" ∷ codes "--ccache" ∷ codes "--server"
    ∷ codes "--layers" ∷ codes "--size" ∷ []

-- three plain words, the first of which says who is served or asked, and options
abbrev pub sasl_app : App
sasl_app = with_options (with_rule (with_rule (with_rule (bare_app (codes "gsssasl"))
    (new_rule (codes "address"))) (new_rule (codes "command"))) (new_rule (codes "argument")))
    sasl_names
