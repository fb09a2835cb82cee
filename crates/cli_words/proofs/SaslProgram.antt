-- What the command of the program that speaks SASL has, each found by computation.
use Rattle.std.proofs.Common.{◌≡◌, true, false, List, [], refl, arith, codes}
use Rattle.std.specs.List.{list_all}
use Rattle.clap.specs.Walk.{Row, Rule}
use Rattle.clap.specs.Simple.{built, is_simple, names_of}
use Rattle.clap.specs.Takes.{default_passes, is_valid}
use Rattle.clap.proofs.OnLiterals.{clap_on_literals}
use Rattle.cli_words.specs.Line.{IsLine}
use Rattle.cli_words.specs.Commands.{IsTaken}
use Rattle.cli_words.specs.Sasl.{sasl_names, sasl_app}
use Rattle.cli_words.proofs.Pairs.{Word, Each}
use Rattle.cli_words.proofs.Walking.{HasOption, HasPlace, HasPlaces}
use Rattle.cli_words.proofs.Taken.{Serves, more_places, taken}

sasl-simple : is_simple sasl_app ≡ true
unfolding clap_on_literals
sasl-simple = refl

sasl-subs : (built sasl_app).subs ≡ []
unfolding clap_on_literals
sasl-subs = refl

sasl-labels : names_of (built sasl_app) ≡ []
unfolding clap_on_literals
sasl-labels = refl

sasl-options : Each (HasOption (built sasl_app).top.rules) sasl_names
unfolding clap_on_literals
sasl-options = (record { name = codes "keytab"; some = refl; spelled = refl; by_long = refl; by_id = refl }, (record { name = codes "name"; some = refl; spelled = refl; by_long = refl; by_id = refl }, (record { name = codes "ccache"; some = refl; spelled = refl; by_long = refl; by_id = refl }, (record { name = codes "server"; some = refl; spelled = refl; by_long = refl; by_id = refl }, (record { name = codes "layers"; some = refl; spelled = refl; by_long = refl; by_id = refl }, (record { name = codes "size"; some = refl; spelled = refl; by_long = refl; by_id = refl }, tt))))))

sasl-address : HasPlace (built sasl_app).top.rules (codes "address") 1
unfolding clap_on_literals
sasl-address = record { by_index = refl; by_id = refl; next = refl }

sasl-places : HasPlaces (built sasl_app).top.rules 2 2 more_places
unfolding clap_on_literals
sasl-places = (record { by_index = refl; by_id = refl; next = refl }, (record { by_index = refl; by_id = refl; next = refl }, tt))

sasl-defaults : Each (λ (r : Rule). r.defaults ≡ []) (built sasl_app).top.rules
unfolding clap_on_literals
sasl-defaults = (refl, (refl, (refl, (refl, (refl, (refl, (refl, (refl, (refl, (refl, tt))))))))))

sasl-passing : list_all default_passes (built sasl_app).top.rules ≡ true
unfolding clap_on_literals
sasl-passing = refl

sasl-valid : (rows : List Row) → is_valid (built sasl_app).top rows false ≡ true
unfolding clap_on_literals
sasl-valid rows = refl

sasl-serves : Serves sasl_app sasl_names 2
sasl-serves = record {
  simple = sasl-simple;
  alone = refl;
  subs = sasl-subs;
  labels = sasl-labels;
  options = sasl-options;
  address = sasl-address;
  behind = sasl-places;
  defaults = sasl-defaults;
  passing = sasl-passing;
  valid = sasl-valid;
}

pub sasl-taken : (words : List Word) → IsLine sasl_names 3 words → IsTaken sasl_app words
sasl-taken words line = taken sasl_app sasl_names 2 sasl-serves (omega arith) words line
