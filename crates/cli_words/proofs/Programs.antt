-- What both commands have, each found by computation.
use Rattle.std.proofs.Common.{◌≡◌, true, false, List, [], refl, arith, codes}
use Rattle.std.specs.List.{list_all}
use Rattle.clap.specs.Walk.{Row, Rule}
use Rattle.clap.specs.Simple.{built, is_simple, names_of}
use Rattle.clap.specs.Takes.{default_passes, is_valid}
use Rattle.clap.proofs.OnLiterals.{clap_on_literals}
use Rattle.cli_words.specs.Line.{IsLine, server_names, client_names}
use Rattle.cli_words.specs.Commands.{server_app, client_app, IsTaken}
use Rattle.cli_words.proofs.Pairs.{Word, Each}
use Rattle.cli_words.proofs.Walking.{HasOption, HasPlace, HasPlaces}
use Rattle.cli_words.proofs.Taken.{Serves, more_places, taken}

-- ---- the server's

server-simple : is_simple server_app ≡ true
unfolding clap_on_literals
server-simple = refl

server-subs : (built server_app).subs ≡ []
unfolding clap_on_literals
server-subs = refl

server-labels : names_of (built server_app) ≡ []
unfolding clap_on_literals
server-labels = refl

server-options : Each (HasOption (built server_app).top.rules) server_names
unfolding clap_on_literals
server-options = (
  record { name = codes "keytab"; some = refl; spelled = refl; by_long = refl; by_id = refl },
  (
    record { name = codes "verifiers"; some = refl; spelled = refl; by_long = refl; by_id = refl },
    (
      record { name = codes "name"; some = refl; spelled = refl; by_long = refl; by_id = refl },
      (
        record { name = codes "bind"; some = refl; spelled = refl; by_long = refl; by_id = refl },
        (
          record { name = codes "offer"; some = refl; spelled = refl; by_long = refl; by_id = refl },
          (
            record { name = codes "bare"; some = refl; spelled = refl; by_long = refl; by_id = refl },
            (
              record { name = codes "window"; some = refl; spelled = refl; by_long = refl; by_id = refl },
              (
                record { name = codes "connections"; some = refl; spelled = refl; by_long = refl; by_id = refl },
                (
                  record { name = codes "contexts"; some = refl; spelled = refl; by_long = refl; by_id = refl },
                  (
                    record { name = codes "marks"; some = refl; spelled = refl; by_long = refl; by_id = refl },
                    (
                      record { name = codes "log"; some = refl; spelled = refl; by_long = refl; by_id = refl },
                      (
                        record { name = codes "desks"; some = refl; spelled = refl; by_long = refl; by_id = refl },
                        (
                          record { name = codes "idle"; some = refl; spelled = refl; by_long = refl; by_id = refl },
                          (
                            record { name = codes "control"; some = refl; spelled = refl; by_long = refl; by_id = refl },
                            (
                              record { name = codes "journal"; some = refl; spelled = refl; by_long = refl; by_id = refl },
                              (record { name = codes "digest"; some = refl; spelled = refl; by_long = refl; by_id = refl }, tt),
                            ),
                          ),
                        ),
                      ),
                    ),
                  ),
                ),
              ),
            ),
          ),
        ),
      ),
    ),
  ),
)

server-address : HasPlace (built server_app).top.rules (codes "address") 1
unfolding clap_on_literals
server-address = record { by_index = refl; by_id = refl; next = refl }

server-defaults : Each (λ (r : Rule). r.defaults ≡ []) (built server_app).top.rules
unfolding clap_on_literals
server-defaults = (refl, (refl, (refl, (refl, (refl, (refl, (refl, (refl, (refl, (refl, (refl, (refl, (refl, (refl, (refl, (refl, (refl, (refl, tt))))))))))))))))))

server-passing : list_all default_passes (built server_app).top.rules ≡ true
unfolding clap_on_literals
server-passing = refl

server-valid : (rows : List Row) → is_valid (built server_app).top rows false ≡ true
unfolding clap_on_literals
server-valid rows = refl

server-serves : Serves server_app server_names 0
server-serves = record {
  simple = server-simple;
  alone = refl;
  subs = server-subs;
  labels = server-labels;
  options = server-options;
  address = server-address;
  behind = tt;
  defaults = server-defaults;
  passing = server-passing;
  valid = server-valid;
}

pub server-taken : (words : List Word) → IsLine server_names 1 words → IsTaken server_app words
server-taken words line = taken server_app server_names 0 server-serves (omega arith) words line

-- ---- the client's

client-simple : is_simple client_app ≡ true
unfolding clap_on_literals
client-simple = refl

client-subs : (built client_app).subs ≡ []
unfolding clap_on_literals
client-subs = refl

client-labels : names_of (built client_app) ≡ []
unfolding clap_on_literals
client-labels = refl

client-options : Each (HasOption (built client_app).top.rules) client_names
unfolding clap_on_literals
client-options = (
  record { name = codes "ccache"; some = refl; spelled = refl; by_long = refl; by_id = refl },
  (
    record { name = codes "server"; some = refl; spelled = refl; by_long = refl; by_id = refl },
    (
      record { name = codes "user"; some = refl; spelled = refl; by_long = refl; by_id = refl },
      (
        record { name = codes "password"; some = refl; spelled = refl; by_long = refl; by_id = refl },
        (
          record { name = codes "mechs"; some = refl; spelled = refl; by_long = refl; by_id = refl },
          (
            record { name = codes "bare"; some = refl; spelled = refl; by_long = refl; by_id = refl },
            (
              record { name = codes "bind"; some = refl; spelled = refl; by_long = refl; by_id = refl },
              (
                record { name = codes "service"; some = refl; spelled = refl; by_long = refl; by_id = refl },
                (
                  record { name = codes "times"; some = refl; spelled = refl; by_long = refl; by_id = refl },
                  (record { name = codes "first"; some = refl; spelled = refl; by_long = refl; by_id = refl }, tt),
                ),
              ),
            ),
          ),
        ),
      ),
    ),
  ),
)

client-address : HasPlace (built client_app).top.rules (codes "address") 1
unfolding clap_on_literals
client-address = record { by_index = refl; by_id = refl; next = refl }

client-places : HasPlaces (built client_app).top.rules 2 5 more_places
unfolding clap_on_literals
client-places = (record { by_index = refl; by_id = refl; next = refl }, (record { by_index = refl; by_id = refl; next = refl }, (record { by_index = refl; by_id = refl; next = refl }, (record { by_index = refl; by_id = refl; next = refl }, (record { by_index = refl; by_id = refl; next = refl }, tt)))))

client-defaults : Each (λ (r : Rule). r.defaults ≡ []) (built client_app).top.rules
unfolding clap_on_literals
client-defaults = (refl, (refl, (refl, (refl, (refl, (refl, (refl, (refl, (refl, (refl, (refl, (refl, (refl, (refl, (refl, (refl, (refl, tt)))))))))))))))))

client-passing : list_all default_passes (built client_app).top.rules ≡ true
unfolding clap_on_literals
client-passing = refl

client-valid : (rows : List Row) → is_valid (built client_app).top rows false ≡ true
unfolding clap_on_literals
client-valid rows = refl

client-serves : Serves client_app client_names 5
client-serves = record {
  simple = client-simple;
  alone = refl;
  subs = client-subs;
  labels = client-labels;
  options = client-options;
  address = client-address;
  behind = client-places;
  defaults = client-defaults;
  passing = client-passing;
  valid = client-valid;
}

pub client-taken : (words : List Word) → IsLine client_names 6 words → IsTaken client_app words
client-taken words line = taken client_app client_names 5 client-serves (omega arith) words line
