-- The words of `serve` with `--datagrams`.
use Rattle.std.proofs.Common.{◌≡◌, ◌<◌, true, ltb, List, ℕ, length, codes, refl, arith}
use Rattle.std.proofs.lemmas.Bool.Decides.{nat_tests}
use Rattle.server_options.specs.Options.{options_of}
use Rattle.datagram_options.specs.Words.{place_of, with_name, server_by}

pub server-renamed : (words : List (List ℕ)) → place_of (codes "--datagrams") words < length words → server_by words ≡ options_of (with_name (codes "--connections") (place_of (codes "--datagrams") words) words)
server-renamed words lt = let e : ltb (place_of (codes "--datagrams") words) (length words) ≡ true = grind (arith, nat_tests, lt) in rw e refl
