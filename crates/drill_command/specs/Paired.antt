-- The two ends of a drill are an honest pair.
use Rattle.std.specs.Prelude.{ℕ, List, map, take, replicate, Option, Some, None}
use Rattle.std.specs.List.{AllByRecursion}
use Rattle.spnego_core.specs.Ends.{PlainSetup}
use Rattle.spnego_core.specs.Exchange.{HonestPair}
use Rattle.accept_book.specs.Honest.{IsOctets}
use Rattle.gss_server.specs.declared.answer.Kept.{Kept}
use Rattle.pair_laws.specs.Creation.{IsAt, padded}
use Rattle.pair_laws.specs.Honest.{occasion_of}
use Rattle.pair_laws.specs.Linked.{kept_of}
use Rattle.drill_command.specs.Fitting.{tokens_for}
use Rattle.drill_plan.specs.Sessions.{moment_of, kind_of}
use Rattle.drill_plan.specs.Setting.{drill_acceptor}

-- what counts as drawn for a token: the first octets of its answer's draws, and zeros without one
abbrev pub drawn_from : Option Kept → List ℕ
drawn_from None = replicate 66 0
drawn_from (Some kept) = take 66 kept.draws

-- with what was drawn for the first answers of the session, one for each token, the server and a
-- client that is begun so are an honest pair; for a token without an answer zeros count as drawn
abbrev pub IsPaired : ℕ → PlainSetup → List Kept → Type 0
IsPaired number own kept = HonestPair drill_acceptor own (kind_of number)
    (padded (moment_of number) (tokens_for (kind_of number)) (map occasion_of (kept_of kept)))

-- what was drawn for an answer is octets
abbrev pub HasOctets : Kept → Type 0
HasOctets kept = IsOctets kept.draws

-- all answers came at the session's moment, and octets were drawn for each
pub record AreOnTime (number : ℕ) (kept : List Kept) : Type 0 where
  pub moments : AllByRecursion (IsAt (moment_of number)) (kept_of kept)
  pub octets : AllByRecursion HasOctets kept
