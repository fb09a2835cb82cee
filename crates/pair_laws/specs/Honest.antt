-- An honest exchange: a session is created by the mechanism that both have in common, against a
-- book, in as many turns as that takes.
use Rattle.std.specs.Prelude.{◌≡◌, ℕ, ◌<◌, ◌^◌, List, ◌++◌, map, take}
use Rattle.gss_base.specs.declared.mech.MechKind.{MechKind}
use Rattle.spnego_core.specs.declared.setup.AcceptSetup.{AcceptSetup}
use Rattle.spnego_core.specs.Exchange.{Occasion, HonestPair}
use Rattle.accept_book.specs.RecordShown.{KeptAnswers}
use Rattle.gss_client.specs.Start.{StartSays}
use Rattle.gss_client.specs.Talk.{created_from}
use Rattle.pair_laws.specs.Answering.{Server}
use Rattle.pair_laws.specs.Conversing.{Converses}
use Rattle.pair_laws.specs.HonestCalls.{IsToServer}
use Rattle.pair_laws.specs.Booked.{Around, Booked, IsLeftAlone, id_in}

-- what the acceptor was given with a token: the moment that was kept, and 66 of the octets
abbrev pub occasion_of : KeptAnswers → Occasion
occasion_of kept = record { now = kept.now; drawn = take 66 kept.draws }

-- the facts of a session's start and of an acceptor fit, and the session hears the replies of the
-- acceptor's book
pub record HonestExchange (setup : AcceptSetup) (serves : Server) (start : StartSays)
    (stream : List ℕ) : Type 0 where
  -- the session calls the server's program
  pub called : IsToServer serves.serving.program start.terms
  -- the octets to come, and the answers that are kept for the exchange
  pub converses : Converses serves (created_from start) stream
  pub answers : List KeptAnswers
  pub later : List KeptAnswers
  pub kept : converses.kept ≡ answers ++ later
  pub some_width : 0 < serves.serving.width
  pub width_fits : serves.serving.width < 2 ^ 32
  -- the two lists have a mechanism in common, and its facts fit on each occasion
  pub kind : MechKind
  pub pair : HonestPair setup start.setup kind (map occasion_of answers)
  -- the book
  pub books : List Around
  pub booked : Booked setup serves converses.records answers books
  pub left_alone : IsLeftAlone (id_in books) books
  pub number : id_in books < 2 ^ 64
