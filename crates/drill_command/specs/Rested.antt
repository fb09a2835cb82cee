-- What a session does to a book at rest.
use Rattle.std.specs.Prelude.{◌≡◌, ℕ, ◌+◌, ◌*◌, ◌<◌, ◌≤◌, ◌^◌, List, length, map, Option, Some}
use Rattle.std.specs.Prelude.{None, false}
use Rattle.std.specs.List.{AllByRecursion}
use Rattle.sec_base.specs.Moment.{greatest_moment}
use Rattle.gss_base.specs.declared.mech.MechKind.{MechKind}
use Rattle.spnego_core.specs.Exchange.{HonestPair}
use Rattle.spnego_core.specs.declared.outcome.Outcome.{Outcome}
use Rattle.accept_book.specs.Booking.{BookOf, names_of}
use Rattle.accept_core.specs.declared.entry.Entry.{Entry}
use Rattle.gss_client.specs.Start.{StartSays}
use Rattle.gss_server.specs.Asking.{Asking}
use Rattle.gss_server.specs.declared.answer.Kept.{Kept}
use Rattle.gss_client.specs.Conferring.{DueCall}
use Rattle.pair_laws.specs.Answering.{AnswersBy}
use Rattle.pair_laws.specs.HonestCalls.{IsToServer}
use Rattle.pair_laws.specs.Creation.{SameLimits, Enters, padded}
use Rattle.pair_laws.specs.Honest.{occasion_of}
use Rattle.pair_laws.specs.Linked.{LinkedLaw, kept_of}
use Rattle.pair_laws.specs.Resting.{RestsAt}
use Rattle.pair_laws.specs.Rows.{history_after}
use Rattle.pair_laws.specs.Posts.{IsName, IsPosted, posts_in, posts_behind, posts_results}
use Rattle.pair_laws.specs.Posts.{posts_server}
use Rattle.pair_laws.specs.Running.{IsProper}
use Rattle.posts_client.specs.declared.procedure.Procedure.{Procedure}
use Rattle.posts_client.specs.Procedure.{query_of}
use Rattle.posts_program.specs.Posts.{posts_says}
use Rattle.pair_laws.specs.Walking.{IsNamed}
use Rattle.drill_command.specs.Drilled.{after_start}
use Rattle.drill_command.specs.Fitting.{tokens_for}
use Rattle.drill_command.specs.Held.{Holds}
use Rattle.drill_plan.specs.Generator.{octets_from}
use Rattle.drill_command.specs.Paired.{IsPaired}
use Rattle.drill_plan.specs.Sessions.{moment_of, kind_of}
use Rattle.drill_plan.specs.Setting.{drill_acceptor, drill_start}
use Rattle.drill_plan.specs.declared.session.DrillSession.{DrillSession}

-- what is told of an outcome: a session on its key over a link that answers by a book at rest is
-- done, and the initiator's name is one
pub record LinkedTold (outcome : Outcome) : Type 0 where
  pub laws : LinkedLaw outcome.key
  pub name : IsName outcome.initiator

-- the same, where there is an outcome
abbrev pub IsLinkTold : Option Outcome → Type 0
IsLinkTold outcome = (told : Outcome) → outcome ≡ Some told → LinkedTold told

-- a call of the program of posts, with arguments of its procedure
pub record IsPostsCall (call : DueCall) : Type 0 where
  pub procedure : Procedure
  pub query : call.query ≡ query_of procedure
  pub args : IsPosted procedure call.args

-- the session begins at this moment, its client's stamp, with a book at rest, which has places for
-- these tokens and calls; with what was drawn for the first answers, so many, both ends are an
-- honest pair; there are numbers enough, and each call is one that the service takes
pub record FitsRest (tokens : ℕ) (kind : MechKind) (count moment : ℕ) (start : StartSays)
    (wanted : List DueCall) (book : BookOf) (kept : List Kept) : Type 0 where
  pub pair : HonestPair book.setup start.setup kind
      (padded moment tokens (map occasion_of (kept_of kept)))
  pub known : moment ≤ greatest_moment
  pub stamp : start.setup.stamp ≡ moment
  pub rests : RestsAt count moment book.core
  pub number : count + 1 < 2 ^ 64
  pub wide : 0 < book.core.width
  pub table : 0 < book.core.table.limit
  pub cache : count < book.core.cache.capacity
  pub log : length book.core.history + 4 * tokens + length wanted < book.core.limit
  pub numbers : length wanted < 0x80000000
  pub called : IsToServer posts_says start.terms
  pub each : AllByRecursion (IsProper posts_says start.terms) wanted
  pub posted : AllByRecursion IsPostsCall wanted

-- the session wasn't refused, agreed on an outcome of this mechanism with its credential's names,
-- and was answered the service's results of all its calls by the posts of the book; the book has
-- the entries of its creation, its calls and its end in the log and nothing else, and rests again
-- at every later moment
pub record RestsAgain (tokens : ℕ) (kind : MechKind) (count moment : ℕ) (start : StartSays)
    (wanted : List DueCall) (old new : BookOf) (one : DrillSession) : Type 0 where
  pub ended : one.ended ≡ None
  pub agreed : Outcome
  pub outcome : one.outcome ≡ Some agreed
  pub mech : agreed.mech ≡ kind
  pub named : IsNamed start.setup kind agreed
  pub results : one.results.items
      ≡ posts_results (posts_in old.core.history) agreed.initiator wanted
  pub opened : List Entry
  pub enters : Enters (count + 1) moment kind tokens old.core.history opened
  pub names : enters.names ≡ names_of agreed
  pub history : new.core.history ≡ history_after (count + 1) 1 wanted opened
  pub posted : posts_in new.core.history ≡ posts_behind (posts_in old.core.history) wanted
  pub grown : length new.core.history ≤ length old.core.history + 4 * tokens + length wanted + 1
  pub limits : SameLimits old new
  pub rests : (later : ℕ) → moment < later → RestsAt (count + 1) later new.core

-- the next session begins with a book of the drill's server at rest, which has places for the
-- tokens and the calls, and there are numbers enough for these
pub record FitsNext (number : ℕ) (wanted : List DueCall) (book : BookOf) : Type 0 where
  pub setup : book.setup ≡ drill_acceptor
  pub rests : RestsAt number (moment_of number) book.core
  pub log : length book.core.history + 4 * tokens_for (kind_of number) + length wanted
      < book.core.limit
  pub numbers : length wanted < 0x80000000

-- the session of this number, counted from 0, began at its moment with a drill's start, by octets
-- of the client's generator, which had this value. It was held so that its calls have the octets
-- that come next of that generator, and these answers, which the book gave, those of the server's,
-- which had this value. By them both ends are an honest pair; the session is done if it fits.
pub record IsNext (number client server : ℕ) (wanted : List DueCall) (old new : BookOf)
    (kept : List Kept) (one : DrillSession) : Type 0 where
  pub start : StartSays
  pub begun : start ≡ drill_start number (moment_of number) (octets_from 66 client)
  pub held : ∥ Holds (λ asked. Asking (AnswersBy (posts_server 128)) old asked new)
      (posts_server 128).serving (moment_of number) (after_start client) server start wanted kept
      false one.outcome one.results.items one.ended ∥₁
  pub paired : IsPaired number start.setup kept
  pub rests : FitsNext number wanted old
      → ∥ RestsAgain (tokens_for (kind_of number)) (kind_of number) number (moment_of number) start
      wanted old new one ∥₁
