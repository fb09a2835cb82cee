-- A creation in a row: a session is created over a book in which no context lives, and nobody else
-- asks the book anything meanwhile.
use Rattle.std.specs.Prelude.{◌≡◌, ℕ, zero, suc, ◌+◌, ◌*◌, ◌<◌, ◌≤◌, ◌^◌, Bool, true, false}
use Rattle.std.specs.Prelude.{◌||◌, is_some, List, [], ◌∷◌, ◌++◌, length, map, replicate, Option}
use Rattle.std.specs.Prelude.{Ok}
use Rattle.std.specs.List.{AllByRecursion, flat_map}
use Rattle.sec_base.specs.Moment.{greatest_moment}
use Rattle.gss_base.specs.Mech.{is_kerberos}
use Rattle.gss_base.specs.declared.mark.Mark.{Mark}
use Rattle.gss_base.specs.declared.mech.MechKind.{MechKind}
use Rattle.rpc_msgs.specs.Records.{Fragments}
use Rattle.spnego_core.specs.Exchange.{Occasion, HonestPair}
use Rattle.spnego_core.specs.declared.outcome.Outcome.{Outcome}
use Rattle.accept_book.specs.Booking.{BookOf}
use Rattle.accept_core.specs.Entering.{noted}
use Rattle.accept_core.specs.History.{numbers}
use Rattle.accept_book.specs.RecordShown.{KeptAnswers}
use Rattle.accept_core.specs.declared.entry.Entry.{Entry}
use Rattle.accept_core.specs.declared.entry.Entry.TheVariants.{Opened, Went, Settled}
use Rattle.gss_client.specs.Start.{StartSays}
use Rattle.gss_client.specs.Session.{SessionState}
use Rattle.gss_client.specs.Talk.{created_from}
use Rattle.gss_client.specs.Talking.{Said}
use Rattle.gss_server.specs.Connections.{octets_of}
use Rattle.pair_laws.specs.Answering.{Server}
use Rattle.pair_laws.specs.Booked.{Around}
use Rattle.pair_laws.specs.Honest.{occasion_of, HonestExchange}
use Rattle.pair_laws.specs.HonestCalls.{IsToServer}
use Rattle.pair_laws.specs.Laws.{IsBehind}
use Rattle.pair_laws.specs.Resting.{RestsAt, HoldsOne}
use Rattle.pair_laws.specs.Rows.{InRow, AreCuts}
use Rattle.pair_laws.specs.Running.{Turn, heard_in, answers_of}
use Rattle.pair_laws.specs.Walking.{IsNamed}

-- how the book stands around a turn
abbrev pub around_of : Turn → Around
around_of turn = record { before = turn.before.core; after = turn.after.core }

-- the records of turns
abbrev pub records_of : List Turn → List (List ℕ)
records_of turns = map (λ turn. turn.octets) turns

-- an answer came at this moment
abbrev pub IsAt : ℕ → KeptAnswers → Type 0
IsAt moment kept = kept.now ≡ moment

-- a creation came to a session on this outcome
pub record CreatesOn (part : Said SessionState) (agreed : Outcome) : Type 0 where
  pub state : SessionState
  pub answer : part.answer ≡ Ok state
  pub outcome : state.outcome ≡ agreed

-- whether a mark of an authenticator is among these
abbrev pub is_marked : List (Option Mark) → Bool
is_marked [] = false
is_marked (mark ∷ marks) = is_some mark || is_marked marks

-- a history behind the tokens of a creation at this moment, each with the mark that was taken for
-- it: the first one opens the context, each later one goes on with it, and the last settles it;
-- `begun` says that the context was opened before
abbrev pub history_with : ℕ → ℕ → Entry → Bool → List (Option Mark) → List Entry → List Entry
history_with id at settled begun [] h = h
history_with id at settled false (mark ∷ []) h = settled ∷ noted mark id at (Opened id at ∷ h)
history_with id at settled true (mark ∷ []) h = settled ∷ noted mark id at h
history_with id at settled false (mark ∷ next ∷ marks) h =
    history_with id at settled true (next ∷ marks) (noted mark id at (Opened id at ∷ h))
history_with id at settled true (mark ∷ next ∷ marks) h =
    history_with id at settled true (next ∷ marks) (Went id at ∷ noted mark id at h)

-- the history that a creation by these tokens leaves: it took a mark exactly by Kerberos
pub record Enters (id moment : ℕ) (kind : MechKind) (tokens : ℕ) (old new : List Entry) : Type 0
  where
    pub marks : List (Option Mark)
    pub counted : length marks ≡ tokens
    pub marked : is_marked marks ≡ is_kerberos kind
    pub names : List ℕ
    pub lasts : ℕ
    pub is : new ≡ history_with id moment (Settled id kind names lasts moment) false marks old

-- the limits are as before
pub record SameLimits (old new : BookOf) : Type 0 where
  pub setup : new.setup ≡ old.setup
  pub limit : new.core.limit ≡ old.core.limit
  pub width : new.core.width ≡ old.core.width
  pub contexts : new.core.table.limit ≡ old.core.table.limit
  pub capacity : new.core.cache.capacity ≡ old.core.cache.capacity

-- turns in a row from a book at rest with places: those of a creation by an honest pair, with which
-- a session's writing and hearing begins, all at the moment of the client's stamp, and those behind
-- it; what was written reads as their records, however these are cut
pub record IsCreation (serves : Server) (lasts : ℕ) (start : StartSays) (kind : MechKind)
    (count moment : ℕ)
    (stream more : List ℕ) (old new : BookOf) (front back : List Turn) (records : List Fragments)
    (tail rest : List ℕ) : Type 0 where
  pub called : IsToServer serves.serving.program start.terms
  pub rests : RestsAt count moment old.core
  pub some_width : 0 < serves.serving.width
  pub width_fits : serves.serving.width < 2 ^ 32
  pub number : count + 1 < 2 ^ 64
  pub pair : HonestPair old.setup start.setup kind (map occasion_of (answers_of front))
  pub known : moment ≤ greatest_moment
  pub stamp : start.setup.stamp ≡ moment
  pub moments : AllByRecursion (IsAt moment) (answers_of front)
  pub row : InRow serves lasts old (front ++ back) new
  pub log : length old.core.history + 4 * length front ≤ old.core.limit
  pub table : 0 < old.core.table.limit
  pub cache : count < old.core.cache.capacity
  pub cuts : AreCuts records (front ++ back)
  pub written : (created_from start stream).written ++ more ≡ octets_of records ++ tail
  pub heard : stream ≡ flat_map (heard_in serves) (front ++ back) ++ rest

-- the exchange is honest, over these turns and no others; a book stands behind it in which the new
-- context alone lives, with the next id, until this moment or longer, and no call of it was made.
-- The session has an outcome of the credential's names.
pub record CreationRuns (serves : Server) (lasts : ℕ) (start : StartSays) (kind : MechKind)
    (count moment : ℕ)
    (stream more : List ℕ) (old new : BookOf) (front back : List Turn) (records : List Fragments)
    (tail rest : List ℕ) : Type 0 where
  pub exchange : HonestExchange old.setup serves start stream
  pub kind_is : exchange.kind ≡ kind
  pub answers : exchange.answers ≡ answers_of front
  pub books : exchange.books ≡ map around_of front
  pub left : exchange.converses.rest ≡ flat_map (heard_in serves) back ++ rest
  pub records_are : exchange.converses.records ≡ records_of front
  pub others : List Fragments
  pub cuts : AreCuts others back
  pub wrote : more ≡ octets_of others ++ tail
  pub middle : BookOf
  pub behind : IsBehind (answers_of front) (map around_of front) middle.core
  pub row : InRow serves lasts middle back new
  pub limits : SameLimits old middle
  pub enters : Enters (count + 1) moment kind (length front) old.core.history middle.core.history
  pub lasting : moment ≤ enters.lasts
  pub grown : length middle.core.history ≤ length old.core.history + 4 * length front
  pub holds : (later : ℕ) → moment < later → HoldsOne (count + 1) (count + 1) later middle.core
  pub unused : numbers (count + 1) middle.core.history ≡ []
  pub agreed : Outcome
  pub created : CreatesOn (created_from start stream) agreed
  pub named : IsNamed start.setup kind agreed

-- every creation in a row is an honest exchange
abbrev pub CreationLaw : Type 0
CreationLaw =
    (serves : Server) (lasts : ℕ) (start : StartSays) (kind : MechKind) (count moment : ℕ)
    (stream more : List ℕ) (old new : BookOf) (front back : List Turn) (records : List Fragments)
    (tail rest : List ℕ)
    → IsCreation serves lasts start kind count moment stream more old new front back records tail
    rest
    → CreationRuns serves lasts start kind count moment stream more old new front back records tail
    rest

-- ---- as many answers as tokens

-- an occasion at this moment for which nothing was drawn
abbrev pub idle : ℕ → Occasion
idle moment = record { now = moment; drawn = replicate 66 0 }

-- so many of these occasions, and idle ones where there are fewer
abbrev pub padded : ℕ → ℕ → List Occasion → List Occasion
padded moment zero occasions = []
padded moment (suc count) [] = idle moment ∷ padded moment count []
padded moment (suc count) (occasion ∷ occasions) = occasion ∷ padded moment count occasions
