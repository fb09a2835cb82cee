-- A part of a client's talk whose octets to come are the replies of the rule of a record to what it
-- writes, record by record.
use Rattle.std.specs.Prelude.{◌≡◌, ◌≤◌, ℕ, List, [], ◌∷◌, ◌++◌, length}
use Rattle.std.specs.List.{AllByRecursion, flat_map}
use Rattle.sec_base.specs.Link.{Wire}
use Rattle.rpc_msgs.specs.Records.{last_fragment}
use Rattle.accept_book.specs.RecordShown.{KeptAnswers}
use Rattle.accept_book.specs.RecordRule.{record_ruling}
use Rattle.gss_client.specs.Talking.{Talking}
use Rattle.gss_server.specs.Connections.{framed}
use Rattle.pair_laws.specs.Answering.{Server}

-- the replies to records, each by what was kept of its answer
abbrev pub replied : Server → List (List ℕ) → List KeptAnswers → List ℕ
replied serves [] kept = []
replied serves (octets ∷ records) [] = []
replied serves (octets ∷ records) (one ∷ kept) =
    framed (record_ruling octets one serves.serving).reply ++ replied serves records kept

-- a record within its limit (RFC 5531 section 11 leaves the limit to the receiver)
abbrev pub IsWithin : List ℕ → Type 0
IsWithin octets = length octets ≤ 131072

-- the part writes these records, and hears the replies to them, behind which other octets may stand
pub record Converses {A : Type 0} (serves : Server) (part : Talking A) (stream : List ℕ)
    : Type 0 where
  pub records : List (List ℕ)
  pub kept : List KeptAnswers
  pub rest : List ℕ
  pub within : AllByRecursion IsWithin records
  pub written : (part stream).written ≡ flat_map last_fragment records
  pub counted : length kept ≡ length records
  pub heard : stream ≡ replied serves records kept ++ rest

-- the octets that a call over a link had to come: those that were taken since its start, and those
-- that are still to come
pub record IsStream (old new : Wire) (stream : List ℕ) : Type 0 where
  pub took : List ℕ
  pub taken : new.taken ≡ old.taken ++ took
  pub whole : stream ≡ took ++ new.coming
