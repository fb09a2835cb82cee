-- A connection before its end.
use Rattle.std.specs.Prelude.{◌≡◌, ℕ, Bool, List, length}
use Rattle.std.specs.List.{AllByRecursion}
use Rattle.sec_base.specs.Link.{Wire}
use Rattle.rpc_msgs.specs.Records.{Fragments, IsRecord}
use Rattle.accept_book.specs.RecordShown.{Asked}
use Rattle.rpc_program.specs.Programs.{Serving}
use Rattle.accept_book.specs.declared.book_answer.Admitted.{Admitted}
use Rattle.gss_server.specs.Connections.{Went, octets_of, written_in, asked_in, AllDecided}
use Rattle.gss_server.specs.Connections.{AllExact}
use Rattle.gss_server.specs.declared.answer.Kept.{Kept}

-- these records were read, and all that is due to them was written
pub record WentOn (told : Bool) (serves : Serving) (old new : Wire) (records : List Fragments)
    (kept : List Kept) : Type 0 where
  pub each : AllByRecursion IsRecord records
  pub went : Went told old new (octets_of records) (written_in serves records kept)

-- so many records were read, each was decided by a rule by which the connection goes on, and the
-- gate was asked what is due
pub record Underway (told : Bool) (gained : List (Asked Admitted) → Type 0) (serves : Serving)
    (old new : Wire) (number : ℕ) (kept : List Kept) : Type 0 where
  pub records : List Fragments
  pub count : length records ≡ number
  pub counted : length records ≡ length kept
  pub exact : AllExact serves records kept
  pub answered : AllDecided serves records kept
  pub asked : gained (asked_in serves records kept)
  pub wire : WentOn told serves old new records kept
