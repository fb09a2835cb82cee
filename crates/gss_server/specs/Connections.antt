-- What a served connection did.
use Rattle.std.specs.Prelude.{◌≡◌, ◌⊎◌, ℕ, ◌<◌, ◌≤◌, Bool, true, List, [], ◌∷◌, ◌++◌, length, take}
use Rattle.std.specs.Prelude.{IsTrue, Option, Some, None}
use Rattle.std.specs.List.{AllByRecursion, flat_map}
use Rattle.sec_base.specs.Link.{Wire, IsOver}
use Rattle.rpc_msgs.specs.Records.{Fragments, octets_in, frame, last_fragment, IsRecord, IsTooLong}
use Rattle.rpc_msgs.specs.Records.{IsTooMany, IsFront, IsTorn, IsWhole}
use Rattle.accept_book.specs.RecordRule.{record_ruling}
use Rattle.accept_book.specs.RecordShown.{Ruling, Asked}
use Rattle.rpc_program.specs.Programs.{Serving}
use Rattle.accept_book.specs.declared.book_answer.Admitted.{Admitted}
use Rattle.gss_server.specs.Answers.{GoesOn, IsLost, may_want}
use Rattle.gss_server.specs.Hearing.{kept_answers, count_of}
use Rattle.gss_server.specs.declared.answer.Kept.{Kept}
use Rattle.gss_server.specs.declared.connection.ConnEnd.{ConnEnd}
use Rattle.gss_server.specs.declared.connection.ConnEnd.TheVariants.{Ended, LinkFault, TooLong}
use Rattle.gss_server.specs.declared.connection.ConnEnd.TheVariants.{TooManyFragments, Torn, Budget}
use Rattle.gss_server.specs.declared.connection.ConnEnd.TheVariants.{NoMemory, Lost}

-- the octets of records as they stand in a stream
abbrev pub octets_of : List Fragments → List ℕ
octets_of records = flat_map frame records

-- what is written for a record: its reply as one record, or nothing
abbrev pub framed : Option (List ℕ) → List ℕ
framed None = []
framed (Some octets) = last_fragment octets

-- the ruling of a record, by its kept answer, what is served and the width of the windows
abbrev pub ruling_for : Serving → List ℕ → Kept → Ruling
ruling_for serves octets kept = record_ruling octets (kept_answers kept) serves

-- what is written for a record, by its kept answer
abbrev pub written_for : Serving → List ℕ → Kept → List ℕ
written_for serves octets kept = framed (ruling_for serves octets kept).reply

-- what the gate is asked for a record
abbrev pub asked_for : Serving → List ℕ → Kept → List (Asked Admitted)
asked_for serves octets kept = (ruling_for serves octets kept).asked

-- of records with their kept answers, in order
abbrev pub in_order : {A : Type 0} → (List ℕ → Kept → List A) → List Fragments → List Kept → List A
in_order each [] kept = []
in_order each (cut ∷ records) [] = []
in_order each (cut ∷ records) (one ∷ kept) = each (octets_in cut) one ++ in_order each records kept

-- what is written for records, in order
abbrev pub written_in : Serving → List Fragments → List Kept → List ℕ
written_in serves records kept = in_order (written_for serves) records kept

-- what the gate is asked for records, in order
abbrev pub asked_in : Serving → List Fragments → List Kept → List (Asked Admitted)
asked_in serves records kept = in_order (asked_for serves) records kept

-- `took` was taken and `wrote` was written; where the link tells its octets, `took` is the front of
-- what was there or came meanwhile
pub record Went (told : Bool) (old new : Wire) (took wrote : List ℕ) : Type 0 where
  pub taken : new.taken ≡ old.taken ++ took
  pub coming : IsTrue told → (more : List ℕ) × (old.coming ++ more ≡ took ++ new.coming)
  pub written : new.written ≡ old.written ++ wrote

-- what was taken behind the whole records at this end, where `Over` says that nothing was still to
-- come; at a fault and at want of memory that is no whole record, or one for whose answer there was
-- no room
abbrev pub Behind : ConnEnd → List ℕ → Type 0 → Type 0
Behind Ended rest Over = (rest ≡ []) × Over
Behind LinkFault rest Over = IsFront rest
Behind TooLong rest Over = IsTooLong rest
Behind TooManyFragments rest Over = IsTooMany rest
Behind Torn rest Over = IsTorn rest × Over
Behind Budget rest Over = rest ≡ []
Behind Lost rest Over = rest ≡ []
Behind NoMemory rest Over = IsFront rest ⊎ IsWhole rest

-- how many records there may have been at this end
abbrev pub Counts : ConnEnd → ℕ → Type 0
Counts Ended count = count < 65536
Counts LinkFault count = count ≤ 65536
Counts TooLong count = count < 65536
Counts TooManyFragments count = count < 65536
Counts Torn count = count < 65536
Counts Budget count = count ≡ 65536
Counts Lost count = count ≤ 65536
Counts NoMemory count = count ≤ 65536

-- of records with their kept answers, in order
abbrev pub AllInOrder : (List ℕ → Kept → Type 0) → List Fragments → List Kept → Type 0
AllInOrder Each [] kept = Unit {0}
AllInOrder Each (cut ∷ records) [] = Unit {0}
AllInOrder Each (cut ∷ records) (one ∷ kept) =
    Each (octets_in cut) one × AllInOrder Each records kept

-- each answer that was kept for a record was asked of the gate, and none is missing; 82 octets were
-- drawn for it
abbrev pub IsExact : Serving → List ℕ → Kept → Type 0
IsExact serves octets kept = (length (asked_for serves octets kept)
    ≡ count_of kept.negotiated kept.looked kept.admitted kept.ended) × (length kept.draws ≡ 82)

-- of each record
abbrev pub AllExact : Serving → List Fragments → List Kept → Type 0
AllExact serves records kept = AllInOrder (IsExact serves) records kept

-- each record is decided by its kept answer, by a rule by which the connection goes on
abbrev pub AllDecided : Serving → List Fragments → List Kept → Type 0
AllDecided serves records kept =
    AllInOrder (λ octets one. GoesOn (ruling_for serves octets one)) records kept

-- each but the last, whose ruling is so
pub record LastIs (Is : Ruling → Type 0) (serves : Serving) (records : List Fragments)
    (kept : List Kept) : Type 0 where
  pub earlier : List Fragments
  pub last : Fragments
  pub before : List Kept
  pub one : Kept
  pub cut : records ≡ earlier ++ last ∷ []
  pub keeps : kept ≡ before ++ one ∷ []
  pub decided : AllDecided serves earlier before
  pub ruled : Is (ruling_for serves (octets_in last) one)

-- each but the last, for whose answer memory was wanted
abbrev pub LastWanted : Serving → List Fragments → List Kept → Type 0
LastWanted serves records kept = LastIs (λ ruling. may_want ruling ≡ true) serves records kept

-- each but the last, of whose call it isn't known what became of it
abbrev pub LastLost : Serving → List Fragments → List Kept → Type 0
LastLost serves records kept = LastIs IsLost serves records kept

-- a rule decided each record by which the connection goes on; of the last, memory may have been
-- wanted for its answer, or what became of its call isn't known, where the connection ends so
abbrev pub IsAnswered : ConnEnd → Serving → List Fragments → List Kept → Type 0
IsAnswered Ended serves records kept = AllDecided serves records kept
IsAnswered LinkFault serves records kept = AllDecided serves records kept
IsAnswered TooLong serves records kept = AllDecided serves records kept
IsAnswered TooManyFragments serves records kept = AllDecided serves records kept
IsAnswered Torn serves records kept = AllDecided serves records kept
IsAnswered Budget serves records kept = AllDecided serves records kept
IsAnswered Lost serves records kept = LastLost serves records kept
IsAnswered NoMemory serves records kept =
    AllDecided serves records kept ⊎ LastWanted serves records kept

-- all replies were written, at a fault a front of them; the record for whose answer memory was
-- wanted has no part of one
abbrev pub IsWritten : ConnEnd → Serving → List Fragments → List Kept → List ℕ → Type 0
IsWritten Ended serves records kept wrote = wrote ≡ written_in serves records kept
IsWritten LinkFault serves records kept wrote =
    (count : ℕ) × (wrote ≡ take count (written_in serves records kept))
IsWritten TooLong serves records kept wrote = wrote ≡ written_in serves records kept
IsWritten TooManyFragments serves records kept wrote = wrote ≡ written_in serves records kept
IsWritten Torn serves records kept wrote = wrote ≡ written_in serves records kept
IsWritten Budget serves records kept wrote = wrote ≡ written_in serves records kept
IsWritten Lost serves records kept wrote = wrote ≡ written_in serves records kept
IsWritten NoMemory serves records kept wrote =
    (AllDecided serves records kept × (wrote ≡ written_in serves records kept))
    ⊎ ((last : LastWanted serves records kept)
    × (wrote ≡ written_in serves last.earlier last.before))

-- these records and a rest were taken, however they were cut into reads, the end has its cause, and
-- the replies were written; where the link tells its octets, they were those of the stream
pub record OnWire (told : Bool) (serves : Serving) (old new : Wire) (records : List Fragments)
    (kept : List Kept) (ending : ConnEnd) : Type 0 where
  pub rest : List ℕ
  pub wrote : List ℕ
  pub each : AllByRecursion IsRecord records
  pub went : Went told old new (octets_of records ++ rest) wrote
  pub behind : Behind ending rest (IsOver told new)
  pub replies : IsWritten ending serves records kept wrote

-- each record that was read has a kept answer, `gained` says what the gate was asked for them, each
-- kept answer was asked for, and rules decided; the records are those of the octets that were taken
-- of the link
pub record IsServed (told : Bool) (gained : List (Asked Admitted) → Type 0) (serves : Serving)
    (old new : Wire) (ending : ConnEnd) (kept : List Kept) : Type 0 where
  pub records : List Fragments
  pub counted : length records ≡ length kept
  pub counts : Counts ending (length records)
  pub exact : AllExact serves records kept
  pub answered : IsAnswered ending serves records kept
  pub asked : gained (asked_in serves records kept)
  pub wire : OnWire told serves old new records kept ending

-- the end that a stream has, by what follows its whole records and how many they are
abbrev pub Ends : ConnEnd → List ℕ → ℕ → Type 0
Ends Ended rest count = (rest ≡ []) × (count < 65536)
Ends LinkFault rest count = ⊥
Ends TooLong rest count = (front more : List ℕ) × IsTooLong front × (rest ≡ front ++ more)
    × (count < 65536)
Ends TooManyFragments rest count = (front more : List ℕ) × IsTooMany front × (rest ≡ front ++ more)
    × (count < 65536)
Ends Torn rest count = IsTorn rest × (count < 65536)
Ends Budget rest count = count ≡ 65536
Ends Lost rest count = ⊥
Ends NoMemory rest count = ⊥

-- the stream, which is what was taken since and what is still to come, has this end
pub record StreamEnds (old new : Wire) (ending : ConnEnd) : Type 0 where
  pub took : List ℕ
  pub records : List Fragments
  pub rest : List ℕ
  pub taken : new.taken ≡ old.taken ++ took
  pub stream : took ++ new.coming ≡ octets_of records ++ rest
  pub each : AllByRecursion IsRecord records
  pub ends : Ends ending rest (length records)
