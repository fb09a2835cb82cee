-- What a link that answers in one thread heard and said.
use Rattle.std.specs.Prelude.{◌≡◌, ◌⊎◌, ℕ, ◌+◌, Bool, true, false, List, [], ◌∷◌, ◌++◌, length}
use Rattle.std.specs.Prelude.{take, IsTrue}
use Rattle.std.specs.List.{AllByRecursion, flat_map}
use Rattle.sec_base.specs.Link.{Wire}
use Rattle.rpc_msgs.specs.Records.{Fragments, octets_in, frame, IsRecord, IsFront, IsTooLong}
use Rattle.rpc_msgs.specs.Records.{IsTooMany}
use Rattle.accept_book.specs.RecordShown.{Ruling, Asked}
use Rattle.rpc_program.specs.Programs.{Serving}
use Rattle.accept_book.specs.declared.book_answer.Admitted.{Admitted}
use Rattle.gss_server.specs.Answers.{GoesOn, IsLost, may_want}
use Rattle.gss_server.specs.Asking.{Asking}
use Rattle.gss_server.specs.Connections.{framed, octets_of, ruling_for, written_for, written_in}
use Rattle.gss_server.specs.Connections.{asked_for, asked_in, AllDecided, AllExact, IsExact}
use Rattle.gss_server.specs.declared.answer.Kept.{Kept}
use Rattle.gate_models.specs.declared.looping.Next.{Next}
use Rattle.gate_models.specs.declared.looping.Next.TheVariants as nexts
use Rattle.gate_models.specs.declared.looping.Turned.{Turned}
use Rattle.gate_models.specs.declared.looping.Turned.TheVariants.{Answered, Rests, Starved}

-- octets that begin no record: it is too long, or has a 65th fragment
pub record IsUnfit (octets : List ℕ) : Type 0 where
  pub front : List ℕ
  pub more : List ℕ
  pub unfit : IsTooLong front ⊎ IsTooMany front
  pub begins : octets ≡ front ++ more

-- the record at which answering ends: memory was wanted for its answer, or what became of its call
-- isn't known
abbrev pub IsLast : Ruling → Type 0
IsLast ruling = (may_want ruling ≡ true) ⊎ IsLost ruling

-- the record at which answering ended, after the gate was asked
pub record IsWanted (gained : List (Asked Admitted) → Type 0) (serves : Serving) (rest : List ℕ)
    (last : List Kept) : Type 0 where
  pub cut : Fragments
  pub one : Kept
  pub more : List ℕ
  pub is_record : IsRecord cut
  pub begins : rest ≡ frame cut ++ more
  pub kept : last ≡ one ∷ []
  pub exact : IsExact serves (octets_in cut) one
  pub wanted : IsLast (ruling_for serves (octets_in cut) one)
  pub asked : gained (asked_for serves (octets_in cut) one)

-- what stands behind the records that were answered: a front of the next one, or what begins none;
-- where answering ended anything, and then the answer at which it did may have been kept.
-- `gained` says what the gate was asked: what it was for the records, and for that answer then
abbrev pub Rest : (List (Asked Admitted) → Type 0) → Serving → Bool → List (Asked Admitted)
    → List ℕ → List Kept → Type 0
Rest gained serves false asked rest last = gained asked × (last ≡ []) ×
    (IsFront rest ⊎ IsUnfit rest)
Rest gained serves true asked rest last =
    (gained asked × (last ≡ [])) ⊎ IsWanted (λ more. gained (asked ++ more)) serves rest last

-- each of these answers was given at this moment
abbrev pub AllAt : ℕ → List Kept → Type 0
AllAt moment kept = AllByRecursion (λ one. one.now ≡ moment) kept

-- what was heard are whole records, cut into fragments somehow, and a rest; what was said are the
-- replies to the records, in order, each by the answer that was kept of it, which a rule decides
-- and each part of which was asked of the gate; all were answered at one moment
pub record LoopedTo (rests : List (Asked Admitted) → List ℕ → List Kept → Type 0)
    (serves : Serving) (moment : ℕ)
    (heard said : List ℕ) (kept : List Kept) (cut : ℕ) : Type 0 where
  pub records : List Fragments
  pub rest : List ℕ
  pub answers : List Kept
  pub last : List Kept
  pub each : AllByRecursion IsRecord records
  pub spelled : heard ≡ octets_of records ++ rest
  pub place : cut ≡ length (octets_of records)
  pub counted : length records ≡ length answers
  pub exact : AllExact serves records answers
  pub decided : AllDecided serves records answers
  pub keeps : kept ≡ answers ++ last
  pub timed : AllAt moment kept
  pub replies : said ≡ written_in serves records answers
  pub stands : rests (asked_in serves records answers) rest last

-- the same with a rest that was judged; `starved` says whether answering ended
abbrev pub Looped : (List (Asked Admitted) → Type 0) → Serving → ℕ → List ℕ → List ℕ → List Kept
    → ℕ → Bool → Type 0
Looped gained serves moment heard said kept cut starved =
    LoopedTo (Rest gained serves starved) serves moment heard said kept cut

-- a link's octets: what was written to it is what was heard, and what was taken and what is to come
-- is what was said
abbrev pub Loops : (List (Asked Admitted) → Type 0) → Serving → ℕ → Wire → List Kept → Bool
    → Type 0
Loops gained serves moment wire kept starved =
    (cut : ℕ)
    × Looped gained serves moment wire.written (wire.taken ++ wire.coming) kept cut starved

-- a gate that began so was asked these, in order, each answer one that it may give after those
-- before, and is in this state now
abbrev pub Since : {S : Type 0} → (S → Type 0) → (S → Asked Admitted → S → Type 0) → S
    → List (Asked Admitted) → Type 0
Since {S} begins Answers now asked = (first : S) × begins first × Asking Answers first asked now

-- the octets that were drawn for these answers, in their order
abbrev pub drawn_in : List Kept → List ℕ
drawn_in kept = flat_map (λ one. one.draws) kept

-- what a draw gave, where it tells that: these octets before, and then those of the answers
abbrev pub GaveTo : Bool → List ℕ → List ℕ → List Kept → Type 0
GaveTo tells given before kept = IsTrue tells → given ≡ before ++ drawn_in kept

-- ---- parts of a write

-- what stands at the front of octets, and how many octets a whole record has there
abbrev pub size_of : Next → ℕ
size_of (nexts.Record octets size) = size
size_of nexts.Front = 0
size_of nexts.Unfit = 0
size_of nexts.NoMemory = 0

-- a whole record stands at the front of octets: what it holds, and its size in the stream
pub record IsWholeAt (octets found : List ℕ) (size : ℕ) : Type 0 where
  pub cut : Fragments
  pub more : List ℕ
  pub is_record : IsRecord cut
  pub heard : found ≡ octets_in cut
  pub long : size ≡ length (frame cut)
  pub begins : octets ≡ frame cut ++ more

-- what was found at the front of octets is what stands there
abbrev pub IsNext : List ℕ → Next → Type 0
IsNext octets (nexts.Record found size) = IsWholeAt octets found size
IsNext octets nexts.Front = IsFront octets
IsNext octets nexts.Unfit = IsUnfit octets
IsNext octets nexts.NoMemory = Unit {0}

-- a reply was said, or answering ended
abbrev pub IsSaid : Ruling → List ℕ → List ℕ → Turned → Type 0
IsSaid ruling said said' Answered = GoesOn ruling × (said' ≡ said ++ framed ruling.reply)
IsSaid ruling said said' Rests = ⊥
IsSaid ruling said said' Starved = (said' ≡ said) × IsLast ruling

-- a record was answered, and its answer kept
pub record Answering (gained : List (Asked Admitted) → Type 0) (serves : Serving) (moment : ℕ)
    (octets : List ℕ) (size : ℕ)
    (kept kept' : List Kept) (said said' : List ℕ) (cut cut' : ℕ) : Type 0 where
  pub one : Kept
  pub keeps : kept' ≡ kept ++ one ∷ []
  pub exact : IsExact serves octets one
  pub timed : one.now ≡ moment
  pub decided : GoesOn (ruling_for serves octets one)
  pub replied : said' ≡ said ++ written_for serves octets one
  pub place : cut' ≡ cut + size
  pub asked : gained (asked_for serves octets one)

-- an answer was kept, and answering ended at it
pub record KeptOnly (gained : List (Asked Admitted) → Type 0) (serves : Serving) (moment : ℕ)
    (octets : List ℕ)
    (kept kept' : List Kept) : Type 0 where
  pub one : Kept
  pub keeps : kept' ≡ kept ++ one ∷ []
  pub exact : IsExact serves octets one
  pub timed : one.now ≡ moment
  pub wanted : IsLast (ruling_for serves octets one)
  pub asked : gained (asked_for serves octets one)

-- a record was answered, or answering ended, nothing was said, and its answer may have been kept
abbrev pub IsAnsweredBy : (List (Asked Admitted) → Type 0) → Serving → ℕ → List ℕ → ℕ → List Kept
    → List Kept
    → List ℕ → List ℕ → ℕ → ℕ → Turned → Type 0
IsAnsweredBy gained serves moment octets size kept kept' said said' cut cut' Answered =
    Answering gained serves moment octets size kept kept' said said' cut cut'
IsAnsweredBy gained serves moment octets size kept kept' said said' cut cut' Rests = ⊥
IsAnsweredBy gained serves moment octets size kept kept' said said' cut cut' Starved =
    (said' ≡ said) × (cut' ≡ cut)
    × ((gained [] × (kept' ≡ kept)) ⊎ KeptOnly gained serves moment octets kept kept')

-- a rest that wasn't judged yet
abbrev pub Unjudged : (List (Asked Admitted) → Type 0) → List
    (Asked Admitted) → List ℕ → List Kept → Type 0
Unjudged gained asked rest last = gained asked × (last ≡ [])

-- what was heard and said after a turn, by how the turn ended
abbrev pub IsTurned : (List (Asked Admitted) → Type 0) → Serving → ℕ → List ℕ → List ℕ → List Kept
    → ℕ → Turned → Type 0
IsTurned gained serves moment heard said kept cut Answered =
    LoopedTo (Unjudged gained) serves moment heard said kept cut
IsTurned gained serves moment heard said kept cut Rests =
    Looped gained serves moment heard said kept cut false
IsTurned gained serves moment heard said kept cut Starved =
    Looped gained serves moment heard said kept cut true

-- all of these octets were heard, or at want of memory a front of them
abbrev pub HeardMore : List ℕ → List ℕ → List ℕ → Bool → Type 0
HeardMore octets heard heard' true = heard' ≡ heard ++ octets
HeardMore octets heard heard' false = (count : ℕ) × (heard' ≡ heard ++ take count octets)
