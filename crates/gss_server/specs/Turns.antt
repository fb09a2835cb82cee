-- What one turn of a connection did: it read a record and wrote its reply, or the connection ended.
use Rattle.std.specs.Prelude.{◌≡◌, ◌≢◌, ◌⊎◌, ℕ, Bool, true, List, [], ◌∷◌, take}
use Rattle.std.specs.Prelude.{Option, Some, None, Result, Ok, Err}
use Rattle.sec_base.specs.Link.{Wire, HasTaken, HasWritten, IsOver}
use Rattle.rpc_msgs.specs.Records.{Fragments, octets_in, frame, IsRecord, IsTooLong, IsTooMany}
use Rattle.rpc_msgs.specs.Records.{IsFront, IsTorn, IsWhole}
use Rattle.accept_book.specs.RecordShown.{Ruling, Asked}
use Rattle.rpc_program.specs.Programs.{Serving}
use Rattle.accept_book.specs.declared.book_answer.Admitted.{Admitted}
use Rattle.gss_server.specs.Answers.{GoesOn, IsLost, IsReply, may_want}
use Rattle.gss_server.specs.Connections.{Went, Behind, IsExact, ruling_for, written_for, asked_for}
use Rattle.gss_server.specs.declared.answer.Kept.{Kept}
use Rattle.gss_server.specs.declared.answer.Reply.{Reply}
use Rattle.gss_server.specs.declared.connection.ConnEnd.{ConnEnd}
use Rattle.gss_server.specs.declared.connection.ConnEnd.TheVariants.{Ended, LinkFault, TooLong}
use Rattle.gss_server.specs.declared.connection.ConnEnd.TheVariants.{TooManyFragments, Torn, Budget}
use Rattle.gss_server.specs.declared.connection.ConnEnd.TheVariants.{NoMemory, Lost}

-- a record was read, or the end of the connection came
abbrev pub Receives : Bool → Wire → Wire → Result (List ℕ) ConnEnd → Type 0
Receives told old new (Ok octets) = (cut : Fragments) × IsRecord cut × (octets ≡ octets_in cut)
    × HasTaken told old new (frame cut)
Receives told old new (Err Ended) = HasTaken told old new [] × IsOver told new
Receives told old new (Err LinkFault) =
    (octets : List ℕ) × IsFront octets × HasTaken told old new octets
Receives told old new (Err TooLong) =
    (octets : List ℕ) × IsTooLong octets × HasTaken told old new octets
Receives told old new (Err TooManyFragments) =
    (octets : List ℕ) × IsTooMany octets × HasTaken told old new octets
Receives told old new (Err Torn) =
    (octets : List ℕ) × IsTorn octets × HasTaken told old new octets × IsOver told new
Receives told old new (Err Budget) = ⊥
Receives told old new (Err Lost) = ⊥
Receives told old new (Err NoMemory) = (octets : List ℕ) × (IsFront octets ⊎ IsWhole octets)
    × HasTaken told old new octets

-- of what was due this was written: all of it, a front of it, or nothing
abbrev pub All : List ℕ → List ℕ → Type 0
All due wrote = wrote ≡ due

-- a front of what was due
abbrev pub InPart : List ℕ → List ℕ → Type 0
InPart due wrote = (count : ℕ) × (wrote ≡ take count due)

-- nothing of what was due
abbrev pub Nothing : List ℕ → List ℕ → Type 0
Nothing due wrote = wrote ≡ []

-- of what was due, so much was written
pub record Puts (told : Bool) (Much : List ℕ → List ℕ → Type 0) (old new : Wire) (due : List ℕ)
    : Type 0 where
  pub wrote : List ℕ
  pub much : Much due wrote
  pub put : HasWritten told old new wrote

-- what is due was written; a front of it at a fault, and nothing at want of memory
abbrev pub Responds : {T : Type 0} → Bool → Wire → Wire → List ℕ → Result T ConnEnd → Type 0
Responds told old new due (Ok _) = Puts told All old new due
Responds told old new due (Err Ended) = ⊥
Responds told old new due (Err LinkFault) = Puts told InPart old new due
Responds told old new due (Err TooLong) = ⊥
Responds told old new due (Err TooManyFragments) = ⊥
Responds told old new due (Err Torn) = ⊥
Responds told old new due (Err Budget) = ⊥
Responds told old new due (Err Lost) = Puts told All old new due
Responds told old new due (Err NoMemory) = Puts told Nothing old new due

-- the ruling of a record whose reply was written, of one behind which the connection ends, and of
-- one whose reply was not written for want of memory
abbrev pub Ruled : {T : Type 0} → Ruling → Result T ConnEnd → Type 0
Ruled ruling (Ok _) = GoesOn ruling
Ruled ruling (Err Ended) = ⊥
Ruled ruling (Err LinkFault) = GoesOn ruling
Ruled ruling (Err TooLong) = ⊥
Ruled ruling (Err TooManyFragments) = ⊥
Ruled ruling (Err Torn) = ⊥
Ruled ruling (Err Budget) = ⊥
Ruled ruling (Err Lost) = IsLost ruling
Ruled ruling (Err NoMemory) = may_want ruling ≡ true

-- memory may be wanted for the answer that the ruling gives
abbrev pub Wanted : Ruling → Type 0
Wanted ruling = may_want ruling ≡ true

-- one answer was kept for a record: its ruling is so, each part of it was asked of the gate, and
-- nothing else was
pub record Keeps (gained : List (Asked Admitted) → Type 0) (Is : Ruling → Type 0)
    (serves : Serving) (octets : List ℕ) (kept : List Kept) : Type 0 where
  pub one : Kept
  pub only : kept ≡ one ∷ []
  pub exact : IsExact serves octets one
  pub ruled : Is (ruling_for serves octets one)
  pub asked : gained (asked_for serves octets one)

-- a record was answered with this reply
abbrev pub AnswersBy : (List (Asked Admitted) → Type 0) → Serving → List ℕ → Reply → List Kept
    → Type 0
AnswersBy gained serves octets reply kept =
    Keeps gained (λ ruling. IsReply ruling reply) serves octets kept

-- a record was answered, and of its reply so much was written
pub record Replied (told : Bool) (gained : List (Asked Admitted) → Type 0) (Is : Ruling → Type 0)
    (Much : List ℕ → List ℕ → Type 0) (serves : Serving) (old new : Wire) (octets : List ℕ)
    (kept : List Kept) : Type 0 where
  pub keeps : Keeps gained Is serves octets kept
  pub wire : Puts told Much old new (written_for serves octets keeps.one)

-- nothing was kept, asked or written
pub record Forgets (told : Bool) (gained : List (Asked Admitted) → Type 0) (old new : Wire)
    (kept : List Kept) : Type 0 where
  pub none : kept ≡ []
  pub asked : gained []
  pub wire : HasWritten told old new []

-- a record was answered, or the connection ended while it was: at a fault with a front of the reply
-- written, at want of memory with nothing of it, and without a reply where what became of its call
-- isn't known
abbrev pub Replies : Bool → (List (Asked Admitted) → Type 0) → Serving → Wire → Wire → List ℕ
    → Option ConnEnd → List Kept → Type 0
Replies told gained serves old new octets None kept =
    Replied told gained GoesOn All serves old new octets kept
Replies told gained serves old new octets (Some Ended) kept = ⊥
Replies told gained serves old new octets (Some LinkFault) kept =
    Replied told gained GoesOn InPart serves old new octets kept
Replies told gained serves old new octets (Some TooLong) kept = ⊥
Replies told gained serves old new octets (Some TooManyFragments) kept = ⊥
Replies told gained serves old new octets (Some Torn) kept = ⊥
Replies told gained serves old new octets (Some Budget) kept = ⊥
Replies told gained serves old new octets (Some Lost) kept =
    Replied told gained IsLost All serves old new octets kept
Replies told gained serves old new octets (Some NoMemory) kept = Forgets told gained old new kept
    ⊎ Replied told gained Wanted Nothing serves old new octets kept

-- this record was read, and of what is due so much was written
pub record Exchanges (told : Bool) (Much : List ℕ → List ℕ → Type 0) (old new : Wire)
    (cut : Fragments) (due : List ℕ) : Type 0 where
  pub is_record : IsRecord cut
  pub wrote : List ℕ
  pub much : Much due wrote
  pub went : Went told old new (frame cut) wrote

-- a record was read and answered, and of its reply so much was written
pub record Serves (told : Bool) (gained : List (Asked Admitted) → Type 0) (Is : Ruling → Type 0)
    (Much : List ℕ → List ℕ → Type 0) (serves : Serving) (old new : Wire) (kept : List Kept) : Type
    0 where
  pub cut : Fragments
  pub keeps : Keeps gained Is serves (octets_in cut) kept
  pub wire : Exchanges told Much old new cut (written_for serves (octets_in cut) keeps.one)

-- octets were read behind which the connection has this end
pub record ReadsTo (told : Bool) (old new : Wire) (ending : ConnEnd) : Type 0 where
  pub octets : List ℕ
  pub behind : Behind ending octets (IsOver told new)
  pub went : Went told old new octets []

-- no record was read and answered, and nothing was kept, asked or written
pub record Stops (told : Bool) (gained : List (Asked Admitted) → Type 0) (old new : Wire)
    (ending : ConnEnd)
    (kept : List Kept) : Type 0 where
  pub none : kept ≡ []
  pub early : ending ≢ Budget
  pub known : ending ≢ Lost
  pub asked : gained []
  pub wire : ReadsTo told old new ending

-- the connection ended while a record was answered
abbrev pub Breaks : Bool → (List (Asked Admitted) → Type 0) → Serving → Wire → Wire → ConnEnd
    → List Kept → Type 0
Breaks told gained serves old new Ended kept = ⊥
Breaks told gained serves old new LinkFault kept =
    Serves told gained GoesOn InPart serves old new kept
Breaks told gained serves old new TooLong kept = ⊥
Breaks told gained serves old new TooManyFragments kept = ⊥
Breaks told gained serves old new Torn kept = ⊥
Breaks told gained serves old new Budget kept = ⊥
Breaks told gained serves old new Lost kept = Serves told gained IsLost All serves old new kept
Breaks told gained serves old new NoMemory kept =
    Serves told gained Wanted Nothing serves old new kept

-- what a turn did: a record was read and answered, or the connection ended before or while it was
abbrev pub Turns : Bool → (List (Asked Admitted) → Type 0) → Serving → Wire → Wire
    → Option ConnEnd → List Kept → Type 0
Turns told gained serves old new None kept = Serves told gained GoesOn All serves old new kept
Turns told gained serves old new (Some ending) kept =
    Stops told gained old new ending kept ⊎ Breaks told gained serves old new ending kept
