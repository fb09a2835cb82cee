-- Fields of a SEQUENCE that are read one behind the other, past the first fault, which is kept.
use Rattle.std.specs.Prelude.{◌≡◌, ◌≢◌, ℕ, Option, Some, None, Result, Ok, Err}
use Rattle.der_core.specs.declared.refusal.DerRefusal.{DerRefusal}
use Rattle.der_core.specs.declared.refusal.DerWhy.TheVariants.{NoMemory}
use Rattle.der_core.specs.Format.{Input, Format, Content}
use Rattle.der_core.specs.Fields.{optional_at}
use Rattle.krb_msgs.specs.declared.field_reader.FieldReader.{FieldReader}

-- the first of two faults, of which the earlier one may not be there
abbrev pub earlier : Option DerRefusal → DerRefusal → Option DerRefusal
earlier None fault = Some fault
earlier (Some first) fault = Some first

-- what comes of an answer: its value, or its fault, unless there was one before
abbrev pub NotedSo : {A : Type 0} → Result A DerRefusal → FieldReader → A → FieldReader → Type 0
NotedSo (Ok x) old v new = (v ≡ x) × (new ≡ old)
NotedSo (Err fault) old v new = new.fault ≡ earlier old.fault fault

-- an answer was noted
pub record Noted {A : Type 0} (answer : Result A DerRefusal) (old : FieldReader) (v : A)
    (new : FieldReader) : Type 0 where
  pub noted : NotedSo answer old v new

-- a value was taken from the front, unless there was a fault; want of memory is a fault of no cause
abbrev pub TakesOn : {A : Type 0} → (Input → Result (A × Input) DerRefusal) → Input
    → Option DerRefusal → A → Input → Option DerRefusal → Type 0
TakesOn read left (Some fault) v rest now = now ≡ Some fault
TakesOn read left None v rest None = read left ≡ Ok (v, rest)
TakesOn read left None v rest (Some fault) = fault.why ≢ NoMemory → read left ≡ Err fault

-- a field was read
pub record ReadsOn {A : Type 0} (format : Format A) (old : FieldReader) (v : A)
    (new : FieldReader) : Type 0 where
  pub takes : TakesOn format.read old.left old.fault v new.left new.fault

-- a field was read that may be left out
pub record ReadsOnMaybe {A : Type 0} (tag : ℕ) (format : Format A) (old : FieldReader)
    (v : Option A) (new : FieldReader) : Type 0 where
  pub takes : TakesOn (optional_at tag format) old.left old.fault v new.left new.fault

-- a value is all that was left, unless there was a fault; want of memory is a fault of no cause
abbrev pub TakesAll : {A : Type 0} → (Input → Result A DerRefusal) → Input → Option DerRefusal → A
    → Option DerRefusal → Type 0
TakesAll read left (Some fault) v now = now ≡ Some fault
TakesAll read left None v None = read left ≡ Ok v
TakesAll read left None v (Some fault) = fault.why ≢ NoMemory → read left ≡ Err fault

-- all the fields were read, and no more were left
pub record ReadsAll {A : Type 0} (content : Content A) (old : FieldReader) (v : A)
    (new : FieldReader) : Type 0 where
  pub takes : TakesAll content.read old.left old.fault v new.fault
