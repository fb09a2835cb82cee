-- Fields of a SEQUENCE that are written one behind the other, past want of memory, which is noted.
use Rattle.std.specs.Prelude.{◌≡◌, true, false, Option, Result, Ok, Err}
use Rattle.der_core.specs.Format.{Format, Content, Puts, PutsAll}
use Rattle.der_core.specs.Fields.{PutsMaybe}
use Rattle.krb_msgs.specs.declared.field_writer.FieldWriter.{FieldWriter}

-- what comes of an answer: nothing, or that memory wanted
abbrev pub NotedSo : {E : Type 0} → Result (Unit {0}) E → FieldWriter → FieldWriter → Type 0
NotedSo (Ok x) old new = new ≡ old
NotedSo (Err e) old new = new.is_whole ≡ false

-- an answer was noted
pub record PutNoted {E : Type 0} (answer : Result (Unit {0}) E) (old new : FieldWriter) : Type 0
  where
    pub noted : NotedSo answer old new

-- a field was added, if memory didn't want
pub record PutsOn {A : Type 0} (format : Format A) (v : A) (old new : FieldWriter) : Type 0 where
  pub puts : new.is_whole ≡ true → (old.is_whole ≡ true) × Puts format v old.out new.out

-- a field that may be left out was added, if memory didn't want
pub record PutsOnMaybe {A : Type 0} (format : Format A) (v : Option A)
    (old new : FieldWriter) : Type 0 where
  pub puts : new.is_whole ≡ true → (old.is_whole ≡ true) × PutsMaybe format v old.out new.out

-- all the fields were added, if memory didn't want
pub record PutsOnAll {A : Type 0} (content : Content A) (v : A) (old new : FieldWriter) : Type 0
  where
    pub puts : new.is_whole ≡ true → (old.is_whole ≡ true) × PutsAll content v old.out new.out
