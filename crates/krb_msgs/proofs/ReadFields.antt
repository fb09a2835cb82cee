-- Fields that were read one behind the other, past the first fault.
use Rattle.std.proofs.Common.{◌≡◌, ◌≢◌, ℕ, Option, Some, None, Result, Ok, Err, refl, sym, ap, subst, ◌∙◌}
use Rattle.der_core.specs.declared.refusal.DerRefusal.{DerRefusal}
use Rattle.der_core.specs.declared.refusal.DerWhy.TheVariants.{NoMemory}
use Rattle.der_core.specs.Format.{Input, Format, Content, MayRead, ◌>>=◌}
use Rattle.der_core.specs.Header.{end_at}
use Rattle.der_core.specs.Fields.{done, with_known, with_field, optional_at, with_optional_known, with_optional, seen}
use Rattle.krb_msgs.specs.declared.field_reader.FieldReader.{FieldReader}
use Rattle.krb_msgs.specs.FieldReading.{earlier, NotedSo, Noted, TakesOn, ReadsOn, ReadsOnMaybe, TakesAll, ReadsAll}

some_is : {A : Type 0} (x y : A) → Some x ≡ Some y → x ≡ y
some_is x y e = cc

-- an answer's value is taken, or its fault kept
taken_on : {A : Type 0} (read : Input → Result (A × Input) DerRefusal) (left : Input) (fault : Option DerRefusal) (was : FieldReader) (answer : Result A DerRefusal) (v : A) (new : FieldReader) → was.fault ≡ fault → MayRead (λ x. x) was.left answer (read left) → NotedSo answer was v new → TakesOn read left fault v new.left new.fault
taken_on read left (Some first) was (Ok x) v new same may noted = ap (λ (r : FieldReader). r.fault) noted.1 ∙ same
taken_on read left (Some first) was (Err d) v new same may noted = noted ∙ ap (λ (o : Option DerRefusal). earlier o d) same
taken_on read left None was (Ok x) v new same may noted = rw (noted.0, noted.1, same) may
taken_on read left None was (Err d) v new same may noted = rw (noted ∙ ap (λ (o : Option DerRefusal). earlier o d) same) may

pub reads_on : {A : Type 0} (f : Format A) (old was : FieldReader) (answer : Result A DerRefusal) (v : A) (new : FieldReader) → Noted answer was v new → MayRead (λ x. x) was.left answer (f.read old.left) → was.fault ≡ old.fault → ReadsOn f old v new
reads_on f old was answer v new came may same = record { takes = taken_on f.read old.left old.fault was answer v new same may came.noted }

pub reads_on_maybe : {A : Type 0} (tag : ℕ) (f : Format A) (old was : FieldReader) (answer : Result (Option A) DerRefusal) (v : Option A) (new : FieldReader) → Noted answer was v new → MayRead (λ x. x) was.left answer (optional_at tag f old.left) → was.fault ≡ old.fault → ReadsOnMaybe tag f old v new
reads_on_maybe tag f old was answer v new came may same = record { takes = taken_on (optional_at tag f) old.left old.fault was answer v new same may came.noted }

done_at : (left : Input) (fault : Option DerRefusal) (was : FieldReader) (answer : Result (Unit {0}) DerRefusal) (v : Unit {0}) (new : FieldReader) → was.fault ≡ fault → answer ≡ end_at left → NotedSo answer was v new → TakesAll end_at left fault v new.fault
done_at left (Some first) was (Ok x) v new same is noted = ap (λ (r : FieldReader). r.fault) noted.1 ∙ same
done_at left (Some first) was (Err d) v new same is noted = noted ∙ ap (λ (o : Option DerRefusal). earlier o d) same
done_at left None was (Ok x) v new same is noted = rw (noted.0, noted.1, same) (sym is)
done_at left None was (Err d) v new same is noted = rw (noted ∙ ap (λ (o : Option DerRefusal). earlier o d) same) (λ kept. sym is)

-- the end
pub reads_done : (old was : FieldReader) (answer : Result (Unit {0}) DerRefusal) (v : Unit {0}) (new : FieldReader) → Noted answer was v new → answer ≡ end_at old.left → was.fault ≡ old.fault → ReadsAll done old v new
reads_done old was answer v new came is same = record { takes = done_at old.left old.fault was answer v new same is came.noted }

-- a value, and what is behind it
abbrev both_of : {A B : Type 0} → (Input → Result (A × Input) DerRefusal) → (A → Content B) → Input → Result (A × B) DerRefusal
both_of read c i = do
  x ← read i
  others ← (c x.0).read x.1
  Ok (x.0, others)

taken_both : {A B : Type 0} (read : Input → Result (A × Input) DerRefusal) (c : A → Content B) (v : A) (w : B) (left rest : Input) (old mid new : Option DerRefusal) → TakesOn read left old v rest mid → TakesAll (c v).read rest mid w new → TakesAll (both_of read c) left old (v, w) new
taken_both read c v w left rest (Some f) None new first others = absurd cc
taken_both read c v w left rest (Some f) (Some g) new first others = others ∙ first
taken_both read c v w left rest None None None first others = rw (first, others) refl
taken_both read c v w left rest None None (Some f) first others = λ kept. rw (first, others kept) refl
taken_both read c v w left rest None (Some f) None first others = absurd cc
taken_both read c v w left rest None (Some f) (Some g) first others =
    subst (λ (d : DerRefusal). d.why ≢ NoMemory → both_of read c left ≡ Err d) (some_is f g (sym others)) (λ kept. rw (first kept) refl)

-- a field, and those behind it
pub reads_known : {A B : Type 0} (f : Format A) (c : A → Content B) (v : A) (w : B) (old mid new : FieldReader) → ReadsOn f old v mid → ReadsAll (c v) mid w new → ReadsAll (with_known f c) old (v, w) new
reads_known f c v w old mid new first others = record { takes = taken_both f.read c v w old.left mid.left old.fault mid.fault new.fault first.takes others.takes }

pub reads_field : {A B : Type 0} (f : Format A) (c : Content B) (v : A) (w : B) (old mid new : FieldReader) → ReadsOn f old v mid → ReadsAll c mid w new → ReadsAll (with_field f c) old (v, w) new
reads_field f c v w old mid new first others = reads_known f (λ x. c) v w old mid new first others

-- a field that may be left out, and those behind it
pub reads_optional_known : {A B : Type 0} (tag : ℕ) (f : Format A) (c : Option A → Content B) (v : Option A) (w : B) (old mid new : FieldReader) → ReadsOnMaybe tag f old v mid → ReadsAll (c v) mid w new → ReadsAll (with_optional_known tag f c) old (v, w) new
reads_optional_known tag f c v w old mid new first others = record { takes = taken_both (optional_at tag f) c v w old.left mid.left old.fault mid.fault new.fault first.takes others.takes }

pub reads_optional : {A B : Type 0} (tag : ℕ) (f : Format A) (c : Content B) (v : Option A) (w : B) (old mid new : FieldReader) → ReadsOnMaybe tag f old v mid → ReadsAll c mid w new → ReadsAll (with_optional tag f c) old (v, w) new
reads_optional tag f c v w old mid new first others = reads_optional_known tag f (λ x. c) v w old mid new first others

taken_seen : {A B : Type 0} (to : A → B) (from : B → A) (c : Content A) (v : A) (left : Input) (old new : Option DerRefusal) → TakesAll c.read left old v new → TakesAll (seen to from c).read left old (to v) new
taken_seen to from c v left (Some f) new all = all
taken_seen to from c v left None None all = rw all refl
taken_seen to from c v left None (Some f) all = λ kept. rw (all kept) refl

-- the same values under another shape
pub reads_seen : {A B : Type 0} (to : A → B) (from : B → A) (c : Content A) (v : A) (w : B) (old new : FieldReader) → ReadsAll c old v new → to v ≡ w → ReadsAll (seen to from c) old w new
reads_seen {B = B} to from c v w old new all same = subst (λ (x : B). ReadsAll (seen to from c) old x new) same (record { takes = taken_seen to from c v old.left old.fault new.fault all.takes })

all_taken : {A : Type 0} (read : Input → Result A DerRefusal) (left : Input) (v : A) (now : Option DerRefusal) → TakesAll read left None v now → now ≡ None → read left ≡ Ok v
all_taken read left v (Some f) all none = absurd cc
all_taken read left v None all none = all

all_refused : {A : Type 0} (read : Input → Result A DerRefusal) (left : Input) (v : A) (fault : DerRefusal) (now : Option DerRefusal) → TakesAll read left None v now → now ≡ Some fault → fault.why ≢ NoMemory → read left ≡ Err fault
all_refused read left v fault None all some = absurd cc
all_refused read left v fault (Some f) all some = subst (λ (d : DerRefusal). d.why ≢ NoMemory → read left ≡ Err d) (some_is f fault some) all

begun_so : {A : Type 0} (c : Content A) (left : Input) (old : FieldReader) (v : A) (new : FieldReader) → ReadsAll c old v new → old ≡ record { left = left; fault = None } → TakesAll c.read left None v new.fault
begun_so c left old v new all begun = subst (λ (o : FieldReader). TakesAll c.read o.left o.fault v new.fault) begun all.takes

-- without a fault all was read
pub is_read : {A : Type 0} (c : Content A) (left : Input) (old : FieldReader) (v : A) (new : FieldReader) → ReadsAll c old v new → old ≡ record { left = left; fault = None } → new.fault ≡ None → c.read left ≡ Ok v
is_read c left old v new all begun none = all_taken c.read left v new.fault (begun_so c left old v new all begun) none

-- the fault is that of the reading
pub is_refused : {A : Type 0} (c : Content A) (left : Input) (old : FieldReader) (v : A) (new : FieldReader) (fault : DerRefusal) → ReadsAll c old v new → old ≡ record { left = left; fault = None } → new.fault ≡ Some fault → fault.why ≢ NoMemory → c.read left ≡ Err fault
is_refused c left old v new fault all begun some = all_refused c.read left v fault new.fault (begun_so c left old v new all begun) some
