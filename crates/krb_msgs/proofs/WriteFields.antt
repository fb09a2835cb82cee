-- Fields that were written one behind the other, past want of memory.
use Rattle.std.proofs.Common.{◌≡◌, ℕ, true, Option, Result, Ok, Err, OnOk, sym, ap, subst, ◌∙◌}
use Rattle.der_core.specs.Format.{Format, Content, Puts}
use Rattle.der_core.specs.Fields.{done, with_known, with_field, with_optional_known, with_optional, PutsMaybe}
use Rattle.der_core.proofs.PutFields.{puts_done, puts_known, puts_optional_known}
use Rattle.krb_msgs.specs.declared.field_writer.FieldWriter.{FieldWriter}
use Rattle.krb_msgs.specs.FieldWriting.{NotedSo, PutNoted, PutsOn, PutsOnMaybe, PutsOnAll}

-- what an answer says holds of what was written, if it is whole
on_whole : {E : Type 0} (P : FieldWriter → Type 0) (old was new : FieldWriter) (answer : Result (Unit {0}) E) → NotedSo answer was new → OnOk answer (P was) → was.is_whole ≡ old.is_whole → new.is_whole ≡ true → (old.is_whole ≡ true) × P new
on_whole P old was new (Ok x) noted puts same whole = (sym same ∙ ap (λ (w : FieldWriter). w.is_whole) (sym noted) ∙ whole, subst P (sym noted) puts)
on_whole P old was new (Err e) noted puts same whole = absurd cc

pub puts_on : {A E : Type 0} (f : Format A) (v : A) (old was new : FieldWriter) (answer : Result (Unit {0}) E) → PutNoted answer was new → OnOk answer (Puts f v old.out was.out) → was.is_whole ≡ old.is_whole → PutsOn f v old new
puts_on f v old was new answer came puts same = record { puts = on_whole (λ (w : FieldWriter). Puts f v old.out w.out) old was new answer came.noted puts same }

pub puts_on_maybe : {A E : Type 0} (f : Format A) (v : Option A) (old was new : FieldWriter) (answer : Result (Unit {0}) E) → PutNoted answer was new → OnOk answer (PutsMaybe f v old.out was.out) → was.is_whole ≡ old.is_whole → PutsOnMaybe f v old new
puts_on_maybe f v old was new answer came puts same = record { puts = on_whole (λ (w : FieldWriter). PutsMaybe f v old.out w.out) old was new answer came.noted puts same }

-- no field
pub wrote_done : (fields : FieldWriter) → PutsOnAll done tt fields fields
wrote_done fields = record { puts = λ whole. (whole, puts_done fields.out) }

-- a field, and those behind it
pub wrote_known : {A B : Type 0} (f : Format A) (c : A → Content B) (v : A) (w : B) (old mid new : FieldWriter) → PutsOn f v old mid → PutsOnAll (c v) w mid new → PutsOnAll (with_known f c) (v, w) old new
wrote_known f c v w old mid new first others = record {
  puts = λ whole.
      let behind = others.puts whole in
      let before = first.puts behind.0 in
      (before.0, puts_known f c v w old.out mid.out new.out before.1 behind.1);
}

pub wrote_field : {A B : Type 0} (f : Format A) (c : Content B) (v : A) (w : B) (old mid new : FieldWriter) → PutsOn f v old mid → PutsOnAll c w mid new → PutsOnAll (with_field f c) (v, w) old new
wrote_field f c v w old mid new first others = wrote_known f (λ x. c) v w old mid new first others

-- a field that may be left out, and those behind it
pub wrote_optional_known : {A B : Type 0} (tag : ℕ) (f : Format A) (c : Option A → Content B) (v : Option A) (w : B) (old mid new : FieldWriter) → PutsOnMaybe f v old mid → PutsOnAll (c v) w mid new → PutsOnAll (with_optional_known tag f c) (v, w) old new
wrote_optional_known tag f c v w old mid new first others = record {
  puts = λ whole.
      let behind = others.puts whole in
      let before = first.puts behind.0 in
      (before.0, puts_optional_known tag f c v w old.out mid.out new.out before.1 behind.1);
}

pub wrote_optional : {A B : Type 0} (tag : ℕ) (f : Format A) (c : Content B) (v : Option A) (w : B) (old mid new : FieldWriter) → PutsOnMaybe f v old mid → PutsOnAll c w mid new → PutsOnAll (with_optional tag f c) (v, w) old new
wrote_optional tag f c v w old mid new first others = wrote_optional_known tag f (λ x. c) v w old mid new first others
