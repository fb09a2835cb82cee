-- Fields that were written one behind the other, and readings of all the octets, want of memory aside.
use Rattle.std.proofs.Common.{◌≡◌, ℕ, List, ◌++◌, length, Option, Result, Ok, Err, refl, sym, ap, subst, ◌∙◌, append_assoc}
use Rattle.std.specs.Prelude.{IfOk}
use Rattle.std.proofs.lemmas.List.{append-nil}
use Rattle.std.proofs.lemmas.Bool.{and_from}
use Rattle.der_core.specs.declared.refusal.DerRefusal.{DerRefusal}
use Rattle.der_core.specs.Format.{Format, Content, AreOctets, all_of, Puts, PutsAll, MayAnswer, WritesWhole}
use Rattle.der_core.specs.Fields.{done, with_known, with_field, with_optional_known, with_optional, PutsMaybe}
use Rattle.der_core.specs.Law.{IsContent}

joined : (old f c mid new : List ℕ) → mid ≡ old ++ f → new ≡ mid ++ c → new ≡ old ++ (f ++ c)
joined old f c mid new first second = second ∙ ap (λ (os : List ℕ). os ++ c) first ∙ append_assoc old f c

-- no field
pub puts_done : (os : List ℕ) → PutsAll done tt os os
puts_done os = record { spells = sym (append-nil os); fits = refl }

-- a field, and those behind it
pub puts_known : {A B : Type 0} (f : Format A) (c : A → Content B) (v : A) (w : B) (old mid new : List ℕ) → Puts f v old mid → PutsAll (c v) w mid new → PutsAll (with_known f c) (v, w) old new
puts_known f c v w old mid new first others = record {
  spells = joined old (f.spell v) ((c v).spell w) mid new first.spells others.spells;
  fits = and_from _ _ first.fits others.fits;
}

pub puts_field : {A B : Type 0} (f : Format A) (c : Content B) (v : A) (w : B) (old mid new : List ℕ) → Puts f v old mid → PutsAll c w mid new → PutsAll (with_field f c) (v, w) old new
puts_field f c v w old mid new first others = puts_known f (λ x. c) v w old mid new first others

-- a field that may be left out, and those behind it
pub puts_optional_known : {A B : Type 0} (tag : ℕ) (f : Format A) (c : Option A → Content B) (v : Option A) (w : B) (old mid new : List ℕ) → PutsMaybe f v old mid → PutsAll (c v) w mid new → PutsAll (with_optional_known tag f c) (v, w) old new
puts_optional_known tag f c v w old mid new first others = record {
  spells = joined old _ ((c v).spell w) mid new first.spells others.spells;
  fits = and_from _ _ first.fits others.fits;
}

pub puts_optional : {A B : Type 0} (tag : ℕ) (f : Format A) (c : Content B) (v : Option A) (w : B) (old mid new : List ℕ) → PutsMaybe f v old mid → PutsAll c w mid new → PutsAll (with_optional tag f c) (v, w) old new
puts_optional tag f c v w old mid new first others = puts_optional_known tag f (λ x. c) v w old mid new first others

-- what is answered is spelled by the octets
pub is_found : {A B : Type 0} (view : A → B) (c : Content B) (law : IsContent c) (octets : List ℕ) (result : Result A DerRefusal) → AreOctets octets → MayAnswer view result (c.read (all_of octets)) → IfOk result (λ x. WritesWhole c (view x) octets)
is_found view c law octets (Ok x) bytes read = (let t = law.takes (all_of octets) (view x) bytes read in record { spells = t.0; fits = t.1 })
is_found view c law octets (Err e) bytes read = tt

-- what the octets spell is answered
pub is_read_again : {A B : Type 0} (view : A → B) (c : Content B) (law : IsContent c) (octets : List ℕ) (result : Result A DerRefusal) (v : B) → WritesWhole c v octets → MayAnswer view result (c.read (all_of octets)) → MayAnswer view result (Ok v)
is_read_again view c law octets result v whole read = subst (MayAnswer view result) (ap (λ (os : List ℕ). c.read (all_of os)) whole.spells ∙ law.again (length (c.spell v)) v whole.fits) read
