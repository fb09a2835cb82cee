-- What a reading of all the octets says, and the law of the frame.
use Rattle.std.proofs.Common.{◌≡◌, ℕ, List, length, Result, Ok, Err, sym, ◌∙◌}
use Rattle.der_core.specs.declared.refusal.DerRefusal.{DerRefusal}
use Rattle.der_core.specs.Format.{Content, AreOctets, all_of, Answers, WritesWhole, SpelledWhole}
use Rattle.der_core.specs.Element.{element, plain, any_octets}
use Rattle.der_core.specs.Fields.{with_field}
use Rattle.der_core.specs.Frame.{framed}
use Rattle.der_core.specs.Values.{object_identifier}
use Rattle.der_core.specs.Law.{IsContent}
use Rattle.der_core.proofs.Steps.{ok_is, refused_is}
use Rattle.der_core.proofs.Laws.{element_law, whole_law, field_law, plain_law}
use Rattle.der_core.proofs.SingleValues.{object_identifier_law}

read_again : {B : Type 0} (content : Content B) (law : IsContent content) (v : B) (octets : List ℕ) → WritesWhole content v octets → content.read (all_of octets) ≡ Ok v
read_again content law v octets whole = rw whole.spells (law.again (length (content.spell v)) v whole.fits)

-- a reading by a lawful content
pub reads_whole : {A B : Type 0} (view : A → B) (content : Content B) (law : IsContent content) (octets : List ℕ) (result : Result A DerRefusal) → AreOctets octets → Answers view result (content.read (all_of octets)) → SpelledWhole view content octets result
reads_whole view content law octets (Ok x) bytes read = record {
  found = (let t = law.takes (all_of octets) (view x) bytes read in record { spells = t.0; fits = t.1 });
  only = λ v whole. ok_is (view x) v (sym read ∙ read_again content law v octets whole);
}
reads_whole view content law octets (Err e) bytes read = record {
  found = tt;
  only = λ v whole. absurd (refused_is e v (sym read ∙ read_again content law v octets whole));
}

pub framed_law : IsContent framed
unfolding framed
framed_law = whole_law (element 0x60 (with_field object_identifier (plain any_octets))) (element_law 0x60 (with_field object_identifier (plain any_octets)) (field_law object_identifier (plain any_octets) object_identifier_law (plain_law any_octets)))
