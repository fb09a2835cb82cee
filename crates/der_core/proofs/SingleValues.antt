-- The laws of the single values, and what they say of a reading.
use Rattle.std.proofs.Common.{◌≡◌, ℕ, ◌+◌, ◌-◌, ◌*◌, ◌/◌, ◌%◌, ◌^◌, ◌<◌, true, ltb, eqb, List, [], ◌∷◌, ◌++◌, Result, Ok, Err, refl, sym, ap, subst, ◌∙◌, arith}
use Rattle.der_core.specs.declared.refusal.DerRefusal.{DerRefusal}
use Rattle.der_core.specs.Format.{Input, Format, AreOctets, place, Reads, ReadsSpellings}
use Rattle.std.proofs.lemmas.Bool.{ltb-true, lt-ltb, eqb-true}
use Rattle.sec_base.specs.Oid.{is_oid}
use Rattle.der_core.specs.Header.{tlv_at}
use Rattle.der_core.specs.Element.{plain, any_octets, any_element, raw_element, octet_string}
use Rattle.der_core.specs.Integer.{int32, int32_content, natural, natural_content, uint32}
use Rattle.der_core.specs.Time.{time, time_content}
use Rattle.der_core.specs.Values.{is_text, text, object_identifier, small_of, small_content, small, flags_of, flags_octets, flags_content, flags}
use Rattle.der_core.proofs.CivilTimes.{time_content_law}
use Rattle.der_core.proofs.TwosComplement.{int32_content_law, natural_content_law}
use Rattle.der_core.specs.Law.{IsFormat}
use Rattle.der_core.proofs.Steps.{ok_is, refused_is, passed}
use Rattle.der_core.proofs.Laws.{element_law, plain_law, kept_law}

-- a reading by a lawful format
pub reads_spellings : {A B : Type 0} (view : A → B) (format : Format B) (law : IsFormat format) (old new : Input) (result : Result A DerRefusal) → AreOctets old.octets → Reads view new result (format.read old) → ReadsSpellings view format old new result
reads_spellings view format law old new (Ok x) octets read = record {
  found = (let t = law.takes old (view x, new) octets read in record { spelling = format.spell (view x); spells = record { has = t.1; same = refl }; front = t.0.parts; end = t.0.end });
  only = λ v spelling rest spells front.
      let at = law.again old.end v rest spells.has in
      let same : old.octets ≡ format.spell v ++ rest = front ∙ ap (λ (os : List ℕ). os ++ rest) spells.same in
      let is : format.read old ≡ Ok (v, record { end = old.end; octets = rest }) = subst (λ (os : List ℕ). format.read (record { end = old.end; octets = os }) ≡ Ok (v, record { end = old.end; octets = rest })) (sym same) at in
      let one = ok_is (view x, new) (v, record { end = old.end; octets = rest }) (sym read ∙ is) in
      (ap (λ (p : _ × Input). p.0) one, ap (λ (p : _ × Input). p.1) one);
}
reads_spellings view format law old new (Err e) octets read = record {
  found = tt;
  only = λ v spelling rest spells front.
      let at = law.again old.end v rest spells.has in
      let same : old.octets ≡ format.spell v ++ rest = front ∙ ap (λ (os : List ℕ). os ++ rest) spells.same in
      let is : format.read old ≡ Ok (v, record { end = old.end; octets = rest }) = subst (λ (os : List ℕ). format.read (record { end = old.end; octets = os }) ≡ Ok (v, record { end = old.end; octets = rest })) (sym same) at in
      absurd (refused_is e (v, record { end = old.end; octets = rest }) (sym read ∙ is));
}

pub octet_string_law : IsFormat octet_string
unfolding octet_string
octet_string_law = element_law 4 (plain any_octets) (plain_law any_octets)

pub any_element_law : (tag : ℕ) → IsFormat (any_element tag)
any_element_law tag = element_law tag (plain any_octets) (plain_law any_octets)

-- what a reading of an element by its tag says of its octets
pub elements_read : (tag : ℕ) (old new : Input) (result : Result Input DerRefusal) → AreOctets old.octets → Reads (λ r. r) new result (tlv_at tag old) → ReadsSpellings (λ r. r.octets) (any_element tag) old new result
elements_read tag old new result octets read = reads_spellings (λ r. r.octets) (any_element tag) (any_element_law tag) old new result octets (by_octets result read)
  where
    by_octets : (result : Result Input DerRefusal) → Reads (λ r. r) new result (tlv_at tag old) → Reads (λ r. r.octets) new result ((any_element tag).read old)
    by_octets (Ok inner) read = rw read refl
    by_octets (Err e) read = rw read refl

pub raw_element_law : (tag : ℕ) → IsFormat (raw_element tag)
raw_element_law tag = kept_law (any_element tag) (any_element_law tag)

pub int32_law : IsFormat int32
unfolding int32
int32_law = element_law 2 int32_content int32_content_law

pub natural_law : (low high : ℕ) → high < 549755813888 → IsFormat (natural low high)
unfolding natural
natural_law low high small = element_law 2 (natural_content low high) (natural_content_law low high small)

pub uint32_law : IsFormat uint32
uint32_law = natural_law 0 4294967295 (omega arith)

pub text_law : IsFormat text
unfolding text
text_law = element_law 0x1b (plain is_text) (plain_law is_text)

pub object_identifier_law : IsFormat object_identifier
unfolding object_identifier
object_identifier_law = element_law 6 (plain is_oid) (plain_law is_oid)

small_takes : (at : ℕ) (os : List ℕ) (v : ℕ) → small_of at os ≡ Ok v → (os ≡ v ∷ []) × (ltb v 128 ≡ true)
small_takes at [] v e = absurd cc
small_takes at (o ∷ []) v e =
    let p = passed (ltb o 128) _ _ v e in
    subst (λ (w : ℕ). (o ∷ [] ≡ w ∷ []) × (ltb w 128 ≡ true)) (ok_is o v p.1) (refl, p.0)
small_takes at (a ∷ b ∷ os) v e = absurd cc

pub small_law : IsFormat small
unfolding small
small_law = element_law 0x0a small_content (record {
  takes = λ i v bytes e. small_takes (place i) i.octets v e;
  again = λ end v fits. rw fits refl;
})

flags_takes : (at : ℕ) (os : List ℕ) (v : ℕ) → AreOctets os → flags_of at os ≡ Ok v → (os ≡ flags_octets v) × (ltb v (2 ^ 32) ≡ true)
flags_takes at [] v h e = absurd cc
flags_takes at (u ∷ []) v h e = absurd cc
flags_takes at (u ∷ a ∷ []) v h e = absurd cc
flags_takes at (u ∷ a ∷ b ∷ []) v h e = absurd cc
flags_takes at (u ∷ a ∷ b ∷ c ∷ []) v h e = absurd cc
flags_takes at (u ∷ a ∷ b ∷ c ∷ d ∷ []) v h e =
    let p = passed (eqb u 0) _ _ v e in
    subst (λ (w : ℕ). (u ∷ a ∷ b ∷ c ∷ d ∷ [] ≡ flags_octets w) × (ltb w (2 ^ 32) ≡ true)) (ok_is (((a * 256 + b) * 256 + c) * 256 + d) v p.1)
    (spelled u a b c d (eqb-true u 0 p.0) (h.each 1) (h.each 2) (h.each 3) (h.each 4))
  where
    spelled : (u a b c d : ℕ) → u ≡ 0 → a < 256 → b < 256 → c < 256 → d < 256 → (u ∷ a ∷ b ∷ c ∷ d ∷ [] ≡ flags_octets (((a * 256 + b) * 256 + c) * 256 + d)) × (ltb (((a * 256 + b) * 256 + c) * 256 + d) (2 ^ 32) ≡ true)
    spelled u a b c d z la lb lc ld =
        let n : ℕ = ((a * 256 + b) * 256 + c) * 256 + d in
        let p : (((a * 256 + b) * 256 + c) * 256 + d) / 16777216 ≡ a = omega arith in
        let q : (((a * 256 + b) * 256 + c) * 256 + d) / 65536 % 256 ≡ b = omega arith in
        let r : (((a * 256 + b) * 256 + c) * 256 + d) / 256 % 256 ≡ c = omega arith in
        let s : (((a * 256 + b) * 256 + c) * 256 + d) % 256 ≡ d = omega arith in
        (rw (p, q, r, s, z) refl, lt-ltb _ _ (omega arith))
flags_takes at (u ∷ a ∷ b ∷ c ∷ d ∷ x ∷ os) v h e = absurd cc

pub flags_law : IsFormat flags
unfolding flags
flags_law = element_law 3 flags_content (record {
  takes = λ i v bytes e. flags_takes (place i) i.octets v bytes e;
  again = λ end v fits.
      let small : v < 2 ^ 32 = ltb-true _ _ fits in
      let is : ((v / 16777216 * 256 + v / 65536 % 256) * 256 + v / 256 % 256) * 256 + v % 256 ≡ v = omega arith in
      rw is refl;
})

pub time_law : IsFormat time
unfolding time
time_law = element_law 0x18 time_content time_content_law
