-- What was written of a message: its fields, the SEQUENCE round them, the application's tag round that.
use Rattle.std.proofs.Common.{◌≡◌, ℕ, ◌^◌, ◌<◌, true, List, [], ◌++◌, length, sym, ap, subst, ◌∙◌}
use Rattle.std.proofs.lemmas.Bool.{lt-ltb, and_from}
use Rattle.der_core.specs.Format.{Content, Puts, PutsAll, WritesWhole}
use Rattle.der_core.specs.Header.{tlv}
use Rattle.der_core.specs.Element.{element, whole}
use Rattle.krb_msgs.specs.declared.field_writer.FieldWriter.{FieldWriter}
use Rattle.krb_msgs.specs.FieldWriting.{PutsOnAll}
use Rattle.krb_msgs.specs.Message.{message, IsMessage, PutsSequence}

put_whole : {A B : Type 0} (tag : ℕ) (c : Content A) (v : A) (d : Content B) (w : B) (none fields octets : List ℕ) → none ≡ [] → PutsAll d w none fields → IsMessage tag fields octets → d.spell w ≡ c.spell v → d.fits w ≡ c.fits v → WritesWhole (whole (message tag c)) v octets
put_whole tag c v d w none fields octets n puts made spelled fitting =
    let fields_are : fields ≡ c.spell v = puts.spells ∙ ap (λ (x : List ℕ). x ++ d.spell w) n ∙ spelled in
    let small_fields : length (c.spell v) < 2 ^ 32 = subst (λ (x : List ℕ). length x < 2 ^ 32) fields_are made.few_fields in
    let small : length (tlv 0x30 (c.spell v)) < 2 ^ 32 = subst (λ (x : List ℕ). length (tlv 0x30 x) < 2 ^ 32) fields_are made.few in
    record {
      spells = made.spells ∙ ap (λ (x : List ℕ). tlv tag (tlv 0x30 x)) fields_are;
      fits = and_from _ _ (and_from _ _ (sym fitting ∙ puts.fits) (lt-ltb _ _ small_fields)) (lt-ltb _ _ small);
    }

-- a message is its fields, seen by their names
pub written_message : {A B : Type 0} (tag : ℕ) (c : Content A) (v : A) (d : Content B) (w : B) (begun fields : FieldWriter) (octets : List ℕ) → begun ≡ record { out = []; is_whole = true } → PutsOnAll d w begun fields → (fields.is_whole ≡ true) × IsMessage tag fields.out octets → d.spell w ≡ c.spell v → d.fits w ≡ c.fits v → WritesWhole (whole (message tag c)) v octets
written_message tag c v d w begun fields octets b on made spelled fitting = put_whole tag c v d w begun.out fields.out octets (ap (λ (f : FieldWriter). f.out) b) (on.puts made.0).1 made.1 spelled fitting

put_element : {A B : Type 0} (c : Content A) (v : A) (d : Content B) (w : B) (none fields old new : List ℕ) → none ≡ [] → PutsAll d w none fields → PutsSequence fields old new → d.spell w ≡ c.spell v → d.fits w ≡ c.fits v → Puts (element 0x30 c) v old new
put_element c v d w none fields old new n puts made spelled fitting =
    let fields_are : fields ≡ c.spell v = puts.spells ∙ ap (λ (x : List ℕ). x ++ d.spell w) n ∙ spelled in
    let small_fields : length (c.spell v) < 2 ^ 32 = subst (λ (x : List ℕ). length x < 2 ^ 32) fields_are made.few_fields in
    record {
      spells = made.spells ∙ ap (λ (x : List ℕ). old ++ tlv 0x30 x) fields_are;
      fits = and_from _ _ (sym fitting ∙ puts.fits) (lt-ltb _ _ small_fields);
    }

-- so is a part
pub written_sequence : {A B : Type 0} (c : Content A) (v : A) (d : Content B) (w : B) (begun fields : FieldWriter) (old new : List ℕ) → begun ≡ record { out = []; is_whole = true } → PutsOnAll d w begun fields → (fields.is_whole ≡ true) × PutsSequence fields.out old new → d.spell w ≡ c.spell v → d.fits w ≡ c.fits v → Puts (element 0x30 c) v old new
written_sequence c v d w begun fields old new b on made spelled fitting = put_element c v d w begun.out fields.out old new (ap (λ (f : FieldWriter). f.out) b) (on.puts made.0).1 made.1 spelled fitting
