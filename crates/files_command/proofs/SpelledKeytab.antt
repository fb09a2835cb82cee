-- The keytab that is written is one of the grammar, with this key's record alone.
use Rattle.std.proofs.Common.{◌≡◌, ℕ, ◌+◌, ◌*◌, ◌%◌, ◌^◌, ◌<◌, ◌≤◌, Bool, true, false, cond, ◌==◌, List, [], ◌∷◌, ◌++◌, length, take, Some, Result, Ok, Err, IfOk, OnOk, inl, refl, sym, ap, subst, ◌∙◌, arith, append-nil, length-append}
use Rattle.std.specs.List.{flat_map}
use Rattle.std.proofs.lemmas.List.{take_all}
use Rattle.gss_base.specs.Name.{Name}
use Rattle.krb_derive.specs.declared.key.Key.{Key}
use Rattle.krb_derive.specs.declared.key.Key.TheVariants.{Aes128, Aes256}
use Rattle.krb_derive.specs.Key.{number_of_etype, type_of_key, key_octets}
use Rattle.krb_files.specs.declared.keytab.Entry.{Entry}
use Rattle.krb_files.specs.declared.pieces.Next.TheVariants.{Item}
use Rattle.krb_files.specs.Keytab.{version_of, keytab_of}
use Rattle.krb_files.specs.KeytabGrammar.{SpellsEntry, Piece, SpellsKeytab}
use Rattle.krb_files.proofs.KeytabLaws.{keytab_only}
use Rattle.files_command.specs.declared.keytab_file.ServiceKey.{ServiceKey}
use Rattle.files_command.specs.Fields.{number, counted, principal, key_field, AreShort, IsTextName, IsSizedKey}
use Rattle.files_command.specs.KeytabFile.{IsServiceKey, entry_of, key_record, keytab_file}
use Rattle.files_command.proofs.ShortNames.{fits_name}
use Rattle.files_command.proofs.Spelled.{number_length, number_spelled, principal_spelled, key_spelled}

counted_length : (size : ℕ) (octets : List ℕ) → length (counted size octets) ≡ size + length octets
unfolding counted
counted_length size octets = length-append (number size (length octets)) octets ∙ ap (λ (n : ℕ). n + length octets) (number_length size (length octets))

parts_length : (parts : List (List ℕ)) → AreShort parts → length (flat_map (counted 2) parts) ≤ 257 * length parts
parts_length [] short = omega arith
parts_length (part ∷ parts) short =
    let one = counted_length 2 part in
    let others = parts_length parts short.1 in
    let both = length-append (counted 2 part) (flat_map (counted 2) parts) in
    let more : length (part ∷ parts) ≡ 1 + length parts = omega arith in
    omega (arith, short.0)

principal_length : (name : Name) → IsTextName name → length (principal 2 name) ≤ 3000
unfolding principal
principal_length name text =
    let fits = fits_name name.realm name.parts text.named in
    let parts = parts_length name.parts fits.parts_short in
    let realm = counted_length 2 name.realm in
    let count = number_length 2 (length name.parts) in
    let inner = length-append (counted 2 name.realm) (flat_map (counted 2) name.parts) in
    let outer = length-append (number 2 (length name.parts)) (counted 2 name.realm ++ flat_map (counted 2) name.parts) in
    omega (arith, fits.realm_short, fits.count)

octets_most : (key : Key) → IsSizedKey key → length (key_octets key) ≤ 32
octets_most (Aes128 octets) key = omega (arith, key.sized)
octets_most (Aes256 octets) key = omega (arith, key.sized)

key_length_most : (key : Key) → IsSizedKey key → length (key_field 2 key) ≤ 36
unfolding key_field
key_length_most key sized =
    let kind = number_length 2 (number_of_etype (type_of_key key)) in
    let octets = counted_length 2 (key_octets key) in
    let most = octets_most key sized in
    let both = length-append (number 2 (number_of_etype (type_of_key key))) (counted 2 (key_octets key)) in
    omega arith

pub record_length : (service : ServiceKey) → IsServiceKey service → (0 < length (key_record service)) × (length (key_record service) < 2 ^ 31)
unfolding key_record
record_length service is =
    let name = principal_length service.server is.server in
    let key = key_length_most service.key is.key in
    let a = number_length 4 1 in
    let b = number_length 4 0 in
    let c = number_length 1 (service.kvno % 256) in
    let d = number_length 4 service.kvno in
    let e = length-append (key_field 2 service.key) (number 4 service.kvno) in
    let f = length-append (number 1 (service.kvno % 256)) (key_field 2 service.key ++ number 4 service.kvno) in
    let g = length-append (number 4 0) (number 1 (service.kvno % 256) ++ (key_field 2 service.key ++ number 4 service.kvno)) in
    let h = length-append (number 4 1) (number 4 0 ++ (number 1 (service.kvno % 256) ++ (key_field 2 service.key ++ number 4 service.kvno))) in
    let i = length-append (principal 2 service.server) (number 4 1 ++ (number 4 0 ++ (number 1 (service.kvno % 256) ++ (key_field 2 service.key ++ number 4 service.kvno)))) in
    (omega arith, omega arith)

longer : (n : ℕ) (b : Bool) → (n == 0) ≡ b → cond b (n % 256) n ≡ n
longer n true e = let zero : n ≡ 0 = grind arith in rw zero refl
longer n false e = refl

version_is : (n : ℕ) → n < 2 ^ 32 → version_of (n % 256) (number 4 n) ≡ n
version_is n less =
    let spelled = number_spelled 4 n less in
    let all : take 4 (number 4 n) ≡ number 4 n = ap (λ (k : ℕ). take k (number 4 n)) (sym spelled.sized) ∙ take_all (length (number 4 n)) (number 4 n) (omega arith) in
    rw (spelled.sized, all, ← spelled.same) (longer n (n == 0) refl)

entry_spelled : (service : ServiceKey) → IsServiceKey service → SpellsEntry (entry_of service) (key_record service)
unfolding key_record
entry_spelled service is = record {
  value = service.server;
  front = principal 2 service.server;
  back = number 4 1 ++ (number 4 0 ++ (number 1 (service.kvno % 256) ++ (key_field 2 service.key ++ number 4 service.kvno)));
  begins = principal_spelled 2 service.server (omega arith) is.server;
  goes_on = record {
    value = 1;
    front = number 4 1;
    back = number 4 0 ++ (number 1 (service.kvno % 256) ++ (key_field 2 service.key ++ number 4 service.kvno));
    begins = number_spelled 4 1 (omega arith);
    goes_on = record {
      value = 0;
      front = number 4 0;
      back = number 1 (service.kvno % 256) ++ (key_field 2 service.key ++ number 4 service.kvno);
      begins = number_spelled 4 0 (omega arith);
      goes_on = record {
        value = service.kvno % 256;
        front = number 1 (service.kvno % 256);
        back = key_field 2 service.key ++ number 4 service.kvno;
        begins = number_spelled 1 (service.kvno % 256) (omega arith);
        goes_on = record {
          value = Some service.key;
          front = key_field 2 service.key;
          back = number 4 service.kvno;
          begins = key_spelled 2 service.key (omega arith) is.key;
          goes_on = record { same = ap (λ (n : ℕ). entry_with service.server n service.key) (sym (version_is service.kvno is.kvno)) };
          same = refl;
        };
        same = refl;
      };
      same = refl;
    };
    same = refl;
  };
  same = refl;
} where
  entry_with : Name → ℕ → Key → Entry
  entry_with name number key = record { name = name; number = number; key = Some key }

piece_spelled : (service : ServiceKey) → IsServiceKey service → Piece (Item (entry_of service)) (counted 4 (key_record service))
unfolding counted
piece_spelled service is =
    let long = record_length service is in
    record {
      value = length (key_record service);
      front = number 4 (length (key_record service));
      back = key_record service;
      begins = number_spelled 4 (length (key_record service)) (omega (arith, long.1));
      goes_on = (long.0, long.1, refl, entry_spelled service is);
      same = refl;
    }

pub keytab_spelled : (service : ServiceKey) → IsServiceKey service → SpellsKeytab (entry_of service ∷ []) (keytab_file service)
unfolding keytab_file
keytab_spelled service is =
    let file = counted 4 (key_record service) in
    record {
      body = file;
      spells = record {
        pieces = Item (entry_of service) ∷ [];
        front = file;
        back = [];
        row = (file, [], piece_spelled service is, refl, sym (append-nil file));
        ends = inl refl;
        same = sym (append-nil file);
        kept = refl;
      };
      same = refl;
    }

pub keytab_read : (service : ServiceKey) → IsServiceKey service → keytab_of (keytab_file service) ≡ Ok (entry_of service ∷ [])
keytab_read service is = keytab_only (keytab_file service) (entry_of service ∷ []) (keytab_spelled service is)

pub keytab_whole : {E : Type 0} (r : Result (List ℕ) E) (service : ServiceKey) → IfOk r (λ o. o ≡ keytab_file service) → OnOk r (IsServiceKey service) → IfOk r (λ o. SpellsKeytab (entry_of service ∷ []) o)
keytab_whole (Ok o) service written is = subst (λ (os : List ℕ). SpellsKeytab (entry_of service ∷ []) os) (sym written) (keytab_spelled service is)
keytab_whole (Err e) service written is = tt

pub keytab_back : {E : Type 0} (r : Result (List ℕ) E) (service : ServiceKey) → IfOk r (λ o. o ≡ keytab_file service) → OnOk r (IsServiceKey service) → IfOk r (λ o. keytab_of o ≡ Ok (entry_of service ∷ []))
keytab_back (Ok o) service written is = ap keytab_of written ∙ keytab_read service is
keytab_back (Err e) service written is = tt
