-- What is written is spelled as the grammars of the files say.
use Rattle.std.proofs.Common.{◌≡◌, ℕ, zero, suc, ◌+◌, ◌*◌, ◌%◌, ◌^◌, ◌<◌, List, [], ◌∷◌, ◌++◌, length, Some, pos, refl, sym, ap, ◌∙◌, arith, append-nil, pow-suc, mul_comm, mod-eq_of_lt}
use Rattle.std.specs.List.{flat_map}
use Rattle.std.specs.Int.{byte_at, bytes_high_first}
use Rattle.std.proofs.Math.Nat.{pow-le-pow_right}
use Rattle.std.proofs.Math.Arith.{mod-mul}
use Rattle.gss_base.specs.Name.{Name}
use Rattle.gss_base.specs.Principal.{text_form}
use Rattle.gss_base.proofs.Spelling.{judged_is}
use Rattle.krb_derive.specs.declared.key.Key.{Key}
use Rattle.krb_derive.specs.declared.key.Key.TheVariants.{Aes128, Aes256}
use Rattle.krb_derive.specs.Key.{key_octets, etype_of}
use Rattle.krb_files.specs.Fields.{number_of, number_behind}
use Rattle.krb_files.specs.Grammar.{Then, Gives, Number, Counted, Texts, Principal, IsKey, KeyField}
use Rattle.files_command.specs.Fields.{number, counted, principal, key_field, AreShort, IsTextName, IsSizedKey}
use Rattle.files_command.proofs.ShortNames.{fits_name}

-- one octet more in front of the lowest k octets
octet_on : (k n high : ℕ) → (high * 256 + byte_at k n) * 256 ^ k + n % 256 ^ k ≡ high * 256 ^ suc k + n % 256 ^ suc k
octet_on zero n high = omega arith
octet_on (suc k) n high =
    let unit = 256 ^ suc k in
    let wider : 256 ^ suc (suc k) ≡ 256 * unit = pow-suc 256 (suc k) ∙ mul_comm unit 256 in
    let some : 0 < unit = pow-le-pow_right {n = 256} (omega arith) {i = 0} {j = suc k} (omega arith) in
    rw (wider, mod-mul n {m = 256} {c = unit} (omega arith) some) (omega arith)

behind_is : (k n high : ℕ) → number_behind high (bytes_high_first k n) ≡ high * 256 ^ k + n % 256 ^ k
behind_is zero n high = omega arith
behind_is (suc k) n high = behind_is k n (high * 256 + byte_at k n) ∙ octet_on k n high

first_is : (octet : ℕ) (octets : List ℕ) → number_of (octet ∷ octets) ≡ number_behind 0 (octet ∷ octets)
first_is octet octets = ap (λ (n : ℕ). number_behind n octets) (let e : octet ≡ 0 * 256 + octet = omega arith in e)

number_is : (k n : ℕ) → number_of (bytes_high_first k n) ≡ n % 256 ^ k
number_is zero n = omega arith
number_is (suc k) n = first_is (byte_at k n) (bytes_high_first k n) ∙ (behind_is (suc k) n 0 ∙ omega arith)

octets_length : (k n : ℕ) → length (bytes_high_first k n) ≡ k
octets_length zero n = refl
octets_length (suc k) n = ap suc (octets_length k n)

pub number_length : (size n : ℕ) → length (number size n) ≡ size
unfolding number
number_length size n = octets_length size n

pub number_spelled : (size n : ℕ) → n < 256 ^ size → Number size n (number size n)
unfolding number
number_spelled size n less = record { sized = octets_length size n; same = sym (number_is size n ∙ mod-eq_of_lt less) }

pub counted_spelled : (size : ℕ) (octets : List ℕ) → length octets < 256 ^ size → Counted size octets (counted size octets)
unfolding counted
counted_spelled size octets less = record {
  value = length octets;
  front = number size (length octets);
  back = octets;
  begins = number_spelled size (length octets) less;
  goes_on = record { sized = refl; same = refl };
  same = refl;
}

-- a value and no octets more
pub gives_spelled : {A B : Type 0} (first : A → List ℕ → Type 0) (v : A) (w : B) (octets : List ℕ) → first v octets → Then first (λ x. Gives w) w octets
gives_spelled first v w octets spelled = record {
  value = v;
  front = octets;
  back = [];
  begins = spelled;
  goes_on = record { value = refl; none = refl };
  same = sym (append-nil octets);
}

texts_spelled : (size : ℕ) → 255 < 256 ^ size → (parts : List (List ℕ)) → AreShort parts → Texts size (length parts) parts (flat_map (counted size) parts)
texts_spelled size wide [] short = record { value = refl; none = refl }
texts_spelled size wide (part ∷ parts) short = record {
  value = part;
  front = counted size part;
  back = flat_map (counted size) parts;
  begins = counted_spelled size part (omega (arith, short.0));
  goes_on = record {
    value = parts;
    front = flat_map (counted size) parts;
    back = [];
    begins = texts_spelled size wide parts short.1;
    goes_on = record { value = refl; none = refl };
    same = sym (append-nil (flat_map (counted size) parts));
  };
  same = refl;
}

pub principal_spelled : (size : ℕ) (name : Name) → 255 < 256 ^ size → IsTextName name → Principal size name (principal size name)
unfolding principal
principal_spelled size name wide text =
    let fits = fits_name name.realm name.parts text.named in
    record {
      value = length name.parts;
      front = number size (length name.parts);
      back = counted size name.realm ++ flat_map (counted size) name.parts;
      begins = number_spelled size (length name.parts) (omega (arith, fits.count));
      goes_on = record {
        value = name.realm;
        front = counted size name.realm;
        back = flat_map (counted size) name.parts;
        begins = counted_spelled size name.realm (omega (arith, fits.realm_short));
        goes_on = record {
          value = name.parts;
          front = flat_map (counted size) name.parts;
          back = [];
          begins = texts_spelled size wide name.parts fits.parts_short;
          goes_on = record { realm_text = text.realm_text; part_texts = text.part_texts; named = judged_is (text_form name.realm name.parts) name.realm name.parts text.named; none = refl };
          same = sym (append-nil (flat_map (counted size) name.parts));
        };
        same = refl;
      };
      same = refl;
    }

typed_spelled : (size kind : ℕ) (key : Key) → kind < 65536 → length (key_octets key) < 256 ^ size → IsKey (etype_of (pos kind)) (key_octets key) (Some key) [] → KeyField size (Some key) (number 2 kind ++ counted size (key_octets key))
typed_spelled size kind key small less is = record {
  value = kind;
  front = number 2 kind;
  back = counted size (key_octets key);
  begins = number_spelled 2 kind small;
  goes_on = record {
    value = key_octets key;
    front = counted size (key_octets key);
    back = [];
    begins = counted_spelled size (key_octets key) less;
    goes_on = is;
    same = sym (append-nil (counted size (key_octets key)));
  };
  same = refl;
}

pub key_spelled : (size : ℕ) (key : Key) → 255 < 256 ^ size → IsSizedKey key → KeyField size (Some key) (key_field size key)
unfolding key_field
key_spelled size (Aes128 octets) wide key =
    typed_spelled size 17 (Aes128 octets) (omega arith) (omega (arith, key.sized)) (record { value = rw key.sized refl; known = refl; none = refl })
key_spelled size (Aes256 octets) wide key =
    typed_spelled size 18 (Aes256 octets) (omega arith) (omega (arith, key.sized)) (record { value = rw key.sized refl; known = refl; none = refl })
