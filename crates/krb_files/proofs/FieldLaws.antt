-- Principals and keys are read as their grammars spell them.
use Rattle.std.proofs.Common.{◌≡◌, ℕ, zero, suc, Bool, true, false, cond, ◌&&◌, List, [], ◌∷◌, ◌++◌, Option, Some, None, Result, Ok, Err, refl, sym, ap, ◌∙◌, pos}
use Rattle.std.specs.Option.{is_some, option_and_then}
use Rattle.std.specs.Str.{is_utf8}
use Rattle.gss_base.specs.Name.{Name}
use Rattle.gss_base.specs.Principal.{name_of}
use Rattle.gss_base.specs.declared.principal.NameRefusal.{NameRefusal}
use Rattle.krb_derive.specs.declared.key.Etype.{Etype}
use Rattle.krb_derive.specs.declared.key.Key.{Key}
use Rattle.krb_derive.specs.Key.{etype_of, key_of}
use Rattle.krb_files.specs.declared.refusal.FileRefusal.{FileRefusal}
use Rattle.krb_files.specs.declared.refusal.FileWhy.TheVariants as whys
use Rattle.krb_files.specs.Fields.{◌>>=◌, place, refusal, number_at, counted_at}
use Rattle.krb_files.specs.Names.{are_texts, name_or, named_at, parts_at, principal_at}
use Rattle.krb_files.specs.Keys.{key_or, key_by, key_at}
use Rattle.krb_files.specs.Grammar.{Then, Gives, Number, Counted, Texts, Named, Principal, IsKey, KeyField}
use Rattle.krb_files.proofs.Laws.{Law, bind_ok, ok_is, then_law, gives_law, number_law, counted_law}

pub parts_law : (size count : ℕ) → Law (parts_at size count) (Texts size count)
unfolding parts_at
parts_law size zero = gives_law []
parts_law size (suc count) =
    then_law (counted_at size) (Counted size) (λ i part j. parts_at size count j >>= (λ parts. Ok (part ∷ parts.0, parts.1))) (λ part. Then (Texts size count) (λ parts. Gives (part ∷ parts)))
    (counted_law size)
    (λ i part. then_law (parts_at size count) (Texts size count) (λ j parts k. Ok (part ∷ parts, k)) (λ parts. Gives (part ∷ parts)) (parts_law size count) (λ j parts. gives_law (part ∷ parts)))

name_found : (a b : Bool) (at : ℕ) (r : Result Name NameRefusal) (e : FileRefusal) (name : Name) → cond (a && b) (name_or at r) (Err e) ≡ Ok name → (a ≡ true) × (b ≡ true) × (r ≡ Ok name)
name_found true true at (Ok n) e name same = (refl, refl, ap Ok (ok_is n name same))
name_found true true at (Err w) e name same = absurd cc
name_found true false at r e name same = absurd cc
name_found false b at r e name same = absurd cc

-- a value that takes no octets
pub judged_law : {A : Type 0} (r : Result A FileRefusal) (g : A → List ℕ → Type 0) → ((v : A) → r ≡ Ok v → g v []) → ((v : A) (octets : List ℕ) → g v octets → (r ≡ Ok v) × (octets ≡ [])) → Law (λ i. r >>= (λ v. Ok (v, i))) g
judged_law r g one two = record {
  found = λ i j v e.
      let b = bind_ok r (λ x. Ok (x, i)) (v, j) e in
      let same = ok_is (b.0, i) (v, j) b.2 in
      record { front = []; back = i.octets; spells = one v (b.1 ∙ ap Ok (ap (λ p. p.0) same)); same = refl; left = sym (ap (λ p. p.1) same) };
  only = λ v front back i spelled same.
      let t = two v front spelled in
      let all : i.octets ≡ back = same ∙ ap (λ (os : List ℕ). os ++ back) t.1 in
      rw (t.0, ← all) refl;
}

pub named_law : (at : ℕ) (realm : List ℕ) (parts : List (List ℕ)) → Law (λ i. named_at at realm parts >>= (λ name. Ok (name, i))) (Named realm parts)
unfolding named_at
named_law at realm parts =
    judged_law (named_at at realm parts) (Named realm parts)
    (λ v e.
    let t = name_found (is_utf8 realm) (are_texts parts) at (name_of realm parts) (refusal whys.Name at) v e in
    record { realm_text = t.0; part_texts = t.1; named = t.2; none = refl })
    (λ v octets spelled. (rw (spelled.realm_text, spelled.part_texts, spelled.named) refl, spelled.none))

pub principal_law : (size at : ℕ) → Law (principal_at size at) (Principal size)
unfolding principal_at
principal_law size at =
    then_law (number_at size) (Number size)
    (λ i count j. counted_at size j >>= (λ realm. parts_at size count realm.1 >>= (λ parts. named_at at realm.0 parts.0 >>= (λ name. Ok (name, parts.1)))))
    (λ count. Then (Counted size) (λ realm. Then (Texts size count) (λ parts. Named realm parts)))
    (number_law size)
    (λ i count. then_law (counted_at size) (Counted size)
    (λ j realm k. parts_at size count k >>= (λ parts. named_at at realm parts.0 >>= (λ name. Ok (name, parts.1))))
    (λ realm. Then (Texts size count) (λ parts. Named realm parts))
    (counted_law size)
    (λ j realm. then_law (parts_at size count) (Texts size count) (λ k parts l. named_at at realm parts >>= (λ name. Ok (name, l))) (λ parts. Named realm parts) (parts_law size count) (λ k parts. named_law at realm parts)))

some_found : (at : ℕ) (etype : Etype) (bytes : List ℕ) (made key : Option Key) → key_of etype bytes ≡ made → key_or at made ≡ Ok key → IsKey (Some etype) bytes key []
some_found at etype bytes (Some k) key is e = let same = sym (ok_is (Some k) key e) in record { value = same ∙ sym is; known = ap is_some same; none = refl }
some_found at etype bytes None key is e = absurd cc

key_found : (at : ℕ) (etype : Option Etype) (bytes : List ℕ) (key : Option Key) → key_by at etype bytes ≡ Ok key → IsKey etype bytes key []
key_found at None bytes key e = let same = sym (ok_is None key e) in record { value = same; known = ap is_some same; none = refl }
key_found at (Some etype) bytes key e = some_found at etype bytes (key_of etype bytes) key refl e

some_only : (at : ℕ) (made key : Option Key) → key ≡ made → is_some key ≡ true → key_or at made ≡ Ok key
some_only at (Some k) key value known = ap Ok (sym value)
some_only at None key value known = absurd (let e : is_some key ≡ false = ap is_some value in cc)

key_only : (at : ℕ) (etype : Option Etype) (bytes : List ℕ) (key : Option Key) → key ≡ option_and_then (λ known. key_of known bytes) etype → is_some key ≡ is_some etype → key_by at etype bytes ≡ Ok key
key_only at None bytes key value known = ap Ok (sym value)
key_only at (Some etype) bytes key value known = some_only at (key_of etype bytes) key value known

key_of_law : (at : ℕ) (etype : Option Etype) (bytes : List ℕ) → Law (λ i. key_by at etype bytes >>= (λ key. Ok (key, i))) (IsKey etype bytes)
key_of_law at etype bytes =
    judged_law (key_by at etype bytes) (IsKey etype bytes) (λ v e. key_found at etype bytes v e)
    (λ v octets spelled. (key_only at etype bytes v spelled.value spelled.known, spelled.none))

pub key_law : (size : ℕ) → Law (key_at size) (KeyField size)
unfolding key_at
key_law size =
    then_law (number_at 2) (Number 2)
    (λ i number j. counted_at size j >>= (λ bytes. key_by (place j) (etype_of (pos number)) bytes.0 >>= (λ key. Ok (key, bytes.1))))
    (λ number. Then (Counted size) (λ bytes. IsKey (etype_of (pos number)) bytes))
    (number_law 2)
    (λ i number. then_law (counted_at size) (Counted size) (λ j bytes k. key_by (place j) (etype_of (pos number)) bytes >>= (λ key. Ok (key, k)))
    (λ bytes. IsKey (etype_of (pos number)) bytes) (counted_law size) (λ j bytes. key_of_law (place j) (etype_of (pos number)) bytes))
