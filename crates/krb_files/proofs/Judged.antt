-- How a principal is judged.
use Rattle.std.proofs.Common.{◌≡◌, ℕ, Bool, true, false, cond, ◌&&◌, List, Result, Ok, Err, refl, ap, ◌∙◌}
use Rattle.std.specs.Str.{is_utf8}
use Rattle.gss_base.specs.Name.{Name}
use Rattle.gss_base.specs.Principal.{name_of}
use Rattle.gss_base.specs.declared.principal.NameRefusal.{NameRefusal}
use Rattle.krb_files.specs.declared.refusal.FileRefusal.{FileRefusal}
use Rattle.krb_files.specs.declared.refusal.FileWhy.TheVariants as whys
use Rattle.krb_files.specs.Fields.{refusal}
use Rattle.krb_files.specs.Names.{are_texts, texts_of, name_or, named_at}

passed : {A : Type 0} (b : Bool) (x y : A) (e : FileRefusal) → cond b (Ok x) (Err e) ≡ Ok y → (b ≡ true) × (x ≡ y)
passed true x y e same = (refl, cc)
passed false x y e same = absurd cc

refused : {A : Type 0} (b : Bool) (x : A) (e d : FileRefusal) → cond b (Ok x) (Err e) ≡ Err d → (b ≡ false) × (e ≡ d)
refused true x e d same = absurd cc
refused false x e d same = (refl, cc)

-- a realm that is no text
pub realm_fails : (at : ℕ) (realm : List ℕ) (parts : List (List ℕ)) → is_utf8 realm ≡ false → named_at at realm parts ≡ Err (refusal whys.Name at)
unfolding named_at
realm_fails at realm parts wrong = rw wrong refl

judged_no : (a b : Bool) (r : Result Name FileRefusal) (e : FileRefusal) → b ≡ false → cond (a && b) r (Err e) ≡ Err e
judged_no true b r e wrong = rw wrong refl
judged_no false b r e wrong = refl

-- a part that is no text
pub parts_fail : (at : ℕ) (realm : List ℕ) (parts : List (List ℕ)) (e : FileRefusal) → texts_of at parts ≡ Err e → named_at at realm parts ≡ Err e
unfolding named_at
parts_fail at realm parts e wrong =
    let p = refused (are_texts parts) parts (refusal whys.Name at) e wrong in
    judged_no (is_utf8 realm) (are_texts parts) (name_or at (name_of realm parts)) (refusal whys.Name at) p.0 ∙ ap Err p.1

judged_yes : (a b : Bool) (r : Result Name FileRefusal) (e : FileRefusal) → a ≡ true → b ≡ true → cond (a && b) r (Err e) ≡ r
judged_yes a b r e holds too = rw (holds, too) refl

-- texts are judged as a name
pub judged : (at : ℕ) (realm text : List ℕ) (parts texts given : List (List ℕ)) (answer : Result Name NameRefusal) → text ≡ realm → is_utf8 realm ≡ true → texts_of at parts ≡ Ok texts → given ≡ texts → name_of text given ≡ answer → named_at at realm parts ≡ name_or at answer
unfolding named_at
judged at realm text parts texts given answer same utf8 read all name =
    let p = passed (are_texts parts) parts texts (refusal whys.Name at) read in
    let one : name_of realm parts ≡ name_of text given = rw (same, all, p.1) refl in
    judged_yes (is_utf8 realm) (are_texts parts) (name_or at (name_of realm parts)) (refusal whys.Name at) utf8 p.0 ∙ ap (name_or at) (one ∙ name)
