-- Text in UTF-8, as the library tells it and as a test does.
use Rattle.std.proofs.Common.{◌≡◌, ℕ, ◌+◌, ◌<◌, Bool, true, false, cond, ◌&&◌, List, [], ◌∷◌, ◌++◌, length, drop, get_or, Ok, Err, ap, sym, ◌∙◌, append_assoc}
use Rattle.std.proofs.lemmas.List.{at_drop_more}
use Rattle.krb_files.specs.declared.refusal.FileWhy.TheVariants as whys
use Rattle.krb_files.specs.Fields.{refusal}
use Rattle.krb_files.specs.Names.{are_texts, texts_of}
use Rattle.std.specs.Str.{IsUtf8, is_utf8}
use Rattle.std.proofs.lemmas.Str.{IsUtf8-from_is_utf8, is_utf8-from_IsUtf8}
use Rattle.std.proofs.lemmas.Bool.{false_from_ne_true}

-- octets that the library refuses fail the test
pub fails_the_test : (octets : List ℕ) → (IsUtf8 octets → ⊥) → is_utf8 octets ≡ false
fails_the_test octets wrong = false_from_ne_true (is_utf8 octets) (λ right. wrong (IsUtf8-from_is_utf8 octets right))

pub ruleset texts = (fails_the_test, is_utf8-from_IsUtf8)

next_part : (i : ℕ) (parts : List (List ℕ)) (part : List ℕ) → i < length parts → part ≡ get_or parts i part → are_texts (drop i parts) ≡ (is_utf8 part && are_texts (drop (i + 1) parts))
next_part i parts part lt is =
    at_drop_more are_texts parts i part lt ∙ ap (λ (octets : List ℕ). is_utf8 octets && are_texts (drop (i + 1) parts)) (sym is)

-- a part that is no text
pub not_all : (at i : ℕ) (parts : List (List ℕ)) (part : List ℕ) → i < length parts → part ≡ get_or parts i part → is_utf8 part ≡ false → are_texts (drop i parts) ≡ are_texts parts → texts_of at parts ≡ Err (refusal whys.Name at)
not_all at i parts part lt is wrong rest =
    let none : are_texts parts ≡ false = sym rest ∙ (next_part i parts part lt is ∙ ap (λ (b : Bool). b && are_texts (drop (i + 1) parts)) wrong) in
    ap (λ (b : Bool). cond b (Ok parts) (Err (refusal whys.Name at))) none

-- one more that is one
pub one_more_is : (i : ℕ) (parts : List (List ℕ)) (part : List ℕ) → i < length parts → part ≡ get_or parts i part → is_utf8 part ≡ true → are_texts (drop i parts) ≡ are_texts parts → are_texts (drop (i + 1) parts) ≡ are_texts parts
one_more_is i parts part lt is right rest =
    ap (λ (b : Bool). b && are_texts (drop (i + 1) parts)) (sym right) ∙ (sym (next_part i parts part lt is) ∙ rest)

-- and is copied
pub one_more_copied : (i : ℕ) (parts texts : List (List ℕ)) (part text : List ℕ) → i < length parts → part ≡ get_or parts i part → text ≡ part → texts ++ drop i parts ≡ parts → (texts ++ text ∷ []) ++ drop (i + 1) parts ≡ parts
one_more_copied i parts texts part text lt is same copied =
    append_assoc texts (text ∷ []) (drop (i + 1) parts)
    ∙ (ap (λ (one : List ℕ). texts ++ one ∷ drop (i + 1) parts) (same ∙ is)
    ∙ (sym (at_drop_more (λ (rest : List (List ℕ)). texts ++ rest) parts i part lt) ∙ copied))
