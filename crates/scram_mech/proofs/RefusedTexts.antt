-- A text is refused at the end of the longest front with which some text of the grammar begins.
use Rattle.std.proofs.Common.{◌≡◌, ℕ, inl, inr, Bool, true, false, cond, List, [], ◌∷◌, ◌++◌, Result, Ok, Err, refl, sym, ap, ◌∙◌}
use Rattle.scram_mech.specs.declared.refusal.ScramRefusal.{ScramRefusal}
use Rattle.scram_mech.specs.declared.refusal.ScramRefusal.TheVariants as refusals
use Rattle.scram_mech.specs.declared.name.Escape.TheVariants.{Outside}
use Rattle.scram_mech.specs.Reading.{◌>>=◌}
use Rattle.scram_mech.specs.Name.{unescaped}
use Rattle.scram_mech.specs.Digits.{number_of}
use Rattle.scram_mech.specs.Base64.{decoded}
use Rattle.scram_mech.specs.Formats.{Segment, pieces_of, piece, is_mandatory, values_of}
use Rattle.scram_mech.specs.Places.{LongestFront}
use Rattle.scram_mech.specs.FirstText.{First, first_format, first_of}
use Rattle.scram_mech.specs.SecondText.{Second, second_format, second_of}
use Rattle.scram_mech.specs.ThirdText.{third_format, third_of}
use Rattle.scram_mech.specs.FinalText.{signature_format, error_format, begins_as_error, final_of}
use Rattle.scram_mech.specs.Grammar.{SpellsFinal, SpellsError}
use Rattle.scram_mech.specs.GrammarPlaces.{IsFirst, IsSecond, IsThird, IsFinal, LongestOf}
use Rattle.scram_mech.proofs.Pieces.{bind_ok, pieces_of-found}
use Rattle.scram_mech.proofs.ExchangeLaws.{values-read}
use Rattle.scram_mech.proofs.PlaceLaws.{longest}
use Rattle.scram_mech.proofs.SoundTexts.{first-sound, second-sound, third-sound, signature-sound, error-sound}
use Rattle.scram_mech.proofs.FoundTexts.{refused, refusal_is, by_error, by_signature, no_peer, opened, third_shown, first-found, second-found, third_values, signature_values, error_values}
use Rattle.scram_mech.proofs.OnlyTexts.{first-only, second-only, third-only, final-only, error-only}

abbrev read : List (List ℕ) → Result (List (List ℕ)) ScramRefusal
read values = Ok values

-- by the texts that a format reads
by_grammar : (Is : List ℕ → Type 0) (format : List Segment) (text : List ℕ) (at : ℕ) → ((t : List ℕ) (values : List (List ℕ)) → pieces_of format t ≡ Ok values → Is t)
    → ((t : List ℕ) → Is t → (values : List (List ℕ)) × (pieces_of format t ≡ Ok values)) → LongestFront format text at → LongestOf Is text at
by_grammar Is format text at to from l = record {
  front = l.front;
  back = l.back;
  same = l.same;
  place = l.place;
  more = l.more;
  reaches = to (l.front ++ l.more) l.values l.reaches;
  ends = λ octet others is rest t. let v = from (l.front ++ octet ∷ rest) t in l.ends octet others is rest v.0 v.1;
}

-- what is refused behind a reading is refused by it
refused_by : {A B : Type 0} (r : Result A ScramRefusal) (f : A → B) (d : ScramRefusal) → (r >>= (λ x. Ok (f x))) ≡ refused {A = B} d → r ≡ refused {A = A} d
refused_by {A} {B} (Ok x) f d e = absurd cc
refused_by {A} {B} (Err c) f d e = ap (λ (x : ScramRefusal). refused {A = A} x) (refusal_is {A = B} c d e)

plain_read : (format : List Segment) (text : List ℕ) (values : List (List ℕ)) → is_mandatory text ≡ false → pieces_of format text ≡ Ok values → values_of format text ≡ read values
unfolding values_of
plain_read format text values plain e = rw (plain, e) refl

-- ---- the first text

abbrev first_shown : List (List ℕ) → First
first_shown values = record { name = unescaped Outside (piece values 0); nonce = piece values 1 }

first_plain : (text : List ℕ) (values : List (List ℕ)) → pieces_of first_format text ≡ Ok values → is_mandatory text ≡ false
unfolding first_format
first_plain text values e = let s = pieces_of-found first_format values text e in ap is_mandatory s.1.1

first_to : (text : List ℕ) (values : List (List ℕ)) → pieces_of first_format text ≡ Ok values → IsFirst text
unfolding first_of
first_to text values e = (first_shown values, first-found text (first_shown values) (rw (plain_read first_format text values (first_plain text values e) e) refl))

first_from : (text : List ℕ) → IsFirst text → (values : List (List ℕ)) × (pieces_of first_format text ≡ Ok values)
unfolding first_of
first_from text s =
    let b = bind_ok (values_of first_format text) (λ values. Ok (first_shown values)) s.0 (first-only text s.0 s.1) in
    (b.0, values-read first_format text b.0 b.1)

pub first-refused : (text : List ℕ) (at : ℕ) → first_of text ≡ Err (refusals.Text at) → LongestOf IsFirst text at
unfolding first_of
first-refused text at e =
    by_grammar IsFirst first_format text at first_to first_from (longest first_format first-sound text at (refused_by (values_of first_format text) first_shown (refusals.Text at) e))

-- ---- the second text

abbrev second_shown : List (List ℕ) → Second
second_shown values = record { nonce = piece values 0; salt = decoded (piece values 1); rounds = number_of (piece values 2) }

second_plain : (text : List ℕ) (values : List (List ℕ)) → pieces_of second_format text ≡ Ok values → is_mandatory text ≡ false
unfolding second_format
second_plain text values e = let s = pieces_of-found second_format values text e in ap is_mandatory s.1.1

second_to : (text : List ℕ) (values : List (List ℕ)) → pieces_of second_format text ≡ Ok values → IsSecond text
unfolding second_of
second_to text values e = (second_shown values, second-found text (second_shown values) (rw (plain_read second_format text values (second_plain text values e) e) refl))

second_from : (text : List ℕ) → IsSecond text → (values : List (List ℕ)) × (pieces_of second_format text ≡ Ok values)
unfolding second_of
second_from text s =
    let b = bind_ok (values_of second_format text) (λ values. Ok (second_shown values)) s.0 (second-only text s.0 s.1) in
    (b.0, values-read second_format text b.0 b.1)

pub second-refused : (text : List ℕ) (at : ℕ) → second_of text ≡ Err (refusals.Text at) → LongestOf IsSecond text at
unfolding second_of
second-refused text at e =
    by_grammar IsSecond second_format text at second_to second_from (longest second_format second-sound text at (refused_by (values_of second_format text) second_shown (refusals.Text at) e))

-- ---- the third text

third_to : (text : List ℕ) (values : List (List ℕ)) → pieces_of third_format text ≡ Ok values → IsThird text
third_to text values e = let s = pieces_of-found third_format values text e in (third_shown values text, third_values values text s.0 s.1)

third_from : (text : List ℕ) → IsThird text → (values : List (List ℕ)) × (pieces_of third_format text ≡ Ok values)
unfolding third_of
third_from text s =
    let b = bind_ok (values_of third_format text) (λ values. Ok (third_shown values text)) s.0 (third-only text s.0 s.1) in
    (b.0, values-read third_format text b.0 b.1)

pub third-refused : (text : List ℕ) (at : ℕ) → third_of text ≡ Err (refusals.Text at) → LongestOf IsThird text at
unfolding third_of
third-refused text at e =
    by_grammar IsThird third_format text at third_to third_from
    (longest third_format third-sound text at (refused_by (values_of third_format text) (λ values. third_shown values text) (refusals.Text at) e))

-- ---- the final text

signature_begins : (signature text : List ℕ) → SpellsFinal signature text → begins_as_error text ≡ false
signature_begins signature text s = ap begins_as_error s.same

error_begins : (text : List ℕ) → SpellsError text → begins_as_error text ≡ true
error_begins text s = ap begins_as_error s.same

signature_by : (text signature : List ℕ) → begins_as_error text ≡ false → final_of text ≡ Ok signature → by_signature text ≡ Ok signature
unfolding final_of
signature_by text signature begins e = rw begins at e

error_by : (text : List ℕ) → begins_as_error text ≡ true → final_of text ≡ refused {A = List ℕ} refusals.PeerError → by_error text ≡ refused {A = List ℕ} refusals.PeerError
unfolding final_of
error_by text begins e = rw begins at e

signature_from : (text signature : List ℕ) → SpellsFinal signature text → (values : List (List ℕ)) × (pieces_of signature_format text ≡ Ok values)
signature_from text signature s =
    let e = signature_by text signature (signature_begins signature text s) (final-only text signature s) in
    let b = bind_ok (values_of signature_format text) (λ values. Ok (decoded (piece values 0))) signature e in
    (b.0, values-read signature_format text b.0 b.1)

error_from : (text : List ℕ) → SpellsError text → (values : List (List ℕ)) × (pieces_of error_format text ≡ Ok values)
error_from text s =
    let b = opened (values_of error_format text) (no_peer error_format text) (error_by text (error_begins text s) (error-only text s)) in
    (b.0, values-read error_format text b.0 b.1)

clash : (b : Bool) → b ≡ false → b ≡ true → ⊥
clash b e f = cc

same_begin : (front : List ℕ) (octet : ℕ) (a b : List ℕ) → begins_as_error (front ++ octet ∷ a) ≡ begins_as_error (front ++ octet ∷ b)
same_begin [] octet a b = refl
same_begin (x ∷ xs) octet a b = refl

-- a text that goes on as another one begins as it does
begins_so : (text front back : List ℕ) (octet : ℕ) (others rest : List ℕ) → text ≡ front ++ back → back ≡ octet ∷ others → begins_as_error (front ++ octet ∷ rest) ≡ begins_as_error text
begins_so text front back octet others rest e f = same_begin front octet rest others ∙ ap begins_as_error (sym (e ∙ ap (λ (os : List ℕ). front ++ os) f))

error_longest : (text : List ℕ) (at : ℕ) → begins_as_error text ≡ true → LongestFront error_format text at → LongestOf IsFinal text at
error_longest text at begins l = record {
  front = l.front;
  back = l.back;
  same = l.same;
  place = l.place;
  more = l.more;
  reaches = let s = pieces_of-found error_format l.values (l.front ++ l.more) l.reaches in inr (error_values l.values (l.front ++ l.more) s.0 s.1);
  ends = λ octet others is rest t. elim t [
    | inl s ↦ clash (begins_as_error (l.front ++ octet ∷ rest)) (signature_begins s.0 (l.front ++ octet ∷ rest) s.1) (begins_so text l.front l.back octet others rest l.same is ∙ begins)
    | inr s ↦ let v = error_from (l.front ++ octet ∷ rest) s in l.ends octet others is rest v.0 v.1
  ];
}

signature_longest : (text : List ℕ) (at : ℕ) → begins_as_error text ≡ false → LongestFront signature_format text at → LongestOf IsFinal text at
signature_longest text at begins l = record {
  front = l.front;
  back = l.back;
  same = l.same;
  place = l.place;
  more = l.more;
  reaches = let s = pieces_of-found signature_format l.values (l.front ++ l.more) l.reaches in inl (decoded (piece l.values 0), signature_values l.values (l.front ++ l.more) s.0 s.1);
  ends = λ octet others is rest t. elim t [
    | inl s ↦ let v = signature_from (l.front ++ octet ∷ rest) s.0 s.1 in l.ends octet others is rest v.0 v.1
    | inr s ↦ clash (begins_as_error (l.front ++ octet ∷ rest)) (begins_so text l.front l.back octet others rest l.same is ∙ begins) (error_begins (l.front ++ octet ∷ rest) s)
  ];
}

error_refused : (r : Result (List (List ℕ)) ScramRefusal) (at : ℕ) → (r >>= (λ values. refused {A = List ℕ} refusals.PeerError)) ≡ refused {A = List ℕ} (refusals.Text at) → r ≡ refused {A = List (List ℕ)} (refusals.Text at)
error_refused (Ok values) at e = absurd cc
error_refused (Err c) at e = ap (λ (x : ScramRefusal). refused {A = List (List ℕ)} x) (refusal_is {A = List ℕ} c (refusals.Text at) e)

final_by : (text : List ℕ) (at : ℕ) (b : Bool) → begins_as_error text ≡ b → cond b (by_error text) (by_signature text) ≡ refused {A = List ℕ} (refusals.Text at) → LongestOf IsFinal text at
final_by text at true begins e = error_longest text at begins (longest error_format error-sound text at (error_refused (values_of error_format text) at e))
final_by text at false begins e =
    signature_longest text at begins (longest signature_format signature-sound text at (refused_by (values_of signature_format text) (λ values. decoded (piece values 0)) (refusals.Text at) e))

pub final-refused : (text : List ℕ) (at : ℕ) → final_of text ≡ Err (refusals.Text at) → LongestOf IsFinal text at
unfolding final_of
final-refused text at e = final_by text at (begins_as_error text) refl e
