-- The realm and the components of a principal are no longer than its text form.
use Rattle.std.proofs.Common.{◌≡◌, ℕ, ◌+◌, ◌≤◌, Bool, true, false, cond, List, [], ◌∷◌, length, Option, Some, None, Ok, Err, nat_le, refl, arith, length-append}
use Rattle.gss_base.specs.declared.principal.NameRefusal.TheVariants.{PartCount, TooLong}
use Rattle.gss_base.specs.Principal.{is_mark, quoted, further, joined, text_form, zero_from, is_count, is_named, is_found, name_unless_zero}
use Rattle.files_command.specs.Fields.{AreShort}

quoted_step : (b : Bool) (o : ℕ) (q os : List ℕ) → length os ≤ length q → length (o ∷ os) ≤ length (cond b (92 ∷ o ∷ q) (o ∷ q))
quoted_step true o q os less = omega arith
quoted_step false o q os less = omega arith

quoted_longer : (t : List ℕ) → length t ≤ length (quoted t)
quoted_longer [] = omega arith
quoted_longer (o ∷ os) = quoted_step (is_mark o) o (quoted os) os (quoted_longer os)

further_short : (parts : List (List ℕ)) (most : ℕ) → length (further parts) ≤ 255 → AreShort parts
further_short [] most less = tt
further_short (part ∷ parts) most less =
    let own = quoted_longer part in
    let both = length-append (quoted part) (further parts) in
    (omega arith, further_short parts most (omega arith))

joined_short : (parts : List (List ℕ)) → length (joined parts) ≤ 255 → AreShort parts
joined_short [] less = tt
joined_short (part ∷ parts) less =
    let own = quoted_longer part in
    let both = length-append (quoted part) (further parts) in
    (omega arith, further_short parts 255 (omega arith))

pub record FitsName (realm : List ℕ) (parts : List (List ℕ)) : Type 0 where
  pub realm_short : length realm ≤ 255
  pub count : length parts ≤ 8
  pub parts_short : AreShort parts

form_short : (realm : List ℕ) (parts : List (List ℕ)) → is_count parts ≡ true → nat_le (length (text_form realm parts)) 255 ≡ true → FitsName realm parts
form_short realm parts few short =
    let all : length (text_form realm parts) ≤ 255 = grind arith in
    let both : length (text_form realm parts) ≡ length (joined parts) + length {A = ℕ} (64 ∷ quoted realm) = length-append (joined parts) (64 ∷ quoted realm) in
    let own = quoted_longer realm in
    record { realm_short = omega arith; count = grind arith; parts_short = joined_short parts (omega arith) }

found_within : (realm : List ℕ) (parts : List (List ℕ)) (b : Bool) → is_found (cond b (Ok (record { realm = realm; parts = parts })) (Err TooLong)) ≡ true → b ≡ true
found_within realm parts true e = refl
found_within realm parts false e = absurd cc

found_unless : (realm : List ℕ) (parts : List (List ℕ)) (z : Option ℕ) → is_found (name_unless_zero z realm parts) ≡ true → nat_le (length (text_form realm parts)) 255 ≡ true
found_unless realm parts (Some at) e = absurd cc
found_unless realm parts None e = found_within realm parts (nat_le (length (text_form realm parts)) 255) e

found_by : (realm : List ℕ) (parts : List (List ℕ)) (c : Bool) (z : Option ℕ) → is_found (cond c (name_unless_zero z realm parts) (Err PartCount)) ≡ true → (c ≡ true) × (nat_le (length (text_form realm parts)) 255 ≡ true)
found_by realm parts true z e = (refl, found_unless realm parts z e)
found_by realm parts false z e = absurd cc

pub fits_name : (realm : List ℕ) (parts : List (List ℕ)) → is_named realm parts ≡ true → FitsName realm parts
fits_name realm parts named =
    let t = found_by realm parts (is_count parts) (zero_from 0 (text_form realm parts)) named in
    form_short realm parts t.0 t.1
