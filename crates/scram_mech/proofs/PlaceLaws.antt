-- A text is refused at the end of the longest front with which some text of its format begins.
use Rattle.std.proofs.Common.{◌≡◌, ℕ, ◌-◌, inl, inr, Bool, true, false, cond, List, [], ◌∷◌, ◌++◌, length, Result, Ok, Err, refl, sym, ap, ◌∙◌, arith, length-append}
use Rattle.scram_mech.specs.declared.refusal.Stuck.{Stuck}
use Rattle.scram_mech.specs.declared.refusal.ScramRefusal.{ScramRefusal}
use Rattle.scram_mech.specs.declared.refusal.ScramRefusal.TheVariants as refusals
use Rattle.scram_mech.specs.Reading.{◌>>=◌, in_text, stuck_at}
use Rattle.scram_mech.specs.Formats.{Segment, pieces, pieces_of, is_mandatory, values_of}
use Rattle.scram_mech.specs.Places.{LongestFront}
use Rattle.scram_mech.proofs.Pieces.{pieces_of-only}
use Rattle.scram_mech.proofs.Places.{Sound, pieces-stuck, bind_err, refused_pieces}

abbrev pub refused_values : ScramRefusal → Result (List (List ℕ)) ScramRefusal
refused_values refusal = Err refusal

abbrev stuck_values : Stuck → Result (List (List ℕ)) Stuck
stuck_values stuck = Err stuck

place_is : (a b : ℕ) → refused_values (refusals.Text a) ≡ refused_values (refusals.Text b) → a ≡ b
place_is a b e = cc

no_text : (at : ℕ) → refused_values refusals.Mandatory ≡ refused_values (refusals.Text at) → ⊥
no_text at e = cc

text_stuck : (text : List ℕ) (r : Result (List (List ℕ)) Stuck) (at : ℕ) → in_text text r ≡ refused_values (refusals.Text at) → (stuck : Stuck) × (r ≡ stuck_values stuck) × (length text - stuck.left ≡ at)
text_stuck text (Ok values) at e = absurd cc
text_stuck text (Err stuck) at e = (stuck, refl, place_is (length text - stuck.left) at e)

stuck_by : (format : List Segment) (text : List ℕ) (at : ℕ) (b : Bool) → cond b (refused_values refusals.Mandatory) (in_text text (pieces_of format text)) ≡ refused_values (refusals.Text at) → (stuck : Stuck) × (pieces_of format text ≡ stuck_values stuck) × (length text - stuck.left ≡ at)
stuck_by format text at true e = absurd (no_text at e)
stuck_by format text at false e = text_stuck text (pieces_of format text) at e

values-stuck : (format : List Segment) (text : List ℕ) (at : ℕ) → values_of format text ≡ refused_values (refusals.Text at) → (stuck : Stuck) × (pieces_of format text ≡ stuck_values stuck) × (length text - stuck.left ≡ at)
unfolding values_of
values-stuck format text at e = stuck_by format text at (is_mandatory text) e

pieces_err : (format : List Segment) (text : List ℕ) (stuck : Stuck) → pieces_of format text ≡ stuck_values stuck → pieces format text ≡ refused_pieces stuck
unfolding pieces_of
pieces_err format text stuck e =
    elim (bind_err (pieces format text) (λ x. Ok x.0) stuck e) [
      | inl a ↦ a
      | inr b ↦ absurd cc
    ]

not_read : (format : List Segment) (text rest : List ℕ) (values : List (List ℕ)) → pieces format text ≡ stuck_at rest → pieces_of format text ≡ Ok values → ⊥
unfolding pieces_of
not_read format text rest values e f = let g : stuck_values (record { left = length rest }) ≡ Ok values = sym (ap (λ (r : Result (List (List ℕ) × List ℕ) Stuck). r >>= (λ x. Ok x.0)) e) ∙ f in cc

pub longest : (format : List Segment) → Sound format → (text : List ℕ) (at : ℕ) → values_of format text ≡ refused_values (refusals.Text at) → LongestFront format text at
longest format sound text at e =
    let v = values-stuck format text at e in
    let s = pieces-stuck format sound text v.0 (pieces_err format text v.0 v.1) in
    record {
      front = s.front;
      back = s.back;
      same = s.same;
      place = omega (arith, v.2, s.place, ap length s.same, length-append s.front s.back);
      more = s.more;
      values = s.values;
      reaches = pieces_of-only format s.values (s.front ++ s.more) [] s.reaches;
      ends = λ octet others is rest read f. not_read format (s.front ++ octet ∷ rest) (octet ∷ rest) read (s.stays octet others is rest) f;
    }
