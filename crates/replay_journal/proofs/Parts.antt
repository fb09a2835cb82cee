-- Each file that begins as a journal is its records, and an end that counts for nothing.
use Rattle.std.proofs.Common.{◌≡◌, inl, inr, ℕ, zero, suc, ◌<◌, ◌≤◌, true, false, ◌==◌, nat_lt, List, [], ◌∷◌, ◌++◌, length, take, drop, get_or, refl, sym, ◌∙◌, ap, arith, length-drop, length-take-le, append_assoc, take-append-drop}
use Rattle.std.proofs.lemmas.List.{drop_more, drop-drop}
use Rattle.std.proofs.lemmas.Bool.{cases_Bool, and_parts}
use Rattle.std.proofs.lemmas.Bool.Decides.{nat_tests}
use Rattle.replay_journal.specs.Files.{starts_open, bodies, blocks, Sized}
use Rattle.replay_journal.proofs.Scanning.{starts-long}

eqb-is : (a b : ℕ) → (a == b) ≡ true → a ≡ b
eqb-is a b is = grind (arith, nat_tests)

-- an open gate stands first
pub first-open : (rest : List ℕ) → starts_open rest ≡ true → rest ≡ 0x4a ∷ drop 1 rest
first-open rest opens =
    drop_more rest 0 0 (omega (arith, starts-long rest opens))
    ∙ ap (λ (g : ℕ). g ∷ drop 1 rest) (eqb-is (get_or rest 0 0) 0x4a (and_parts (get_or rest 0 0 == 0x4a) (nat_lt 45 (length rest)) opens).0)

-- what a reader reads, and the rest
pub record Read (rest : List ℕ) (records : List (List ℕ)) : Type 0 where
  pub end : List ℕ
  pub split : rest ≡ blocks records ++ end
  pub sized : Sized records
  pub shut : starts_open end ≡ false
  pub some : 0 < length rest → 0 < length end

pub read : (most : ℕ) (rest : List ℕ) → length rest ≤ most → Read rest (bodies most rest)
read zero rest few = record { end = rest; split = refl; sized = tt; shut = short rest (omega (arith, few)); some = λ some. some }
  where
    short : (l : List ℕ) → length l ≤ 0 → starts_open l ≡ false
    short [] le = refl
    short (a ∷ l) le = absurd (omega (arith, le))
read (suc most) rest few = elim (cases_Bool (starts_open rest)) [
  | inr shut ↦ rw shut record { end = rest; split = refl; sized = tt; shut = shut; some = λ some. some }
  | inl opens ↦
      let long : 45 < length rest = starts-long rest opens in
      let later : Read (drop 45 rest) (bodies most (drop 45 rest)) = read most (drop 45 rest) (omega (arith, length-drop 45 rest, few, long)) in
      let gate : get_or rest 0 0 ≡ 0x4a = eqb-is (get_or rest 0 0) 0x4a (and_parts (get_or rest 0 0 == 0x4a) (nat_lt 45 (length rest)) opens).0 in
      let body : List ℕ = take 44 (drop 1 rest) in
      let back : drop 44 (drop 1 rest) ≡ drop 45 rest = drop-drop 44 1 rest in
      rw opens record {
        end = later.end;
        split = drop_more rest 0 0 (omega (arith, long))
            ∙ ap (λ (g : ℕ). g ∷ drop 1 rest) gate
            ∙ ap (λ (l : List ℕ). 0x4a ∷ l) (sym (take-append-drop 44 (drop 1 rest)) ∙ ap (λ (l : List ℕ). body ++ l) (back ∙ later.split) ∙ sym (append_assoc body (blocks (bodies most (drop 45 rest))) later.end));
        sized = (length-take-le 44 (drop 1 rest) (omega (arith, length-drop 1 rest, long)), later.sized);
        shut = later.shut;
        some = λ some. later.some (omega (arith, length-drop 45 rest, long));
      }
]
