-- A file whose last gate is open while its record is cut short.
use Rattle.std.proofs.Common.{◌≡◌, ◌≢◌, inl, inr, ℕ, zero, suc, ◌+◌, ◌*◌, ◌<◌, ◌≤◌, true, false, nat_le, if◌then◌else◌, List, [], ◌∷◌, ◌++◌, length, take, drop, get_or, refl, sym, ◌∙◌, ap, subst, arith, length-append, length-drop, append_assoc, take-append-drop}
use Rattle.std.proofs.lemmas.List.{take_at, drop_at, drop_more, get_or_at}
use Rattle.std.proofs.lemmas.Bool.{cases_Bool, lt-ltb, leb-true}
use Rattle.replay_journal.specs.Disks.{Written, Torn, Follows, Only}
use Rattle.replay_journal.specs.Files.{head, starts_open, bodies, counted, blocks, front, Sized, Rests}
use Rattle.replay_journal.proofs.Blocks.{length-blocks, length-front}
use Rattle.replay_journal.proofs.Scanning.{bodies-shut, starts-long}
use Rattle.replay_journal.proofs.Parts.{Read, read}

-- a file that begins as a journal: its records, the gate behind them, and what follows
pub record Ends (file : List ℕ) : Type 0 where
  pub gate : ℕ
  pub tail : List ℕ
  pub split : file ≡ front (counted file) ++ gate ∷ tail
  pub sized : Sized (counted file)
  pub shut : starts_open (gate ∷ tail) ≡ false

pub ends : (file : List ℕ) → take 8 file ≡ head → 9 ≤ length file → Ends file
ends file begins long = from_ found.end (found.some (omega (arith, length-drop 8 file, long))) found.split found.shut
  where
    found : Read (drop 8 file) (counted file)
    found = read (length file) (drop 8 file) (omega (arith, length-drop 8 file))

    from_ : (end : List ℕ) → 0 < length end → drop 8 file ≡ blocks (counted file) ++ end → starts_open end ≡ false → Ends file
    from_ [] some split shut = absurd (omega (arith, some))
    from_ (g ∷ tail) some split shut = record {
      gate = g;
      tail = tail;
      split = sym (take-append-drop 8 file) ∙ ap (λ (l : List ℕ). l ++ drop 8 file) begins ∙ ap (λ (l : List ℕ). head ++ l) split ∙ sym (append_assoc head (blocks (counted file)) (g ∷ tail));
      sized = found.sized;
      shut = shut;
    }

-- a file that is too short for a record
pub counted-short : (file : List ℕ) → length file ≤ 53 → counted file ≡ []
counted-short file short = bodies-shut (length file) (drop 8 file) (shut (drop 8 file) (omega (arith, length-drop 8 file, short)))
  where
    shut : (rest : List ℕ) → length rest ≤ 45 → starts_open rest ≡ false
    shut rest few = elim (cases_Bool (starts_open rest)) [
      | inr not_ ↦ not_
      | inl opens ↦ absurd (omega (arith, starts-long rest opens, few))
    ]

-- what an opening reads: the file, or an empty journal in the place of a short one
pub read-same : (old file : List ℕ) → file ≡ (if nat_le (length old) 9 then head ++ 0 ∷ [] else old) → counted file ≡ counted old
read-same old file is = elim (cases_Bool (nat_le (length old) 9)) [
  | inl short ↦
      let made : file ≡ head ++ 0 ∷ [] = rw short at is in
      ap counted made ∙ sym (counted-short old (omega (arith, leb-true (length old) 9 short)))
  | inr long ↦ let same : file ≡ old = rw long at is in ap counted same
]

-- records, and an end at which none counts
bodies-end : (most : ℕ) (records : List (List ℕ)) (end : List ℕ) → Sized records → length records ≤ most → 0 < length end → starts_open end ≡ false → bodies most (blocks records ++ end) ≡ records
bodies-end most [] end sized few some shut = bodies-shut most end shut
bodies-end zero (b ∷ more) end sized few some shut = absurd (omega (arith, few))
bodies-end (suc most) (b ∷ more) end sized few some shut =
    let rest = blocks more ++ end in
    let here : blocks (b ∷ more) ++ end ≡ 0x4a ∷ (b ++ rest) = ap (λ (l : List ℕ). 0x4a ∷ l) (append_assoc b (blocks more) end) in
    let long : 45 < length (0x4a ∷ (b ++ rest)) = omega (arith, length-append b rest, length-append (blocks more) end, sized.0, some) in
    let opens : starts_open (0x4a ∷ (b ++ rest)) ≡ true = rw (lt-ltb 45 (length (0x4a ∷ (b ++ rest))) long) refl in
    let back : drop 45 (0x4a ∷ (b ++ rest)) ≡ rest = drop_at (0x4a ∷ b) rest 45 (omega (arith, sized.0)) in
    ap (bodies (suc most)) here
    ∙ rw (opens, take_at b rest 44 sized.0, back) (ap (λ (l : List (List ℕ)). b ∷ l) (bodies-end most more end sized.1 (omega (arith, few)) some shut))

-- a gate behind the records that is closed, or that was open without a whole record
still-shut : (gate gate' : ℕ) (tail : List ℕ) → gate ≡ 0x4a → starts_open (gate ∷ tail) ≡ false → starts_open (gate' ∷ tail) ≡ false
still-shut gate gate' tail opened shut = elim (cases_Bool (starts_open (gate' ∷ tail))) [
  | inr not_ ↦ not_
  | inl starts ↦
      let long : 45 < length (0x4a ∷ tail) = omega (arith, starts-long (gate' ∷ tail) starts) in
      let opens : starts_open (0x4a ∷ tail) ≡ true = rw (lt-ltb 45 (length (0x4a ∷ tail)) long) refl in
      let never : true ≡ false = sym opens ∙ subst (λ (g : ℕ). starts_open (g ∷ tail) ≡ false) opened shut in
      cc
]

module _ (file : List ℕ) (count : ℕ) (counts : count ≡ length (counted file)) (e : Ends file) where
  size : length (front (counted file)) ≡ 8 + 45 * count
  size = omega (arith, length-front (counted file) e.sized, counts)

  pub gate-there : 8 + 45 * count < length file
  gate-there = omega (arith, ap length e.split, length-append (front (counted file)) (e.gate ∷ e.tail), size)

  pub gate-is : (d : ℕ) → get_or file (8 + 45 * count) d ≡ e.gate
  gate-is d = ap (λ (l : List ℕ). get_or l (8 + 45 * count) d) e.split ∙ get_or_at (front (counted file)) e.gate e.tail d (8 + 45 * count) size

  pub shut-rests : e.gate ≢ 0x4a → Rests (counted file) file
  shut-rests shut = record { gate = e.gate; tail = e.tail; split = e.split; sized = e.sized; shut = shut }

  pub cut-rests : (c : List ℕ) → Written file (8 + 45 * count) (0 ∷ []) c → Rests (counted file) c
  cut-rests c written =
      let at : ℕ = 8 + 45 * count in
      let start : take at file ≡ front (counted file) = ap (λ (l : List ℕ). take at l) e.split ∙ take_at (front (counted file)) (e.gate ∷ e.tail) at size in
      let apart : file ≡ (front (counted file) ++ e.gate ∷ []) ++ e.tail = e.split ∙ sym (append_assoc (front (counted file)) (e.gate ∷ []) e.tail) in
      let back : drop (at + 1) file ≡ e.tail = ap (λ (l : List ℕ). drop (at + 1) l) apart ∙ drop_at (front (counted file) ++ e.gate ∷ []) e.tail (at + 1) (omega (arith, size, length-append (front (counted file)) (e.gate ∷ []))) in
      record {
        gate = 0;
        tail = e.tail;
        split = written ∙ ap (λ (l : List ℕ). l ++ (0 ∷ []) ++ drop (at + 1) file) start ∙ append_assoc (front (counted file)) (0 ∷ []) (drop (at + 1) file) ∙ ap (λ (l : List ℕ). front (counted file) ++ 0 ∷ l) back;
        sized = e.sized;
        shut = λ is. absurd (omega (arith, is));
      }

  -- a write of the gate that a crash cuts short
  pub cut-torn : (c : List ℕ) → e.gate ≡ 0x4a → Torn (8 + 45 * count) 1 file c → counted c ≡ counted file
  cut-torn c opened torn =
      let at : ℕ = 8 + 45 * count in
      let records = counted file in
      let gate : ℕ = get_or c at 0 in
      let start : take at c ≡ front records = torn.before ∙ ap (λ (l : List ℕ). take at l) e.split ∙ take_at (front records) (e.gate ∷ e.tail) at size in
      let apart : file ≡ (front records ++ e.gate ∷ []) ++ e.tail = e.split ∙ sym (append_assoc (front records) (e.gate ∷ []) e.tail) in
      let back : drop (at + 1) file ≡ e.tail = ap (λ (l : List ℕ). drop (at + 1) l) apart ∙ drop_at (front records ++ e.gate ∷ []) e.tail (at + 1) (omega (arith, size, length-append (front records) (e.gate ∷ []))) in
      let rest : drop at c ≡ gate ∷ e.tail = drop_more c at 0 (omega (arith, torn.no_shorter, gate-there)) ∙ ap (λ (l : List ℕ). gate ∷ l) (torn.after ∙ back) in
      let whole : c ≡ front records ++ gate ∷ e.tail = sym (take-append-drop at c) ∙ ap (λ (l : List ℕ). l ++ drop at c) start ∙ ap (λ (l : List ℕ). front records ++ l) rest in
      let again : c ≡ head ++ (blocks records ++ gate ∷ e.tail) = whole ∙ append_assoc head (blocks records) (gate ∷ e.tail) in
      let few : length records ≤ length (head ++ (blocks records ++ gate ∷ e.tail)) = omega (arith, length-append (blocks records) (gate ∷ e.tail), length-blocks records e.sized) in
      ap counted again ∙ bodies-end (length (head ++ (blocks records ++ gate ∷ e.tail))) records (gate ∷ e.tail) e.sized few (omega arith) (still-shut e.gate gate e.tail opened e.shut)

  pub cut-crash : (old new : List ℕ → Type 0) → e.gate ≡ 0x4a → Only file old → Follows (Torn (8 + 45 * count) 1) old new → (c : List ℕ) → new c → counted c ≡ counted file
  cut-crash old new opened only follows c left =
      let from = follows c left in
      cut-torn c opened (subst (λ f. Torn (8 + 45 * count) 1 f c) (only from.0 from.1) from.2)
