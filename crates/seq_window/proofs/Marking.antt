-- What the words of a window show, over plain lists.
use Rattle.std.proofs.Common.{◌≡◌, ◌≢◌, ℕ, ◌+◌, ◌-◌, ◌*◌, ◌/◌, ◌%◌, ◌<◌, ◌≤◌, Bool, true, false, ◌==◌, ◌||◌, List, [], ◌∷◌, min, max, length, get_or, set, refl, sym, ◌∙◌, ap, inl, inr, arith, get_or-set_same, get_or-set_other, length-set, w64}
use Rattle.std.specs.Int.{bit_at}
use Rattle.std.proofs.lemmas.List.FromFn.{get_or-map-range_with_len}
use Rattle.std.proofs.lemmas.Bool.{cases_eq, cases_lt, eq-eqb, ne_eqb, le-leb, lt-leb, le-ltb, or_from, or_left}
use Rattle.std.proofs.lemmas.Nat.{div-add-mod'}
use Rattle.std.proofs.lemmas.Nat.Bits.{bit_at-zero, bit_at_set_same, bit_at_set_other}
use Rattle.std.proofs.Math.Nat.{mul-le-mul_right}
use Rattle.seq_window.specs.declared.window.Verdict.TheVariants.{Below, Repeat, Fresh}
use Rattle.seq_window.specs.Marks.{Seen, Shows, IsFresh, greatest, is_in, is_marked, verdict_of}
use Rattle.seq_window.specs.Words.{in_words, with_bit, seen_of, IsWhole}

-- above the floor, from the last number down, the window says what the bit of a number says
pub marked-words : (width last : ℕ) (words : List ℕ) (n : ℕ) → n ≤ last → last < n + width
    → is_marked (seen_of width last words) n ≡ in_words words n
marked-words width last words n low above =
    let back : last - (last - n) ≡ n = omega arith in
    let small : last - n < min width (last + 1) = omega arith in
    rw (le-leb n last low)
    (get_or-map-range_with_len (λ k. in_words words (last - k)) 0 (min width (last + 1)) (last - n) (last - n) false small (omega arith)
    ∙ ap (in_words words) back)

-- above the last number nothing is marked
pub unmarked-past : (width last : ℕ) (words : List ℕ) (n : ℕ) → last < n → is_marked (seen_of width last words) n ≡ false
unmarked-past width last words n past = rw (lt-leb n last past) refl

-- a number above the greatest of a list isn't in it
pub not-in : (n : ℕ) (ms : List ℕ) → greatest ms < n → is_in n ms ≡ false
not-in n [] h = refl
not-in n (m ∷ ms) h =
    or_from (n == m) (is_in n ms) (ne_eqb n m (λ e. omega (arith, e, h))) (not-in n ms (omega (arith, h)))

-- two numbers with one remainder are a width apart
a_width_apart : (w a b : ℕ) → a < b → a % w ≡ b % w → a + w ≤ b
a_width_apart w a b lt same =
    elim (cases_lt (a / w) (b / w)) [
      | inl above ↦
          let rows : (a / w + 1) * w ≤ b / w * w = mul-le-mul_right w (omega arith) in
          omega (arith, div-add-mod' a w, div-add-mod' b w, same, rows)
      | inr below ↦
          let rows : b / w * w ≤ a / w * w = mul-le-mul_right w below in
          absurd (omega (arith, div-add-mod' a w, div-add-mod' b w, same, rows, lt))
    ]

-- blocks less than the ring apart have places of their own
pub places-apart : (a b : ℕ) → a ≢ b → a < b + 17 → b < a + 17 → a % 17 ≢ b % 17
places-apart a b other near far same =
    elim (cases_lt a b) [
      | inl less ↦ omega (arith, a_width_apart 17 a b less same, far)
      | inr more ↦ omega (arith, a_width_apart 17 b a (omega (arith, more, other)) (sym same), near)
    ]

-- numbers of one block with one bit are one
pub bits-apart : (m n : ℕ) → m ≢ n → m / 64 ≡ n / 64 → m % 64 ≢ n % 64
bits-apart m n other block same = other (omega (arith, div-add-mod' m 64, div-add-mod' n 64, block, same))

-- numbers less than the widest window apart lie in blocks less than the ring apart
pub blocks-near : (m n : ℕ) → m < n + 1024 → m / 64 < n / 64 + 17
blocks-near m n near = omega (arith, div-add-mod' m 64, div-add-mod' n 64, near)

pub blocks-rise : (m n : ℕ) → m ≤ n → m / 64 ≤ n / 64
blocks-rise m n le = omega (arith, div-add-mod' m 64, div-add-mod' n 64, le)

-- the bit that is set, and all others
pub bit-same : (words : List ℕ) (n : ℕ) → length words ≡ 17 → in_words (with_bit words n) n ≡ true
bit-same words n ring =
    let place : n / 64 % 17 < length words = omega (arith, ring) in
    ap (λ (w : ℕ). bit_at w (n % 64) == 1) (get_or-set_same words (n / 64 % 17) _ 0 place)
    ∙ ap (λ (b : ℕ). b == 1) (bit_at_set_same w64 (get_or words (n / 64 % 17) 0) (n % 64) (omega arith))

pub bit-other : (words : List ℕ) (n m : ℕ) → length words ≡ 17 → m ≢ n → m / 64 < n / 64 + 17 → n / 64 < m / 64 + 17
    → in_words (with_bit words n) m ≡ in_words words m
bit-other words n m ring other near far =
    let place : n / 64 % 17 < length words = omega (arith, ring) in
    elim (cases_eq (m / 64) (n / 64)) [
      | inl block ↦
          ap (λ (p : ℕ). bit_at (get_or (with_bit words n) (p % 17) 0) (m % 64) == 1) block
          ∙ ap (λ (w : ℕ). bit_at w (m % 64) == 1) (get_or-set_same words (n / 64 % 17) _ 0 place)
          ∙ ap (λ (b : ℕ). b == 1) (bit_at_set_other w64 (get_or words (n / 64 % 17) 0) (n % 64) (omega arith) (m % 64) (bits-apart m n other block))
          ∙ ap (λ (p : ℕ). bit_at (get_or words (p % 17) 0) (m % 64) == 1) (sym block)
      | inr apart ↦
          ap (λ (w : ℕ). bit_at w (m % 64) == 1) (get_or-set_other words (n / 64 % 17) (m / 64 % 17) _ 0 (places-apart (m / 64) (n / 64) apart near far))
    ]

-- words that were moved on from one block to another: what lies in the ring still, and what is new in it
pub record Moved (last next : ℕ) (old new : List ℕ) : Type 0 where
  pub ring : length new ≡ 17
  pub kept : (b : ℕ) → b ≤ last → next < b + 17 → get_or new (b % 17) 0 ≡ get_or old (b % 17) 0
  pub cleared : (b : ℕ) → last < b → b ≤ next → next < b + 17 → get_or new (b % 17) 0 ≡ 0

-- a number at most the last one keeps its bit
pub moved-low : (last n m : ℕ) (old new : List ℕ) → Moved (last / 64) (n / 64) old new → m ≤ last → n / 64 < m / 64 + 17
    → in_words new m ≡ in_words old m
moved-low last n m old new moved low near =
    ap (λ (w : ℕ). bit_at w (m % 64) == 1) (moved.kept (m / 64) (blocks-rise m last low) near)

-- a number above the last one has none
pub moved-high : (width last n m : ℕ) (old new : List ℕ) → IsWhole width last old → Moved (last / 64) (n / 64) old new
    → last < m → m / 64 ≤ max (n / 64) (last / 64) → n / 64 < m / 64 + 17 → in_words new m ≡ false
moved-high width last n m old new whole moved past top near =
    elim (cases_eq (m / 64) (last / 64)) [
      | inl same ↦
          ap (λ (w : ℕ). bit_at w (m % 64) == 1) (moved.kept (m / 64) (omega (arith, same)) near)
          ∙ whole.above m past same
      | inr other ↦
          let after : last / 64 < m / 64 = omega (arith, other, blocks-rise last m (omega (arith, past))) in
          ap (λ (w : ℕ). bit_at w (m % 64) == 1) (moved.cleared (m / 64) after (omega (arith, after, top)) near)
          ∙ ap (λ (b : ℕ). b == 1) (bit_at-zero (m % 64))
    ]

-- the words after one more number
pub words-more : (width last n : ℕ) (old new : List ℕ) → IsWhole width last old → last < n + width
    → Moved (last / 64) (n / 64) old new → IsWhole width (max n last) (with_bit new n)
words-more width last n old new whole floor moved = record {
  some = whole.some;
  bounded = whole.bounded;
  words_of = length-set new (n / 64 % 17) _ ∙ moved.ring;
  above = λ m past block.
      let wide : width ≤ 1024 = whole.bounded in
      let near : m / 64 < n / 64 + 17 = omega (arith, block, blocks-near last n (omega (arith, floor, wide)), blocks-rise (max n last) m (omega (arith, past))) in
      let far : n / 64 < m / 64 + 17 = omega (arith, blocks-rise n m (omega (arith, past))) in
      let top : m / 64 ≤ max (n / 64) (last / 64) = omega (arith, block) in
      bit-other new n m moved.ring (λ e. omega (arith, e, past)) near far
      ∙ moved-high width last n m old new whole moved (omega (arith, past)) top far;
}

pub shows-more : (width last n : ℕ) (old new : List ℕ) (numbers : List ℕ) → IsWhole width last old
    → IsFresh (seen_of width last old) n → Moved (last / 64) (n / 64) old new → Shows (seen_of width last old) numbers
    → Shows (seen_of width (max n last) (with_bit new n)) (n ∷ numbers)
shows-more width last n old new numbers whole fresh moved shows = record {
  last = ap (max n) shows.last;
  each = λ m above.
      let wide : width ≤ 1024 = whole.bounded in
      let floor : last < n + width = fresh.above in
      let greatest_is : last ≡ greatest numbers = shows.last in
      elim (cases_lt (max n last) m) [
        | inl past ↦
            unmarked-past width (max n last) (with_bit new n) m past
            ∙ sym (or_from (m == n) (is_in m numbers) (ne_eqb m n (λ e. omega (arith, e, past))) (not-in m numbers (omega (arith, past, greatest_is))))
        | inr low ↦
            marked-words width (max n last) (with_bit new n) m low above
            ∙ elim (cases_eq m n) [
              | inl same ↦
                  ap (in_words (with_bit new n)) same ∙ bit-same new n moved.ring
                  ∙ sym (or_left (m == n) (is_in m numbers) (eq-eqb m n same))
              | inr other ↦
                  let far : n / 64 < m / 64 + 17 = blocks-near n m (omega (arith, above, wide)) in
                  let back : last / 64 < m / 64 + 17 = blocks-near last m (omega (arith, above, wide)) in
                  let near : m / 64 < n / 64 + 17 = blocks-near m n (omega (arith, low, floor, wide)) in
                  bit-other new n m moved.ring other near far
                  ∙ elim (cases_lt last m) [
                    | inl beyond ↦
                        let top : m / 64 ≤ max (n / 64) (last / 64) = omega (arith, blocks-rise m n (omega (arith, low, beyond))) in
                        moved-high width last n m old new whole moved beyond top far
                        ∙ sym (or_from (m == n) (is_in m numbers) (ne_eqb m n other) (not-in m numbers (omega (arith, beyond, greatest_is))))
                    | inr within ↦
                        moved-low last n m old new moved within far
                        ∙ sym (marked-words width last old m within (omega (arith, above)))
                        ∙ shows.each m (omega (arith, above))
                        ∙ sym (ap (λ (b : Bool). b || is_in m numbers) (ne_eqb m n other))
                  ]
            ]
      ];
}

-- words with no bit set make a window
pub whole-clear : (width : ℕ) (words : List ℕ) → 0 < width → width ≤ 1024 → length words ≡ 17 → ((k : ℕ) → get_or words k 0 ≡ 0)
    → IsWhole width 0 words
whole-clear width words some bounded ring none = record {
  some = some;
  bounded = bounded;
  words_of = ring;
  above = λ n past block. ap (λ (w : ℕ). bit_at w (n % 64) == 1) (none (n / 64 % 17)) ∙ ap (λ (b : ℕ). b == 1) (bit_at-zero (n % 64));
}

-- a block's word cleared, in a loop over the blocks after the last
pub clear-same : (words : List ℕ) (b : ℕ) → length words ≡ 17 → get_or (set words (b % 17) 0) (b % 17) 0 ≡ 0
clear-same words b ring = get_or-set_same words (b % 17) 0 0 (omega (arith, ring))

pub clear-other : (words : List ℕ) (b d : ℕ) → b ≢ d → b < d + 17 → d < b + 17
    → get_or (set words (d % 17) 0) (b % 17) 0 ≡ get_or words (b % 17) 0
clear-other words b d other near far = get_or-set_other words (d % 17) (b % 17) 0 0 (places-apart b d other near far)

-- a window with no bit set shows no number
pub shows-none : (width : ℕ) (words : List ℕ) → ((k : ℕ) → get_or words k 0 ≡ 0) → Shows (seen_of width 0 words) []
shows-none width words none = record {
  last = refl;
  each = λ n above.
      elim (cases_lt 0 n) [
        | inl past ↦ unmarked-past width 0 words n past
        | inr low ↦
            marked-words width 0 words n low above
            ∙ ap (λ (w : ℕ). bit_at w (n % 64) == 1) (none (n / 64 % 17))
            ∙ ap (λ (b : ℕ). b == 1) (bit_at-zero (n % 64))
      ];
}

-- the verdicts, each from what a window shows
pub below-from : (w : Seen) (numbers : List ℕ) (n : ℕ) → Shows w numbers → n ≤ 0x80000000 → n + w.width ≤ w.last
    → Below w.last ≡ verdict_of w.width numbers n
below-from w numbers n shows small below =
    rw (le-ltb 0x80000000 n small, ← shows.last, le-leb (n + w.width) w.last below) refl

pub repeat-from : (w : Seen) (numbers : List ℕ) (n : ℕ) → Shows w numbers → n ≤ 0x80000000 → w.last < n + w.width
    → is_marked w n ≡ true → Repeat ≡ verdict_of w.width numbers n
repeat-from w numbers n shows small above marked =
    rw (le-ltb 0x80000000 n small, lt-leb (n + w.width) (greatest numbers) (omega (arith, shows.last, above)), sym (shows.each n above) ∙ marked) refl

pub fresh-from : (w : Seen) (numbers : List ℕ) (n : ℕ) → Shows w numbers → n ≤ 0x80000000 → w.last < n + w.width
    → is_marked w n ≡ false → Fresh ≡ verdict_of w.width numbers n
fresh-from w numbers n shows small above marked =
    rw (le-ltb 0x80000000 n small, lt-leb (n + w.width) (greatest numbers) (omega (arith, shows.last, above)), sym (shows.each n above) ∙ marked) refl
