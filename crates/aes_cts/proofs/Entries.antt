-- Each table's entries are what the definitions give, by a test of all of them that the checker computes.
use Rattle.std.proofs.Common.{◌≡◌, ℕ, zero, suc, ◌+◌, ◌<◌, Bool, true, false, List, [], ◌∷◌, if◌then◌else◌, refl, sym, ap, ◌∙◌, arith, length, get_or, eqb, inl, inr}
use Rattle.std.specs.Prelude.{nat_lt}
use Rattle.std.proofs.lemmas.Bool.{eqb-true, ltb-true, cases_lt}
use Rattle.aes_cts.specs.Field.{times_x, product, times, inverse, affine, affine_back, sbox, inverse_sbox}
use Rattle.aes_cts.specs.State.{Column, octet_of, column_of}
use Rattle.aes_cts.specs.Words.{part0, part1, part2, part3, unpart0, unpart1, unpart2, unpart3}
use Rattle.aes_cts.specs.Schedule.{x_power}
use Rattle.aes_cts.proofs.Powers.{multiples, weighed, squared, climbed, inverse-climbed}
use Rattle.aes_cts.specs.declared.tables.TheConstants.{SBOX, INVERSE_SBOX, MIX, UNMIX, RCON}

-- a test passes at every number below a bound
unfoldable pub all_below : (ℕ → Bool) → ℕ → Bool
all_below p zero = true
all_below p (suc n) = if p n then all_below p n else false

both : (b c : Bool) → (if b then c else false) ≡ true → (b ≡ true) × (c ≡ true)
both true c h = (refl, h)
both false c h = cc

pub below-each : (p : ℕ → Bool) (n : ℕ) → all_below p n ≡ true → (x : ℕ) → x < n → p x ≡ true
unfolding all_below
below-each p zero h x lt = absurd (omega arith)
below-each p (suc n) h x lt =
    let parts : (p n ≡ true) × (all_below p n ≡ true) = both (p n) (all_below p n) h in
    elim (cases_lt x n) [
      | inl a ↦ below-each p n parts.1 x a
      | inr b ↦ let e : x ≡ n = omega arith in rw e parts.0
    ]

-- a test passes at each number of a list and its place, counted from this one on
unfoldable pub numbered : (ℕ → ℕ → Bool) → ℕ → List ℕ → Bool
numbered p k [] = true
numbered p k (v ∷ vs) = if p k v then numbered p (suc k) vs else false

numbered-each : (p : ℕ → ℕ → Bool) (k : ℕ) (vs : List ℕ) → numbered p k vs ≡ true → (x i : ℕ) → x < length vs → i ≡ k + x → p i (get_or vs x 0) ≡ true
unfolding numbered
numbered-each p k [] h x i lt e = absurd (omega (arith, lt))
numbered-each p k (v ∷ vs) h zero i lt e = let same : i ≡ k = omega (arith, e) in rw same (both (p k v) (numbered p (suc k) vs) h).0
numbered-each p k (v ∷ vs) h (suc x) i lt e =
    numbered-each p (suc k) vs (both (p k v) (numbered p (suc k) vs) h).1 x i (omega (arith, lt)) (omega (arith, e))

pub at-place : (p : ℕ → ℕ → Bool) (vs : List ℕ) → numbered p 0 vs ≡ true → length vs ≡ 256 → (x : ℕ) → x < 256 → p x (get_or vs x 0) ≡ true
at-place p vs all long x h = numbered-each p 0 vs all x x (omega (arith, long, h)) (omega arith)

-- a test passes at each two that stand at one place of two lists
paired : (ℕ → ℕ → Bool) → List ℕ → List ℕ → Bool
paired p [] os = true
paired p (w ∷ ws) [] = false
paired p (w ∷ ws) (o ∷ os) = if p w o then paired p ws os else false

paired-each : (p : ℕ → ℕ → Bool) (ws os : List ℕ) → paired p ws os ≡ true → (x : ℕ) → x < length ws → p (get_or ws x 0) (get_or os x 0) ≡ true
unfolding paired
paired-each p [] os h x lt = absurd (omega (arith, lt))
paired-each p (w ∷ ws) [] h x lt = absurd (cc)
paired-each p (w ∷ ws) (o ∷ os) h zero lt = (both (p w o) (paired p ws os) h).0
paired-each p (w ∷ ws) (o ∷ os) h (suc x) lt = paired-each p ws os (both (p w o) (paired p ws os) h).1 x (omega (arith, lt))

-- ---- the S-boxes

-- the inverses, by the entries of the S-box
inverse_test : ℕ → ℕ → Bool
inverse_test x s = eqb (affine_back s) (climbed 7 (squared (multiples 8 x)))

inverse_checked : numbered inverse_test 0 SBOX ≡ true
unfolding numbered inverse_test climbed squared multiples weighed times_x
inverse_checked = refl

pub inverse-at : (x : ℕ) → x < 256 → affine_back (get_or SBOX x 0) ≡ inverse x
unfolding inverse_test
inverse-at x h =
    eqb-true (affine_back (get_or SBOX x 0)) (climbed 7 (squared (multiples 8 x))) (at-place inverse_test SBOX inverse_checked refl x h) ∙ sym (inverse-climbed x)

sbox_test : ℕ → ℕ → Bool
sbox_test x s = eqb (affine (affine_back s)) s

sbox_checked : numbered sbox_test 0 SBOX ≡ true
unfolding numbered sbox_test
sbox_checked = refl

pub SBOX-at : (x : ℕ) → x < 256 → get_or SBOX x 0 ≡ sbox x
unfolding sbox_test sbox
SBOX-at x h =
    sym (eqb-true (affine (affine_back (get_or SBOX x 0))) (get_or SBOX x 0) (at-place sbox_test SBOX sbox_checked refl x h)) ∙ ap affine (inverse-at x h)

inverse_sbox_test : ℕ → ℕ → Bool
inverse_sbox_test x i = if nat_lt (affine_back x) 256 then eqb i (affine_back (get_or SBOX (affine_back x) 0)) else false

inverse_sbox_checked : numbered inverse_sbox_test 0 INVERSE_SBOX ≡ true
unfolding numbered inverse_sbox_test
inverse_sbox_checked = refl

pub INVERSE_SBOX-at : (x : ℕ) → x < 256 → get_or INVERSE_SBOX x 0 ≡ inverse_sbox x
unfolding inverse_sbox_test inverse_sbox
INVERSE_SBOX-at x h =
    let parts = both (nat_lt (affine_back x) 256) (eqb (get_or INVERSE_SBOX x 0) (affine_back (get_or SBOX (affine_back x) 0))) (at-place inverse_sbox_test INVERSE_SBOX inverse_sbox_checked refl x h) in
    eqb-true (get_or INVERSE_SBOX x 0) (affine_back (get_or SBOX (affine_back x) 0)) parts.1 ∙ inverse-at (affine_back x) (ltb-true (affine_back x) 256 parts.0)

-- the entries are octets, and each table undoes the other
undoes : List ℕ → ℕ → ℕ → Bool
undoes other x s = if nat_lt s 256 then eqb (get_or other s 0) x else false

undone_checked : numbered (undoes INVERSE_SBOX) 0 SBOX ≡ true
unfolding numbered undoes
undone_checked = refl

redone_checked : numbered (undoes SBOX) 0 INVERSE_SBOX ≡ true
unfolding numbered undoes
redone_checked = refl

record Pair (x : ℕ) : Type 0 where
  octet : get_or SBOX x 0 < 256
  inverse_octet : get_or INVERSE_SBOX x 0 < 256
  undone : get_or INVERSE_SBOX (get_or SBOX x 0) 0 ≡ x
  redone : get_or SBOX (get_or INVERSE_SBOX x 0) 0 ≡ x

pair : (x : ℕ) → x < 256 → Pair x
unfolding undoes
pair x h =
    let s : ℕ = get_or SBOX x 0 in
    let i : ℕ = get_or INVERSE_SBOX x 0 in
    let a = both (nat_lt s 256) (eqb (get_or INVERSE_SBOX s 0) x) (at-place (undoes INVERSE_SBOX) SBOX undone_checked refl x h) in
    let b = both (nat_lt i 256) (eqb (get_or SBOX i 0) x) (at-place (undoes SBOX) INVERSE_SBOX redone_checked refl x h) in
    record {
      octet = ltb-true s 256 a.0;
      inverse_octet = ltb-true i 256 b.0;
      undone = eqb-true (get_or INVERSE_SBOX s 0) x a.1;
      redone = eqb-true (get_or SBOX i 0) x b.1;
    }

pub sbox-lt : (x : ℕ) → x < 256 → sbox x < 256
sbox-lt x h = rw (← SBOX-at x h) (pair x h).octet

pub inverse_sbox-lt : (x : ℕ) → x < 256 → inverse_sbox x < 256
inverse_sbox-lt x h = rw (← INVERSE_SBOX-at x h) (pair x h).inverse_octet

pub inverse_sbox-sbox : (x : ℕ) → x < 256 → inverse_sbox (sbox x) ≡ x
inverse_sbox-sbox x h =
    sym (INVERSE_SBOX-at (sbox x) (sbox-lt x h)) ∙ ap (λ (s : ℕ). get_or INVERSE_SBOX s 0) (sym (SBOX-at x h)) ∙ (pair x h).undone

pub sbox-inverse_sbox : (x : ℕ) → x < 256 → sbox (inverse_sbox x) ≡ x
sbox-inverse_sbox x h =
    sym (SBOX-at (inverse_sbox x) (inverse_sbox-lt x h)) ∙ ap (λ (s : ℕ). get_or SBOX s 0) (sym (INVERSE_SBOX-at x h)) ∙ (pair x h).redone

-- ---- the tables of columns

-- the table of a row
abbrev pub table : List (List ℕ) → ℕ → List ℕ
table tables row = get_or tables row []

-- a word has these octets
rows : ℕ → ℕ → ℕ → ℕ → ℕ → Bool
rows word a b c d =
    if eqb (octet_of word 24) a then (if eqb (octet_of word 16) b then (if eqb (octet_of word 8) c then eqb (octet_of word 0) d else false) else false) else false

rows-column : (word a b c d : ℕ) → rows word a b c d ≡ true → column_of word ≡ record { row0 = a; row1 = b; row2 = c; row3 = d }
unfolding rows column_of
rows-column word a b c d h =
    let p = both (eqb (octet_of word 24) a) (if eqb (octet_of word 16) b then (if eqb (octet_of word 8) c then eqb (octet_of word 0) d else false) else false) h in
    let q = both (eqb (octet_of word 16) b) (if eqb (octet_of word 8) c then eqb (octet_of word 0) d else false) p.1 in
    let r = both (eqb (octet_of word 8) c) (eqb (octet_of word 0) d) q.1 in
    let e0 : octet_of word 24 ≡ a = eqb-true (octet_of word 24) a p.0 in
    let e1 : octet_of word 16 ≡ b = eqb-true (octet_of word 16) b q.0 in
    let e2 : octet_of word 8 ≡ c = eqb-true (octet_of word 8) c r.0 in
    let e3 : octet_of word 0 ≡ d = eqb-true (octet_of word 0) d r.1 in
    cc

-- an entry of a table of words, against a part of the octet that a table of octets has
entry : (ℕ → Column) → ℕ → ℕ → Bool
entry part word octet =
    let k : Column = part octet in rows word k.row0 k.row1 k.row2 k.row3

entry-column : (words octets : List ℕ) (part : ℕ → Column) → paired (entry part) words octets ≡ true → length words ≡ 256
    → (x : ℕ) → x < 256 → column_of (get_or words x 0) ≡ part (get_or octets x 0)
unfolding entry
entry-column words octets part all long x h =
    let k : Column = part (get_or octets x 0) in
    rows-column (get_or words x 0) k.row0 k.row1 k.row2 k.row3 (paired-each (entry part) words octets all x (omega (arith, long, h)))

mix0_checked : paired (entry part0) (table MIX 0) SBOX ≡ true
unfolding paired entry rows times product times_x
mix0_checked = refl

pub MIX0-at : (x : ℕ) → x < 256 → column_of (get_or (table MIX 0) x 0) ≡ part0 (sbox x)
MIX0-at x h = entry-column (table MIX 0) SBOX part0 mix0_checked refl x h ∙ ap part0 (SBOX-at x h)

mix1_checked : paired (entry part1) (table MIX 1) SBOX ≡ true
unfolding paired entry rows times product times_x
mix1_checked = refl

pub MIX1-at : (x : ℕ) → x < 256 → column_of (get_or (table MIX 1) x 0) ≡ part1 (sbox x)
MIX1-at x h = entry-column (table MIX 1) SBOX part1 mix1_checked refl x h ∙ ap part1 (SBOX-at x h)

mix2_checked : paired (entry part2) (table MIX 2) SBOX ≡ true
unfolding paired entry rows times product times_x
mix2_checked = refl

pub MIX2-at : (x : ℕ) → x < 256 → column_of (get_or (table MIX 2) x 0) ≡ part2 (sbox x)
MIX2-at x h = entry-column (table MIX 2) SBOX part2 mix2_checked refl x h ∙ ap part2 (SBOX-at x h)

mix3_checked : paired (entry part3) (table MIX 3) SBOX ≡ true
unfolding paired entry rows times product times_x
mix3_checked = refl

pub MIX3-at : (x : ℕ) → x < 256 → column_of (get_or (table MIX 3) x 0) ≡ part3 (sbox x)
MIX3-at x h = entry-column (table MIX 3) SBOX part3 mix3_checked refl x h ∙ ap part3 (SBOX-at x h)

unmix0_checked : paired (entry unpart0) (table UNMIX 0) INVERSE_SBOX ≡ true
unfolding paired entry rows times product times_x
unmix0_checked = refl

pub UNMIX0-at : (x : ℕ) → x < 256 → column_of (get_or (table UNMIX 0) x 0) ≡ unpart0 (inverse_sbox x)
UNMIX0-at x h = entry-column (table UNMIX 0) INVERSE_SBOX unpart0 unmix0_checked refl x h ∙ ap unpart0 (INVERSE_SBOX-at x h)

unmix1_checked : paired (entry unpart1) (table UNMIX 1) INVERSE_SBOX ≡ true
unfolding paired entry rows times product times_x
unmix1_checked = refl

pub UNMIX1-at : (x : ℕ) → x < 256 → column_of (get_or (table UNMIX 1) x 0) ≡ unpart1 (inverse_sbox x)
UNMIX1-at x h = entry-column (table UNMIX 1) INVERSE_SBOX unpart1 unmix1_checked refl x h ∙ ap unpart1 (INVERSE_SBOX-at x h)

unmix2_checked : paired (entry unpart2) (table UNMIX 2) INVERSE_SBOX ≡ true
unfolding paired entry rows times product times_x
unmix2_checked = refl

pub UNMIX2-at : (x : ℕ) → x < 256 → column_of (get_or (table UNMIX 2) x 0) ≡ unpart2 (inverse_sbox x)
UNMIX2-at x h = entry-column (table UNMIX 2) INVERSE_SBOX unpart2 unmix2_checked refl x h ∙ ap unpart2 (INVERSE_SBOX-at x h)

unmix3_checked : paired (entry unpart3) (table UNMIX 3) INVERSE_SBOX ≡ true
unfolding paired entry rows times product times_x
unmix3_checked = refl

pub UNMIX3-at : (x : ℕ) → x < 256 → column_of (get_or (table UNMIX 3) x 0) ≡ unpart3 (inverse_sbox x)
UNMIX3-at x h = entry-column (table UNMIX 3) INVERSE_SBOX unpart3 unmix3_checked refl x h ∙ ap unpart3 (INVERSE_SBOX-at x h)

-- ---- the round constants

constant_test : ℕ → Bool
constant_test x = eqb (get_or RCON (x + 1) 0) (x_power x)

constants_checked : all_below constant_test 10 ≡ true
unfolding all_below constant_test x_power times_x
constants_checked = refl

pub RCON-at : (x : ℕ) → x < 10 → get_or RCON (x + 1) 0 ≡ x_power x
unfolding constant_test
RCON-at x h = eqb-true (get_or RCON (x + 1) 0) (x_power x) (below-each constant_test 10 constants_checked x h)
