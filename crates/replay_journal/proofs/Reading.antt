-- What is read of a record or refused.
use Rattle.std.proofs.Common.{◌≡◌, inl, inr, ◌+◌, ◌≤◌, ◌<◌, ◌&&◌, nat_le, List, drop, sym, ◌∙◌, arith, ℕ, Bool, true, false, if◌then◌else◌, None, Some, refl}
use Rattle.std.proofs.lemmas.Bool.{cases_Bool, and_parts, le-leb, leb-true}
use Rattle.replay_cache.specs.Taking.{skew}
use Rattle.replay_journal.specs.Files.{is_moment, is_genuine, mark_in, greatest_in}
use Rattle.gss_base.specs.declared.mark.Mark.{Mark}

pub some-if : (test : Bool) (x y : ℕ) → (if test then Some x else None) ≡ Some y → (test ≡ true) × (x ≡ y)
some-if true x y is = (refl, cc)
some-if false x y is = cc

pub none-if : (test : Bool) (x : ℕ) → (if test then Some x else None) ≡ None → test ≡ false
none-if true x is = cc
none-if false x is = refl

pub mark-some : (test : Bool) (x y : Mark) → (if test then Some x else None) ≡ Some y → (test ≡ true) × (y ≡ x)
mark-some true x y is = (refl, cc)
mark-some false x y is = cc

pub mark-none : (test : Bool) (x : Mark) → (if test then Some x else None) ≡ None → test ≡ false
mark-none true x is = cc
mark-none false x is = refl

pub genuine-is : (body : List ℕ) → is_moment (drop 20 body) ≡ true → is_moment (drop 32 body) ≡ true → (mark_in body).at ≤ greatest_in body + skew → is_genuine body ≡ true
genuine-is body one two near = rw (one, two, le-leb (mark_in body).at (greatest_in body + skew) near) refl

pub genuine-late : (body : List ℕ) → greatest_in body + skew < (mark_in body).at → is_genuine body ≡ false
genuine-late body late = elim (cases_Bool (is_genuine body)) [
  | inr not_ ↦ not_
  | inl genuine ↦
      let near = leb-true (mark_in body).at (greatest_in body + skew) (and_parts (is_moment (drop 20 body) && is_moment (drop 32 body)) (nat_le (mark_in body).at (greatest_in body + skew)) genuine).1 in
      absurd (omega (arith, near, late))
]

pub genuine-moments : (body : List ℕ) → is_genuine body ≡ true → (is_moment (drop 20 body) ≡ true) × (is_moment (drop 32 body) ≡ true)
genuine-moments body genuine =
    and_parts (is_moment (drop 20 body)) (is_moment (drop 32 body)) (and_parts (is_moment (drop 20 body) && is_moment (drop 32 body)) (nat_le (mark_in body).at (greatest_in body + skew)) genuine).0

pub genuine-no : (body : List ℕ) → is_moment (drop 32 body) ≡ false → is_genuine body ≡ false
genuine-no body bad = elim (cases_Bool (is_genuine body)) [
  | inr not_ ↦ not_
  | inl genuine ↦
      let never : true ≡ false = sym (genuine-moments body genuine).1 ∙ bad in
      cc
]
