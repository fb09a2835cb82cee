-- Reads in a row take what they take together, and writes and sends write it.
use Rattle.std.proofs.Common.{◌≡◌, ℕ, ◌+◌, ◌-◌, ◌≤◌, Bool, IsTrue, List, [], ◌++◌, length, take, drop, refl, ap, sym, subst, ◌∙◌, arith, append_assoc, inl, inr, Result, Ok, Err}
use borrow.Rule.Slice.PartMut.{put_mid}
use Rattle.std.proofs.lemmas.Grind.{common_steps}
use Rattle.std.proofs.lemmas.Bool.{cases_lt}
use Rattle.std.proofs.lemmas.List.{append-nil, take-append-le, take_all}
use Rattle.std.proofs.Math.Seq.{take-add, take-append-add, take-append_seam}
use Rattle.sec_base.specs.Link.{Wire, HasTaken, HasWritten}
use Rattle.sec_base.specs.Streams.{Took, Put, Sends}

pub take-put_mid-add : (at k n : ℕ) (xs ys : List ℕ) → at ≤ length xs → n ≤ length ys → take (at + n) (put_mid at k xs ys) ≡ take at xs ++ take n ys
take-put_mid-add at k n xs ys inside fits = grind (arith, common_steps, take-append-le, take-append-add)

-- a front, then the first `n` of what is left
pub take-piece : (at n : ℕ) (xs : List ℕ) → take (at + n) xs ≡ take at xs ++ take n (take (length xs - at) (drop at xs))
take-piece at n xs =
    let all : take (length xs - at) (drop at xs) ≡ drop at xs = grind (arith, common_steps) in
    rw (all, take-add at n xs)

pub taken-none : (told : Bool) (w : Wire) → HasTaken told w w []
taken-none told w = record { taken = sym (append-nil w.taken); coming = λ t. refl; written = refl }

pub taken-again : {told told' : Bool} {a b c : Wire} {xs ys : List ℕ} → told' ≡ told → HasTaken told a b xs → HasTaken told' b c ys → HasTaken told a c (xs ++ ys)
taken-again {a = a} {c = c} {xs = xs} {ys = ys} same first then = record {
  taken = then.taken ∙ (ap (λ (zs : List ℕ). zs ++ ys) first.taken ∙ append_assoc a.taken xs ys);
  coming = λ t.
      first.coming t
      ∙ (ap (λ (zs : List ℕ). xs ++ zs) (then.coming (subst (λ (b : Bool). IsTrue b) (sym same) t)) ∙ sym (append_assoc xs ys c.coming));
  written = then.written ∙ first.written;
}

pub taken-same : {told : Bool} {a b : Wire} {xs ys : List ℕ} → HasTaken told a b xs → xs ≡ ys → HasTaken told a b ys
taken-same {a = a} {b = b} t e = record {
  taken = t.taken ∙ ap (λ (zs : List ℕ). a.taken ++ zs) e;
  coming = λ told. t.coming told ∙ ap (λ (zs : List ℕ). zs ++ b.coming) e;
  written = t.written;
}

pub written-none : (told : Bool) (w : Wire) → HasWritten told w w []
written-none told w = record { taken = refl; coming = λ t. ([], sym (append-nil w.coming)); written = sym (append-nil w.written) }

pub written-again : {told told' : Bool} {a b c : Wire} {xs ys : List ℕ} → told' ≡ told → HasWritten told a b xs → HasWritten told' b c ys → HasWritten told a c (xs ++ ys)
written-again {a = a} {xs = xs} {ys = ys} same first then = record {
  taken = then.taken ∙ first.taken;
  coming = λ t.
      let came = first.coming t in
      let more = then.coming (subst (λ (b : Bool). IsTrue b) (sym same) t) in
      (came.0 ++ more.0, more.1 ∙ (ap (λ (zs : List ℕ). zs ++ more.0) came.1 ∙ append_assoc a.coming came.0 more.0));
  written = then.written ∙ (ap (λ (zs : List ℕ). zs ++ ys) first.written ∙ append_assoc a.written xs ys);
}

pub written-same : {told : Bool} {a b : Wire} {xs ys : List ℕ} → HasWritten told a b xs → xs ≡ ys → HasWritten told a b ys
written-same {a = a} p e = record {
  taken = p.taken;
  coming = p.coming;
  written = p.written ∙ ap (λ (zs : List ℕ). a.written ++ zs) e;
}

-- over a link that tells its octets
pub took-told : {told : Bool} {a b : Wire} {xs : List ℕ} → IsTrue told → HasTaken told a b xs → Took a b xs
took-told t h = record { taken = h.taken; coming = h.coming t; written = h.written }

pub put-told : {told : Bool} {a b : Wire} {xs : List ℕ} → IsTrue told → HasWritten told a b xs → Put a b xs
put-told t h = record { taken = h.taken; coming = h.coming t; written = h.written }

-- a front of octets, or of them and others behind them
pub written-front : {told told' : Bool} {a b c : Wire} {xs : List ℕ} (ys : List ℕ) (n : ℕ) → told' ≡ told → HasWritten told a b xs → HasWritten told' b c (take n ys) → HasWritten told a c (take (length xs + n) (xs ++ ys))
written-front {xs = xs} ys n same first then = written-same (written-again same first then) (sym (take-append-add xs ys n))

pub written-short : {told : Bool} {a b : Wire} (xs ys : List ℕ) (n : ℕ) → HasWritten told a b (take n xs) → (m : ℕ) × HasWritten told a b (take m (xs ++ ys))
written-short xs ys n p =
    elim (cases_lt n (length xs)) [
      | inl below ↦ let le : n ≤ length xs = omega arith in (n, written-same p (sym (take-append-le n xs ys le)))
      | inr past ↦ (length xs, written-same p (take_all n xs past ∙ sym (take-append_seam xs ys)))
    ]

-- two sends in a row are a send of both
pub sends-again : {T E : Type 0} {told told' : Bool} {a b : Wire} (c : Wire) {xs : List ℕ} (ys : List ℕ) (result : Result T E) → told' ≡ told → HasWritten told a b xs → Sends told' b c result ys → Sends told a c result (xs ++ ys)
sends-again c ys (Ok t) same first then = written-again same first then
sends-again c {xs = xs} ys (Err e) same first then = (length xs + then.0, written-front ys then.0 same first then.1)
