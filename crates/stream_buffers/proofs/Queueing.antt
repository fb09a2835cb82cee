-- What is written once nothing waits any more comes behind what waited.
use Rattle.std.proofs.Common.{◌≡◌, ◌≤◌, ℕ, Bool, List, [], ◌++◌, take, ap, sym, ◌∙◌, append_assoc, arith, Result, Ok, Err, IfOk}
use Rattle.std.proofs.lemmas.List.{append-nil}
use Rattle.sec_base.specs.Link.{Wire, HasWritten, Writes}
use Rattle.stream_buffers.specs.Behind.{Queues}

pub written-past : {E : Type 0} {told : Bool} (told' : Bool) {a b : Wire} (c : Wire) {before after : List ℕ} (piece : List ℕ) (result : Result ℕ E) → HasWritten told a b before → Writes told' b c result piece → after ≡ [] → IfOk result (λ count. Queues a c before after (take count piece))
written-past told' c piece (Ok count) put wrote none = record {
  taken = wrote.taken ∙ put.taken;
  written =
      ap (λ (xs : List ℕ). c.written ++ xs) none
      ∙ (append-nil c.written ∙ (wrote.written ∙ ap (λ (xs : List ℕ). xs ++ take count piece) put.written));
}
written-past told' c piece (Err e) put wrote none = tt

-- the first octets of a piece came behind those that waited, and all of them were written
pub written-with : {told : Bool} {a b : Wire} {before mixed after : List ℕ} (piece : List ℕ) (count : ℕ) → HasWritten told a b mixed → mixed ≡ before ++ take count piece → after ≡ [] → Queues a b before after (take count piece)
written-with {a = a} {b = b} {before = before} {mixed = mixed} {after = after} piece count put same none = record {
  taken = put.taken;
  written =
      ap (λ (xs : List ℕ). b.written ++ xs) none
      ∙ (append-nil b.written ∙ (put.written ∙ (ap (λ (xs : List ℕ). a.written ++ xs) same ∙ sym (append_assoc a.written before (take count piece)))));
}

-- none of a piece did
pub none-with : {before mixed : List ℕ} (piece : List ℕ) (count : ℕ) → mixed ≡ before ++ take count piece → count ≤ 0 → mixed ≡ before
none-with {before} piece count same none =
    let zero : count ≡ 0 = omega arith in
    same ∙ (ap (λ (n : ℕ). before ++ take n piece) zero ∙ append-nil before)
