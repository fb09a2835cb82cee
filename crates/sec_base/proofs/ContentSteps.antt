-- Piece after piece of what was announced.
use Rattle.std.proofs.Common.{◌≡◌, ℕ, ◌+◌, ◌-◌, ◌<◌, ◌≤◌, Bool, IsTrue, false, List, ◌++◌, length, take, replicate, ap, sym, subst, ◌∙◌, arith, append_assoc, Result, Ok, Err}
use Rattle.std.proofs.Math.Seq.{take-append-add}
use Rattle.std.proofs.lemmas.List.{length-append, length-take-le, take_all, take_at, take-take, take-append-le}
use Rattle.sec_base.specs.Link.{Wire, HasTaken, IsOver}
use Rattle.sec_base.specs.Contents.{Grows, TakesPiece, TakesContent}
use Rattle.sec_base.specs.declared.transfer.ContentRefusal.{ContentRefusal}
use Rattle.sec_base.specs.declared.transfer.ContentRefusal.TheVariants.{LinkFault, NoMemory}
use Rattle.sec_base.proofs.InARow.{taken-again}

grows-again : {told told' : Bool} {a b c : Wire} {xs ys zs part more : List ℕ} → told' ≡ told → Grows told a b xs ys part → Grows told' b c ys zs more → Grows told a c xs zs (part ++ more)
grows-again {xs = xs} {part = part} {more = more} same first then = record {
  grown = then.grown ∙ (ap (λ (os : List ℕ). os ++ more) first.grown ∙ append_assoc xs part more);
  took = taken-again same first.took then.took;
}

-- a piece was read whole behind what came before it
pub piece-whole : {told told' : Bool} {a b : Wire} (c : Wire) {xs ys : List ℕ} (zs part : List ℕ) (left whole size count : ℕ) → length part + left ≡ whole → size ≤ left → size ≡ count → told' ≡ told → Grows told a b xs ys part → TakesPiece told' b c ys zs size (Ok count) → (more : List ℕ) × (length more + (left - size) ≡ whole) × Grows told a c xs zs more
piece-whole c zs part left whole size count sum fits full same g t =
    (part ++ t.0, omega (arith, length-append part t.0, t.1), grows-again same g t.3)

-- the input ended inside a piece
pub piece-cut : {told told' : Bool} {a b : Wire} (c : Wire) {xs ys : List ℕ} (zs part : List ℕ) (left whole size count : ℕ) → length part + left ≡ whole → size ≤ left → count < size → told' ≡ told → Grows told a b xs ys part → TakesPiece told' b c ys zs size (Ok count) → TakesContent told a c xs zs whole (Ok false)
piece-cut c zs part left whole size count sum fits less same g t =
    (part ++ t.0, omega (arith, length-append part t.0, t.1), λ told. t.2 less (subst (λ (b : Bool). IsTrue b) (sym same) told), grows-again same g t.3)

-- a piece was not read
pub piece-refused : {told told' : Bool} {a b : Wire} (c : Wire) {xs ys : List ℕ} (zs part : List ℕ) (left whole size : ℕ) → length part + left ≡ whole → size ≤ left → told' ≡ told → Grows told a b xs ys part → (refusal : ContentRefusal) → TakesPiece told' b c ys zs size (Err refusal) → TakesContent told a c xs zs whole (Err refusal)
piece-refused c zs part left whole size sum fits same g LinkFault t = (part ++ t.0, omega (arith, length-append part t.0, t.1), taken-again same g.took t.2)
piece-refused c zs part left whole size sum fits same g NoMemory t = (part ++ t.0, omega (arith, length-append part t.0, t.1), taken-again same g.took t.2)

-- zeros behind octets, for those that are to be read
pub behind-zeros : (before padded : List ℕ) (at more count : ℕ) → length before ≡ at → padded ≡ take (at + more) before ++ replicate count 0 → take at padded ≡ before
behind-zeros before padded at more count size e =
    let all : take (at + more) before ≡ before = take_all (at + more) before (omega (arith, size)) in
    ap (take at) e ∙ (ap (λ (zs : List ℕ). take at (zs ++ replicate count 0)) all ∙ take_at before (replicate count 0) at size)

-- a piece in place of these was read behind what stood before them
pub piece-behind : (told : Bool) (a b : Wire) (before front after : List ℕ) (size most : ℕ) (r : Result ℕ ContentRefusal) → front ≡ before → size ≡ most → TakesPiece told a b front after size r → TakesPiece told a b before after most r
piece-behind told a b before front after size most r e f t =
    subst (λ (n : ℕ). TakesPiece told a b before after n r) f (subst (λ (zs : List ℕ). TakesPiece told a b zs after size r) e t)

-- a buffer was filled, or its front, and that stands behind what was there
pub piece-filled : (told : Bool) (a b : Wire) (before after buffer : List ℕ) (count most : ℕ) → length buffer ≡ most → count ≤ length buffer → after ≡ before ++ take count buffer → HasTaken told a b (take count buffer) × (count < length buffer → IsOver told b) → TakesPiece told a b before after most (Ok count)
piece-filled told a b before after buffer count most size fits grown p =
    (take count buffer, length-take-le count buffer fits, λ less. p.1 (omega (arith, less, size)), record { grown = grown; took = p.0 })

-- the front of what a buffer is part of, up to what was read
pub read-behind : (old buffer post rest : List ℕ) (at count size : ℕ) → at ≤ length old → count ≤ length buffer → at + length buffer ≤ size → take (at + count) (take size ((take at old ++ (buffer ++ post)) ++ rest)) ≡ take at old ++ take count buffer
read-behind old buffer post rest at count size within fits room =
    let front : length (take at old) ≡ at = length-take-le at old within in
    let less : at + count ≤ size = omega arith in
    let inner : at + count ≤ length (take at old ++ (buffer ++ post)) = omega (arith, length-append (take at old) (buffer ++ post), length-append buffer post, front) in
    take-take (at + count) size ((take at old ++ (buffer ++ post)) ++ rest) less
    ∙ (take-append-le (at + count) (take at old ++ (buffer ++ post)) rest inner
    ∙ (ap (λ (n : ℕ). take (n + count) (take at old ++ (buffer ++ post))) (sym front)
    ∙ (take-append-add (take at old) (buffer ++ post) count ∙ ap (λ (zs : List ℕ). take at old ++ zs) (take-append-le count buffer post fits))))
