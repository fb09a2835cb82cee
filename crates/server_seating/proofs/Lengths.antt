-- Lengths of what vectors hold.
use Rattle.std.proofs.Common.{◌≡◌, length, vec_len, Global, Vec, rules}

-- vectors of one length hold as many things
pub same-length : {A B : Type 0} (a : Vec A Global) (b : Vec B Global) → vec_len a ≡ vec_len b → length a.items ≡ length b.items
same-length a b same = search rules
