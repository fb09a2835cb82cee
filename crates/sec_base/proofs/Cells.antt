-- An object identifier written at the front of an array of zeros.
use Rattle.std.proofs.Common.{◌≡◌, ℕ, ◌≤◌, Bool, true, false, ◌&&◌, nat_le, List, ◌++◌, length, drop, replicate, ◌∙◌, arith, length-append, length-drop}
use Rattle.std.proofs.lemmas.List.{drop-replicate, length-replicate}
use Rattle.std.proofs.Math.Seq.{take-append_seam, drop-append_seam}
use Rattle.std.proofs.lemmas.Bool.{leb-true}
use Rattle.sec_base.specs.Oid.{is_oid, are_arcs}
use Rattle.sec_base.specs.OidCells.{IsOidCells}

last_of : (a b : Bool) → (a && b) ≡ true → b ≡ true
last_of true b e = e
last_of false b e = cc

pub oid_within : (content : List ℕ) → is_oid content ≡ true → length content ≤ 32
oid_within content e =
    leb-true (length content) 32 (last_of (nat_le 1 (length content)) (nat_le (length content) 32) (last_of (are_arcs true content) _ e))

pub oid_cells : (content : List ℕ) → is_oid content ≡ true → IsOidCells (content ++ drop (length content) (replicate 32 0)) (length content)
oid_cells content e = let small : length content ≤ 32 = oid_within content e in record {
  padded = record {
    size_is = simp (length-append, length-drop, length-replicate) (omega arith);
    within = small;
    spare = drop-append_seam content _ ∙ drop-replicate (length content) 32 0;
  };
  grammar = rw (take-append_seam content (drop (length content) (replicate 32 0))) e;
}
