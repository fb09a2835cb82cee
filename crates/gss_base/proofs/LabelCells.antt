-- A text written at the front of an array of zeros.
use Rattle.std.proofs.Common.{ℕ, ◌≤◌, List, ◌++◌, length, drop, replicate, ◌∙◌, arith, length-append, length-drop, IsUtf8}
use Rattle.std.proofs.lemmas.List.{drop-replicate, length-replicate}
use Rattle.std.proofs.Math.Seq.{take-append_seam, drop-append_seam}
use Rattle.gss_base.specs.Label.{IsLabel}

pub label_cells : (text : List ℕ) → length text ≤ 255 → IsUtf8 text → IsLabel (text ++ drop (length text) (replicate 255 0)) (length text)
label_cells text small utf8 = record {
  padded = record {
    size_is = simp (length-append, length-drop, length-replicate) (omega arith);
    within = small;
    spare = drop-append_seam text _ ∙ drop-replicate (length text) 255 0;
  };
  utf8 = rw (take-append_seam text (drop (length text) (replicate 255 0))) utf8;
}
