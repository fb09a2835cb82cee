use Rattle.std.proofs.Common.{◌≡◌, ℕ, ◌<◌, slice_get, Some}
use Rattle.accept_book.specs.Honest.{IsOctets}
use Rattle.gss_server.specs.declared.answer.Kept.{Kept}
use Rattle.pair_laws.proofs.kept.tell_kept.Given as goal

abbrev pub invariant-loop-one : goal.invariant-loop-one
invariant-loop-one l = (i : ℕ) (kept : Kept) → i < l.one-index → slice_get l.kept i ≡ Some kept → IsOctets kept.draws
