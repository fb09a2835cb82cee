use Rattle.std.proofs.Common.{◌≡◌, ℕ, ◌<◌, List, slice_get, Some}
use Rattle.pair_laws.specs.Meeting.{AnswerTold}
use Rattle.pair_laws.proofs.meeting.tell_answers.Given as goal

abbrev pub invariant-loop-drawn : goal.invariant-loop-drawn
invariant-loop-drawn l = (i : ℕ) (drawn : List ℕ) → i < l.drawn-index → slice_get l.draws i ≡ Some drawn → AnswerTold l.stamp l.credential drawn
