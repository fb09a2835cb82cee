use Rattle.std.proofs.Common.{◌≡◌, ℕ, ◌<◌, slice_get, Some}
use Rattle.spnego_core.specs.declared.setup.MechCred.{MechCred}
use Rattle.spnego_core.specs.Ends.{setup_of}
use Rattle.pair_laws.specs.Meeting.{CredTold}
use Rattle.pair_laws.proofs.meeting.tell_creds.Given as goal

abbrev pub invariant-loop-cred : goal.invariant-loop-cred
invariant-loop-cred l = (i : ℕ) (cred : MechCred) → i < l.cred-index → slice_get l.cred-items i ≡ Some cred → CredTold (setup_of l.own) l.draws cred
