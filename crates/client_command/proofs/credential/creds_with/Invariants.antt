use Rattle.std.proofs.Common.{◌≡◌, ◌≤◌, drop, length, vec_capacity}
use Rattle.client_command.specs.Credentials.{cred_for, listed}
use Rattle.client_options.proofs.Naming.{behind}
use Rattle.client_command.proofs.credential.creds_with.Given as goal

abbrev pub invariant-loop-name : goal.invariant-loop-name
invariant-loop-name l = record {
  kept : behind l.list.items (listed (cred_for l.sources l.cache l.password) (drop l.name-index l.sources.mechs)) ≡ listed (cred_for l.sources l.cache l.password) l.sources.mechs;
  count : length l.list.items ≡ l.name-index;
  room : length l.sources.mechs ≤ vec_capacity l.list;
}
