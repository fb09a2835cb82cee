use Rattle.std.proofs.Common.{◌≡◌, drop}
use Rattle.client_options.specs.Mechs.{are_equipped}
use Rattle.client_options.proofs.mechs.are_equipped.Given as goal

abbrev pub invariant-loop-name : goal.invariant-loop-name
invariant-loop-name l = are_equipped l.krb5 l.scram (drop l.name-index l.list) ≡ are_equipped l.krb5 l.scram l.list
