-- The numbers of the rules by which records are answered.
use Rattle.std.specs.Prelude.{ℕ}
use Rattle.accept_book.specs.declared.rule.Rule.{Rule}
use Rattle.accept_book.specs.declared.rule.Rule.TheVariants as rules

-- a rule's number, from 1 to 25, as the table of rules has it
abbrev pub rule_number : Rule → ℕ
rule_number rules.Unreadable = 1
rule_number rules.NotCall = 2
rule_number rules.RpcVersion = 3
rule_number rules.Flavour = 4
rule_number rules.Credential = 5
rule_number rules.NoContext = 6
rule_number rules.Expired = 7
rule_number rules.Verifier = 8
rule_number rules.Program = 9
rule_number rules.Version = 10
rule_number rules.Procedure = 11
rule_number rules.Weak = 12
rule_number rules.Body = 13
rule_number rules.Arguments = 14
rule_number rules.Gone = 15
rule_number rules.AboveMax = 16
rule_number rules.Below = 17
rule_number rules.Repeat = 18
rule_number rules.LogFull = 19
rule_number rules.Refused = 20
rule_number rules.Going = 21
rule_number rules.Settled = 22
rule_number rules.Done = 23
rule_number rules.Ended = 24
rule_number rules.Lost = 25
