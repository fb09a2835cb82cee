use Rattle.std.proofs.Common.{◌≡◌, ◌-◌, ◌++◌}
use Rattle.gss_client.specs.Conferring.{calls_of}
use Rattle.posts_client.specs.Procedure.{query_of}
use Rattle.drill_command.specs.Calls.{calls_from, after_calls}
use Rattle.drill_command.proofs.calls.draw_calls.Given as goal

abbrev pub invariant-loop-number : goal.invariant-loop-number
invariant-loop-number l = record {
  value : calls_of query_of l.calls.items ++ calls_from (l.count - l.number) l.generator.value ≡ calls_from l.fn.count l.fn.generator.value;
  place : after_calls (l.count - l.number) l.generator.value ≡ after_calls l.fn.count l.fn.generator.value;
}
