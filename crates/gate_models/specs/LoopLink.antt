-- What a link that answers in one thread shows of itself.
use Rattle.std.specs.Prelude.{List}
use Rattle.sec_base.specs.declared.draw.Draw as draws
use Rattle.gss_server.specs.declared.answer.Kept.{Kept}
use Rattle.gss_server.specs.declared.gate.Gate as gates
use Rattle.gate_models.specs.declared.beginning.Beginning as beginnings
use Rattle.gate_models.specs.declared.loop_link.LoopLink.{LoopLink}

-- the gate that is asked
abbrev pub loop_gate : {G Q J : Type 0} {gate : gates.Ghosts G} {draw : draws.Ghosts Q}
    {beginning : beginnings.Ghosts J G} → LoopLink G Q J gate draw beginning → G
loop_gate link = link.inner.gate

-- where the random octets come from
abbrev pub loop_draws : {G Q J : Type 0} {gate : gates.Ghosts G} {draw : draws.Ghosts Q}
    {beginning : beginnings.Ghosts J G} → LoopLink G Q J gate draw beginning → Q
loop_draws link = link.inner.draws

-- the answers that were kept so far, in order
abbrev pub loop_kept : {G Q J : Type 0} {gate : gates.Ghosts G} {draw : draws.Ghosts Q}
    {beginning : beginnings.Ghosts J G} → LoopLink G Q J gate draw beginning → List Kept
loop_kept link = link.inner.kept.items
