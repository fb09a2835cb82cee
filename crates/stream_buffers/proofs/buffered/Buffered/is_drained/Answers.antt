use Rattle.std.proofs.Common.{◌∙◌, ◌==◌, ap, sym, length, Option}
use Rattle.stream_buffers.specs.Ahead.{waiting_in}
use Rattle.stream_buffers.specs.declared.ahead.Ahead.{Ahead}
use Rattle.stream_buffers.proofs.buffered.Buffered.is_drained.Goals as goal

pub returns-in-Some : goal.returns-in-Some
returns-in-Some g c =
    c.is_empty.ensures.nothing ∙ ap (λ (ahead : Option Ahead). length (waiting_in ahead) == 0) (sym c.in-Some.is)
