-- What a link that reads ahead and writes behind shows of itself.
use Rattle.std.specs.Prelude.{ℕ, List}
use Rattle.sec_base.specs.declared.link.Link as links
use Rattle.stream_buffers.specs.Ahead.{waiting_in}
use Rattle.stream_buffers.specs.Behind.{held}
use Rattle.stream_buffers.specs.declared.buffered.Buffered.{Buffered}
use Rattle.stream_buffers.specs.declared.buffered.BufferedPort.{BufferedPort}

-- the link below
abbrev pub link_below : {L : Type 0} {link : links.Ghosts L} → Buffered L link → L
link_below buffered = buffered.link

-- the octets that were read ahead and not given yet, in order
abbrev pub read_ahead : {L : Type 0} {link : links.Ghosts L} → Buffered L link → List ℕ
read_ahead buffered = waiting_in buffered.ahead

-- the octets that wait to be written, in order
abbrev pub written_behind : {L : Type 0} {link : links.Ghosts L} → Buffered L link → List ℕ
written_behind buffered = held buffered.behind

-- the port below
abbrev pub port_below : {P : Type 0} → BufferedPort P → P
port_below port = port.port
