-- What went over a connection, and what a call that waits for a time moved.
use Rattle.std.specs.Prelude.{◌≡◌, false, ℕ, List, [], take}
use Rattle.sec_base.specs.Link.{Wire, HasTaken, HasWritten}
use Rattle.system_devices.specs.declared.again.Moved.{Moved}
use Rattle.system_devices.specs.declared.again.Moved.TheVariants as moves
use Rattle.system_devices.specs.declared.tcp_link.TcpLink.{TcpLink}

-- the octets that its calls gave and took
abbrev pub wire_of : {R : Type 0} → TcpLink R → Wire
wire_of link = record { taken = link.taken.octets; coming = []; written = link.written.octets }

-- the first octets of a buffer were taken, as many as were moved
abbrev pub TakesMoved : Wire → Wire → Moved → List ℕ → Type 0
TakesMoved old new (moves.Octets count) buffer = HasTaken false old new (take count buffer)
TakesMoved old new moves.None buffer = new ≡ old
TakesMoved old new moves.Fault buffer = new ≡ old

-- the first octets of a piece were written, as many as were moved
abbrev pub WritesMoved : Wire → Wire → Moved → List ℕ → Type 0
WritesMoved old new (moves.Octets count) piece = HasWritten false old new (take count piece)
WritesMoved old new moves.None piece = new ≡ old
WritesMoved old new moves.Fault piece = new ≡ old
