-- What a socket gave fits its buffer.
use Rattle.std.specs.Prelude.{ℕ, ◌≤◌, List, length}
use Rattle.udp_post.specs.declared.udp_post.Received.{Received}
use Rattle.udp_post.specs.declared.udp_post.Received.TheVariants.{From, Nothing, Fault}

-- a datagram of no more octets than there is room for
abbrev pub FitsRoom : Received → List ℕ → Type 0
FitsRoom (From count sender) buf = count ≤ length buf
FitsRoom Nothing buf = Unit {0}
FitsRoom Fault buf = Unit {0}
