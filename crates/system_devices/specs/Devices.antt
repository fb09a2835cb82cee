-- What devices of the system show of themselves.
use Rattle.std.specs.Prelude.{ℕ, Bool, List}
use Rattle.rand_chacha.specs.ChaCha.{ChaCha}
use Rattle.rand_chacha.specs.ChaCha as chacha
use Rattle.rand_core.specs.Steps.{stream_of, steps_u32}
use Rattle.rand_core.specs.Stream.{Stream}
use Rattle.system_devices.specs.declared.dialed_link.DialedLink.{DialedLink}
use Rattle.system_devices.specs.declared.rand_draw.RandDraw.{RandDraw}
use Rattle.system_devices.specs.declared.stdio_port.StdioPort.{StdioPort}
use Rattle.system_devices.specs.declared.system_clock.SystemClock.{SystemClock}
use Rattle.system_devices.specs.declared.tcp_port.TcpDoor.{TcpDoor}

-- the moment that a clock gives where the system's time can't be read
abbrev pub last_given : {R : Type 0} → SystemClock R → ℕ
last_given clock = clock.last

-- a port's one link was given
abbrev pub is_given : StdioPort → Bool
is_given port = port.given

-- the address at which a door is to listen
abbrev pub door_address : {R : Type 0} → TcpDoor R → List ℕ
door_address door = door.address.now

-- the address to which a link is to connect
abbrev pub dialed_address : {R : Type 0} → DialedLink R → List ℕ
dialed_address link = link.address.now

-- a draw's generator, and all the octets that it will give from now on
abbrev pub generator_of : RandDraw → ChaCha
generator_of draw = draw.generator

abbrev pub to_come : RandDraw → Stream
to_come draw = stream_of (steps_u32 (chacha.next_word 6)) draw.generator
