-- Octets of a link that were read before they were asked for.
use Rattle.std.specs.Prelude.{◌≡◌, ℕ, ◌-◌, List, [], ◌++◌, length, take, drop, Option, Some, None}
use Rattle.sec_base.specs.Link.{Wire}
use Rattle.stream_buffers.specs.declared.ahead.Ahead.{Ahead}

-- those that were not given out yet, in order
abbrev pub waiting : Ahead → List ℕ
waiting ahead = take (ahead.end - ahead.at) (drop ahead.at ahead.octets.items)

-- those where there is room for any
abbrev pub waiting_in : Option Ahead → List ℕ
waiting_in (Some ahead) = waiting ahead
waiting_in None = []

-- what was given and what waits are, in order, what was taken of the link below; these octets were
-- given now
abbrev pub Gives : Wire → Wire → List ℕ → List ℕ → List ℕ → Type 0
Gives old new before after octets = (given : List ℕ) → given ++ before ≡ old.taken
    → (given ++ octets) ++ after ≡ new.taken

-- these octets are the last of others, in order
abbrev pub AreLast : List ℕ → List ℕ → Type 0
AreLast octets whole = drop (length whole - length octets) whole ≡ octets
