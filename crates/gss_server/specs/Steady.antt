-- What serving a connection leaves as it was, and what its clock and draw gave.
use Rattle.std.specs.Prelude.{◌≡◌, ◌≤◌, ◌++◌, ℕ, false, IsTrue, List, map}
use Rattle.std.specs.List.{flat_map}
use Rattle.sec_base.specs.Answers.{Rose}
use Rattle.sec_base.specs.declared.clock.Clock as clocks
use Rattle.sec_base.specs.declared.draw.Draw as draws
use Rattle.sec_base.specs.declared.link.Link as links
use Rattle.gss_server.specs.declared.answer.Kept.{Kept}
use Rattle.gss_server.specs.declared.gate.Gate as gates

-- a link tells as before, isn't closed, and counts no fewer faults
pub record LinkKept {L : Type 0} (link : links.Ghosts L) (old new : L) : Type 0 where
  pub tells : link.tells new ≡ link.tells old
  pub unclosed : link.closed new ≡ false
  pub faults : link.faults old ≤ link.faults new

-- the same, and where the link failed, and only there, it counts a fault more
pub record LinkLeft {L : Type 0} (link : links.Ghosts L) (old new : L) (Failed : Type 0) : Type
    0 where
  pub kept : LinkKept link old new
  pub fault : Failed → Rose (link.faults old) (link.faults new)
  pub steady : (Failed → ⊥) → link.faults new ≡ link.faults old

-- a link was closed that counted no fault up to its close
pub record ClosedWell {L : Type 0} (link : links.Ghosts L) (old new : L) : Type 0 where
  pub before : L
  pub steady : link.faults before ≡ link.faults old
  pub closes : link.closes before new

-- a gate tells as before, under the limits of before
pub record GateKept {G : Type 0} (gate : gates.Ghosts G) (old new : G) : Type 0 where
  pub tells : gate.tells new ≡ gate.tells old
  pub limits : gate.limits new ≡ gate.limits old

-- the moments of kept answers, in order
abbrev pub moments_of : List Kept → List ℕ
moments_of kept = map (λ one. one.now) kept

-- the octets that were drawn for kept answers, in order
abbrev pub draws_of : List Kept → List ℕ
draws_of kept = flat_map (λ one. one.draws) kept

-- a clock gave the moments of these answers, in order, and no others, as long as it tells
pub record Timed {C : Type 0} (clock : clocks.Ghosts C) (old new : C) (kept : List Kept) : Type
    0 where
  pub tells : IsTrue (clock.tells new) → IsTrue (clock.tells old)
  pub moments : IsTrue (clock.tells new) → clock.given new ≡ clock.given old ++ moments_of kept

-- a draw gave the octets of these answers, in order, and no others, as long as it tells
pub record Drawn {D : Type 0} (draw : draws.Ghosts D) (old new : D) (kept : List Kept) : Type
    0 where
  pub tells : IsTrue (draw.tells new) → IsTrue (draw.tells old)
  pub draws : IsTrue (draw.tells new) → draw.given new ≡ draw.given old ++ draws_of kept
