-- Where the program's ends are behind an event.
use Rattle.std.specs.Prelude.{◌≡◌, ◌⊎◌}
use Rattle.mech_objects.specs.Meaning.{MechSays}
use Rattle.sasl_pair.specs.declared.event.PairHappened.{PairHappened}
use Rattle.sasl_pair.specs.declared.event.PairHappened.TheVariants.{Nothing}
use Rattle.sasl_pair.specs.declared.stage.ServerStage.{ServerStage}
use Rattle.sasl_pair.specs.declared.stage.ServerStage.TheVariants as servers
use Rattle.sasl_pair.specs.declared.pair.ClientMoves.{ClientMoves}
use Rattle.sasl_pair.specs.declared.pair.ServerMoves.{ServerMoves}
use Rattle.sasl_pair.specs.Moves.{ClientAt, client_means, PairAt, Moved}

abbrev pub client_moved : {X : Type 0} → {D : X → Type 0} → ClientMoves X D
    → ((x : X) × D x → MechSays) → Moved ClientAt
client_moved m says = record { to = client_means m.stage says; says = m.happened }

abbrev pub server_moved : ServerMoves → Moved ServerStage
server_moved m = record { to = m.stage; says = m.happened }

-- an end moved so, or it was lost for want of memory
abbrev pub ComesOr : {A : Type 0} → A → Moved A → Moved A → Type 0
ComesOr over wanted moved = (moved ≡ wanted) ⊎ (moved ≡ record { to = over; says = Nothing })

-- the server of both moved so, or was lost
abbrev pub ServerComes : PairAt → Moved ServerStage → PairHappened → PairAt → Type 0
ServerComes old moved happened new =
    ((new ≡ record old { server = moved.to }) × (happened ≡ moved.says))
    ⊎ ((new ≡ record old { server = servers.Over }) × (happened ≡ Nothing))
