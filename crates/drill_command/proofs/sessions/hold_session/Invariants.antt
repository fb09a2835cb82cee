use Rattle.std.proofs.Common.{◌≡◌, []}
use Rattle.drill_command.proofs.sessions.hold_session.Given as goal

abbrev pub ghosts-hold_from-J-Beginning : goal.ghosts-hold_from-J-Beginning
ghosts-hold_from-J-Beginning g a = record { begins = λ b. b ≡ a.book; width = 128; moment = a.now; given = [] }

abbrev pub ghosts-hold_from-C-Begun : goal.ghosts-hold_from-C-Begun
ghosts-hold_from-C-Begun g a = record { value = a.client.value }

abbrev pub ghosts-hold_from-S-Begun : goal.ghosts-hold_from-S-Begun
ghosts-hold_from-S-Begun g a = record { value = a.server.value }
