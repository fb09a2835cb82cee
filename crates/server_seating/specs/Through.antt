-- A run in which no desk was served.
use Rattle.std.specs.Prelude.{◌≡◌, List}
use Rattle.accept_core.specs.Logs.{LogOf, no_log}
use Rattle.server_desks.specs.declared.desk.Desk.{Desk}

-- no book was opened: the desks are as they were, and the log is empty and has no limits
pub record NoBook {P C D K M W : Type 0} (olds news : List (Desk P C D K M W)) (log : LogOf) : Type
    0 where
  pub same : news ≡ olds
  pub empty : log ≡ no_log
