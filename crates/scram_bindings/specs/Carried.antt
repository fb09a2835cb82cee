-- Application data of channel bindings in a client-final-message, RFC 5802 sections 5.1 and 6.
use Rattle.std.specs.Prelude.{ℕ, Bool, true, nat_eq, ◌==◌, List, [], length, Option, Some, None}
use Rattle.std.specs.Prelude.{unwrap_or, if◌then◌else◌}
use lib.Pointwise.{pointwise}

-- the application data of bindings, none without them
abbrev pub data_of : Option (List ℕ) → List ℕ
data_of bindings = unwrap_or bindings []

-- the bindings of application data that came, none where there is none
abbrev pub carried : List ℕ → Option (List ℕ)
carried binding = if length binding == 0 then None else Some binding

-- data that came against an acceptor's bindings; an acceptor without any takes whatever comes
abbrev pub is_bound : Option (List ℕ) → List ℕ → Bool
is_bound None binding = true
is_bound (Some bindings) binding = pointwise nat_eq bindings binding
