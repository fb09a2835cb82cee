-- Stamps of authenticators, no two of which are equal (RFC 4120 section 3.2.2).
use Rattle.std.specs.Prelude.{ℕ, ◌+◌, nat_lt, if◌then◌else◌, Option, Some, None}
use Rattle.sec_base.specs.Moment.{greatest_moment}

-- the stamp that is given now, after the last one: the moment where it is later, else the last and
-- one microsecond; none where that passes the greatest moment
abbrev pub next_stamp : Option ℕ → ℕ → Option ℕ
next_stamp None now = Some now
next_stamp (Some last) now =
    if nat_lt last now then Some now else if nat_lt last greatest_moment then Some (last + 1)
    else None

-- the last stamp that was given after that
abbrev pub last_after : Option ℕ → Option ℕ → Option ℕ
last_after last (Some stamp) = Some stamp
last_after last None = last
