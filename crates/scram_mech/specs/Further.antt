-- Further parts of a text, RFC 5802 section 5.1.
use Rattle.std.specs.Prelude.{ℕ, Bool, true, false, ◌==◌, is_none, Option, Some, None}
use Rattle.std.specs.Prelude.{if◌then◌else◌}
use Rattle.scram_mech.specs.declared.further.Due.{Due}
use Rattle.scram_mech.specs.declared.further.Due.TheVariants.{Part, Letter, Equals, Value, Nothing}
use Rattle.scram_mech.specs.declared.further.Further.{Further}
use Rattle.scram_mech.specs.Signs.{is_value, is_free}

-- parts up to the same letter, of which this is due now
abbrev pub go : Further → Due → Option Further
go f due = Some (record { due = due; last = f.last })

-- the letter of the named part behind the further ones
abbrev pub is_last : Option ℕ → ℕ → Bool
is_last None octet = false
is_last (Some last) octet = octet == last

-- what is due behind a letter: nothing behind that of the named part, `=` behind that of a further
-- one, and no other letter can stand here
abbrev pub letter : Further → ℕ → Option Further
letter f octet =
    if is_last f.last octet then go f Nothing else if is_free octet then go f Equals else None

-- what is due behind an octet, by what was due before it; none if it can't stand here
abbrev pub further_step_in : Due → Further → ℕ → Option Further
further_step_in Part f octet = if octet == 44 then go f Letter else None
further_step_in Letter f octet = letter f octet
further_step_in Equals f octet = if octet == 61 then go f Value else None
further_step_in Value f octet =
    if octet == 44 then go f Letter else if is_value octet then go f Value else None
further_step_in Nothing f octet = None

-- what is due behind an octet of further parts, none if it can't stand here
abbrev pub further_step : Further → ℕ → Option Further
further_step f octet = further_step_in f.due f octet

-- the parts may end where this is due: behind a whole part or before any, or behind the letter of
-- the named part if there is to be one
abbrev pub further_ends_in : Due → Further → Bool
further_ends_in Part f = is_none f.last
further_ends_in Letter f = false
further_ends_in Equals f = false
further_ends_in Value f = is_none f.last
further_ends_in Nothing f = true

-- the further parts may end here
abbrev pub further_ends : Further → Bool
further_ends f = further_ends_in f.due f
