-- The mark of an authenticator, by which a replay is known (RFC 4120 section 3.2.3).
use Rattle.std.specs.Prelude.{ℕ, List, ◌∷◌, ◌++◌}
use Rattle.sha1.specs.Sha1.{sha1}
use Rattle.gss_base.specs.declared.mark.Mark.{Mark}

-- who speaks to whom: SHA-1 of the server's text, one octet 00 and the client's text
unfoldable pub who_of : List ℕ → List ℕ → List ℕ
who_of server client = sha1 (server ++ 0 ∷ client)

-- the mark of the authenticator that this client made for this server at this moment
abbrev pub mark_for : List ℕ → List ℕ → ℕ → Mark
mark_for server client at = record { who = who_of server client; at = at }
