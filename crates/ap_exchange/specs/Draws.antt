-- What an exchange takes of 66 drawn octets.
use Rattle.std.specs.Prelude.{ℕ, List, take, drop}
use Rattle.krb_derive.specs.declared.key.Etype.{Etype}
use Rattle.krb_derive.specs.declared.key.Key.{Key}
use Rattle.krb_derive.specs.Key.{key_length, key_with}

-- octets 0 to 31: a subkey, of type 17 the first 16 of them
abbrev pub drawn_subkey : Etype → List ℕ → Key
drawn_subkey etype draws = key_with etype (take (key_length etype) draws)

-- octets 32 to 47: a confounder
abbrev pub drawn_confounder : List ℕ → List ℕ
drawn_confounder draws = take 16 (drop 32 draws)

-- octets 48 to 65: SCRAM's nonce
abbrev pub drawn_nonce : List ℕ → List ℕ
drawn_nonce draws = take 18 (drop 48 draws)
