-- What a clause sees of a key.
use Rattle.std.specs.Prelude.{ℕ, ◌-◌, ◌*◌, List, take}
use Rattle.aes_cts.specs.declared.forward.ForwardKey.{ForwardKey}
use Rattle.aes_cts.specs.declared.key.AesKey.{AesKey}

-- the octets of the key, four for each word, of which there are six fewer than rounds
unfoldable pub cipher_key : AesKey → List ℕ
cipher_key key = take (4 * (key.rounds - 6)) key.octets

-- the same of one that enciphers alone
unfoldable pub forward_key : ForwardKey → List ℕ
forward_key key = take (4 * (key.rounds - 6)) key.octets
