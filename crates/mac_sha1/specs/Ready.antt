-- A key made ready, RFC 2104 section 4: the hash values after the blocks of its two pads.
use Rattle.std.specs.Prelude.{◌≡◌, ℕ, List}
use Rattle.sha1.specs.Sha1.{hash_after}
use Rattle.mac_sha1.specs.Mac.{inner_pad, outer_pad}
use Rattle.mac_sha1.specs.declared.ready.MacKey.{MacKey}

-- the state is that of the key
pub record Ready (state : MacKey) (key : List ℕ) : Type 0 where
  pub inner : state.inner ≡ hash_after (inner_pad key) 1
  pub outer : state.outer ≡ hash_after (outer_pad key) 1
