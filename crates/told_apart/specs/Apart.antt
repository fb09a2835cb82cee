-- Octets that can't be taken for another thing that is signed by the key of a context. A caller
-- signs its calls' headers, their arguments and its list of mechanisms, and an acceptor results and
-- the list that came (RFC 2203 sections 5.3.1 and 5.3.2.2, RFC 4178 section 4.2.2): arguments and
-- results stand behind four octets, the number of their call, and nothing but what follows these
-- tells them from a header or a list.
use Rattle.std.specs.Prelude.{◌≡◌, ◌≢◌, ◌<◌, ℕ, true, List, [], length, take, drop}
use Rattle.std.specs.Int.{w32, from_be_bytes}
use Rattle.gss_base.specs.declared.mech.MechName.{MechName}
use Rattle.gss_base.specs.Mech.{oid_named}
use Rattle.der_core.specs.Values.{object_identifier}
use Rattle.rpc_msgs.specs.declared.numbers.TheConstants.{CALL, NULL, RPC_VERSION}
use Rattle.rpc_program.specs.Programs.{ProgramSays}

-- the first word of octets
abbrev pub first_word : List ℕ → ℕ
first_word octets = from_be_bytes w32 (take 4 octets)

-- the first word of a mechanism's object identifier, behind its tag and its length, which is what
-- a list has behind its first four octets
abbrev pub oid_word : MechName → ℕ
oid_word name = first_word (drop 2 (object_identifier.spell (oid_named name)))

-- they don't begin as a list of mechanisms goes on, or aren't of the length of one: a list of three
-- has fewer than 100 octets
pub record NoList (octets : List ℕ) : Type 0 where
  pub other : (name : MechName) → 4 < length octets → length octets < 96
      → first_word octets ≢ oid_word name

-- where they begin as the header of a call goes on behind its xid (RFC 5531 section 9), they are
-- too short for one
pub record NoHeader (octets : List ℕ) : Type 0 where
  pub few : first_word octets ≡ CALL → first_word (drop 4 octets) ≡ RPC_VERSION
      → length octets < 44

-- what a program takes for arguments: nothing for NULL (RFC 5531 section 12.1), and for no
-- procedure what can't be told from a header or a list
pub record IsApart (program : ProgramSays) : Type 0 where
  pub null : (args : List ℕ) → program.takes NULL args ≡ true → args ≡ []
  pub headers : (procedure : ℕ) (args : List ℕ) → program.takes procedure args ≡ true
      → NoHeader args
  pub lists : (procedure : ℕ) (args : List ℕ) → program.takes procedure args ≡ true → NoList args
