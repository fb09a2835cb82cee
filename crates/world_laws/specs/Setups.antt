-- What the setups that a world is begun with are: what the types of their parts say of them.
use Rattle.std.specs.Prelude.{◌≡◌, ℕ, true, List, slice_get, Option, Some}
use Rattle.krb_files.specs.Granted.{Granted}
use Rattle.krb_msgs.specs.Authenticator.{authenticator}
use Rattle.ap_exchange.specs.Request.{authenticator_of}
use Rattle.scram_mech.specs.declared.verifiers.Verifier.{Verifier}
use Rattle.scram_mech.specs.Grammar.{AreOctets}
use Rattle.scram_mech.specs.VerifierFile.{IsLine}
use Rattle.spnego_core.specs.declared.setup.MechCred.{MechCred}
use Rattle.spnego_core.specs.declared.setup.MechCred.TheVariants as creds
use Rattle.spnego_core.specs.Ends.{PlainSetup}
use Rattle.spnego_core.specs.InitMech.{ticket_for}
use Rattle.told_apart.specs.Apart.{IsApart}
use Rattle.world_laws.specs.State.{World}

-- the moment, the names, the hash and the subkey of a request have a spelling
abbrev pub IsSpelled : MechCred → ℕ → List ℕ → Option (List ℕ) → Type 0
IsSpelled (creds.Kerberos name credential) stamp draws bindings =
    authenticator.fits (authenticator_of credential stamp draws bindings) ≡ true
IsSpelled (creds.Scram user password) stamp draws bindings = Unit {0}

-- an initiator's setup: octets that may be drawn, bindings that may be, a request with a spelling
pub record IsSetup (own : PlainSetup) : Type 0 where
  pub draws : AreOctets 66 66 own.draws
  pub bound : (application : List ℕ) → own.bindings ≡ Some application
      → AreOctets 1 32768 application
  -- the moment, the names, the hash and the subkey of a request have a spelling
  pub spelled : (credential : Granted)
      → ticket_for own.list ≡ Some credential
      → authenticator.fits (authenticator_of credential own.stamp own.draws own.bindings) ≡ true

-- each initiator has such a setup, each user's line of the acceptor is of its grammar, and the
-- program that is served takes what can be told apart
pub record Proper (w : World) : Type 0 where
  pub setups : (i : ℕ) (own : PlainSetup) → slice_get w.facts i ≡ Some own → IsSetup own
  pub lines : (place : ℕ) (line : Verifier) → slice_get w.book.setup.verifiers place ≡ Some line
      → IsLine line
  pub program : IsApart w.serves.program
