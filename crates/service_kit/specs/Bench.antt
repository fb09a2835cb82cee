-- What a server in memory begins with.
use Rattle.std.specs.Prelude.{◌≡◌, ℕ, List, [], ◌∷◌, None, Result, Ok, codes}
use Rattle.gss_base.specs.Name.{Name}
use Rattle.gss_base.specs.declared.mech.MechKind.TheVariants.{Scram}
use Rattle.scram_mech.specs.Verifiers.{made_line, verifiers_of}
use Rattle.scram_mech.specs.declared.refusal.ScramRefusal.{ScramRefusal}
use Rattle.spnego_core.specs.declared.setup.AcceptSetup.{AcceptSetup}
use Rattle.accept_book.specs.Booking.{BookOf}
pub use Rattle.scram_mech.specs.declared.refusal.ScramRefusal.{ScramRefusal}

-- rpc/localhost@REALM.TEST
abbrev pub bench_name : Name
bench_name =
    record { realm = codes "REALM.TEST"; parts = codes "rpc" ∷ codes "localhost" ∷ [] }

-- the line of verifiers that is made of a user and a password, or why they can't be a user's
abbrev pub user_line : List ℕ → List ℕ → Result (List ℕ) ScramRefusal
user_line user password = made_line user password (codes "salt of example.") 4096

-- an acceptor of this name without keys of Kerberos and without bindings, which offers SCRAM alone
pub record IsPlain (setup : AcceptSetup) : Type 0 where
  pub named : setup.own ≡ bench_name
  pub keyless : setup.keytab ≡ []
  pub unbound : setup.bindings ≡ None
  pub offer : setup.offer ≡ Scram ∷ []

-- such an acceptor that knows this user by this password, and nobody else: its verifiers are those
-- of the user's line
pub record KnowsUser (user password : List ℕ) (setup : AcceptSetup) : Type 0 where
  pub line : List ℕ
  pub made : user_line user password ≡ Ok line
  pub known : verifiers_of line ≡ Ok setup.verifiers
  pub plain : IsPlain setup

-- a book as a server in memory opens it: for such an acceptor, with room for four contexts and four
-- authenticators, 1,024 entries of its log and windows of eight numbers, at the start of 1970
pub record IsBench (user password : List ℕ) (book : BookOf) : Type 0 where
  pub knows : KnowsUser user password book.setup
  pub history : book.core.history ≡ []
  pub contexts : book.core.table.limit ≡ 4
  pub empty : book.core.table.slots ≡ []
  pub marks : book.core.cache.capacity ≡ 4
  pub greatest : book.core.cache.greatest ≡ 0
  pub limit : book.core.limit ≡ 1024
  pub width : book.core.width ≡ 8
