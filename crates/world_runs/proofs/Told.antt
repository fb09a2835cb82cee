-- What holds of each value of a list that was gone through, and of the credential of a mechanism.
use Rattle.std.proofs.Common.{◌≡◌, ◌⊎◌, inl, inr, ℕ, suc, ◌+◌, ◌<◌, arith, refl, sym, ap, ◌∙◌, subst, List, [], ◌∷◌, length, Bool, true, false, if◌then◌else◌, slice_get, Option, Some, None, Result, Ok, Err, IfOk}
use Rattle.std.proofs.Math.Nat.{eq-or-lt_of_le}
use Rattle.std.proofs.lemmas.Option.{slice_get_within}
use Rattle.gss_base.specs.declared.mech.MechKind.{MechKind}
use Rattle.gss_base.specs.declared.mech.MechKind.TheVariants as kinds
use Rattle.krb_files.specs.Granted.{Granted}
use Rattle.krb_msgs.specs.Authenticator.{authenticator}
use Rattle.ap_exchange.specs.Request.{authenticator_of}
use Rattle.scram_mech.specs.Grammar.{AreOctets}
use Rattle.spnego_core.specs.declared.setup.MechCred.{MechCred}
use Rattle.spnego_core.specs.declared.setup.MechCred.TheVariants as creds
use Rattle.spnego_core.specs.Ends.{PlainSetup}
use Rattle.world_laws.specs.Setups.{IsSpelled, IsSetup}
use Rattle.spnego_core.specs.Choice.{same_kind}
use Rattle.spnego_core.specs.InitMech.{kind_of, cred_for, ticket_of}

-- one more
pub one-more : {A : Type 0} (P : A → Type 0) (xs : List A) (n : ℕ) (x : A) → ((i : ℕ) (y : A) → i < n → slice_get xs i ≡ Some y → P y) → slice_get xs n ≡ Some x → P x
    → (i : ℕ) (y : A) → i < n + 1 → slice_get xs i ≡ Some y → P y
one-more {A} P xs n x all there holds i y below is = at (eq-or-lt_of_le (omega (arith, below)))
  where
    same : {a b : A} → Some a ≡ Some b → a ≡ b
    same e = grind (arith, e)

    at : (i ≡ n) ⊎ (i < n) → P y
    at (inr less) = all i y less is
    at (inl equal) = subst P (same (sym there ∙ (ap (λ j. slice_get xs j) (sym equal) ∙ is))) holds

-- all of them
pub each-one : {A : Type 0} (P : A → Type 0) (xs : List A) (n : ℕ) → ((i : ℕ) (y : A) → i < n → slice_get xs i ≡ Some y → P y) → length xs ≡ n → (i : ℕ) (y : A) → slice_get xs i ≡ Some y → P y
each-one P xs n all long i y there = all i y (subst (λ m. i < m) long (slice_get_within xs i y there)) there

-- the credential of a mechanism stands in the list
pub record Stands (list : List MechCred) (cred : MechCred) : Type 0 where
  pub place : ℕ
  pub there : slice_get list place ≡ Some cred

next-stands : (first : MechCred) (rest : List MechCred) (cred : MechCred) → Stands rest cred → Stands (first ∷ rest) cred
next-stands first rest cred s = record { place = suc s.place; there = s.there }

first-or : (first : MechCred) (rest : List MechCred) (cred : MechCred) (found : Option MechCred) (b : Bool) → (found ≡ Some cred → Stands rest cred) → (if b then Some first else found) ≡ Some cred
    → Stands (first ∷ rest) cred
first-or first rest cred found true later is = record { place = 0; there = is }
first-or first rest cred found false later is = next-stands first rest cred (later is)

pub cred-listed : (list : List MechCred) (kind : MechKind) (cred : MechCred) → cred_for list kind ≡ Some cred → Stands list cred
cred-listed [] kind cred is = no-cred cred is
  where
    no-cred : (cred : MechCred) → None ≡ Some cred → Stands [] cred
    no-cred cred e = grind (arith, e)
cred-listed (first ∷ rest) kind cred is = first-or first rest cred (cred_for rest kind) (same_kind (kind_of first) kind) (cred-listed rest kind cred) is

none-some : (credential : Granted) → None ≡ Some credential → ⊥
none-some credential e = grind (arith, e)

some-same : (a b : Granted) → Some a ≡ Some b → a ≡ b
some-same a b e = grind (arith, e)

-- the ticket of a setup has a request with a spelling, where each credential has
ticket-spelled : (own : PlainSetup) (cred : Option MechCred) (credential : Granted) → cred_for own.list kinds.Kerberos ≡ cred → ticket_of cred ≡ Some credential
    → ((i : ℕ) (c : MechCred) → slice_get own.list i ≡ Some c → IsSpelled c own.stamp own.draws own.bindings) → authenticator.fits (authenticator_of credential own.stamp own.draws own.bindings) ≡ true
ticket-spelled own None credential e is spelled = absurd (none-some credential is)
ticket-spelled own (Some (creds.Kerberos name other)) credential e is spelled =
    let s : Stands own.list (creds.Kerberos name other) = cred-listed own.list kinds.Kerberos (creds.Kerberos name other) e in
    let same : other ≡ credential = some-same other credential is in
    subst (λ (c : Granted). authenticator.fits (authenticator_of c own.stamp own.draws own.bindings) ≡ true) same (spelled s.place (creds.Kerberos name other) s.there)
ticket-spelled own (Some (creds.Scram user password)) credential e is spelled = absurd (none-some credential is)

-- a setup, by its parts
pub setup-told : {E : Type 0} (own : PlainSetup) (result : Result (Unit {0}) E) → AreOctets 66 66 own.draws
    → ((application : List ℕ) → own.bindings ≡ Some application → AreOctets 1 32768 application)
    → IfOk result (λ _. (i : ℕ) (cred : MechCred) → slice_get own.list i ≡ Some cred → IsSpelled cred own.stamp own.draws own.bindings) → IfOk result (λ _. IsSetup own)
setup-told own (Ok done) draws bound spelled = record {
  draws = draws;
  bound = bound;
  spelled = λ credential is. ticket-spelled own (cred_for own.list kinds.Kerberos) credential refl is spelled;
}
setup-told own (Err refusal) draws bound spelled = tt
