-- What a message's having a spelling says of its fields.
use Rattle.std.proofs.Common.{◌≡◌, ℕ, suc, ◌%◌, ◌<◌, ◌≤◌, Bool, true, false, leb, eqb, List, [], ◌∷◌, get_or, refl, eqb-true}
use Rattle.std.proofs.Math.Bool.{and-false}
use Rattle.std.proofs.lemmas.Bool.{leb-true, lt-ltb, and_from}
use Rattle.gss_base.specs.Principal.{is_named}
use Rattle.der_core.specs.Element.{are_octets}
use Rattle.der_core.specs.Integer.{natural}
use Rattle.der_core.specs.Time.{time}
use Rattle.krb_msgs.specs.declared.enc_ticket_part.EncTicketPart.{EncTicketPart}
use Rattle.krb_msgs.specs.declared.authenticator.Authenticator.{Authenticator}
use Rattle.krb_msgs.specs.EncTicketPart.{enc_ticket_part_element, enc_ticket_part}
use Rattle.krb_msgs.specs.Authenticator.{authenticator_element, authenticator}

-- a test that can't fail holds
unless_false : (t : Bool) → (t ≡ false → false ≡ true) → t ≡ true
unless_false true f = refl
unless_false false f = f refl

pub client_named : (p : EncTicketPart) → enc_ticket_part.fits p ≡ true → is_named p.crealm p.cname.name_string ≡ true
unfolding enc_ticket_part_element
client_named p e = unless_false (is_named p.crealm p.cname.name_string) (λ f. simp (f, and-false) at e)

pub time_whole : (a : Authenticator) → authenticator.fits a ≡ true → a.ctime % 1000000 ≡ 0
unfolding authenticator_element time
time_whole a e = eqb-true (a.ctime % 1000000) 0 (unless_false (eqb (a.ctime % 1000000) 0) (λ f. simp (f, and-false) at e))

pub micros_most : (a : Authenticator) → authenticator.fits a ≡ true → a.cusec ≤ 999999
unfolding authenticator_element natural
micros_most a e = leb-true a.cusec 999999 (unless_false (leb a.cusec 999999) (λ f. simp (f, and-false) at e))

pub octets_are : (octets : List ℕ) → ((k : ℕ) → get_or octets k 0 < 256) → are_octets octets ≡ true
octets_are [] each = refl
octets_are (o ∷ os) each = and_from _ _ (lt-ltb o 256 (each 0)) (octets_are os (λ k. each (suc k)))
