-- What is judged of one part after the other is what is judged of all parts at once.
use Rattle.std.proofs.Common.{◌≡◌, ℕ, List, Option, Result, Ok, Err, refl}
use Rattle.gss_base.specs.Name.{Name}
use Rattle.der_core.specs.Format.{all_of}
use Rattle.krb_msgs.specs.EncTicketPart.{enc_ticket_part}
use Rattle.krb_msgs.specs.Authenticator.{authenticator}
use Rattle.krb_files.specs.declared.keytab.Entry.{Entry}
use Rattle.ap_exchange.specs.declared.refusal.Part.TheVariants as parts
use Rattle.ap_exchange.specs.declared.refusal.ApRefusal.{ApRefusal}
use Rattle.ap_exchange.specs.declared.refusal.ApRefusal.TheVariants as refusals
use Rattle.ap_exchange.specs.declared.judged.Judged.{Judged}
use Rattle.ap_exchange.specs.Steps.{◌>>=◌, der_in}
use Rattle.ap_exchange.specs.Keys.{authenticator_usage, key_in, data_opened}
use Rattle.ap_exchange.specs.Exchange.{Exchange, requested, ticket_for, service_key, ticket_opened, exchange_of}
use Rattle.ap_exchange.specs.Judging.{claim_judged, judged}
use Rattle.ap_exchange.specs.Opening.{ticket_part, part_opened, said_opened, part_judged, judged_by_parts}

through : {A B C : Type 0} (r : Result A ApRefusal) (f : A → Result B ApRefusal) (g : B → Result C ApRefusal) (h : A → Result C ApRefusal)
    → ((x : A) → (f x >>= g) ≡ h x) → ((r >>= f) >>= g) ≡ (r >>= h)
through (Ok x) f g h same = same x
through (Err e) f g h same = refl

both : {A B C D : Type 0} (r : Result A ApRefusal) (f : A → Result B ApRefusal) (g : B → Result D ApRefusal) (h : A → Result C ApRefusal) (k : C → Result D ApRefusal)
    → ((x : A) → (f x >>= g) ≡ (h x >>= k)) → ((r >>= f) >>= g) ≡ ((r >>= h) >>= k)
both (Ok x) f g h k same = same x
both (Err e) f g h k same = refl

-- what is judged of an exchange
abbrev claimed : Name → ℕ → Option (List ℕ) → Exchange → Result Judged ApRefusal
claimed own now bindings x = claim_judged own now bindings x.session x.part x.said

pub judged_in_parts : (keytab : List Entry) (own : Name) (now : ℕ) (bindings : Option (List ℕ)) (token : List ℕ) → judged keytab own now bindings token ≡ judged_by_parts keytab own now bindings token
unfolding judged exchange_of judged_by_parts part_opened ticket_part part_judged said_opened
judged_in_parts keytab own now bindings token =
    let g = claimed own now bindings in
    through (requested token) _ g _ (λ request.
    both (ticket_for own request) _ g _ (part_judged own now bindings request) (λ granted.
    both (service_key keytab own granted) _ g _ (part_judged own now bindings request) (λ service.
    both (ticket_opened service granted) _ g _ (part_judged own now bindings request) (λ ticket_octets.
    through (der_in parts.Ticket (enc_ticket_part.read (all_of ticket_octets))) _ g (part_judged own now bindings request) (λ part.
    through (key_in part.key) _ g _ (λ session.
    both (data_opened refusals.AuthClosed session authenticator_usage request.authenticator) _ g _ (claim_judged own now bindings session part) (λ octets.
    through (der_in parts.Authenticator (authenticator.read (all_of octets))) _ g (claim_judged own now bindings session part) (λ said. refl))))))))
