-- An honest pair by its facts alone: all else that `HonestPair` asks for is found out of the types
-- of an initiator's parts, and of what an acceptor draws.
use Rattle.std.specs.Prelude.{◌≡◌, ℕ, ◌≤◌, true, false, is_ok, List, length, map, slice_get, Option}
use Rattle.std.specs.Prelude.{Some}
use Rattle.std.specs.List.{AllByRecursion}
use Rattle.gss_base.specs.declared.mech.MechKind.{MechKind}
use Rattle.gss_base.specs.Principal.{is_named}
use Rattle.krb_files.specs.Granted.{Granted}
use Rattle.krb_msgs.specs.declared.enc_ticket_part.EncTicketPart.{EncTicketPart}
use Rattle.ap_exchange.specs.Draws.{drawn_nonce}
use Rattle.ap_exchange.specs.Request.{request_of, RequestFits}
use Rattle.ap_exchange.specs.Answer.{AnswerFits}
use Rattle.ap_exchange.specs.Laws.{Fits, honest_judged}
use Rattle.scram_mech.specs.Initiator.{init_started}
use Rattle.spnego_core.specs.declared.setup.AcceptSetup.{AcceptSetup}
use Rattle.spnego_core.specs.declared.setup.MechCred.{MechCred}
use Rattle.spnego_core.specs.declared.setup.MechCred.TheVariants as creds
use Rattle.spnego_core.specs.Ends.{PlainSetup}
use Rattle.spnego_core.specs.Choice.{best}
use Rattle.spnego_core.specs.Exchange.{Occasion, UserFits, BareFits, HonestPair, tokens_of}
use Rattle.spnego_core.specs.InitMech.{is_own_list, cred_for}
use Rattle.spnego_core.specs.Initiating.{own_list, init_start}

-- ---- the facts

-- Kerberos: the ticket, the names, the moment, the stamp and the bindings fit. SCRAM: the user and
-- the password meet a line of the verifiers, and the acceptor has no bindings or the same ones
abbrev pub CredMeets : AcceptSetup → PlainSetup → MechCred → Occasion → Type 0
CredMeets setup own (creds.Kerberos name credential) occasion =
    Fits setup.keytab setup.own occasion.now setup.bindings credential own.stamp own.bindings
CredMeets setup own (creds.Scram user password) occasion = UserFits setup own user password occasion

-- the first mechanism of the initiator's list begins, the two lists have a mechanism in common,
-- and the facts of that one's credential fit on each occasion, of which there is one for each token
pub record Meets (setup : AcceptSetup) (own : PlainSetup) (kind : MechKind)
    (occasions : List Occasion) : Type 0 where
  pub begins : is_ok (init_start own) ≡ true
  pub chosen : best setup.offer (own_list own) ≡ Some kind
  pub cred : MechCred
  pub is_cred : cred_for own.list kind ≡ Some cred
  pub counted : length occasions ≡ tokens_of setup own kind
  pub facts : AllByRecursion (CredMeets setup own cred) occasions
  pub bare : own.negotiates ≡ false → BareFits setup own

-- what each occasion has drawn
abbrev pub drawn_on : List Occasion → List (List ℕ)
drawn_on occasions = map (λ occasion. occasion.drawn) occasions

-- with an acceptor that draws so, an initiator that meets it is an honest pair
abbrev pub MeetLaw : PlainSetup → List (List ℕ) → Type 0
MeetLaw own draws =
    (setup : AcceptSetup) (kind : MechKind) (occasions : List Occasion)
    → drawn_on occasions ≡ draws → Meets setup own kind occasions
    → HonestPair setup own kind occasions

-- ---- what the types tell

-- an answer to a request with this stamp and credential has a spelling, with what was drawn for it
pub record AnswerTold (stamp : ℕ) (credential : Granted) (drawn : List ℕ) : Type 0 where
  pub fits : (bindings : Option (List ℕ)) (part : EncTicketPart)
      → AnswerFits (honest_judged credential stamp bindings part) drawn

-- a request with this credential has a spelling, where its ticket is one, and so have its answers;
-- its ticket has at most 60,000 octets, and its client a name
pub record TicketTold (own : PlainSetup) (draws : List (List ℕ)) (credential : Granted) : Type 0
  where
    pub request : is_ok (request_of credential own.stamp own.draws own.bindings) ≡ true
        → RequestFits credential own.stamp own.draws own.bindings
    pub ticket : length credential.ticket ≤ 60000
    pub named : is_named credential.client.realm credential.client.parts ≡ true
    pub answers : (i : ℕ) (drawn : List ℕ) → slice_get draws i ≡ Some drawn
        → AnswerTold own.stamp credential drawn

-- a user of SCRAM whose exchange begins has at most 255 octets
pub record UserTold (own : PlainSetup) (user password : List ℕ) : Type 0 where
  pub few : is_ok (init_started user password (drawn_nonce own.draws) own.bindings) ≡ true
      → length user ≤ 255

-- what a credential tells, by its mechanism
abbrev pub CredTold : PlainSetup → List (List ℕ) → MechCred → Type 0
CredTold own draws (creds.Kerberos name credential) = TicketTold own draws credential
CredTold own draws (creds.Scram user password) = UserTold own user password

-- 66 octets
abbrev pub IsDrawn : List ℕ → Type 0
IsDrawn octets = length octets ≡ 66

-- an initiator's setup, and what an acceptor draws: how many octets were drawn, and what each
-- credential tells
pub record SetupTold (own : PlainSetup) (draws : List (List ℕ)) : Type 0 where
  pub list : is_own_list own.list ≡ true
  pub drawn : IsDrawn own.draws
  pub all_drawn : (i : ℕ) (drawn : List ℕ) → slice_get draws i ≡ Some drawn → IsDrawn drawn
  pub creds : (i : ℕ) (cred : MechCred) → slice_get own.list i ≡ Some cred
      → CredTold own draws cred
