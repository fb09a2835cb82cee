-- An honest exchange: an initiator and an acceptor that have a mechanism in common, whose facts
-- fit, take each other's tokens in turn, and both are done with one outcome.
use Rattle.std.specs.Prelude.{◌≡◌, ℕ, ◌+◌, true, false, if◌then◌else◌, List, [], ◌∷◌, length, Some}
use Rattle.std.specs.Prelude.{Result, Ok, Err}
use Rattle.std.specs.List.{AllByRecursion}
use Rattle.gss_base.specs.declared.mech.MechKind.{MechKind}
use Rattle.gss_base.specs.declared.mech.MechKind.TheVariants as kinds
use Rattle.krb_files.specs.Granted.{Granted}
use Rattle.ap_exchange.specs.Draws.{drawn_nonce}
use Rattle.ap_exchange.specs.Request.{RequestFits}
use Rattle.ap_exchange.specs.Answer.{AnswerFits}
use Rattle.ap_exchange.specs.Laws.{Fits, honest_judged}
use Rattle.scram_bindings.specs.Carried.{data_of, is_bound}
use Rattle.scram_mech.specs.Laws.{Honest}
use Rattle.spnego_core.specs.declared.outcome.Outcome.{Outcome}
use Rattle.spnego_core.specs.declared.refusal.NegRefusal.{NegRefusal}
use Rattle.spnego_core.specs.declared.setup.AcceptSetup.{AcceptSetup}
use Rattle.spnego_core.specs.declared.setup.MechCred.{MechCred}
use Rattle.spnego_core.specs.declared.setup.MechCred.TheVariants as creds
use Rattle.spnego_core.specs.declared.accept_end.AcceptEnd.{AcceptEnd}
use Rattle.spnego_core.specs.declared.accept_end.AcceptEnd.TheVariants as accepts
use Rattle.spnego_core.specs.declared.accept_end.AcceptStep.{AcceptStep}
use Rattle.spnego_core.specs.declared.accept_end.AcceptStep.TheVariants as accepted
use Rattle.spnego_core.specs.Ends.{PlainSetup, EndSays}
use Rattle.spnego_core.specs.EndSteps as initiated
use Rattle.spnego_core.specs.Choice.{is_first, best, is_mic_due}
use Rattle.spnego_core.specs.Bare.{takes_bare}
use Rattle.spnego_core.specs.InitMech.{kinds_of, is_own_list, is_bare_list, cred_for, MechBegun}
use Rattle.spnego_core.specs.InitMech.{init_begun}
use Rattle.spnego_core.specs.Sizes.{IsShort}
use Rattle.spnego_core.specs.Tokens.{resp_octets}
use Rattle.spnego_core.specs.Accepting as accepting
use Rattle.spnego_core.specs.Initiating as initiating

-- what an acceptor is given with a token: the moment, and the octets that it draws
pub record Occasion : Type 0 where
  pub now : ℕ
  pub drawn : List ℕ

-- ---- the dialogue

-- the step where the repeat test, if it is asked for, finds no repeat
abbrev pub passed : AcceptStep → AcceptStep
passed (accepted.More end token) = accepted.More end token
passed (accepted.Done outcome lasts token) = accepted.Done outcome lasts token
passed (accepted.WantsAuth pause) = accepting.step_after pause

-- the same of a step that may be refused
abbrev pub passed_of : Result AcceptStep NegRefusal → Result AcceptStep NegRefusal
passed_of (Ok step) = Ok (passed step)
passed_of (Err refusal) = Err refusal

-- the acceptor's step to a token on an occasion
abbrev pub answered_on : AcceptSetup → Occasion → AcceptEnd → List ℕ → Result AcceptStep NegRefusal
answered_on setup occasion end token = passed_of
    (accepting.step_of (accepting.accept_step setup end token occasion.now occasion.drawn))

-- the acceptor takes the token, the initiator takes its reply, and both go on; the further token
-- has at most 65,536 octets
pub record GoesOn (setup : AcceptSetup) (occasion : Occasion) (acceptor : AcceptEnd)
    (initiator : EndSays) (token : List ℕ) : Type 0 where
  pub reply : List ℕ
  pub acceptor_after : AcceptEnd
  pub accepts : answered_on setup occasion acceptor token ≡ Ok (accepted.More acceptor_after reply)
  pub initiator_after : EndSays
  pub further : List ℕ
  pub initiates : initiating.step_of (initiating.init_step initiator reply)
      ≡ Ok (initiated.More initiator_after further)
  pub short : IsShort further

-- the acceptor takes the token, the initiator takes its reply, and both are done with this outcome
pub record IsDone (setup : AcceptSetup) (occasion : Occasion) (acceptor : AcceptEnd)
    (initiator : EndSays) (token : List ℕ) (outcome : Outcome) : Type 0 where
  pub reply : List ℕ
  pub lasts : ℕ
  pub accepts : answered_on setup occasion acceptor token ≡ Ok (accepted.Done outcome lasts reply)
  pub initiates : initiating.step_of (initiating.init_step initiator reply)
      ≡ Ok (initiated.Done outcome)

-- both go on, on each of these occasions but the last, and on that both are done
abbrev pub Completes : AcceptSetup → List Occasion → AcceptEnd → EndSays → List ℕ → Outcome → Type 0
Completes setup [] acceptor initiator token outcome = ⊥
Completes setup (last ∷ []) acceptor initiator token outcome =
    IsDone setup last acceptor initiator token outcome
Completes setup (occasion ∷ next ∷ later) acceptor initiator token outcome =
    (step : GoesOn setup occasion acceptor initiator token)
    × Completes setup (next ∷ later) step.acceptor_after step.initiator_after step.further outcome

-- ---- the facts

-- Kerberos: the ticket, the names, the moment, the stamp and the bindings fit, and what both write
-- has a spelling
pub record TicketFits (setup : AcceptSetup) (own : PlainSetup) (credential : Granted)
    (occasion : Occasion) : Type 0 where
  pub fit : Fits setup.keytab setup.own occasion.now setup.bindings credential own.stamp
      own.bindings
  pub request : RequestFits credential own.stamp own.draws own.bindings
  pub answer : AnswerFits (honest_judged credential own.stamp own.bindings fit.part) occasion.drawn

-- SCRAM: the user and the password meet a line of the verifiers, and the acceptor has no bindings
-- or the same ones
pub record UserFits (setup : AcceptSetup) (own : PlainSetup) (user password : List ℕ)
    (occasion : Occasion) : Type 0 where
  pub salt : List ℕ
  pub rounds : ℕ
  pub honest : Honest user password (drawn_nonce own.draws) (drawn_nonce occasion.drawn)
      own.bindings setup.verifiers salt rounds
  pub bound : is_bound setup.bindings (data_of own.bindings) ≡ true

-- the facts of a credential fit on an occasion, by its mechanism
abbrev pub CredFits : AcceptSetup → PlainSetup → MechCred → Occasion → Type 0
CredFits setup own (creds.Kerberos name credential) occasion =
    TicketFits setup own credential occasion
CredFits setup own (creds.Scram user password) occasion = UserFits setup own user password occasion

-- the facts fit on an occasion, and the acceptor draws its 66 octets
pub record Fitting (setup : AcceptSetup) (own : PlainSetup) (cred : MechCred)
    (occasion : Occasion) : Type 0 where
  pub drawn : length occasion.drawn ≡ 66
  pub facts : CredFits setup own cred occasion

-- how many tokens of a mechanism an initiator sends
abbrev pub rounds_of : MechKind → ℕ
rounds_of kinds.Kerberos = 1
rounds_of kinds.Scram = 2

-- how many tokens an initiator sends: the first one, which is another mechanism's where the chosen
-- one isn't its first; those of the chosen one; and the MIC of the list where it is due
abbrev pub tokens_of : AcceptSetup → PlainSetup → MechKind → ℕ
tokens_of setup own kind =
    (if is_first (kinds_of own.list) kind then 0 else 1) + rounds_of
    kind + (if is_mic_due setup.offer (initiating.own_list own) kind then 1 else 0)

-- an initiator that doesn't negotiate has Kerberos alone, and the acceptor takes its request so
pub record BareFits (setup : AcceptSetup) (own : PlainSetup) : Type 0 where
  pub list : is_bare_list own.list ≡ true
  pub takes : takes_bare setup ≡ true

-- the two lists have a mechanism in common, both it and the initiator's first begin, and the facts
-- of the chosen one fit on each occasion
pub record HonestPair (setup : AcceptSetup) (own : PlainSetup) (kind : MechKind)
    (occasions : List Occasion) : Type 0 where
  pub is_list : is_own_list own.list ≡ true
  -- the first of the initiator's list that the acceptor offers, and its credential
  pub chosen : best setup.offer (initiating.own_list own) ≡ Some kind
  pub cred : MechCred
  pub is_cred : cred_for own.list kind ≡ Some cred
  pub draws : length own.draws ≡ 66
  -- the first mechanism of the list gives its first token, and the chosen one starts too; each
  -- token has at most 65,536 octets
  pub started : initiating.Started
  pub starts : initiating.init_start own ≡ Ok started
  pub short : IsShort started.token
  pub begun : MechBegun
  pub begins : init_begun own cred ≡ Ok begun
  pub begun_short : IsShort (resp_octets (initiating.token_sent begun.token))
  -- an occasion for each token
  pub counted : length occasions ≡ tokens_of setup own kind
  pub fit : AllByRecursion (Fitting setup own cred) occasions
  pub bare : own.negotiates ≡ false → BareFits setup own

-- both ends complete by the chosen mechanism, with one outcome
pub record Agrees (setup : AcceptSetup) (own : PlainSetup) (kind : MechKind)
    (occasions : List Occasion) (started : initiating.Started) : Type 0 where
  pub outcome : Outcome
  pub mech : outcome.mech ≡ kind
  pub completes : Completes setup occasions accepts.New started.end started.token outcome

-- an honest pair agrees
abbrev pub ExchangeLaw : Type 0
ExchangeLaw = (setup : AcceptSetup) (own : PlainSetup) (kind : MechKind) (occasions : List Occasion)
    → (h : HonestPair setup own kind occasions) → Agrees setup own kind occasions h.started
