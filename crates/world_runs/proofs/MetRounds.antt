-- An exchange between honest ends, round by round: what was handed out and fixed before a round, and that nothing is found in it that wasn't handed out.
use Rattle.std.proofs.Common.{◌≡◌, ℕ, ◌≤◌, max, List, [], ◌∷◌, ◌++◌, length, take, option_to_list, Some, None, Ok}
use Rattle.gss_base.specs.declared.mark.Mark.{Mark}
use Rattle.gss_base.specs.declared.mech.MechKind.TheVariants as kinds
use Rattle.krb_derive.specs.declared.key.Key.{Key}
use Rattle.krb_files.specs.Granted.{Granted}
use Rattle.ap_exchange.specs.declared.judged.Judged.{Judged}
use Rattle.replay_cache.specs.Taking.{cache_verdict}
use Rattle.replay_cache.specs.declared.cache.CacheVerdict.TheVariants.{Taken}
use Rattle.scram_mech.specs.declared.verifiers.Verifier.{Verifier}
use Rattle.scram_mech.specs.Acceptor.{AcceptModel}
use Rattle.scram_mech.specs.MechMaking.{OfType, MechMaking, AmongMakings, proof_making}
use Rattle.scram_mech.specs.Secrets.{stored_key}
use Rattle.spnego_core.specs.declared.outcome.Outcome.{Outcome}
use Rattle.spnego_core.specs.declared.setup.AcceptSetup.{AcceptSetup}
use Rattle.spnego_core.specs.declared.accept_end.AcceptEnd.{AcceptEnd}
use Rattle.spnego_core.specs.declared.accept_end.AcceptStep.TheVariants as accept_steps
use Rattle.spnego_core.specs.Ends.{PlainSetup, EndSays}
use Rattle.spnego_core.specs.EndSteps as init_steps
use Rattle.spnego_core.specs.AcceptMech.{Basis, ByRequest, ByProof}
use Rattle.spnego_core.specs.Accepting.{Fixed, Accepted, accept_step}
use Rattle.spnego_core.specs.Exchange.{passed}
use Rattle.spnego_core.specs.InitMech.{ticket_for}
use Rattle.spnego_core.specs.Initiating.{Initiated, init_step}
use Rattle.spnego_core.specs.Sizes.{IsShort}
use Rattle.accept_book.specs.Booking.{BookOf, mark_of}
use Rattle.world_laws.specs.Deeds.{Opened}
use Rattle.world_laws.specs.Lanes.{opened_in, request_of}
use Rattle.world_laws.specs.Premises.{Ticket, Account, Marking, Listed, GuardedBasis, OnGuarded, WasIssued, HasAuth}

-- the ends of an exchange, the book as it is before, the moment, and what the reader marks
pub record Setting : Type 0 where
  pub book : BookOf
  pub own : PlainSetup
  pub now : ℕ
  pub marking : Marking

abbrev pub setup_in : Setting → AcceptSetup
setup_in x = x.book.setup

-- what is marked is what both ends have: tickets of the initiator for the acceptor, and users whose lines are of their passwords
pub record Marked (x : Setting) : Type 0 where
  pub tickets : (c : Granted) (t : Ticket) → ticket_for x.own.list ≡ Some c → Listed x.marking.tickets t → (t.client ≡ c.client) × (t.server ≡ c.server)
  pub servers : (t : Ticket) → Listed x.marking.tickets t → t.server ≡ (setup_in x).own
  pub lines : (account : Account) (line : Verifier) → Listed x.marking.accounts account → Listed (setup_in x).verifiers line → line.name ≡ account.user
      → line.stored ≡ stored_key (record { password = account.password; salt = line.salt; rounds = line.rounds })

-- the cache takes the mark at the exchange's moment, where none was taken
abbrev pub IsNew : Setting → Mark → Type 0
IsNew x mark = cache_verdict x.book.core.cache.capacity (max x.book.core.cache.greatest x.now) [] mark ≡ Taken

-- ---- what was handed out

-- under a key of an encryption type
pub record IsTyped (making : MechMaking) : Type 0 where
  pub key : Key
  pub is : making.key ≡ OfType key

-- the proofs of a list are over this AuthMessage
abbrev pub OneProof : List ℕ → List MechMaking → Type 0
OneProof auth made = (key last proof : List ℕ) → length proof ≡ 20 → AmongMakings made (proof_making key last proof) → auth ≡ last

-- ---- a round

-- the acceptor's end takes a token with these octets drawn, by what was handed out and fixed before: it finds what was handed out, and opens a ticket that was issued, and a mark that it asks for is new
pub record Heard (x : Setting) (end : AcceptEnd) (token drawn : List ℕ) (made : List MechMaking) (fixed : List Fixed) : Type 0 where
  pub accepted : Accepted
  pub accepts : accept_step (setup_in x) end token x.now drawn ≡ Ok accepted
  pub found : (m : MechMaking) → AmongMakings accepted.found m → AmongMakings made m
  pub issued : (o : Opened) → opened_in (setup_in x).keytab (setup_in x).own (request_of (setup_in x) end token) ≡ Some o → WasIssued x.marking o
  pub mark : (mark : Mark) → mark_of accepted.step ≡ Some mark → (fixed ≡ []) × IsNew x mark
  pub unmarked : accepted.fixes ≡ None → mark_of accepted.step ≡ None

-- the initiator's end takes the reply
pub record Took (end : EndSays) (reply : List ℕ) (made : List MechMaking) : Type 0 where
  pub initiated : Initiated
  pub initiates : init_step end reply ≡ Ok initiated
  pub found : (m : MechMaking) → AmongMakings initiated.found m → AmongMakings made m

-- both go on
pub record Goes (x : Setting) (end : AcceptEnd) (initiator : EndSays) (token drawn : List ℕ) (made : List MechMaking) (fixed : List Fixed) : Type 0 where
  pub heard : Heard x end token drawn made fixed
  pub after : AcceptEnd
  pub reply : List ℕ
  pub goes : passed heard.accepted.step ≡ accept_steps.More after reply
  pub size : length reply ≤ 65536
  pub took : Took initiator reply (made ++ heard.accepted.makes)
  pub next : EndSays
  pub further : List ℕ
  pub more : took.initiated.step ≡ init_steps.More next further
  pub short : IsShort further

-- what both were built on is guarded, and by SCRAM there is one proof
pub record Final (x : Setting) (made : List MechMaking) (outcome : Outcome) (basis : Basis) : Type 0 where
  pub guarded : OnGuarded x.marking x.own outcome.mech
  pub on : GuardedBasis x.marking basis
  pub by_request : (request : Judged) → basis ≡ ByRequest request → outcome.mech ≡ kinds.Kerberos
  pub by_proof : (end : AcceptModel) (text auth : List ℕ) → basis ≡ ByProof end text → HasAuth end text auth → OneProof auth made

-- both are done
pub record Ends (x : Setting) (end : AcceptEnd) (initiator : EndSays) (token drawn : List ℕ) (made : List MechMaking) (fixed : List Fixed) (outcome : Outcome) : Type 0 where
  pub heard : Heard x end token drawn made fixed
  pub lasts : ℕ
  pub reply : List ℕ
  pub done : passed heard.accepted.step ≡ accept_steps.Done outcome lasts reply
  pub size : length reply ≤ 65536
  pub took : Took initiator reply (made ++ heard.accepted.makes)
  pub completes : took.initiated.step ≡ init_steps.Done outcome
  pub none : took.initiated.makes ≡ []
  pub context : Fixed
  pub fixes : fixed ++ option_to_list heard.accepted.fixes ≡ context ∷ []
  pub outcome_is : context.outcome ≡ outcome
  pub lasts_is : context.lasts ≡ lasts
  pub final : Final x (made ++ heard.accepted.makes) outcome context.basis

-- the exchange from here, with these draws, one for each token
abbrev pub Rounds : Setting → List (List ℕ) → AcceptEnd → EndSays → List ℕ → List MechMaking → List Fixed → Outcome → Type 0
Rounds x [] end initiator token made fixed outcome = ⊥
Rounds x (draws ∷ []) end initiator token made fixed outcome = Ends x end initiator token (take 66 draws) made fixed outcome
Rounds x (draws ∷ next ∷ later) end initiator token made fixed outcome =
    (g : Goes x end initiator token (take 66 draws) made fixed)
    × Rounds x (next ∷ later) g.after g.next g.further ((made ++ g.heard.accepted.makes) ++ g.took.initiated.makes) (fixed ++ option_to_list g.heard.accepted.fixes) outcome
