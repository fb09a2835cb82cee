-- What a call that is done was admitted as, and what its reply says.
use Rattle.std.specs.Prelude.{◌≡◌, ◌≢◌, ℕ, true, List, [], ◌∷◌, Some, Ok}
use Rattle.rpc_msgs.specs.Calls.{CallValue, call_at}
use Rattle.rpc_msgs.specs.declared.numbers.TheConstants.{NULL}
use Rattle.rpc_program.specs.Programs.{Serving}
use Rattle.rpc_program.specs.declared.outcome.Outcome.TheVariants.{NoMemory}
use Rattle.rpcsec_bodies.specs.Service.{service_of}
use Rattle.rpcsec_msgs.specs.Cred.{CredValue, cred_at}
use Rattle.accept_book.specs.declared.book_answer.Admitted.{Admitted}
use Rattle.accept_book.specs.declared.book_answer.Lease.{Lease}
use Rattle.accept_book.specs.declared.rule.Rule.TheVariants as rules
use Rattle.accept_book.specs.Rules.{rule_number}
use Rattle.accept_book.specs.RecordRule.{record_ruling, outcome_ruling}
use Rattle.accept_book.specs.RecordShown.{AskedLook, AskedAdmit, KeptAnswers, Ruling, Shown}
use Rattle.accept_book.specs.RecordShown.{handle_id, body_args, end_of}

-- a record that is a call, as its rules see it
abbrev pub shown_as : List ℕ → KeptAnswers → Serving → CallValue → Shown
shown_as octets kept serves call = record {
  record_octets = octets;
  call = call;
  now = kept.now;
  draws = kept.draws;
  serves = serves;
}

-- a call of a context was admitted: the context of its handle was shown, and the number, procedure
-- and arguments that it says were admitted, and nothing else was asked. Its reply says what became
-- of the call by that answer, which didn't want memory (RFC 2203, 5.3.3.2)
pub record IsDone (s : Shown) (ruling : Ruling) : Type 0 where
  pub cred : CredValue
  pub id : ℕ
  pub lease : Lease
  pub args : List ℕ
  pub admitted : Admitted
  pub read : cred_at s.call.cred.body ≡ Ok cred
  pub handle : handle_id cred.context ≡ Some id
  pub procedure : s.serves.program.has s.call.procedure ≡ true
  pub opened : body_args (end_of lease) cred s.call.args ≡ Some args
  pub asked : ruling.asked ≡ AskedLook id s.now (Ok lease)
      ∷ AskedAdmit lease cred.seq (service_of cred.service) s.call.procedure args (Ok admitted) ∷ []
  pub known : admitted.outcome ≢ NoMemory
  pub reply : ruling.reply ≡ (outcome_ruling s cred lease args admitted.outcome).reply

-- a record is a call that is done, of another procedure than NULL, which alone needs no context
pub record IsCalled (octets : List ℕ) (call : CallValue) (ruling : Ruling) : Type 0 where
  pub read : call_at octets ≡ Ok call
  pub procedure : call.procedure ≢ NULL
  pub rule : ruling.rule ≡ rule_number rules.Done

-- so it is of each such record, by the answers that were kept of it
abbrev pub DoneLaw : Type 0
DoneLaw = (octets : List ℕ) (kept : KeptAnswers) (serves : Serving) (call : CallValue)
    → IsCalled octets call (record_ruling octets kept serves)
    → IsDone (shown_as octets kept serves call) (record_ruling octets kept serves)
