-- Rules of records by hand: calls without authentication, and of calls with a credential of flavour
-- 6 those whose reply isn't signed.
use Rattle.std.specs.Prelude.{◌≡◌, ℕ, nat_lt, ◌==◌, if◌then◌else◌, List, [], ◌∷◌, ◌++◌, length}
use Rattle.std.specs.Prelude.{Option, Some, None, Err}
use Rattle.rpc_msgs.specs.declared.numbers.TheConstants.{NULL}
use Rattle.rpcsec_bodies.specs.declared.service.Service.TheVariants as services
use Rattle.rpc_program.specs.Programs.{Serving}
use Rattle.rpc_msgs.specs.Words.{word}
use Rattle.spnego_core.specs.declared.refusal.NegRefusal.TheVariants.{Defective}
use Rattle.accept_core.specs.declared.answer.LookRefusal.TheVariants as looks
use Rattle.accept_book.specs.declared.book_answer.BookRefusal.TheVariants as books
use Rattle.accept_book.specs.declared.book_answer.NegAnswer.{NegAnswer}
use Rattle.accept_book.specs.declared.book_answer.NegAnswer.TheVariants as steps
use Rattle.accept_book.specs.RecordShown.{KeptAnswers, Negotiate, Look}
use Rattle.accept_book.specs.RecordRule.{record_ruling}

-- a call with this RPC version, program, version, procedure, flavour and body of the credential in
-- words, without verifier
abbrev pub call : ℕ → ℕ → ℕ → ℕ → ℕ → List ℕ → List ℕ
call rpc program version procedure flavour rest =
    word 7 ++ (word 0
    ++ (word rpc ++ (word program ++ (word version ++ (word procedure ++ (word flavour ++ rest))))))

-- without credential and arguments
abbrev pub no_rest : List ℕ
no_rest = word 0 ++ (word 0 ++ word 0)

-- nothing was asked
abbrev pub nothing : KeptAnswers
nothing = record {
  now = 5;
  draws = 1 ∷ 2 ∷ [];
  negotiated = None;
  looked = None;
  admitted =
      None;
  ended = None;
}

-- a program of five procedures, of which all but NULL need integrity and none takes arguments
abbrev pub example : Serving
example = record {
  program = record {
    id = record { number = 0x20004753; version = 1 };
    has = λ procedure. nat_lt procedure 5;
    needs = λ procedure. if procedure == NULL then services.None else services.Integrity;
    takes = λ procedure args. length args == 0;
  };
  width = 128;
}

-- the number of the rule of a record, where nothing was asked
abbrev pub rule_of : List ℕ → ℕ
rule_of octets = (record_ruling octets nothing example).rule

-- the reply to a record, where nothing was asked
abbrev pub reply_of : List ℕ → Option (List ℕ)
reply_of octets = (record_ruling octets nothing example).reply

-- calls of the program by flavour 0, and the words of their replies (RFC 5531 section 9)
pub record PlainByHand : Type 0 where
  pub null : rule_of (call 2 0x20004753 1 0 0 no_rest) ≡ 23
  pub null_reply : reply_of (call 2 0x20004753 1 0 0 no_rest)
      ≡ Some (word 7 ++ (word 1 ++ (word 0 ++ (word 0 ++ (word 0 ++ word 0)))))
  pub version_3 : rule_of (call 3 0x20004753 1 0 0 no_rest) ≡ 3
  pub version_3_reply : reply_of (call 3 0x20004753 1 0 0 no_rest)
      ≡ Some (word 7 ++ (word 1 ++ (word 1 ++ (word 0 ++ (word 2 ++ word 2)))))
  pub program : rule_of (call 2 0x20004754 1 0 0 no_rest) ≡ 9
  pub version : rule_of (call 2 0x20004753 2 0 0 no_rest) ≡ 10
  pub procedure : rule_of (call 2 0x20004753 1 5 0 no_rest) ≡ 11
  pub weak : rule_of (call 2 0x20004753 1 1 0 no_rest) ≡ 12
  pub arguments : rule_of (call 2 0x20004753 1 0 0 (no_rest ++ 9 ∷ [])) ≡ 14
  pub flavour : rule_of (call 2 0x20004753 1 0 1 no_rest) ≡ 4
  pub unreadable : rule_of (7 ∷ []) ≡ 1

-- the body of a credential (RFC 2203 section 5), and what follows it without a verifier
abbrev pub gss_body : ℕ → ℕ → ℕ → ℕ → List ℕ → List ℕ
gss_body version proc seq service handle =
    word version ++ (word proc ++ (word seq ++ (word service ++ handle)))

-- a call of procedure 0 by flavour 6: the size and the body of its credential, an empty verifier,
-- and the arguments
abbrev pub secured : ℕ → List ℕ → List ℕ → List ℕ
secured size body args =
    call 2 0x20004753 1 0 6 (word size ++ (body ++ (word 0 ++ (word 0 ++ args))))

-- a first token, which is empty; a call with the handle 9
abbrev pub creation : List ℕ
creation = secured 20 (gss_body 1 1 0 1 (word 0)) (word 0)

-- a data call with the handle 9
abbrev pub data_call : List ℕ
data_call = secured 28 (gss_body 1 0 3 1 (word 8 ++ (word 0 ++ word 9))) []

-- a token was answered so, and its step added no entries
abbrev pub given : NegAnswer → KeptAnswers
given answer = record {
  now = 5;
  draws = 1 ∷ 2 ∷ [];
  negotiated =
      Some (record { answer = answer; receipts = record { count = 0; list = [] } });
  looked =
      None;
  admitted = None;
  ended = None;
}

-- of calls with flavour 6: a refused first token, whose reply is that of RFC 2203 section 5.2.3.1
-- with a major status of RFC 2744; what is due before an answer; and what is answered by the
-- answers of a look
pub record SecureByHand : Type 0 where
  pub refused_rule : (record_ruling creation (given (steps.Refused (books.Neg (Defective 0))))
      example).rule ≡ 20
  pub refused_reply :
      (record_ruling creation (given (steps.Refused (books.Neg (Defective 0)))) example).reply
      ≡ Some (word 7
      ++ (word 1 ++ (word 0 ++ (word 0 ++ (word 0 ++ (word 0 ++ (word 0 ++ (word 0x90000 ++ (word 1
      ++ (word 0 ++ (word 9 ++ (word 0xa1073005 ++ (word 0xa0030a01 ++ word 0x2000000)))))))))))))
  pub no_context : (record_ruling creation (given (steps.Refused books.NoContext)) example).rule ≡ 6
  pub token_due : (record_ruling creation nothing example).due
      ≡ Some (Negotiate None [] 5 (1 ∷ 2 ∷ []))
  pub look_due : (record_ruling data_call nothing example).due ≡ Some (Look 9 5)
  pub not_ready : (record_ruling data_call (record {
    now = 5;
    draws = [];
    negotiated =
        None;
    looked = Some (Err looks.NotReady);
    admitted = None;
    ended = None;
  }) example).rule ≡ 6
  pub expired : (record_ruling data_call (record {
    now = 5;
    draws = [];
    negotiated = None;
    looked =
        Some (Err looks.Expired);
    admitted = None;
    ended = None;
  }) example).rule ≡ 7
  pub other_version : (record_ruling (secured 20 (gss_body 2 1 0 1 (word 0)) (word 0)) nothing
      example).reply ≡ Some (word 7 ++ (word 1 ++ (word 1 ++ (word 1 ++ word 2))))
  pub creation_with_a_handle : (record_ruling (secured 24 (gss_body 1 1 0 1 (word 4 ++ word 9))
      (word 0)) nothing example).reply ≡ Some (word 7 ++ (word 1 ++ (word 1 ++ (word 1 ++ word 1))))
  pub short_handle : (record_ruling (secured 24 (gss_body 1 0 3 1 (word 4 ++ word 9)) []) nothing
      example).rule ≡ 6

-- the rules of both kinds of calls
pub record RulesByHand : Type 0 where
  pub plain : PlainByHand
  pub secure : SecureByHand
