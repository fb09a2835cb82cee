-- Laws of the exchange, in the words of RFC 5802 section 3.
use Rattle.std.specs.Prelude.{◌≡◌, ℕ, ◌≤◌, true, List, [], ◌∷◌, ◌++◌, length, slice_get, Option}
use Rattle.std.specs.Prelude.{Some, Ok, Err}
use Rattle.scram_mech.specs.declared.verifiers.Verifier.{Verifier}
use Rattle.std.specs.List.{list_all}
use Rattle.base64.specs.GeneralPurpose.{IsBytes}
use Rattle.scram_mech.specs.Signs.{is_printable}
use Rattle.scram_mech.specs.Judging.{is_extended, are_rounds, unframed}
use Rattle.scram_bindings.specs.Carried.{data_of, carried, is_bound}
use Rattle.scram_mech.specs.Base64.{encoded}
use Rattle.scram_mech.specs.declared.refusal.ScramRefusal.TheVariants.{Text, PeerError}
use Rattle.scram_mech.specs.Reasons.{StepReasons}
use Rattle.scram_mech.specs.Formats.{values_of}
use Rattle.scram_mech.specs.Places.{LongestFront}
use Rattle.scram_mech.specs.FirstText.{First, first_format, first_of}
use Rattle.scram_mech.specs.SecondText.{Second, second_format, second_of}
use Rattle.scram_mech.specs.ThirdText.{Third, third_format, third_of}
use Rattle.scram_mech.specs.FinalText.{signature_format, error_format, final_of}
use Rattle.scram_mech.specs.Secrets.{Secret, client_key, stored_key, auth_message, masked, proof_of}
use Rattle.scram_mech.specs.Secrets.{key_of_client, context_key}
use Rattle.scram_mech.specs.AuthParts.{auth_parts}
use Rattle.scram_mech.specs.MechMaking.{MechMaking, signature_making, VerifiesProof, Verifies}
use Rattle.scram_mech.specs.MechMaking.{AmongMakings}
use Rattle.scram_mech.specs.Initiator.{InitModel, WaitModel, InitStarted, InitAnswered}
use Rattle.scram_mech.specs.Initiator.{InitFinished, init_started, secret_of, bare_of, auth_of}
use Rattle.scram_mech.specs.Initiator.{answer_with, init_answered, init_finished}
use Rattle.scram_mech.specs.Verifiers.{line_for, line_with, verifiers_of}
use Rattle.scram_mech.specs.VerifierFile.{SpellsFile}
use Rattle.scram_mech.specs.FilePlaces.{BadLine, NamedTwice}
use Rattle.scram_mech.specs.declared.refusal.VerifierRefusal.TheVariants.{Line, Twice}
use Rattle.scram_mech.specs.GrammarPlaces.{IsFirst, IsSecond, IsThird, IsFinal, LongestOf}
use Rattle.scram_mech.specs.Grammar.{SpellsFirst, SpellsSecond, SpellsThird, SpellsFinal}
use Rattle.scram_mech.specs.Grammar.{SpellsError}
use Rattle.scram_mech.specs.Acceptor.{AcceptModel, AcceptStarted, AcceptFinished, nonce_of}
use Rattle.scram_mech.specs.Acceptor.{second_by, accept_with, auth_with, finish_with}
use Rattle.scram_mech.specs.Acceptor.{accept_started, accept_finished}

-- an initiator answered a second text: with its own secret, over the AuthMessage of its own first
-- text, that second text and its own data
pub record Proves (init : InitModel) (text : List ℕ) (answered : InitAnswered) : Type 0 where
  pub second : Second
  pub read : second_of text ≡ Ok second
  pub extends : is_extended init.nonce second.nonce ≡ true
  pub ranged : are_rounds second.rounds ≡ true
  pub same : answered
      ≡ answer_with init (bare_of init second) (secret_of init second) (auth_of init text second)

-- an initiator completed: it found the signature of its AuthMessage under its server key verified
pub record Completes (wait : WaitModel) (text : List ℕ) (finished : InitFinished) : Type 0 where
  pub signature : List ℕ
  pub read : final_of text ≡ Ok signature
  pub found : finished.found ≡ signature_making wait.server wait.auth ∷ []
  pub verified : (making : MechMaking) → AmongMakings finished.found making
      → Verifies making signature
  pub key : finished.done.key ≡ wait.key
  pub initiator : finished.done.initiator ≡ wait.user
  pub acceptor : finished.done.acceptor ≡ []
  pub hash : finished.done.hash ≡ wait.hash

-- an acceptor took a first token: of a user whose line stands in the verifiers, under the name in
-- the text
pub record Takes (lines : List Verifier) (token draw : List ℕ) (started : AcceptStarted) : Type 0
  where
    pub text : List ℕ
    pub first : First
    pub line : Verifier
    pub place : ℕ
    pub framed : unframed token ≡ Ok text
    pub read : first_of text ≡ Ok first
    pub there : slice_get lines place ≡ Some line
    pub named : line.name ≡ first.name
    pub end : started.end ≡ accept_with text first.nonce line (encoded draw)
    pub token_is : started.token ≡ second_by (accept_with text first.nonce line (encoded draw))

-- an acceptor completed: it found the proof over its AuthMessage under the line's stored key
-- verified
pub record Accepts (accept : AcceptModel) (text : List ℕ) (bindings : Option (List ℕ)) (now : ℕ)
    (finished : AcceptFinished) : Type 0 where
  pub third : Third
  pub read : third_of text ≡ Ok third
  pub nonce : third.nonce ≡ nonce_of accept
  pub bound : is_bound bindings third.binding ≡ true
  pub verified : (making : MechMaking) → AmongMakings finished.found making → Verifies making []
  pub same : finished ≡ finish_with accept third now (auth_with accept third.bare)

-- a user and a password that can be given, two draws, binding data, and a line that was made of
-- this password
pub record Honest (user password draw other : List ℕ) (bindings : Option (List ℕ))
    (lines : List Verifier) (salt : List ℕ) (rounds : ℕ) : Type 0 where
  pub named : list_all is_printable user ≡ true
  pub some : 1 ≤ length user
  pub few : length user ≤ 255
  pub opened : list_all is_printable password ≡ true
  pub any : 1 ≤ length password
  pub most : length password ≤ 1024
  pub drawn : length draw ≡ 18
  pub draw_octets : IsBytes draw
  pub other_drawn : length other ≡ 18
  pub other_octets : IsBytes other
  pub data_few : length (data_of bindings) ≤ 32768
  pub data_octets : IsBytes (data_of bindings)
  pub carries : carried (data_of bindings) ≡ bindings
  pub salted : 1 ≤ length salt
  pub salt_few : length salt ≤ 64
  pub salt_octets : IsBytes salt
  pub ranged : are_rounds rounds ≡ true
  pub line : line_for lines user
      ≡ Some (line_with user (record { password = password; salt = salt; rounds = rounds }))

-- the five steps in a row, each with the text of the one before, and what both ends then have
pub record Agrees (user password draw other : List ℕ) (bindings theirs : Option (List ℕ))
    (lines : List Verifier) (now : ℕ) : Type 0 where
  pub started : InitStarted
  pub taken : AcceptStarted
  pub proved : InitAnswered
  pub accepted : AcceptFinished
  pub finished : InitFinished
  pub starts : init_started user password draw bindings ≡ Ok started
  pub takes : accept_started lines started.token other ≡ Ok taken
  pub proves : init_answered started.end taken.token ≡ Ok proved
  pub accepts : accept_finished taken.end proved.token theirs now ≡ Ok accepted
  pub finishes : init_finished proved.end accepted.token ≡ Ok finished
  pub key : finished.done.key ≡ accepted.done.key
  pub initiator : finished.done.initiator ≡ accepted.done.initiator
  pub acceptor : finished.done.acceptor ≡ accepted.done.acceptor
  pub hash : finished.done.hash ≡ accepted.done.hash

-- what is proved of the exchange, of its texts and of verifier files
pub record Laws : Type 0 where
  pub proves : (init : InitModel) (text : List ℕ) (answered : InitAnswered)
      → init_answered init text ≡ Ok answered → Proves init text answered
  pub completes : (wait : WaitModel) (text : List ℕ) (finished : InitFinished)
      → init_finished wait text ≡ Ok finished → Completes wait text finished
  pub takes : (lines : List Verifier) (token draw : List ℕ) (started : AcceptStarted)
      → accept_started lines token draw ≡ Ok started → Takes lines token draw started
  pub accepts : (accept : AcceptModel) (text : List ℕ) (bindings : Option (List ℕ))
      (now : ℕ) (finished : AcceptFinished) → accept_finished accept text bindings now ≡ Ok finished
      → Accepts accept text bindings now finished
  -- the client key that a proof gives back under the stored key is the one that it was made with
  pub recovers : (secret : Secret) (auth : List ℕ)
      → masked (stored_key secret) auth (proof_of secret auth) ≡ client_key secret
  -- so the initiator's key is the one that the acceptor makes of the proof
  pub one_key : (secret : Secret) (auth : List ℕ) → key_of_client (stored_key secret)
      (client_key secret) auth ≡ context_key (stored_key secret) (proof_of secret auth) auth
  -- and the proof is one that verifies
  pub proof_verifies : (secret : Secret) (auth : List ℕ)
      → VerifiesProof (stored_key secret) (auth ++ proof_of secret auth) []
  -- an honest pair completes and agrees, where the acceptor has no bindings or the same data
  pub agrees : (user password draw other : List ℕ)
      (bindings theirs : Option (List ℕ)) (lines : List Verifier) (salt : List ℕ) (rounds now : ℕ)
      → Honest user password draw other bindings lines salt rounds
      → is_bound theirs (data_of bindings) ≡ true
      → Agrees user password draw other bindings theirs lines now
  -- an AuthMessage says what its three texts say
  pub parts : (t1 t2 t3 : List ℕ) (first : First) (second : Second) (third : Third)
      → first_of t1 ≡ Ok first → second_of t2 ≡ Ok second → third_of t3 ≡ Ok third
      → auth_parts (auth_message t1 t2 third.bare)
      ≡ Some (record {
        name = first.name;
        client = first.nonce;
        nonce = second.nonce;
        salt =
            second.salt;
        rounds = second.rounds;
        binding = third.binding;
        last_nonce = third.nonce;
      })
  -- and has one cut into them: the first text, the second, and the third without its proof
  pub one_cut : (t1 t2 t3 u1 u2 u3 : List ℕ) (first : First) (second : Second) (third : Third)
      (other : First) (next : Second) (last : Third)
      → first_of t1 ≡ Ok first → second_of t2 ≡ Ok second → third_of t3 ≡ Ok third
      → first_of u1 ≡ Ok other → second_of u2 ≡ Ok next → third_of u3 ≡ Ok last
      → auth_message t1 t2 third.bare ≡ auth_message u1 u2 last.bare
      → (t1 ≡ u1) × (t2 ≡ u2) × (third.bare ≡ last.bare)
  -- each text is refused at the end of the longest front of it with which some text of its format
  -- begins
  pub first_place : (text : List ℕ) (at : ℕ) → values_of first_format text ≡ Err (Text at)
      → LongestFront first_format text at
  pub second_place : (text : List ℕ) (at : ℕ) → values_of second_format text ≡ Err (Text at)
      → LongestFront second_format text at
  pub third_place : (text : List ℕ) (at : ℕ) → values_of third_format text ≡ Err (Text at)
      → LongestFront third_format text at
  pub signature_place : (text : List ℕ) (at : ℕ) → values_of signature_format text ≡ Err (Text at)
      → LongestFront signature_format text at
  pub error_place : (text : List ℕ) (at : ℕ) → values_of error_format text ≡ Err (Text at)
      → LongestFront error_format text at
  -- the verifiers of a file are its lines, and a file of such lines is read to them; so one that is
  -- refused has no such lines
  pub file_found : (octets : List ℕ) (lines : List Verifier) → verifiers_of octets ≡ Ok lines
      → SpellsFile lines octets
  pub file_only : (octets : List ℕ) (lines : List Verifier) → SpellsFile lines octets
      → verifiers_of octets ≡ Ok lines
  -- and one that is refused is refused at its first bad line, or at the first whose name stands in
  -- a line before it
  pub file_bad_line : (octets : List ℕ) (number : ℕ) → verifiers_of octets ≡ Err (Line number)
      → BadLine octets number
  pub file_named_twice : (octets : List ℕ) (number : ℕ) → verifiers_of octets ≡ Err (Twice number)
      → NamedTwice octets number
  -- each text that is read is one of the grammar, with these values
  pub first_found : (text : List ℕ) (first : First) → first_of text ≡ Ok first
      → SpellsFirst first text
  pub second_found : (text : List ℕ) (second : Second) → second_of text ≡ Ok second
      → SpellsSecond second text
  pub third_found : (text : List ℕ) (third : Third) → third_of text ≡ Ok third
      → SpellsThird third text
  pub final_found : (text signature : List ℕ) → final_of text ≡ Ok signature
      → SpellsFinal signature text
  pub error_found : (text : List ℕ) → final_of text ≡ Err PeerError → SpellsError text
  -- and each text of the grammar is read, to these values; so one that is refused is no text of the
  -- grammar
  pub first_only : (text : List ℕ) (first : First) → SpellsFirst first text
      → first_of text ≡ Ok first
  pub second_only : (text : List ℕ) (second : Second) → SpellsSecond second text
      → second_of text ≡ Ok second
  pub third_only : (text : List ℕ) (third : Third) → SpellsThird third text
      → third_of text ≡ Ok third
  pub final_only : (text signature : List ℕ) → SpellsFinal signature text
      → final_of text ≡ Ok signature
  pub error_only : (text : List ℕ) → SpellsError text → final_of text ≡ Err PeerError
  -- a text that is refused as no text of the grammar is refused at the end of the longest front
  -- with which some text of the grammar begins
  pub first_refused : (text : List ℕ) (at : ℕ) → first_of text ≡ Err (Text at)
      → LongestOf IsFirst text at
  pub second_refused : (text : List ℕ) (at : ℕ) → second_of text ≡ Err (Text at)
      → LongestOf IsSecond text at
  pub third_refused : (text : List ℕ) (at : ℕ) → third_of text ≡ Err (Text at)
      → LongestOf IsThird text at
  pub final_refused : (text : List ℕ) (at : ℕ) → final_of text ≡ Err (Text at)
      → LongestOf IsFinal text at
  -- no step is refused for want of memory
  pub reasons : StepReasons
