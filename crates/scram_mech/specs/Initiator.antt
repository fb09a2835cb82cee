-- The initiator's end: each step as a function on models, with what it hands out as made and what
-- it found verified.
use Rattle.std.specs.Prelude.{ℕ, false, List, [], ◌∷◌, Option, Result, Ok}
use Rattle.sec_base.specs.Moment.{greatest_moment}
use Rattle.gss_base.specs.Bindings.{hash_of}
use Rattle.gss_base.specs.Mech.{oid_of}
use Rattle.gss_base.specs.declared.mech.MechKind.TheVariants.{Scram}
use Rattle.der_core.specs.Frame.{framed}
use Rattle.krb_derive.specs.declared.key.Key.{Key}
use Rattle.krb_tokens.specs.declared.done.MechDone.{MechDone}
use Rattle.scram_mech.specs.declared.run.Class.TheVariants.{Printable}
use Rattle.scram_mech.specs.declared.refusal.ScramRefusal.{ScramRefusal}
use Rattle.scram_mech.specs.declared.refusal.ScramRefusal.TheVariants as refusals
use Rattle.scram_mech.specs.Reading.{◌>>=◌}
use Rattle.scram_mech.specs.Base64.{encoded}
use Rattle.scram_mech.specs.Judging.{demand, judged, same, is_extended, are_rounds}
use Rattle.scram_bindings.specs.Carried.{data_of}
use Rattle.scram_mech.specs.FirstText.{first_text}
use Rattle.scram_mech.specs.SecondText.{Second, second_of}
use Rattle.scram_mech.specs.ThirdText.{bare_text, with_proof}
use Rattle.scram_mech.specs.FinalText.{final_of}
use Rattle.scram_mech.specs.Secrets.{Secret, client_key, stored_key, server_key, auth_message}
use Rattle.scram_mech.specs.Secrets.{proof_of, signature_of, key_of_client}
use Rattle.scram_mech.specs.MechMaking.{MechMaking, proof_making, signature_making}

-- the first text is out: user, password, the text of the own nonce, and the bindings
pub record InitModel : Type 0 where
  pub user : List ℕ
  pub password : List ℕ
  pub nonce : List ℕ
  pub bindings : Option (List ℕ)

-- the proof is out, and the signature is due: the AuthMessage, the server key, the context's key
pub record WaitModel : Type 0 where
  pub user : List ℕ
  pub hash : List ℕ
  pub auth : List ℕ
  pub server : List ℕ
  pub key : Key

-- an exchange is begun: the end whose first text is out, and that text in its frame
pub record InitStarted : Type 0 where
  pub end : InitModel
  pub token : List ℕ

-- a second text is taken: the end that waits for the signature, the third text, and what the
-- initiator made
pub record InitAnswered : Type 0 where
  pub end : WaitModel
  pub token : List ℕ
  pub makes : List MechMaking

-- what the code gives of an answer
pub record Proving : Type 0 where
  pub end : WaitModel
  pub token : List ℕ

-- an answer as the code gives it, without what was made
abbrev pub proving : InitAnswered → Proving
proving a = record { end = a.end; token = a.token }

-- a final text is taken: what the exchange gives, and what the initiator found verified
pub record InitFinished : Type 0 where
  pub done : MechDone
  pub found : List MechMaking

-- the user is judged before the password
unfoldable pub init_started : List ℕ → List ℕ → List ℕ → Option (List ℕ)
    → Result InitStarted ScramRefusal
init_started user password draw bindings = do
  named ← judged Printable 255 user
  opened ← judged Printable 1024 password
  Ok (record {
    end = record { user = user; password = password; nonce = encoded draw; bindings = bindings };
    token = framed.spell (oid_of Scram, first_text user (encoded draw));
  })

-- the own password with the salt and the rounds of a second text
abbrev pub secret_of : InitModel → Second → Secret
secret_of init second =
    record { password = init.password; salt = second.salt; rounds = second.rounds }

-- the third text without its proof
abbrev pub bare_of : InitModel → Second → List ℕ
bare_of init second = bare_text (data_of init.bindings) second.nonce

-- the AuthMessage with this second text
abbrev pub auth_of : InitModel → List ℕ → Second → List ℕ
auth_of init text second = auth_message (first_text init.user init.nonce) text (bare_of init second)

-- what follows a second text that is taken, by its secret and the AuthMessage
abbrev pub wait_with : InitModel → Secret → List ℕ → WaitModel
wait_with init secret auth = record {
  user = init.user;
  hash = hash_of init.bindings;
  auth = auth;
  server = server_key secret;
  key = key_of_client (stored_key secret) (client_key secret) auth;
}

-- the answer to a second text that is taken, by the third text without its proof, the secret and
-- the AuthMessage
abbrev pub answer_with : InitModel → List ℕ → Secret → List ℕ → InitAnswered
answer_with init bare secret auth = record {
  end = wait_with init secret auth;
  token = with_proof bare (proof_of secret auth);
  makes = proof_making (stored_key secret) auth (proof_of secret auth) ∷ [];
}

-- the answer to a second text, whose form, nonce and rounds are judged in this order
unfoldable pub init_answered : InitModel → List ℕ → Result InitAnswered ScramRefusal
init_answered init text = do
  second ← second_of text
  fresh ← demand (is_extended init.nonce second.nonce) refusals.Nonce
  ranged ← demand (are_rounds second.rounds) refusals.Rounds
  Ok (answer_with init (bare_of init second) (secret_of init second) (auth_of init text second))

-- the signature is compared with all its octets
unfoldable pub init_finished : WaitModel → List ℕ → Result InitFinished ScramRefusal
init_finished wait text = do
  signature ← final_of text
  verified ← demand (same (signature_of wait.server wait.auth) signature) refusals.Signature
  Ok (record {
    done = record {
      key = wait.key;
      subkey = false;
      initiator = wait.user;
      acceptor = [];
      hash =
          wait.hash;
      ends = greatest_moment;
      first = 0;
    };
    found = signature_making wait.server wait.auth ∷ [];
  })
