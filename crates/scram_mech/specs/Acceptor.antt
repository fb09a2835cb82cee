-- The acceptor's end: each step as a function on models, with what it hands out as made and what it
-- found verified.
use Rattle.std.specs.Prelude.{ℕ, ◌+◌, min, Bool, false, List, [], ◌∷◌, ◌++◌, Option, Some, None}
use Rattle.std.specs.Prelude.{Result, Ok, Err}
use Rattle.sec_base.specs.Moment.{greatest_moment}
use Rattle.gss_base.specs.Bindings.{hash_of}
use Rattle.sha1.specs.Sha1.{sha1}
use Rattle.krb_tokens.specs.declared.done.MechDone.{MechDone}
use Rattle.scram_mech.specs.declared.refusal.ScramRefusal.{ScramRefusal}
use Rattle.scram_mech.specs.declared.refusal.ScramRefusal.TheVariants as refusals
use Rattle.scram_mech.specs.Reading.{◌>>=◌}
use Rattle.scram_mech.specs.Base64.{encoded}
use Rattle.scram_mech.specs.Judging.{demand, same, unframed}
use Rattle.scram_bindings.specs.Carried.{carried, is_bound}
use Rattle.scram_mech.specs.FirstText.{first_of}
use Rattle.scram_mech.specs.SecondText.{second_text}
use Rattle.scram_mech.specs.ThirdText.{Third, third_of}
use Rattle.scram_mech.specs.FinalText.{final_text}
use Rattle.scram_mech.specs.Secrets.{auth_message, masked, signature_of, context_key}
use Rattle.scram_mech.specs.MechMaking.{MechMaking, proof_making, signature_making}
use Rattle.scram_mech.specs.declared.verifiers.Verifier.{Verifier}
use Rattle.scram_mech.specs.Verifiers.{line_for}

-- the second text is out: the user's line, the first text, the initiator's nonce and the text of
-- the own one
pub record AcceptModel : Type 0 where
  pub line : Verifier
  pub first : List ℕ
  pub client : List ℕ
  pub own : List ℕ

-- a first token is taken: the end whose second text is out, and that text
pub record AcceptStarted : Type 0 where
  pub end : AcceptModel
  pub token : List ℕ

-- a third text is taken: what the exchange gives, the final text, what the acceptor made, and
-- what it found verified
pub record AcceptFinished : Type 0 where
  pub done : MechDone
  pub token : List ℕ
  pub makes : List MechMaking
  pub found : List MechMaking

-- what the code gives of an acceptance
pub record Accepting : Type 0 where
  pub done : MechDone
  pub token : List ℕ

-- an acceptance as the code gives it, without what was made and found
abbrev pub accepting : AcceptFinished → Accepting
accepting a = record { done = a.done; token = a.token }

-- the whole nonce, and the second text
abbrev pub nonce_of : AcceptModel → List ℕ
nonce_of accept = accept.client ++ accept.own

-- the second text: the whole nonce, and salt and rounds of the user's line
abbrev pub second_by : AcceptModel → List ℕ
second_by accept = second_text (nonce_of accept) accept.line.salt accept.line.rounds

-- the user's line, or the refusal of a name that has none
abbrev pub line_or_none : Option Verifier → Result Verifier ScramRefusal
line_or_none None = Err refusals.NoUser
line_or_none (Some line) = Ok line

-- the end by the first text, the initiator's nonce, the user's line and the text of the own nonce
abbrev pub accept_with : List ℕ → List ℕ → Verifier → List ℕ → AcceptModel
accept_with first client line own =
    record { line = line; first = first; client = client; own = own }

-- a first token's frame, text and user are judged in this order; `draw` is for the own nonce
unfoldable pub accept_started : List Verifier → List ℕ → List ℕ → Result AcceptStarted ScramRefusal
accept_started lines token draw = do
  text ← unframed token
  first ← first_of text
  line ← line_or_none (line_for lines first.name)
  Ok (record {
    end = accept_with text first.nonce line (encoded draw);
    token = second_by (accept_with text first.nonce line (encoded draw));
  })

-- the AuthMessage with a third text without its proof
abbrev pub auth_with : AcceptModel → List ℕ → List ℕ
auth_with accept bare = auth_message accept.first (second_by accept) bare

-- the proof gives back a client key whose digest is the stored key
abbrev pub is_proof : List ℕ → List ℕ → List ℕ → Bool
is_proof stored auth proof = same (sha1 (masked stored auth proof)) stored

-- what a third text that is taken gives, by the AuthMessage
abbrev pub finish_with : AcceptModel → Third → ℕ → List ℕ → AcceptFinished
finish_with accept third now auth = record {
  done = record {
    key = context_key accept.line.stored third.proof auth;
    subkey = false;
    initiator = accept.line.name;
    acceptor = [];
    hash = hash_of (carried third.binding);
    ends = min (now + 86400000000) greatest_moment;
    first = 0;
  };
  token = final_text (signature_of accept.line.server auth);
  makes = signature_making accept.line.server auth ∷ [];
  found = proof_making accept.line.stored auth third.proof ∷ [];
}

-- nonce, bindings and proof are judged in this order; the context ends a day after it was made
unfoldable pub accept_finished : AcceptModel → List ℕ → Option (List ℕ) → ℕ
    → Result AcceptFinished ScramRefusal
accept_finished accept text bindings now = do
  third ← third_of text
  fresh ← demand (same third.nonce (nonce_of accept)) refusals.Nonce
  bound ← demand (is_bound bindings third.binding) refusals.Bindings
  proved ← demand (is_proof accept.line.stored (auth_with accept third.bare) third.proof)
      refusals.Proof
  Ok (finish_with accept third now (auth_with accept third.bare))
