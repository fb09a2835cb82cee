-- Tokens of messages, by the context that a handle holds (RFC 4121 section 4.2).
use Rattle.std.specs.Prelude.{ℕ, Bool, List, Option, Some, None, Result, Ok, Err, length}
use Rattle.krb_tokens.specs.declared.end.TokenRefusal.{TokenRefusal}
use Rattle.krb_tokens.specs.declared.wrap.Unwrapped.{Unwrapped}
use Rattle.krb_tokens.specs.Mic.{mic_of, checked_mic}
use Rattle.krb_tokens.specs.Wrap.{wrap_of, unwrapped}
use Rattle.scram_c.specs.declared.status.Status.{Status}
use Rattle.scram_c.specs.declared.status.Status.TheVariants as statuses
use Rattle.scram_c.specs.declared.exchange.Standing.{Standing}
use Rattle.scram_c.specs.declared.exchange.Exchange.{Exchange}
use Rattle.scram_c.specs.Answers.{absent, room_status, put_into}

-- the MIC of the next number over a message; without a context the octets that stood there
abbrev pub mic_made : List ℕ → List ℕ → Option Standing → List ℕ
mic_made before message None = before
mic_made before message (Some context) = mic_of context.end context.number message

-- what a check of a token answers
abbrev pub told_status : Result (Unit {0}) TokenRefusal → Status
told_status (Ok done) = statuses.Done
told_status (Err refusal) = statuses.Token refusal

-- what the other end's MIC is
abbrev pub mic_status : Option Exchange → List ℕ → List ℕ → Option Standing → Status
mic_status held token message None = absent held
mic_status held token message (Some context) = told_status (checked_mic context.end token message)

-- the Wrap token of the next number
abbrev pub wrap_made : Bool → List ℕ → List ℕ → Option Standing → Option (List ℕ)
wrap_made sealed confounder message None = None
wrap_made sealed confounder message (Some context) =
    Some (wrap_of context.end context.number sealed confounder message)

-- what the other end's Wrap token holds
abbrev pub wrap_opened : List ℕ → Option Standing → Option (Result Unwrapped TokenRefusal)
wrap_opened token None = None
wrap_opened token (Some context) = Some (unwrapped context.end token)

-- its octets are handed out
abbrev pub opened_status : Option Exchange → List ℕ → Option (Result Unwrapped TokenRefusal)
    → Status
opened_status held room None = absent held
opened_status held room (Some (Err refusal)) = statuses.Token refusal
opened_status held room (Some (Ok opened)) = room_status room opened.content

abbrev pub opened_room : List ℕ → Option (Result Unwrapped TokenRefusal) → List ℕ
opened_room room None = room
opened_room room (Some (Err refusal)) = room
opened_room room (Some (Ok opened)) = put_into room opened.content

abbrev pub opened_count : ℕ → Option (Result Unwrapped TokenRefusal) → ℕ
opened_count before None = before
opened_count before (Some (Err refusal)) = before
opened_count before (Some (Ok opened)) = length opened.content

abbrev pub opened_sealed : Bool → Option (Result Unwrapped TokenRefusal) → Bool
opened_sealed before None = before
opened_sealed before (Some (Err refusal)) = before
opened_sealed before (Some (Ok opened)) = opened.sealed
