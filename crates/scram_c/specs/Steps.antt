-- The steps of an exchange behind a handle, by what it holds.
use Rattle.std.specs.Prelude.{ℕ, List, Option, Some, None, Result, Ok, Err}
use Rattle.krb_tokens.specs.declared.done.MechDone.{MechDone}
use Rattle.krb_tokens.specs.declared.end.Side.{Side}
use Rattle.krb_tokens.specs.declared.end.Side.TheVariants as sides
use Rattle.scram_mech.specs.declared.refusal.ScramRefusal.{ScramRefusal}
use Rattle.scram_mech.specs.declared.verifiers.Verifier.{Verifier}
use Rattle.scram_mech.specs.Reading.{seen}
use Rattle.scram_mech.specs.Initiator.{InitModel, WaitModel, proving, init_answered, init_finished}
use Rattle.scram_mech.specs.Acceptor.{AcceptModel, accepting, accept_started, accept_finished}
use Rattle.scram_c.specs.declared.status.Status.{Status}
use Rattle.scram_c.specs.declared.status.Status.TheVariants as statuses
use Rattle.scram_c.specs.declared.exchange.Standing.{Standing}
use Rattle.scram_c.specs.declared.exchange.Stage.{Stage}
use Rattle.scram_c.specs.declared.exchange.Stage.TheVariants as stages
use Rattle.scram_c.specs.declared.exchange.Exchange.{Exchange}
use Rattle.scram_c.specs.declared.exchange.Change.{Change}
use Rattle.scram_c.specs.declared.exchange.Went.{Went}

-- another token is due
abbrev pub goes_on : Stage → List ℕ → Went
goes_on stage token = record {
  status = statuses.More;
  change = Some (record { stage = stage; token = Some token });
}

-- the context that an exchange gives to the end at this side; its tokens are numbered from 0
abbrev pub standing : Side → MechDone → Standing
standing side done = record {
  end = record { key = done.key; side = side; subkey = done.subkey };
  initiator = done.initiator;
  number = 0;
  ends = done.ends;
}

-- the context stands
abbrev pub stands : Standing → Option (List ℕ) → Went
stands context token = record {
  status = statuses.Done;
  change = Some (record { stage = stages.Stands context; token = token });
}

-- the exchange is over, by this cause
abbrev pub refused_by : ScramRefusal → Went
refused_by refusal = record {
  status = statuses.Scram refusal;
  change = Some (record { stage = stages.Over; token = None });
}

-- nothing changes
abbrev pub unchanged : Status → Went
unchanged status = record { status = status; change = None }

-- a refusal ends the exchange; a value goes on as it says
abbrev pub told : {A : Type 0} → (A → Went) → Result A ScramRefusal → Went
told went (Ok value) = went value
told went (Err refusal) = refused_by refusal

-- the acceptor's first text: the proof goes out
abbrev pub first_went : InitModel → List ℕ → Went
first_went end token =
    told (λ a. goes_on (stages.Wait a.end) a.token) (seen proving (init_answered end token))

-- the acceptor's final text: the context stands only if its signature is verified
abbrev pub wait_went : WaitModel → List ℕ → Went
wait_went end token = told (λ d. stands (standing sides.Initiator d) None)
    (seen (λ f. f.done) (init_finished end token))

-- the initiator's first token, by the users' lines, where there are any
abbrev pub due_went : Option (List Verifier) → List ℕ → List ℕ → Went
due_went None token nonce = unchanged statuses.NoVerifiers
due_went (Some lines) token nonce =
    told (λ s. goes_on (stages.Accept s.end) s.token) (accept_started lines token nonce)

-- the initiator's text with its proof: the context stands only if the proof is one
abbrev pub accept_went : AcceptModel → Option (List ℕ) → List ℕ → ℕ → Went
accept_went end bindings token now =
    told (λ f. stands (standing sides.Acceptor f.done) (Some f.token))
    (seen accepting (accept_finished end token bindings now))

-- what comes of the other end's token
abbrev pub stage_went : Stage → Option (List ℕ) → Option (List Verifier) → List ℕ → ℕ → List ℕ
    → Went
stage_went (stages.First end) bindings users token now nonce = first_went end token
stage_went (stages.Wait end) bindings users token now nonce = wait_went end token
stage_went stages.Due bindings users token now nonce = due_went users token nonce
stage_went (stages.Accept end) bindings users token now nonce = accept_went end bindings token now
stage_went (stages.Stands context) bindings users token now nonce = unchanged statuses.NotDue
stage_went stages.Over bindings users token now nonce = unchanged statuses.NotDue

abbrev pub stepped : Exchange → Option (List Verifier) → List ℕ → ℕ → List ℕ → Went
stepped exchange users token now nonce =
    stage_went exchange.stage exchange.bindings users token now nonce

-- an exchange with a step's change
abbrev pub changed_by : Exchange → Option Change → Exchange
changed_by exchange None = exchange
changed_by exchange (Some change) =
    record exchange { stage = change.stage; token = change.token }

abbrev pub changed : Exchange → Went → Exchange
changed exchange went = changed_by exchange went.change
