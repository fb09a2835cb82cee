-- What a new end made of a first token, before a book is asked to take it.
use Rattle.std.specs.Prelude.{ℕ, List, Result, IfOk}
use Rattle.sec_base.specs.Answers.{Gives}
use Rattle.spnego_core.specs.declared.refusal.NegRefusal.{NegRefusal}
use Rattle.spnego_core.specs.declared.refusal.NegRefusal.TheVariants.{NoMemory}
use Rattle.spnego_core.specs.declared.setup.AcceptSetup.{AcceptSetup}
use Rattle.spnego_core.specs.declared.accept_end.AcceptEnd.TheVariants.{New}
use Rattle.spnego_core.specs.declared.accept_end.AcceptStep.{AcceptStep}
use Rattle.spnego_core.specs.Accepting.{accept_step, step_of}
use Rattle.spnego_core.specs.Sizes.{ShortAccept}

-- a new end, begun with this setup, made this of the token: what the machine says, want of memory
-- aside, and its answer is short
pub record IsFirstStep (setup : AcceptSetup) (token : List ℕ) (now : ℕ) (draws : List ℕ)
    (stepped : Result AcceptStep NegRefusal) : Type 0 where
  pub exact :
      Gives NoMemory (λ s. s) stepped (step_of (accept_step setup New token now draws))
  pub short : IfOk stepped ShortAccept

-- some new end made this of some first token at this moment
abbrev pub WasStepped : ℕ → Result AcceptStep NegRefusal → Type 0
WasStepped now stepped = (setup : AcceptSetup) × (token : List ℕ) × (draws : List ℕ)
    × IsFirstStep setup token now draws stepped
