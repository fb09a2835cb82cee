-- What follows the acceptor's choice, where the own first object is named.
use Rattle.std.proofs.Common.{◌≡◌, ℕ, true, List, Option, Result}
use Rattle.sec_base.specs.Answers.{Gives}
use Rattle.spnego_msgs.specs.declared.neg_state.NegState.{NegState}
use Rattle.spnego_core.specs.declared.refusal.NegRefusal.{NegRefusal}
use Rattle.spnego_core.specs.declared.refusal.NegRefusal.TheVariants.{NoMemory}
use Rattle.init_ends.specs.Objects.{is_named}
use Rattle.init_ends.specs.Ends.{OpeningMeans, StepMeans}
use Rattle.init_ends.specs.Initiating.{talk_with, run, picks}

-- then its mechanism takes the reply's token
pub first-picked : {A : Type 0} (view : A → StepMeans) (result : Result A NegRefusal) (size : ℕ) (opening : OpeningMeans) (oid : List ℕ) (state : Option NegState) (token mic : Option (List ℕ)) → is_named oid opening.mech.oid ≡ true
    → Gives NoMemory view result (run size (talk_with opening.list oid state) opening.mech state token mic) → Gives NoMemory view result (picks size opening oid state token mic)
unfolding picks
first-picked view result size opening oid state token mic named runs = rw named runs
