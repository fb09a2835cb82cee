-- One question more: the steps of each id, and what the machine makes of them.
use Rattle.std.proofs.Common.{◌≡◌, ◌⊎◌, ◌∙◌, ℕ, Bool, true, false, ◌==◌, if◌then◌else◌, List, [], ◌∷◌, ◌++◌, Option, Some, refl, ap, inl, inr}
use Rattle.spnego_core.specs.declared.setup.AcceptSetup.{AcceptSetup}
use Rattle.spnego_core.specs.declared.accept_end.AcceptEnd.TheVariants as ends
use Rattle.spnego_core.specs.declared.accept_end.AcceptStep.{AcceptStep}
use Rattle.spnego_core.specs.declared.accept_end.AcceptStep.TheVariants as steps
use Rattle.spnego_core.specs.declared.accept_end.Answered.{Answered}
use Rattle.spnego_core.specs.declared.accept_end.Answered.TheVariants as afters
use Rattle.accept_book.specs.Booking.{answer_after, answer_with}
use Rattle.accept_book.specs.RecordShown.{Asked, AskedStep, AskedLook, AskedAdmit, AskedEnd}
use Rattle.accept_book.specs.declared.book_answer.Lease.{Lease}
use Rattle.history_laws.specs.Before.{Step, is_for, steps_of, Made, Negotiates, then_step, then_steps, made_in, Gives, IsGiven}
use Rattle.accept_core.specs.declared.entry.Receipt.{Receipt}

-- ---- steps in a row

append-if : (b : Bool) (x : Step) (xs ys : List Step) → (if b then x ∷ (xs ++ ys) else xs ++ ys) ≡ (if b then x ∷ xs else xs) ++ ys
append-if true x xs ys = refl
append-if false x xs ys = refl

steps-append : (id : ℕ) (xs ys : List (Asked Receipt)) → steps_of id (xs ++ ys) ≡ steps_of id xs ++ steps_of id ys
unfolding steps_of
steps-append id [] ys = refl
steps-append id (AskedStep asked token now draws answer ∷ xs) ys =
    let one : Step = record { token = token; now = now; draws = draws } in
    ap (λ (l : List Step). if is_for id answer.answer then one ∷ l else l) (steps-append id xs ys)
    ∙ append-if (is_for id answer.answer) one (steps_of id xs) (steps_of id ys)
steps-append id (AskedLook other now answer ∷ xs) ys = steps-append id xs ys
steps-append id (AskedAdmit lease seq service procedure args answer ∷ xs) ys = steps-append id xs ys
steps-append id (AskedEnd lease seq answer ∷ xs) ys = steps-append id xs ys

then-append : (setup : AcceptSetup) (made : Option Made) (xs ys : List Step) → then_steps setup made (xs ++ ys) ≡ then_steps setup (then_steps setup made xs) ys
unfolding then_steps
then-append setup made [] ys = refl
then-append setup made (x ∷ xs) ys = then-append setup (then_step setup made x) xs ys

-- ---- one question more

-- what a question adds to the steps of an id
abbrev pub added : ℕ → Asked Receipt → List Step
added id (AskedStep asked token now draws answer) = if is_for id answer.answer then record { token = token; now = now; draws = draws } ∷ [] else []
added id (AskedLook other now answer) = []
added id (AskedAdmit lease seq service procedure args answer) = []
added id (AskedEnd lease seq answer) = []

added-is : (id : ℕ) (one : Asked Receipt) → steps_of id (one ∷ []) ≡ added id one
unfolding steps_of
added-is id (AskedStep asked token now draws answer) = refl
added-is id (AskedLook other now answer) = refl
added-is id (AskedAdmit lease seq service procedure args answer) = refl
added-is id (AskedEnd lease seq answer) = refl

pub steps-more : (id : ℕ) (asked : List (Asked Receipt)) (one : Asked Receipt) → steps_of id (asked ++ one ∷ []) ≡ steps_of id asked ++ added id one
steps-more id asked one = steps-append id asked (one ∷ []) ∙ ap (λ (l : List Step). steps_of id asked ++ l) (added-is id one)

-- what the machine has made after a token, where its answer is for the id, and where it isn't
abbrev pub made_with : AcceptSetup → Option Made → Step → Bool → Option Made
made_with setup made step true = then_step setup made step
made_with setup made step false = made

-- the same of any question
abbrev pub made_after : AcceptSetup → Option Made → ℕ → Asked Receipt → Option Made
made_after setup made id (AskedStep asked token now draws answer) = made_with setup made (record { token = token; now = now; draws = draws }) (is_for id answer.answer)
made_after setup made id (AskedLook other now answer) = made
made_after setup made id (AskedAdmit lease seq service procedure args answer) = made
made_after setup made id (AskedEnd lease seq answer) = made

one-step : (setup : AcceptSetup) (made : Option Made) (step : Step) (b : Bool) → then_steps setup made (if b then step ∷ [] else []) ≡ made_with setup made step b
unfolding then_steps
one-step setup made step true = refl
one-step setup made step false = refl

no-step : (setup : AcceptSetup) (made : Option Made) → then_steps setup made [] ≡ made
unfolding then_steps
no-step setup made = refl

after-added : (setup : AcceptSetup) (made : Option Made) (id : ℕ) (one : Asked Receipt) → then_steps setup made (added id one) ≡ made_after setup made id one
after-added setup made id (AskedStep asked token now draws answer) = one-step setup made _ (is_for id answer.answer)
after-added setup made id (AskedLook other now answer) = no-step setup made
after-added setup made id (AskedAdmit lease seq service procedure args answer) = no-step setup made
after-added setup made id (AskedEnd lease seq answer) = no-step setup made

pub made-more : (setup : AcceptSetup) (id : ℕ) (asked : List (Asked Receipt)) (one : Asked Receipt) → made_in setup id (asked ++ one ∷ []) ≡ made_after setup (made_in setup id asked) id one
made-more setup id asked one =
    ap (λ (l : List Step). then_steps setup (Some (Negotiates ends.New)) l) (steps-more id asked one)
    ∙ (then-append setup (Some (Negotiates ends.New)) (steps_of id asked) (added id one) ∙ after-added setup (made_in setup id asked) id one)

-- of an id without steps it is a new end
pub made-none : (setup : AcceptSetup) (id : ℕ) (asked : List (Asked Receipt)) → steps_of id asked ≡ [] → made_in setup id asked ≡ Some (Negotiates ends.New)
made-none setup id asked none = ap (λ (l : List Step). then_steps setup (Some (Negotiates ends.New)) l) none ∙ no-step setup (Some (Negotiates ends.New))

-- no question, no step
pub unstepped : (id : ℕ) → steps_of id [] ≡ []
unfolding steps_of
unstepped id = refl

-- ---- for which id an answer is

for-after : (id own : ℕ) (after : Answered) → is_for id (answer_after own after) ≡ (own == id)
for-after id own (afters.More end token) = refl
for-after id own (afters.Done outcome lasts token) = refl

-- a step's answer is for its own id
pub for-own : (id own : ℕ) (step : AcceptStep) → is_for id (answer_with own step) ≡ (own == id)
for-own id own (steps.More end token) = refl
for-own id own (steps.Done outcome lasts token) = refl
for-own id own (steps.WantsAuth pause) = for-after id own pause.after

-- ---- leases that were given

pub given-more : (lease : Lease) (asked : List (Asked Receipt)) (one : Asked Receipt) → IsGiven lease (asked ++ one ∷ []) → IsGiven lease asked ⊎ Gives lease one
given-more lease [] one (inl gives) = inr gives
given-more lease [] one (inr none) = absurd none
given-more lease (first ∷ more) one (inl gives) = inl (inl gives)
given-more lease (first ∷ more) one (inr later) = by (given-more lease more one later)
  where
    by : IsGiven lease more ⊎ Gives lease one → IsGiven lease (first ∷ more) ⊎ Gives lease one
    by (inl before) = inl (inr before)
    by (inr gives) = inr gives
