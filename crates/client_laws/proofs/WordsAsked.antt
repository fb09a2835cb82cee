-- What the words of the client ask for is a procedure with its own arguments.
use Rattle.std.proofs.Common.{◌≡◌, ℕ, ◌<◌, ◌^◌, true, refl, ap, sym, subst, ◌∙◌, List, []}
use Rattle.rpc_program.specs.Programs.{ProgramSays}
use Rattle.posts_program.specs.Posts.{is_one_opaque, are_args}
use Rattle.posts_client.specs.Procedure.{procedure_number}
use Rattle.posts_client.specs.declared.procedure.Procedure.{Procedure}
use Rattle.posts_client.specs.declared.procedure.Procedure.TheVariants.{Null, Echo, Whoami, Post, Count}
use Rattle.client_options.specs.Words.{IsData, IsArgument, IsOwn}
use Rattle.client_options.specs.Command.{called_by}
use Rattle.client_options.specs.declared.command.Command.{Command}
use Rattle.client_options.specs.declared.command.Command.TheVariants.{Served, Numbered}
use Rattle.client_laws.specs.ClientRun.{AsksServer}
use Rattle.pair_laws.proofs.PostsResults.{posts-fits, posts-has}
use Rattle.pair_laws.proofs.SpelledAlone.{one-fits}

data-fits : (args : List ℕ) → IsData args → is_one_opaque args ≡ true
data-fits args d = ap is_one_opaque d.spelled ∙ one-fits d.octets d.few

nothing-is : (procedure : Procedure) (args : List ℕ) → args ≡ [] → are_args (procedure_number procedure) [] ≡ true → are_args (procedure_number procedure) args ≡ true
nothing-is procedure args e h = ap (λ (zs : List ℕ). are_args (procedure_number procedure) zs) e ∙ h

own-args : (procedure : Procedure) (args : List ℕ) → IsArgument procedure args → are_args (procedure_number procedure) args ≡ true
own-args Null args h = nothing-is Null args h refl
own-args Echo args h = data-fits args h
own-args Whoami args h = nothing-is Whoami args h refl
own-args Post args h = data-fits args h
own-args Count args h = nothing-is Count args h refl

-- a procedure of the program, with its own arguments
pub record Asks (program : ProgramSays) (number : ℕ) (args : List ℕ) : Type 0 where
  pub fits : number < 2 ^ 32
  pub served : program.has number ≡ true
  pub proper : program.takes number args ≡ true

-- the words ask the server for one
pub asks-own : (says : ProgramSays) (command : Command) (program version : ℕ) (args : List ℕ) → IsOwn command program version args → AsksServer says command args → Asks says (called_by command).number args
asks-own says (Served procedure) program version args own asks =
    subst (λ (p : ProgramSays). Asks p (procedure_number procedure) args) (sym asks) (record { fits = posts-fits procedure; served = posts-has procedure; proper = own-args procedure args own.2 })
asks-own says (Numbered number) program version args own asks = record { fits = asks.0; served = asks.1; proper = asks.2 }
