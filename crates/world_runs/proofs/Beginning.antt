-- A world before its first event.
use Rattle.std.proofs.Common.{◌≡◌, ℕ, zero, suc, arith, refl, sym, ap, subst, ◌∙◌, true, List, [], ◌∷◌, map, replicate, slice_get, option_map, Option, Some, None}
use Rattle.std.proofs.lemmas.Option.{slice_get-map}
use Rattle.scram_mech.specs.declared.verifiers.Verifier.{Verifier}
use Rattle.scram_mech.specs.VerifierFile.{IsLine, AreLines}
use Rattle.spnego_core.specs.Ends.{PlainSetup}
use Rattle.spnego_core.specs.InitMech.{is_own_list}
use Rattle.rpc_program.specs.Programs.{Serving}
use Rattle.accept_book.specs.Booking.{BookOf}
use Rattle.told_apart.specs.Apart.{IsApart}
use Rattle.world_laws.specs.declared.event.WorldEvent.{WorldEvent}
use Rattle.world_laws.specs.Stages.{StageSays, Ready}
use Rattle.world_laws.specs.Events.{IsBook, Run, Begins}
use Rattle.world_laws.specs.Setups.{IsSetup}
use Rattle.world_runs.specs.Served.{served}
use Rattle.world_runs.specs.Showing.{Ran}
use Rattle.world_laws.specs.State.{InHand, World}
use Rattle.posts_program.proofs.Apart.{posts-apart}

line-in : (lines : List Verifier) → AreLines lines → (place : ℕ) (line : Verifier) → slice_get lines place ≡ Some line → IsLine line
line-in [] all place line there = nothing line there
  where
    nothing : (line : Verifier) → None ≡ Some line → IsLine line
    nothing line e = grind (arith, e)
line-in (first ∷ rest) all zero line there = subst IsLine (same first line there) all.0
  where
    same : (a b : Verifier) → Some a ≡ Some b → a ≡ b
    same a b e = grind (arith, e)
line-in (first ∷ rest) all (suc place) line there = line-in rest all.1 place line there

none-in : (count lane : ℕ) (hand : Option InHand) → slice_get (replicate count None) lane ≡ Some hand → hand ≡ None
none-in zero lane hand there = nothing hand there
  where
    nothing : (hand : Option InHand) → None ≡ Some hand → hand ≡ None
    nothing hand e = grind (arith, e)
none-in (suc count) zero hand there = same hand there
  where
    same : (hand : Option InHand) → Some None ≡ Some hand → hand ≡ None
    same hand e = grind (arith, e)
none-in (suc count) (suc lane) hand there = none-in count lane hand there

ready-by : (own : Option PlainSetup) (stage : StageSays) → option_map (λ setup. Ready setup) own ≡ Some stage → (setup : PlainSetup) × (own ≡ Some setup) × (stage ≡ Ready setup)
ready-by None stage e = nothing stage e
  where
    nothing : (stage : StageSays) → None ≡ Some stage → (setup : PlainSetup) × (None ≡ Some setup) × (stage ≡ Ready setup)
    nothing stage e = grind (arith, e)
ready-by (Some own) stage e = (own, refl, same (Ready own) stage e)
  where
    same : (a b : StageSays) → Some a ≡ Some b → b ≡ a
    same a b e = grind (arith, e)

abbrev pub world-of : Serving → List PlainSetup → BookOf → ℕ → World
world-of serves setups book lanes = record { serves = serves; facts = setups; stages = map (λ setup. Ready setup) setups; book = book; lanes = replicate lanes None; fixed = []; makings = [] }

pub begins : (serves : Serving) → IsApart serves.program → (setups : List PlainSetup) (book : BookOf) (lanes : ℕ) → book.core.history ≡ [] → IsBook book → AreLines book.setup.verifiers
    → ((i : ℕ) (own : PlainSetup) → slice_get setups i ≡ Some own → is_own_list own.list ≡ true) → ((i : ℕ) (own : PlainSetup) → slice_get setups i ≡ Some own → IsSetup own)
    → Begins (world-of serves setups book lanes)
begins serves apart setups book lanes empty is_book lines lists each = record {
  ready = λ i own there. (slice_get-map (λ setup. Ready setup) setups i ∙ ap (option_map (λ setup. Ready setup)) there, lists i own there);
  known = λ i stage there. ready-by (slice_get setups i) stage (sym (slice_get-map (λ setup. Ready setup) setups i) ∙ there);
  idle = none-in lanes;
  unfixed = refl;
  unmade = refl;
  book = is_book;
  empty = empty;
  proper = record { setups = each; lines = line-in book.setup.verifiers lines; program = apart };
}

pub ran-new : (facts setups : List PlainSetup) (stages : List StageSays) (book : BookOf) (count : ℕ) (lanes : List (Option InHand)) (events : List WorldEvent)
    → facts ≡ setups → stages ≡ map (λ setup. Ready setup) setups → lanes ≡ replicate count None → events ≡ [] → book.core.history ≡ [] → IsBook book → AreLines book.setup.verifiers
    → ((i : ℕ) (own : PlainSetup) → slice_get setups i ≡ Some own → is_own_list own.list ≡ true) → ((i : ℕ) (own : PlainSetup) → slice_get setups i ≡ Some own → IsSetup own)
    → Ran (record { facts = facts; stages = stages; book = Some book; lanes = lanes; events = events })
ran-new facts setups stages book count lanes events facts_are stages_are lanes_are events_are empty is_book lines lists each = record {
  start = world-of served setups book count;
  begins = begins served posts-apart setups book count empty is_book lines lists each;
  now = world-of served setups book count;
  run = subst (λ es. Run (world-of served setups book count) es (world-of served setups book count)) (sym events_are) refl;
  shows = record { serves = refl; facts = facts_are; stages = stages_are; book = refl; lanes = lanes_are };
}

pub each-over : (xs ys : List PlainSetup) → xs ≡ ys → ((i : ℕ) (own : PlainSetup) → slice_get xs i ≡ Some own → IsSetup own) → (i : ℕ) (own : PlainSetup) → slice_get ys i ≡ Some own → IsSetup own
each-over xs ys same each i own there = each i own (ap (λ zs. slice_get zs i) same ∙ there)
