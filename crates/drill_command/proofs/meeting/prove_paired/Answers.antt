use Rattle.std.proofs.Common.{◌≡◌, ◌∙◌, ap, sym, subst, ℕ, List}
use Rattle.spnego_core.specs.Ends.{PlainSetup, setup_of}
use Rattle.pair_laws.specs.Meeting.{MeetLaw}
use Rattle.drill_command.specs.Fitting.{FitLaw, tokens_for}
use Rattle.drill_plan.specs.Generator.{octets_from}
use Rattle.drill_command.specs.Paired.{IsPaired}
use Rattle.drill_plan.specs.Sessions.{moment_of}
use Rattle.drill_plan.specs.Setting.{drill_start}
use Rattle.drill_command.proofs.Fitting.{fit-law}
use Rattle.drill_command.proofs.Joining.{joined}
use Rattle.drill_command.proofs.meeting.prove_paired.Goals as goal

pub returns : goal.returns
returns c = λ on.
    let s = c.in_ok-facts in
    let d = c.in_ok-draws in
    let own : PlainSetup = setup_of s.facts in
    let is : own ≡ (drill_start c.args.number (moment_of c.args.number) (octets_from 66 c.args.draw.value)).setup = s.ensures.is ∙ ap (λ (m : ℕ). (drill_start c.args.number m (octets_from 66 c.args.draw.value)).setup) c.moment_of.ensures in
    let fits : FitLaw c.args.number own = subst (λ (x : PlainSetup). FitLaw c.args.number x) (sym is) (fit-law c.args.number c.args.draw.value s.ensures.opens) in
    subst (λ (x : PlainSetup). IsPaired c.args.number x c.args.kept.now) is
    (joined c.args.number c.tokens_for-tokens.result own c.args.kept.now d.draws.items c.requires (c.tokens_for-tokens.ensures ∙ ap tokens_for c.kind_of.ensures)
    (d.ensures.is (moment_of c.args.number)) d.ensures.drawn fits
    (subst (λ (ds : List (List ℕ)). MeetLaw own ds) c.as_slice.ensures.value c.in_ok-prove_meeting.ensures) on)
