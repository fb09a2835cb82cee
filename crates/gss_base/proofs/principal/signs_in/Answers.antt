use Rattle.std.proofs.Common.{false, ◌≡◌, ◌+◌, drop, length, get_or, Some, None, ap, ◌∙◌, sym, arith}
use Rattle.std.proofs.lemmas.Bool.{false≢true}
use Rattle.std.proofs.lemmas.List.{at_drop_more, at_drop_all}
use Rattle.gss_base.proofs.Naming.{with_front, goes-on}
use Rattle.gss_base.proofs.Turns.{sign-turn, quotes-turn, refused, refused_end, read_whole, no_memory, with_front-nil, behind_one, same_place}
use Rattle.gss_base.specs.Signs.{signs_of, turn_of, fault_at}
use Rattle.gss_base.specs.declared.principal.Turn.TheVariants.{Stands, Quotes, Faulty}
use Rattle.gss_base.proofs.principal.signs_in.Goals as goal
use Rattle.gss_base.proofs.principal.signs_in.Goals.{in-Stands+in_ok-push-in-Stands, in-Quotes}

pub loop-at-preserved : goal.loop-at-preserved
loop-at-preserved c =
    let l = c.loop-at in
    let here = at_drop_more (signs_of l.quotes l.realm l.at) c.args.text.now l.at 0 c.loop-at-test.true in
    elim c.match-turn_at.branch [
      | in-Stands+in_ok-push-in-Stands w ↦
          let turn : turn_of l.quotes l.realm l.at (get_or c.args.text.now l.at 0) ≡ Stands w.in-Stands.sign = sym c.turn_at.ensures ∙ w.in-Stands.is in
          let step = here ∙ sign-turn l.quotes l.realm l.at (get_or c.args.text.now l.at 0) (drop (l.at + 1) c.args.text.now) w.in-Stands.sign turn in
          record { read = rw (w.signs-is, w.quotes-is, w.realm-is, w.realm_after-realm.ensures) (goes-on _ _ _ _ _ _ w.in_ok-push-in-Stands.ensures.items step l.invariant.read); behind = λ _. behind_one l.at }
      | in-Quotes w ↦
          let turn : turn_of l.quotes l.realm l.at (get_or c.args.text.now l.at 0) ≡ Quotes = sym c.turn_at.ensures ∙ w.in-Quotes.is in
          let step = here ∙ quotes-turn l.quotes l.realm l.at (get_or c.args.text.now l.at 0) (drop (l.at + 1) c.args.text.now) turn in
          record { read = rw (w.signs-is, w.quotes-is, w.realm-is) (ap (with_front l.signs.items) (sym step) ∙ l.invariant.read); behind = λ _. behind_one l.at }
    ]

pub returns-in-Faulty : goal.returns-in-Faulty
returns-in-Faulty c =
    let l = c.loop-at in
    let here = at_drop_more (λ rest. with_front l.signs.items (signs_of l.quotes l.realm l.at rest)) c.args.text.now l.at 0 c.loop-at-test.true in
    let turn : turn_of l.quotes l.realm l.at (get_or c.args.text.now l.at 0) ≡ Faulty c.in-Faulty.at = sym c.turn_at.ensures ∙ c.in-Faulty.is in
    refused l.signs.items l.quotes l.realm l.at (get_or c.args.text.now l.at 0) (drop l.at c.args.text.now) (drop (l.at + 1) c.args.text.now) _ c.in-Faulty.at l.invariant.read here turn

pub returns-in-Some : goal.returns-in-Some
returns-in-Some c =
    let l = c.loop-at in
    let here = at_drop_all (λ rest. with_front l.signs.items (signs_of l.quotes l.realm l.at rest)) c.args.text.now l.at c.loop-at-test.false in
    let end : fault_at l.quotes l.realm l.at ≡ Some c.in-Some.at = let last = same_place l.at (length c.args.text.now) l.auto.at-end c.loop-at-test.false in ap (fault_at l.quotes l.realm) last ∙ (sym c.fault_at_end.ensures ∙ c.in-Some.is) in
    sym l.invariant.read ∙ (here ∙ refused_end l.signs.items l.quotes l.realm l.at c.in-Some.at end)

pub returns-in-None : goal.returns-in-None
returns-in-None c =
    let l = c.loop-at in
    let here = at_drop_all (λ rest. with_front l.signs.items (signs_of l.quotes l.realm l.at rest)) c.args.text.now l.at c.loop-at-test.false in
    let end : fault_at l.quotes l.realm l.at ≡ None = let last = same_place l.at (length c.args.text.now) l.auto.at-end c.loop-at-test.false in ap (fault_at l.quotes l.realm) last ∙ (sym c.fault_at_end.ensures ∙ c.in-None.is) in
    sym l.invariant.read ∙ (here ∙ read_whole l.signs.items l.quotes l.realm l.at end)

pub returns-in_err-push-in-Stands : goal.returns-in_err-push-in-Stands
returns-in_err-push-in-Stands c = no_memory _ (signs_of false false 0 c.args.text.now) c.from_residual.ensures.1

pub loop-at-init : goal.loop-at-init
loop-at-init c = record { read = rw c.new-signs.ensures.items (with_front-nil (signs_of false false 0 c.args.text.now)); behind = λ e. absurd (false≢true e) }

pub turn_at-requires : goal.turn_at-requires
turn_at-requires c = c.loop-at.invariant.behind

pub fault_at_end-requires : goal.fault_at_end-requires
fault_at_end-requires c = λ q. omega (arith, c.loop-at.invariant.behind q)
