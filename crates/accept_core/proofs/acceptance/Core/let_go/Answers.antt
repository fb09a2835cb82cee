use Rattle.std.proofs.Common.{◌≤◌, None, Some, reverse, length, refl, ap, inl, arith}
use Rattle.accept_core.specs.History.{opened, taken_of, has_auth}
use Rattle.accept_core.specs.Aging.{in_use, most_whole}
use Rattle.accept_core.specs.Replays.{Naming}
use Rattle.accept_core.proofs.Appended.{unopened}
use Rattle.accept_core.proofs.Lapses.{lapsed-is, lapsed-stays}
use Rattle.accept_core.proofs.Goings.{goes-live, goes-some, goes-same, none-place, none-share, some-share, held-stays}
use Rattle.accept_core.proofs.acceptance.Core.let_go.Given as given
use Rattle.accept_core.proofs.acceptance.Core.let_go.Goals as goal

abbrev naming-of : (g : given.Over) → Naming g.row.S.Denot
naming-of g = record { mech = g.S.Named.mech_of; names = g.S.Named.names_of }

pub close-requires-clause-may : goal.close-requires-clause-may
close-requires-clause-may g c =
    let goes = rw (← c.self.view_is, c.in-Some.is) at c.victim.ensures.goes in
    rw (← c.self.view_is) (goes-live (naming-of g) c.self.inside.log.width c.args.settles c.args.first (reverse c.self.inside.log.entries) c.self.inside.table c.self.inside.cache c.self.inside.cache.greatest c.in-Some.id c.self.invariant.replays goes)

pub returns-in-None-clause-history : goal.returns-in-None-clause-history
returns-in-None-clause-history g c =
    let goes = rw (← c.self.view_is, c.in-None.is) at c.victim.ensures.goes in
    rw (← c.self.view_is) (λ gone is. rw (goes-same c.args.settles c.args.first (reverse c.self.inside.log.entries) c.self.inside.table c.self.inside.cache.greatest gone None is goes) refl)

pub returns-in-None-clause-keeps : goal.returns-in-None-clause-keeps
returns-in-None-clause-keeps g c = record { limit = refl; width = refl; keeping = refl; contexts = refl; capacity = refl; greatest = refl }

pub returns-in-None-clause-place : goal.returns-in-None-clause-place
returns-in-None-clause-place g c =
    let goes = rw (← c.self.view_is, c.in-None.is) at c.victim.ensures.goes in
    rw (← c.self.view_is) (λ first never. none-place c.args.settles c.args.first (reverse c.self.inside.log.entries) c.self.inside.table c.self.inside.cache.greatest goes first never)

pub returns-in-None-clause-share : goal.returns-in-None-clause-share
returns-in-None-clause-share g c =
    let goes = rw (← c.self.view_is, c.in-None.is) at c.victim.ensures.goes in
    rw (← c.self.view_is) (λ holds. none-share c.args.settles c.args.first (reverse c.self.inside.log.entries) c.self.inside.table c.self.inside.cache.greatest goes holds)

pub returns-in-None-clause-held : goal.returns-in-None-clause-held
returns-in-None-clause-held g c = λ first id held. refl

pub returns-in-None-clause-slots : goal.returns-in-None-clause-slots
returns-in-None-clause-slots g c =
    let goes = rw (← c.self.view_is, c.in-None.is) at c.victim.ensures.goes in
    rw (← c.self.view_is) (λ gone is other. rw (goes-same c.args.settles c.args.first (reverse c.self.inside.log.entries) c.self.inside.table c.self.inside.cache.greatest gone None is goes) refl)

pub returns-in-None-clause-stays : goal.returns-in-None-clause-stays
returns-in-None-clause-stays g c = λ other. inl refl

pub returns-in-None-clause-unopened : goal.returns-in-None-clause-unopened
returns-in-None-clause-unopened g c =
    rw (← c.self.view_is) (unopened (naming-of g) c.self.inside.log.width (reverse c.self.inside.log.entries) c.self.inside.table c.self.inside.cache c.self.invariant.replays)

pub returns-in-Some-clause-history : goal.returns-in-Some-clause-history
returns-in-Some-clause-history g c =
    let goes = rw (← c.self.view_is, c.in-Some.is) at c.victim.ensures.goes in
    rw (← c.self.view_is) (λ gone is. rw (goes-same c.args.settles c.args.first (reverse c.self.inside.log.entries) c.self.inside.table c.self.inside.cache.greatest gone (Some c.in-Some.id) is goes) (rw (← c.self.view_is) at c.close.ensures.history))

pub returns-in-Some-clause-keeps : goal.returns-in-Some-clause-keeps
returns-in-Some-clause-keeps g c = c.close.ensures.keeps

pub returns-in-Some-clause-place : goal.returns-in-Some-clause-place
returns-in-Some-clause-place g c =
    let goes = rw (← c.self.view_is, c.in-Some.is) at c.victim.ensures.goes in
    let few = rw (← c.self.view_is) at c.victim.ensures.few in
    let live = rw (← c.self.view_is, goes-some (naming-of g) c.self.inside.log.width c.args.settles c.args.first (reverse c.self.inside.log.entries) c.self.inside.table c.self.inside.cache c.self.inside.cache.greatest c.in-Some.id c.self.invariant.replays goes) at c.close.ensures.live in
    let limit = rw (← c.self.view_is) at c.close.ensures.keeps.contexts in
    λ first never. omega (arith, few, live, limit)

pub returns-in-Some-clause-share : goal.returns-in-Some-clause-share
returns-in-Some-clause-share g c =
    let goes = rw (← c.self.view_is, c.in-Some.is) at c.victim.ensures.goes in
    let history = rw (← c.self.view_is) at c.close.ensures.history in
    let limit = rw (← c.self.view_is) at c.close.ensures.keeps.contexts in
    let most : length (in_use (reverse c.self.inside.log.entries)) ≤ most_whole c.self.inside.table.limit = omega (arith, c.self.invariant.share, c.self.invariant.whole) in
    rw (history, limit) (λ holds. some-share c.args.settles c.args.first (reverse c.self.inside.log.entries) c.self.inside.table c.self.inside.cache.greatest c.in-Some.id goes most holds)

pub returns-in-Some-clause-held : goal.returns-in-Some-clause-held
returns-in-Some-clause-held g c =
    let goes = rw (← c.self.view_is, c.in-Some.is) at c.victim.ensures.goes in
    let others = rw (← c.self.view_is) at c.close.ensures.others in
    rw (← c.self.view_is)
    (λ first id held.
    others.others id (held-stays (naming-of g) c.self.inside.log.width c.args.settles c.args.first (reverse c.self.inside.log.entries) c.self.inside.table c.self.inside.cache c.self.inside.cache.greatest c.in-Some.id id c.self.invariant.replays goes first held))

pub returns-in-Some-clause-given : goal.returns-in-Some-clause-given
returns-in-Some-clause-given g c = ap opened c.close.ensures.history

pub returns-in-Some-clause-taken : goal.returns-in-Some-clause-taken
returns-in-Some-clause-taken g c = ap taken_of c.close.ensures.history

pub returns-in-Some-clause-auths : goal.returns-in-Some-clause-auths
returns-in-Some-clause-auths g c = λ other. ap (has_auth other) c.close.ensures.history

pub returns-in-Some-clause-slots : goal.returns-in-Some-clause-slots
returns-in-Some-clause-slots g c =
    let goes = rw (← c.self.view_is, c.in-Some.is) at c.victim.ensures.goes in
    rw (← c.self.view_is) (λ gone is other.
    rw (goes-same c.args.settles c.args.first (reverse c.self.inside.log.entries) c.self.inside.table c.self.inside.cache.greatest gone (Some c.in-Some.id) is goes) (lapsed-is c.self.inside.table c.close.new.self.table c.in-Some.id other (rw (← c.self.view_is) at c.close.ensures.others) c.close.ensures.gone))

pub returns-in-Some-clause-stays : goal.returns-in-Some-clause-stays
returns-in-Some-clause-stays g c = rw (← c.self.view_is) (λ other. lapsed-stays c.self.inside.table c.close.new.self.table c.in-Some.id other (rw (← c.self.view_is) at c.close.ensures.others) c.close.ensures.gone)

pub returns-in-Some-clause-unopened : goal.returns-in-Some-clause-unopened
returns-in-Some-clause-unopened g c =
    rw (← c.self.view_is) (unopened (naming-of g) c.self.inside.log.width (reverse c.self.inside.log.entries) c.self.inside.table c.self.inside.cache c.self.invariant.replays)
