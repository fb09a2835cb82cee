use Rattle.std.proofs.Common.{◌≡◌, sym, subst, true, List, ℕ}
use Rattle.spnego_core.specs.Sizes.{IsShort}
use Rattle.init_ends.specs.Objects.{are_oids}
use Rattle.init_ends.proofs.ShortFirst.{first_short}
use Rattle.init_ends.proofs.start.first_sent.Goals as goal

pub returns-clause-short : goal.returns-clause-short
returns-clause-short c = λ h.
    subst IsShort (sym c.in_ok-octets.ensures)
    (first_short c.args.list c.args.token c.requires (subst (λ (x : List (List ℕ)). are_oids x ≡ true) c.as_slice.ensures c.tell_oids.ensures) h)
