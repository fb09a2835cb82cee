use Rattle.std.proofs.Common.{ℕ, Vec, sym}
use Rattle.scram_mech.proofs.PutPlaces.{placed}
use Rattle.scram_mech.proofs.user_places.Places.put.Goals as goal

pub returns : goal.returns
returns c = λ other. rw (sym c.in_ok-key.ensures.items) (placed (λ (v : Vec ℕ _). v.items) c.in_ok-key.key c.args.self.now.by_name.entries c.insert.new.self.entries c.args.place c.in_ok-insert.ensures.updates.1 c.in_ok-insert.ensures.updates.3 other)
