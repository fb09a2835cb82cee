use Rattle.std.proofs.Common.{inl, Bool, IsTrue, Some, sym, ap, subst}
use Rattle.datagram_calls.proofs.speaking.hold.Goals as goal

pub returns-in-Ok-clause-told : goal.returns-in-Ok-clause-told
returns-in-Ok-clause-told g c = λ t. inl (record {
  session = c.in-Ok.session;
  middle = c.create.new.post;
  created = c.in-Ok.ensures.told t;
  agreed = ap Some c.outcome-outcome.ensures;
  conversed = c.converse-results.ensures.told (subst (λ (b : Bool). IsTrue b) (sym c.create.ensures.tells) t);
})
