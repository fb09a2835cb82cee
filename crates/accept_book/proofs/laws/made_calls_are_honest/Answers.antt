use Rattle.std.proofs.Common.{refl, inl, inr}
use Rattle.accept_book.proofs.HonestMakings.{mic-made, sealed-made, made-honest}
use Rattle.accept_book.proofs.laws.made_calls_are_honest.Goals as goal

pub returns : goal.returns
returns c = record {
  call = made-honest;
  bare = λ end n args. inl (refl, refl);
  by_integrity = λ end number n args small long. inr (inl (refl, record { tag = _; mic = mic-made end number _ small; long = long; spelled = refl }));
  by_privacy = λ end number n confounder args small block octets long. inr (inr (refl, record { token = _; sealed = sealed-made end number confounder _ small block octets; long = long; spelled = refl }));
}
