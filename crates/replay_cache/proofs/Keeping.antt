-- The marks that are held as the greatest moment rises.
use Rattle.std.proofs.Common.{◌≡◌, ℕ, ◌-◌, ◌<◌, ◌≤◌, false, List, [], ◌∷◌, refl, ap, inl, inr, arith}
use Rattle.std.proofs.lemmas.Bool.{cases_Bool, lt-leb, leb-false}
use Rattle.replay_cache.specs.declared.cache.TakenMark.{TakenMark}
use Rattle.replay_cache.specs.Taking.{is_recent, kept_of, skew}

-- what is kept at an earlier moment and then at a later one is what is kept at the later
pub kept-kept : (old new : ℕ) (taken : List TakenMark) → old ≤ new → kept_of new (kept_of old taken) ≡ kept_of new taken
kept-kept old new [] le = refl
kept-kept old new (t ∷ ts) le =
    elim (cases_Bool (is_recent old t)) [
      | inl here ↦
          rw here (elim (cases_Bool (is_recent new t)) [
            | inl still ↦ rw still (ap (λ (rest : List TakenMark). t ∷ rest) (kept-kept old new ts le))
            | inr gone ↦ rw gone (kept-kept old new ts le)
          ])
      | inr past ↦
          let far : skew < old - t.mark.at = leb-false (old - t.mark.at) skew past in
          let gone : is_recent new t ≡ false = lt-leb (new - t.mark.at) skew (omega (arith, far, le)) in
          rw (past, gone) (kept-kept old new ts le)
    ]
