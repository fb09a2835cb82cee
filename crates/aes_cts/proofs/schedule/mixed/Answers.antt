use Rattle.std.proofs.Common.{◌≡◌, ◌≢◌, ◌<◌, ◌∙◌, length, arith, inl, inr}
use Rattle.std.proofs.lemmas.Bool.{cases_lt}
use Rattle.std.proofs.lemmas.List.{length-set, get_or-set_same, get_or-set_other}
use Rattle.aes_cts.proofs.schedule.mixed.Goals as goal

pub words-preserved : goal.words-preserved
words-preserved c = (
  length-set c.words.words c.words.i c.unmixed.result ∙ c.words.invariant.0,
  λ j low h. elim (cases_lt j c.words.i) [
    | inl a ↦
        let ne : j ≢ c.words.i = omega arith in
        rw (get_or-set_other c.words.words c.words.i j c.unmixed.result 0 ne) (c.words.invariant.1 j low a)
    | inr b ↦
        let e : j ≡ c.words.i = omega arith in
        let within : c.words.i < length c.words.words = omega arith in
        rw (e, get_or-set_same c.words.words c.words.i c.unmixed.result 0 within) c.unmixed.ensures
  ],
)
