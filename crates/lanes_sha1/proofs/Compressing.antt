-- The schedule and the rounds of one lane.
use Rattle.std.proofs.Common.{◌≡◌, ◌≢◌, ℕ, ◌+◌, ◌-◌, ◌*◌, ◌<◌, ◌≤◌, List, length, slice_index, slice_set, refl, sym, ◌∙◌, arith, inl, inr}
use Rattle.std.proofs.lemmas.Bool.{cases_lt}
use Rattle.std.proofs.lemmas.List.{get_or-set_same, get_or-set_other}
use Rattle.sha1.specs.Sha1.{word_at, next_word, schedule, round_fn, round_constant, round, rounds, add_state, compress}
use Rattle.sha1.proofs.Schedule.{slice_index-schedule_first, slice_index-schedule_next, rounds_next}
use Rattle.lanes_sha1.specs.Lanes.{words_of}
use Rattle.lanes_sha1.specs.Stages.{Scheduled}
use Rattle.lanes_sha1.proofs.LaneLemmas.{words-set, length-words}

-- one more word written
pub scheduled_set : (b w : List ℕ) (t x : ℕ) → t < length w → x ≡ slice_index (schedule b 64) t → Scheduled b w t → Scheduled b (slice_set w t x) (t + 1)
scheduled_set b w t x fits e before k lt =
    elim (cases_lt k t) [
      | inl under ↦
          let other : k ≢ t = omega arith in
          get_or-set_other w t k x 0 other ∙ before k under
      | inr at ↦
          let here : k ≡ t = omega arith in
          rw here (get_or-set_same w t x 0 fits ∙ e)
    ]

-- a word of the block itself
pub given_more : (j : ℕ) (b : List ℕ) (w : List (List ℕ)) (t : ℕ) (v : List ℕ) → t < 16 → length w ≡ 80 → slice_index v j ≡ word_at b (4 * t)
    → Scheduled b (words_of j w) t → Scheduled b (words_of j (slice_set w t v)) (t + 1)
given_more j b w t v lt long e before =
    rw (words-set j w t v)
    (scheduled_set b (words_of j w) t (slice_index v j) (omega (arith, length-words j w)) (e ∙ sym (slice_index-schedule_first b 64 t lt)) before)

-- a word made of those before it
pub further_more : (j : ℕ) (b : List ℕ) (w : List (List ℕ)) (t : ℕ) (v : List ℕ) → 16 ≤ t → t < 80 → length w ≡ 80 → slice_index v j ≡ next_word (words_of j w) t
    → Scheduled b (words_of j w) t → Scheduled b (words_of j (slice_set w t v)) (t + 1)
further_more j b w t v low high long e before =
    let next : next_word (words_of j w) t ≡ slice_index (schedule b 64) t =
    rw (before (t - 3) (omega arith), before (t - 8) (omega arith), before (t - 14) (omega arith), before (t - 16) (omega arith))
    (sym (slice_index-schedule_next b 64 t low high)) in
    rw (words-set j w t v)
    (scheduled_set b (words_of j w) t (slice_index v j) (omega (arith, length-words j w)) (e ∙ next) before)

-- a round
pub round_more : (h w v next : List ℕ) (t f k x : ℕ) → v ≡ rounds h w t
    → f ≡ round_fn t (slice_index v 1) (slice_index v 2) (slice_index v 3) → k ≡ round_constant t → x ≡ slice_index w t
    → next ≡ round v f k x → next ≡ rounds h w (t + 1)
round_more h w v next t f k x ev ef ek ex e = rw (rounds_next h w t, ← ev, ← ef, ← ek, ← ex) e

pub rounds_none : (h w : List ℕ) → h ≡ rounds h w 0
unfolding rounds
rounds_none h w = refl

pub rounds_at : (h w v : List ℕ) (n k : ℕ) → n ≡ k → v ≡ rounds h w n → v ≡ rounds h w k
rounds_at h w v n k e held = rw e at held

-- all eighty rounds, added
pub compress_is : (h b v next : List ℕ) → v ≡ rounds h (schedule b 64) 80 → next ≡ add_state h v → next ≡ compress h b
unfolding compress
compress_is h b v next ev e = rw ev at e
