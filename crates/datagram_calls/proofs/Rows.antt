-- Calls in a row.
use Rattle.std.proofs.Common.{◌≡◌, ℕ, List, [], ◌∷◌, ◌++◌, refl, subst}
use Rattle.sec_base.specs.declared.draw.Draw as draws
use Rattle.datagram_post.specs.declared.post.Post as posts
use Rattle.gss_client.specs.Session.{SessionState}
use Rattle.datagram_calls.specs.Calls.{AsksOf, IsAnswered, AreCalls}

-- one more call is answered
pub one-more : {P D : Type 0} (post : posts.Ghosts P) (draw : draws.Ghosts D) (asks : AsksOf) (s : SessionState) (results : List (List ℕ)) (last next : SessionState) (result : List ℕ) (old middle new : P) (draw_old draw_middle draw_new : D)
    → AreCalls post draw asks s results last old middle draw_old draw_middle → IsAnswered post draw asks last middle new draw_middle draw_new (next, result)
    → AreCalls post draw asks s (results ++ result ∷ []) next old new draw_old draw_new
one-more {P} {D} post draw asks s [] last next result old middle new draw_old draw_middle draw_new same answered = (
  next,
  new,
  draw_new,
  subst (λ (x : SessionState). IsAnswered post draw asks x old new draw_old draw_new (next, result)) same.0
      (subst (λ (x : P). IsAnswered post draw asks last x new draw_old draw_new (next, result)) same.1
      (subst (λ (x : D). IsAnswered post draw asks last middle new x draw_new (next, result)) same.2 answered)),
  (refl, refl, refl),
)
one-more post draw asks s (one ∷ results) last next result old middle new draw_old draw_middle draw_new calls answered = (
  calls.0,
  calls.1,
  calls.2,
  calls.3,
  one-more post draw asks calls.0 results last next result calls.1 middle new calls.2 draw_middle draw_new calls.4 answered,
)

-- none was made yet
pub none-yet : {P D : Type 0} (post : posts.Ghosts P) (draw : draws.Ghosts D) (asks : AsksOf) (s : SessionState) (results : List (List ℕ)) (old : P) (draw_old : D) → results ≡ [] → AreCalls post draw asks s results s old old draw_old draw_old
none-yet {P} {D} post draw asks s results old draw_old empty = rw empty (refl, refl, refl)
