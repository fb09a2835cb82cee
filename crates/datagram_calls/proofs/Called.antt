-- What an answer of a call is, by what its code asked of the octets.
use Rattle.std.proofs.Common.{◌≡◌, ℕ, Bool, true, false, List, Ok, refl, sym, ◌∙◌, subst}
use Rattle.sec_base.specs.declared.draw.Draw as draws
use Rattle.datagram_post.specs.declared.post.Post as posts
use Rattle.gss_client.specs.Session.{SessionState}
use Rattle.client_options.specs.Command.{called_by}
use Rattle.client_options.specs.declared.ending.RunEnd.TheVariants as ends
use Rattle.datagram_client.specs.Calls.{Called}
use Rattle.datagram_options.specs.declared.ending.CallEnd.TheVariants.{As}
use Rattle.datagram_calls.specs.Calls.{AsksOf, IsAnswered, IsForeign}

-- a result
pub fits : {P D : Type 0} (post : posts.Ghosts P) (draw : draws.Ghosts D) (inside asks : AsksOf) (s : SessionState) (number : ℕ) (verdict : Bool) (next : SessionState) (result : List ℕ) (old new : P) (draw_old draw_new : D)
    → inside ≡ asks → number ≡ (called_by inside.command).number → verdict ≡ (called_by inside.command).is_result result → verdict ≡ true
    → Called post draw s number inside.args inside.tries old new draw_old draw_new (Ok (next, result))
    → IsAnswered post draw asks s old new draw_old draw_new (next, result)
fits {P} {D} post draw inside asks s number verdict next result old new draw_old draw_new same numbered judged is called =
    subst (λ (a : AsksOf). IsAnswered post draw a s old new draw_old draw_new (next, result)) same (record {
      called = subst (λ (n : ℕ). Called post draw s n inside.args inside.tries old new draw_old draw_new (Ok (next, result))) numbered called;
      fits = sym judged ∙ is;
    })

-- none
pub foreign : {P D : Type 0} (post : posts.Ghosts P) (draw : draws.Ghosts D) (inside asks : AsksOf) (s : SessionState) (number : ℕ) (verdict : Bool) (next : SessionState) (result : List ℕ) (old new : P) (draw_old draw_new : D)
    → inside ≡ asks → number ≡ (called_by inside.command).number → verdict ≡ (called_by inside.command).is_result result → verdict ≡ false
    → Called post draw s number inside.args inside.tries old new draw_old draw_new (Ok (next, result))
    → IsForeign post draw asks s old new draw_old draw_new (As ends.Foreign)
foreign {P} {D} post draw inside asks s number verdict next result old new draw_old draw_new same numbered judged is called =
    subst (λ (a : AsksOf). IsForeign post draw a s old new draw_old draw_new (As ends.Foreign)) same (record {
      answer = (next, result);
      called = subst (λ (n : ℕ). Called post draw s n inside.args inside.tries old new draw_old draw_new (Ok (next, result))) numbered called;
      other = sym judged ∙ is;
      ends = refl;
    })
