-- A session of a plan, and what is returned of it.
use Rattle.std.proofs.Common.{◌≡◌, ℕ, List, Option, subst}
use Rattle.sec_base.specs.declared.draw.Draw as draws
use Rattle.spnego_core.specs.declared.outcome.Outcome.{Outcome}
use Rattle.datagram_post.specs.declared.post.Post as posts
use Rattle.gss_client.specs.Laws.{PlainCreation}
use Rattle.gss_client.specs.Session.{SessionState}
use Rattle.gss_client.specs.Start.{StartSays, StartMeans, objects_start}
use Rattle.gss_client.specs.Talk.{created_over, created_from}
use Rattle.gss_client.specs.Talking.{Talking}
use Rattle.datagram_options.specs.declared.ending.CallEnd.{CallEnd}
use Rattle.datagram_calls.specs.Calls.{AsksOf}
use Rattle.datagram_calls.specs.Sessions.{Holds, HoldsBy}

-- the creation by objects is the one by credentials
same-creation : PlainCreation → (own : StartSays) → created_over (objects_start own) ≡ created_from own
same-creation law own i stream = law.whole own stream i

-- so is a session
pub plain-session : {P D : Type 0} (post : posts.Ghosts P) (draw : draws.Ghosts D) → PlainCreation → (start : StartMeans) (own : StartSays) → start ≡ objects_start own → (asks : AsksOf) {old new : P} {draw_old draw_new : D} {outcome : Option Outcome} {results : List (List ℕ)} {end : CallEnd}
    → Holds post draw start asks old new draw_old draw_new outcome results end
    → HoldsBy post draw (created_from own) asks old new draw_old draw_new outcome results end
plain-session post draw law start own is asks {old} {new} {draw_old} {draw_new} {outcome} {results} {end} holds =
    subst (λ (part : Talking SessionState). HoldsBy post draw part asks old new draw_old draw_new outcome results end) (same-creation law own)
    (subst (λ (x : StartMeans). Holds post draw x asks old new draw_old draw_new outcome results end) is holds)
