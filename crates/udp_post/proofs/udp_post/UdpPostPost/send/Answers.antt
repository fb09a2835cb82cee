use Rattle.std.proofs.Common.{◌≡◌, ℕ, List, [], ◌∷◌, ◌++◌, refl, ap, ◌∙◌}
use Rattle.udp_post.proofs.Noting.{one-more}
use Rattle.udp_post.specs.Noted.{datagrams_in}
use Rattle.udp_post.proofs.udp_post.UdpPostPost.send.Goals.{in-Some-Server, in-Some-Sender-Some, in-Some-Sender-None, in-None-default}
use Rattle.udp_post.proofs.udp_post.UdpPostPost.send.Goals as goal

pub returns-then-sent-clause-told : goal.returns-then-sent-clause-told
returns-then-sent-clause-told c =
    let kept : datagrams_in c.match-self.self.sent.datagrams ≡ datagrams_in c.args.self.now.sent.datagrams = elim c.match-self.branch [
      | in-Some-Server w ↦ rw w.self-is refl
      | in-Some-Sender-Some w ↦ rw w.self-is refl
      | in-Some-Sender-None w ↦ rw w.self-is refl
      | in-None-default w ↦ rw w.self-is refl
    ] in
    λ t. ap datagrams_in c.then-self.ensures
    ∙ (one-more c.match-self.self.sent.datagrams c.args.bytes.now ∙ ap (λ (more : List (List ℕ)). more ++ c.args.bytes.now ∷ []) kept)
