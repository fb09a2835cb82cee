use Rattle.std.proofs.Common.{◌∙◌, ℕ, List, [], ◌∷◌, ◌++◌, Option, None, refl, sym, ap, arith, take, subst}
use Rattle.std.proofs.lemmas.List.{append-nil}
use Rattle.datagram_post.specs.Posts.{datagram}
use Rattle.gss_server.proofs.KeptInARow.{makes-none, makes-so, makes-after}
use Rattle.gss_server.specs.Hearing.{serving}
use Rattle.rpc_datagram.specs.declared.serving.ServeEnd.TheVariants as ends
use Rattle.rpc_datagram.specs.Served.{OneAnswered}
use Rattle.rpc_datagram.proofs.Rows.{nothing, one-served}
use Rattle.rpc_datagram.proofs.serving.serve_one.Goals as goal

pub returns-then-is_err-clause-served : goal.returns-then-is_err-clause-served
returns-then-is_err-clause-served g c =
    makes-none c.make_room.ensures.same
    (nothing g.P.Post g.G.Gate (serving g.G.Gate.program c.args.width) 1 ends.NoMemory [] _ _ _ (omega arith) refl (λ t. sym (append-nil _)) (λ t. refl))

pub returns-in-Ok-None-clause-served : goal.returns-in-Ok-None-clause-served
returns-in-Ok-None-clause-served g c =
    makes-none c.make_room.ensures.same
    (nothing g.P.Post g.G.Gate (serving g.G.Gate.program c.args.width) 1 ends.Done (None ∷ []) _ _ _ refl refl
    (λ t. c.in-Ok-None.ensures.told t ∙ ap (λ (o : Option ℕ). g.P.Post.heard c.args.post.now ++ datagram o c.recv.new.buf ∷ []) c.in-Ok-None.field-0-is) c.recv.ensures.sent)

pub returns-in-Err-clause-served : goal.returns-in-Err-clause-served
returns-in-Err-clause-served g c =
    makes-none c.make_room.ensures.same
    (nothing g.P.Post g.G.Gate (serving g.G.Gate.program c.args.width) 1 ends.PostFault [] _ _ _ (omega arith) refl (λ t. c.in-Err.ensures.told t ∙ sym (append-nil _)) c.recv.ensures.sent)

pub returns-clause-served : goal.returns-clause-served
returns-clause-served g c =
    makes-after c.make_room.ensures.same
    (makes-so c.answer_one.ensures.answered
    (λ xs o. one-served g.P.Post g.G.Gate (serving g.G.Gate.program c.args.width) c.answer_one.result c.args.post.now c.recv.new.self c.answer_one.new.post c.args.gate.now c.answer_one.new.gate (take c.in-Ok-Some.count c.recv.new.buf) xs c.recv.ensures.tells
    (λ t. c.in-Ok-Some.ensures.told t ∙ ap (λ (x : Option ℕ). g.P.Post.heard c.args.post.now ++ datagram x c.recv.new.buf ∷ []) c.in-Ok-Some.field-0-is) c.recv.ensures.sent
    (subst (λ (l : List ℕ). OneAnswered g.P.Post g.G.Gate (serving g.G.Gate.program c.args.width) c.recv.new.self c.answer_one.new.post c.args.gate.now c.answer_one.new.gate l c.answer_one.result xs) c.record_of-octets.ensures o)))
