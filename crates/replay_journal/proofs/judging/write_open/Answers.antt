use Rattle.std.proofs.Common.{◌≡◌, List, [], ◌∷◌, ◌++◌, ℕ, length, take, sym, ◌∙◌, ap, arith, rules, length-append, append_assoc}
use Rattle.std.proofs.lemmas.List.{take_at, length-take-le}
use Rattle.replay_journal.specs.Files.{body_of}
use Rattle.replay_journal.proofs.judging.write_open.Goals as goal

pub unreachable-requires : goal.unreachable-requires
unreachable-requires c =
    let size : length c.without_gate.result.now ≡ 44 = ap length c.without_gate.ensures ∙ length-take-le 44 c.write_body-body.result (omega (arith, c.write_body-body.ensures.size)) in
    omega (arith, c.in-Err.ensures.full, c.push_reserved.ensures.len, c.push_reserved.ensures.capacity, c.requires.room, size)

pub returns-clause-octets : goal.returns-clause-octets
returns-clause-octets c =
    let body : List ℕ = body_of c.args.mark.now c.args.greatest in
    let long : length body ≡ 44 = omega (arith, ap length (sym c.write_body-body.ensures.value) ∙ c.write_body-body.ensures.size, length-append body (0 ∷ [])) in
    let written : c.extend_from_slice.new.self.items ≡ c.push_reserved.new.self.items ++ c.without_gate.result.now = search rules in
    written
    ∙ ap (λ (l : List ℕ). c.push_reserved.new.self.items ++ l) (c.without_gate.ensures ∙ ap (take 44) c.write_body-body.ensures.value ∙ take_at body (0 ∷ []) 44 long)
    ∙ ap (λ (l : List ℕ). l ++ body) c.push_reserved.ensures.items
    ∙ append_assoc c.args.octets.now.items (0x4a ∷ []) body

pub returns-clause-written : goal.returns-clause-written
returns-clause-written c =
    let body : List ℕ = body_of c.args.mark.now c.args.greatest in
    record {
      sized = omega (arith, ap length (sym c.write_body-body.ensures.value) ∙ c.write_body-body.ensures.size, length-append body (0 ∷ []));
      back = c.write_body-body.ensures.back;
      told = c.write_body-body.ensures.greatest;
    }

pub returns-clause-size : goal.returns-clause-size
returns-clause-size c =
    let size : length c.without_gate.result.now ≡ 44 = ap length c.without_gate.ensures ∙ length-take-le 44 c.write_body-body.result (omega (arith, c.write_body-body.ensures.size)) in
    omega (arith, c.in-Ok.ensures.len, c.push_reserved.ensures.len, size)
