use Rattle.std.proofs.Common.{◌≡◌, ◌+◌, ◌*◌, ℕ, List, [], ◌∷◌, sym, ◌∙◌, ap, subst, arith}
use Rattle.replay_journal.specs.Disks.{Written, Only}
use Rattle.replay_journal.specs.Files.{Rests, counted}
use Rattle.replay_journal.proofs.Blocks.{counted-rests}
use Rattle.replay_journal.proofs.Cuts.{ends, gate-there, gate-is, shut-rests, cut-rests, cut-crash}
use Rattle.replay_journal.proofs.Moments.{started, goes_on}
use Rattle.replay_journal.proofs.opening.shut_cut.Goals as goal
use Rattle.replay_journal.proofs.opening.shut_cut.Goals.{else-gate-file-via-then-gate-file+else-file-gate-eq-OPEN, else-gate-file-via-else-gate-file}

pub returns-then-file-gate-eq-OPEN-clause-rests : goal.returns-then-file-gate-eq-OPEN-clause-rests
returns-then-file-gate-eq-OPEN-clause-rests g c t =
    let file = c.args.file.now in
    let e = ends file c.requires.begins c.requires.long in
    let w : Written file (8 + 45 * c.args.count) (0 ∷ []) (g.K.Disk.contents c.write_at.new.self)
    = subst (λ (f : List ℕ). Written f (8 + 45 * c.args.count) (0 ∷ []) (g.K.Disk.contents c.write_at.new.self)) (sym (c.requires.file t)) (c.in_ok-write_at.ensures.told t) in
    subst (Rests (counted file)) (sym c.sync.ensures.same) (cut-rests file c.args.count c.requires.count e (g.K.Disk.contents c.write_at.new.self) w)

pub returns-clause-rests : goal.returns-clause-rests
returns-clause-rests g c t =
    let file = c.args.file.now in
    let e = ends file c.requires.begins c.requires.long in
    subst (Rests (counted file)) (c.requires.file t) (elim c.else-gate-file.branch [
      | else-gate-file-via-then-gate-file+else-file-gate-eq-OPEN w ↦ shut-rests file c.args.count c.requires.count e (λ is. w.if-file-gate-eq-OPEN.false (gate-is file c.args.count c.requires.count e 0 ∙ is))
      | else-gate-file-via-else-gate-file w ↦ absurd (omega (arith, gate-there file c.args.count c.requires.count e, w.if-gate-file.false))
    ])

pub returns-in_err-write_at-clause-images : goal.returns-in_err-write_at-clause-images
returns-in_err-write_at-clause-images g c t =
    let d0 = c.args.disk.now in
    let file = c.args.file.now in
    let e = ends file c.requires.begins c.requires.long in
    let P = (λ (c' : List ℕ). counted c' ≡ counted file) in
    let opened : e.gate ≡ 0x4a = sym (gate-is file c.args.count c.requires.count e 0) ∙ c.if-file-gate-eq-OPEN.true in
    let only : Only file (g.K.Disk.may_leave d0) = subst (λ (f : List ℕ). Only f (g.K.Disk.may_leave d0)) (sym (c.requires.file t)) (c.requires.durable t) in
    let zero_ = started g.K.Disk.moment g.K.Disk.left_since d0 P (λ c' left. ap counted (only c' (g.met.K.Disk.only_now d0 c' left))) in
    let crash = cut-crash file c.args.count c.requires.count e (g.K.Disk.may_leave d0) (g.K.Disk.may_leave c.write_at.new.self) opened only c.write_at.ensures.crash in
    goes_on g.K.Disk.moment g.K.Disk.left_since d0 d0 c.write_at.new.self P (g.K.Disk.may_leave c.write_at.new.self) zero_ c.write_at.ensures.time crash

pub returns-in_err-sync-clause-images : goal.returns-in_err-sync-clause-images
returns-in_err-sync-clause-images g c t =
    let d0 = c.args.disk.now in
    let file = c.args.file.now in
    let e = ends file c.requires.begins c.requires.long in
    let P = (λ (c' : List ℕ). counted c' ≡ counted file) in
    let opened : e.gate ≡ 0x4a = sym (gate-is file c.args.count c.requires.count e 0) ∙ c.if-file-gate-eq-OPEN.true in
    let only : Only file (g.K.Disk.may_leave d0) = subst (λ (f : List ℕ). Only f (g.K.Disk.may_leave d0)) (sym (c.requires.file t)) (c.requires.durable t) in
    let zero_ = started g.K.Disk.moment g.K.Disk.left_since d0 P (λ c' left. ap counted (only c' (g.met.K.Disk.only_now d0 c' left))) in
    let crash = cut-crash file c.args.count c.requires.count e (g.K.Disk.may_leave d0) (g.K.Disk.may_leave c.write_at.new.self) opened only c.write_at.ensures.crash in
    let one = goes_on g.K.Disk.moment g.K.Disk.left_since d0 d0 c.write_at.new.self P (g.K.Disk.may_leave c.write_at.new.self) zero_ c.write_at.ensures.time crash in
    goes_on g.K.Disk.moment g.K.Disk.left_since d0 c.write_at.new.self c.sync.new.self P (g.K.Disk.may_leave c.sync.new.self) one c.sync.ensures.time (λ c' left. crash c' (c.in_err-sync.ensures.crash c' left))

pub returns-then-file-gate-eq-OPEN-clause-images : goal.returns-then-file-gate-eq-OPEN-clause-images
returns-then-file-gate-eq-OPEN-clause-images g c t =
    let d0 = c.args.disk.now in
    let file = c.args.file.now in
    let e = ends file c.requires.begins c.requires.long in
    let P = (λ (c' : List ℕ). counted c' ≡ counted file) in
    let opened : e.gate ≡ 0x4a = sym (gate-is file c.args.count c.requires.count e 0) ∙ c.if-file-gate-eq-OPEN.true in
    let only : Only file (g.K.Disk.may_leave d0) = subst (λ (f : List ℕ). Only f (g.K.Disk.may_leave d0)) (sym (c.requires.file t)) (c.requires.durable t) in
    let zero_ = started g.K.Disk.moment g.K.Disk.left_since d0 P (λ c' left. ap counted (only c' (g.met.K.Disk.only_now d0 c' left))) in
    let crash = cut-crash file c.args.count c.requires.count e (g.K.Disk.may_leave d0) (g.K.Disk.may_leave c.write_at.new.self) opened only c.write_at.ensures.crash in
    let one = goes_on g.K.Disk.moment g.K.Disk.left_since d0 d0 c.write_at.new.self P (g.K.Disk.may_leave c.write_at.new.self) zero_ c.write_at.ensures.time crash in
    let w : Written file (8 + 45 * c.args.count) (0 ∷ []) (g.K.Disk.contents c.write_at.new.self)
    = subst (λ (f : List ℕ). Written f (8 + 45 * c.args.count) (0 ∷ []) (g.K.Disk.contents c.write_at.new.self)) (sym (c.requires.file t)) (c.in_ok-write_at.ensures.told t) in
    let there = counted-rests (counted file) (g.K.Disk.contents c.write_at.new.self) (cut-rests file c.args.count c.requires.count e (g.K.Disk.contents c.write_at.new.self) w) in
    let durable = c.in_ok-sync.ensures.durable (c.write_at.ensures.tells ∙ t) in
    goes_on g.K.Disk.moment g.K.Disk.left_since d0 c.write_at.new.self c.sync.new.self P (g.K.Disk.may_leave c.sync.new.self) one c.sync.ensures.time (λ c' left. ap counted (durable c' left) ∙ there)

pub returns-clause-images : goal.returns-clause-images
returns-clause-images g c t =
    let d0 = c.args.disk.now in
    let file = c.args.file.now in
    let only : Only file (g.K.Disk.may_leave d0) = subst (λ (f : List ℕ). Only f (g.K.Disk.may_leave d0)) (sym (c.requires.file t)) (c.requires.durable t) in
    started g.K.Disk.moment g.K.Disk.left_since d0 (λ (c' : List ℕ). counted c' ≡ counted file) (λ c' left. ap counted (only c' (g.met.K.Disk.only_now d0 c' left)))
