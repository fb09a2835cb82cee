use Rattle.std.proofs.Common.{◌≡◌, true, ℕ, ◌+◌, ◌*◌, List, [], ◌∷◌, ◌++◌, length, take, drop, min, sym, ◌∙◌, subst, ap, arith, length-append, append_assoc}
use Rattle.std.proofs.lemmas.List.{length-take}
use Rattle.replay_journal.specs.Disks.{Written, Torn, Follows, Only}
use Rattle.replay_journal.specs.Files.{Rests}
use Rattle.replay_journal.specs.Journals.{records_of}
use Rattle.replay_journal.proofs.Crash.{Staged, rests_long, written_body, written_gate}
use Rattle.replay_journal.proofs.Appending as appending
use Rattle.replay_journal.proofs.journal.append.Goals as goal

pub write_at-requires : goal.write_at-requires
write_at-requires g c t =
    let s = c.requires.stands t in
    omega (arith, rests_long (records_of g.K.Disk c.args.disk.now) c.args.count s.1 (g.K.Disk.contents c.args.disk.now) s.0)

pub returns-in_err-write_at-clause-images : goal.returns-in_err-write_at-clause-images
returns-in_err-write_at-clause-images g c t new behind =
    let s = c.requires.stands t in
    let records = records_of g.K.Disk c.args.disk.now in
    let body = behind.inner in
    let at : 8 + 45 * c.args.count + 1 ≡ 9 + 45 * c.args.count = omega arith in
    let d0 = c.args.disk.now in
    let file0 = g.K.Disk.contents d0 in
    let follows1 : Follows (Torn (9 + 45 * c.args.count) (length c.args.octets.now)) (g.K.Disk.may_leave d0) (g.K.Disk.may_leave c.write_at.new.self) = subst (λ (k : ℕ). Follows (Torn k (length c.args.octets.now)) (g.K.Disk.may_leave d0) (g.K.Disk.may_leave c.write_at.new.self)) at c.write_at.ensures.crash in
    let one = appending.body_written g.K.Disk.moment g.K.Disk.left_since records c.args.count s.1 new body behind.first behind.sized d0 c.write_at.new.self (length c.args.octets.now) file0 (g.K.Disk.may_leave d0) (g.K.Disk.may_leave c.write_at.new.self) s.0 s.2 (g.met.K.Disk.only_now d0) follows1 c.write_at.ensures.time in
    one

pub returns-in_err-sync-clause-images : goal.returns-in_err-sync-clause-images
returns-in_err-sync-clause-images g c t new behind =
    let s = c.requires.stands t in
    let records = records_of g.K.Disk c.args.disk.now in
    let body = behind.inner in
    let at : 8 + 45 * c.args.count + 1 ≡ 9 + 45 * c.args.count = omega arith in
    let d0 = c.args.disk.now in
    let file0 = g.K.Disk.contents d0 in
    let follows1 : Follows (Torn (9 + 45 * c.args.count) (length c.args.octets.now)) (g.K.Disk.may_leave d0) (g.K.Disk.may_leave c.write_at.new.self) = subst (λ (k : ℕ). Follows (Torn k (length c.args.octets.now)) (g.K.Disk.may_leave d0) (g.K.Disk.may_leave c.write_at.new.self)) at c.write_at.ensures.crash in
    let one = appending.body_written g.K.Disk.moment g.K.Disk.left_since records c.args.count s.1 new body behind.first behind.sized d0 c.write_at.new.self (length c.args.octets.now) file0 (g.K.Disk.may_leave d0) (g.K.Disk.may_leave c.write_at.new.self) s.0 s.2 (g.met.K.Disk.only_now d0) follows1 c.write_at.ensures.time in
    appending.body_unsynced g.K.Disk.moment g.K.Disk.left_since records c.args.count s.1 new body behind.first behind.sized d0 c.write_at.new.self c.sync.new.self (length c.args.octets.now) file0 (g.K.Disk.may_leave d0) (g.K.Disk.may_leave c.write_at.new.self) (g.K.Disk.may_leave c.sync.new.self) s.0 s.2 one follows1 c.in_err-sync.ensures.crash c.sync.ensures.time

pub write_at-requires-2 : goal.write_at-requires-2
write_at-requires-2 g c t' =
    let t : g.K.Disk.tells c.args.disk.now ≡ true = sym c.write_at.ensures.tells ∙ (sym c.sync.ensures.tells ∙ t') in
    let s = c.requires.stands t in
    let at : ℕ = 8 + 45 * c.args.count + 1 in
    let file : List ℕ = g.K.Disk.contents c.args.disk.now in
    let behind : List ℕ = drop (at + length c.args.octets.now) file in
    let written : Written file at c.args.octets.now (g.K.Disk.contents c.write_at.new.self) = c.in_ok-write_at.ensures.told t in
    let front : length (take at file) ≡ min at (length file) = length-take at file in
    omega (arith, rests_long (records_of g.K.Disk c.args.disk.now) c.args.count s.1 file s.0, front, ap length c.sync.ensures.same, ap length written, length-append (take at file) (c.args.octets.now ++ behind), length-append c.args.octets.now behind, ap length (append_assoc (take at file) c.args.octets.now behind))

pub returns-in_err-write_at-2-clause-images : goal.returns-in_err-write_at-2-clause-images
returns-in_err-write_at-2-clause-images g c t new behind =
    let s = c.requires.stands t in
    let records = records_of g.K.Disk c.args.disk.now in
    let body = behind.inner in
    let at : 8 + 45 * c.args.count + 1 ≡ 9 + 45 * c.args.count = omega arith in
    let d0 = c.args.disk.now in
    let file0 = g.K.Disk.contents d0 in
    let follows1 : Follows (Torn (9 + 45 * c.args.count) (length c.args.octets.now)) (g.K.Disk.may_leave d0) (g.K.Disk.may_leave c.write_at.new.self) = subst (λ (k : ℕ). Follows (Torn k (length c.args.octets.now)) (g.K.Disk.may_leave d0) (g.K.Disk.may_leave c.write_at.new.self)) at c.write_at.ensures.crash in
    let one = appending.body_written g.K.Disk.moment g.K.Disk.left_since records c.args.count s.1 new body behind.first behind.sized d0 c.write_at.new.self (length c.args.octets.now) file0 (g.K.Disk.may_leave d0) (g.K.Disk.may_leave c.write_at.new.self) s.0 s.2 (g.met.K.Disk.only_now d0) follows1 c.write_at.ensures.time in
    let written : Written file0 (9 + 45 * c.args.count) (body ++ 0 ∷ []) (g.K.Disk.contents c.write_at.new.self) = subst (λ (k : ℕ). Written file0 k (body ++ 0 ∷ []) (g.K.Disk.contents c.write_at.new.self)) at (subst (λ (b : List ℕ). Written file0 (8 + 45 * c.args.count + 1) b (g.K.Disk.contents c.write_at.new.self)) behind.last (c.in_ok-write_at.ensures.told t)) in
    let staged1 : Staged records body (g.K.Disk.contents c.write_at.new.self) = written_body records c.args.count s.1 body file0 (g.K.Disk.contents c.write_at.new.self) s.0 written in
    let staged : Staged records body (g.K.Disk.contents c.sync.new.self) = subst (Staged records body) (sym c.sync.ensures.same) staged1 in
    let t1 = c.write_at.ensures.tells ∙ t in
    let only1 : Only (g.K.Disk.contents c.sync.new.self) (g.K.Disk.may_leave c.sync.new.self) = subst (λ (f : List ℕ). Only f (g.K.Disk.may_leave c.sync.new.self)) (sym c.sync.ensures.same) (c.in_ok-sync.ensures.durable t1) in
    let two = appending.body_synced g.K.Disk.moment g.K.Disk.left_since records c.args.count s.1 new body behind.first behind.sized d0 c.write_at.new.self c.sync.new.self (g.K.Disk.contents c.sync.new.self) (g.K.Disk.may_leave c.sync.new.self) staged one only1 c.sync.ensures.time in
    appending.gate_written g.K.Disk.moment g.K.Disk.left_since records c.args.count s.1 new body behind.first behind.sized d0 c.sync.new.self c.write_at-2.new.self (g.K.Disk.contents c.sync.new.self) (g.K.Disk.may_leave c.sync.new.self) (g.K.Disk.may_leave c.write_at-2.new.self) staged only1 two c.write_at-2.ensures.crash c.write_at-2.ensures.time

pub returns-in_err-sync-2-clause-images : goal.returns-in_err-sync-2-clause-images
returns-in_err-sync-2-clause-images g c t new behind =
    let s = c.requires.stands t in
    let records = records_of g.K.Disk c.args.disk.now in
    let body = behind.inner in
    let at : 8 + 45 * c.args.count + 1 ≡ 9 + 45 * c.args.count = omega arith in
    let d0 = c.args.disk.now in
    let file0 = g.K.Disk.contents d0 in
    let follows1 : Follows (Torn (9 + 45 * c.args.count) (length c.args.octets.now)) (g.K.Disk.may_leave d0) (g.K.Disk.may_leave c.write_at.new.self) = subst (λ (k : ℕ). Follows (Torn k (length c.args.octets.now)) (g.K.Disk.may_leave d0) (g.K.Disk.may_leave c.write_at.new.self)) at c.write_at.ensures.crash in
    let one = appending.body_written g.K.Disk.moment g.K.Disk.left_since records c.args.count s.1 new body behind.first behind.sized d0 c.write_at.new.self (length c.args.octets.now) file0 (g.K.Disk.may_leave d0) (g.K.Disk.may_leave c.write_at.new.self) s.0 s.2 (g.met.K.Disk.only_now d0) follows1 c.write_at.ensures.time in
    let written : Written file0 (9 + 45 * c.args.count) (body ++ 0 ∷ []) (g.K.Disk.contents c.write_at.new.self) = subst (λ (k : ℕ). Written file0 k (body ++ 0 ∷ []) (g.K.Disk.contents c.write_at.new.self)) at (subst (λ (b : List ℕ). Written file0 (8 + 45 * c.args.count + 1) b (g.K.Disk.contents c.write_at.new.self)) behind.last (c.in_ok-write_at.ensures.told t)) in
    let staged1 : Staged records body (g.K.Disk.contents c.write_at.new.self) = written_body records c.args.count s.1 body file0 (g.K.Disk.contents c.write_at.new.self) s.0 written in
    let staged : Staged records body (g.K.Disk.contents c.sync.new.self) = subst (Staged records body) (sym c.sync.ensures.same) staged1 in
    let t1 = c.write_at.ensures.tells ∙ t in
    let only1 : Only (g.K.Disk.contents c.sync.new.self) (g.K.Disk.may_leave c.sync.new.self) = subst (λ (f : List ℕ). Only f (g.K.Disk.may_leave c.sync.new.self)) (sym c.sync.ensures.same) (c.in_ok-sync.ensures.durable t1) in
    let two = appending.body_synced g.K.Disk.moment g.K.Disk.left_since records c.args.count s.1 new body behind.first behind.sized d0 c.write_at.new.self c.sync.new.self (g.K.Disk.contents c.sync.new.self) (g.K.Disk.may_leave c.sync.new.self) staged one only1 c.sync.ensures.time in
    let three = appending.gate_written g.K.Disk.moment g.K.Disk.left_since records c.args.count s.1 new body behind.first behind.sized d0 c.sync.new.self c.write_at-2.new.self (g.K.Disk.contents c.sync.new.self) (g.K.Disk.may_leave c.sync.new.self) (g.K.Disk.may_leave c.write_at-2.new.self) staged only1 two c.write_at-2.ensures.crash c.write_at-2.ensures.time in
    appending.gate_unsynced g.K.Disk.moment g.K.Disk.left_since records c.args.count s.1 new body behind.first behind.sized d0 c.write_at-2.new.self c.sync-2.new.self (g.K.Disk.contents c.sync.new.self) (g.K.Disk.may_leave c.sync.new.self) (g.K.Disk.may_leave c.write_at-2.new.self) (g.K.Disk.may_leave c.sync-2.new.self) staged only1 three c.write_at-2.ensures.crash c.in_err-sync-2.ensures.crash c.sync-2.ensures.time

pub returns-clause-images : goal.returns-clause-images
returns-clause-images g c t new behind =
    let s = c.requires.stands t in
    let records = records_of g.K.Disk c.args.disk.now in
    let body = behind.inner in
    let at : 8 + 45 * c.args.count + 1 ≡ 9 + 45 * c.args.count = omega arith in
    let d0 = c.args.disk.now in
    let file0 = g.K.Disk.contents d0 in
    let follows1 : Follows (Torn (9 + 45 * c.args.count) (length c.args.octets.now)) (g.K.Disk.may_leave d0) (g.K.Disk.may_leave c.write_at.new.self) = subst (λ (k : ℕ). Follows (Torn k (length c.args.octets.now)) (g.K.Disk.may_leave d0) (g.K.Disk.may_leave c.write_at.new.self)) at c.write_at.ensures.crash in
    let one = appending.body_written g.K.Disk.moment g.K.Disk.left_since records c.args.count s.1 new body behind.first behind.sized d0 c.write_at.new.self (length c.args.octets.now) file0 (g.K.Disk.may_leave d0) (g.K.Disk.may_leave c.write_at.new.self) s.0 s.2 (g.met.K.Disk.only_now d0) follows1 c.write_at.ensures.time in
    let written : Written file0 (9 + 45 * c.args.count) (body ++ 0 ∷ []) (g.K.Disk.contents c.write_at.new.self) = subst (λ (k : ℕ). Written file0 k (body ++ 0 ∷ []) (g.K.Disk.contents c.write_at.new.self)) at (subst (λ (b : List ℕ). Written file0 (8 + 45 * c.args.count + 1) b (g.K.Disk.contents c.write_at.new.self)) behind.last (c.in_ok-write_at.ensures.told t)) in
    let staged1 : Staged records body (g.K.Disk.contents c.write_at.new.self) = written_body records c.args.count s.1 body file0 (g.K.Disk.contents c.write_at.new.self) s.0 written in
    let staged : Staged records body (g.K.Disk.contents c.sync.new.self) = subst (Staged records body) (sym c.sync.ensures.same) staged1 in
    let t1 = c.write_at.ensures.tells ∙ t in
    let only1 : Only (g.K.Disk.contents c.sync.new.self) (g.K.Disk.may_leave c.sync.new.self) = subst (λ (f : List ℕ). Only f (g.K.Disk.may_leave c.sync.new.self)) (sym c.sync.ensures.same) (c.in_ok-sync.ensures.durable t1) in
    let two = appending.body_synced g.K.Disk.moment g.K.Disk.left_since records c.args.count s.1 new body behind.first behind.sized d0 c.write_at.new.self c.sync.new.self (g.K.Disk.contents c.sync.new.self) (g.K.Disk.may_leave c.sync.new.self) staged one only1 c.sync.ensures.time in
    let three = appending.gate_written g.K.Disk.moment g.K.Disk.left_since records c.args.count s.1 new body behind.first behind.sized d0 c.sync.new.self c.write_at-2.new.self (g.K.Disk.contents c.sync.new.self) (g.K.Disk.may_leave c.sync.new.self) (g.K.Disk.may_leave c.write_at-2.new.self) staged only1 two c.write_at-2.ensures.crash c.write_at-2.ensures.time in
    let t2 = c.sync.ensures.tells ∙ t1 in
    let t3 = c.write_at-2.ensures.tells ∙ t2 in
    let rests1 : Rests (records ++ new) (g.K.Disk.contents c.write_at-2.new.self) = written_gate records c.args.count s.1 new body (g.K.Disk.contents c.sync.new.self) (g.K.Disk.contents c.write_at-2.new.self) behind.first behind.sized staged (c.in_ok-write_at-2.ensures.told t2) in
    let rests : Rests (records ++ new) (g.K.Disk.contents c.sync-2.new.self) = subst (Rests (records ++ new)) (sym c.sync-2.ensures.same) rests1 in
    let only2 : Only (g.K.Disk.contents c.sync-2.new.self) (g.K.Disk.may_leave c.sync-2.new.self) = subst (λ (f : List ℕ). Only f (g.K.Disk.may_leave c.sync-2.new.self)) (sym c.sync-2.ensures.same) (c.in_ok-sync-2.ensures.durable t3) in
    appending.gate_synced g.K.Disk.moment g.K.Disk.left_since records c.args.count s.1 new body behind.first behind.sized d0 c.write_at-2.new.self c.sync-2.new.self (g.K.Disk.contents c.sync-2.new.self) (g.K.Disk.may_leave c.sync-2.new.self) rests three only2 c.sync-2.ensures.time

pub returns-clause-done : goal.returns-clause-done
returns-clause-done g c t new behind =
    let s = c.requires.stands t in
    let records = records_of g.K.Disk c.args.disk.now in
    let body = behind.inner in
    let at : 8 + 45 * c.args.count + 1 ≡ 9 + 45 * c.args.count = omega arith in
    let d0 = c.args.disk.now in
    let file0 = g.K.Disk.contents d0 in
    let follows1 : Follows (Torn (9 + 45 * c.args.count) (length c.args.octets.now)) (g.K.Disk.may_leave d0) (g.K.Disk.may_leave c.write_at.new.self) = subst (λ (k : ℕ). Follows (Torn k (length c.args.octets.now)) (g.K.Disk.may_leave d0) (g.K.Disk.may_leave c.write_at.new.self)) at c.write_at.ensures.crash in
    let written : Written file0 (9 + 45 * c.args.count) (body ++ 0 ∷ []) (g.K.Disk.contents c.write_at.new.self) = subst (λ (k : ℕ). Written file0 k (body ++ 0 ∷ []) (g.K.Disk.contents c.write_at.new.self)) at (subst (λ (b : List ℕ). Written file0 (8 + 45 * c.args.count + 1) b (g.K.Disk.contents c.write_at.new.self)) behind.last (c.in_ok-write_at.ensures.told t)) in
    let staged1 : Staged records body (g.K.Disk.contents c.write_at.new.self) = written_body records c.args.count s.1 body file0 (g.K.Disk.contents c.write_at.new.self) s.0 written in
    let staged : Staged records body (g.K.Disk.contents c.sync.new.self) = subst (Staged records body) (sym c.sync.ensures.same) staged1 in
    let t1 = c.write_at.ensures.tells ∙ t in
    let only1 : Only (g.K.Disk.contents c.sync.new.self) (g.K.Disk.may_leave c.sync.new.self) = subst (λ (f : List ℕ). Only f (g.K.Disk.may_leave c.sync.new.self)) (sym c.sync.ensures.same) (c.in_ok-sync.ensures.durable t1) in
    let t2 = c.sync.ensures.tells ∙ t1 in
    let t3 = c.write_at-2.ensures.tells ∙ t2 in
    let rests1 : Rests (records ++ new) (g.K.Disk.contents c.write_at-2.new.self) = written_gate records c.args.count s.1 new body (g.K.Disk.contents c.sync.new.self) (g.K.Disk.contents c.write_at-2.new.self) behind.first behind.sized staged (c.in_ok-write_at-2.ensures.told t2) in
    let rests : Rests (records ++ new) (g.K.Disk.contents c.sync-2.new.self) = subst (Rests (records ++ new)) (sym c.sync-2.ensures.same) rests1 in
    let only2 : Only (g.K.Disk.contents c.sync-2.new.self) (g.K.Disk.may_leave c.sync-2.new.self) = subst (λ (f : List ℕ). Only f (g.K.Disk.may_leave c.sync-2.new.self)) (sym c.sync-2.ensures.same) (c.in_ok-sync-2.ensures.durable t3) in
    (rests, only2)
