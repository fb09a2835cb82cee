use Rattle.std.proofs.Common.{◌≡◌, ◌++◌, length, take, drop, arith}
use Rattle.server_desks.proofs.InStep.{take-back, done-through}
use Rattle.server_desks.proofs.jobs.run_desks.Goals as goal

pub returns-clause-served : goal.returns-clause-served
returns-clause-served g c =
    let count : c.args.jobs.now.len ≡ length c.work_all.new.works = omega (arith, c.work_all.ensures.count, c.as_mut_slice.ensures.len, c.args.jobs.now.ok) in
    let back : take c.args.jobs.now.len (c.work_all.new.works ++ drop (length c.work_all.new.works) c.args.jobs.now.items) ≡ c.work_all.new.works = take-back _ _ _ count in
    done-through _ _ _ _ _ c.as_mut_slice.ensures.value back c.work_all.ensures.done
