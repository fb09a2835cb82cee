use Rattle.std.proofs.Common.{arith}
use Rattle.rpcsec_bodies.specs.Protection.{protected}
use Rattle.rpcsec_bodies.specs.declared.service.Service.TheVariants as services
use Rattle.rpcsec_bodies.proofs.Made.{none-made, integrity-made, privacy-made, any-ok, ok-then}
use Rattle.rpcsec_bodies.proofs.Lengths.{sized, protected-within}
use Rattle.rpcsec_bodies.proofs.protection.protect_onto.Goals as goal

pub returns-in-None-clause-taken : goal.returns-in-None-clause-taken
returns-in-None-clause-taken c =
    any-ok c.put_bare.result _ (rw c.in-None.is (none-made c.args.end.now c.args.seq c.args.confounder.now c.args.content.now))

pub returns-in-Integrity-clause-size : goal.returns-in-Integrity-clause-size
unfolding protected
returns-in-Integrity-clause-size c =
    sized c.put_signed.result c.args.out _ 131020 c.put_signed.ensures
    (protected-within c.args.end.now services.Integrity c.args.seq c.args.confounder.now c.args.content.now c.requires c.told-confounder)

pub returns-in-Integrity-clause-taken : goal.returns-in-Integrity-clause-taken
returns-in-Integrity-clause-taken c =
    any-ok c.put_signed.result _ (rw c.in-Integrity.is (integrity-made c.args.end.now c.args.seq c.args.confounder.now c.args.content.now (omega (arith, c.ranges.seq.fits)) c.requires))

pub returns-in-Privacy-clause-size : goal.returns-in-Privacy-clause-size
unfolding protected
returns-in-Privacy-clause-size c =
    sized c.put_sealed.result c.args.out _ 131020 c.put_sealed.ensures.value
    (protected-within c.args.end.now services.Privacy c.args.seq c.args.confounder.now c.args.content.now c.requires c.told-confounder)

pub returns-in-Privacy-clause-taken : goal.returns-in-Privacy-clause-taken
returns-in-Privacy-clause-taken c =
    ok-then c.put_sealed.result _ _ (λ opens. rw c.in-Privacy.is
    (privacy-made c.args.end.now c.args.seq c.args.confounder.now c.args.content.now (omega (arith, c.ranges.seq.fits)) c.requires c.told-confounder opens)) c.put_sealed.ensures.opens
