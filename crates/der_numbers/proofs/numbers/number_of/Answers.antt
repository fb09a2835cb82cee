use Rattle.std.proofs.Common.{ℕ, ◌<◌, ◌^◌, sym, subst, arith}
use Rattle.der_numbers.proofs.OctetByOctet.{grows, fits, behind-zero, behind-more, behind-end, small_number}
use Rattle.der_numbers.proofs.numbers.number_of.Goals as goal

pub loop-octet-init : goal.loop-octet-init
loop-octet-init c = record { read = behind-zero c.args.octets.now; within = omega arith }

pub loop-octet-preserved : goal.loop-octet-preserved
loop-octet-preserved c =
    let l = c.loop-octet in
    record { read = behind-more l.number c.args.octets.now l.octet-index _ c.loop-octet-test.true l.invariant.read; within = grows l.octet-index l.number _ l.invariant.within (omega (arith, c.type_inv.octets l.octet-index)) }

pub returns : goal.returns
returns c =
    let l = c.loop-octet in
    let read = behind-end l.number c.args.octets.now l.octet-index _ c.loop-octet-test.false l.invariant.read in
    record { number = read; small = λ few sign. subst (λ (n : ℕ). n < 2 ^ 31) (sym read) (small_number c.args.octets.now (λ k. omega (arith, c.type_inv.octets k)) few sign) }

pub overflow_mul-number : goal.overflow_mul-number
overflow_mul-number c =
    let l = c.loop-octet in
    let few : l.octet-index < 5 = omega (arith, c.requires, c.loop-octet-test.true) in
    omega (arith, fits l.octet-index l.number few l.invariant.within)

pub overflow_add-number : goal.overflow_add-number
overflow_add-number c =
    let l = c.loop-octet in
    let few : l.octet-index < 5 = omega (arith, c.requires, c.loop-octet-test.true) in
    omega (arith, fits l.octet-index l.number few l.invariant.within, c.type_inv.octets l.octet-index)
