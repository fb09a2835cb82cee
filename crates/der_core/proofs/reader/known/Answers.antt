use Rattle.der_core.proofs.reader.known.Goals as goal

pub returns-clause-each : goal.returns-clause-each
returns-clause-each c = record { each = λ k. (c.type_inv.octets k).fits }
