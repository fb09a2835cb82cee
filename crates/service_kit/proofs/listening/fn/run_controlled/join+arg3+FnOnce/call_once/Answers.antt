use Rattle.service_kit.proofs.listening.fn.run_controlled.join+arg3+FnOnce.call_once.Goals as goal

pub join+arg3-requires : goal.join+arg3-requires
join+arg3-requires g c =
    let said = c.requires.1.1.1.1 in
    let sent = said.1.1 in
    (sent.0, (sent.1, (sent.2, (sent.3, (sent.4, (sent.5, (said.0, said.1.0)))))))
