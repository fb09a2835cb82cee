use denote.Param.Send.{sendable}
use Rattle.system_devices.proofs.Sends.{clock-send, draw-send}
use Rattle.service_kit.proofs.listening.run.Goals as goal

pub run_program-requires-send-C : goal.run_program-requires-send-C
run_program-requires-send-C g c = λ κs within. search (clock-send, sendable) depth 20

pub run_program-requires-send-D : goal.run_program-requires-send-D
run_program-requires-send-D g c = λ κs within. search (draw-send, sendable) depth 20
