use denote.Param.Send.{sendable}
use Rattle.system_devices.proofs.Sends.{patient-send, buffered-send}
use Rattle.service_kit.proofs.listening.fn.run_controlled.join+arg3.Goals as goal

pub run-ran-requires-send-P-Link : goal.run-ran-requires-send-P-Link
run-ran-requires-send-P-Link g c = λ κs within. search (buffered-send, patient-send, sendable) depth 20
