use denote.Param.Send.{sendable}
use Rattle.system_devices.proofs.Sends.{stdio-send, buffered-send}
use Rattle.service_kit.proofs.listening.over_standard_streams.Goals as goal

pub run-requires-send-P-Link : goal.run-requires-send-P-Link
run-requires-send-P-Link g c = λ κs within. search (buffered-send, stdio-send, sendable) depth 20
