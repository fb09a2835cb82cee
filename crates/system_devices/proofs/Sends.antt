-- Links, clock and draw of the system may go to another thread. Their parts are shown first: a search through all of them at once breaks
-- off.
use denote.RattleType.{RattleType}
use denote.Ref.{NamedLft}
use denote.Param.Send.{IsSend, IsSync, sendable, owning_send}
use denote.Param.SendFields.{owner_send}
use Rattle.std.proofs.Crossing.{crosses}
use Rattle.std.proofs.sync.atomic.AtomicU64.TheSendSync.{the_sync as word_sync}
use Rattle.std.specs.contracts.sync.atomic.AtomicBool as AtomicBool
use Rattle.std.specs.contracts.time.Instant as Instant
use Rattle.sec_base.specs.contracts.trail.Trail as Trail
use Rattle.sec_base.specs.declared.link.Link as links
use Rattle.stream_buffers.specs.contracts.buffered.Buffered as Buffered
use Rattle.system_devices.specs.contracts.moments.Moments as Moments
use Rattle.system_devices.specs.contracts.rand_draw.RandDraw as RandDraw
use Rattle.system_devices.specs.contracts.stdio_port.StdioLink as StdioLink
use Rattle.system_devices.specs.contracts.system_clock.SystemClock as SystemClock
use Rattle.system_devices.specs.contracts.patient_link.PatientLink as PatientLink

trail-send : IsSend Trail.the_row
trail-send = search (owner_send, owning_send, sendable) depth 20

moments-send : IsSend Moments.the_row
moments-send = search (owner_send, owning_send, sendable) depth 20

bool-sync : IsSync AtomicBool.the_row
bool-sync = search (word_sync, sendable, crosses) depth 40

instant-send : IsSend Instant.the_row
instant-send = search (sendable, crosses) depth 40

pub stdio-send : IsSend StdioLink.the_row
stdio-send = search (trail-send, sendable, crosses) depth 40 fits 5000

pub patient-send : (ℓ : NamedLft) (R : RattleType) → IsSend R → IsSend (PatientLink.the_row ℓ R)
patient-send ℓ R r = search (bool-sync, instant-send, sendable) depth 40

pub buffered-send : (L : RattleType) (l : links.Ghosts L.Denot) → IsSend L → IsSend (Buffered.the_row L l)
buffered-send L l s = search (trail-send, sendable, crosses) depth 40 fits 5000

pub draw-send : IsSend RandDraw.the_row
draw-send = search (trail-send, sendable, crosses) depth 40 fits 5000

pub clock-send : (R : RattleType) → IsSend R → IsSend (SystemClock.the_row R)
clock-send R r = search (moments-send, instant-send, sendable) depth 40
