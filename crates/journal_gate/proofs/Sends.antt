-- The queue at a journal may be shared with other threads. Its parts are shown first: a search through all of them at once breaks off.
use denote.RattleType.{RattleType}
use denote.Param.Send.{IsSend, IsSync, sendable}
use Rattle.std.proofs.Crossing.{crosses}
use Rattle.std.proofs.alloc.Global.TheSendSync.{the_send as heap_send, the_sync as heap_sync}
use Rattle.std.proofs.sync.ledger.Book.TheSendSync.{the_send as sum_send}
use Rattle.std.specs.declared.sync.ledger.Ledger as ledger
use Rattle.replay_journal.specs.declared.disk.Disk as disk
use Rattle.replay_journal.specs.contracts.journal.Journal as Journal
use Rattle.journal_gate.specs.declared.behind.Opening as opening
use Rattle.journal_gate.specs.contracts.behind.Behind as Behind
use Rattle.journal_gate.specs.contracts.queue.Waiting as Waiting
use Rattle.journal_gate.specs.contracts.queue.Queue as Queue

journal-send : (M : RattleType) (d : disk.Ghosts M.Denot) → IsSend M → IsSend (Journal.the_row M d)
journal-send M d s = search (sendable, crosses) depth 60 fits 100000

behind-send : (M L : RattleType) (d : disk.Ghosts M.Denot) (o : opening.Ghosts L.Denot) (k : ledger.Ghosts L.Denot) → IsSend M → IsSend L → IsSend (Behind.the_row M L d o k)
behind-send M L d o k m l = search (journal-send, sum_send, heap_send, sendable, crosses) depth 40 fits 5000

waiting-send : IsSend Waiting.the_row
waiting-send = search (heap_send, heap_sync, sendable, crosses) depth 60 fits 100000

pub queue-sync : (M L : RattleType) (d : disk.Ghosts M.Denot) (o : opening.Ghosts L.Denot) (k : ledger.Ghosts L.Denot) → IsSend M → IsSend L → IsSync (Queue.the_row M L d o k)
queue-sync M L d o k m l = search (behind-send, waiting-send, sendable, crosses) depth 40 fits 5000
