-- A desk's place may go to another thread. Its parts are shown first: a search through all of them at once breaks off.
use denote.RattleType.{RattleType}
use denote.Ref.{NamedLft}
use denote.Param.Send.{IsSend, IsSync, sendable, owning_send}
use denote.Param.SendFields.{owner_send, declared_send}
use Rattle.std.proofs.Crossing.{crosses}
use Rattle.std.proofs.MapsCrossing.{crosses as maps}
use Rattle.std.proofs.alloc.Global.TheSendSync.{the_send as heap_send, the_sync as heap_sync}
use Rattle.std.proofs.sync.ledger.Share.TheSendSync.{the_send as share_send}
use Rattle.std.specs.declared.sync.ledger.Ledger as ledger
use Rattle.atomic_table.proofs.shared.Seat.TheSendSync.{the_send as token_send}
use Rattle.atomic_table.proofs.shared.Shared.TheSendSync.{the_sync as words_sync}
use Rattle.atomic_table.proofs.send_lease.SendLease.TheSendSync.{the_sync as lease_sync}
use Rattle.accept_core.specs.contracts.entry.Entry as Entry
use Rattle.accept_core.specs.contracts.erased.Erased as Erased
use Rattle.accept_core.specs.contracts.log.Log as Log
use Rattle.accept_book.specs.contracts.book.Book as Book
use Rattle.spnego_core.specs.contracts.setup.AcceptSetup as Setup
use Rattle.rpc_program.specs.declared.program.Program as programs
use Rattle.rpc_program.specs.declared.program.Speller as spellers
use Rattle.book_seats.specs.declared.board.Room as room
use Rattle.book_seats.specs.declared.board.Begins as begins
use Rattle.book_seats.specs.contracts.hall.Writer as Writer
use Rattle.book_seats.specs.contracts.hall.Clerk as Clerk
use Rattle.book_seats.specs.contracts.hall.Hall as Hall
use Rattle.book_seats.specs.contracts.shared.Shared as Shared
use Rattle.book_seats.specs.contracts.seat.Seat as Seat
use Rattle.replay_journal.specs.declared.disk.Disk as disk
use Rattle.journal_gate.specs.declared.behind.Opening as opening
use Rattle.journal_gate.specs.contracts.gate.JournalGate as Gate
use Rattle.journal_gate.proofs.Sends.{queue-sync}
use Rattle.server_seating.specs.contracts.place.Place as Place

entry-send : IsSend Entry.the_row
entry-send = search (sendable, crosses) depth 40

erased-send : IsSend Erased.the_row
erased-send = search (owner_send, owning_send, sendable) depth 20

log-send : IsSend Log.the_row
log-send = search (erased-send, entry-send, sendable, crosses) depth 40

book-send : IsSend Book.the_row
book-send = search (log-send, sendable, crosses) depth 60 fits 100000

writer-send : (T J : RattleType) (r : room.Ghosts J.Denot) → IsSend T → IsSend J → IsSend (Writer.the_row T J r)
writer-send T J r t s = search (token_send, owner_send, owning_send, sendable, crosses) depth 60 fits 5000

clerk-send : (T J : RattleType) (r : room.Ghosts J.Denot) → IsSend T → IsSend J → IsSend (Clerk.the_row T J r)
clerk-send T J r t s = search (token_send, owner_send, owning_send, sendable, crosses) depth 60 fits 5000

shared-send : (V T J : RattleType) (v : programs.Ghosts V.Denot T.Denot) (r : room.Ghosts J.Denot) (b : begins.Ghosts J.Denot V.Denot) → IsSend V → IsSend T → IsSend J → IsSend (Shared.the_row V T J v r b)
shared-send V T J v r b p t s = search (writer-send, book-send, sendable) depth 60 fits 5000

hall-sync : (T J : RattleType) (r : room.Ghosts J.Denot) → IsSync T → IsSync J → IsSync (Hall.the_row T J r)
hall-sync T J r t s = search (words_sync, lease_sync, heap_sync, heap_send, sendable, crosses) depth 40 fits 20000

setup-sync : IsSync Setup.the_row
setup-sync = search (maps, sendable, crosses) depth 60 fits 100000

seat-send : (ℓ : NamedLft) (R V T W J : RattleType) (v : programs.Ghosts V.Denot T.Denot) (w : spellers.Ghosts W.Denot T.Denot) (r : room.Ghosts J.Denot) (b : begins.Ghosts J.Denot V.Denot) → IsSync R → IsSend V → IsSend T → IsSync T → IsSend W → IsSend J → IsSync J → IsSend (Seat.the_row ℓ R V T W J v w r b)
seat-send ℓ R V T W J v w r b rs vs ts ty ws s y = search (shared-send, hall-sync, clerk-send, setup-sync, sendable, crosses) depth 40 fits 5000

gate-send : (ℓ : NamedLft) (R G M L : RattleType) (d : disk.Ghosts M.Denot) (o : opening.Ghosts L.Denot) (k : ledger.Ghosts L.Denot) → IsSync R → IsSend G → IsSend M → IsSend L → IsSend (Gate.the_row ℓ R G M L d o k)
gate-send ℓ R G M L d o k w s m l = search (queue-sync, share_send, sendable, crosses) depth 40 fits 5000

pub place-send : (ℓ : NamedLft) (R V T W J M L : RattleType) (v : programs.Ghosts V.Denot T.Denot) (w : spellers.Ghosts W.Denot T.Denot) (r : room.Ghosts J.Denot) (b : begins.Ghosts J.Denot V.Denot) (d : disk.Ghosts M.Denot) (o : opening.Ghosts L.Denot) (k : ledger.Ghosts L.Denot)
    → IsSync R → IsSend V → IsSend T → IsSync T → IsSend W → IsSend J → IsSync J → IsSend M → IsSend L → IsSend (Place.the_row ℓ R V T W J M L v w r b d o k)
place-send ℓ R V T W J M L v w r b d o k rs vs ts ty ws s y m l = search (gate-send, seat-send, declared_send, sendable) depth 40 fits 5000
