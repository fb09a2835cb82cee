-- The numbers by which refusals are told: the minor status that an acceptor sends, and what a
-- client prints.
use Rattle.std.specs.Prelude.{ℕ}
use Rattle.ap_exchange.specs.declared.refusal.ApRefusal.{ApRefusal}
use Rattle.ap_exchange.specs.declared.refusal.ApRefusal.TheVariants as aps

-- the number of a refusal is 100 and its place among them; want of memory is 0
abbrev pub ap_number : ApRefusal → ℕ
ap_number (aps.Der part at why) = 101
ap_number aps.Kind = 102
ap_number aps.NotMutual = 103
ap_number aps.TicketNames = 104
ap_number aps.NoKey = 105
ap_number aps.TicketClosed = 106
ap_number aps.KeyType = 107
ap_number aps.AuthClosed = 108
ap_number aps.NameMatch = 109
ap_number aps.ChecksumType = 110
ap_number aps.Bindings = 111
ap_number aps.Skew = 112
ap_number aps.NotYet = 113
ap_number aps.Expired = 114
ap_number aps.ReplyClosed = 115
ap_number aps.ReplyStamp = 116
ap_number (aps.PeerError code) = 117
ap_number aps.NoMemory = 0
