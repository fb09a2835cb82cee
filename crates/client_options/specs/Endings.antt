-- How a run of the client ends, its status, and what is printed of it on standard error.
use Rattle.std.specs.Prelude.{ℕ, Bool, true, false, List, [], ◌++◌, codes}
use Rattle.std.specs.Fmt.{decimal}
use Rattle.spnego_core.specs.Numbers.{neg_number}
use Rattle.gss_client.specs.declared.conversation.Parting.{Parting}
use Rattle.gss_client.specs.declared.conversation.Parting.TheVariants as partings
use Rattle.gss_client.specs.declared.refusal.ClientRefusal.{ClientRefusal}
use Rattle.gss_client.specs.declared.refusal.ClientRefusal.TheVariants as refusals
use Rattle.gss_client.specs.declared.refusal.Denial.{Denial}
use Rattle.gss_client.specs.declared.refusal.Denial.TheVariants.{Rpc, Auth, Accept, Gss}
use Rattle.cli_base.specs.Files.{stop_line}
use Rattle.cli_base.specs.Lines.{memory_line}
use Rattle.cli_base.specs.declared.files.FileStop.TheVariants as stops
use Rattle.cli_base.specs.declared.given.WordsRefusal.{WordsRefusal}
use Rattle.cli_base.specs.declared.given.WordsRefusal.TheVariants as words
use Rattle.client_options.specs.declared.ending.RunEnd.{RunEnd}
use Rattle.client_options.specs.declared.ending.RunEnd.TheVariants.{Usage, CannotLoad, Bad}
use Rattle.client_options.specs.declared.ending.RunEnd.TheVariants.{NoCredential, NoMemory}
use Rattle.client_options.specs.declared.ending.RunEnd.TheVariants.{LinkFault, PeerEnded, Refused}
use Rattle.client_options.specs.declared.ending.RunEnd.TheVariants.{Negotiation, BadReply, Foreign}
use Rattle.client_options.specs.declared.ending.RunEnd.TheVariants.{Spent, Finished}
use Rattle.client_options.specs.declared.ending.WordFile.{WordFile}
use Rattle.client_options.specs.declared.ending.WordFile.TheVariants as files

-- ---- the end of a session is the end of the run

-- the end of a run whose session was refused
abbrev pub end_of_refusal : ClientRefusal → RunEnd
end_of_refusal refusals.LinkFault = LinkFault
end_of_refusal refusals.PeerEnded = PeerEnded
end_of_refusal (refusals.Refused denial) = Refused denial
end_of_refusal (refusals.Negotiation refusal) = Negotiation refusal
end_of_refusal (refusals.BadReply why) = BadReply why
end_of_refusal refusals.NoMemory = NoMemory

-- the end of a run whose session parted so
abbrev pub end_of : Parting → RunEnd
end_of partings.Finished = Finished
end_of partings.Spent = Spent
end_of partings.Foreign = Foreign
end_of (partings.Refused refusal) = end_of_refusal refusal

-- the end of a run whose words were refused
abbrev pub end_of_words : WordsRefusal → RunEnd
end_of_words words.Usage = Usage
end_of_words words.NoMemory = NoMemory

-- the ends of a session: each but that of want of memory, which may come before one too
abbrev pub is_begun : RunEnd → Bool
is_begun Usage = false
is_begun (CannotLoad file) = false
is_begun (Bad file at) = false
is_begun NoCredential = false
is_begun NoMemory = false
is_begun LinkFault = true
is_begun PeerEnded = true
is_begun (Refused denial) = true
is_begun (Negotiation refusal) = true
is_begun (BadReply why) = true
is_begun Foreign = true
is_begun Spent = true
is_begun Finished = true

-- the ends of a session whose context was destroyed, or whose result was none of the procedure's:
-- nothing was refused
abbrev pub is_parted : RunEnd → Bool
is_parted Usage = false
is_parted (CannotLoad file) = false
is_parted (Bad file at) = false
is_parted NoCredential = false
is_parted NoMemory = false
is_parted LinkFault = false
is_parted PeerEnded = false
is_parted (Refused denial) = false
is_parted (Negotiation refusal) = false
is_parted (BadReply why) = false
is_parted Foreign = true
is_parted Spent = true
is_parted Finished = true

-- ---- statuses

-- the exit status of a run that ends so, 0 if all calls were answered
abbrev pub status_of : RunEnd → ℕ
status_of Usage = 2
status_of (CannotLoad file) = 3
status_of (Bad file at) = 4
status_of NoCredential = 4
status_of NoMemory = 8
status_of LinkFault = 5
status_of PeerEnded = 9
status_of (Refused denial) = 10
status_of (Negotiation refusal) = 11
status_of (BadReply why) = 12
status_of Foreign = 12
status_of Spent = 13
status_of Finished = 0

-- ---- lines

-- the line of what the server denied: the version of RPC, the caller, the call, or a creation
abbrev pub denial_line : Denial → List ℕ
denial_line (Rpc low high) =
    codes "refused: rpc " ++ (decimal low ++ (codes " " ++ (decimal high ++ codes "\n")))
denial_line (Auth stat) = codes "refused: auth " ++ (decimal stat ++ codes "\n")
denial_line (Accept stat) = codes "refused: accept " ++ (decimal stat ++ codes "\n")
denial_line (Gss major minor) =
    codes "refused: gss " ++ (decimal major ++ (codes " " ++ (decimal minor ++ codes "\n")))

-- what a run's words name, as its line says it: the credential cache, the password's file, and the
-- server
pub record Named : Type 0 where
  pub ccache : List ℕ
  pub password : List ℕ
  pub server : List ℕ

-- the name of the file: the credential cache, or the password's file
abbrev pub name_in : Named → WordFile → List ℕ
name_in names files.Ccache = names.ccache
name_in names files.Password = names.password

-- the line of an end; a run that finished has none
abbrev pub line_of : Named → RunEnd → List ℕ
line_of names Usage = codes "usage: gssrpc ADDRESS COMMAND [ARG ..] [options]\n"
line_of names (CannotLoad file) = stop_line (name_in names file) stops.CannotLoad
line_of names (Bad file at) = stop_line (name_in names file) (stops.Bad at)
line_of names NoCredential = codes "no credential for " ++ (names.server ++ codes "\n")
line_of names NoMemory = memory_line
line_of names LinkFault = codes "link fault\n"
line_of names PeerEnded = codes "peer ended\n"
line_of names (Refused denial) = denial_line denial
line_of names (Negotiation refusal) =
    codes "negotiation: " ++ (decimal (neg_number refusal) ++ codes "\n")
line_of names (BadReply why) = codes "bad reply\n"
line_of names Foreign = codes "bad reply\n"
line_of names Spent = codes "spent\n"
line_of names Finished = []
