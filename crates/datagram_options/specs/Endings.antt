-- How a run over datagrams ends: the status it exits with, and what it prints on standard error.
use Rattle.std.specs.Prelude.{ℕ, List, codes}
use Rattle.client_options.specs.Endings as clients
use Rattle.server_options.specs.Lines as servers
use Rattle.server_options.specs.declared.ending.Counts.{Counts}
use Rattle.datagram_options.specs.declared.ending.CallEnd.{CallEnd}
use Rattle.datagram_options.specs.declared.ending.CallEnd.TheVariants as calls
use Rattle.datagram_options.specs.declared.ending.ServeEnd.{ServeEnd}
use Rattle.datagram_options.specs.declared.ending.ServeEnd.TheVariants as serves

-- the line of words that aren't in a command
abbrev pub usage_line : List ℕ
usage_line = codes "usage: gssrpcdu serve|call ADDRESS [COMMAND] [ARG] [options]\n"

-- the line of a post that failed
abbrev pub fault_line : List ℕ
fault_line = codes "link fault\n"

-- the status of an end of `serve`, and its line
abbrev pub serve_status : ServeEnd → ℕ
serve_status serves.PostFault = 5
serve_status (serves.As end) = servers.status_of end

abbrev pub serve_line : servers.Named → Counts → ServeEnd → List ℕ
serve_line names counts serves.PostFault = fault_line
serve_line names counts (serves.As end) = servers.line_of names counts end

-- the status of an end of `call`, and its line
abbrev pub call_status : CallEnd → ℕ
call_status calls.PostFault = 5
call_status calls.NoReply = 14
call_status calls.Flood = 14
call_status (calls.As end) = clients.status_of end

abbrev pub call_line : clients.Named → CallEnd → List ℕ
call_line names calls.PostFault = fault_line
call_line names calls.NoReply = codes "no reply\n"
call_line names calls.Flood = codes "flood\n"
call_line names (calls.As end) = clients.line_of names end
