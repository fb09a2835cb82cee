-- The command over datagrams: by its words a server or a client is run.
use Rattle.std.specs.Prelude.{◌≡◌, ℕ, List, [], length, Result, Ok, Err}
use Rattle.sec_base.specs.declared.clock.Clock as clocks
use Rattle.sec_base.specs.declared.draw.Draw as draws
use Rattle.sec_base.specs.declared.shelf.Shelf as shelves
use Rattle.gss_base.specs.Principal.{text_form}
use Rattle.cli_base.specs.Lines.{memory_line}
use Rattle.cli_base.specs.declared.given.WordsRefusal.{WordsRefusal}
use Rattle.cli_base.specs.declared.given.WordsRefusal.TheVariants as words
use Rattle.client_command.specs.Runs as clients
use Rattle.client_options.specs.Lines.{lines}
use Rattle.client_options.specs.declared.ending.RunEnd.TheVariants.{Finished}
use Rattle.client_options.specs.declared.words.ClientWords.{ClientWords}
use Rattle.server_command.specs.Runs as servers
use Rattle.server_options.specs.declared.options.Options.{Options}
use Rattle.datagram_post.specs.declared.post.Post as posts
use Rattle.datagram_options.specs.Endings.{serve_status, serve_line, call_status, call_line}
use Rattle.datagram_options.specs.Endings.{usage_line}
use Rattle.datagram_options.specs.declared.ending.CallEnd.TheVariants as calls
use Rattle.datagram_options.specs.declared.ending.ServeEnd.TheVariants as serves
use Rattle.datagram_options.specs.declared.words.Asked.{Asked}
use Rattle.datagram_options.specs.declared.words.Asked.TheVariants.{Serve, Call}
use Rattle.datagram_serving.specs.Serving as serving
use Rattle.datagram_serving.specs.Serving.{Below}
use Rattle.datagram_serving.specs.declared.serving.ServeRun.{ServeRun}
use Rattle.datagram_calls.specs.Runs as calling
use Rattle.datagram_calls.specs.declared.running.CallRun.{CallRun}
use Rattle.datagram_command.specs.declared.command.DatagramEnd.{DatagramEnd}
use Rattle.datagram_command.specs.declared.command.DatagramEnd.TheVariants.{Served, Called}
use Rattle.datagram_command.specs.declared.command.DatagramEnd.TheVariants.{Usage, NoMemory}

-- ---- what is said

-- the exit status of a run, as it is answered
abbrev pub status_in : {V : Type 0} → DatagramEnd V → ℕ
status_in (Served run) = run.status
status_in (Called run) = run.status
status_in (Usage status) = status
status_in (NoMemory status) = status

-- the status that is due by a run's end
abbrev pub status_due : {V : Type 0} → DatagramEnd V → ℕ
status_due (Served run) = serve_status run.end
status_due (Called run) = call_status run.end
status_due (Usage status) = 2
status_due (NoMemory status) = 8

-- the line that is due on standard error, by what the words ask for and the run's end
abbrev pub line_due : {V : Type 0} → Result Asked WordsRefusal → DatagramEnd V → List ℕ
line_due (Ok (Serve options)) (Served run) =
    serve_line (servers.names_in options.files (text_form options.name.realm options.name.parts))
    (serving.counts_of run.log run.records) run.end
line_due (Ok (Call asked tries)) (Called run) = call_line (clients.names_in asked.sources) run.end
line_due read (Usage status) = usage_line
line_due read (NoMemory status) = memory_line
line_due read run = []

-- what is printed on standard output: a client's outcome and results
abbrev pub printed : {V : Type 0} → Result Asked WordsRefusal → DatagramEnd V → List ℕ
printed (Ok (Call asked tries)) (Called run) =
    lines asked.plan.command run.outcome run.results.items
printed read run = []

-- it ended by a fault of the post
abbrev pub IsFault : {V : Type 0} → DatagramEnd V → Type 0
IsFault (Served run) = run.end ≡ serves.PostFault
IsFault (Called run) = run.end ≡ calls.PostFault
IsFault (Usage status) = ⊥
IsFault (NoMemory status) = ⊥

-- it made all calls that the words ask for
abbrev pub IsAnswered : {V : Type 0} → Result Asked WordsRefusal → DatagramEnd V → Type 0
IsAnswered (Ok (Call asked tries)) (Called run) =
    run.end ≡ calls.As Finished → length run.results.items ≡ asked.plan.times
IsAnswered read run = Unit {0}

-- ---- what is run

-- the devices of a run, at a moment of it
pub record Devices (F P C D : Type 0) : Type 0 where
  pub shelf : F
  pub post : P
  pub clock : C
  pub draw : D

-- a server is run with these options, over such a gate, and gives its program back; of a result at
-- most so many octets are kept
abbrev pub ServesBy : {F P C D S V : Type 0} → shelves.Ghosts F → posts.Ghosts P → clocks.Ghosts C
    → draws.Ghosts D → Below S V → ℕ → Options → ℕ → Devices F P C D → Devices F P C D → ServeRun V
    → Type 0
ServesBy shelf post clock draw below most options start old new run =
    serving.Runs shelf post clock draw below options start most old.shelf new.shelf old.post
    new.post old.clock new.clock old.draw new.draw run.end run.log run.records run.program

-- a client is run with these words, each of whose calls is sent at most so often
abbrev pub CallsBy : {F P C D : Type 0} → shelves.Ghosts F → posts.Ghosts P → clocks.Ghosts C
    → draws.Ghosts D → ClientWords → ℕ → Devices F P C D → Devices F P C D → CallRun → Type 0
CallsBy shelf post clock draw asked tries old new run =
    calling.Runs shelf post clock draw asked tries old.shelf new.shelf old.post new.post old.clock
    new.clock old.draw new.draw run.outcome run.results.items run.end

-- words of `serve` ask for a server, and words of `call` for a client; no other words are taken.
-- For those, and for want of memory to read any, nothing is loaded, heard, sent or drawn
abbrev pub RunsBy : {F P C D S V : Type 0} → shelves.Ghosts F → posts.Ghosts P → clocks.Ghosts C
    → draws.Ghosts D → Below S V → ℕ → Result Asked WordsRefusal → ℕ → Devices F P C D
    → Devices F P C D → DatagramEnd V → Type 0
RunsBy shelf post clock draw below most (Ok (Serve options)) start old new (Served run) =
    ServesBy shelf post clock draw below most options start old new run
RunsBy shelf post clock draw below most (Ok (Call asked tries)) start old new (Called run) =
    CallsBy shelf post clock draw asked tries old new run
RunsBy shelf post clock draw below most (Err words.Usage) start old new (Usage status) = new ≡ old
RunsBy shelf post clock draw below most read start old new (NoMemory status) = new ≡ old
RunsBy shelf post clock draw below most read start old new run = ⊥
