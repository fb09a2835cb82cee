-- How the server's run ended: the status it exits with, and what it prints on standard error.
use Rattle.std.specs.Prelude.{ℕ, Bool, true, false, List, ◌++◌, Option, None, Some, codes}
use Rattle.std.specs.Fmt.{decimal}
use Rattle.hex.specs.Hex.{encode_lower}
use Rattle.cli_base.specs.Files.{stop_line}
use Rattle.cli_base.specs.Lines.{memory_line}
use Rattle.cli_base.specs.declared.files.FileStop.TheVariants as stops
use Rattle.server_options.specs.declared.ending.Counts.{Counts}
use Rattle.server_options.specs.declared.ending.KeyFile.{KeyFile}
use Rattle.server_options.specs.declared.ending.KeyFile.TheVariants.{Keytab, Verifiers, Journal}
use Rattle.server_options.specs.declared.ending.RunEnd.{RunEnd}
use Rattle.server_options.specs.declared.ending.RunEnd.TheVariants.{Usage, CannotLoad, Bad, NoKey}
use Rattle.server_options.specs.declared.ending.RunEnd.TheVariants.{PortFault, NoMemory, Served}

-- the line of words that aren't in the command
abbrev pub usage_line : List ℕ
usage_line =
    codes "usage: gssrpcd ADDRESS --keytab FILE --verifiers FILE --name PRINCIPAL [options]\n"

-- the line of a keytab without a key for this name
abbrev pub no_key_line : List ℕ → List ℕ
no_key_line name = codes "no key for " ++ (name ++ codes "\n")

-- the line of a desk whose port failed; desks are counted from 1
abbrev pub port_line : ℕ → List ℕ
port_line desk = codes "port fault at desk " ++ (decimal desk ++ codes "\n")

-- the line of a control address that can't be listened at
abbrev pub unbound_line : List ℕ → List ℕ
unbound_line path = codes "cannot listen at " ++ (path ++ codes "\n")

-- how the line of a run that served all ends: with the log's digest in hexadecimal, where it was
-- kept
abbrev pub last_text : Option (List ℕ) → List ℕ
last_text None = codes " entries\n"
last_text (Some digest) = codes " entries digest " ++ (encode_lower digest ++ codes "\n")

-- the line of a run that served all: how many connections, records, and entries of the log
abbrev pub served_line : Counts → List ℕ
served_line counts =
    codes "served " ++ (decimal counts.connections ++ (codes " connections " ++ (decimal
    counts.records ++ (codes " records " ++ (decimal counts.entries ++ last_text counts.digest)))))

-- the status with which the server exits, by how the run ended
abbrev pub status_of : RunEnd → ℕ
status_of Usage = 2
status_of (CannotLoad file) = 3
status_of (Bad file at) = 4
status_of NoKey = 4
status_of (PortFault desk) = 5
status_of NoMemory = 8
status_of Served = 0

-- desks were served: the words were in the command, the keys were there, and the journal was open
abbrev pub is_begun : RunEnd → Bool
is_begun (PortFault desk) = true
is_begun NoMemory = false
is_begun Usage = false
is_begun (CannotLoad file) = false
is_begun (Bad file at) = false
is_begun NoKey = false
is_begun Served = true

-- what a run's words name, as its line says it: the files, and the own name
pub record Named : Type 0 where
  pub keytab : List ℕ
  pub verifiers : List ℕ
  pub journal : List ℕ
  pub own : List ℕ

-- the name of a file
abbrev pub file_of : Named → KeyFile → List ℕ
file_of names Keytab = names.keytab
file_of names Verifiers = names.verifiers
file_of names Journal = names.journal

-- the line of an end, by what the words name and what was served
abbrev pub line_of : Named → Counts → RunEnd → List ℕ
line_of names counts Usage = usage_line
line_of names counts (CannotLoad file) = stop_line (file_of names file) stops.CannotLoad
line_of names counts (Bad file at) = stop_line (file_of names file) (stops.Bad at)
line_of names counts NoKey = no_key_line names.own
line_of names counts (PortFault desk) = port_line desk
line_of names counts NoMemory = memory_line
line_of names counts Served = served_line counts
