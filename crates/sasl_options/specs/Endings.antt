-- How a run ends, its status, and what is printed of it on standard error.
use Rattle.std.specs.Prelude.{ℕ, Bool, true, false, List, [], ◌++◌, codes}
use Rattle.std.specs.Fmt.{decimal}
use Rattle.sasl_layer.specs.Numbers.{sasl_number}
use Rattle.cli_base.specs.Files.{stop_line}
use Rattle.cli_base.specs.Lines.{memory_line}
use Rattle.cli_base.specs.declared.files.FileStop.TheVariants as stops
use Rattle.cli_base.specs.declared.given.WordsRefusal.{WordsRefusal}
use Rattle.cli_base.specs.declared.given.WordsRefusal.TheVariants as words
use Rattle.sasl_options.specs.declared.ending.RunEnd.{RunEnd}
use Rattle.sasl_options.specs.declared.ending.RunEnd.TheVariants.{Usage, CannotLoad, Bad, NoKey}
use Rattle.sasl_options.specs.declared.ending.RunEnd.TheVariants.{NoCredential, NoMemory, LinkFault}
use Rattle.sasl_options.specs.declared.ending.RunEnd.TheVariants.{PeerEnded, Refused, Finished}

-- the end of a run whose words were refused
abbrev pub end_of_words : WordsRefusal → RunEnd
end_of_words words.Usage = Usage
end_of_words words.NoMemory = NoMemory

-- the ends of a run that spoke, or was about to: each but that of want of memory, which may come
-- before too
abbrev pub is_begun : RunEnd → Bool
is_begun Usage = false
is_begun CannotLoad = false
is_begun (Bad at) = false
is_begun NoKey = false
is_begun NoCredential = false
is_begun NoMemory = false
is_begun LinkFault = true
is_begun PeerEnded = true
is_begun (Refused refusal) = true
is_begun Finished = true

-- the exit status of a run that ends so
abbrev pub status_of : RunEnd → ℕ
status_of Usage = 2
status_of CannotLoad = 3
status_of (Bad at) = 4
status_of NoKey = 4
status_of NoCredential = 4
status_of NoMemory = 8
status_of LinkFault = 5
status_of PeerEnded = 9
status_of (Refused refusal) = 11
status_of Finished = 0

-- what a run's words name, as its line says it: the file, and the principal
pub record Named : Type 0 where
  pub file : List ℕ
  pub principal : List ℕ

-- the line of an end; a run that finished has none
abbrev pub line_of : Named → RunEnd → List ℕ
line_of names Usage = codes "usage: gsssasl serve|ask ADDRESS [HEX] [options]\n"
line_of names CannotLoad = stop_line names.file stops.CannotLoad
line_of names (Bad at) = stop_line names.file (stops.Bad at)
line_of names NoKey = codes "no key for " ++ (names.principal ++ codes "\n")
line_of names NoCredential = codes "no credential for " ++ (names.principal ++ codes "\n")
line_of names NoMemory = memory_line
line_of names LinkFault = codes "link fault\n"
line_of names PeerEnded = codes "peer ended\n"
line_of names (Refused refusal) = codes "sasl: " ++ (decimal (sasl_number refusal) ++ codes "\n")
line_of names Finished = []
