-- What the places of standard streams that are held show of themselves.
use Rattle.std.specs.Prelude.{◌≡◌, ℤ, pos, int_lt, false, ⊤, Option, Some, None, All}
use Rattle.std.specs.Fd.{file_raw_fd}
use Rattle.std.specs.declared.fs.File.{File}
use Rattle.stream_buffers.specs.declared.held_streams.HeldStreams.{HeldStreams}

-- the number of the file that is held above the standard streams
abbrev pub number_above : HeldStreams → ℤ
number_above held = file_raw_fd held.above

-- a file has no number past those of the standard streams, where there is one
abbrev pub IsLow : Option File → Type 0
IsLow (Some file) = int_lt (pos 2) (file_raw_fd file) ≡ false
IsLow None = ⊤

-- none of the files that are held below it has
abbrev pub AreLow : HeldStreams → Type 0
AreLow held = All IsLow held.below
