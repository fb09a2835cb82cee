-- A register: a word that callers read and write.
use Rattle.std.specs.Prelude.{ℕ, Bool, ◌==◌, nat_lt, if◌then◌else◌, List, [], length}
use Rattle.std.specs.Int.{w32, from_be_bytes, to_be_bytes}
use Rattle.service_kit.specs.declared.Service.{Service}
use Rattle.service_kit.specs.declared.Service.TheVariants as services
use Rattle.service_kit.specs.Serving.{ProgramSays}
use Rattle.example_register.specs.declared.register.TheConstants.{PROGRAM, VERSION, NULL, WRITE}

-- WRITE has a word for its arguments, NULL and READ have nothing
abbrev pub is_args : ℕ → List ℕ → Bool
is_args procedure args = if procedure == WRITE then length args == 4 else length args == 0

-- the word after a call
abbrev pub word_after : ℕ → ℕ → List ℕ → ℕ
word_after word procedure args = if procedure == WRITE then from_be_bytes w32 args else word

-- the result of a call: the word that stood before, and nothing for NULL
abbrev pub result_of : ℕ → ℕ → List ℕ
result_of procedure before = if procedure == NULL then [] else to_be_bytes w32 before

-- NULL is called by any service, the others by one that proves their arguments
abbrev pub needed : ℕ → Service
needed procedure = if procedure == NULL then services.None else services.Integrity

-- what the program says of itself
abbrev pub register_says : ProgramSays
register_says = record {
  id = record { number = PROGRAM; version = VERSION };
  has = λ procedure. nat_lt procedure 3;
  needs = needed;
  takes = is_args;
}
