-- What words give a program: numbers and bindings, or why the words are refused.
use Rattle.std.specs.Prelude.{ℕ, Bool, ◌||◌, nat_eq, nat_lt, List, length, Option, Some, None}
use Rattle.std.specs.Prelude.{Result, Ok, Err, if◌then◌else◌}
use Rattle.cli_base.specs.Numbers.{number_in}
use Rattle.cli_base.specs.declared.given.WordsRefusal.{WordsRefusal}
use Rattle.cli_base.specs.declared.given.WordsRefusal.TheVariants.{Usage}

infixl 10 ◌>>=◌
-- the rest of a reading, unless the part before was refused
abbrev pub ◌>>=◌ : {A B E : Type 0} → Result A E → (A → Result B E) → Result B E
(Ok x) >>= next = next x
(Err e) >>= next = Err e

-- what isn't there is refused
abbrev pub or_usage : {A : Type 0} → Option A → Result A WordsRefusal
or_usage None = Err Usage
or_usage (Some value) = Ok value

-- what doesn't hold is refused
abbrev pub demanded : Bool → Result (Unit {0}) WordsRefusal
demanded holds = if holds then Ok tt else Err Usage

-- an option's number, from `least` to `most`, or the usual one without it
abbrev pub number_given : ℕ → ℕ → ℕ → Option (List ℕ) → Result ℕ WordsRefusal
number_given least most usual None = Ok usual
number_given least most usual (Some text) = or_usage (number_in least most text)

-- the application data of the bindings: 1 to 32,768 octets
abbrev pub data_given : Option (List ℕ) → Result (Option (List ℕ)) WordsRefusal
data_given None = Ok None
data_given (Some text) =
    if nat_eq (length text) 0 || nat_lt 32768 (length text) then Err Usage else Ok (Some text)
