-- A field whose value is fixed by the grammar.
use Rattle.std.specs.Prelude.{ℕ, true, Ok}
use Rattle.der_core.specs.Format.{Format, ◌>>=◌}
use Rattle.der_core.specs.Integer.{natural}

-- INTEGER of one value
abbrev pub constant : ℕ → Format (Unit {0})
constant n = record {
  read = λ i. do
    x ← (natural n n).read i
    Ok (tt, x.1);
  spell = λ nothing. (natural n n).spell n;
  fits = λ nothing. true;
}
