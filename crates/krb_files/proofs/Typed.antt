-- Steps of the loop that passes over addresses and authorization data.
use Rattle.std.proofs.Common.{◌≡◌, ℕ, suc, ◌+◌, ◌-◌, ◌<◌, Result, Ok, Err, refl, sym, arith}
use Rattle.krb_files.specs.declared.refusal.FileRefusal.{FileRefusal}
use Rattle.krb_files.specs.Fields.{Input, ◌>>=◌}
use Rattle.krb_files.specs.Ccache.{typed_at, times_typed_at}

once : (count counter : ℕ) (i : Input) → counter < count → times_typed_at (count - counter) i ≡ (typed_at i >>= (λ x. times_typed_at (count - (counter + 1)) x.1))
unfolding times_typed_at
once count counter i lt =
    let more : count - counter ≡ suc (count - (counter + 1)) = omega arith in rw more refl

pub is_done : (left : ℕ) (i : Input) (whole : Result (Unit {0} × Input) FileRefusal) → left ≡ 0 → times_typed_at left i ≡ whole → whole ≡ Ok (tt, i)
unfolding times_typed_at
is_done left i whole none before = sym (rw none at before)

pub fails : (count counter : ℕ) (i : Input) (whole : Result (Unit {0} × Input) FileRefusal) (e : FileRefusal) → counter < count → typed_at i ≡ Err e → times_typed_at (count - counter) i ≡ whole → whole ≡ Err e
fails count counter i whole e lt read before = sym (rw (once count counter i lt, read) at before)

pub goes_on : (count counter : ℕ) (i left : Input) (u : Unit {0}) (whole : Result (Unit {0} × Input) FileRefusal) → counter < count → typed_at i ≡ Ok (u, left) → times_typed_at (count - counter) i ≡ whole → times_typed_at (count - (counter + 1)) left ≡ whole
goes_on count counter i left u whole lt read before = rw (once count counter i lt, read) at before
