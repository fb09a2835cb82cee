use Rattle.std.proofs.Common.{refl, arith}
use Rattle.der_core.proofs.LibraryDates.{lacks, number_back, none_back}
use Rattle.der_core.proofs.times.day_number.Goals as goal
use Rattle.der_core.proofs.times.day_number.Goals.{then-year-lt1970-via-then-year-lt1970, then-year-lt1970-via-else-year-lt1970+then-year-gt9999, then-year-lt1970-via-else-year-lt1970+else-year-gt9999+then-month-gt12, then-year-lt1970-via-else-year-lt1970+else-year-gt9999+else-month-gt12+then-day-gt31}

pub returns-then-year-lt1970-clause-value : goal.returns-then-year-lt1970-clause-value
returns-then-year-lt1970-clause-value c = lacks c.args.year c.args.month c.args.day _ (λ from to month day.
    elim c.then-year-lt1970.branch [
      | then-year-lt1970-via-then-year-lt1970 w ↦ omega arith
      | then-year-lt1970-via-else-year-lt1970+then-year-gt9999 w ↦ omega arith
      | then-year-lt1970-via-else-year-lt1970+else-year-gt9999+then-month-gt12 w ↦ omega arith
      | then-year-lt1970-via-else-year-lt1970+else-year-gt9999+else-month-gt12+then-day-gt31 w ↦ omega arith
    ])

pub returns-in-Ok-clause-value : goal.returns-in-Ok-clause-value
returns-in-Ok-clause-value c =
    (number_back c.args.year c.args.month c.args.day _ _ c.in-Ok.date (omega arith) (omega arith) (omega arith) (omega arith) (c.in-Ok.ensures.succeeds.0 refl) c.in-Ok.ensures.value c.to_unix_epoch_day.ensures.value c.unsigned_abs.ensures.value).0

pub returns-in-Ok-clause-bound : goal.returns-in-Ok-clause-bound
returns-in-Ok-clause-bound c =
    (number_back c.args.year c.args.month c.args.day _ _ c.in-Ok.date (omega arith) (omega arith) (omega arith) (omega arith) (c.in-Ok.ensures.succeeds.0 refl) c.in-Ok.ensures.value c.to_unix_epoch_day.ensures.value c.unsigned_abs.ensures.value).1

pub returns-in-Err-clause-value : goal.returns-in-Err-clause-value
returns-in-Err-clause-value c =
    none_back c.args.year c.args.month c.args.day _ (omega arith) (omega arith) (omega arith) (λ there. let wrong = c.in-Err.ensures.succeeds.1 there in cc)
