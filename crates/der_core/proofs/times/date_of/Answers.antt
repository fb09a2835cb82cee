use Rattle.std.proofs.Common.{◌≡◌, pos, arith}
use Rattle.jiff_core.specs.Date.{epoch_day}
use Rattle.jiff_core.proofs.SignedLemmas.{signed_arith}
use Rattle.der_core.proofs.LibraryDates.{date_of_day, year_back}
use Rattle.der_core.proofs.times.date_of.Goals as goal

pub returns-clause-year : goal.returns-clause-year
returns-clause-year c =
    let e : epoch_day c.from_days_since_min-date.result ≡ pos c.args.day = omega (arith, signed_arith, c.from_days_since_min-date.ensures) in
    (year_back c.args.day _ _ c.requires (date_of_day c.from_days_since_min-date.result c.args.day e).year c.unsigned_abs.ensures.value).0

pub returns-clause-month : goal.returns-clause-month
returns-clause-month c =
    let e : epoch_day c.from_days_since_min-date.result ≡ pos c.args.day = omega (arith, signed_arith, c.from_days_since_min-date.ensures) in
    (date_of_day c.from_days_since_min-date.result c.args.day e).month

pub returns-clause-day : goal.returns-clause-day
returns-clause-day c =
    let e : epoch_day c.from_days_since_min-date.result ≡ pos c.args.day = omega (arith, signed_arith, c.from_days_since_min-date.ensures) in
    (date_of_day c.from_days_since_min-date.result c.args.day e).day_is

pub returns-clause-to : goal.returns-clause-to
returns-clause-to c =
    let e : epoch_day c.from_days_since_min-date.result ≡ pos c.args.day = omega (arith, signed_arith, c.from_days_since_min-date.ensures) in
    (year_back c.args.day _ _ c.requires (date_of_day c.from_days_since_min-date.result c.args.day e).year c.unsigned_abs.ensures.value).1
