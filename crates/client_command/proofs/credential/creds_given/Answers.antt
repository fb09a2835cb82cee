use Rattle.std.proofs.Common.{IsTrue, Ok, Err, refl, arith}
use Rattle.client_command.proofs.Asking.{asked-cache, asked-password, asked-both}
use Rattle.client_command.proofs.Listing.{own-given, bare-given}
use Rattle.client_command.proofs.Loading.{with-cache}
use Rattle.client_command.proofs.credential.creds_given.Goals as goal

pub returns-in-Err-clause-asked : goal.returns-in-Err-clause-asked
returns-in-Err-clause-asked g c = λ t.
    asked-cache (g.F.Shelf.asked c.args.shelf.now) (g.F.Shelf.asked c.cache_given.new.shelf) c.args.sources.now c.in-Err.end c.in-Err.ensures.stop (c.in-Err.ensures.asked t)

pub returns-in-Err-password_given-clause-asked : goal.returns-in-Err-password_given-clause-asked
returns-in-Err-password_given-clause-asked g c = λ t.
    let tells : IsTrue (g.F.Shelf.tells c.cache_given.new.shelf) = rw c.in-Ok.ensures.tells t in
    asked-password (g.F.Shelf.asked c.args.shelf.now) (g.F.Shelf.asked c.cache_given.new.shelf) (g.F.Shelf.asked c.password_given.new.shelf) c.args.sources.now c.in-Err-password_given.end
    (c.in-Ok.ensures.asked t) c.in-Err-password_given.ensures.stop (c.in-Err-password_given.ensures.asked tells)

pub returns-clause-asked : goal.returns-clause-asked
returns-clause-asked g c = λ t.
    let tells : IsTrue (g.F.Shelf.tells c.cache_given.new.shelf) = rw c.in-Ok.ensures.tells t in
    asked-both (g.F.Shelf.asked c.args.shelf.now) (g.F.Shelf.asked c.cache_given.new.shelf) (g.F.Shelf.asked c.password_given.new.shelf) c.args.sources.now c.creds_with.result
    (c.in-Ok.ensures.asked t) (c.in-Ok-password_given.ensures.asked tells) c.creds_with.ensures.stop

pub returns-in-Err-clause-read : goal.returns-in-Err-clause-read
returns-in-Err-clause-read g c = record {
  cache = Err c.in-Err.end;
  between = g.F.Shelf.asked c.cache_given.new.shelf;
  counted = g.F.Shelf.faults c.cache_given.new.shelf;
  read = c.in-Err.ensures.read;
  behind = (refl, refl, refl);
  grows = omega arith;
}

pub returns-in-Err-password_given-clause-read : goal.returns-in-Err-password_given-clause-read
returns-in-Err-password_given-clause-read g c =
    with-cache (g.F.Shelf.tells c.args.shelf.now) (g.F.Shelf.tells c.cache_given.new.shelf) (g.F.Shelf.files c.args.shelf.now) (g.F.Shelf.files c.cache_given.new.shelf)
    (g.F.Shelf.asked c.args.shelf.now) (g.F.Shelf.asked c.cache_given.new.shelf) (g.F.Shelf.asked c.password_given.new.shelf)
    (g.F.Shelf.faults c.args.shelf.now) (g.F.Shelf.faults c.cache_given.new.shelf) (g.F.Shelf.faults c.password_given.new.shelf)
    c.args.sources.now c.in-Ok.cache (Err c.in-Err-password_given.end) (Err c.in-Err-password_given.end)
    c.in-Ok.ensures.read c.in-Ok.ensures.tells c.in-Ok.ensures.files c.in-Err-password_given.ensures.read c.in-Err-password_given.ensures.faults (λ other. refl)

pub returns-clause-read : goal.returns-clause-read
returns-clause-read g c =
    with-cache (g.F.Shelf.tells c.args.shelf.now) (g.F.Shelf.tells c.cache_given.new.shelf) (g.F.Shelf.files c.args.shelf.now) (g.F.Shelf.files c.cache_given.new.shelf)
    (g.F.Shelf.asked c.args.shelf.now) (g.F.Shelf.asked c.cache_given.new.shelf) (g.F.Shelf.asked c.password_given.new.shelf)
    (g.F.Shelf.faults c.args.shelf.now) (g.F.Shelf.faults c.cache_given.new.shelf) (g.F.Shelf.faults c.password_given.new.shelf)
    c.args.sources.now c.in-Ok.cache (Ok c.in-Ok-password_given.password) c.creds_with.result
    c.in-Ok.ensures.read c.in-Ok.ensures.tells c.in-Ok.ensures.files c.in-Ok-password_given.ensures.read c.in-Ok-password_given.ensures.faults c.creds_with.ensures.value

pub returns-clause-own : goal.returns-clause-own
returns-clause-own g c =
    own-given c.creds_with.result c.args.sources.now c.in-Ok.cache c.in-Ok-password_given.password c.creds_with.ensures.value c.requires

pub returns-clause-bare : goal.returns-clause-bare
returns-clause-bare g c =
    bare-given c.creds_with.result c.args.sources.now c.in-Ok.cache c.in-Ok-password_given.password c.creds_with.ensures.value
