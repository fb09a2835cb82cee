use Rattle.std.proofs.Common.{◌≡◌, subst, List, Result, Ok}
use Rattle.spnego_core.specs.declared.setup.MechCred.{MechCred}
use Rattle.client_command.proofs.ByCredentials.{other-by, fault-by, asked-by, stops-by, held-by, due-of, found-of, found-by, silent-by, silent-or}
use Rattle.client_command.proofs.Listing.{fit-alone}
use Rattle.client_command.proofs.Spoken.{ended-so}
use Rattle.client_command.specs.Credentials.{creds_from}
use Rattle.client_command.specs.Loading.{CredsFrom}
use Rattle.client_options.specs.declared.ending.RunEnd.{RunEnd}
use Rattle.client_command.proofs.client.run_with.Goals as goal

pub run_by-ended-requires-clause-bare : goal.run_by-ended-requires-clause-bare
run_by-ended-requires-clause-bare g c = λ off.
    c.creds_given-creds.ensures.bare (fit-alone c.args.words.plan.negotiates c.args.words.sources.mechs c.requires.fit off)

pub returns-clause-other : goal.returns-clause-other
returns-clause-other g c = other-by c.creds_given-creds.result c.run_by-ended.result.end c.creds_given-creds.ensures.other c.run_by-ended.ensures.ends

pub returns-clause-begins : goal.returns-clause-begins
returns-clause-begins g c = record {
  creds = c.creds_given-creds.result;
  given = c.creds_given-creds.ensures.read;
  ends = c.run_by-ended.ensures.ends;
}

pub returns-clause-load_fault : goal.returns-clause-load_fault
returns-clause-load_fault g c = λ u.
    fault-by c.creds_given-creds.result c.run_by-ended.result.end c.creds_given-creds.ensures.fault (c.run_by-ended.ensures.unloaded u) u

pub returns-clause-asked : goal.returns-clause-asked
returns-clause-asked g c = λ t.
    asked-by (g.F.Shelf.asked c.args.shelf.now) (g.F.Shelf.asked c.creds_given-creds.new.shelf) c.args.words.sources c.creds_given-creds.result c.run_by-ended.result.end
    (c.creds_given-creds.ensures.asked t) c.run_by-ended.ensures.ends

pub returns-clause-stops : goal.returns-clause-stops
returns-clause-stops g c = λ t.
    stops-by (creds_from (g.F.Shelf.files c.args.shelf.now) c.args.words.sources) c.creds_given-creds.result c.run_by-ended.result.end
    (c.creds_given-creds.ensures.found t) c.run_by-ended.ensures.ends

pub returns-clause-found : goal.returns-clause-found
returns-clause-found g c = λ t begun.
    let held = held-by c.creds_given-creds.result c.run_by-ended.result.end c.creds_given-creds.ensures.unbegun c.run_by-ended.ensures.ends begun in
    let due = creds_from (g.F.Shelf.files c.args.shelf.now) c.args.words.sources in
    found-of due held.0 (due-of due c.creds_given-creds.result held.0 (c.creds_given-creds.ensures.found t) held.1)

pub returns-clause-silent : goal.returns-clause-silent
returns-clause-silent g c = silent-by c.creds_given-creds.result c.run_by-ended.result.end c.run_by-ended.ensures.silent c.run_by-ended.ensures.ends

pub returns-clause-spoke : goal.returns-clause-spoke
returns-clause-spoke g c = λ begun t.
    let held = held-by c.creds_given-creds.result c.run_by-ended.result.end c.creds_given-creds.ensures.unbegun c.run_by-ended.ensures.ends begun in
    record {
      creds = held.0;
      read = subst (λ (r : Result (List MechCred) RunEnd). CredsFrom g.F.Shelf c.args.shelf.now c.creds_given-creds.new.shelf c.args.words.sources r) held.1 c.creds_given-creds.ensures.read;
      found = λ s. due-of (creds_from (g.F.Shelf.files c.args.shelf.now) c.args.words.sources) c.creds_given-creds.result held.0 (c.creds_given-creds.ensures.found s) held.1;
      ranged = c.requires.range;
      spoke = c.run_by-ended.ensures.spoke held.0 held.1 t;
    }

pub returns-clause-wanting : goal.returns-clause-wanting
returns-clause-wanting g c = λ e t.
    silent-or c.creds_given-creds.result c.run_by-ended.ensures.silent (λ list is. record {
      creds = list;
      read = subst (λ (r : Result (List MechCred) RunEnd). CredsFrom g.F.Shelf c.args.shelf.now c.creds_given-creds.new.shelf c.args.words.sources r) is c.creds_given-creds.ensures.read;
      found = λ s. due-of (creds_from (g.F.Shelf.files c.args.shelf.now) c.args.words.sources) c.creds_given-creds.result list (c.creds_given-creds.ensures.found s) is;
      ranged = c.requires.range;
      spoke = c.run_by-ended.ensures.spoke list is t;
    })

pub returns-clause-ends : goal.returns-clause-ends
returns-clause-ends g c = λ creds parting told due t so steady calm other.
    let is : c.creds_given-creds.result ≡ Ok creds = found-by (creds_from (g.F.Shelf.files c.args.shelf.now) c.args.words.sources) c.creds_given-creds.result c.run_by-ended.result.end creds
    (c.creds_given-creds.ensures.found told) due c.creds_given-creds.ensures.fault steady c.run_by-ended.ensures.ends other in
    ended-so parting (c.run_by-ended.ensures.spoke creds is t) so (λ e. calm (c.run_by-ended.ensures.link_fault e)) other
