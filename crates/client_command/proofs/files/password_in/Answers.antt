use Rattle.std.proofs.Common.{refl}
use Rattle.cli_base.specs.Files.{file_in}
use Rattle.client_command.proofs.Loading.{finds-loaded, asked-loaded, missing-loaded}
use Rattle.client_command.specs.Credentials.{password_in}
use Rattle.client_options.specs.declared.ending.WordFile.TheVariants.{Password}
use Rattle.client_command.proofs.files.password_in.Goals as goal

pub returns-clause-read : goal.returns-clause-read
returns-clause-read g c = record {
  answer = c.load.result;
  loaded = record { content = c.load.ensures.told; asked = c.load.ensures.asked; fault = c.load.ensures.fault; grows = c.load.ensures.faults };
  given = c.password_of.ensures.value;
}

pub returns-clause-found : goal.returns-clause-found
returns-clause-found g c = λ t.
    finds-loaded Password password_in (file_in (g.F.Shelf.files c.args.shelf.now) c.args.name.now) c.load.result c.password_of.result (λ stop. refl) (c.load.ensures.told t) c.password_of.ensures.value

pub returns-clause-asked : goal.returns-clause-asked
returns-clause-asked g c = λ t. asked-loaded _ _ _ Password password_in c.load.result c.password_of.result (λ stop. refl) (c.load.ensures.asked t) c.password_of.ensures.value

pub returns-clause-fault : goal.returns-clause-fault
returns-clause-fault g c = missing-loaded c.password_of.result c.load.result c.password_of.ensures.unloaded c.load.ensures.fault
