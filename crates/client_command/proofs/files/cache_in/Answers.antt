use Rattle.std.proofs.Common.{refl}
use Rattle.cli_base.specs.Files.{file_in}
use Rattle.client_command.proofs.Loading.{finds-loaded, asked-loaded, missing-loaded}
use Rattle.client_command.specs.Credentials.{cache_in}
use Rattle.client_options.specs.declared.ending.WordFile.TheVariants.{Ccache}
use Rattle.client_command.proofs.files.cache_in.Goals as goal

pub returns-clause-read : goal.returns-clause-read
returns-clause-read g c = record {
  answer = c.load.result;
  loaded = record { content = c.load.ensures.told; asked = c.load.ensures.asked; fault = c.load.ensures.fault; grows = c.load.ensures.faults };
  given = c.cache_of.ensures.value;
}

pub returns-clause-found : goal.returns-clause-found
returns-clause-found g c = λ t.
    finds-loaded Ccache cache_in (file_in (g.F.Shelf.files c.args.shelf.now) c.args.name.now) c.load.result c.cache_of.result (λ stop. refl) (c.load.ensures.told t) c.cache_of.ensures.value

pub returns-clause-asked : goal.returns-clause-asked
returns-clause-asked g c = λ t. asked-loaded _ _ _ Ccache cache_in c.load.result c.cache_of.result (λ stop. refl) (c.load.ensures.asked t) c.cache_of.ensures.value

pub returns-clause-fault : goal.returns-clause-fault
returns-clause-fault g c = missing-loaded c.cache_of.result c.load.result c.cache_of.ensures.unloaded c.load.ensures.fault
