use Rattle.std.proofs.Common.{◌∙◌}
use Rattle.client_command.proofs.Loading.{not-missing, missing-stop}
use Rattle.client_options.specs.declared.ending.WordFile.TheVariants.{Ccache}
use Rattle.client_command.proofs.files.cache_of.Goals as goal

pub returns-in-Ok-clause-unloaded : goal.returns-in-Ok-clause-unloaded
returns-in-Ok-clause-unloaded c = not-missing _ c.cache_by.result c.cache_by.ensures.loaded

pub returns-in-Err-clause-unloaded : goal.returns-in-Err-clause-unloaded
returns-in-Err-clause-unloaded c = λ missing. c.in-Err.is ∙ missing-stop Ccache c.in-Err.stop c.end_by.ensures missing

pub returns-in-Err-clause-stop : goal.returns-in-Err-clause-stop
returns-in-Err-clause-stop c = (c.in-Err.stop, c.end_by.ensures)
