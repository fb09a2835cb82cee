-- What the client asks of a program.
use Rattle.std.specs.Prelude.{true}
use Rattle.posts_client.specs.Procedure.{query_of}
use Rattle.gss_client.specs.Query.{QuerySays}
use Rattle.client_options.specs.declared.command.Command.{Command}
use Rattle.client_options.specs.declared.command.Command.TheVariants.{Served, Numbered}

-- a served procedure with its results; a number with whatever is answered
abbrev pub called_by : Command → QuerySays
called_by (Served procedure) = query_of procedure
called_by (Numbered number) = record { number = number; is_result = λ octets. true }
