-- The command that a parsed command line means.
use Rattle.dx_run.specs.declared.command_line.CommandLine.{CommandLine}
use Rattle.dx_run.specs.declared.command_line.CommandLine.TheVariants.{Translate, Show, Check, Unknown}
use Rattle.dx_run.specs.Commands.{Command, translate, show, check, unknown}

abbrev pub command_meant : CommandLine → Command
command_meant (Translate version from to) = translate version from.now to.now
command_meant (Show from) = show from.now
command_meant (Check from) = check from.now
command_meant Unknown = unknown
