-- The command line, as it is built up: each part is that which is meant, where there was memory for it.
use Rattle.std.specs.Prelude.{◌≡◌, false, IfOk, Result}
use Rattle.clap.specs.Words.{App, app_of}
use Rattle.clap.specs.declared.builder.command.Command.{Command}
use Rattle.clap.specs.declared.builder.command.Command.TheViews.{out-Command}

-- a command, none of whose arguments is global
abbrev pub IsBuilt : {E : Type 0} → App → Result Command E → Type 0
IsBuilt app made = IfOk made (λ command. (app_of command ≡ app) × ((out-Command command).has_globals ≡ false))

-- a command line
abbrev pub IsLine : {E : Type 0} → App → Result Command E → Type 0
IsLine app made = IfOk made (λ command. app_of command ≡ app)
