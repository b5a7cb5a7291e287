-- The shapes that the words of the command line may have.
use Rattle.std.specs.Prelude.{ℕ, List, [], ◌∷◌, if◌then◌else◌, Option, Some, None, codes}
use Rattle.std.specs.Str.{bytes_eq}
use Rattle.kernel_cli.specs.declared.words.Command.{Command}
use Rattle.kernel_cli.specs.declared.words.Command.TheVariants.{Run}
use Rattle.kernel_cli.specs.declared.words.TheConstants.{DEFAULT_STEPS}

-- `run` alone
abbrev pub command_of : List (List ℕ) → Option Command
command_of (word ∷ []) = if bytes_eq word (codes "run") then Some (Run DEFAULT_STEPS) else None
command_of _ = None
