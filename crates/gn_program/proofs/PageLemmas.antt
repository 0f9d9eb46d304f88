-- What becomes of a command that a page is added to.
use Rattle.std.proofs.Common.{◌≡◌, ◌∙◌, ap, false, Result, Ok, Err, IfOk}
use Rattle.clap.specs.Built.{AddsSubcommand}
use Rattle.clap.specs.Words.{App, Shape, app_of, with_subcommand}
use Rattle.clap.specs.declared.builder.command.Command.{Command}
use Rattle.clap.specs.declared.builder.command.Command.TheViews.{out-Command}

-- a page's command, added to one
pub added : {E : Type 0} (old sub : Command) (app : App) (after : Result Command E) → app_of sub ≡ app → (out-Command sub).has_globals ≡ false
    → IfOk after (λ new. AddsSubcommand old sub new) → IfOk after (λ new. app_of new ≡ with_subcommand (app_of old) app.top)
added old sub app (Ok new) is local adds = adds.shape local ∙ ap (λ (a : App). with_subcommand (app_of old) a.top) is
added old sub app (Err fault) is local adds = tt

-- it stands after those that are known
pub behind : (old app new : App) (top : Shape) → new ≡ with_subcommand old top → old ≡ app → new ≡ with_subcommand app top
behind old app new top more is = more ∙ ap (λ a. with_subcommand a top) is
