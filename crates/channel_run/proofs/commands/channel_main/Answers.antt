use Rattle.std.proofs.Common.{◌≡◌, Option, Some, sym, ◌∙◌, subst}
use Rattle.std.specs.Option.{ForSome}
use Rattle.channel_run.specs.Command.{Command}
use Rattle.std.specs.Io.KnownBytes.{Appends}
use Rattle.channel_run.specs.Output.{AppendsPrefix}
use Rattle.channel_run.specs.Written.{ForCommand}
use Rattle.channel_run.proofs.commands.channel_main.Goals as goal

-- what holds of a command holds of the command that the words spell
for_command : (spelled : Option Command) (command : Command) (P : Command → Type 0) → spelled ≡ Some command → P command → ForSome spelled P
for_command spelled command P is holds c same =
    let one : command ≡ c = cc (sym is ∙ same) in
    subst P one holds

pub returns-in-Some-clause-through : goal.returns-in-Some-clause-through
returns-in-Some-clause-through g c = λ through. for_command _ _
    (λ command. ForCommand command (g.F.Files.map c.args.files.now) (g.S.Source.left c.args.input.now) (λ answer text. (c.carry_out.result ≡ answer) × Appends (g.O.Sink.held c.args.out.now) (g.O.Sink.held c.carry_out.new.out) text))
    c.in-Some.ensures (c.carry_out.ensures.through through)

pub returns-in-Some-clause-front : goal.returns-in-Some-clause-front
returns-in-Some-clause-front g c = for_command _ _
    (λ command. ForCommand command (g.F.Files.map c.args.files.now) (g.S.Source.left c.args.input.now) (λ answer text. AppendsPrefix (g.O.Sink.held c.args.out.now) (g.O.Sink.held c.carry_out.new.out) text))
    c.in-Some.ensures c.carry_out.ensures.front
