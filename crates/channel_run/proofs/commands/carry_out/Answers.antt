use Rattle.std.proofs.Common.{◌≡◌, ap}
use Rattle.std.specs.Io.KnownBytes.{Appends}
use Rattle.folder_files.specs.declared.answer.FolderAnswer.TheVariants.{Fault}
use Rattle.channel_run.specs.Output.{AppendsPrefix}
use Rattle.channel_run.specs.Refusal.{refused_for}
use Rattle.channel_run.proofs.FolderReads.{refused_by, for_refused, for_good, refused_told, good_told, checked, ran}
use Rattle.channel_run.proofs.commands.carry_out.Goals as goal

pub returns-in-Err-Fault-clause-through : goal.returns-in-Err-Fault-clause-through
returns-in-Err-Fault-clause-through g c = λ through.
    let same : c.in-Err-Fault.field-0 ≡ Fault c.in-Err-Fault.fault = cc (c.in-Err-Fault.field-0-is, c.in-Err-Fault.fault-is) in
    let told = refused_by (g.F.Files.map c.args.files.now) c.args.command.now.root.now c.in-Err-Fault.field-0 c.in-Err-Fault.fault same c.in-Err-Fault.ensures.checked in
    for_refused c.one_first_fault.ensures (record { root = c.args.command.now.root.now; work = c.args.command.now.work })
    (g.F.Files.map c.args.files.now) (g.S.Source.left c.args.input.now) c.in-Err-Fault.fault
    (λ answer text. (c.refuse.result ≡ answer) × Appends (g.O.Sink.held c.args.out.now) (g.O.Sink.held c.refuse.new.out) text)
    told (c.refuse.ensures.through through)

pub returns-in-Err-Fault-clause-folder : goal.returns-in-Err-Fault-clause-folder
returns-in-Err-Fault-clause-folder g c = λ through.
    let same : c.in-Err-Fault.field-0 ≡ Fault c.in-Err-Fault.fault = cc (c.in-Err-Fault.field-0-is, c.in-Err-Fault.fault-is) in
    let told = refused_by (g.F.Files.map c.args.files.now) c.args.command.now.root.now c.in-Err-Fault.field-0 c.in-Err-Fault.fault same c.in-Err-Fault.ensures.checked in
    refused_told (g.F.Files.map c.args.files.now) c.args.command.now.root.now c.refuse.result c.in-Err-Fault.fault told (c.refuse.ensures.through through).0

pub returns-in-Err-Fault-clause-front : goal.returns-in-Err-Fault-clause-front
returns-in-Err-Fault-clause-front g c =
    let same : c.in-Err-Fault.field-0 ≡ Fault c.in-Err-Fault.fault = cc (c.in-Err-Fault.field-0-is, c.in-Err-Fault.fault-is) in
    let told = refused_by (g.F.Files.map c.args.files.now) c.args.command.now.root.now c.in-Err-Fault.field-0 c.in-Err-Fault.fault same c.in-Err-Fault.ensures.checked in
    for_refused c.one_first_fault.ensures (record { root = c.args.command.now.root.now; work = c.args.command.now.work })
    (g.F.Files.map c.args.files.now) (g.S.Source.left c.args.input.now) c.in-Err-Fault.fault
    (λ answer text. AppendsPrefix (g.O.Sink.held c.args.out.now) (g.O.Sink.held c.refuse.new.out) text)
    told c.refuse.ensures.front

pub returns-in-Check-clause-through : goal.returns-in-Check-clause-through
returns-in-Check-clause-through g c = λ through.
    for_good c.one_first_fault.ensures (record { root = c.args.command.now.root.now; work = c.args.command.now.work })
    (g.F.Files.map c.args.files.now) (g.S.Source.left c.args.input.now) c.in-Ok.listing
    (λ answer text. (c.tell_good.result ≡ answer) × Appends (g.O.Sink.held c.args.out.now) (g.O.Sink.held c.tell_good.new.out) text)
    c.in-Ok.ensures.checked
    (checked c.args.command.now.work c.in-Ok.listing (g.S.Source.left c.args.input.now)
    (λ answer text. (c.tell_good.result ≡ answer) × Appends (g.O.Sink.held c.args.out.now) (g.O.Sink.held c.tell_good.new.out) text)
    c.in-Check.is (c.tell_good.ensures.through through))

pub returns-in-Check-clause-folder : goal.returns-in-Check-clause-folder
returns-in-Check-clause-folder g c = λ through.
    good_told (g.F.Files.map c.args.files.now) c.args.command.now.root.now c.in-Ok.listing c.tell_good.result c.in-Ok.ensures.checked
    (ap refused_for (c.tell_good.ensures.through through).0)

pub returns-in-Check-clause-front : goal.returns-in-Check-clause-front
returns-in-Check-clause-front g c =
    for_good c.one_first_fault.ensures (record { root = c.args.command.now.root.now; work = c.args.command.now.work })
    (g.F.Files.map c.args.files.now) (g.S.Source.left c.args.input.now) c.in-Ok.listing
    (λ answer text. AppendsPrefix (g.O.Sink.held c.args.out.now) (g.O.Sink.held c.tell_good.new.out) text)
    c.in-Ok.ensures.checked
    (checked c.args.command.now.work c.in-Ok.listing (g.S.Source.left c.args.input.now)
    (λ answer text. AppendsPrefix (g.O.Sink.held c.args.out.now) (g.O.Sink.held c.tell_good.new.out) text)
    c.in-Check.is c.tell_good.ensures.front)

pub returns-clause-through : goal.returns-clause-through
returns-clause-through g c = λ through.
    for_good c.one_first_fault.ensures (record { root = c.args.command.now.root.now; work = c.args.command.now.work })
    (g.F.Files.map c.args.files.now) (g.S.Source.left c.args.input.now) c.in-Ok.listing
    (λ answer text. (c.run_folder.result ≡ answer) × Appends (g.O.Sink.held c.args.out.now) (g.O.Sink.held c.run_folder.new.out) text)
    c.in-Ok.ensures.checked
    (ran c.args.command.now.work c.in-Run.bound c.as_slice.result.now c.in-Ok.listing (g.S.Source.left c.args.input.now)
    (λ answer text. (c.run_folder.result ≡ answer) × Appends (g.O.Sink.held c.args.out.now) (g.O.Sink.held c.run_folder.new.out) text)
    c.in-Run.is c.as_slice.ensures.files (c.run_folder.ensures.through through))

pub returns-clause-folder : goal.returns-clause-folder
returns-clause-folder g c = λ through.
    good_told (g.F.Files.map c.args.files.now) c.args.command.now.root.now c.in-Ok.listing c.run_folder.result c.in-Ok.ensures.checked c.run_folder.ensures.folder

pub returns-clause-front : goal.returns-clause-front
returns-clause-front g c =
    for_good c.one_first_fault.ensures (record { root = c.args.command.now.root.now; work = c.args.command.now.work })
    (g.F.Files.map c.args.files.now) (g.S.Source.left c.args.input.now) c.in-Ok.listing
    (λ answer text. AppendsPrefix (g.O.Sink.held c.args.out.now) (g.O.Sink.held c.run_folder.new.out) text)
    c.in-Ok.ensures.checked
    (ran c.args.command.now.work c.in-Run.bound c.as_slice.result.now c.in-Ok.listing (g.S.Source.left c.args.input.now)
    (λ answer text. AppendsPrefix (g.O.Sink.held c.args.out.now) (g.O.Sink.held c.run_folder.new.out) text)
    c.in-Run.is c.as_slice.ensures.files c.run_folder.ensures.front)
