use Rattle.std.proofs.Common.{◌+◌, sym, arith}
use Rattle.folder_files.specs.Gathered.{paths_of}
use Rattle.folder_files.proofs.Reading.{there_next, comes_next, told_next, reached_early}
use Rattle.folder_files.proofs.read.read_each.Goals as goal

pub read_next-requires-clause-there : goal.read_next-requires-clause-there
read_next-requires-clause-there g c =
    there_next _ _ c.args.root.now c.args.paths.now c.loop-path.path-index c.path-item.result c.loop-path.invariant.map c.requires.listed (omega arith) (sym c.path-item.is)

pub read_next-requires-clause-order : goal.read_next-requires-clause-order
read_next-requires-clause-order g c =
    comes_next c.args.paths.now c.loop-path.path-index c.path-item.result (paths_of c.loop-path.gathered.files) c.requires.listing (omega arith) (sym c.path-item.is) c.loop-path.invariant.paths

pub returns-then-gathered-gt-MOST_BYTES-clause-told : goal.returns-then-gathered-gt-MOST_BYTES-clause-told
returns-then-gathered-gt-MOST_BYTES-clause-told g c =
    reached_early _ c.args.root.now c.args.paths.now (c.loop-path.path-index + 1) c.read_next.new.gathered c.requires.listed c.if-gathered-gt-MOST_BYTES.true
    (told_next _ _ c.args.root.now c.args.paths.now c.loop-path.path-index c.path-item.result c.loop-path.gathered c.read_next.new.gathered c.loop-path.invariant.map (omega arith) (sym c.path-item.is) c.loop-path.invariant.told c.in_ok-read_next.ensures.told)
