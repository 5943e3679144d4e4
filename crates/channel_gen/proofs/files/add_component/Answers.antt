use Rattle.std.proofs.Common.{rules}
use Rattle.channel_gen.specs.MadeChannel.{component_file}
use Rattle.channel_gen.proofs.Numbers.{added}
use Rattle.channel_gen.proofs.files.add_component.Goals as goal

pub returns : goal.returns
returns c = added _ _ _ c.as_str.result.now c.as_bytes.result.now (component_file c.args.number) c.append.ensures.ok (search rules) (search rules)
