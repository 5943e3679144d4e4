use Rattle.std.proofs.Common.{map, ap, ◌∙◌, sym}
use Rattle.chan_values.specs.View.{tree_of}
use Rattle.chan_values.proofs.Lists.{map_none}
use Rattle.chan_values.proofs.portable.ItemList.is_empty.Goals as goal

pub returns : goal.returns
returns c = (
  λ h. sym c.self.view_is ∙ ap (map tree_of) (c.is_empty.ensures.0 h),
  λ e. c.is_empty.ensures.1 (map_none tree_of _ (c.self.view_is ∙ e)),
)
