-- `change::edit::put_list` meets its contract: the row is copied into its place.
use mathlib.Core.Path.{◌∙◌}
use Rattle.change.proofs.PutLaws.{put-pasted}
use Rattle.change.proofs.edit.put_list.Goals as goal

pub returns : goal.returns
returns c = c.put.ensures ∙ put-pasted _ _ _ c.requires
