use Rattle.tso_memory.proofs.MemoryLaws.{view-append, view-drained, loaded-newest}
use Rattle.tso_memory.proofs.Views.{is_some-view}
use Rattle.tso_memory.proofs.laws.views_behind_items.Goals as goal

pub returns : goal.returns
returns c = record { fold = view-append; drained = view-drained; right = is_some-view; newest = loaded-newest }
