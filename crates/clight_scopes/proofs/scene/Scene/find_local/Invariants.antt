use Rattle.std.proofs.Common.{◌≡◌, ◌≤◌, length, take}
use Rattle.clight_scopes.specs.Scopes.{find_local}
use Rattle.clight_scopes.specs.SceneOf.{blocks_of}
use Rattle.clight_scopes.proofs.scene.Scene.find_local.Given as goal

abbrev pub invariant-loop-left : goal.invariant-loop-left
invariant-loop-left l = (l.left ≤ length l.self.blocks.items) × (find_local l.name (blocks_of (take l.left l.self.blocks.items)) ≡ find_local l.name (blocks_of l.self.blocks.items))

abbrev pub decreases-loop-left : goal.decreases-loop-left
decreases-loop-left l = l.left
