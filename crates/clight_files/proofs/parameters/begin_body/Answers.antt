use Rattle.clight_scopes.specs.SceneOf.{scene_of}
use Rattle.clight_files.proofs.Blocks.{parameters_first}
use Rattle.clight_files.proofs.parameters.begin_body.Goals as goal

pub loop-number-init : goal.loop-number-init
loop-number-init c = parameters_first (scene_of c.args.scene.now) (scene_of c.enter_body.new.scene) c.args.parameters.now c.in_ok-enter_body.ensures
