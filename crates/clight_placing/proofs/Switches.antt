-- A switch, once its groups are made.
use Rattle.std.proofs.Common.{◌≡◌, ℕ, List, Result, Ok, Err, sym, ap, ◌∙◌}
use Rattle.std.specs.Prelude.{Vec, IfOk}
use Rattle.std.specs.declared.alloc.Global.{Global}
use Rattle.std.specs.declared.rc.Rc.{Rc}
use Rattle.tso_words.specs.declared.name.NoMemory.{NoMemory}
use Rattle.clight_lang.specs.declared.expression.Expr.{Expr}
use Rattle.clight_lang.specs.declared.statement.Stmt.{Stmt}
use Rattle.clight_lang.specs.Syntax.{expression_of}
use Rattle.clight_made.specs.declared.made.Made.{Made}
use Rattle.clight_made.specs.declared.made.Made.TheVariants.{Switch}
use Rattle.clight_made.specs.declared.made.MadeGroup.{MadeGroup}
use Rattle.clight_made.specs.MadeOf.{made_of, made_groups}
use Rattle.clight_made.proofs.Shapes.{switch_shape}
use Rattle.clight_placing.specs.declared.statements.SwitchBody.{SwitchBody}
use Rattle.clight_placing.specs.Placing.{Inner, meant, groups_meant}
use Rattle.clight_placing.specs.Listed.{meant_of, switch_of}
use Rattle.clight_placing.specs.Switched.{switch_with}

module _ (w : Inner) (n : ℕ) (made : Made) (e : Expr) (gs : Vec MadeGroup Global) (list : List MadeGroup) (body : SwitchBody) (is : made ≡ Switch e gs) (items : list ≡ gs.items) (step : switch_of body ≡ groups_meant w n 0 (made_groups list)) where
  placed_switch : switch_with w (expression_of e) (switch_of body) ≡ meant w n (made_of made)
  placed_switch =
      ap (switch_with w (expression_of e)) step
      ∙ ap (λ l. switch_with w (expression_of e) (groups_meant w n 0 (made_groups l))) items
      ∙ sym (ap (meant w n) (ap made_of is ∙ switch_shape e gs))

  pub switch_made : (o : Result (Rc Stmt Global × ℕ) NoMemory) → IfOk o (λ r. meant_of r ≡ switch_with w (expression_of e) (switch_of body)) → IfOk o (λ r. meant_of r ≡ meant w n (made_of made))
  switch_made (Ok r) h = h ∙ placed_switch
  switch_made (Err x) h = h
