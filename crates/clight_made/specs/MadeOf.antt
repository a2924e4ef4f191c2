-- Which tree the code's tree of a statement is.
use Rattle.std.specs.Prelude.{List, [], ◌∷◌, map}
use Rattle.std.specs.Option.{option_map}
use Rattle.clight_lang.specs.Syntax.{expression_of}
use Rattle.clight_operands.specs.Shown.{callee_of, deed_of}
use Rattle.clight_typing.specs.Statements.{NothingMade, EvaluatedMade, DeedMade, BlockMade, BranchMade, WhileMade, DoMade, ForMade, SwitchMade, BreakMade, ContinueMade, ReturnMade, ReturnCallMade, MadeList, NoMade, AndMade, MadeGroups, NoGroups, AndGroup}
use Rattle.clight_typing.specs.Statements as s
use Rattle.clight_made.specs.declared.made.Made.{Made, Row_of-MadeGroup, end_of-MadeGroup, more_of-MadeGroup}
use Rattle.clight_made.specs.declared.made.Made.TheVariants as m
use Rattle.clight_made.specs.declared.made.MadeGroup.{MadeGroup, Row_of-Made, end_of-Made, more_of-Made}

abbrev mutual
  pub made_of : Made → s.Made
  made_of m.Nothing = NothingMade
  made_of (m.Evaluated e) = EvaluatedMade (expression_of e)
  made_of (m.Deed d) = DeedMade (deed_of d)
  made_of (m.Block' shape ms) = BlockMade (made_row ms)
  made_of (m.Branch' e p a q b) = BranchMade (expression_of e) (made_of a) (made_of b)
  made_of (m.While' e p a) = WhileMade (expression_of e) (made_of a)
  made_of (m.Do' p a e) = DoMade (made_of a) (expression_of e)
  made_of (m.For' shape ms c p u q a) = ForMade (made_row ms) (option_map expression_of c) (made_of u) (made_of a)
  made_of (m.Switch' e shape gs) = SwitchMade (expression_of e) (groups_row gs)
  made_of m.Break = BreakMade
  made_of m.Continue = ContinueMade
  made_of (m.Return e) = ReturnMade (option_map expression_of e)
  made_of (m.ReturnCall f args from to) = ReturnCallMade (callee_of f) (map expression_of args.items) from to

  pub made_row : {k : _} → Row_of-Made k → MadeList
  made_row end_of-Made = NoMade
  made_row (more_of-Made x xs) = AndMade (made_of x) (made_row xs)

  pub groups_row : {k : _} → Row_of-MadeGroup k → MadeGroups
  groups_row end_of-MadeGroup = NoGroups
  groups_row (more_of-MadeGroup ns d shape ms gs) = AndGroup ns.items d (made_row ms) (groups_row gs)

abbrev pub made_list : List Made → MadeList
made_list [] = NoMade
made_list (x ∷ xs) = AndMade (made_of x) (made_list xs)

abbrev pub made_groups : List MadeGroup → MadeGroups
made_groups [] = NoGroups
made_groups (g ∷ gs) = AndGroup g.numbers.items g.is_default (made_list g.statements.items) (made_groups gs)
