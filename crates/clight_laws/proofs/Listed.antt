-- The function types of all calls of what is made are in a list.
use Rattle.std.proofs.Common.{ℕ}
use Rattle.clight_operands.specs.Operands.{Callee, Inside, Outside, Provided, FromValue, FromCall, Deed, NoDeed, CallDeed, AssignDeed, UpdateDeed}
use Rattle.clight_typing.specs.Statements.{Made, NothingMade, EvaluatedMade, DeedMade, BlockMade, BranchMade, WhileMade, DoMade, ForMade, SwitchMade, BreakMade, ContinueMade, ReturnMade, ReturnCallMade, MadeList, NoMade, AndMade, MadeGroups, NoGroups, AndGroup}

module _ (L : ℕ → Type 0) where
  abbrev pub IsCalleeListed : Callee → Type 0
  IsCalleeListed (Inside t f) = L t
  IsCalleeListed (Outside name t) = L t
  IsCalleeListed (Provided b) = Unit {0}

  abbrev pub IsDeedListed : Deed → Type 0
  IsDeedListed NoDeed = Unit {0}
  IsDeedListed (CallDeed f args x) = IsCalleeListed f
  IsDeedListed (AssignDeed a to (FromValue e)) = Unit {0}
  IsDeedListed (AssignDeed a to (FromCall f args x)) = IsCalleeListed f
  IsDeedListed (UpdateDeed a to o other e given) = Unit {0}

  abbrev mutual
    pub IsMadeListed : Made → Type 0
    IsMadeListed NothingMade = Unit {0}
    IsMadeListed (EvaluatedMade e) = Unit {0}
    IsMadeListed (DeedMade d) = IsDeedListed d
    IsMadeListed (BlockMade l) = AreMadeListed l
    IsMadeListed (BranchMade e x y) = IsMadeListed x × IsMadeListed y
    IsMadeListed (WhileMade e x) = IsMadeListed x
    IsMadeListed (DoMade x e) = IsMadeListed x
    IsMadeListed (ForMade f c u x) = AreMadeListed f × (IsMadeListed u × IsMadeListed x)
    IsMadeListed (SwitchMade e gs) = AreGroupsListed gs
    IsMadeListed BreakMade = Unit {0}
    IsMadeListed ContinueMade = Unit {0}
    IsMadeListed (ReturnMade e) = Unit {0}
    IsMadeListed (ReturnCallMade f args x to) = IsCalleeListed f

    pub AreMadeListed : MadeList → Type 0
    AreMadeListed NoMade = Unit {0}
    AreMadeListed (AndMade m ms) = IsMadeListed m × AreMadeListed ms

    pub AreGroupsListed : MadeGroups → Type 0
    AreGroupsListed NoGroups = Unit {0}
    AreGroupsListed (AndGroup numbers is_default l gs) = AreMadeListed l × AreGroupsListed gs
