-- What is known of what statements do: all that they name is there, and their nodes bound what they mean.
use Rattle.std.proofs.Common.{◌≡◌, ℕ, ◌+◌, ◌*◌, ◌≤◌, Bool, true, false, List, [], ◌∷◌, ◌++◌, length, Option, Some, None, inl, inr, arith}
use Rattle.std.specs.Prelude.{◌⊎◌}
use Rattle.clight_lang.specs.Syntax.{Expression}
use Rattle.clight_scopes.specs.Scopes.{Scene}
use Rattle.clight_operands.specs.Operands.{Deed, NoDeed, CallDeed, AssignDeed, UpdateDeed}
use Rattle.clight_typing.specs.Statements.{Made, NothingMade, EvaluatedMade, DeedMade, BlockMade, BranchMade, WhileMade, DoMade, ForMade, SwitchMade, BreakMade, ContinueMade, ReturnMade, ReturnCallMade, MadeList, NoMade, AndMade, MadeGroups, NoGroups, AndGroup, joined}
use Rattle.clight_laws.proofs.Scenes.{IsLater}
use Rattle.clight_laws.proofs.Expressions.{IsMeaning, meaning_later}
use Rattle.clight_laws.proofs.Deeds.{IsDeed, IsCall, deed_later, call_later}

-- an update of memory stands one higher than its nodes
abbrev pub deed_extra : Deed → ℕ
deed_extra (UpdateDeed a to o other e given) = 1
deed_extra _ = 0

-- an expression in a statement, of so many nodes
abbrev pub IsEffect : Scene → ℕ → Made → Type 0
IsEffect s n NothingMade = Unit {0}
IsEffect s n (EvaluatedMade e) = IsMeaning s 1 n e
IsEffect s n (DeedMade d) = IsDeed s n d × (1 ≤ n)
IsEffect s n _ = ⊥

abbrev pub IsCondition : Scene → ℕ → Option Expression → Type 0
IsCondition s n None = Unit {0}
IsCondition s n (Some e) = IsMeaning s 1 n e

-- the numbers and the defaults of all groups
abbrev pub group_numbers : MadeGroups → List ℕ
group_numbers NoGroups = []
group_numbers (AndGroup numbers is_default l gs) = numbers ++ group_numbers gs

abbrev pub one_if : Bool → ℕ
one_if true = 1
one_if false = 0

abbrev pub group_defaults : MadeGroups → ℕ
group_defaults NoGroups = 0
group_defaults (AndGroup numbers is_default l gs) = one_if is_default + group_defaults gs

abbrev pub IsAbsent : ℕ → List ℕ → Type 0
IsAbsent n [] = Unit {0}
IsAbsent n (x ∷ xs) = (n ≡ x → ⊥) × IsAbsent n xs

abbrev pub AreDistinct : List ℕ → Type 0
AreDistinct [] = Unit {0}
AreDistinct (x ∷ xs) = IsAbsent x xs × AreDistinct xs

abbrev mutual
  -- whether `break` and `continue` have something to leave, and the nodes
  pub IsMade : Scene → Bool → Bool → ℕ → Made → Type 0
  IsMade s b c n NothingMade = 1 ≤ n
  IsMade s b c n (EvaluatedMade e) = (k : ℕ) × IsMeaning s 1 k e × (k ≤ n)
  IsMade s b c n (DeedMade d) = (k : ℕ) × IsDeed s k d × (1 ≤ k) × (k + deed_extra d ≤ n)
  IsMade s b c n (BlockMade l) = (k : ℕ) × AreMade s b c k l × (k + 1 ≤ n)
  IsMade s b c n (BranchMade e x y) = (ke : ℕ) × (kx : ℕ) × (ky : ℕ) × IsMeaning s 1 ke e × IsMade s b c kx x × IsMade s b c ky y × (3 * ke + 9 * kx + 9 * ky ≤ 9 * n) × (kx + ky ≤ n) × (ke ≤ n)
  IsMade s b c n (WhileMade e x) = (ke : ℕ) × (kx : ℕ) × IsMeaning s 1 ke e × IsMade s true true kx x × (ke + kx + 1 ≤ n)
  IsMade s b c n (DoMade x e) = (ke : ℕ) × (kx : ℕ) × IsMeaning s 1 ke e × IsMade s true true kx x × (ke + kx + 1 ≤ n)
  IsMade s b c n (ForMade f cnd u x) = (kf : ℕ) × (kc : ℕ) × (ku : ℕ) × (kx : ℕ) × IsFirstMade s b c kf f × IsCondition s kc cnd × IsEffect s ku u × IsMade s true true kx x × (kf + kc + ku + kx + 1 ≤ n)
  IsMade s b c n (SwitchMade e gs) = (ke : ℕ) × (kg : ℕ) × IsMeaning s 1 ke e × AreGroupsMade s c kg gs × AreDistinct (group_numbers gs) × (group_defaults gs ≤ 1) × (ke + kg + 1 ≤ n)
  IsMade s b c n BreakMade = (b ≡ true) × (1 ≤ n)
  IsMade s b c n ContinueMade = (c ≡ true) × (1 ≤ n)
  IsMade s b c n (ReturnMade None) = 1 ≤ n
  IsMade s b c n (ReturnMade (Some e)) = (k : ℕ) × IsMeaning s 0 k e × (k + 1 ≤ n)
  IsMade s b c n (ReturnCallMade f args x to) = (k : ℕ) × IsCall s k f args × (k + 1 ≤ n)

  -- the first part of a `for`: an expression or nothing, or declarations
  pub IsFirstMade : Scene → Bool → Bool → ℕ → MadeList → Type 0
  IsFirstMade s b c n NoMade = Unit {0}
  IsFirstMade s b c n (AndMade m NoMade) = IsEffect s n m ⊎ IsMade s b c n m
  IsFirstMade s b c n (AndMade m (AndMade o ms)) = (k : ℕ) × (r : ℕ) × IsMade s b c k m × AreMade s b c r (AndMade o ms) × (k + r ≤ n)

  pub AreMade : Scene → Bool → Bool → ℕ → MadeList → Type 0
  AreMade s b c n NoMade = Unit {0}
  AreMade s b c n (AndMade m ms) = (k : ℕ) × (r : ℕ) × IsMade s b c k m × AreMade s b c r ms × (k + r ≤ n)

  pub AreGroupsMade : Scene → Bool → ℕ → MadeGroups → Type 0
  AreGroupsMade s c n NoGroups = Unit {0}
  AreGroupsMade s c n (AndGroup numbers is_default l gs) = (k : ℕ) × (r : ℕ) × AreMade s true c k l × AreGroupsMade s c r gs × (length numbers + k + r ≤ n)

-- ## Later scenes

pub effect_later : (m : ℕ) (s t : Scene) → IsLater m s t → (n : ℕ) (x : Made) → IsEffect s n x → IsEffect t n x
effect_later m s t l n NothingMade h = h
effect_later m s t l n (EvaluatedMade e) h = meaning_later m s t l 1 n e h
effect_later m s t l n (DeedMade d) h = (deed_later m s t l n d h.0, h.1)
effect_later m s t l n (BlockMade x) h = absurd h
effect_later m s t l n (BranchMade e x y) h = absurd h
effect_later m s t l n (WhileMade e x) h = absurd h
effect_later m s t l n (DoMade x e) h = absurd h
effect_later m s t l n (ForMade f c u x) h = absurd h
effect_later m s t l n (SwitchMade e gs) h = absurd h
effect_later m s t l n BreakMade h = absurd h
effect_later m s t l n ContinueMade h = absurd h
effect_later m s t l n (ReturnMade e) h = absurd h
effect_later m s t l n (ReturnCallMade f args x to) h = absurd h

pub condition_later : (m : ℕ) (s t : Scene) → IsLater m s t → (n : ℕ) (o : Option Expression) → IsCondition s n o → IsCondition t n o
condition_later m s t l n None h = h
condition_later m s t l n (Some e) h = meaning_later m s t l 1 n e h

mutual
  pub made_later : (m : ℕ) (s t : Scene) → IsLater m s t → (b c : Bool) (n : ℕ) (x : Made) → IsMade s b c n x → IsMade t b c n x
  made_later m s t l b c n NothingMade h = h
  made_later m s t l b c n (EvaluatedMade e) h = (h.0, meaning_later m s t l 1 h.0 e h.1, h.2)
  made_later m s t l b c n (DeedMade d) h = (h.0, deed_later m s t l h.0 d h.1, h.2, h.3)
  made_later m s t l b c n (BlockMade x) h = (h.0, list_later m s t l b c h.0 x h.1, h.2)
  made_later m s t l b c n (BranchMade e x y) h = (h.0, h.1, h.2, meaning_later m s t l 1 h.0 e h.3, made_later m s t l b c h.1 x h.4, made_later m s t l b c h.2 y h.5, h.6, h.7, h.8)
  made_later m s t l b c n (WhileMade e x) h = (h.0, h.1, meaning_later m s t l 1 h.0 e h.2, made_later m s t l true true h.1 x h.3, h.4)
  made_later m s t l b c n (DoMade x e) h = (h.0, h.1, meaning_later m s t l 1 h.0 e h.2, made_later m s t l true true h.1 x h.3, h.4)
  made_later m s t l b c n (ForMade f o u x) h = (h.0, h.1, h.2, h.3, first_later m s t l b c h.0 f h.4, condition_later m s t l h.1 o h.5, effect_later m s t l h.2 u h.6, made_later m s t l true true h.3 x h.7, h.8)
  made_later m s t l b c n (SwitchMade e gs) h = (h.0, h.1, meaning_later m s t l 1 h.0 e h.2, groups_later m s t l c h.1 gs h.3, h.4, h.5, h.6)
  made_later m s t l b c n BreakMade h = h
  made_later m s t l b c n ContinueMade h = h
  made_later m s t l b c n (ReturnMade None) h = h
  made_later m s t l b c n (ReturnMade (Some e)) h = (h.0, meaning_later m s t l 0 h.0 e h.1, h.2)
  made_later m s t l b c n (ReturnCallMade f args x to) h = (h.0, call_later m s t l h.0 f args h.1, h.2)

  pub first_later : (m : ℕ) (s t : Scene) → IsLater m s t → (b c : Bool) (n : ℕ) (x : MadeList) → IsFirstMade s b c n x → IsFirstMade t b c n x
  first_later m s t l b c n NoMade h = h
  first_later m s t l b c n (AndMade x NoMade) (inl h) = inl (effect_later m s t l n x h)
  first_later m s t l b c n (AndMade x NoMade) (inr h) = inr (made_later m s t l b c n x h)
  first_later m s t l b c n (AndMade x (AndMade o ms)) h = (h.0, h.1, made_later m s t l b c h.0 x h.2, list_later m s t l b c h.1 (AndMade o ms) h.3, h.4)

  pub list_later : (m : ℕ) (s t : Scene) → IsLater m s t → (b c : Bool) (n : ℕ) (x : MadeList) → AreMade s b c n x → AreMade t b c n x
  list_later m s t l b c n NoMade h = h
  list_later m s t l b c n (AndMade x xs) h = (h.0, h.1, made_later m s t l b c h.0 x h.2, list_later m s t l b c h.1 xs h.3, h.4)

  pub groups_later : (m : ℕ) (s t : Scene) → IsLater m s t → (c : Bool) (n : ℕ) (gs : MadeGroups) → AreGroupsMade s c n gs → AreGroupsMade t c n gs
  groups_later m s t l c n NoGroups h = h
  groups_later m s t l c n (AndGroup numbers is_default x gs) h = (h.0, h.1, list_later m s t l true c h.0 x h.2, groups_later m s t l c h.1 gs h.3, h.4)

-- ## Lists one behind the other

pub joined_made : (s : Scene) (b c : Bool) (n m : ℕ) (xs ys : MadeList) → AreMade s b c n xs → AreMade s b c m ys → AreMade s b c (n + m) (joined xs ys)
joined_made s b c n m NoMade ys g h = more ys h
  where
    more : (ys : MadeList) → AreMade s b c m ys → AreMade s b c (n + m) ys
    more NoMade h = tt
    more (AndMade y ys) h = (h.0, h.1, h.2, h.3, (let q : h.0 + h.1 ≤ m = h.4 in omega arith))
joined_made s b c n m (AndMade x xs) ys g h = (g.0, g.1 + m, g.2, joined_made s b c g.1 m xs ys g.3 h, (let q : g.0 + g.1 ≤ n = g.4 in omega arith))

-- more nodes
pub made_more : (s : Scene) (b c : Bool) (n m : ℕ) (x : Made) → IsMade s b c n x → n ≤ m → IsMade s b c m x
made_more s b c n m NothingMade h l = omega arith
made_more s b c n m (EvaluatedMade e) h l = (h.0, h.1, (let q : h.0 ≤ n = h.2 in omega arith))
made_more s b c n m (DeedMade d) h l = (h.0, h.1, h.2, (let q : h.0 + deed_extra d ≤ n = h.3 in omega arith))
made_more s b c n m (BlockMade xs) h l = (h.0, h.1, (let q : h.0 + 1 ≤ n = h.2 in omega arith))
made_more s b c n m (BranchMade e x y) h l = (h.0, h.1, h.2, h.3, h.4, h.5, (let q : 3 * h.0 + 9 * h.1 + 9 * h.2 ≤ 9 * n = h.6 in omega arith), (let q : h.1 + h.2 ≤ n = h.7 in omega arith), (let q : h.0 ≤ n = h.8 in omega arith))
made_more s b c n m (WhileMade e x) h l = (h.0, h.1, h.2, h.3, (let q : h.0 + h.1 + 1 ≤ n = h.4 in omega arith))
made_more s b c n m (DoMade x e) h l = (h.0, h.1, h.2, h.3, (let q : h.0 + h.1 + 1 ≤ n = h.4 in omega arith))
made_more s b c n m (ForMade f o u x) h l = (h.0, h.1, h.2, h.3, h.4, h.5, h.6, h.7, (let q : h.0 + h.1 + h.2 + h.3 + 1 ≤ n = h.8 in omega arith))
made_more s b c n m (SwitchMade e gs) h l = (h.0, h.1, h.2, h.3, h.4, h.5, (let q : h.0 + h.1 + 1 ≤ n = h.6 in omega arith))
made_more s b c n m BreakMade h l = (h.0, (let q : 1 ≤ n = h.1 in omega arith))
made_more s b c n m ContinueMade h l = (h.0, (let q : 1 ≤ n = h.1 in omega arith))
made_more s b c n m (ReturnMade None) h l = omega arith
made_more s b c n m (ReturnMade (Some e)) h l = (h.0, h.1, (let q : h.0 + 1 ≤ n = h.2 in omega arith))
made_more s b c n m (ReturnCallMade f args x to) h l = (h.0, h.1, (let q : h.0 + 1 ≤ n = h.2 in omega arith))

-- an expression statement is one node more
pub effect_made : (s : Scene) (b c : Bool) (n : ℕ) (x : Made) → IsEffect s n x → IsMade s b c (1 + n) x
effect_made s b c n NothingMade h = omega arith
effect_made s b c n (EvaluatedMade e) h = (n, h, omega arith)
effect_made s b c n (DeedMade d) h = (n, h.0, h.1, one_more d)
  where
    one_more : (d : Deed) → n + deed_extra d ≤ 1 + n
    one_more NoDeed = omega arith
    one_more (CallDeed f args y) = omega arith
    one_more (AssignDeed a to e) = omega arith
    one_more (UpdateDeed a to o other e given) = omega arith
effect_made s b c n (BlockMade xs) h = absurd h
effect_made s b c n (BranchMade e x y) h = absurd h
effect_made s b c n (WhileMade e x) h = absurd h
effect_made s b c n (DoMade x e) h = absurd h
effect_made s b c n (ForMade f o u x) h = absurd h
effect_made s b c n (SwitchMade e gs) h = absurd h
effect_made s b c n BreakMade h = absurd h
effect_made s b c n ContinueMade h = absurd h
effect_made s b c n (ReturnMade e) h = absurd h
effect_made s b c n (ReturnCallMade f args x to) h = absurd h
