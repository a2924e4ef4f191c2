-- Lists of statements that are put together, and what is judged one part behind another.
use Rattle.std.proofs.Common.{◌≡◌, ℕ, List, [], ◌∷◌, ◌++◌, refl, sym, ap, ◌∙◌}
use Rattle.clight_typing.specs.Statements.{MadeList, NoMade, AndMade, MadeGroups, NoGroups, AndGroup, alone, joined}
use Rattle.clight_made.specs.declared.made.Made.{Made}
use Rattle.clight_made.specs.declared.made.MadeGroup.{MadeGroup}
use Rattle.clight_made.specs.MadeOf.{made_of, made_list, made_groups}
use Rattle.clight_statements.specs.StatementsOf.{groups_joined}

pub joined_none : (l : MadeList) → joined l NoMade ≡ l
joined_none NoMade = refl
joined_none (AndMade m l) = ap (AndMade m) (joined_none l)

pub joined_twice : (a b c : MadeList) → joined (joined a b) c ≡ joined a (joined b c)
joined_twice NoMade b c = refl
joined_twice (AndMade m a) b c = ap (AndMade m) (joined_twice a b c)

pub more : (xs ys : List Made) → made_list (xs ++ ys) ≡ joined (made_list xs) (made_list ys)
more [] ys = refl
more (x ∷ xs) ys = ap (AndMade (made_of x)) (more xs ys)

pub one_more : (xs : List Made) (x : Made) → made_list (xs ++ x ∷ []) ≡ joined (made_list xs) (alone (made_of x))
one_more xs x = more xs (x ∷ [])

pub groups_joined_none : (l : MadeGroups) → groups_joined l NoGroups ≡ l
groups_joined_none NoGroups = refl
groups_joined_none (AndGroup ns d ms l) = ap (AndGroup ns d ms) (groups_joined_none l)

pub groups_joined_twice : (a b c : MadeGroups) → groups_joined (groups_joined a b) c ≡ groups_joined a (groups_joined b c)
groups_joined_twice NoGroups b c = refl
groups_joined_twice (AndGroup ns d ms a) b c = ap (AndGroup ns d ms) (groups_joined_twice a b c)

pub group_more : (xs : List MadeGroup) (x : MadeGroup) → made_groups (xs ++ x ∷ []) ≡ groups_joined (made_groups xs) (AndGroup x.numbers.items x.is_default (made_list x.statements.items) NoGroups)
group_more [] x = refl
group_more (y ∷ ys) x = ap (AndGroup y.numbers.items y.is_default (made_list y.statements.items)) (group_more ys x)
