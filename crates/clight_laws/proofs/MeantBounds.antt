-- The weight, the height and the fresh temporaries of whole statements.
use Rattle.std.proofs.Common.{◌≡◌, ℕ, ◌+◌, ◌*◌, ◌≤◌, Bool, true, List, ◌∷◌, length, max, Option, Some, None, inl, inr, arith}
use Rattle.std.proofs.lemmas.List.Sums.{sum_by-cons}
use Rattle.clight_lang.specs.Syntax.{Expression, Temp, GroupOf, Statement, Statements, Nil, Cons, Block, Loop}
use Rattle.clight_lang.specs.WellMade.{expression_weight, numbers_in, statement_weight, statements_weight, expression_height, statement_height, statements_height}
use Rattle.clight_scopes.specs.Scopes.{Scene}
use Rattle.clight_operands.specs.Applied.{converted}
use Rattle.clight_typing.specs.Statements.{Made, NothingMade, EvaluatedMade, DeedMade, BlockMade, BranchMade, WhileMade, DoMade, ForMade, SwitchMade, BreakMade, ContinueMade, ReturnMade, ReturnCallMade, MadeList, NoMade, AndMade, MadeGroups, NoGroups, AndGroup}
use Rattle.clight_placing.specs.Placing.{Inner, placed, call_into, deed_meant, tested, count_statements, both, GroupsMeant, group_onto, meant, all_meant, groups_meant}
use Rattle.clight_laws.proofs.Made.{IsCondition, IsMade, IsFirstMade, AreMade, AreGroupsMade, deed_extra}
use Rattle.clight_laws.proofs.Meant.{placed_weight, placed_height, IsBounded, AreBounded, IsEffectBounded, call_bounds, converted_weight, converted_height}
use Rattle.clight_laws.proofs.Bounds.{deed_bounded, effect_bounded}

pub record AreGroupsBounded (n start : ℕ) (g : GroupsMeant) : Type 0 where
  pub weight : numbers_in g.groups + statements_weight g.statements ≤ 9 * n
  pub height : statements_height g.statements ≤ n + 1
  pub more : start ≤ g.next
  pub fresh : g.next ≤ start + 2 * n

-- the first part of a `for`
pub record IsFirstBounded (n start : ℕ) (r : Statements × ℕ) : Type 0 where
  pub weight : statements_weight r.0 ≤ 9 * n + 1
  pub height : statements_height r.0 ≤ n + 2
  pub more : start ≤ r.1
  pub fresh : r.1 ≤ start + 2 * n

pub both_weight : (a b : Statements) → statements_weight (both a b) ≡ statements_weight a + statements_weight b
both_weight Nil b = (let e : statements_weight b ≡ 0 + statements_weight b = omega arith in e)
both_weight (Cons s a) b = (let e : statements_weight (both a b) ≡ statements_weight a + statements_weight b = both_weight a b in omega arith)

pub both_height : (a b : Statements) → statements_height (both a b) ≡ max (statements_height a) (statements_height b)
both_height Nil b = (let e : statements_height b ≡ max 0 (statements_height b) = omega arith in e)
both_height (Cons s a) b = (let e : statements_height (both a b) ≡ max (statements_height a) (statements_height b) = both_height a b in omega arith)

numbers_more : (numbers : List ℕ) (d : Bool) (from : ℕ) (gs : List GroupOf) → numbers_in ((record { numbers = numbers; is_default = d; from = from }) ∷ gs) ≡ length numbers + numbers_in gs
numbers_more numbers d from gs = sum_by-cons (λ g. length g.numbers) (record { numbers = numbers; is_default = d; from = from }) gs

module _ (s : Scene) (w : Inner) where
  tested_weight : (n : ℕ) (o : Option Expression) (x : Statement) → IsCondition s n o → (statement_weight (tested w o x) ≤ 3 * n + 4 + statement_weight x) × (statement_height (tested w o x) ≤ max n (statement_height x))
  tested_weight n None x h = (omega arith, omega arith)
  tested_weight n (Some e) x h =
      let pw : expression_weight (placed w e) ≤ expression_weight e = placed_weight w e in let ph : expression_height (placed w e) ≤ expression_height e = placed_height w e in
      let mw : expression_weight e + 1 ≤ 3 * n = h.weight in let mh : expression_height e ≤ n = h.height in
      (omega arith, omega arith)

  for_bounded : (n kf kc ku kx start : ℕ) (p : Statements × ℕ) (r q : Statement × ℕ) (o : Option Expression) → IsFirstBounded kf start p → IsEffectBounded ku p.1 r → IsBounded kx r.1 q → IsCondition s kc o → kf + kc + ku + kx + 1 ≤ n → IsBounded n start (Block (both p.0 (Cons (Loop (tested w o q.0) r.0) Nil)), q.1)
  for_bounded n kf kc ku kx start p r q o hp hr hq hc l =
      let t = tested_weight kc o q.0 hc in
      let tw : statement_weight (tested w o q.0) ≤ 3 * kc + 4 + statement_weight q.0 = t.0 in let th : statement_height (tested w o q.0) ≤ max kc (statement_height q.0) = t.1 in
      let bw : statements_weight (both p.0 (Cons (Loop (tested w o q.0) r.0) Nil)) ≡ statements_weight p.0 + statements_weight (Cons (Loop (tested w o q.0) r.0) Nil) = both_weight p.0 (Cons (Loop (tested w o q.0) r.0) Nil) in
      let bh : statements_height (both p.0 (Cons (Loop (tested w o q.0) r.0) Nil)) ≡ max (statements_height p.0) (statements_height (Cons (Loop (tested w o q.0) r.0) Nil)) = both_height p.0 (Cons (Loop (tested w o q.0) r.0) Nil) in
      let pw : statements_weight p.0 ≤ 9 * kf + 1 = hp.weight in let ph : statements_height p.0 ≤ kf + 2 = hp.height in let pm : start ≤ p.1 = hp.more in let pf : p.1 ≤ start + 2 * kf = hp.fresh in
      let rw0 : statement_weight r.0 ≤ 9 * ku + 1 = hr.weight in let rh : statement_height r.0 ≤ ku + 2 = hr.height in let rm : p.1 ≤ r.1 = hr.more in let rf : r.1 ≤ p.1 + 2 * ku = hr.fresh in
      let qw : statement_weight q.0 ≤ 9 * kx = hq.weight in let qh : statement_height q.0 ≤ kx + 1 = hq.height in let qm : r.1 ≤ q.1 = hq.more in let qf : q.1 ≤ r.1 + 2 * kx = hq.fresh in
      record { weight = omega arith; height = omega arith; more = omega arith; fresh = omega arith }

  group_bounded : (n a b start : ℕ) (numbers : List ℕ) (d : Bool) (from : ℕ) (r : Statements × ℕ) (g : GroupsMeant) → AreBounded a start r → AreGroupsBounded b r.1 g → length numbers + a + b ≤ n → AreGroupsBounded n start (group_onto numbers d from r.0 g)
  group_bounded n a b start numbers d from r g hr hg l =
      let nw : numbers_in ((record { numbers = numbers; is_default = d; from = from }) ∷ g.groups) ≡ length numbers + numbers_in g.groups = numbers_more numbers d from g.groups in
      let bw : statements_weight (both r.0 g.statements) ≡ statements_weight r.0 + statements_weight g.statements = both_weight r.0 g.statements in
      let bh : statements_height (both r.0 g.statements) ≡ max (statements_height r.0) (statements_height g.statements) = both_height r.0 g.statements in
      let rw0 : statements_weight r.0 ≤ 9 * a = hr.weight in let rh : statements_height r.0 ≤ a + 1 = hr.height in let rm : start ≤ r.1 = hr.more in let rf : r.1 ≤ start + 2 * a = hr.fresh in
      let gw : numbers_in g.groups + statements_weight g.statements ≤ 9 * b = hg.weight in let gh : statements_height g.statements ≤ b + 1 = hg.height in let gm : r.1 ≤ g.next = hg.more in let gf : g.next ≤ r.1 + 2 * b = hg.fresh in
      record { weight = omega arith; height = omega arith; more = omega arith; fresh = omega arith }

  mutual
    pub meant_bounded : (b c : Bool) (n start : ℕ) (m : Made) → IsMade s b c n m → IsBounded n start (meant w start m)
    meant_bounded b c n start NothingMade h = record { weight = omega arith; height = omega arith; more = omega arith; fresh = omega arith }
    meant_bounded b c n start (EvaluatedMade e) h =
        let pw : expression_weight (placed w e) ≤ expression_weight e = placed_weight w e in let ph : expression_height (placed w e) ≤ expression_height e = placed_height w e in
        let mw : expression_weight e + 1 ≤ 3 * h.0 = h.1.weight in let mh : expression_height e ≤ h.0 = h.1.height in let l : h.0 ≤ n = h.2 in
        record { weight = omega arith; height = omega arith; more = omega arith; fresh = omega arith }
    meant_bounded b c n start (DeedMade d) h =
        let q = deed_bounded s w start h.0 d h.2 h.1 in
        let bw : statement_weight (deed_meant w start d).0 ≤ 9 * h.0 = q.weight in let bh : statement_height (deed_meant w start d).0 ≤ h.0 + 1 + deed_extra d = q.height in
        let bm : start ≤ (deed_meant w start d).1 = q.more in let bf : (deed_meant w start d).1 ≤ start + 2 * h.0 = q.fresh in let l : h.0 + deed_extra d ≤ n = h.3 in
        record { weight = omega arith; height = omega arith; more = omega arith; fresh = omega arith }
    meant_bounded b c n start (BlockMade l) h =
        let q = all_bounded b c h.0 start l h.1 in
        let bw : statements_weight (all_meant w start l).0 ≤ 9 * h.0 = q.weight in let bh : statements_height (all_meant w start l).0 ≤ h.0 + 1 = q.height in
        let bm : start ≤ (all_meant w start l).1 = q.more in let bf : (all_meant w start l).1 ≤ start + 2 * h.0 = q.fresh in let u : h.0 + 1 ≤ n = h.2 in
        record { weight = omega arith; height = omega arith; more = omega arith; fresh = omega arith }
    meant_bounded b c n start (BranchMade e x y) h =
        let r = meant_bounded b c h.1 start x h.4 in
        let q = meant_bounded b c h.2 (meant w start x).1 y h.5 in
        let rw0 : statement_weight (meant w start x).0 ≤ 9 * h.1 = r.weight in let rh : statement_height (meant w start x).0 ≤ h.1 + 1 = r.height in let rm : start ≤ (meant w start x).1 = r.more in let rf : (meant w start x).1 ≤ start + 2 * h.1 = r.fresh in
        let qw : statement_weight (meant w (meant w start x).1 y).0 ≤ 9 * h.2 = q.weight in let qh : statement_height (meant w (meant w start x).1 y).0 ≤ h.2 + 1 = q.height in let qm : (meant w start x).1 ≤ (meant w (meant w start x).1 y).1 = q.more in let qf : (meant w (meant w start x).1 y).1 ≤ (meant w start x).1 + 2 * h.2 = q.fresh in
        let pw : expression_weight (placed w e) ≤ expression_weight e = placed_weight w e in let ph : expression_height (placed w e) ≤ expression_height e = placed_height w e in
        let mw : expression_weight e + 1 ≤ 3 * h.0 = h.3.weight in let mh : expression_height e ≤ h.0 = h.3.height in
        let l1 : 3 * h.0 + 9 * h.1 + 9 * h.2 ≤ 9 * n = h.6 in let l2 : h.1 + h.2 ≤ n = h.7 in let l3 : h.0 ≤ n = h.8 in
        record { weight = omega arith; height = omega arith; more = omega arith; fresh = omega arith }
    meant_bounded b c n start (WhileMade e x) h =
        let r = meant_bounded true true h.1 start x h.3 in
        let rw0 : statement_weight (meant w start x).0 ≤ 9 * h.1 = r.weight in let rh : statement_height (meant w start x).0 ≤ h.1 + 1 = r.height in let rm : start ≤ (meant w start x).1 = r.more in let rf : (meant w start x).1 ≤ start + 2 * h.1 = r.fresh in
        let pw : expression_weight (placed w e) ≤ expression_weight e = placed_weight w e in let ph : expression_height (placed w e) ≤ expression_height e = placed_height w e in
        let mw : expression_weight e + 1 ≤ 3 * h.0 = h.2.weight in let mh : expression_height e ≤ h.0 = h.2.height in let l : h.0 + h.1 + 1 ≤ n = h.4 in
        record { weight = omega arith; height = omega arith; more = omega arith; fresh = omega arith }
    meant_bounded b c n start (DoMade x e) h =
        let r = meant_bounded true true h.1 start x h.3 in
        let rw0 : statement_weight (meant w start x).0 ≤ 9 * h.1 = r.weight in let rh : statement_height (meant w start x).0 ≤ h.1 + 1 = r.height in let rm : start ≤ (meant w start x).1 = r.more in let rf : (meant w start x).1 ≤ start + 2 * h.1 = r.fresh in
        let pw : expression_weight (placed w e) ≤ expression_weight e = placed_weight w e in let ph : expression_height (placed w e) ≤ expression_height e = placed_height w e in
        let mw : expression_weight e + 1 ≤ 3 * h.0 = h.2.weight in let mh : expression_height e ≤ h.0 = h.2.height in let l : h.0 + h.1 + 1 ≤ n = h.4 in
        record { weight = omega arith; height = omega arith; more = omega arith; fresh = omega arith }
    meant_bounded b c n start (ForMade f o u x) h =
        let p = first_bounded b c h.0 start f h.4 in
        let r = effect_bounded s w (all_meant w start f).1 h.2 u h.6 in
        let q = meant_bounded true true h.3 (meant w (all_meant w start f).1 u).1 x h.7 in
        for_bounded n h.0 h.1 h.2 h.3 start (all_meant w start f) (meant w (all_meant w start f).1 u) (meant w (meant w (all_meant w start f).1 u).1 x) o p r q h.5 h.8
    meant_bounded b c n start (SwitchMade e gs) h =
        let g = groups_bounded c h.1 start 0 gs h.3 in
        let gw : numbers_in (groups_meant w start 0 gs).groups + statements_weight (groups_meant w start 0 gs).statements ≤ 9 * h.1 = g.weight in let gh : statements_height (groups_meant w start 0 gs).statements ≤ h.1 + 1 = g.height in
        let gm : start ≤ (groups_meant w start 0 gs).next = g.more in let gf : (groups_meant w start 0 gs).next ≤ start + 2 * h.1 = g.fresh in
        let pw : expression_weight (placed w e) ≤ expression_weight e = placed_weight w e in let ph : expression_height (placed w e) ≤ expression_height e = placed_height w e in
        let mw : expression_weight e + 1 ≤ 3 * h.0 = h.2.weight in let mh : expression_height e ≤ h.0 = h.2.height in let l : h.0 + h.1 + 1 ≤ n = h.6 in
        record { weight = omega arith; height = omega arith; more = omega arith; fresh = omega arith }
    meant_bounded b c n start BreakMade h = (let l : 1 ≤ n = h.1 in record { weight = omega arith; height = omega arith; more = omega arith; fresh = omega arith })
    meant_bounded b c n start ContinueMade h = (let l : 1 ≤ n = h.1 in record { weight = omega arith; height = omega arith; more = omega arith; fresh = omega arith })
    meant_bounded b c n start (ReturnMade None) h = record { weight = omega arith; height = omega arith; more = omega arith; fresh = omega arith }
    meant_bounded b c n start (ReturnMade (Some e)) h =
        let pw : expression_weight (placed w e) ≤ expression_weight e = placed_weight w e in let ph : expression_height (placed w e) ≤ expression_height e = placed_height w e in
        let mw : expression_weight e + 0 ≤ 3 * h.0 = h.1.weight in let mh : expression_height e ≤ h.0 = h.1.height in let l : h.0 + 1 ≤ n = h.2 in
        record { weight = omega arith; height = omega arith; more = omega arith; fresh = omega arith }
    meant_bounded b c n start (ReturnCallMade f args x to) h =
        let k0 = call_bounds s w start h.0 f args h.1 in
        let cw : statement_weight (call_into w start f args) ≤ 4 * h.0 = k0.0 in let ch : statement_height (call_into w start f args) ≤ h.0 = k0.1 in
        let vw : expression_weight (converted x to (Temp start)) ≤ expression_weight (Temp start) + 1 = converted_weight s w x to (Temp start) in let vh : expression_height (converted x to (Temp start)) ≤ expression_height (Temp start) = converted_height s w x to (Temp start) in
        let l : h.0 + 1 ≤ n = h.2 in
        record { weight = omega arith; height = omega arith; more = omega arith; fresh = omega arith }

    pub first_bounded : (b c : Bool) (n start : ℕ) (f : MadeList) → IsFirstMade s b c n f → IsFirstBounded n start (all_meant w start f)
    first_bounded b c n start NoMade h = record { weight = omega arith; height = omega arith; more = omega arith; fresh = omega arith }
    first_bounded b c n start (AndMade m NoMade) (inl h) =
        let r = effect_bounded s w start n m h in
        let rw0 : statement_weight (meant w start m).0 ≤ 9 * n + 1 = r.weight in let rh : statement_height (meant w start m).0 ≤ n + 2 = r.height in let rm : start ≤ (meant w start m).1 = r.more in let rf : (meant w start m).1 ≤ start + 2 * n = r.fresh in
        record { weight = omega arith; height = omega arith; more = omega arith; fresh = omega arith }
    first_bounded b c n start (AndMade m NoMade) (inr h) =
        let r = meant_bounded b c n start m h in
        let rw0 : statement_weight (meant w start m).0 ≤ 9 * n = r.weight in let rh : statement_height (meant w start m).0 ≤ n + 1 = r.height in let rm : start ≤ (meant w start m).1 = r.more in let rf : (meant w start m).1 ≤ start + 2 * n = r.fresh in
        record { weight = omega arith; height = omega arith; more = omega arith; fresh = omega arith }
    first_bounded b c n start (AndMade m (AndMade o ms)) h =
        let r = meant_bounded b c h.0 start m h.2 in
        let q = all_bounded b c h.1 (meant w start m).1 (AndMade o ms) h.3 in
        let rw0 : statement_weight (meant w start m).0 ≤ 9 * h.0 = r.weight in let rh : statement_height (meant w start m).0 ≤ h.0 + 1 = r.height in let rm : start ≤ (meant w start m).1 = r.more in let rf : (meant w start m).1 ≤ start + 2 * h.0 = r.fresh in
        let qw : statements_weight (all_meant w (meant w start m).1 (AndMade o ms)).0 ≤ 9 * h.1 = q.weight in let qh : statements_height (all_meant w (meant w start m).1 (AndMade o ms)).0 ≤ h.1 + 1 = q.height in let qm : (meant w start m).1 ≤ (all_meant w (meant w start m).1 (AndMade o ms)).1 = q.more in let qf : (all_meant w (meant w start m).1 (AndMade o ms)).1 ≤ (meant w start m).1 + 2 * h.1 = q.fresh in
        let l : h.0 + h.1 ≤ n = h.4 in
        record { weight = omega arith; height = omega arith; more = omega arith; fresh = omega arith }

    pub all_bounded : (b c : Bool) (n start : ℕ) (l : MadeList) → AreMade s b c n l → AreBounded n start (all_meant w start l)
    all_bounded b c n start NoMade h = record { weight = omega arith; height = omega arith; more = omega arith; fresh = omega arith }
    all_bounded b c n start (AndMade m ms) h =
        let r = meant_bounded b c h.0 start m h.2 in
        let q = all_bounded b c h.1 (meant w start m).1 ms h.3 in
        let rw0 : statement_weight (meant w start m).0 ≤ 9 * h.0 = r.weight in let rh : statement_height (meant w start m).0 ≤ h.0 + 1 = r.height in let rm : start ≤ (meant w start m).1 = r.more in let rf : (meant w start m).1 ≤ start + 2 * h.0 = r.fresh in
        let qw : statements_weight (all_meant w (meant w start m).1 ms).0 ≤ 9 * h.1 = q.weight in let qh : statements_height (all_meant w (meant w start m).1 ms).0 ≤ h.1 + 1 = q.height in let qm : (meant w start m).1 ≤ (all_meant w (meant w start m).1 ms).1 = q.more in let qf : (all_meant w (meant w start m).1 ms).1 ≤ (meant w start m).1 + 2 * h.1 = q.fresh in
        let l : h.0 + h.1 ≤ n = h.4 in
        record { weight = omega arith; height = omega arith; more = omega arith; fresh = omega arith }

    pub groups_bounded : (c : Bool) (n start from : ℕ) (gs : MadeGroups) → AreGroupsMade s c n gs → AreGroupsBounded n start (groups_meant w start from gs)
    groups_bounded c n start from NoGroups h = record { weight = omega arith; height = omega arith; more = omega arith; fresh = omega arith }
    groups_bounded c n start from (AndGroup numbers d l gs) h =
        let r = all_bounded true c h.0 start l h.2 in
        let q = groups_bounded c h.1 (all_meant w start l).1 (from + count_statements (all_meant w start l).0) gs h.3 in
        group_bounded n h.0 h.1 start numbers d from (all_meant w start l) (groups_meant w (all_meant w start l).1 (from + count_statements (all_meant w start l).0) gs) r q h.4
