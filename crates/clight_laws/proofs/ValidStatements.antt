-- Expressions and statements of a function name only what its program and itself have.
use Rattle.std.proofs.Common.{◌≡◌, ℕ, ◌+◌, ◌<◌, ◌≤◌, Bool, true, false, cond, List, [], ◌∷◌, map, length, Option, Some, None, refl, sym, ap, ◌∙◌, subst, inl, inr, arith}
use Rattle.std.specs.Prelude.{All}
use Rattle.c_grammar.specs.Tokens as k
use Rattle.tso_words.specs.declared.value.Chunk.{Chunk}
use Rattle.tso_words.specs.declared.operator.Op.{Op}
use Rattle.clight_lang.specs.Syntax.{Expression, Const, Temp, LocalAddr, GlobalAddr, Read, Unary, Binary, AndAlso, OrElse, Choose, Statement, Statements, Nil, Cons}
use Rattle.clight_lang.specs.State.{FunctionOf}
use Rattle.clight_lang.specs.Meaning.{ProgramOf}
use Rattle.clight_lang.specs.WellMade.{expression_weight, expressions_weight, result_weight, numbers_in, statement_weight, statements_weight, expression_height, heights_above, statement_height, statements_height}
use Rattle.clight_types.specs.declared.kind.Value.{Value}
use Rattle.clight_types.specs.declared.kind.Value.TheVariants as v
use Rattle.clight_types.specs.WordOperators.{value_chunk, integer_cast}
use Rattle.clight_scopes.specs.Scopes.{Scene}
use Rattle.clight_operands.specs.Applied.{cast_by, converted, is_integer, applied}
use Rattle.clight_operands.specs.Operands.{Callee, Inside, Outside, Provided, FromValue, FromCall, Deed, NoDeed, CallDeed, AssignDeed, UpdateDeed}
use Rattle.clight_typing.specs.Statements.{Made, NothingMade, EvaluatedMade, DeedMade, BlockMade, BranchMade, WhileMade, DoMade, ForMade, SwitchMade, BreakMade, ContinueMade, ReturnMade, ReturnCallMade, MadeList, NoMade, AndMade, MadeGroups, NoGroups, AndGroup}
use Rattle.clight_placing.specs.Placing.{Location, InTemp, InMemory, Inner, address_at, read_at, placed, call_into, temp_at, temp_of, assigned, updated_value, updated, deed_meant, tested, count_statements, both, meant, all_meant, groups_meant}
use Rattle.clight_laws.proofs.Expressions.{IsValid}
use Rattle.clight_laws.proofs.Deeds.{AreValid, IsCall, IsDeed}
use Rattle.clight_laws.proofs.Made.{IsEffect, IsCondition, IsMade, IsFirstMade, AreMade, AreGroupsMade, deed_extra}
use Rattle.std.proofs.lemmas.List.Elements.{All-cons, All-nil}
use Rattle.clight_lang.specs.WellMade as made
use Rattle.clight_lang.specs.WellMade.{IsDefined, IsExpression, IsStatement, AreStatements, IsResult, AreGroups, all_numbers, default_count}
use Rattle.clight_laws.proofs.Deeds.{Takes}
use Rattle.clight_laws.proofs.Meant.{length_mapped}
use Rattle.clight_laws.proofs.Bounds.{applied_built}
use Rattle.clight_laws.proofs.MeantBounds.{meant_bounded, all_bounded, groups_bounded}
use Rattle.clight_laws.proofs.Bounds.{effect_bounded}
use Rattle.clight_laws.proofs.Listed.{IsCalleeListed, IsDeedListed, IsMadeListed, AreMadeListed, AreGroupsListed}
use Rattle.clight_laws.proofs.Deeds.{IsCallee}
use Rattle.clight_laws.proofs.Valid.{IsPlaced, Fits, groups_valid}

module _ (s : Scene) (w : Inner) (p : ProgramOf) (f : FunctionOf) (L : ℕ → Type 0) (fits : Fits s w p f L) where
  address_valid : (l : Location) → IsPlaced f l → IsExpression p f (address_at l)
  address_valid (InTemp t) h = h
  address_valid (InMemory m) h = h

  read_valid : (c : Chunk) (l : Location) → IsPlaced f l → IsExpression p f (read_at c l)
  read_valid c (InTemp t) h = h
  read_valid c (InMemory m) h = h

  pub placed_valid : (e : Expression) → IsValid s e → IsExpression p f (placed w e)
  placed_valid (Const n) h = tt
  placed_valid (Temp i) h = absurd h
  placed_valid (LocalAddr n) h = address_valid (w.location n) (fits.places n h)
  placed_valid (GlobalAddr x) h = fits.named x h
  placed_valid (Read c (LocalAddr n)) h = read_valid c (w.location n) (fits.places n h)
  placed_valid (Read c (Const n)) h = tt
  placed_valid (Read c (Temp i)) h = absurd h
  placed_valid (Read c (GlobalAddr x)) h = fits.named x h
  placed_valid (Read c (Read d a)) h = placed_valid (Read d a) h
  placed_valid (Read c (Unary o a)) h = placed_valid (Unary o a) h
  placed_valid (Read c (Binary o a b)) h = placed_valid (Binary o a b) h
  placed_valid (Read c (AndAlso a b)) h = placed_valid (AndAlso a b) h
  placed_valid (Read c (OrElse a b)) h = placed_valid (OrElse a b) h
  placed_valid (Read c (Choose d a b)) h = placed_valid (Choose d a b) h
  placed_valid (Unary o a) h = placed_valid a h
  placed_valid (Binary o a b) h = (placed_valid a h.0, placed_valid b h.1)
  placed_valid (AndAlso a b) h = (placed_valid a h.0, placed_valid b h.1)
  placed_valid (OrElse a b) h = (placed_valid a h.0, placed_valid b h.1)
  placed_valid (Choose c a b) h = (placed_valid c h.0, (placed_valid a h.1.0, placed_valid b h.1.1))

  all_valid : (es : List Expression) → AreValid s es → All (IsExpression p f) (map (placed w) es)
  all_valid [] h = All-nil (IsExpression p f)
  all_valid (e ∷ es) h = All-cons (IsExpression p f) (placed w e) (map (placed w) es) (placed_valid e h.0) (all_valid es h.1)

  converted_valid : (from to : Value) (e : Expression) → IsExpression p f e → IsExpression p f (converted from to e)
  converted_valid from (v.Integer j) e h = by (is_integer j from) (integer_cast j)
    where
      by : (b : Bool) (o : Option Op) → IsExpression p f (cond b e (cast_by o e))
      by true o = h
      by false None = h
      by false (Some o) = h
  converted_valid from (v.Pointer t) e h = h
  converted_valid from v.Struct e h = h
  converted_valid from v.Void e h = h

  -- ## Calls and deeds

  call_valid : (b c : Bool) (t n : ℕ) (g : Callee) (args : List Expression) → IsCall s n g args → IsCalleeListed L g → t < f.temps → n ≤ f.room.nodes → IsStatement p f b c (call_into w t g args)
  call_valid b c t n g args h l q r = by g h.callee l
    where
      many : length (map (placed w) args) ≡ length args
      many = length_mapped (placed w) args

      few : length (map (placed w) args) ≤ f.room.nodes
      few = (let e : length (map (placed w) args) ≡ length args = many in let a : length args ≤ h.nodes = h.arguments.few in let d : h.nodes + 2 ≤ n = h.few in omega arith)

      arguments : (t : ℕ) → L t → Takes s.types t (length args) → made.AreArguments p f (w.type_number t) (map (placed w) args)
      arguments t l k = record { typed = fits.typed t (length args) l k ∙ ap Some (sym many); few = few; each = all_valid args h.arguments.valid }

      by : (g : Callee) → IsCallee s (length args) g → IsCalleeListed L g → IsStatement p f b c (call_into w t g args)
      by (Inside type e) k l = (q, (placed_valid e k.0, arguments type l k.1))
      by (Outside name type) k l = (q, (fits.externals name type l k.0 k.1, arguments type l k.2))
      by (Provided b0) k l = (q, (many ∙ k, all_valid args h.arguments.valid))

  -- the temporary that a place is
  temp_placed : (a : Expression) → IsValid s a → (x : ℕ) → temp_of w a ≡ Some x → x < f.temps
  temp_placed (LocalAddr n) h x e = by (w.location n) (fits.places n h) e
    where
      some_same : (a b : ℕ) → Some a ≡ Some b → a ≡ b
      some_same a b e = cc

      by : (l : Location) → IsPlaced f l → temp_at l ≡ Some x → x < f.temps
      by (InTemp t) g e = subst (λ y. y < f.temps) (some_same t x e) g
      by (InMemory m) g e = cc
  temp_placed (Const n) h x e = cc
  temp_placed (Temp i) h x e = cc
  temp_placed (GlobalAddr y) h x e = cc
  temp_placed (Read c a) h x e = cc
  temp_placed (Unary o a) h x e = cc
  temp_placed (Binary o a b) h x e = cc
  temp_placed (AndAlso a b) h x e = cc
  temp_placed (OrElse a b) h x e = cc
  temp_placed (Choose c a b) h x e = cc

  updated_valid : (to : Value) (o : k.Operator) (other : Value) (e : Expression) (given : Value) (old : Expression) → IsValid s e → IsExpression p f old → IsExpression p f (updated_value w to o other e given old)
  updated_valid to o other e given old h g =
      let b = applied_built (IsExpression p f) (λ o x y p q. (p, q)) (λ x y p q. (p, q)) (λ x y p q. (p, q)) (λ n. tt) w.types old (placed w e) g (placed_valid e h) o to other in
      converted_valid given to (applied w.types o to other old (placed w e)) b.holds

  value_assigned : (b c : Bool) (start : ℕ) (o : Option ℕ) (a : Expression) (to : Value) (e : Expression) → ((x : ℕ) → o ≡ Some x → x < f.temps) → IsValid s a → IsValid s e → IsStatement p f b c (assigned w start o a to (FromValue e)).0
  value_assigned b c start (Some x) a to e t ha he = (t x refl, placed_valid e he)
  value_assigned b c start None a to e t ha he = (placed_valid a ha, placed_valid e he)

  call_assigned : (b c : Bool) (start n : ℕ) (o : Option ℕ) (a : Expression) (to : Value) (g : Callee) (args : List Expression) (x : Value) → ((x : ℕ) → o ≡ Some x → x < f.temps) → IsValid s a → IsCall s n g args → IsCalleeListed L g → n ≤ f.room.nodes → (assigned w start o a to (FromCall g args x)).1 ≤ f.temps → IsStatement p f b c (assigned w start o a to (FromCall g args x)).0
  call_assigned b c start n (Some y) a to g args x t ha h l q m =
      let u : start < f.temps = omega arith in
      (call_valid b c start n g args h l u q, ((t y refl, converted_valid x to (Temp start) u), tt))
  call_assigned b c start n None a to g args x t ha h l q m =
      let u : start < f.temps = omega arith in let v1 : start + 1 < f.temps = omega arith in
      ((u, placed_valid a ha), (call_valid b c (start + 1) n g args h l v1 q, ((u, converted_valid x to (Temp (start + 1)) v1), tt)))

  update_valid : (b c : Bool) (start : ℕ) (o : Option ℕ) (a : Expression) (to : Value) (q : k.Operator) (other : Value) (e : Expression) (given : Value) → ((x : ℕ) → o ≡ Some x → x < f.temps) → IsValid s a → IsValid s e → (updated w start o a to q other e given).1 ≤ f.temps → IsStatement p f b c (updated w start o a to q other e given).0
  update_valid b c start (Some x) a to q other e given t ha he m = (t x refl, updated_valid to q other e given (Temp x) he (t x refl))
  update_valid b c start None a to q other e given t ha he m =
      let u : start < f.temps = omega arith in
      ((u, placed_valid a ha), ((u, updated_valid to q other e given (Read (value_chunk to) (Temp start)) he u), tt))

  deed_valid : (b c : Bool) (start n : ℕ) (d : Deed) → IsDeed s n d → IsDeedListed L d → n ≤ f.room.nodes → (deed_meant w start d).1 ≤ f.temps → IsStatement p f b c (deed_meant w start d).0
  deed_valid b c start n NoDeed h l q m = tt
  deed_valid b c start n (CallDeed g args x) h l q m = call_valid b c start n g args h l (omega arith) q
  deed_valid b c start n (AssignDeed a to (FromValue e)) h l q m = value_assigned b c start (temp_of w a) a to e (temp_placed a h.0) h.0 h.1
  deed_valid b c start n (AssignDeed a to (FromCall g args x)) h l q m = call_assigned b c start n (temp_of w a) a to g args x (temp_placed a h.0) h.0 h.1 l q m
  deed_valid b c start n (UpdateDeed a to o other e given) h l q m = update_valid b c start (temp_of w a) a to o other e given (temp_placed a h.0) h.0 h.1 m

  effect_valid : (b c : Bool) (start n : ℕ) (m : Made) → IsEffect s n m → IsMadeListed L m → n ≤ f.room.nodes → (meant w start m).1 ≤ f.temps → IsStatement p f b c (meant w start m).0
  effect_valid b c start n NothingMade h l q m = tt
  effect_valid b c start n (EvaluatedMade e) h l q m = (omega arith, placed_valid e h.valid)
  effect_valid b c start n (DeedMade d) h l q m = deed_valid b c start n d h.0 l q m
  effect_valid b c start n (BlockMade x) h l q m = absurd h
  effect_valid b c start n (BranchMade e x y) h l q m = absurd h
  effect_valid b c start n (WhileMade e x) h l q m = absurd h
  effect_valid b c start n (DoMade x e) h l q m = absurd h
  effect_valid b c start n (ForMade g o u x) h l q m = absurd h
  effect_valid b c start n (SwitchMade e gs) h l q m = absurd h
  effect_valid b c start n BreakMade h l q m = absurd h
  effect_valid b c start n ContinueMade h l q m = absurd h
  effect_valid b c start n (ReturnMade e) h l q m = absurd h
  effect_valid b c start n (ReturnCallMade g args x to) h l q m = absurd h

  -- ## Statements

  both_valid : (b c : Bool) (x y : Statements) → AreStatements p f b c x → AreStatements p f b c y → AreStatements p f b c (both x y)
  both_valid b c Nil y g h = h
  both_valid b c (Cons z x) y g h = (g.0, both_valid b c x y g.1 h)

  tested_valid : (n : ℕ) (o : Option Expression) (x : Statement) → IsCondition s n o → IsStatement p f true true x → IsStatement p f true true (tested w o x)
  tested_valid n None x h g = g
  tested_valid n (Some e) x h g = ((placed_valid e h.valid, (tt, refl)), (g, tt))

  mutual
    pub meant_valid : (b c : Bool) (n start : ℕ) (m : Made) → IsMade s b c n m → IsMadeListed L m → n ≤ f.room.nodes → (meant w start m).1 ≤ f.temps → IsStatement p f b c (meant w start m).0
    meant_valid b c n start NothingMade h l q m = tt
    meant_valid b c n start (EvaluatedMade e) h l q m = (omega arith, placed_valid e h.1.valid)
    meant_valid b c n start (DeedMade d) h l q m = deed_valid b c start h.0 d h.1 l (let u : h.0 + deed_extra d ≤ n = h.3 in omega arith) m
    meant_valid b c n start (BlockMade x) h l q m = all_of_valid b c h.0 start x h.1 l (let u : h.0 + 1 ≤ n = h.2 in omega arith) m
    meant_valid b c n start (BranchMade e x y) h l q m =
        let u : h.1 + h.2 ≤ n = h.7 in
        let more : (meant w start x).1 ≤ (meant w (meant w start x).1 y).1 = (meant_bounded s w b c h.2 (meant w start x).1 y h.5).more in
        (placed_valid e h.3.valid, (meant_valid b c h.1 start x h.4 l.0 (omega arith) (omega arith), meant_valid b c h.2 (meant w start x).1 y h.5 l.1 (omega arith) m))
    meant_valid b c n start (WhileMade e x) h l q m =
        let u : h.0 + h.1 + 1 ≤ n = h.4 in
        (((placed_valid e h.2.valid, (tt, refl)), (meant_valid true true h.1 start x h.3 l (omega arith) m, tt)), tt)
    meant_valid b c n start (DoMade x e) h l q m =
        let u : h.0 + h.1 + 1 ≤ n = h.4 in
        (meant_valid true true h.1 start x h.3 l (omega arith) m, (placed_valid e h.2.valid, (tt, refl)))
    meant_valid b c n start (ForMade g o u x) h l q m =
        let z : h.0 + h.1 + h.2 + h.3 + 1 ≤ n = h.8 in
        let m1 : (all_meant w start g).1 ≤ (meant w (all_meant w start g).1 u).1 = (effect_bounded s w (all_meant w start g).1 h.2 u h.6).more in
        let m2 : (meant w (all_meant w start g).1 u).1 ≤ (meant w (meant w (all_meant w start g).1 u).1 x).1 = (meant_bounded s w true true h.3 (meant w (all_meant w start g).1 u).1 x h.7).more in
        both_valid b c (all_meant w start g).0 _ (first_valid b c h.0 start g h.4 l.0 (omega arith) (omega arith)) (
          (
            tested_valid h.1 o (meant w (meant w (all_meant w start g).1 u).1 x).0 h.5 (meant_valid true true h.3 (meant w (all_meant w start g).1 u).1 x h.7 l.1.1 (omega arith) m),
            effect_valid true false (all_meant w start g).1 h.2 u h.6 l.1.0 (omega arith) (omega arith),
          ),
          tt,
        )
    meant_valid b c n start (SwitchMade e gs) h l q m =
        let u : h.0 + h.1 + 1 ≤ n = h.6 in
        (placed_valid e h.2.valid, (groups_valid w start gs h.4 h.5, all_groups_valid c h.1 start 0 gs h.3 l (omega arith) m))
    meant_valid b c n start BreakMade h l q m = h.0
    meant_valid b c n start ContinueMade h l q m = h.0
    meant_valid b c n start (ReturnMade None) h l q m = tt
    meant_valid b c n start (ReturnMade (Some e)) h l q m = placed_valid e h.1.valid
    meant_valid b c n start (ReturnCallMade g args x to) h l q m =
        let u : h.0 + 1 ≤ n = h.2 in let t : start < f.temps = omega arith in
        (call_valid b c start h.0 g args h.1 l t (omega arith), (converted_valid x to (Temp start) t, tt))

    first_valid : (b c : Bool) (n start : ℕ) (x : MadeList) → IsFirstMade s b c n x → AreMadeListed L x → n ≤ f.room.nodes → (all_meant w start x).1 ≤ f.temps → AreStatements p f b c (all_meant w start x).0
    first_valid b c n start NoMade h l q m = tt
    first_valid b c n start (AndMade x NoMade) (inl h) l q m = (effect_valid b c start n x h l.0 q m, tt)
    first_valid b c n start (AndMade x NoMade) (inr h) l q m = (meant_valid b c n start x h l.0 q m, tt)
    first_valid b c n start (AndMade x (AndMade o ms)) h l q m =
        let u : h.0 + h.1 ≤ n = h.4 in
        let more : (meant w start x).1 ≤ (all_meant w (meant w start x).1 (AndMade o ms)).1 = (all_bounded s w b c h.1 (meant w start x).1 (AndMade o ms) h.3).more in
        (meant_valid b c h.0 start x h.2 l.0 (omega arith) (omega arith), all_of_valid b c h.1 (meant w start x).1 (AndMade o ms) h.3 l.1 (omega arith) m)

    pub all_of_valid : (b c : Bool) (n start : ℕ) (x : MadeList) → AreMade s b c n x → AreMadeListed L x → n ≤ f.room.nodes → (all_meant w start x).1 ≤ f.temps → AreStatements p f b c (all_meant w start x).0
    all_of_valid b c n start NoMade h l q m = tt
    all_of_valid b c n start (AndMade x ms) h l q m =
        let u : h.0 + h.1 ≤ n = h.4 in
        let more : (meant w start x).1 ≤ (all_meant w (meant w start x).1 ms).1 = (all_bounded s w b c h.1 (meant w start x).1 ms h.3).more in
        (meant_valid b c h.0 start x h.2 l.0 (omega arith) (omega arith), all_of_valid b c h.1 (meant w start x).1 ms h.3 l.1 (omega arith) m)

    all_groups_valid : (c : Bool) (n start from : ℕ) (gs : MadeGroups) → AreGroupsMade s c n gs → AreGroupsListed L gs → n ≤ f.room.nodes → (groups_meant w start from gs).next ≤ f.temps → AreStatements p f true c (groups_meant w start from gs).statements
    all_groups_valid c n start from NoGroups h l q m = tt
    all_groups_valid c n start from (AndGroup numbers d x gs) h l q m =
        let u : length numbers + h.0 + h.1 ≤ n = h.4 in
        let next = from + count_statements (all_meant w start x).0 in
        let more : (all_meant w start x).1 ≤ (groups_meant w (all_meant w start x).1 (from + count_statements (all_meant w start x).0) gs).next = (groups_bounded s w c h.1 (all_meant w start x).1 (from + count_statements (all_meant w start x).0) gs h.3).more in
        both_valid true c (all_meant w start x).0 _ (all_of_valid true c h.0 start x h.2 l.0 (omega arith) (omega arith)) (all_groups_valid c h.1 (all_meant w start x).1 (from + count_statements (all_meant w start x).0) gs h.3 l.1 (omega arith) m)
