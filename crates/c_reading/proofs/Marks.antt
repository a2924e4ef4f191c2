-- The marks above what stands in a frame, and the nesting of the deepest token before it, are those of the context, up to 255.
use Rattle.std.proofs.Common.{◌≡◌, ℕ, ◌≤◌, List, ◌∷◌, suc, max, refl, sym, ◌∙◌, ap, arith}
use Rattle.c_reading.proofs.Heights.{cap, highest, Nesting, IsTall, IsSolid, Tall, Solid, tall, one, seq, before, behind, before', behind', between, between', tall_as, zero_max, expr_solid, arguments_tall, specs_tall, declarator_solid, inner_solid, inits_tall, declaration_tall, optional_tall, for_first_tall, labels_tall, stmt_solid, items_tall, groups_tall}
use Rattle.c_reading.proofs.Erase.{specs_part, decl_part, decl_of, items_part, groups_part, file_part, statement_stack, items_stack, groups_stack, label_stack, declaration_stack, initializer_stack, statement_hole_stack}
use Rattle.c_reading.specs.Parts.{deeper, over, ItemsPart}
use Rattle.c_reading.specs.Frames.{Nest, below_mark, beside, nest_of}
use Rattle.c_grammar.specs.Derivations.{Specifiers, Declarator, File, empty_file, external_declaration, function_definition}
use Rattle.c_grammar.specs.Nesting.{specifiers_nest, inner_nest, declaration_nest, items_nest, file_nest}
use Rattle.c_grammar.proofs.Nests.{statement_depth, items_depth, groups_depth, label_depth, declaration_depth, initializer_depth, statement_hole_depth, statement_nests, items_nests, groups_nests, label_nests, declaration_nests, initializer_nests, statement_hole_nests}
use Rattle.c_grammar.specs.Contexts.{StatementContext, then_of, else_of, while_body, do_body, for_body, item_of, ItemsContext, block_of, function_body, group_of, GroupsContext, switch_of, LabelContext, new_group, another_label, DeclarationContext, in_file, in_items, in_for_head, InitializerContext, initializer_of, StatementHole, of_statement, of_return, of_if, of_while, of_do, of_switch, of_for_first, of_for_test, of_for_step, of_case, of_initializer, of_list}
use Rattle.c_grammar.specs.Tokens.{Place}

-- what was read before: the nesting of its deepest token, and the marks above what follows
pub record IsRead (F : List ℕ → List ℕ) (depth : ℕ) (n : Nest) (r : List ℕ) : Type 0 where
  pub most : ℕ
  pub whole : highest (F r) ≡ max most (highest r)
  pub deepest_is : cap most ≡ n.deepest
  pub depth_is : cap depth ≡ n.depth

-- the same where a token before stands below those marks
pub record IsCovered (F : List ℕ → List ℕ) (depth : ℕ) (n : Nest) (r : List ℕ) : Type 0 where
  pub most : ℕ
  pub whole : highest (F r) ≡ max most (highest r)
  pub deepest_is : cap most ≡ n.deepest
  pub depth_is : cap depth ≡ n.depth
  pub some : depth ≤ most

abbrev pub Reads : (List ℕ → List ℕ) → ℕ → Nest → Type 0
Reads F d n = (r : List ℕ) → IsRead F d n r

abbrev pub Covers : (List ℕ → List ℕ) → ℕ → Nest → Type 0
Covers F d n = (r : List ℕ) → IsCovered F d n r

pub reads : (F : List ℕ → List ℕ) (d : ℕ) (n : Nest) → Covers F d n → Reads F d n
reads F d n c r = record { most = (c r).most; whole = (c r).whole; deepest_is = (c r).deepest_is; depth_is = (c r).depth_is }

-- what stands below one mark more
pub mark_on : (F : List ℕ → List ℕ) (d : ℕ) (b : Nest) (G : Nesting) (h : ℕ) → Reads F d b → Solid G h → Covers (λ r. F (G (suc d) r)) (suc d) (below_mark b h)
mark_on F d b G h f g r = record {
  most = max (f (G (suc d) r)).most (g (suc d) r).most;
  whole = let x = (f (G (suc d) r)).whole in let y = (g (suc d) r).whole in omega arith;
  deepest_is =
      let x = (f (G (suc d) r)).deepest_is in let y = (g (suc d) r).height_is in let z = (f (G (suc d) r)).depth_is in
      let e : over (deeper b.depth) h ≡ over (suc d) h = omega arith in
      let w : cap (max (f (G (suc d) r)).most (g (suc d) r).most) ≡ max (cap (f (G (suc d) r)).most) (cap (g (suc d) r).most) = omega arith in cc;
  depth_is = let z = (f (G (suc d) r)).depth_is in omega arith;
  some = let y = (g (suc d) r).some in omega arith;
}

-- what stands beside
pub beside_on : (F : List ℕ → List ℕ) (d : ℕ) (b : Nest) (G : Nesting) (h : ℕ) → Covers F d b → Tall G h → Covers (λ r. F (G d r)) d (beside b h)
beside_on F d b G h f g r = record {
  most = max (f (G d r)).most (g d r).most;
  whole = let x = (f (G d r)).whole in let y = (g d r).whole in omega arith;
  deepest_is =
      let x = (f (G d r)).deepest_is in let y = (g d r).height_is in let z = (f (G d r)).depth_is in let s = (f (G d r)).some in
      let e : over b.depth h ≡ over d h = omega arith in
      let w : cap (max (f (G d r)).most (g d r).most) ≡ max (cap (f (G d r)).most) (cap (max d (g d r).most)) = omega arith in cc;
  depth_is = (f (G d r)).depth_is;
  some = let s = (f (G d r)).some in omega arith;
}

-- one token beside
pub token_on : (F : List ℕ → List ℕ) (d : ℕ) (n : Nest) → Covers F d n → Covers (λ r. F (d ∷ r)) d n
token_on F d n f r = record {
  most = (f (d ∷ r)).most;
  whole = let x = (f (d ∷ r)).whole in let s = (f (d ∷ r)).some in omega arith;
  deepest_is = (f (d ∷ r)).deepest_is;
  depth_is = (f (d ∷ r)).depth_is;
  some = (f (d ∷ r)).some;
}

-- with other marks that are the same
pub covers_as : (F : List ℕ → List ℕ) (d : ℕ) (n n' : Nest) → n.deepest ≡ n'.deepest → n.depth ≡ n'.depth → Covers F d n → Covers F d n'
covers_as F d n n' e g f r = record {
  most = (f r).most;
  whole = (f r).whole;
  deepest_is = (f r).deepest_is ∙ e;
  depth_is = (f r).depth_is ∙ g;
  some = (f r).some;
}

-- ## Files

pub record IsFileRead (f : File) (r : List ℕ) : Type 0 where
  pub most : ℕ
  pub whole : highest (file_nest f r) ≡ max most (highest r)
  pub deepest_is : cap most ≡ (file_part f).deepest

over_zero : (m h : ℕ) → cap (max 0 m) ≡ over 0 h → cap m ≡ over 0 h
over_zero m h e = omega arith

pub file_reads : (f : File) (r : List ℕ) → IsFileRead f r
file_reads empty_file r = record { most = 0; whole = omega arith; deepest_is = refl }
file_reads (external_declaration f d) r =
    let i : IsFileRead f (declaration_nest d 0 r) = file_reads f (declaration_nest d 0 r) in
    let t : IsTall (λ n s. declaration_nest d n s) (decl_of d).height 0 r = declaration_tall d 0 r in
    record {
      most = max i.most t.most;
      whole = let x = i.whole in let y = t.whole in omega arith;
      deepest_is =
          let x = i.deepest_is in let y = over_zero t.most (decl_of d).height t.height_is in
          let w : cap (max i.most t.most) ≡ max (cap i.most) (cap t.most) = omega arith in cc;
    }
file_reads (function_definition f s d p is q) r =
    let I : List ℕ = 1 ∷ items_nest is 1 (1 ∷ r) in
    let D : List ℕ = inner_nest d 0 I in
    let i : IsFileRead f (specifiers_nest s 0 D) = file_reads f (specifiers_nest s 0 D) in
    let a : IsTall (λ n s'. specifiers_nest s n s') (specs_part s).height 0 D = specs_tall s 0 D in
    let b : IsSolid (λ n s'. inner_nest d n s') (decl_part d).inner 0 I = inner_solid d 0 I in
    let c : IsSolid (λ n s'. n ∷ items_nest is n (n ∷ s')) (items_part is).height 1 r = before' _ _ (behind _ _ (items_tall is)) 1 r in
    record {
      most = max i.most (max a.most (max b.most c.most));
      whole = let x = i.whole in let y = a.whole in let z = b.whole in let w = c.whole in omega arith;
      deepest_is =
          let x = i.deepest_is in let y = over_zero a.most (specs_part s).height a.height_is in let z = b.height_is in let w = c.height_is in
          let v : cap (max i.most (max a.most (max b.most c.most))) ≡ max (cap i.most) (max (cap a.most) (max (cap b.most) (cap c.most))) = four i.most a.most b.most c.most in cc;
    }
  where
    two : (x y : ℕ) → cap (max x y) ≡ max (cap x) (cap y)
    two x y = omega arith

    four : (x y z w : ℕ) → cap (max x (max y (max z w))) ≡ max (cap x) (max (cap y) (max (cap z) (cap w)))
    four x y z w = two x (max y (max z w)) ∙ ap (λ v. max (cap x) v) (two y (max z w) ∙ ap (λ v. max (cap y) v) (two z w))

-- ## Statements

function_body_reads : (f : File) (s : Specifiers) (d : Declarator) (p : Place) (is : ItemsPart) (F : Nesting) → Tall F is.height
    → Covers (λ r. items_nests (function_body f s d p) (F 1 r)) 1 (nest_of (items_stack is (function_body f s d p)))
function_body_reads f s d p is F g r =
    let I : List ℕ = 1 ∷ F 1 r in
    let D : List ℕ = inner_nest d 0 I in
    let i : IsFileRead f (specifiers_nest s 0 D) = file_reads f (specifiers_nest s 0 D) in
    let a : IsTall (λ n s'. specifiers_nest s n s') (specs_part s).height 0 D = specs_tall s 0 D in
    let b : IsSolid (λ n s'. inner_nest d n s') (decl_part d).inner 0 I = inner_solid d 0 I in
    let c : IsSolid (λ n s'. n ∷ F n s') is.height 1 r = before F is.height g 1 r in
    record {
      most = max i.most (max a.most (max b.most c.most));
      whole = let x = i.whole in let y = a.whole in let z = b.whole in let w = c.whole in omega arith;
      deepest_is =
          let x = i.deepest_is in let y = over_zero a.most (specs_part s).height a.height_is in let z = b.height_is in let w = c.height_is in
          let v : cap (max i.most (max a.most (max b.most c.most))) ≡ max (cap i.most) (max (cap a.most) (max (cap b.most) (cap c.most))) = four i.most a.most b.most c.most in cc;
      depth_is = refl;
      some = let w = c.some in omega arith;
    }
  where
    two : (x y : ℕ) → cap (max x y) ≡ max (cap x) (cap y)
    two x y = omega arith

    four : (x y z w : ℕ) → cap (max x (max y (max z w))) ≡ max (cap x) (max (cap y) (max (cap z) (cap w)))
    four x y z w = two x (max y (max z w)) ∙ ap (λ v. max (cap x) v) (two y (max z w) ∙ ap (λ v. max (cap y) v) (two z w))

mutual
  pub statement_reads : (k : StatementContext) → Reads (λ r. statement_nests k r) (statement_depth k) (nest_of (statement_stack k))
  statement_reads (then_of p q e l k) = reads _ _ _ (mark_on _ _ _ _ _ (statement_reads k) (before' _ _ (before' _ _ (behind' _ _ (expr_solid e)))))
  statement_reads (else_of p q e l a m k) = reads _ _ _ (mark_on _ _ _ _ _ (statement_reads k) (before' _ _ (before' _ _ (between' _ _ _ _ (expr_solid e) (behind' _ _ (stmt_solid a))))))
  statement_reads (while_body p q e l k) = reads _ _ _ (mark_on _ _ _ _ _ (statement_reads k) (before' _ _ (before' _ _ (behind' _ _ (expr_solid e)))))
  statement_reads (do_body p k) = reads _ _ _ (mark_on _ _ _ _ _ (statement_reads k) one)
  statement_reads (for_body p q f c m u l k) =
      reads _ _ _ (mark_on _ _ _ _ _ (statement_reads k) (before' _ _ (before _ _ (seq _ _ _ _ (for_first_tall f) (tall _ _ (between _ _ _ _ (optional_tall c) (tall _ _ (behind _ _ (optional_tall u)))))))))
  statement_reads (item_of is k) = reads _ _ _ (items_reads k (items_part is) (λ n r. items_nest is n r) (items_tall is))

  pub items_reads : (k : ItemsContext) (is : ItemsPart) (F : Nesting) → Tall F is.height → Covers (λ r. items_nests k (F (items_depth k) r)) (items_depth k) (nest_of (items_stack is k))
  items_reads (block_of p k) is F f = mark_on _ _ _ _ _ (statement_reads k) (before F _ f)
  items_reads (function_body f s d p) is F g = function_body_reads f s d p is F g
  items_reads (group_of gs ls k) is F f = beside_on _ _ _ _ _ (groups_reads k) (seq _ _ _ _ (groups_tall gs) (seq _ F _ _ (labels_tall ls) f))

  pub groups_reads : (k : GroupsContext) → Covers (λ r. groups_nests k r) (groups_depth k) (nest_of (groups_stack k))
  groups_reads (switch_of p q e l m k) = mark_on _ _ _ _ _ (statement_reads k) (before' _ _ (before' _ _ (behind' _ _ (behind' _ _ (expr_solid e)))))

pub label_reads : (k : LabelContext) → Covers (λ r. label_nests k r) (label_depth k) (nest_of (label_stack k))
label_reads (new_group gs k) = beside_on _ _ _ _ _ (groups_reads k) (tall_as _ _ _ (sym (zero_max (groups_part gs).height)) (groups_tall gs))
label_reads (another_label gs ls k) = beside_on _ _ _ _ _ (groups_reads k) (seq _ _ _ _ (groups_tall gs) (labels_tall ls))

pub declaration_reads : (k : DeclarationContext) → Covers (λ r. declaration_nests k r) (declaration_depth k) (nest_of (declaration_stack k))
declaration_reads (in_file f) r = let i : IsFileRead f r = file_reads f r in record { most = i.most; whole = i.whole; deepest_is = i.deepest_is; depth_is = refl; some = omega arith }
declaration_reads (in_items is k) r = items_reads k (items_part is) (λ n r. items_nest is n r) (items_tall is) r
declaration_reads (in_for_head p q k) r = mark_on _ _ _ _ _ (statement_reads k) (before' _ _ one) r

pub initializer_reads : (k : InitializerContext) → Covers (λ r. initializer_nests k r) (initializer_depth k) (nest_of (initializer_stack k))
initializer_reads (initializer_of s ds d p k) = beside_on _ _ _ _ _ (declaration_reads k) (seq _ _ _ _ (specs_tall s) (seq _ _ _ _ (inits_tall ds) (tall _ _ (behind' _ _ (declarator_solid d)))))

pub statement_hole_reads : (h : StatementHole) → Reads (λ r. statement_hole_nests h r) (statement_hole_depth h) (nest_of (statement_hole_stack h))
statement_hole_reads (of_statement k) r =
    let i : IsRead (λ s. statement_nests k s) (statement_depth k) (nest_of (statement_stack k)) r = statement_reads k r in
    record { most = i.most; whole = i.whole; deepest_is = i.deepest_is; depth_is = let x = i.depth_is in omega arith }
statement_hole_reads (of_return p k) r = reads _ _ _ (mark_on _ _ _ _ _ (statement_reads k) one) r
statement_hole_reads (of_if p q k) r = reads _ _ _ (mark_on _ _ _ _ _ (statement_reads k) (before' _ _ one)) r
statement_hole_reads (of_while p q k) r = reads _ _ _ (mark_on _ _ _ _ _ (statement_reads k) (before' _ _ one)) r
statement_hole_reads (of_do p s w q k) r = reads _ _ _ (mark_on _ _ _ _ _ (statement_reads k) (before' _ _ (behind' _ _ (behind' _ _ (stmt_solid s))))) r
statement_hole_reads (of_switch p q k) r = reads _ _ _ (mark_on _ _ _ _ _ (statement_reads k) (before' _ _ one)) r
statement_hole_reads (of_for_first p q k) r = reads _ _ _ (mark_on _ _ _ _ _ (statement_reads k) (before' _ _ one)) r
statement_hole_reads (of_for_test p q f k) r = reads _ _ _ (mark_on _ _ _ _ _ (statement_reads k) (before' _ _ (before _ _ (for_first_tall f)))) r
statement_hole_reads (of_for_step p q f c m k) r =
    reads _ _ _ (mark_on _ _ _ _ _ (statement_reads k) (before' _ _ (before _ _ (seq _ _ _ _ (for_first_tall f) (tall _ _ (behind _ _ (optional_tall c))))))) r
statement_hole_reads (of_case k p) r = reads _ _ _ (beside_on _ _ _ _ _ (label_reads k) (tall _ _ one)) r
statement_hole_reads (of_initializer k) r = reads _ _ _ (initializer_reads k) r
statement_hole_reads (of_list k p xs) r = reads _ _ _ (mark_on _ _ _ _ _ (reads _ _ _ (initializer_reads k)) (before _ _ (arguments_tall xs))) r
