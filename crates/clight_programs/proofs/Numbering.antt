-- The function types of one statement, group, name or function more.
use Rattle.std.proofs.Common.{◌≡◌, ℕ, ◌+◌, ◌<◌, ◌≤◌, List, [], ◌∷◌, length, get_or, drop, Option, refl, sym, ap, subst, ◌∙◌}
use Rattle.std.specs.Prelude.{Vec, Box, Result, OnOk}
use Rattle.std.specs.declared.alloc.Global.{Global}
use Rattle.clight_lang.specs.declared.expression.Expr.{Expr}
use Rattle.clight_made.specs.declared.made.Made.TheVariants.{For, Switch}
use Rattle.clight_made.proofs.Shapes.{for_shape, switch_shape}
use Rattle.clight_types.specs.Types.{Spelling}
use Rattle.clight_scopes.specs.declared.scene.FileName as N
use Rattle.clight_scopes.specs.SceneOf.{entity_of, file_of}
use Rattle.clight_made.specs.declared.made.Made.{Made}
use Rattle.clight_made.specs.declared.made.MadeGroup.{MadeGroup}
use Rattle.clight_made.specs.MadeOf.{made_of, made_list, made_groups}
use Rattle.clight_files.specs.declared.made.FunctionMade as M
use Rattle.clight_files.specs.FilesOf.{functions_of}
use Rattle.clight_meaning.specs.Meaning.{made_types, list_types, group_types, entity_types, declared_types, body_types}
use Rattle.clight_programs.proofs.Walks.{at_front, past_end}

pub list_next : (now new all : List ℕ) (list : List Made) (i : ℕ) (x : Made) → i < length list → x ≡ get_or list i x → new ≡ made_types now (made_of x) → list_types now (made_list (drop i list)) ≡ all → list_types new (made_list (drop (i + 1) list)) ≡ all
list_next now new all list i x within is step known = ap (λ ts. list_types ts (made_list (drop (i + 1) list))) step ∙ sym (ap (λ l. list_types now (made_list l)) (at_front list i x within is)) ∙ known

pub list_end : (now all : List ℕ) (list : List Made) (i : ℕ) → length list ≤ i → list_types now (made_list (drop i list)) ≡ all → now ≡ all
list_end now all list i past known = sym (ap (λ l. list_types now (made_list l)) (past_end list i past)) ∙ known

pub group_next : (now new all : List ℕ) (list : List MadeGroup) (i : ℕ) (x : MadeGroup) → i < length list → x ≡ get_or list i x → new ≡ list_types now (made_list x.statements.items) → group_types now (made_groups (drop i list)) ≡ all → group_types new (made_groups (drop (i + 1) list)) ≡ all
group_next now new all list i x within is step known = ap (λ ts. group_types ts (made_groups (drop (i + 1) list))) step ∙ sym (ap (λ l. group_types now (made_groups l)) (at_front list i x within is)) ∙ known

pub group_end : (now all : List ℕ) (list : List MadeGroup) (i : ℕ) → length list ≤ i → group_types now (made_groups (drop i list)) ≡ all → now ≡ all
group_end now all list i past known = sym (ap (λ l. group_types now (made_groups l)) (past_end list i past)) ∙ known

pub declared_next : (now new all : List ℕ) (left rest : List (Spelling × N.FileName)) (x : Spelling × N.FileName) → left ≡ x ∷ rest → new ≡ entity_types now (entity_of x.1.entity) → declared_types now (file_of left) ≡ all → declared_types new (file_of rest) ≡ all
declared_next now new all left rest x front step known = ap (λ ts. declared_types ts (file_of rest)) step ∙ sym (ap (λ l. declared_types now (file_of l)) front) ∙ known

pub declared_end : (now all : List ℕ) (left : List (Spelling × N.FileName)) → left ≡ [] → declared_types now (file_of left) ≡ all → now ≡ all
declared_end now all left none known = sym (ap (λ l. declared_types now (file_of l)) none) ∙ known

pub body_next : (now new all : List ℕ) (list : List M.FunctionMade) (i : ℕ) (x : M.FunctionMade) → i < length list → x ≡ get_or list i x → new ≡ list_types now (made_list x.body.items) → body_types now (functions_of (drop i list)) ≡ all → body_types new (functions_of (drop (i + 1) list)) ≡ all
body_next now new all list i x within is step known = ap (λ ts. body_types ts (functions_of (drop (i + 1) list))) step ∙ sym (ap (λ (l : List M.FunctionMade). body_types now (functions_of l)) (at_front list i x within is)) ∙ known

pub body_end : (now all : List ℕ) (list : List M.FunctionMade) (i : ℕ) → length list ≤ i → body_types now (functions_of (drop i list)) ≡ all → now ≡ all
body_end now all list i past known = sym (ap (λ (l : List M.FunctionMade). body_types now (functions_of l)) (past_end list i past)) ∙ known

-- ## Statements that hold lists

pub switch_types : {A : Type 0} {B : Type 0} (r : Result A B) (old new : List ℕ) (m : Made) (e : Expr) (gs : Vec MadeGroup Global) (l : List MadeGroup) → m ≡ Switch e gs → l ≡ gs.items → OnOk r (new ≡ group_types old (made_groups l)) → OnOk r (new ≡ made_types old (made_of m))
switch_types r old new m e gs l is same h =
    subst (λ ts. OnOk r (new ≡ ts))
    (ap (λ k. group_types old (made_groups k)) same ∙ sym (ap (made_types old) (switch_shape e gs)) ∙ sym (ap (λ x. made_types old (made_of x)) is))
    h

pub for_types : {A : Type 0} {B : Type 0} (r : Result A B) (old one two new : List ℕ) (m : Made) (ms : Vec Made Global) (c : Option Expr) (u a : Box Made Global) (l : List Made) (x y : Made) → m ≡ For ms c u a → l ≡ ms.items → x ≡ u.value → y ≡ a.value → one ≡ list_types old (made_list l) → two ≡ made_types one (made_of x) → OnOk r (new ≡ made_types two (made_of y)) → OnOk r (new ≡ made_types old (made_of m))
for_types r old one two new m ms c u a l x y is same update body first second h =
    subst (λ ts. OnOk r (new ≡ ts))
    (ap (λ ts. made_types ts (made_of y)) (second ∙ ap (λ ts. made_types ts (made_of x)) (first ∙ ap (λ k. list_types old (made_list k)) same))
    ∙ ap (λ k. made_types (made_types (list_types old (made_list ms.items)) (made_of k)) (made_of y)) update
    ∙ ap (λ k. made_types (made_types (list_types old (made_list ms.items)) (made_of u.value)) (made_of k)) body
    ∙ sym (ap (made_types old) (for_shape ms c u a)) ∙ sym (ap (λ z. made_types old (made_of z)) is))
    h
